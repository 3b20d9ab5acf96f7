-- What a table's words say, by its chains: the pair whose base is chosen for a name, and the use that a pair brings. Assumes nothing: these are definitions.
use Rattle.std.specs.Prelude.{◌≡◌, List, true, ◌||◌, cond, ℕ, ◌-◌, ◌<◌, ◌≤◌, eqb, ltb}
use Rattle.wire.specs.Numbers.{Bytes}
use Rattle.prefix.specs.Prefix.{Scope}
use Rattle.comparing.specs.Compares.{place_in, same_base}
use Rattle.chains.specs.declared.Want.TheVariants.{Named, Based, Runtime}
use Rattle.chains.specs.Chains.{room, name_at, number_at, word_at, bucket_of, head_of, next_of, is_wanted, seek}

module _ (s : Scope) (words : List ℕ) where
  -- among several pairs of a name, which has this number, in the chain from pair g on
  unfoldable pub chosen_of_several : Bytes → ℕ → ℕ → ℕ
  chosen_of_several name number g =
      let prefix : ℕ = seek (is_wanted s words name number (Based 0)) words g in
      cond (ltb 0 prefix) prefix (seek (is_wanted s words name number Runtime) words g)

  -- the pair that has the base chosen for a name, which has this number: its only one, else as above
  unfoldable pub chosen_pair : Bytes → ℕ → ℕ
  chosen_pair name number =
      let first : ℕ = head_of words (bucket_of words number) in
      let one : ℕ = seek (is_wanted s words name number Named) words first in
      let two : ℕ = seek (is_wanted s words name number Named) words (next_of words one) in
      cond (eqb one 0) 0 (cond (eqb two 0) one (chosen_of_several name number first))

  -- the pair that has the base of the use that pair g brings; one whose base is place 0, the prefix, brings none, whatever else has its name
  unfoldable pub use_pair : ℕ → ℕ
  use_pair g =
      let name : Bytes = name_at s.card words (g - 1) in
      let number : ℕ = number_at words (g - 1) in
      let chosen : ℕ = chosen_pair name number in
      cond (eqb g 0 || ltb (room words) g) 0
      (cond (eqb (place_in (word_at words (g - 1))) 0) 0
      (cond (ltb 0 (seek (is_wanted s words name number Named) words (next_of words g))) 0
      (cond (eqb chosen 0 || same_base s (word_at words (chosen - 1)) 0) 0 chosen)))

  -- pair g has a name, which has this number, and no pair after it in its chain has it: it is the oldest of the name
  pub record Oldest (name : Bytes) (number g : ℕ) : Type 0 where
    pub first : 0 < g
    pub inside : g ≤ room words
    pub named : is_wanted s words name number Named (g - 1) ≡ true
    pub alone : seek (is_wanted s words name number Named) words (next_of words g) ≡ 0
