-- What a table's answers pick, over the list of its pairs. Assumes nothing: these are definitions.
use Rattle.std.specs.Prelude.{◌≡◌, List, [], ◌∷◌, true, cond, ℕ, zero, suc, ◌-◌, ◌<◌, ◌≤◌, eqb}
use Rattle.std.proofs.Math.Option.{Option, none}
use Rattle.wire.specs.Numbers.{Bytes}
use Rattle.operation.specs.Operations.{operation_of}
use Rattle.prefix.specs.Prefix.{Scope}
use Rattle.comparing.specs.Compares.{place_in, base_at}
use Rattle.chains.specs.Chains.{name_at, word_at}
use Rattle.pairs.specs.Stored.{Stored, stored}
use Rattle.pairs.specs.Choice.{base_of}
use Rattle.adding.specs.Adds.{Table}
use Rattle.choosing.specs.Chooses.{use_pair}

-- the base of the pair that has a number; 0 is none
abbrev pub numbered : List Stored → ℕ → Option Bytes
numbered ps zero = none
numbered ps (suc i) = base_of ps i

module _ (s : Scope) where
  -- a number picks a base, which there may be, for a name: it is that of a pair with the base, whose name is the same
  pub record Picks (t : Table) (ps : List Stored) (name : Bytes) (base : Option Bytes) (g : ℕ) : Type 0 where
    pub inside : g ≤ t.count
    pub picked : base ≡ numbered ps g
    pub named : 0 < g → (operation_of s.op).same_name (name_at s.card t.words (g - 1)) name ≡ true

  -- the uses that n pairs bring, from the one that i stand ahead of on: a pair's name, with the base of the pair that is picked for it
  unfoldable pub uses_of : List ℕ → ℕ → ℕ → List Stored
  uses_of words i zero = []
  uses_of words i (suc n) =
      let others : List Stored = uses_of words (suc i) n in
      let g : ℕ = use_pair s words (suc i) in
      cond (eqb g 0) others (stored (name_at s.card words i) (base_at s (place_in (word_at words (g - 1)))) ∷ others)
