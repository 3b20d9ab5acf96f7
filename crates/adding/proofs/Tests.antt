-- Adding a pair, case by case: what the contracts say in each. Assumes nothing.
use mathlib.Core.Path.{◌≡◌, refl, sym, ap, ◌∙◌}
use mathlib.Core.Bool.{or-true}
use mathlib.Core.List.{List}
use Prim.Native.Nat.{ℕ, suc, ◌+◌, ◌-◌, ◌*◌, ◌/◌, ◌%◌, ◌<◌, ◌≤◌}
use native.Mathlib.Omega.{arith}
use native.Mathlib.Numerals.{add-one}
use lib.ListN.{length, take, drop, get_or, set, length-set}
use lib.Dec.{ltb}
use borrow.Author.Tests.{eq-eqb, ne_eqb, lt-ltb, le-ltb}
use Rattle.wire.specs.Numbers.{Bytes}
use Rattle.wire.proofs.Less.{less}
use Rattle.prefix.specs.Prefix.{Scope}
use Rattle.comparing.specs.Compares.{number_of, base_word}
use Rattle.chains.specs.declared.Want.TheVariants.{Based}
use Rattle.chains.specs.Chains.{room, bucket_of, head_of, is_wanted, seek}
use Rattle.chains.proofs.Tests.{bucket-inside}
use Rattle.adding.specs.Adds.{Table, table, started_from, started, put_pair, name_in, number_in, bucket_in, word_in, is_there, added}

-- starting: the pairs from pair i on are left
pub record Starting (words₀ words : List ℕ) (n i : ℕ) : Type 0 where
  pub inside : i ≤ n
  pub long : length words ≡ length words₀
  pub rest : started words₀ ≡ started_from words i (n - i)

pub starting : (words : List ℕ) (n : ℕ) → n ≡ room words → Starting words words n 0
unfolding started
starting words n e = record { inside = omega arith; long = refl; rest = ap (started_from words 0) (let k : room words ≡ n - 0 = omega arith in k) }

module _ (words₀ words : List ℕ) (n i : ℕ) (e : n ≡ room words₀) (k : Starting words₀ words n i) where
  pub start-inside : i < n → 4 * i + 3 < length words
  start-inside h = let l = k.long in omega arith

  pub start-next : i < n → Starting words₀ (set words (4 * i + 3) 0) n (i + 1)
  unfolding started_from
  start-next h =
      record {
        inside = omega arith;
        long = simp length-set k.long;
        rest =
            k.rest ∙ ap (started_from words i) (let m : n - i ≡ suc (n - (i + 1)) = omega arith in m)
            ∙ ap (λ (j : ℕ). started_from (set words (4 * i + 3) 0) j (n - (i + 1))) (sym (add-one i));
      }

  pub start-done : n ≤ i → words ≡ started words₀
  unfolding started_from
  start-done h = sym (k.rest ∙ ap (started_from words i) (let m : n - i ≡ 0 = omega arith in m))

-- putting a pair, word by word
pub put_is : (words : List ℕ) (n b at len base first h l : ℕ) → first ≡ head_of words b
    → h ≡ get_or (set (set (set words (4 * n) at) (4 * n + 1) len) (4 * n + 2) base) (4 * n + 3) 0
    → l ≡ get_or (set (set (set (set words (4 * n) at) (4 * n + 1) len) (4 * n + 2) base) (4 * n + 3) (h / 65536 * 65536 + first)) (4 * b + 3) 0
    → set (set (set (set (set words (4 * n) at) (4 * n + 1) len) (4 * n + 2) base) (4 * n + 3) (h / 65536 * 65536 + first)) (4 * b + 3)
    ((n + 1) * 65536 + l % 65536)
    ≡ put_pair words n b at len base
unfolding put_pair
put_is words n b at len base first h l e f g = rw (g, f, e)

module _ (s : Scope) (words : List ℕ) (n at len base : ℕ) (most : ℕ) (e : most ≡ room words) where
  abbrev After : Table
  After = added s (table n words) at len base

  pub add-full : most < n → table n words ≡ After
  unfolding added
  add-full h = rw (lt-ltb (room words) n (omega arith))

  module _ (r : n ≤ most) (a l : ℕ) (ea : a ≡ at) (el : l ≡ len) (name : Bytes) (p : name ≡ take l (drop (a % 65536) s.card)) (number b w first found : ℕ)
      (d : number ≡ number_of s.op name) (f : b ≡ bucket_of words number) (g : w ≡ base_word s.op s.card base) (h : first ≡ head_of words b)
      (k : found ≡ seek (is_wanted s words name number (Based w)) words first) where
    name-is : name ≡ name_in s words at len base
    name-is = p ∙ rw (ea, el)

    number_is : number ≡ number_in s words at len base
    number_is = d ∙ ap (number_of s.op) name-is

    bucket-is : b ≡ bucket_in s words at len base
    bucket-is = f ∙ ap (bucket_of words) number_is

    there : is_there s words at len base ≡ ltb 0 found
    unfolding is_there
    there =
        let e : found ≡ seek (is_wanted s words (name_in s words at len base) (number_in s words at len base) (Based (word_in s words at len base))) words
        (head_of words (bucket_in s words at len base)) =
        k ∙ rw (h, bucket-is, g, number_is, name-is) in
        rw e

    pub add-old : 0 < found → table n words ≡ After
    unfolding added
    add-old o = rw (there, lt-ltb 0 found o, or-true (ltb (room words) n))

    module _ (o : found ≤ 0) where
      pub add-past : n ≡ most → table (n + 1) words ≡ After
      unfolding added
      add-past q = rw (there, le-ltb 0 found o, le-ltb (room words) n (omega arith), eq-eqb n (room words) (q ∙ e))

      module _ (q : n ≡ most → ⊥) where
        pub add-room : (n < room words) × (b < room words)
        add-room = let c = less n most r q in let o = bucket-inside words number (omega arith) in (omega arith, omega arith)

        pub add-new : (words' : List ℕ) → words' ≡ put_pair words n b (a % 65536 + 65536 * number) len w → table (n + 1) words' ≡ After
        unfolding added
        add-new words' y =
            rw (there, le-ltb 0 found o, le-ltb (room words) n (omega arith), ne_eqb n (room words) (λ z. q (z ∙ sym e)))
            (ap (table (n + 1)) (y ∙ rw (bucket-is, g, number_is, ea)))
