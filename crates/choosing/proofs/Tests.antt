-- What the functions answer, case by case. Assumes nothing.
use mathlib.Core.Path.{◌≡◌, refl, sym, ap, ◌∙◌}
use mathlib.Core.List.{List}
use mathlib.Core.Bool.{Bool, true, false, ◌||◌, cond}
use Prim.Native.Nat.{ℕ, zero, suc, ◌+◌, ◌-◌, ◌*◌, ◌/◌, ◌%◌, ◌<◌, ◌≤◌}
use native.Mathlib.Omega.{arith}
use lib.ListN.{take, drop, get_or}
use lib.Dec.{eqb, ltb}
use borrow.Author.Tests.{eq-eqb, ne_eqb, lt-ltb, le-ltb, eqb-false, ltb-false}
use Rattle.wire.specs.Numbers.{Bytes}
use Rattle.rast.proofs.Tests.{by-test}
use Rattle.operation.proofs.Lawful.{names_of}
use Rattle.prefix.specs.Prefix.{Scope}
use Rattle.comparing.specs.Compares.{same_base}
use Rattle.chains.specs.declared.Want.TheVariants.{Named, Based, Runtime}
use Rattle.chains.specs.Chains.{room, name_at, number_at, word_at, bucket_of, head_of, next_of, has_wanted, has_named, is_wanted, seek_from, seek}
use Rattle.chains.proofs.Tests.{next-less}
use Rattle.choosing.specs.Chooses.{chosen_of_several, chosen_pair, use_pair, Oldest}

-- what is found is a pair that there is room for
module _ (f : ℕ → Bool) (words : List ℕ) where
  from-inside : (n g : ℕ) → g ≤ room words → seek_from f words n g ≤ room words
  unfolding seek_from
  from-inside zero g h = omega arith
  from-inside (suc n) g h =
      by-test (eqb g 0) (λ z. rw z (omega arith))
      (λ z. let o : 0 < g = (let d = eqb-false g 0 z in omega (arith, d)) in
      let l = next-less words g o in
      rw z (by-test (f (g - 1)) (λ t. rw t h) (λ t. rw t (from-inside n (next_of words g) (omega arith)))))

  pub seek-inside : (g : ℕ) → seek f words g ≤ room words
  unfolding seek
  seek-inside g = by-test (ltb (room words) g) (λ t. rw t (omega arith)) (λ t. rw t (from-inside g g (ltb-false (room words) g t)))

module _ (s : Scope) (words : List ℕ) (name : Bytes) (number : ℕ) where
  several-inside : (g : ℕ) → chosen_of_several s words name number g ≤ room words
  unfolding chosen_of_several
  several-inside g =
      by-test (ltb 0 (seek (is_wanted s words name number (Based 0)) words g)) (λ t. rw t (seek-inside _ words g)) (λ t. rw t (seek-inside _ words g))

  chosen-inside : chosen_pair s words name number ≤ room words
  unfolding chosen_pair
  chosen-inside =
      let first = head_of words (bucket_of words number) in
      let one = seek (is_wanted s words name number Named) words first in
      by-test (eqb one 0) (λ t. rw t (omega arith))
      (λ t. by-test (eqb (seek (is_wanted s words name number Named) words (next_of words one)) 0) (λ u. rw (t, u) (seek-inside _ words first))
      (λ u. rw (t, u) (several-inside first)))

  pub chosen-room : (c : ℕ) → c ≡ chosen_pair s words name number → c ≤ room words
  chosen-room c e = rw e chosen-inside

  module _ (first p : ℕ) (e : p ≡ seek (is_wanted s words name number (Based 0)) words first) where
    pub several-prefix : 0 < p → p ≡ chosen_of_several s words name number first
    unfolding chosen_of_several
    several-prefix h = rw (← e, lt-ltb 0 p h)

    pub several-runtime : p ≤ 0 → (r : ℕ) → r ≡ seek (is_wanted s words name number Runtime) words first → r ≡ chosen_of_several s words name number first
    unfolding chosen_of_several
    several-runtime h r f = f ∙ rw (← e, le-ltb 0 p h)

  module _ (b first one : ℕ) (f : b ≡ bucket_of words number) (g : first ≡ head_of words b)
      (e : one ≡ seek (is_wanted s words name number Named) words first) where
    head-is : head_of words (bucket_of words number) ≡ first
    head-is = sym (g ∙ ap (head_of words) f)

    pub chosen_none : one ≡ 0 → 0 ≡ chosen_pair s words name number
    unfolding chosen_pair
    chosen_none z = rw (head-is, ← e, eq-eqb one 0 z)

    module _ (z : one ≡ 0 → ⊥) (n two : ℕ) (h : n ≡ next_of words one) (k : two ≡ seek (is_wanted s words name number Named) words n) where
      two_is : seek (is_wanted s words name number Named) words (next_of words one) ≡ two
      two_is = sym (k ∙ rw h)

      pub chosen-only : two ≡ 0 → one ≡ chosen_pair s words name number
      unfolding chosen_pair
      chosen-only y = rw (head-is, ← e, ne_eqb one 0 z, two_is, eq-eqb two 0 y)

      pub chosen-several : (two ≡ 0 → ⊥) → (r : ℕ) → r ≡ chosen_of_several s words name number first → r ≡ chosen_pair s words name number
      unfolding chosen_pair
      chosen-several y r q = q ∙ rw (head-is, ← e, ne_eqb one 0 z, two_is, ne_eqb two 0 y)

    -- the newest of a name, where it is the oldest too, is the only one
    pub chosen-newest : (g : ℕ) → Oldest s words name number g → one ≡ g → g ≡ chosen_pair s words name number
    chosen-newest g o q =
        let f = o.first in
        sym q ∙ chosen-only (λ z. omega arith) (next_of words one) 0 refl (rw q (sym o.alone)) refl

  -- and so it is where it is the newest of its bucket
  head-found : (g : ℕ) → Oldest s words name number g → g ≡ seek (is_wanted s words name number Named) words g
  unfolding seek seek_from
  head-found zero o = absurd (let f = o.first in omega arith)
  head-found (suc j) o = rw (le-ltb (room words) (suc j) o.inside, ne_eqb (suc j) 0 (λ z. omega arith), o.named)

  pub chosen-head : (b first : ℕ) → b ≡ bucket_of words number → first ≡ head_of words b → (g : ℕ) → Oldest s words name number g → first ≡ g
      → g ≡ chosen_pair s words name number
  chosen-head b first f e g o q = chosen-newest b first g f e (rw q (head-found g o)) g o refl

module _ (s : Scope) (words : List ℕ) (g : ℕ) where
  pub use-zero : g ≡ 0 → 0 ≡ use_pair s words g
  unfolding use_pair
  use-zero z = rw z

  module _ (z : g ≡ 0 → ⊥) (n : ℕ) (e : n ≡ room words) where
    pub use-past : n < g → 0 ≡ use_pair s words g
    unfolding use_pair
    use-past l = rw (ne_eqb g 0 z, lt-ltb (room words) g (omega arith))

    module _ (i : g ≤ n) (own : ℕ) (b : own ≡ word_at words (g - 1)) where
      -- a pair that has the prefix brings none
      pub use-own : own % 65536 ≡ 0 → 0 ≡ use_pair s words g
      unfolding use_pair
      use-own y = rw (ne_eqb g 0 z, le-ltb (room words) g (omega arith), ← b, eq-eqb (own % 65536) 0 y)

      module _ (x : own % 65536 ≡ 0 → ⊥) (at len : ℕ) (name : Bytes) (a : at ≡ get_or words (4 * (g - 1)) 0) (l : len ≡ get_or words (4 * (g - 1) + 1) 0)
          (p : name ≡ take len (drop (at % 65536) s.card)) (m ahead : ℕ) (h : m ≡ next_of words g)
          (k : ahead ≡ seek (is_wanted s words name (at / 65536) Named) words m) where
        name-is : name_at s.card words (g - 1) ≡ name
        name-is = sym (p ∙ rw (a, l))

        number_is : number_at words (g - 1) ≡ at / 65536
        number_is = sym (ap (λ (x : ℕ). x / 65536) a)

        of-name : use_pair s words g
            ≡ cond (ltb 0 ahead) 0 (let c : ℕ = chosen_pair s words name (at / 65536) in cond (eqb c 0 || same_base s (word_at words (c - 1)) 0) 0 c)
        unfolding use_pair
        of-name =
            let q : seek (is_wanted s words name (at / 65536) Named) words (next_of words g) ≡ ahead = sym (k ∙ rw h) in
            rw (ne_eqb g 0 z, le-ltb (room words) g (omega arith), ← b, ne_eqb (own % 65536) 0 x, name-is, number_is, q)

        -- where none is after pair g
        pub is-oldest : ahead ≤ 0 → Oldest s words name (at / 65536) g
        unfolding is_wanted has_named has_wanted
        is-oldest o = record {
          first = omega (arith, z);
          inside = omega arith;
          named = rw (name-is, number_is, eq-eqb (at / 65536) (at / 65536) refl, (names_of s.op).reflexive name);
          alone = rw (← h) (sym k ∙ (let y : ahead ≡ 0 = omega arith in y));
        }

        pub use-later : 0 < ahead → 0 ≡ use_pair s words g
        use-later o = sym (of-name ∙ rw (lt-ltb 0 ahead o))

        module _ (o : ahead ≤ 0) (c : ℕ) (f : c ≡ chosen_pair s words name (at / 65536)) where
          of-chosen : use_pair s words g ≡ cond (eqb c 0 || same_base s (word_at words (c - 1)) 0) 0 c
          of-chosen = of-name ∙ rw (le-ltb 0 ahead o, ← f)

          pub use-none : c ≡ 0 → 0 ≡ use_pair s words g
          use-none y = sym (of-chosen ∙ rw (eq-eqb c 0 y))

          module _ (y : c ≡ 0 → ⊥) (w : ℕ) (t : Bool) (q : w ≡ get_or words (4 * (c - 1) + 2) 0) (u : t ≡ same_base s w 0) where
            of_word : use_pair s words g ≡ cond t 0 c
            of_word = of-chosen ∙ rw (ne_eqb c 0 y, ← q, ← u)

            pub use-prefix : t ≡ true → 0 ≡ use_pair s words g
            use-prefix v = sym (of_word ∙ rw v)

            pub use-is : t ≡ false → c ≡ use_pair s words g
            use-is v = sym (of_word ∙ rw v)
