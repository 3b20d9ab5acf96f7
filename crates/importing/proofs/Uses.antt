-- The uses that pairs bring, one more at a time, and how long they are. Assumes nothing.
use mathlib.Core.Path.{◌≡◌, refl, sym, ap, subst, ◌∙◌}
use mathlib.Core.List.{List, [], ◌∷◌, ◌++◌, append-nil, append_assoc}
use mathlib.Core.Bool.{false, true≢false}
use Prim.Native.Nat.{ℕ, zero, suc, ◌+◌, ◌-◌, ◌*◌, ◌%◌, ◌^◌, ◌<◌, ◌≤◌, min}
use native.Mathlib.Omega.{arith}
use native.Mathlib.Numerals.{add-one}
use lib.ListN.{length, take, drop, get_or, replicate, length-append, length-take, length-drop}
use lib.Dec.{eqb, ltb}
use borrow.Author.Tests.{eq-eqb, ne_eqb, eqb-true, eqb-false, ltb-false}
use Rattle.wire.specs.Numbers.{Bytes}
use Rattle.records.specs.Record.{length_of, record_at}
use Rattle.rast.proofs.Tests.{by-test}
use Rattle.operation.specs.Operations.{weight_of, weight_bytes}
use Rattle.prefix.specs.Prefix.{Scope}
use Rattle.comparing.specs.Compares.{place_in, base_at, same_base}
use Rattle.comparing.proofs.Bases.{base-both-prefix}
use Rattle.chains.specs.declared.Want.TheVariants.{Named}
use Rattle.chains.specs.Chains.{room, name_at, number_at, word_at, next_of, is_wanted, seek}
use Rattle.pairs.specs.Stored.{Stored, stored}
use Rattle.pairs.specs.Choice.{use_bytes}
use Rattle.choosing.specs.Chooses.{chosen_pair, use_pair}
use Rattle.choosing.specs.Picks.{uses_of}
use Rattle.choosing.proofs.Tests.{chosen-room}
use Rattle.laying.specs.Lays.{lay, Laid}
use Rattle.laying.proofs.Laws.{laid_none, laid_then, laid-zeros}
use Rattle.rewriting.specs.Imports.{weighed_uses}
use Rattle.importing.proofs.Pieces.{use-length}

bytes-append : (weight : Bytes) (a b : List Stored) → weighed_uses weight (a ++ b) ≡ weighed_uses weight a ++ weighed_uses weight b
unfolding weighed_uses
bytes-append weight [] b = refl
bytes-append weight (u ∷ a) b = rw (bytes-append weight a b) (simp append_assoc)

-- parts of a card are no longer than it
part_length : (card : Bytes) (n at : ℕ) → length (take n (drop at card)) ≤ length card
part_length card n at =
    let t : length (take n (drop at card)) ≡ min n (length (drop at card)) = length-take n (drop at card) in
    let d = length-drop at card in
    omega arith

-- what a pair that brings a use is: one that there is room for, as is the one chosen, whose base is not the prefix
pub record Brings (s : Scope) (words : List ℕ) (g c : ℕ) : Type 0 where
  pub first : 0 < g
  pub inside : g ≤ room words
  pub chosen : c ≤ room words
  pub other : same_base s (word_at words (c - 1)) 0 ≡ false

module _ (s : Scope) (words : List ℕ) where
  abbrev Ahead : ℕ → ℕ
  Ahead g = seek (is_wanted s words (name_at s.card words (g - 1)) (number_at words (g - 1)) Named) words (next_of words g)

  abbrev Chosen : ℕ → ℕ
  Chosen g = chosen_pair s words (name_at s.card words (g - 1)) (number_at words (g - 1))

  brings-of : (g : ℕ) → (use_pair s words g ≡ 0 → ⊥) → Brings s words g (use_pair s words g)
  unfolding use_pair
  brings-of g z =
      by-test (eqb g 0) (λ t. absurd (z (rw t)))
      (λ t. by-test (ltb (room words) g) (λ u. absurd (z (rw (t, u))))
      (λ u. by-test (eqb (place_in (word_at words (g - 1))) 0) (λ p. absurd (z (rw (t, u, p))))
      (λ p. by-test (ltb 0 (Ahead g)) (λ v. absurd (z (rw (t, u, p, v))))
      (λ v. by-test (eqb (Chosen g) 0) (λ w. absurd (z (rw (t, u, p, v, w))))
      (λ w. by-test (same_base s (word_at words (Chosen g - 1)) 0) (λ x. absurd (z (rw (t, u, p, v, w, x))))
      (λ x. rw (t, u, p, v, w, x) record {
        first = let d = eqb-false g 0 t in omega (arith, d);
        inside = ltb-false (room words) g u;
        chosen = chosen-room s words (name_at s.card words (g - 1)) (number_at words (g - 1)) (Chosen g) refl;
        other = x;
      }))))))

  pub brings : (g c : ℕ) → c ≡ use_pair s words g → (c ≡ 0 → ⊥) → Brings s words g c
  brings g c e z = rw e (brings-of g (λ y. z (e ∙ y)))

  -- the base of a use stands in the card
  pub base-card : (g c : ℕ) → Brings s words g c → base_at s (place_in (word_at words (c - 1))) ≡ record_at s.card (place_in (word_at words (c - 1)))
  unfolding base_at
  base-card g c b =
      by-test (eqb (place_in (word_at words (c - 1))) 0)
      (λ t. absurd (true≢false (base-both-prefix s (word_at words (c - 1)) 0 (eqb-true (place_in (word_at words (c - 1))) 0 t) refl ∙ b.other)))
      (λ t. rw t)

  abbrev Use : ℕ → ℕ → Stored
  Use i g = stored (name_at s.card words i) (base_at s (place_in (word_at words (g - 1))))

  -- one more pair
  uses-last : (n i : ℕ) → uses_of s words i (suc n) ≡ uses_of s words i n ++ uses_of s words (i + n) 1
  unfolding uses_of
  uses-last zero i = ap (λ (j : ℕ). uses_of s words j 1) (let e : i ≡ i + 0 = omega arith in e)
  uses-last (suc n) i =
      let e : suc i + n ≡ i + suc n = omega arith in
      let h : uses_of s words (suc i) (suc n) ≡ uses_of s words (suc i) n ++ uses_of s words (i + suc n) 1 =
      uses-last n (suc i) ∙ ap (λ (j : ℕ). uses_of s words (suc i) n ++ uses_of s words j 1) e in
      by-test (eqb (use_pair s words (suc i)) 0)
      (λ t. rw t h)
      (λ t. rw t (ap (λ (l : List Stored). Use i (use_pair s words (suc i)) ∷ l) h))

  uses-more : (weight : Bytes) (n : ℕ)
      → weighed_uses weight (uses_of s words 0 (suc n)) ≡ weighed_uses weight (uses_of s words 0 n) ++ weighed_uses weight (uses_of s words n 1)
  uses-more weight n =
      let e : 0 + n ≡ n = omega arith in
      ap (weighed_uses weight) (uses-last n 0 ∙ ap (λ (j : ℕ). uses_of s words 0 n ++ uses_of s words j 1) e)
      ∙ bytes-append weight (uses_of s words 0 n) (uses_of s words n 1)

  -- each is shorter than 2 ^ 18
  module _ (h : length s.card ≤ 65536) where
    use-short : (i : ℕ) → (use_pair s words (suc i) ≡ 0 → ⊥) → length (use_bytes (Use i (use_pair s words (suc i)))) ≤ 262144
    use-short i z =
        let b = brings-of (suc i) z in
        let w : ℕ = place_in (word_at words (use_pair s words (suc i) - 1)) in
        let n : Bytes = name_at s.card words i in
        let l = use-length n (record_at s.card w) in
        let p = part_length s.card (get_or words (4 * i + 1) 0) (get_or words (4 * i) 0 % 65536) in
        let q = part_length s.card (4 + length_of (drop w s.card)) w in
        rw (base-card (suc i) (use_pair s words (suc i)) b) (omega arith)

    module _ (weight : Bytes) (k : length weight ≤ 2 ^ 24) where
      uses-length : (n i : ℕ) → length (weighed_uses weight (uses_of s words i n)) ≤ n * (262144 + 2 ^ 24)
      unfolding uses_of weighed_uses
      uses-length zero i = omega arith
      uses-length (suc n) i =
          let o = uses-length n (suc i) in
          by-test (eqb (use_pair s words (suc i)) 0)
          (λ t. rw t (omega arith))
          (λ t. let u = use-short i (eqb-false (use_pair s words (suc i)) 0 t) in
          let a = length-append (use_bytes (Use i (use_pair s words (suc i)))) (weight ++ weighed_uses weight (uses_of s words (suc i) n)) in
          let b = length-append weight (weighed_uses weight (uses_of s words (suc i) n)) in
          rw t (omega arith))

      -- so where they end is a place that fits
      pub end_fits : (out : Bytes) (n p : ℕ) (o : Bytes) → n ≤ 65535 → Laid out 0 (weighed_uses weight (uses_of s words 0 n)) p o → p ≤ 2 ^ 61
      end_fits out n p o l d = omega (arith, d.ends, uses-length n 0)

  -- of one pair: what is laid, if it brings a use
  module _ (i c : ℕ) (e : c ≡ use_pair s words (i + 1)) where
    pair_is : use_pair s words (suc i) ≡ c
    pair_is = ap (use_pair s words) (sym (add-one i)) ∙ sym e

    pub one_none : (weight out : Bytes) (at : ℕ) → c ≡ 0 → Laid out at (weighed_uses weight (uses_of s words i 1)) at out
    unfolding uses_of weighed_uses
    one_none weight out at z = rw (pair_is, eq-eqb c 0 z) (laid_none out at)

    module _ (z : c ≡ 0 → ⊥) where
      one-brings : Brings s words (i + 1) c
      one-brings = brings (i + 1) c e z

      pub one-room : (4 * i + 1 < length words) × (4 * (c - 1) + 2 < length words) × (c ≤ 65535)
      one-room = let b = one-brings in let f = b.inside in let g = b.chosen in (omega arith, omega (arith, z), omega arith)

      module _ (from len w : ℕ) (name base : Bytes) (f : from ≡ get_or words (4 * i) 0) (g : len ≡ get_or words (4 * i + 1) 0)
          (n : name ≡ take len (drop (from % 65536) s.card)) (h : w ≡ get_or words (4 * (c - 1) + 2) 0) (b : base ≡ record_at s.card (w % 65536)) where
        pub one-fits : length s.card ≤ 65536 → (length name ≤ 65536) × (length base ≤ 65536)
        one-fits l =
            let p = part_length s.card len (from % 65536) in
            let q = part_length s.card (4 + length_of (drop (w % 65536) s.card)) (w % 65536) in
            (rw n (omega arith), rw b (omega arith))

        module _ (out : Bytes) (at end : ℕ) (o : Bytes) (d : Laid out at (use_bytes (stored name base)) end o) where
          pub one_end : length s.card ≤ 65536 → at ≤ 2 ^ 61 → end ≤ 2 ^ 62
          one_end l k = let m = one-fits l in omega (arith, d.ends, use-length name base, m.0, m.1)

          pub one-use : (v : ℕ) → v ≡ weight_of s.op → (after : Bytes) → after ≡ lay o end (replicate v 0)
              → Laid out at (weighed_uses (weight_bytes s.op) (uses_of s words i 1)) (end + v) after
          unfolding uses_of weighed_uses weight_bytes
          one-use v t after y =
              let k : stored name base ≡ Use i c = rw (n, f, g, b, h, base-card (i + 1) c one-brings) in
              rw (pair_is, ne_eqb c 0 z, ← t, append-nil)
              (subst (λ (u : Stored). Laid out at (use_bytes u ++ replicate v 0) (end + v) after) k
              (laid-zeros out at (use_bytes (stored name base)) end o v after d y))

  -- one more behind those of n pairs
  pub all_more : (weight out : Bytes) (n p : ℕ) (o₁ : Bytes) (e : ℕ) (o₂ : Bytes) → Laid out 0 (weighed_uses weight (uses_of s words 0 n)) p o₁
      → Laid o₁ p (weighed_uses weight (uses_of s words n 1)) e o₂ → Laid out 0 (weighed_uses weight (uses_of s words 0 (suc n))) e o₂
  all_more weight out n p o₁ e o₂ x y =
      rw (uses-more weight n) (laid_then out 0 (weighed_uses weight (uses_of s words 0 n)) p o₁ (weighed_uses weight (uses_of s words n 1)) e o₂ x y)
