-- Where a declaration's own name stands, case by case as the code asks. Assumes nothing.
use mathlib.Core.Path.{◌≡◌, ap, ◌∙◌}
use Prim.Native.Nat.{ℕ, ◌+◌, ◌^◌, ◌<◌, ◌≤◌}
use native.Mathlib.Omega.{arith}
use lib.ListN.{length, take, drop}
use borrow.Author.Tests.{ne_eqb, lt-leb, le-leb, lt-ltb, le-ltb}
use Rattle.wire.specs.Numbers.{Bytes}
use Rattle.records.specs.Record.{kind_of}
use Rattle.fields.specs.Fields.{offset_of, trait_name_at, name_at, name_place}
use Rattle.wire.proofs.Slices.{tail-part}

-- a trait's name, by the kind of its type
module _ (c t : Bytes) (o j : ℕ) (e : t ≡ take (length c) (drop o c)) (f : (j ≡ kind_of t) × (j < 65536)) where
  typed : j ≡ kind_of (drop o c)
  typed = f.0 ∙ ap kind_of (tail-part c t o e)

  pub trait-plain : j ≡ 0x2C → o + 6 ≡ trait_name_at o c
  unfolding trait_name_at
  trait-plain h = rw (← typed, h)

  module _ (n : j ≡ 0x2C → ⊥) where
    pub trait-other : (j ≡ 0x2E → ⊥) → 0 ≡ trait_name_at o c
    unfolding trait_name_at
    trait-other h = rw (← typed, ne_eqb j 0x2C n, ne_eqb j 0x2E h)

    module _ (u : Bytes) (i : ℕ) (h : j ≡ 0x2E) (g : u ≡ take (length t) (drop 6 t)) (k : (i ≡ kind_of u) × (i < 65536)) where
      applied : i ≡ kind_of (drop 6 (drop o c))
      applied = k.0 ∙ ap kind_of (tail-part t u 6 g ∙ ap (drop 6) (tail-part c t o e))

      pub trait-applied : i ≡ 0x2C → o + 12 ≡ trait_name_at o c
      unfolding trait_name_at
      trait-applied m = rw (← typed, h, ← applied, m)

      pub trait-applied-other : (i ≡ 0x2C → ⊥) → 0 ≡ trait_name_at o c
      unfolding trait_name_at
      trait-applied-other m = rw (← typed, h, ← applied, ne_eqb i 0x2C m)

module _ (c it : Bytes) (k : ℕ) (e : it ≡ take (length c) (drop 6 c)) where
  at : (i o : ℕ) → o ≡ offset_of i it → o ≡ offset_of i (drop 6 c)
  at i o h = h ∙ ap (offset_of i) (tail-part c it 6 e)

  pub name-trait : (o r : ℕ) → k ≡ 0x68 → (o ≡ offset_of 3 it) × (o < 2 ^ 40) → (r ≡ trait_name_at (6 + o) c) × (r < 2 ^ 41) → (r ≡ name_at k c) × (r < 2 ^ 41)
  unfolding name_at
  name-trait o r h a f = (rw (h, ← at 3 o a.0) f.0, f.1)

  pub name-fn : (o : ℕ) → k ≡ 0x69 → (o ≡ offset_of 3 it) × (o < 2 ^ 40) → 12 + o ≡ name_at k c
  unfolding name_at
  name-fn o h a = rw (h, ← at 3 o a.0)

  pub name-low : k < 0x62 → 0 ≡ name_at k c
  unfolding name_at
  name-low h =
      rw (
        ne_eqb k 0x62 (λ z. absurd (omega arith)),
        ne_eqb k 0x68 (λ z. absurd (omega arith)),
        ne_eqb k 0x69 (λ z. absurd (omega arith)),
        lt-leb 0x63 k (omega arith),
      )

  pub name-high : 0x66 < k → (k ≡ 0x68 → ⊥) → (k ≡ 0x69 → ⊥) → 0 ≡ name_at k c
  unfolding name_at
  name-high h t f = rw (ne_eqb k 0x62 (λ z. absurd (omega arith)), ne_eqb k 0x68 t, ne_eqb k 0x69 f, le-leb 0x63 k (omega arith), lt-leb k 0x66 h)

  pub name-third : (o : ℕ) → k ≤ 0x66 → 0x62 < k → (o ≡ offset_of 2 it) × (o < 2 ^ 40) → 6 + o ≡ name_at k c
  unfolding name_at
  name-third o h l a =
      rw (
        ne_eqb k 0x62 (λ z. absurd (omega arith)),
        ne_eqb k 0x68 (λ z. absurd (omega arith)),
        ne_eqb k 0x69 (λ z. absurd (omega arith)),
        le-leb 0x63 k (omega arith),
        le-leb k 0x66 h,
        ← at 2 o a.0,
      )

  module _ (m : k ≡ 0x62) (j : ℕ) (f : (j ≡ kind_of c) × (j < 65536)) where
    pub name-extern : j ≡ 0x61 → 6 ≡ name_at k c
    unfolding name_at
    name-extern g = rw (m, ← f.0, g)

    pub name-mod : (o : ℕ) → (j ≡ 0x61 → ⊥) → (o ≡ offset_of 2 it) × (o < 2 ^ 40) → 6 + o ≡ name_at k c
    unfolding name_at
    name-mod o g a = rw (m, ← f.0, ne_eqb j 0x61 g, ← at 2 o a.0)

-- where a module's name stands
module _ (card : Bytes) (at : ℕ) where
  pub place_in : (s : Bytes) (o : ℕ) → at < length card → s ≡ take (length card) (drop at card) → (o ≡ name_at 0x62 s) × (o < 2 ^ 41)
      → at + o ≡ name_place card at
  unfolding name_place
  place_in s o h e f = rw (lt-ltb at (length card) h, f.0, tail-part card s at e)

  pub place-past : length card ≤ at → 0 ≡ name_place card at
  unfolding name_place
  place-past h = rw (le-ltb at (length card) h)
