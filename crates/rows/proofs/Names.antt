-- What is no name, by the number of its place, its kind and how long it is. Assumes nothing.
use mathlib.Core.Path.{◌≡◌, refl, sym, ◌∙◌}
use mathlib.Core.List.{[], ◌∷◌}
use mathlib.Core.Bool.{true, false}
use Prim.Native.Nat.{ℕ, ◌≤◌}
use native.Mathlib.Omega.{arith}
use native.Mathlib.Decide.{dec_le}
use lib.ListN.{length, get_or}
use lib.Dec.{eqb}
use borrow.Author.Tests.{eqb-true}
use Rattle.wire.specs.Numbers.{Bytes}
use Rattle.records.specs.Kinds.{Place, kinds, name, seq, option}
use Rattle.records.specs.Reading.{is_no_name, nameless}
use Rattle.rows.specs.Codes.{place_of}
use Rattle.rows.proofs.Codes.{one_at, place-is-one, base-seq, base-option}

module _ (p k : ℕ) (s : Bytes) where
  -- a name is due at place 3 alone
  pub no-name-due : (p ≡ 3 → ⊥) → nameless (place_of p) k s ≡ false
  no-name-due n =
      elim (dec_le 64 p) [
        | yes h ↦ rw (base-option p h)
        | no h ↦ elim (dec_le 32 p) [
          | yes g ↦ rw (base-seq p g (omega arith))
          | no g ↦ go (place_of p) (place-is-one p (omega arith))
        ]
      ]
    where
      go : (q : Place) → one_at p q ≡ true → nameless q k s ≡ false
      go (kinds from to) e = refl
      go name e = absurd (n (eqb-true p 3 e))
      go (seq q) e = refl
      go (option q) e = refl

  -- there, by its length
  module _ (e : p ≡ 3) (f : k ≡ 1) where
    due : nameless (place_of p) k s ≡ is_no_name s
    unfolding place_of
    due = rw (e, f)

    pub name-empty : length s ≡ 0 → true ≡ nameless (place_of p) k s
    name-empty h = sym (due ∙ go s h)
      where
        go : (s : Bytes) → length s ≡ 0 → is_no_name s ≡ true
        go [] h = refl
        go (b ∷ s) h = absurd (omega arith)

    pub name-one : length s ≤ 1 → (length s ≡ 0 → ⊥) → eqb (get_or s 0 0) 33 ≡ nameless (place_of p) k s
    name-one h n = sym (due ∙ go s h n)
      where
        go : (s : Bytes) → length s ≤ 1 → (length s ≡ 0 → ⊥) → is_no_name s ≡ eqb (get_or s 0 0) 33
        go [] h n = absurd (n refl)
        go (b ∷ []) h n = refl
        go (b ∷ c ∷ s) h n = absurd (omega arith)
