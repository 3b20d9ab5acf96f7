-- Places of names with one more, in an array of 48. Assumes nothing.
use mathlib.Core.Path.{◌≡◌, refl, sym, ap, ◌∙◌}
use mathlib.Core.List.{List, [], ◌∷◌, ◌++◌}
use Prim.Native.Nat.{ℕ, zero, suc, ◌+◌, ◌<◌, ◌≤◌}
use native.Mathlib.Nat.{le_of_suc-le-suc, not-suc-le-zero, suc-add}
use native.Mathlib.Numerals.{add-one}
use native.Mathlib.Omega.{arith}
use lib.ListN.{length, set, take, get_or, length-set}
use lib.Seq.{take-suc, take_all}

-- what was set is taken last
set_last : (l : List ℕ) (i v : ℕ) → i < length l → take (i + 1) (set l i v) ≡ take i l ++ (v ∷ [])
set_last [] i v h = absurd (not-suc-le-zero h)
set_last (x ∷ l) zero v h = refl
set_last (x ∷ l) (suc i) v h = rw (suc-add i 1) (ap (λ (m : List ℕ). x ∷ m) (set_last l i v (le_of_suc-le-suc h)))

-- the first i of a chain's places stand in the array
pub record Extending (chain names : List ℕ) (i : ℕ) : Type 0 where
  pub long : length names ≡ 48
  pub most : i ≤ length chain
  pub copied : take i names ≡ take i chain

module _ (chain : List ℕ) where
  pub extending-none : (names : List ℕ) → length names ≡ 48 → Extending chain names 0
  extending-none names l = record { long = l; most = omega arith; copied = refl }

  module _ (names : List ℕ) (i : ℕ) (h : Extending chain names i) where
    pub extending-next : length chain < 48 → i < length chain → Extending chain (set names i (get_or chain i 0)) (i + 1)
    extending-next c l =
        record {
          long = length-set names i (get_or chain i 0) ∙ h.long;
          most = omega (arith, l);
          copied =
              set_last names i (get_or chain i 0) (omega (arith, h.long, c, l))
              ∙ rw h.copied (sym (ap (λ (n : ℕ). take n chain) (add-one i) ∙ take-suc chain i 0 l));
        }

    pub extending-all : length chain < 48 → length chain ≤ i → (place : ℕ)
        → take (length chain + 1) (set names (length chain) place) ≡ chain ++ (place ∷ [])
    extending-all c l place =
        set_last names (length chain) place (omega (arith, h.long, c))
        ∙ ap (λ (x : List ℕ). x ++ (place ∷ [])) (ap (λ (n : ℕ). take n names) (sym here) ∙ h.copied ∙ take_all i chain l)
      where
        here : i ≡ length chain
        here = omega (arith, h.most, l)
