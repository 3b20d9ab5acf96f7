-- The runs of kinds: what holds of each kind of a run and of each place rests on one test over both, which antt computes. Assumes nothing.
use mathlib.Core.Path.{◌≡◌, refl, sym, ap, ◌∙◌}
use mathlib.Core.Bool.{Bool, true, false, ◌&&◌, and-false}
use Prim.Native.Nat.{ℕ, zero, suc, ◌+◌, ◌<◌, ◌≤◌}
use native.Mathlib.Omega.{arith}
use native.Mathlib.Decide.{dec_le}
use lib.Dec.{eqb, leb, ltb}
use borrow.Author.Tests.{eqb-true, eqb-false, ltb-true, le-leb, lt-leb, ne_eqb}
use Rattle.records.specs.Kinds.{Place, kinds, name, seq, option, stands}
use Rattle.records.proofs.Run.{within}
use Rattle.rows.specs.Codes.{place_of}
use Rattle.rows.proofs.Codes.{each, each_at, place-one, base-past, base-seq, base-option}

abbrev pub alike : Bool → Bool → Bool
alike true b = b
alike false true = false
alike false false = true

alike-true : (a b : Bool) → alike a b ≡ true → a ≡ b
alike-true true b t = sym t
alike-true false true t = cc
alike-true false false t = refl

-- whether of the places from 4 to 26 kind k may stand at place c alone, at none where c is not one of them
abbrev pub only : ℕ → ℕ → Bool
only c k = each (λ p. alike (eqb p c) (stands (place_of p) k)) 23 4

-- the same of n kinds from a on and the place that f gives to each
pub run : (f : ℕ → ℕ) (n a : ℕ) → each (λ k. only (f k) k) n a ≡ true →
    (k : ℕ) → a ≤ k → k < a + n → (p : ℕ) → 4 ≤ p → p < 27 → eqb p (f k) ≡ stands (place_of p) k
run f n a t k l h p g u =
    alike-true (eqb p (f k)) (stands (place_of p) k)
    (each_at (λ q. alike (eqb q (f k)) (stands (place_of q) k)) 23 4 (each_at (λ j. only (f j) j) n a t k l h) p g u)

-- a kind past the last stands at none of these places
under : Place → Bool
under (kinds from to) = ltb to 135
under name = false
under (seq p) = false
under (option p) = false

pub run_past : (k : ℕ) → 135 ≤ k → (p : ℕ) → 4 ≤ p → p < 27 → eqb p 0 ≡ stands (place_of p) k
unfolding under place_of
run_past k h p g u = ne_eqb p 0 (λ e. omega arith) ∙ sym (go (place_of p) (each_at (λ q. under (place_of q)) 23 4 refl p g u))
  where
    go : (q : Place) → under q ≡ true → stands q k ≡ false
    go (kinds from to) t = let l = ltb-true to 135 t in rw (lt-leb k to (omega arith)) (and-false (leb from k))
    go name t = cc
    go (seq q) t = cc
    go (option q) t = cc

-- a place of one kind
self : (a k : ℕ) → eqb k a ≡ (leb a k && leb k a)
self a k = go (eqb k a) refl
  where
    go : (b : Bool) → eqb k a ≡ b → b ≡ (leb a k && leb k a)
    go true e = let s = eqb-true k a e in rw (le-leb a k (omega arith), le-leb k a (omega arith))
    go false e = out (leb a k && leb k a) refl
      where
        out : (b : Bool) → (leb a k && leb k a) ≡ b → false ≡ b
        out true f = let w = within a a k f in absurd (eqb-false k a e (omega arith))
        out false f = refl

-- at the places under 4
pub leaf-none : (k : ℕ) → eqb k 0 ≡ stands (place_of 0) k
unfolding place_of
leaf-none k = self 0 k

pub leaf-kept : (k : ℕ) → eqb k 3 ≡ stands (place_of 2) k
unfolding place_of
leaf-kept k = self 3 k

pub leaf-text : (p : ℕ) → (p ≡ 0 → ⊥) → (p ≡ 2 → ⊥) → p < 4 → (k : ℕ) → eqb k 1 ≡ stands (place_of p) k
unfolding place_of
leaf-text zero n m h k = absurd (n refl)
leaf-text (suc zero) n m h k = self 1 k
leaf-text (suc (suc zero)) n m h k = absurd (m refl)
leaf-text (suc (suc (suc zero))) n m h k = refl
leaf-text (suc (suc (suc (suc p)))) n m h k = absurd (omega arith)

-- at a seq or an Option, and at no place
pub stands-more : (p k : ℕ) → 32 ≤ p → eqb k 2 ≡ stands (place_of p) k
stands-more p k h =
    elim (dec_le 64 p) [
      | yes g ↦ rw (base-option p g)
      | no g ↦ rw (base-seq p h (omega arith))
    ]

pub stands-none : (p k : ℕ) → p < 32 → 27 ≤ p → eqb k 0 ≡ stands (place_of p) k
stands-none p k h g = self 0 k ∙ sym (ap (λ (q : Place). stands q k) (place-one p h ∙ base-past p g))
