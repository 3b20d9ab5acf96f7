-- Bytes that stand in others from a place on. Assumes nothing.
use mathlib.Core.Path.{◌≡◌, refl, ap, sym, ◌∙◌}
use mathlib.Core.List.{[], ◌∷◌}
use Prim.Native.Nat.{ℕ, zero, suc, ◌+◌, ◌-◌, ◌≤◌, min}
use native.Mathlib.Omega.{arith}
use lib.ListN.{length, take, drop, length-take, length-drop}
use lib.Seq.{drop-drop}
use Rattle.wire.specs.Numbers.{Bytes}

-- the first of what stands there
pub record Within (s : Bytes) (at : ℕ) (x : Bytes) : Type 0 where
  pub many : ℕ
  pub is : x ≡ take many (drop at s)

pub within_all : (s : Bytes) (at n : ℕ) (x : Bytes) → x ≡ take n (drop at s) → Within s at x
within_all s at n x e = record { many = n; is = e }

-- of no bytes, none
empty : (k : ℕ) → ◌≡◌ {A = Bytes} [] (take k [])
empty zero = refl
empty (suc k) = refl

take_twice : (m n : ℕ) (s : Bytes) → take m (take n s) ≡ take (min m n) s
take_twice zero n s = ap (λ (k : ℕ). take k s) (let e : 0 ≡ min 0 n = omega arith in e)
take_twice (suc m) zero s = ap (λ (k : ℕ). take k s) (let e : 0 ≡ min (suc m) 0 = omega arith in e)
take_twice (suc m) (suc n) [] = empty (min (suc m) (suc n))
take_twice (suc m) (suc n) (b ∷ s) =
    ap (λ (t : Bytes). b ∷ t) (take_twice m n s)
    ∙ ap (λ (k : ℕ). take k (b ∷ s)) (let e : suc (min m n) ≡ min (suc m) (suc n) = omega arith in e)

drop_of_take : (d n : ℕ) (s : Bytes) → drop d (take n s) ≡ take (n - d) (drop d s)
drop_of_take zero n s = ap (λ (k : ℕ). take k s) (let e : n ≡ n - 0 = omega arith in e)
drop_of_take (suc d) zero s = sym (ap (λ (k : ℕ). take k (drop (suc d) s)) (let e : 0 - suc d ≡ 0 = omega arith in e))
drop_of_take (suc d) (suc n) [] = empty (suc n - suc d)
drop_of_take (suc d) (suc n) (b ∷ s) = drop_of_take d n s ∙ ap (λ (k : ℕ). take k (drop d s)) (let e : n - d ≡ suc n - suc d = omega arith in e)

module _ (s : Bytes) (at : ℕ) (x : Bytes) (w : Within s at x) where
  -- its first bytes stand there too, and what follows some of them stands so much later
  pub within-take : (n : ℕ) → Within s at (take n x)
  within-take n = record { many = min n w.many; is = ap (take n) w.is ∙ take_twice n w.many (drop at s) }

  pub within-drop : (d : ℕ) → Within s (at + d) (drop d x)
  within-drop d = record { many = w.many - d; is = ap (drop d) w.is ∙ drop_of_take d w.many (drop at s) ∙ ap (take (w.many - d)) (drop-drop d at s) }

  -- as many bytes as it has, from there on, are it; and of fewer the same
  pub within-front : (n : ℕ) → n ≤ length x → take n x ≡ take n (drop at s)
  within-front n h =
      let l : length x ≡ min w.many (length (drop at s)) = ap length w.is ∙ length-take w.many (drop at s) in
      ap (take n) w.is ∙ take_twice n w.many (drop at s) ∙ ap (λ (k : ℕ). take k (drop at s)) (let e : min n w.many ≡ n = omega arith in e)

  pub within-own : take (length x) (drop at s) ≡ x
  within-own = sym (within-front (length x) (omega arith)) ∙ all x
    where
      all : (y : Bytes) → take (length y) y ≡ y
      all [] = refl
      all (b ∷ y) = ap (λ (t : Bytes). b ∷ t) (all y)

  -- it is no longer than what it stands in
  pub within-length : length x ≤ length s
  within-length =
      let a : length x ≡ min w.many (length (drop at s)) = ap length w.is ∙ length-take w.many (drop at s) in
      let b = length-drop at s in
      omega arith
