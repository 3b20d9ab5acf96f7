-- What is at most another and not that is less. Assumes nothing.
use mathlib.Core.Path.{◌≡◌}
use Prim.Native.Nat.{ℕ, ◌<◌, ◌≤◌}
use native.Mathlib.Omega.{arith}
use native.Mathlib.Decide.{dec_lt}

pub less : (a b : ℕ) → a ≤ b → (a ≡ b → ⊥) → a < b
less a b l n =
    elim (dec_lt a b) [
      | yes h ↦ h
      | no h ↦ absurd (n (omega (arith, h)))
    ]

pub at_least_one : (m : ℕ) → (m ≡ 0 → ⊥) → 1 ≤ m
at_least_one m n = let h : 0 < m = less 0 m (omega arith) (λ e. n (let z : m ≡ 0 = omega arith in z)) in omega arith
