-- A number that lies in a written-out run of numbers is one of them. Assumes nothing.
use mathlib.Core.Path.{◌≡◌, refl, subst}
use mathlib.Core.Bool.{Bool, true, false, ◌&&◌, false≢true}
use Prim.Native.Nat.{ℕ, zero, suc, ◌+◌, ◌≤◌}
use native.Mathlib.Omega.{arith}
use native.Mathlib.Decide.{dec_le}
use lib.Dec.{leb}
use borrow.Author.Tests.{leb-true}

-- P of from, of from + 1, .. and of from + n: at literals a tuple of so many places
abbrev pub Run : (ℕ → Type 0) → ℕ → ℕ → Type 0
Run P from zero = P from
Run P from (suc n) = P from × Run P (suc from) n

infixr 20 ◌⨾◌
abbrev pub ◌⨾◌ : {A B : Type 0} → A → B → A × B
◌⨾◌ a b = (a, b)

module _ (P : ℕ → Type 0) where
  pub run : (from n : ℕ) → Run P from n → (k : ℕ) → from ≤ k → k ≤ from + n → P k
  run from zero x k low high =
      let same : from ≡ k = omega arith in
      subst P same x
  run from (suc n) x k low high =
      elim (dec_le (suc from) k) [
        | yes above ↦ run (suc from) n x.1 k above (omega arith)
        | no here ↦ (let same : from ≡ k = omega arith in subst P same x.0)
      ]

pub both : (a b : Bool) → a && b ≡ true → (a ≡ true) × (b ≡ true)
both true b e = (refl, e)
both false b e = absurd (false≢true e)

pub within : (from to k : ℕ) → leb from k && leb k to ≡ true → (from ≤ k) × (k ≤ to)
within from to k e =
    let h = both (leb from k) (leb k to) e in
    (leb-true from k h.0, leb-true k to h.1)

pub in-run : (P : ℕ → Type 0) (from n : ℕ) → Run P from n → (k : ℕ) → leb from k && leb k (from + n) ≡ true → P k
in-run P from n x k e =
    let h = within from (from + n) k e in
    run P from n x k h.0 h.1
