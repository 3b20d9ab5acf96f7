-- The table of the code, made from the rows, and what stands in it. Assumes nothing.
use mathlib.Core.Path.{◌≡◌, refl, ap}
use mathlib.Core.List.{map}
use Prim.Native.Nat.{ℕ, zero, suc, ◌+◌, ◌<◌}
use native.Mathlib.Nat.{add-zero, le_of_suc-le-suc, not-suc-le-zero}
use native.Mathlib.Omega.{arith}
use native.Mathlib.Decide.{dec_le}
use lib.ListN.{length, get_or, get_or-eq_default}
use Rattle.wire.specs.Numbers.{num}
use Rattle.records.specs.Kinds.{row_of}
use Rattle.rows.specs.Codes.{code_of, table_from, table}
use Rattle.rows.proofs.Codes.{row-past}

-- the row of a kind, also past the table
table_from-at : (n a k : ℕ) → k < n → get_or (table_from n a) k 0 ≡ num (map code_of (row_of (a + k)))
unfolding table_from
table_from-at zero a k h = absurd (not-suc-le-zero h)
table_from-at (suc n) a zero h = rw (add-zero a)
table_from-at (suc n) a (suc k) h = let e : a + suc k ≡ suc a + k = omega arith in rw e (table_from-at n (suc a) k (le_of_suc-le-suc h))

table_from-length : (n a : ℕ) → length (table_from n a) ≡ n
unfolding table_from
table_from-length zero a = refl
table_from-length (suc n) a = ap suc (table_from-length n (suc a))

pub table_at : (k : ℕ) → get_or table k 0 ≡ num (map code_of (row_of k))
unfolding table num
table_at k =
    elim (dec_le 135 k) [
      | yes h ↦ let l = table_from-length 135 0 in rw (row-past k h) (get_or-eq_default (table_from 135 0) 0 {n = k} (omega arith))
      | no h ↦ let e : 0 + k ≡ k = omega arith in rw e at (table_from-at 135 0 k (omega arith))
    ]
