-- THE LAWS OF HEADS: a record whose head is laid before its content, or once that is there. Assumes nothing.
use mathlib.Core.Path.{◌≡◌, ap, ◌∙◌}
use mathlib.Core.List.{◌++◌, append_assoc}
use Prim.Native.Nat.{ℕ, ◌+◌, ◌-◌}
use native.Mathlib.Omega.{arith}
use lib.ListN.{length}
use Rattle.wire.specs.Numbers.{Bytes, le}
use Rattle.records.specs.Record.{record_bytes}
use Rattle.records.proofs.Tree.{record-length}
use Rattle.laying.specs.Lays.{lay, Laid}
use Rattle.laying.proofs.Laws.{lay-behind, lay-ahead}
use Rattle.heads.specs.Heads.{head_bytes}

-- a record whose head is laid once its content is
pub laid-record : (out : Bytes) (at k : ℕ) (b : Bytes) (e : ℕ) (o₁ o₂ : Bytes)
    → Laid out (at + 6) b e o₁ → o₂ ≡ lay o₁ at (head_bytes (e - at - 4) k) → Laid out at (record_bytes k b) e o₂
unfolding le
laid-record out at k b e o₁ o₂ x y = record {
  ends = omega (arith, x.ends, record-length k b);
  bytes = y ∙ rw (x.bytes, long) (lay-ahead out at (head_bytes (2 + length b) k) b) ∙ ap (lay out at) (append_assoc (le 4 (2 + length b)) (le 2 k) b);
}
  where
    long : e - at - 4 ≡ 2 + length b
    long = omega (arith, x.ends)

-- a record's head, then its content behind it
pub lay-record : (out : Bytes) (at k : ℕ) (c : Bytes) (n : ℕ) → n ≡ 2 + length c → lay (lay out at (head_bytes n k)) (at + 6) c ≡ lay out at (record_bytes k c)
unfolding le
lay-record out at k c n e =
    lay-behind out at (head_bytes n k) c
    ∙ ap (lay out at) (append_assoc (le 4 n) (le 2 k) c ∙ ap (λ (m : ℕ). le 4 m ++ (le 2 k ++ c)) e)
