-- `heads::head` meets its contract: the bytes of both numbers are divided out. Assumes nothing.
use mathlib.Core.Path.{◌≡◌, refl}
use mathlib.Core.List.{[], ◌∷◌}
use Prim.Native.Nat.{ℕ, ◌/◌}
use native.Mathlib.Omega.{arith}
use lib.ListN.{get_or}
use Rattle.std.specs.Int.{w64, to_le_bytes}
use Rattle.wire.specs.Numbers.{Bytes, le}
use Rattle.heads.specs.Heads.{head_bytes}
use Rattle.heads.proofs.head.Goals as goal

six : (n k : ℕ) (a b : Bytes) → a ≡ to_le_bytes w64 n → b ≡ to_le_bytes w64 k
    → ◌≡◌ {A = Bytes} (get_or a 0 0 ∷ get_or a 1 0 ∷ get_or a 2 0 ∷ get_or a 3 0 ∷ get_or b 0 0 ∷ get_or b 1 0 ∷ []) (head_bytes n k)
unfolding le
six n k a b e f =
    let p : n / 65536 ≡ n / 256 / 256 = omega arith in
    let q : n / 16777216 ≡ n / 256 / 256 / 256 = omega arith in
    rw (e, f) (rw (p, q) refl)

pub returns : goal.returns
returns c = six c.args.n c.args.k _ _ c.to_le_bytes.ensures c.to_le_bytes-2.ensures
