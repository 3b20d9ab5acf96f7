-- `reader::number` meets its contract, byte by byte. Assumes nothing.
use mathlib.Core.Path.{◌≡◌, refl}
use mathlib.Core.List.{[], ◌∷◌}
use Prim.Native.Nat.{◌<◌}
use lib.ListN.{length}
use native.Mathlib.Omega.{arith}
use Rattle.wire.specs.Numbers.{Bytes, num}
use Rattle.reader.proofs.Front.{number-more}
use Rattle.reader.proofs.+number.Goals as goal

none : (s : Bytes) → length s < 1 → 0 ≡ num s
unfolding num
none [] h = refl
none (b ∷ s) h = absurd (omega arith)

pub overflow_mul-result : goal.overflow_mul-result
overflow_mul-result t c =
    let n = number-more _ _ _ (λ i. (c.type_inv.s i).fits) c.in-len1-up.len_at_least c.requires c.from.ensures c.number.ensures in
    omega arith

pub overflow_add-result : goal.overflow_add-result
overflow_add-result t c =
    let n = number-more _ _ _ (λ i. (c.type_inv.s i).fits) c.in-len1-up.len_at_least c.requires c.from.ensures c.number.ensures in
    omega arith

pub returns-in-empty : goal.returns-in-empty
returns-in-empty t c = none c.args.s.now (omega (arith, c.in-empty.len_below))

pub returns-in-len1-up : goal.returns-in-len1-up
returns-in-len1-up t c = (number-more _ _ _ (λ i. (c.type_inv.s i).fits) c.in-len1-up.len_at_least c.requires c.from.ensures c.number.ensures).0
