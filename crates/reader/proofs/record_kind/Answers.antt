-- `reader::record_kind` meets its contract: two bytes, or what there is of them, by the laws of Front. Assumes nothing.
use native.Mathlib.Omega.{arith}
use Rattle.reader.proofs.Front.{kind-is, kind-few}
use Rattle.reader.proofs.record_kind.Goals as goal

pub returns-then-s-ge6 : goal.returns-then-s-ge6
returns-then-s-ge6 c = let k = kind-is c.args.s.now c.from.result c.if-s-ge6.true (omega arith) in (k, omega arith)

pub returns : goal.returns
returns c = kind-few _ _ _ (λ i. (c.type_inv.s i).fits) c.part.ensures c.number.ensures
