-- `reader::record_length` meets its contract: four bytes, or what there is of them, by a law of Front. Assumes nothing.
use native.Mathlib.Omega.{arith}
use Rattle.reader.proofs.Front.{length-few}
use Rattle.reader.proofs.record_length.Goals as goal

pub returns : goal.returns
returns c = length-few _ _ (λ i. (c.type_inv.s i).fits) (omega (arith, c.if-s-ge4.false)) c.number.ensures
