-- `packing::pack` meets its contract. Assumes nothing.
use mathlib.Core.Path.{refl}
use Rattle.packing.proofs.PacksPlaces.{left}
use Rattle.packing.proofs.pack.Goals as goal

pub returns-in-Ok : goal.returns-in-Ok
returns-in-Ok c = rw c.in-Ok.is (c.packed.ensures, refl)

pub returns-in-Err : goal.returns-in-Err
returns-in-Err c = rw c.in-Err.is (c.packed-in-Err.ensures, left c.in-Err.refusal _)
