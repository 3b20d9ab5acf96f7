-- `fields::offset_of` meets its contract: record by record, by the laws of Offsets. Assumes nothing.
use Prim.Native.Nat.{◌-◌}
use Rattle.fields.proofs.Offsets.{Passed}
use Rattle.fields.proofs.offset_of.Given as goal

abbrev pub invariant-loop : goal.invariant-loop
invariant-loop l = Passed l.s l.i l.o (l.i - l.counter)
