-- `adding::settle` meets its contract. Assumes nothing.
use Rattle.chains.specs.Chains.{room}
use Rattle.adding.proofs.Again.{Settling}
use Rattle.adding.proofs.settle.Given as goal

abbrev pub invariant-loop-i : goal.invariant-loop-i
invariant-loop-i l = Settling l.initial.work l.work (room l.initial.work) l.i
