-- `laying::lay` meets its contract: eight bytes a turn, by the laws of Loop. Assumes nothing.
use Prim.Native.Nat.{◌*◌}
use Rattle.laying.proofs.Loop.{Laying}
use Rattle.laying.proofs.lay.Given as goal

abbrev pub invariant-loop-i : goal.invariant-loop-i
invariant-loop-i l = Laying l.src l.initial.out l.at l.n l.out (8 * l.i)
