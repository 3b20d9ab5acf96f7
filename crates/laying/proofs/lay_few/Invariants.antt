-- `laying::lay_few` meets its contract: byte by byte, by the laws of Loop. Assumes nothing.
use Rattle.laying.proofs.Loop.{Laying}
use Rattle.laying.proofs.lay_few.Given as goal

abbrev pub invariant-loop-k : goal.invariant-loop-k
invariant-loop-k l = Laying l.src l.initial.out l.at l.n l.out l.k
