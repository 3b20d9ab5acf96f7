-- `wire::same_few` meets its contract: byte by byte, by the laws of Alike. Assumes nothing.
use Rattle.wire.proofs.Alike.{Alike}
use Rattle.wire.proofs.same_few.Given as goal

abbrev pub invariant-loop-i : goal.invariant-loop-i
invariant-loop-i l = Alike l.a l.b l.i
