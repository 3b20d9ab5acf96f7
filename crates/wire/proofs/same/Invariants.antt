-- `wire::same` meets its contract: eight bytes at a time, by the laws of Alike. Assumes nothing.
use Prim.Native.Nat.{◌*◌}
use Rattle.wire.proofs.Alike.{Alike}
use Rattle.wire.proofs.same.Given as goal

abbrev pub invariant-loop-i : goal.invariant-loop-i
invariant-loop-i l = Alike l.a l.b (8 * l.i)
