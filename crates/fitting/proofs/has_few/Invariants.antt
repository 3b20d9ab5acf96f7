-- `fitting::has_few` meets its contract. Assumes nothing.
use Prim.Native.Nat.{◌-◌}
use Rattle.fitting.proofs.Tests.{Left}
use Rattle.fitting.proofs.has_few.Given as goal

abbrev pub invariant-loop-i : goal.invariant-loop-i
invariant-loop-i l = Left l.most l.body l.i

abbrev pub decreases-loop-i : goal.decreases-loop-i
decreases-loop-i l = l.end - l.i
