-- `seeking::pass` meets its contract: what is left of the chain has what the whole has. Assumes nothing.
use Rattle.chains.specs.Chains.{may_be}
use Rattle.chains.proofs.Tests.{Seeking}
use Rattle.seeking.proofs.pass.Given as goal

abbrev pub invariant-loop-p : goal.invariant-loop-p
invariant-loop-p l = Seeking (may_be l.work l.field l.number) l.work l.from l.p

abbrev pub decreases-loop-p : goal.decreases-loop-p
decreases-loop-p l = l.p
