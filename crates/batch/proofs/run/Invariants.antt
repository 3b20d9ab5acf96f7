-- `batch::run` is safe: there is room behind what is at hand. Assumes nothing.
use Rattle.std.proofs.Common.{◌≤◌}
use Rattle.batch.proofs.run.Given as goal

abbrev pub invariant-loop : goal.invariant-loop
invariant-loop g l = l.have ≤ 262143
