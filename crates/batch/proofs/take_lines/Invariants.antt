-- `batch::take_lines` is safe and ends: what is left is an end of the text at hand, and each turn leaves less. Assumes nothing.
use Rattle.std.proofs.Common.{length, ◌≤◌}
use Rattle.batch.proofs.take_lines.Given as goal

abbrev pub invariant-loop-line : goal.invariant-loop-line
invariant-loop-line g l = length l.rest ≤ l.initial.all

abbrev pub decreases-loop-line : goal.decreases-loop-line
decreases-loop-line g l = length l.rest
