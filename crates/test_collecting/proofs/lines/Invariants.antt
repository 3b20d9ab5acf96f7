-- `test_collecting::lines` ends: each turn leaves less. Assumes nothing.
use Rattle.std.proofs.Common.{length}
use Rattle.test_collecting.proofs.lines.Given as goal

abbrev pub decreases-loop-rest : goal.decreases-loop-rest
decreases-loop-rest g l = length l.rest
