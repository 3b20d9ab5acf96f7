-- `reader::number` meets its contract: a byte less each time. Assumes nothing.
use lib.ListN.{length}
use Rattle.reader.proofs.+number.Given as goal

abbrev pub decreases-number : goal.decreases-number
decreases-number l = length l.s.now
