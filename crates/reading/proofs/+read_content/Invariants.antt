-- `reading::read_content` meets its contract. It calls itself, and what falls is how deep records may go. Each need is a law of Turns.
-- Assumes nothing.
use Prim.Native.Nat.{◌-◌}
use Rattle.wire.specs.Numbers.{between}
use Rattle.reading.specs.Reads.{reads}
use Rattle.reading.specs.Codes.{row_content}
use Rattle.reading.proofs.Turns.{Turn}
use Rattle.reading.proofs.+read_content.Given as goal

abbrev pub decreases-read_content : goal.decreases-read_content
decreases-read_content l = l.deep

abbrev pub invariant-loop-i : goal.invariant-loop-i
invariant-loop-i l = Turn (reads l.deep (row_content l.first) l.from (between l.card l.from l.to)) l.card l.to l.deep l.i l.row l.left

abbrev pub decreases-loop-i : goal.decreases-loop-i
decreases-loop-i l = l.to - l.i
