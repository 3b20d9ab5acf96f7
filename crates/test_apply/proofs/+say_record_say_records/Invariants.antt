-- `test_apply::say_record` and `test_apply::say_records` are safe and end: the remaining depth falls. Assumes nothing.
use Rattle.std.proofs.Common.{◌+◌, ◌*◌, length}
use Rattle.test_apply.proofs.+say_record_say_records.Given as goal

abbrev pub decreases-say_record : goal.decreases-say_record
decreases-say_record g l = 2 * l.left

abbrev pub decreases-say_records : goal.decreases-say_records
decreases-say_records g l = 2 * l.left + 1

abbrev pub decreases-say_records-loop-rest : goal.decreases-say_records-loop-rest
decreases-say_records-loop-rest g l = length l.rest
