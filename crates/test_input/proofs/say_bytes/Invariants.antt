-- `test_input::say_bytes` is safe: each part has room in the text. Assumes nothing.
use Rattle.std.proofs.Common.{◌≡◌}
use Rattle.test_input.proofs.say_bytes.Given as goal

abbrev pub invariant-loop-part : goal.invariant-loop-part
invariant-loop-part g l =
    (goal.iterator-loop-part g).can_next l.part-iterator
    × (goal.iterator-loop-part g).is_finite l.part-iterator
    × (l.part-iterator.size ≡ 1024)
