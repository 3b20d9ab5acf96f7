-- `test_text::decode` meets its contract. Assumes nothing.
use Rattle.test_text.proofs.Text.{Filled}
use Rattle.test_text.proofs.decode.Given as goal

abbrev pub invariant-loop-n : goal.invariant-loop-n
invariant-loop-n l = Filled l.s l.initial.out l.n l.out
