-- `test_text::decimal` meets its contract: what the digits say is what those ahead say after those passed. Assumes nothing.
use Rattle.std.proofs.Common.{◌≡◌, drop}
use Rattle.test_text.specs.Text.{decimal_of}
use Rattle.test_text.proofs.decimal.Given as goal

abbrev pub invariant-loop-b : goal.invariant-loop-b
invariant-loop-b l = decimal_of 0 l.s ≡ decimal_of l.n (drop l.b-index l.s)
