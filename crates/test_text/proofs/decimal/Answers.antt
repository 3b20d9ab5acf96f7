-- `test_text::decimal` meets its contract: what the digits say is what those ahead say after those passed. Assumes nothing.
use Rattle.std.proofs.Common.{sym, ◌∙◌, arith}
use Rattle.std.proofs.lemmas.Bool.Decides.{nat_tests}
use Rattle.test_text.proofs.Text.{decimal_more}
use Rattle.test_text.proofs.decimal.Goals as goal

pub loop-b-preserved : goal.loop-b-preserved
loop-b-preserved c =
    let e = decimal_more c.args.s.now c.loop-b.n c.loop-b.b-index c.in-Some.d (omega arith) (sym c.decimal_value.ensures.0 ∙ c.in-Some.is) in
    grind (arith, nat_tests)

pub returns-in_default : goal.returns-in_default
returns-in_default c =
    let e = decimal_more c.args.s.now c.loop-b.n c.loop-b.b-index c.in-Some.d (omega arith) (sym c.decimal_value.ensures.0 ∙ c.in-Some.is) in
    grind (arith, nat_tests)
