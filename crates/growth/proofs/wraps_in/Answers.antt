-- `growth::wraps_in` meets its contract, test by test. Assumes nothing.
use mathlib.Core.Path.{sym, ◌∙◌}
use borrow.Author.Tests.{not-true, not-false}
use Rattle.growth.proofs.Tests.{wraps-not, wraps-type, wraps-expr, wraps-none}
use mathlib.Core.Path.{ap}
use mathlib.Core.Bool.{not}
use Rattle.growth.proofs.wraps_in.Goals as goal

pub returns-then-not-again : goal.returns-then-not-again
returns-then-not-again c =
    let args = c.args in
    wraps-not args.again args.w args.k (not-true _ (ap not c.if-not-again.true))

pub returns-then-stands : goal.returns-then-stands
returns-then-stands c =
    let args = c.args in
    wraps-type args.again args.w args.k (not-false _ (ap not c.if-not-again.false)) (sym c.stands.ensures ∙ c.if-stands.true)

pub returns-then-stands-2 : goal.returns-then-stands-2
returns-then-stands-2 c =
    let args = c.args in
    wraps-expr args.again args.w args.k (not-false _ (ap not c.if-not-again.false)) (sym c.stands.ensures ∙ c.if-stands.false)
    (sym c.stands-2.ensures ∙ c.if-stands-2.true)

pub returns : goal.returns
returns c =
    let args = c.args in
    wraps-none args.again args.w args.k (sym c.stands.ensures ∙ c.if-stands.false)
    (sym c.stands-2.ensures ∙ c.if-stands-2.false)
