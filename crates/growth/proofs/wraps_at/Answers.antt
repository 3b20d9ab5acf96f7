-- `growth::wraps_at` meets its contract. Assumes nothing.
use mathlib.Core.Path.{◌∙◌}
use Rattle.growth.proofs.Tests.{wraps-large, wraps-small}
use Rattle.growth.proofs.wraps_at.Goals as goal

pub returns-then-w-gt65536 : goal.returns-then-w-gt65536
returns-then-w-gt65536 c =
    let args = c.args in
    let if1 = c.if-w-gt65536 in
    wraps-large args.again args.w args.k if1.true

pub returns : goal.returns
returns c =
    let args = c.args in
    let if1 = c.if-w-gt65536 in
    let wraps-in = c.wraps_in in
    wraps-in.ensures ∙ wraps-small args.again args.w args.k if1.false
