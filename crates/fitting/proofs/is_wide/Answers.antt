-- `fitting::is_wide` meets its contract, by the operation. Assumes nothing.
use mathlib.Core.Path.{sym, ◌∙◌}
use Rattle.fitting.proofs.Tests.{wide-again, wide-once}
use Rattle.fitting.proofs.is_wide.Goals as goal

pub returns-then-walks_again : goal.returns-then-walks_again
returns-then-walks_again c =
    let args = c.args in
    let walks-again = c.walks_again in
    let if1 = c.if-walks_again in
    wide-again args.op args.card args.out (sym walks-again.ensures ∙ if1.true)

pub returns : goal.returns
returns c =
    let args = c.args in
    let walks-again = c.walks_again in
    let if1 = c.if-walks_again in
    wide-once args.op args.card args.out (sym walks-again.ensures ∙ if1.false)
