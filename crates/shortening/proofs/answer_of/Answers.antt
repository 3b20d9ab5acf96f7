-- `shortening::answer_of` meets its contract, case by case. Assumes nothing.
use Rattle.std.proofs.Common.{rules, Err}
use mathlib.Core.Path.{◌≡◌}
use native.Mathlib.Omega.{arith}
use Rattle.shortening.proofs.Kept.{answer-refused, answer-no-space, answer-room}
use Rattle.shortening.proofs.answer_of.Goals as goal

pub returns-in_err-n : goal.returns-in_err-n
returns-in_err-n c =
    let e : c.from_residual.result ≡ Err c.in_err-n.field-0.0 = search rules in
    answer-refused _ _ e c.in_err-n.was

pub returns-then-lent-n : goal.returns-then-lent-n
returns-then-lent-n c = answer-no-space _ _ _ c.in_ok-n.was c.if-lent-n.true

pub returns : goal.returns
returns c =
    let if1 = c.if-lent-n in
    answer-room _ _ _ c.in_ok-n.was (omega (arith, if1.false))
