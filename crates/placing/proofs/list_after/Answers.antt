-- `placing::list_after` meets its contract, case by case. Assumes nothing.
use Rattle.std.proofs.Common.{rules, Err}
use mathlib.Core.Path.{◌≡◌, sym}
use native.Mathlib.Omega.{arith}
use lib.Seq.{length-take-le}
use Rattle.placing.proofs.Tests.{refused-listed, no-room-listed, done-listed}
use Rattle.placing.proofs.list_after.Goals as goal

pub returns-in_err-n : goal.returns-in_err-n
returns-in_err-n c =
    let args = c.args in
    let e : c.from_residual.result ≡ Err c.in_err-n.field-0.0 = search rules in
    refused-listed args.card.now args.out.now args.list.now _ e c.in_err-n.was

pub returns-then-out-n : goal.returns-then-out-n
returns-then-out-n c =
    let args = c.args in
    no-room-listed args.card.now args.out.now args.list.now _ c.in_ok-n.was c.if-out-n.true

pub slice_bounds-list_places-end : goal.slice_bounds-list_places-end
slice_bounds-list_places-end c =
    let if1 = c.if-out-n in
    sym (length-take-le _ _ (omega (arith, if1.false)))

pub returns : goal.returns
returns c =
    let if1 = c.if-out-n in
    let args = c.args in
    done-listed args.card.now args.out.now args.list.now _ _ c.in_ok-n.was (omega (arith, if1.false)) _ c.list_places-k.ensures
