-- `placing::count_first` meets its contract, test by test. Assumes nothing.
use Rattle.std.proofs.Common.{rules, Err}
use mathlib.Core.Path.{◌≡◌, refl, sym}
use native.Mathlib.Omega.{arith}
use lib.Seq.{length-take-le}
use Rattle.placing.proofs.Tests.{refused-gives, no-room-gives, few-words-gives, written-long, done-gives}
use Rattle.placing.proofs.count_first.Goals as goal

pub returns-in_err-t : goal.returns-in_err-t
returns-in_err-t c =
    let args = c.args in
    let e : c.from_residual.result ≡ Err c.in_err-t.field-0.0 = search rules in
    refused-gives args.pass args.card.now args.root.now args.work.now args.list.now args.out.now c.in_err-t.ensures _ e refl

pub returns-then-out-n : goal.returns-then-out-n
returns-then-out-n c =
    let if2 = c.if-out-n in
    let args = c.args in
    no-room-gives args.pass args.card.now args.root.now args.work.now args.list.now args.out.now c.in_ok-t.ensures
    refl if2.true

pub returns-then-list-k : goal.returns-then-list-k
returns-then-list-k c =
    let if3 = c.if-list-k in
    let if2 = c.if-out-n in
    let args = c.args in
    few-words-gives args.pass args.card.now args.root.now args.work.now args.list.now args.out.now c.in_ok-t.ensures
    refl
    (omega (arith, if2.false)) if3.true

pub slice_bounds-list_places-end-2 : goal.slice_bounds-list_places-end-2
slice_bounds-list_places-end-2 c =
    let plain = c.plain in
    let write-card = c.write_card in
    let if2 = c.if-out-n in
    let args = c.args in
    sym (length-take-le _ _ (let l = written-long args.pass args.card.now args.root.now args.work.now args.list.now args.out.now
    c.in_ok-t.ensures
    refl (omega (arith, if2.false)) _ plain.ensures write-card.ensures in omega (arith, if2.false, l)))

pub returns : goal.returns
returns c =
    let list-places = c.list_places in
    let plain = c.plain in
    let write-card = c.write_card in
    let if3 = c.if-list-k in
    let if2 = c.if-out-n in
    let args = c.args in
    done-gives args.pass args.card.now args.root.now args.work.now args.list.now args.out.now c.in_ok-t.ensures
    refl
    (omega (arith, if2.false)) _ plain.ensures write-card.ensures (omega (arith, if3.false)) list-places.ensures
