-- `shortening::shorten` meets its contract, by the laws of Kept. Assumes nothing.
use Rattle.std.proofs.Common.{rules, Err}
use mathlib.Core.Path.{◌≡◌, refl}
use Rattle.work.proofs.Lent.{within, taken}
use Rattle.shortening.proofs.Kept.{refused, kept}
use Rattle.shortening.proofs.shorten.Goals as goal

pub returns-in_err-admit : goal.returns-in_err-admit
returns-in_err-admit c =
    let args = c.args in
    let e : c.from_residual.result ≡ Err c.in_err-admit.field-0.0 = search rules in
    refused args.pass args.card.now args.root.now args.out.now args.work.now (λ i. (c.type_inv.card i).fits)
    (λ i. (c.type_inv.root i).fits) _ c.in_err-admit.ensures _ e refl

pub slice_bounds-write-end : goal.slice_bounds-write-end
slice_bounds-write-end c =
    let args = c.args in
    let for-table = c.for_table-used in
    within args.work.now _ for-table.ensures

pub slice_bounds-write-end-2 : goal.slice_bounds-write-end-2
slice_bounds-write-end-2 c =
    let args = c.args in
    let for-table = c.for_table-used in
    taken args.work.now _ for-table.ensures

pub returns : goal.returns
returns c =
    let args = c.args in
    let write = c.write-w in
    let clear = c.clear in
    let answer-of = c.answer_of in
    let plain = c.plain in
    let for-table = c.for_table-used in
    kept args.pass args.card.now args.root.now args.out.now args.work.now (λ i. (c.type_inv.card i).fits)
    (λ i. (c.type_inv.root i).fits) _ c.in_ok-admit.ensures refl _ for-table.ensures _ plain.ensures _ _ _ write.ensures _
    clear.ensures _ answer-of.ensures
