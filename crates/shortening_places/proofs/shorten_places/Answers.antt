-- `shortening_places::shorten_places` meets its contract, by the laws of Kept. Assumes nothing.
use Rattle.std.proofs.Common.{rules, Err}
use mathlib.Core.Path.{◌≡◌, refl}
use Rattle.work.proofs.Lent.{within, taken}
use Rattle.shortening_places.proofs.Kept.{refused, kept}
use Rattle.shortening_places.proofs.shorten_places.Goals as goal

pub returns-in_err-admit : goal.returns-in_err-admit
returns-in_err-admit c =
    let args = c.args in
    let e : c.from_residual.result ≡ Err c.in_err-admit.field-0.0 = search rules in
    refused args.pass args.card.now args.root.now args.out.now args.work.now args.list.now (λ i. (c.type_inv.card i).fits)
    (λ i. (c.type_inv.root i).fits) _ c.in_err-admit.ensures _ e refl

pub slice_bounds-write_places-end : goal.slice_bounds-write_places-end
slice_bounds-write_places-end c =
    let for-table = c.for_table-used in
    let args = c.args in
    within args.work.now _ for-table.ensures

pub slice_bounds-write_places-end-2 : goal.slice_bounds-write_places-end-2
slice_bounds-write_places-end-2 c =
    let for-table = c.for_table-used in
    let args = c.args in
    taken args.work.now _ for-table.ensures

pub returns : goal.returns
returns c =
    let clear = c.clear in
    let write-places = c.write_places-r in
    let args = c.args in
    let for-table = c.for_table-used in
    kept args.pass args.card.now args.root.now args.out.now args.work.now args.list.now (λ i. (c.type_inv.card i).fits)
    (λ i. (c.type_inv.root i).fits) _ c.in_ok-admit.ensures refl _ for-table.ensures _ _ _ _
    write-places.ensures _ clear.ensures
