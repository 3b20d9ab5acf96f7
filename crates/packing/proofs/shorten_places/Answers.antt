-- `packing::shorten_places` meets its contract. Assumes nothing.
use Rattle.shortening_places.proofs.Kept.{answered}
use Rattle.packing.proofs.PacksPlaces.{entries_fit, packs-promise}
use Rattle.packing.proofs.shorten_places.Goals as goal

pub pack-requires : goal.pack-requires
pack-requires c =
    let args = c.args in
    let shorten-places = c.shorten_places in
    entries_fit args.pass args.card.now args.root.now args.out.now args.work.now args.list.now
    (λ i. (c.type_inv.card i).fits) _ _ _ (answered shorten-places.ensures)

pub returns : goal.returns
returns c =
    let args = c.args in
    let shorten-places = c.shorten_places in
    let pack = c.pack in
    packs-promise args.pass args.card.now args.root.now args.out.now args.work.now args.list.now
    (λ i. (c.type_inv.card i).fits) _ _ _ args.entries.now _ _ pack.ensures _ shorten-places.ensures
