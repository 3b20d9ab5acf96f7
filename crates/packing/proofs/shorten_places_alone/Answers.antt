-- `packing::shorten_places_alone` meets its contract. Assumes nothing.
use lib.ListN.{replicate}
use Rattle.packing.proofs.PacksPlaces.{entries_fit, packs}
use Rattle.packing.proofs.shorten_places_alone.Goals as goal

pub pack-requires : goal.pack-requires
pack-requires c =
    let args = c.args in
    let shorten-places-alone = c.shorten_places_alone in
    entries_fit args.pass args.card.now args.root.now args.out.now (replicate 2048 0) args.list.now
    (λ i. (c.type_inv.card i).fits) _ _ _ shorten-places-alone.ensures

pub returns : goal.returns
returns c =
    let args = c.args in
    let shorten-places-alone = c.shorten_places_alone in
    let pack = c.pack in
    packs args.pass args.card.now args.root.now args.out.now (replicate 2048 0) args.list.now
    (λ i. (c.type_inv.card i).fits) _ _ _ args.entries.now _ _ pack.ensures shorten-places-alone.ensures
