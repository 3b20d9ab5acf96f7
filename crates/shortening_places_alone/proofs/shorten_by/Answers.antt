-- `shortening_places_alone::shorten_by` meets its contract, by the laws of Own. Assumes nothing.
use Rattle.shortening_places_alone.proofs.Own.{alone-kept}
use Rattle.shortening_places_alone.proofs.shorten_by.Goals as goal

pub returns : goal.returns
returns c =
    let args = c.args in
    alone-kept args.pass args.card.now args.root.now args.out.now args.list.now (λ i. (c.type_inv.card i).fits)
    (λ i. (c.type_inv.root i).fits) c.requires.0 args.work.now c.requires.1 c.requires.2 _ _ _ _ c.write_places.ensures
