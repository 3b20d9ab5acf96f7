-- `console::vegashol_straight_places` meets its contract, which is `packing`'s for its pass. Assumes nothing.
use Rattle.console.proofs.vegashol_straight_places.Goals as goal

pub returns : goal.returns
returns c =
    let shorten-places-alone = c.shorten_places_alone in
    shorten-places-alone.ensures
