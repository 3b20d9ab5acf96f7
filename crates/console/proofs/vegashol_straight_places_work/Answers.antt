-- `console::vegashol_straight_places_work` meets its contract, which is `packing`'s for its pass. Assumes nothing.
use Rattle.console.proofs.vegashol_straight_places_work.Goals as goal

pub returns : goal.returns
returns c =
    let shorten-places = c.shorten_places in
    shorten-places.ensures
