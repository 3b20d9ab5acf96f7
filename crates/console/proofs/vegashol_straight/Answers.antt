-- `console::vegashol_straight` meets its contract, which is `packing`'s for its pass. Assumes nothing.
use Rattle.console.proofs.vegashol_straight.Goals as goal

pub returns : goal.returns
returns c =
    let shorten-alone = c.shorten_alone in
    shorten-alone.ensures
