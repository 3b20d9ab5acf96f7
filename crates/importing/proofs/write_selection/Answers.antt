-- `importing::write_selection` meets its contract. Assumes nothing.
use Rattle.importing.proofs.Pieces.{selection-laid}
use Rattle.importing.proofs.write_selection.Goals as goal

pub returns : goal.returns
returns c =
    let args = c.args in
    let lay-head = c.lay_head in
    let lay = c.lay in
    let lay-head2 = c.lay_head-2 in
    let lay2 = c.lay-2 in
    selection-laid args.name.now args.base.now args.out.now args.at _ _ _ _
    lay-head.ensures lay.ensures lay-head2.ensures lay2.ensures
