-- `importing::write_use` meets its contract. Assumes nothing.
use Rattle.importing.proofs.Pieces.{use-laid}
use Rattle.importing.proofs.write_use.Goals as goal

pub returns : goal.returns
returns c =
    let args = c.args in
    let lay-head = c.lay_head in
    let lay-head2 = c.lay_head-2 in
    let lay-head3 = c.lay_head-3 in
    let lay = c.lay in
    let write-selection = c.write_selection in
    use-laid args.name.now args.base.now args.out.now args.at _ _ _ _ _ _
    lay-head.ensures lay-head2.ensures lay-head3.ensures lay.ensures write-selection.ensures
