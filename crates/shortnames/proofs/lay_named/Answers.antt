-- `shortnames::lay_named` meets its contract. Assumes nothing.
use Rattle.shortnames.proofs.Wraps.{named-laid}
use Rattle.shortnames.proofs.lay_named.Goals as goal

pub returns : goal.returns
returns c =
    let lay-head = c.lay_head in
    let lay-head2 = c.lay_head-2 in
    let lay = c.lay in
    named-laid _ _ _ _ _ _ _ lay-head.ensures lay-head2.ensures lay.ensures
