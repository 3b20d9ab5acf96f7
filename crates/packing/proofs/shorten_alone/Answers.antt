-- `packing::shorten_alone` meets its contract. Assumes nothing.
use lib.ListN.{replicate}
use Rattle.packing.proofs.Packs.{packs}
use Rattle.packing.proofs.shorten_alone.Goals as goal

pub returns : goal.returns
returns c =
    let args = c.args in
    let shorten-alone = c.shorten_alone in
    let packed = c.packed in
    packs args.pass args.card.now args.root.now args.out.now (replicate 2048 0) (λ i. (c.type_inv.card i).fits) _ _ _
    packed.ensures shorten-alone.ensures
