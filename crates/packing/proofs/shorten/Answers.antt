-- `packing::shorten` meets its contract. Assumes nothing.
use Rattle.packing.proofs.Packs.{packs-promise}
use Rattle.packing.proofs.shorten.Goals as goal

pub returns : goal.returns
returns c =
    let args = c.args in
    let shorten = c.shorten in
    let packed = c.packed in
    packs-promise args.pass args.card.now args.root.now args.out.now args.work.now (λ i. (c.type_inv.card i).fits) _ _ _
    packed.ensures _ shorten.ensures
