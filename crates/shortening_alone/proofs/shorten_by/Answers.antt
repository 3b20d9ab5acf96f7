-- `shortening_alone::shorten_by` meets its contract, by the laws of Own. Assumes nothing.
use Rattle.shortening_alone.proofs.Own.{alone-kept}
use Rattle.shortening_alone.proofs.shorten_by.Goals as goal

pub returns : goal.returns
returns c =
    let args = c.args in
    let plain = c.plain in
    let write = c.write-w in
    let answer-of = c.answer_of in
    alone-kept args.pass args.card.now args.root.now args.out.now (λ i. (c.type_inv.card i).fits) (λ i. (c.type_inv.root i).fits) c.requires.0
    _ plain.ensures args.work.now c.requires.1 c.requires.2 _ _ _ write.ensures _ answer-of.ensures
