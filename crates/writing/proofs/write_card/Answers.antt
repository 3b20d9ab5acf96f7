-- `writing::write_card` meets its contract. Assumes nothing.
use native.Mathlib.Omega.{arith}
use Rattle.writing.proofs.Tests.{card-long, card-within, card-gives}
use Rattle.writing.proofs.write_card.Goals as goal

pub returns-then-n-gt65536 : goal.returns-then-n-gt65536
returns-then-n-gt65536 c =
    let args = c.args in
    let if1 = c.if-n-gt65536 in
    card-long args.op args.card.now args.root.now args.held.owner args.held.pairs args.work.now args.out.now if1.true

pub write_module-requires : goal.write_module-requires
write_module-requires c =
    let args = c.args in
    let if1 = c.if-n-gt65536 in
    card-within args.op args.card.now args.root.now args.held.owner args.held.pairs args.work.now args.out.now (omega (arith, if1.false))

pub returns : goal.returns
returns c =
    let args = c.args in
    let if1 = c.if-n-gt65536 in
    let write-module = c.write_module in
    card-gives args.op args.card.now args.root.now args.held.owner args.held.pairs args.work.now args.out.now (omega (arith, if1.false)) _ _ _ _
    _ _ write-module.ensures
