-- `placing::write_places` meets its contract. Assumes nothing.
use native.Mathlib.Omega.{arith}
use Rattle.placing.proofs.Tests.{first_gives, counted-gives}
use Rattle.placing.proofs.write_places.Goals as goal

pub returns-then-card-list : goal.returns-then-card-list
returns-then-card-list c =
    let list-after = c.list_after in
    let write = c.write-w in
    let if1 = c.if-card-list in
    let args = c.args in
    let plain = c.plain in
    first_gives args.pass args.card.now args.root.now args.out.now args.work.now args.list.now _ plain.ensures if1.true
    write.ensures list-after.ensures

pub returns : goal.returns
returns c =
    let count-first = c.count_first in
    let if1 = c.if-card-list in
    let args = c.args in
    counted-gives args.pass args.card.now args.root.now args.out.now args.work.now args.list.now (omega (arith, if1.false))
    count-first.ensures
