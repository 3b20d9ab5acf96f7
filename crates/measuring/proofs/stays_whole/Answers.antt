-- `measuring::stays_whole` meets its contract. Assumes nothing.
use Rattle.measuring.proofs.Tests.{stays-not, stays-other}
use Rattle.measuring.proofs.stays_whole.Goals as goal

pub returns-then-card-gt65536 : goal.returns-then-card-gt65536
returns-then-card-gt65536 c =
    let args = c.args in
    let if1 = c.if-card-gt65536 in
    stays-not args.card.now if1.true

pub returns : goal.returns
returns c =
    let args = c.args in
    let if1 = c.if-card-gt65536 in
    let record-kind = c.record_kind in
    stays-other args.card.now if1.false record-kind.ensures.0
