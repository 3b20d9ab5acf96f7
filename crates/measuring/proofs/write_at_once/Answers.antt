-- `measuring::write_at_once` meets its contract. Assumes nothing.
use Rattle.adding.specs.Adds.{table}
use Rattle.measuring.proofs.Tests.{direct-whole}
use Rattle.measuring.proofs.write_at_once.Goals as goal

pub returns-then-stays_whole : goal.returns-then-stays_whole
returns-then-stays_whole c =
    let args = c.args in
    let stays-whole = c.stays_whole in
    let if1 = c.if-stays_whole in
    let lay = c.lay in
    direct-whole args.card.now stays-whole.ensures if1.true args.op args.root.now args.held.owner (table args.held.pairs args.work.now)
    args.out.now lay.ensures
