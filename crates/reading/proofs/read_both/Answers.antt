-- `reading::read_both` meets its contract, by the laws of Whole. Assumes nothing.
use Rattle.reading.proofs.Whole.{both-card, both-root}
use Rattle.reading.proofs.read_both.Goals as goal

pub returns-in-Ok : goal.returns-in-Ok
returns-in-Ok c = both-card _ _ c.args.root.now c.args.card.now c.read_one-v.ensures c.in-Ok.is c.read_one.ensures

pub returns-in-Err : goal.returns-in-Err
returns-in-Err c = both-root _ _ c.args.root.now c.args.card.now c.read_one-v.ensures c.in-Err.is
