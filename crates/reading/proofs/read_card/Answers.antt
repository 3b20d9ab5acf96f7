-- `reading::read_card` meets its contract: the number of its place means that place. Assumes nothing.
use Rattle.reading.proofs.Whole.{read-card-is}
use Rattle.reading.proofs.read_card.Goals as goal

pub returns : goal.returns
returns c = read-card-is _ c.args.card.now c.read_one.ensures
