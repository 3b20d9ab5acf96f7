-- `reading::read_root` meets its contract: the number of its place means that place. Assumes nothing.
use Rattle.reading.proofs.Whole.{read-root-is}
use Rattle.reading.proofs.read_root.Goals as goal

pub returns : goal.returns
returns c = read-root-is _ c.args.root.now c.read_one.ensures
