-- `replacing::deeper` meets its contract. Assumes nothing.
use Rattle.replacing.proofs.Ring.{deeper-again, deeper-not}
use Rattle.replacing.proofs.deeper.Goals as goal

pub returns-then-again : goal.returns-then-again
returns-then-again c =
    let if1 = c.if-again in
    deeper-again _ _ if1.true

pub returns : goal.returns
returns c =
    let if1 = c.if-again in
    deeper-not _ _ if1.false
