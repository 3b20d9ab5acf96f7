-- `growth::charges` meets its contract. Assumes nothing.
use Rattle.growth.proofs.Tests.{charges-not}
use Rattle.growth.proofs.charges.Goals as goal

pub returns : goal.returns
returns c =
    let args = c.args in
    charges-not _ args.k c.if-charged.false
