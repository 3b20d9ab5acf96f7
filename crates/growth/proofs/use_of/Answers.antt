-- `growth::use_of` meets its contract. Assumes nothing.
use Rattle.growth.proofs.Tests.{use-charged}
use Rattle.growth.proofs.use_of.Goals as goal

pub returns-then-charged : goal.returns-then-charged
returns-then-charged c =
    let args = c.args in
    use-charged _ args.n c.if-charged.true
