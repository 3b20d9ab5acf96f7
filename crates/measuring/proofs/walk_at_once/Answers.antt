-- `measuring::walk_at_once` meets its contract. Assumes nothing.
use mathlib.Core.Path.{ap}
use Rattle.writing.specs.Wrote.{place_after}
use Rattle.adding.specs.Adds.{table}
use Rattle.measuring.proofs.Tests.{direct-full, direct-gives}
use Rattle.measuring.proofs.walk_at_once.Goals as goal

pub returns-in-Some : goal.returns-in-Some
returns-in-Some c =
    let args = c.args in
    let write-card = c.write_card-w in
    direct-full args.op args.card.now args.root.now args.held.owner (table args.held.pairs args.work.now) write-card.ensures (ap place_after c.in-Some.is)

pub returns : goal.returns
returns c =
    let args = c.args in
    let write-card = c.write_card-w in
    direct-gives args.op args.card.now args.root.now args.held.owner (table args.held.pairs args.work.now) write-card.ensures
    (ap place_after c.in_default.is)
