-- `measuring::measure_first` meets its contract, test by test. Assumes nothing.
use native.Mathlib.Omega.{arith}
use mathlib.Core.Path.{ap}
use Rattle.writing.specs.Wrote.{place_after}
use Rattle.adding.specs.Adds.{table}
use Rattle.measuring.proofs.Tests.{full-gives, no-room-gives, room-gives}
use Rattle.measuring.proofs.measure_first.Goals as goal

pub returns-in-Some : goal.returns-in-Some
returns-in-Some c =
    let args = c.args in
    let write-card = c.write_card-m in
    full-gives args.op args.card.now args.root.now args.held.owner (table args.held.pairs args.work.now) args.out.now write-card.ensures
    (ap place_after c.in-Some.is)

pub returns-then-out-n : goal.returns-then-out-n
returns-then-out-n c =
    let args = c.args in
    let write-card = c.write_card-m in
    let if2 = c.if-out-n in
    no-room-gives args.op args.card.now args.root.now args.held.owner (table args.held.pairs args.work.now) args.out.now write-card.ensures
    (ap place_after c.in_default.is) if2.true

pub returns : goal.returns
returns c =
    let args = c.args in
    let write-card = c.write_card-m in
    let if2 = c.if-out-n in
    let write-card2 = c.write_card in
    room-gives args.op args.card.now args.root.now args.held.owner (table args.held.pairs args.work.now) args.out.now write-card.ensures
    (ap place_after c.in_default.is) (omega (arith, if2.false)) write-card2.ensures
