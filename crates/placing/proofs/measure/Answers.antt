-- `placing::measure` meets its contract. Assumes nothing.
use mathlib.Core.Path.{refl, ap}
use Rattle.writing.specs.Wrote.{place_after}
use Rattle.placing.proofs.Tests.{measured-leaves, measured-full, measured-tally}
use Rattle.placing.proofs.measure.Goals as goal

pub returns-in-Some : goal.returns-in-Some
returns-in-Some c =
    let args = c.args in
    let l = measured-leaves args.pass _ c.weighed-op.ensures args.card.now args.root.now args.work.now args.out.now c.write_card-m.ensures in (
      measured-full args.pass _ c.weighed-op.ensures args.card.now args.root.now args.work.now args.out.now c.write_card-m.ensures
          (ap place_after c.in-Some.is),
      l.0,
      l.1,
    )

pub returns : goal.returns
returns c =
    let args = c.args in
    let l = measured-leaves args.pass _ c.weighed-op.ensures args.card.now args.root.now args.work.now args.out.now c.write_card-m.ensures in (
      measured-tally args.pass _ c.weighed-op.ensures args.card.now args.root.now args.work.now args.out.now c.write_card-m.ensures
          (ap place_after c.in_default.is) _ refl,
      l.0,
      l.1,
    )
