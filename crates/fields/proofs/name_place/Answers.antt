-- `fields::name_place` meets its contract, by the laws of Module. Assumes nothing.
use native.Mathlib.Omega.{arith}
use Rattle.fields.proofs.Declared.{place_in, place-past}
use Rattle.fields.proofs.name_place.Goals as goal

pub returns-then-at-card : goal.returns-then-at-card
returns-then-at-card c =
    place_in c.args.card.now c.args.at _ _ c.if-at-card.true
    c.part.ensures c.name_at.ensures

pub returns : goal.returns
returns c = place-past c.args.card.now c.args.at (omega (arith, c.if-at-card.false))
