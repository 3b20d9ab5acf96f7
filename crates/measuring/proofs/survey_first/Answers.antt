-- `measuring::survey_first` meets its contract: which of the two. Assumes nothing.
use mathlib.Core.Path.{refl}
use Rattle.measuring.proofs.Tests.{roomy-gives, other-gives}
use Rattle.measuring.proofs.survey_first.Goals as goal

pub returns-then-is_roomy : goal.returns-then-is_roomy
returns-then-is_roomy c =
    let args = c.args in
    let name-place = c.name_place in
    let survey-card = c.survey_card-mine in
    let settle = c.settle in
    let is-roomy = c.is_roomy in
    let if1 = c.if-is_roomy in
    let write-at-once = c.write_at_once in
    roomy-gives args.op args.card.now args.root.now args.work.now args.out.now refl c.requires
    name-place.ensures survey-card.ensures.0 settle.ensures survey-card.ensures.1 is-roomy.ensures if1.true
    write-at-once.ensures

pub returns : goal.returns
returns c =
    let args = c.args in
    let name-place = c.name_place in
    let survey-card = c.survey_card-mine in
    let settle = c.settle in
    let is-roomy = c.is_roomy in
    let if1 = c.if-is_roomy in
    let measure-first = c.measure_first in
    other-gives args.op args.card.now args.root.now args.work.now args.out.now refl c.requires
    name-place.ensures survey-card.ensures.0 settle.ensures survey-card.ensures.1 is-roomy.ensures if1.false
    measure-first.ensures
