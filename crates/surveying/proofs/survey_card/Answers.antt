-- `surveying::survey_card` meets its contract, by the laws of collecting's Module and of growth's Turns. Assumes nothing.
use mathlib.Core.Path.{sym, ◌∙◌}
use native.Mathlib.Omega.{arith}
use Rattle.prefix.specs.Prefix.{scope_of}
use Rattle.collecting.proofs.Module.{module-long, module-none, module-to, module-gathered}
use Rattle.growth.proofs.Turns.{card-long, card-none, card-is}
use Rattle.surveying.proofs.Cards.{all_of}
use Rattle.surveying.proofs.survey_card.Goals as goal

pub returns-then-scope-gt65536 : goal.returns-then-scope-gt65536
returns-then-scope-gt65536 c =
    let a = c.args in (
      module-long (scope_of a.scope.now) a.work.now 0 48 c.start.ensures c.if-scope-gt65536.true,
      card-long a.scope.now.op a.scope.now.card.now c.if-scope-gt65536.true,
    )

pub returns-then-is_short : goal.returns-then-is_short
returns-then-is_short c =
    let a = c.args in (
      module-none (scope_of a.scope.now) a.work.now 0 48 c.start.ensures c.if-scope-gt65536.false
          (all_of a.scope.now.card.now) c.is_short.ensures c.if-is_short.true,
      card-none a.scope.now.op a.scope.now.card.now c.if-scope-gt65536.false (sym c.is_short.ensures ∙ c.if-is_short.true),
    )

pub survey_parts-requires : goal.survey_parts-requires
survey_parts-requires c =
    let a = c.args in (
      omega arith,
      module-to a.scope.now.card.now 0 (all_of a.scope.now.card.now) c.is_short.ensures c.if-is_short.false c.record_length-to.ensures,
      c.if-scope-gt65536.false,
      omega arith,
    )

pub returns : goal.returns
returns c =
    let a = c.args in (
      module-gathered (scope_of a.scope.now) a.work.now 0 48 c.start.ensures c.if-scope-gt65536.false
          (all_of a.scope.now.card.now) c.is_short.ensures c.if-is_short.false c.record_length-to.ensures c.survey_parts.ensures.0,
      card-is a.scope.now.op a.scope.now.card.now c.if-scope-gt65536.false (sym c.is_short.ensures ∙ c.if-is_short.false) _ _ c.record_length-to.ensures.0
          c.survey_parts.ensures.1,
    )
