-- The walk of surveying meets its contracts. Its functions call each other, and what falls is how deep records are looked into. Each need is a law of Here, of
-- Decls or of Fns. Assumes nothing.
use mathlib.Core.Path.{◌≡◌}
use mathlib.Core.Bool.{false}
use Prim.Native.Nat.{◌*◌, ◌+◌, ◌-◌}
use lib.ListN.{length}
use Rattle.wire.specs.Numbers.{between}
use Rattle.prefix.specs.Prefix.{scope_of}
use Rattle.adding.specs.Adds.{table}
use Rattle.gathering.specs.Gathers.{parts_added}
use Rattle.collecting.proofs.Going.{Going}
use Rattle.growth.specs.Grows.{growth_all}
use Rattle.growth.proofs.Turns.{Turn}
use Rattle.surveying.proofs.Here as law
use Rattle.surveying.proofs.+survey_decl_survey_fn_survey_parts.Given as goal

abbrev pub decreases-survey_decl : goal.decreases-survey_decl
decreases-survey_decl l = 2 * l.left + 1

abbrev pub decreases-survey_fn : goal.decreases-survey_fn
decreases-survey_fn l = 2 * l.left + 1

abbrev pub decreases-survey_parts : goal.decreases-survey_parts
decreases-survey_parts l = 2 * l.left

abbrev pub invariant-survey_parts-loop-at : goal.invariant-survey_parts-loop-at
invariant-survey_parts-loop-at l =
    Going (scope_of l.scope) (parts_added (scope_of l.scope) l.left l.k (table l.n l.initial.work) l.from l.to) l.to l.left (table l.m l.work) l.at l.of l.i l.deep
    × Turn l.scope.op (growth_all l.scope.op l.left false l.again l.w (between l.scope.card.now l.from l.to)) l.scope.card.now l.to l.left l.at l.sum false l.again l.wraps l.deep
    × (length l.work ≡ length l.initial.work)

abbrev pub decreases-survey_parts-loop-at : goal.decreases-survey_parts-loop-at
decreases-survey_parts-loop-at l = l.to - l.at
