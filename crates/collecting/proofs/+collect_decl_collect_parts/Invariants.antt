-- The walk of collecting meets its contracts: what falls is the depth that is left. Each answer is a law of Going. Assumes nothing.
use mathlib.Core.Path.{◌≡◌}
use Prim.Native.Nat.{◌*◌, ◌+◌, ◌-◌}
use lib.ListN.{length}
use Rattle.prefix.specs.Prefix.{scope_of}
use Rattle.adding.specs.Adds.{table}
use Rattle.gathering.specs.Gathers.{parts_added}
use Rattle.collecting.proofs.Going.{Going}
use Rattle.collecting.proofs.+collect_decl_collect_parts.Given as goal

abbrev pub decreases-collect_decl : goal.decreases-collect_decl
decreases-collect_decl l = 2 * l.left + 1

abbrev pub decreases-collect_parts : goal.decreases-collect_parts
decreases-collect_parts l = 2 * l.left

abbrev pub invariant-collect_parts-loop-at : goal.invariant-collect_parts-loop-at
invariant-collect_parts-loop-at l =
    Going (scope_of l.scope) (parts_added (scope_of l.scope) l.left l.k (table l.n l.initial.work) l.from l.to) l.to l.left (table l.m l.work) l.at l.of l.i l.deep
    × (length l.work ≡ length l.initial.work)

abbrev pub decreases-collect_parts-loop-at : goal.decreases-collect_parts-loop-at
decreases-collect_parts-loop-at l = l.to - l.at
