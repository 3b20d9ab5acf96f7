-- `growth::fn_growth` and `growth::parts_growth` meet their contracts. They call each other, and what falls is how deep records are looked into. Each need is a
-- law of Turns. Assumes nothing.
use Prim.Native.Nat.{◌+◌, ◌*◌, ◌-◌}
use Rattle.wire.specs.Numbers.{between}
use Rattle.growth.specs.Grows.{growth_all}
use Rattle.growth.proofs.Turns.{Turn}
use Rattle.growth.proofs.+fn_growth_parts_growth.Given as goal

abbrev pub decreases-fn_growth : goal.decreases-fn_growth
decreases-fn_growth l = 2 * l.left + 1

abbrev pub decreases-parts_growth : goal.decreases-parts_growth
decreases-parts_growth l = 2 * l.left

abbrev pub invariant-parts_growth-loop-at : goal.invariant-parts_growth-loop-at
invariant-parts_growth-loop-at l =
    Turn l.op (growth_all l.op l.left l.charged l.again l.w (between l.card l.from l.to)) l.card l.to l.left l.at l.sum l.uses l.again l.wraps l.deep

abbrev pub decreases-parts_growth-loop-at : goal.decreases-parts_growth-loop-at
decreases-parts_growth-loop-at l = l.to - l.at
