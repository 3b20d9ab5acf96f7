-- `fitting::uses_most` meets its contract. The loop's invariant: the sum is that of the pairs passed, each less than 2 ^ 34. Assumes nothing.
use mathlib.Core.Path.{◌≡◌, refl, ap, ◌∙◌}
use native.Mathlib.Omega.{arith}
use Rattle.fitting.specs.Fitting.{uses_most}
use Rattle.fitting.proofs.Tests.{uses-next}
use Rattle.fitting.proofs.uses_most.Goals as goal

pub loop-i-init : goal.loop-i-init
unfolding uses_most
loop-i-init c = (refl, omega arith)

pub loop-i-preserved : goal.loop-i-preserved
loop-i-preserved c = (uses-next c.args.card.now c.args.work.now _ c.loop-i.invariant.0 c.use_most-sum.ensures.0, omega arith)

pub returns : goal.returns
returns c = c.loop-i.invariant.0 ∙ ap (uses_most c.args.card.now c.args.work.now) (let z : c.loop-i.i ≡ c.args.n = omega arith in z)
