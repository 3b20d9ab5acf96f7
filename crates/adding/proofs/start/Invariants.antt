-- `adding::start` meets its contract. Assumes nothing.
use mathlib.Core.Path.{◌≡◌}
use Rattle.chains.specs.Chains.{room}
use Rattle.adding.proofs.Tests.{Starting}
use Rattle.adding.proofs.start.Given as goal

abbrev pub invariant-loop-i : goal.invariant-loop-i
invariant-loop-i l = (l.n ≡ room l.initial.work) × Starting l.initial.work l.work l.n l.i
