-- `fitting::uses_most` meets its contract. The loop's invariant: the sum is that of the pairs passed, each less than 2 ^ 34. Assumes nothing.
use mathlib.Core.Path.{◌≡◌}
use Prim.Native.Nat.{◌*◌, ◌^◌, ◌≤◌}
use Rattle.fitting.specs.Fitting.{uses_most}
use Rattle.fitting.proofs.uses_most.Given as goal

abbrev pub invariant-loop-i : goal.invariant-loop-i
invariant-loop-i l = (l.sum ≡ uses_most l.card l.work l.i) × (l.sum ≤ 2 ^ 34 * l.i)
