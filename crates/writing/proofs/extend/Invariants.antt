-- `writing::extend` meets its contract: place by place, by the laws of Chain. Assumes nothing.
use Prim.Native.Nat.{◌-◌}
use mathlib.Core.Path.{◌≡◌}
use lib.ListN.{length}
use Rattle.writing.proofs.Chain.{Extending}
use Rattle.writing.proofs.extend.Given as goal

abbrev pub invariant-loop-i : goal.invariant-loop-i
invariant-loop-i l = Extending l.chain l.names l.i × (l.n ≡ length l.chain)
