-- `work::copy` meets its contract: word by word. Assumes nothing.
use mathlib.Core.List.{◌++◌}
use mathlib.Core.Path.{◌≡◌}
use Prim.Native.Nat.{min}
use lib.ListN.{length, take, drop}
use Rattle.work.proofs.copy.Given as goal

abbrev pub invariant-loop-n : goal.invariant-loop-n
invariant-loop-n l = (l.to ≡ take l.n l.from ++ drop l.n l.initial.to) × (l.end ≡ min (length l.from) (length l.initial.to))
