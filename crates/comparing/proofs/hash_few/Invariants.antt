-- `comparing::hash_few` meets its contract: what is left of the bytes has the hash of all. Assumes nothing.
use mathlib.Core.Path.{◌≡◌}
use Prim.Native.Nat.{◌<◌, ◌^◌}
use lib.ListN.{drop}
use Rattle.comparing.specs.Compares.{hash_few}
use Rattle.comparing.proofs.hash_few.Given as goal

abbrev pub invariant-loop-b : goal.invariant-loop-b
invariant-loop-b l = (l.h < 2 ^ 32) × (hash_few 0 l.s ≡ hash_few l.h (drop l.b-index l.s))
