-- `comparing::hash_bytes` meets its contract: the turns that are left have the hash of all. Assumes nothing.
use mathlib.Core.Path.{◌≡◌}
use Prim.Native.Nat.{◌<◌, ◌^◌}
use Rattle.comparing.specs.Compares.{hash_bytes}
use Rattle.comparing.proofs.Hashes.{Turned}
use Rattle.comparing.proofs.hash_bytes.Given as goal

abbrev pub invariant-loop-i : goal.invariant-loop-i
invariant-loop-i l = (l.h < 2 ^ 32) × (hash_bytes l.s ≡ Turned l.s l.i l.h)
