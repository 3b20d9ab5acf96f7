-- Words laid over as many others, or over the first of more. Assumes nothing.
use mathlib.Core.Path.{◌≡◌, refl, ap, ◌∙◌}
use mathlib.Core.List.{List, ◌++◌, append-nil}
use Prim.Native.Nat.{ℕ, ◌≤◌}
use native.Mathlib.Omega.{arith}
use lib.ListN.{length, take, drop, drop_of_length-le}
use lib.Seq.{take_at, take_all}
use Rattle.work.specs.Copies.{over}

module _ (z v : List ℕ) where
  pub over-whole : length z ≡ length v → over z v ≡ z
  over-whole e =
      ap (λ (u : List ℕ). take (length v) z ++ u) (drop_of_length-le v {i = length z} (omega arith)) ∙ append-nil (take (length v) z)
      ∙ take_all (length v) z (omega arith)

  pub over_first : length z ≤ length v → take (length z) (over z v) ≡ z
  over_first h = rw (take_all (length v) z h) (take_at z (drop (length z) v) (length z) refl)
