-- How many bytes a weight has. Assumes nothing.
use mathlib.Core.Path.{◌≡◌, refl, ap}
use mathlib.Core.List.{[]}
use Prim.Native.Nat.{ℕ, ◌^◌, ◌≤◌}
use native.Mathlib.Omega.{arith}
use lib.ListN.{length, replicate, length-replicate}
use Rattle.operation.specs.declared.Pass.{Pass}
use Rattle.operation.specs.declared.Pass.TheVariants as pass
use Rattle.operation.specs.declared.Shortening.{Shortening}
use Rattle.operation.specs.declared.Shortening.TheVariants.{Upstream, Straight, WeighedUpstream, WeighedStraight}
use Rattle.operation.specs.Operations.{plain_of, weighed_of, weight_of, weight_bytes}

pub weight-length : (op : Shortening) → length (weight_bytes op) ≡ weight_of op
unfolding weight_bytes
weight-length op = length-replicate (weight_of op) 0

pub weight-small : (op : Shortening) → weight_of op ≤ 2 ^ 24
weight-small Upstream = omega arith
weight-small Straight = omega arith
weight-small WeighedUpstream = omega arith
weight-small WeighedStraight = omega arith

-- an operation without one has no bytes of it
pub weight-none : (op : Shortening) → weight_of op ≡ 0 → weight_bytes op ≡ []
unfolding weight_bytes
weight-none op e = ap (λ (n : ℕ). replicate n 0) e

pub plain-weight : (p : Pass) → weight_of (plain_of p) ≡ 0
plain-weight pass.Upstream = refl
plain-weight pass.Straight = refl

pub weighed-weight : (p : Pass) → weight_of (weighed_of p) ≡ 2 ^ 24
weighed-weight pass.Upstream = refl
weighed-weight pass.Straight = refl
