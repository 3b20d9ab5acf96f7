-- What a walk does: which pass, and with which weights. Assumes nothing: these are definitions.
use Rattle.std.specs.Prelude.{Bool, ℕ, ◌^◌, replicate}
use Rattle.wire.specs.Numbers.{Bytes, same_bytes}
use Rattle.rast.specs.Operation.{Operation}
use Rattle.operation.specs.declared.Pass.{Pass}
use Rattle.operation.specs.declared.Pass.TheVariants as pass
use Rattle.operation.specs.declared.Shortening.{Shortening}
use Rattle.operation.specs.declared.Shortening.TheVariants.{Upstream, Straight, WeighedUpstream, WeighedStraight}
use Rattle.operation.specs.Passes.{asked}

-- which pass a walk does
abbrev pub pass_of : Shortening → Pass
pass_of Upstream = pass.Upstream
pass_of Straight = pass.Straight
pass_of WeighedUpstream = pass.Upstream
pass_of WeighedStraight = pass.Straight

abbrev pub operation_of : Shortening → Operation
operation_of op = asked (pass_of op)

abbrev pub plain_of : Pass → Shortening
plain_of pass.Upstream = Upstream
plain_of pass.Straight = Straight

abbrev pub weighed_of : Pass → Shortening
weighed_of pass.Upstream = WeighedUpstream
weighed_of pass.Straight = WeighedStraight

-- when two paths are the same, by the bytes of their records
abbrev pub same_paths : Shortening → Bytes → Bytes → Bool
same_paths op = same_bytes

-- how many bytes a changed point counts for beyond its own: more than an output has, so that its length also says how many there are
abbrev pub weight_of : Shortening → ℕ
weight_of Upstream = 0
weight_of Straight = 0
weight_of WeighedUpstream = 2 ^ 24
weight_of WeighedStraight = 2 ^ 24

-- as bytes behind it
unfoldable pub weight_bytes : Shortening → Bytes
weight_bytes op = replicate (weight_of op) 0
