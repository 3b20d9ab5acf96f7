-- The operation that a caller asks for. Assumes nothing: these are definitions.
use Rattle.std.specs.Prelude.{Bool, true, false}
use Rattle.rast.specs.Operation.{Operation, shortening}
use Rattle.operation.specs.declared.Pass.{Pass}
use Rattle.operation.specs.declared.Pass.TheVariants.{Upstream, Straight}

-- whether a nested module's name is added again and a Fn's types are walked again
abbrev pub repeats : Pass → Bool
repeats Upstream = true
repeats Straight = false

-- `upstream`, or `straight`
abbrev pub asked : Pass → Operation
asked pass = shortening (repeats pass)
