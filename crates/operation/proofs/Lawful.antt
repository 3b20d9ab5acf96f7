-- What holds of every operation that the code has. Assumes nothing.
use mathlib.Core.Path.{◌≡◌, refl}
use Rattle.rast.specs.Operation.{upstream, straight}
use Rattle.rast.proofs.Names.{Names, shortening-names}
use Rattle.rast.proofs.Chosen.{Chooses, shortening-chooses}
use Rattle.operation.specs.declared.Pass.{Pass}
use Rattle.operation.specs.declared.Pass.TheVariants.{Upstream, Straight}
use Rattle.operation.specs.declared.Shortening.{Shortening}
use Rattle.operation.specs.Passes.{repeats, asked}
use Rattle.operation.specs.Operations.{pass_of, operation_of, plain_of, weighed_of}

-- what the passes are
pub upstream-asked : asked Upstream ≡ upstream
upstream-asked = refl

pub straight-asked : asked Straight ≡ straight
straight-asked = refl

pub names_of : (op : Shortening) → Names (operation_of op)
names_of op = shortening-names (repeats (pass_of op))

pub chooses-of : (op : Shortening) → Chooses (operation_of op)
chooses-of op = shortening-chooses (repeats (pass_of op))

-- a pass is done with weights as without
pub pass-plain : (p : Pass) → pass_of (plain_of p) ≡ p
pass-plain Upstream = refl
pass-plain Straight = refl

pub pass-weighed : (p : Pass) → pass_of (weighed_of p) ≡ p
pass-weighed Upstream = refl
pass-weighed Straight = refl
