-- The uses that a table brings, as bytes: ToUseStatements. Assumes nothing: these are definitions.
use Rattle.std.specs.Prelude.{List, [], ◌∷◌, ◌++◌, ◌||◌, cond, ℕ, length, ltb}
use Rattle.wire.specs.Numbers.{Bytes}
use Rattle.operation.specs.Operations.{weight_bytes}
use Rattle.prefix.specs.Prefix.{Scope}
use Rattle.chains.specs.Chains.{room}
use Rattle.pairs.specs.Stored.{Stored}
use Rattle.pairs.specs.Choice.{use_bytes}
use Rattle.choosing.specs.Picks.{uses_of}

-- each with its weight behind it
unfoldable pub weighed_uses : Bytes → List Stored → Bytes
weighed_uses weight [] = []
weighed_uses weight (u ∷ us) = use_bytes u ++ (weight ++ weighed_uses weight us)

-- those of n pairs; none of a card that is too long for its places to fit a half word, or where the words have no room for n pairs
unfoldable pub imports_bytes : Scope → List ℕ → ℕ → Bytes
imports_bytes s words n = cond (ltb 65536 (length s.card) || ltb (room words) n) [] (weighed_uses (weight_bytes s.op) (uses_of s words 0 n))
