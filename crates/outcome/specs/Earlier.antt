-- 02, request 5: what was answered before it, when a table had room for 512 pairs whatever was lent. Assumes nothing: these are definitions.
use Rattle.std.specs.Prelude.{List, ℕ}
use Rattle.wire.specs.Numbers.{Bytes}
use Rattle.rast.specs.Operation.{Operation}
use Rattle.outcome.specs.Outcome.{Outcome, shorten_within}

abbrev pub earlier : Operation → (card root out : Bytes) (work : List ℕ) → Outcome
earlier op card root out work = shorten_within op card root out work 512
