-- 02, request 5: what was answered before it with a list. Assumes nothing: these are definitions.
use Rattle.std.specs.Prelude.{List, ℕ}
use Rattle.wire.specs.Numbers.{Bytes}
use Rattle.rast.specs.Operation.{Operation}
use Rattle.outcome.specs.Earlier.{earlier}
use Rattle.places.specs.Listing.{Listing, with_list}

abbrev pub earlier_listing : Operation → (card root out : Bytes) (work list : List ℕ) → Listing
earlier_listing op card root out work list = with_list op card root out work list (earlier op card root out work)
