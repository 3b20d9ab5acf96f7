-- What a call with a list and its answer as one number promises: the public call's promise, with the answer packed. Assumes nothing: these are definitions.
use Rattle.std.specs.Prelude.{◌≡◌, cond, List, ℕ, ◌+◌, ◌*◌, ◌^◌, ◌<◌, ◌≤◌, length, take, eqb, Ok}
use Rattle.answers.specs.Answers.{number, value}
use Rattle.wire.specs.Numbers.{Bytes}
use Rattle.operation.specs.declared.Pass.{Pass}
use Rattle.operation.specs.Passes.{asked}
use Rattle.size.specs.Bound.{times}
use Rattle.points.specs.Points.{NamesHold}
use Rattle.places.specs.Listing.{Listing, shorten_listing}
use Rattle.places.specs.Spots.{ListExact}
use Rattle.shortening_places.specs.Placed.{called}

-- where a listing is due
pub record PackedListing (pass : Pass) (card root : Bytes) (due : Listing) (entries answer : ℕ) (out' : Bytes) (list' : List ℕ) (entries' : ℕ) : Type 0 where
  -- demands 1 and 2, as the public call has them for its pass; the number times 2 ^ 32, plus the length or place
  pub answer-is : answer ≡ number due.answer * 2 ^ 32 + value due.answer
  -- so the lower 32 bits are the length or place, and the others the number
  pub whole : value due.answer < 2 ^ 32
  pub out-is : out' ≡ due.out
  pub list-is : list' ≡ due.list
  -- the number of entries stands in its lent word; a refusal leaves that
  pub entries-are : entries' ≡ cond (eqb (number due.answer) 0) due.entries entries
  -- demand 3, and how long an output can be
  pub names : (n : ℕ) → due.answer ≡ Ok n → NamesHold (asked pass) card root (take n out')
  pub bound : (n : ℕ) → due.answer ≡ Ok n → n ≤ times (asked pass) * length card
  -- and the list is exact
  pub exact : (n : ℕ) → due.answer ≡ Ok n → ListExact card (take n out') entries' list'

-- with work words of its own, as if 2,048 were lent
abbrev pub PackedPlacesAlone : Pass → (card root out : Bytes) (list : List ℕ) → ℕ → ℕ → Bytes → List ℕ → ℕ → Type 0
PackedPlacesAlone pass card root out list entries answer out' list' entries' =
    PackedListing pass card root (called pass card root out list) entries answer out' list' entries'

-- with lent work words
pub record PackedPlaces (pass : Pass) (card root out : Bytes) (work list : List ℕ) (entries answer : ℕ) (out' : Bytes) (work' list' : List ℕ)
    (entries' : ℕ) : Type 0 where
  pub packed : PackedListing pass card root (shorten_listing (asked pass) card root out work list) entries answer out' list' entries'
  pub work-is : work' ≡ (shorten_listing (asked pass) card root out work list).work
