-- What the public call with a lent list promises (02, request 1), of either pass: demands 1 and 2 as one equation with `shorten_listing` (where the pass is
-- Straight, demand 2's tree is that of 02, request 2), demand 3, and that the list is exact.
-- Assumes nothing: these are definitions.
use Rattle.std.specs.Prelude.{◌≡◌, List, ℕ, ◌*◌, ◌≤◌, length, take, replicate, Result, Ok, Err}
use Rattle.answers.specs.Answers.{Answer}
use Rattle.answers.specs.declared.Refusal.{Refusal}
use Rattle.wire.specs.Numbers.{Bytes}
use Rattle.size.specs.Bound.{times}
use Rattle.points.specs.Points.{NamesHold}
use Rattle.places.specs.Listing.{Listing, listing, shorten_listing}
use Rattle.places.specs.Spots.{ListExact}
use Rattle.operation.specs.declared.Pass.{Pass}
use Rattle.operation.specs.Passes.{asked}
use Rattle.placing.specs.declared.Listed.{Listed}

-- the answer of a call with a list, and how many entries the list has: a refusal has none
abbrev pub answer_in : Result Listed Refusal → Answer
answer_in (Ok l) = Ok l.length
answer_in (Err a) = Err a

abbrev pub entries_in : Result Listed Refusal → ℕ
entries_in (Ok l) = l.entries
entries_in (Err a) = 0

pub record Promise (pass : Pass) (card root out : Bytes) (work list : List ℕ) (r : Result Listed Refusal) (out' : Bytes) (work' list' : List ℕ) : Type 0 where
  -- demands 1 and 2: whatever is lent, the answer, the number of entries, the out bytes, the work words and the list are the definition's
  pub fixed : listing (answer_in r) (entries_in r) out' work' list' ≡ shorten_listing (asked pass) card root out work list
  -- demand 3, and how long an output can be
  pub names : (n : ℕ) → answer_in r ≡ Ok n → NamesHold (asked pass) card root (take n out')
  pub bound : (n : ℕ) → answer_in r ≡ Ok n → n ≤ times (asked pass) * length card
  -- and the list is exact: the shortened points of demand 3 and the uses put ahead, each at its offset
  pub exact : (n : ℕ) → answer_in r ≡ Ok n → ListExact card (take n out') (entries_in r) list'

-- the same of all but the work words, where a listing is due
pub record Answered (pass : Pass) (card root : Bytes) (due : Listing) (r : Result Listed Refusal) (out' : Bytes) (list' : List ℕ) : Type 0 where
  pub answer-is : answer_in r ≡ due.answer
  pub entries-are : entries_in r ≡ due.entries
  pub out-is : out' ≡ due.out
  pub list-is : list' ≡ due.list
  pub names : (n : ℕ) → answer_in r ≡ Ok n → NamesHold (asked pass) card root (take n out')
  pub bound : (n : ℕ) → answer_in r ≡ Ok n → n ≤ times (asked pass) * length card
  pub exact : (n : ℕ) → answer_in r ≡ Ok n → ListExact card (take n out') (entries_in r) list'

-- as if 2,048 work words that are zero were lent
abbrev pub called : Pass → (card root out : Bytes) → List ℕ → Listing
called pass card root out list = shorten_listing (asked pass) card root out (replicate 2048 0) list

-- what a call with work words of its own promises; they may be fewer
abbrev pub Alone : Pass → (card root out : Bytes) → List ℕ → Result Listed Refusal → Bytes → List ℕ → Type 0
Alone pass card root out list r out' list' = Answered pass card root (called pass card root out list) r out' list'
