-- 02, request 5, with a list: what was not refused by 8 before is answered as before, whatever is lent; and more words change nothing of an acceptance. Assumes
-- nothing.
use Rattle.std.specs.Prelude.{Ok, Err}
use mathlib.Core.Path.{◌≡◌, ap, sym, ◌∙◌}
use mathlib.Core.List.{List, ◌++◌}
use mathlib.Core.Bool.{Bool}
use Prim.Native.Nat.{ℕ, ◌*◌, ◌≤◌, ◌<◌}
use native.Mathlib.Omega.{arith}
use lib.ListN.{length, drop, replicate}
use Rattle.answers.specs.Answers.{number}
use Rattle.answers.specs.declared.Refusal.TheVariants.{FullTable}
use Rattle.wire.specs.Numbers.{Bytes}
use Rattle.rast.specs.Operation.{Operation, shortening}
use Rattle.outcome.specs.Outcome.{shorten}
use Rattle.outcome.specs.Earlier.{earlier}
use Rattle.outcome.proofs.Earlier as without
use Rattle.places.specs.Places.{Entry, entry_words}
use Rattle.places.specs.Listing.{Listing, listing, places, with_list, shorten_listing}
use Rattle.places.specs.Earlier.{earlier_listing}
use Rattle.places.proofs.Listings.{Accepts, accepts}

module _ (again : Bool) (card root out : Bytes) (work list : List ℕ) where
  abbrev O : Operation
  O = shortening again

  -- 8 without a list is 8 with one
  full-too : (place : ℕ) → (earlier O card root out work).answer ≡ Err (FullTable place) → (earlier_listing O card root out work list).answer ≡ Err (FullTable place)
  full-too place e = rw e

  -- THE LAW
  pub unless-full : ((place : ℕ) → (earlier_listing O card root out work list).answer ≡ Err (FullTable place) → ⊥)
      → shorten_listing O card root out work list ≡ earlier_listing O card root out work list
  unfolding shorten_listing
  unless-full h = ap (with_list O card root out work list) (without.unless-full again card root out work (λ place e. h place (full-too place e)))

  -- so every card that was accepted has the same output and the same list
  pub as_before : (n : ℕ) → (earlier_listing O card root out work list).answer ≡ Ok n
      → shorten_listing O card root out work list ≡ earlier_listing O card root out work list
  as_before n a = unless-full (λ place f. let z = ap number (sym a ∙ f) in omega (arith, z))

  -- and with fewer than 2,052 words every call is answered as before
  pub same-limit : length work < 2052 → shorten_listing O card root out work list ≡ earlier_listing O card root out work list
  unfolding shorten_listing
  same-limit l = ap (with_list O card root out work list) (without.same-limit again card root out work l)

-- A card that is accepted is accepted with more words, and with the same output and list
module _ (again : Bool) (card root out : Bytes) (work more list : List ℕ) (l : length work ≤ length more) (n : ℕ) where
  abbrev L : Listing
  L = shorten_listing (shortening again) card root out work list

  abbrev Places : List Entry
  Places = places (shortening again) card root out work list

  made_more : Accepts again card root out work list n → shorten_listing (shortening again) card root out more list
      ≡ listing (Ok n) (length Places) (shorten (shortening again) card root out work).out (replicate (length more) 0)
      (entry_words Places ++ drop (2 * length Places) list)
  unfolding shorten_listing
  made_more a = rw (without.with-more again card root out work more l n a.answer, a.room)

  pub with-more : L.answer ≡ Ok n
      → shorten_listing (shortening again) card root out more list ≡ listing (Ok n) L.entries L.out (replicate (length more) 0) L.list
  with-more h = let a = accepts again card root out work list n h in rw (a.entries-are, a.out-is, a.list-is) (made_more a)
