-- 02, request 1: what shortening answers with a lent list, and what the lent memory then holds. Assumes nothing: these are definitions.
use Rattle.std.specs.Prelude.{List, ◌++◌, cond, ℕ, ◌*◌, length, drop, eqb, ltb, Err}
use Rattle.answers.specs.Answers.{Answer}
use Rattle.answers.specs.declared.Refusal.TheVariants.{ShortList}
use Rattle.answers.specs.Answers.{number}
use Rattle.wire.specs.Numbers.{Bytes}
use Rattle.records.specs.Record.{tree}
use Rattle.rast.specs.Operation.{Operation}
use Rattle.factor_paths.specs.Apply.{apply}
use Rattle.outcome.specs.Outcome.{Outcome, shorten}
use Rattle.places.specs.Places.{Entry, entry_words, places_of}

-- an answer, how many entries there are, and what the out buffer, the work words and the list hold after it
pub record Listing : Type 0 where
  pub answer : Answer
  pub entries : ℕ
  pub out : Bytes
  pub work : List ℕ
  pub list : List ℕ

abbrev pub listing : Answer → ℕ → Bytes → (work list : List ℕ) → Listing
listing answer entries out work list = record { answer = answer; entries = entries; out = out; work = work; list = list }

module _ (op : Operation) (card root out : Bytes) (work list : List ℕ) where
  -- the changed points of the output, which starts at offset 0
  abbrev pub places : List Entry
  places = places_of 0 (tree card) (apply op (tree root) (tree card))

  -- 10, where the list has fewer than two words for each entry, or acceptance
  abbrev pub accepted : Outcome → Listing
  accepted o =
      cond (ltb (length list) (2 * length places)) (listing (Err ShortList) 0 out o.work list)
      (listing o.answer (length places) o.out o.work (entry_words places ++ drop (2 * length places) list))

  -- a refusal by 1 to 9 or by 11 comes first, and leaves the list
  abbrev pub with_list : Outcome → Listing
  with_list o = cond (eqb (number o.answer) 0) (accepted o) (listing o.answer 0 o.out o.work list)

  unfoldable pub shorten_listing : Listing
  shorten_listing = with_list (shorten op card root out work)
