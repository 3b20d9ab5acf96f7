-- Reading as the code goes about it: by the depth that is left, and record by record. Assumes nothing: these are definitions.
use Rattle.std.specs.Prelude.{List, [], ◌∷◌, not, cond, ℕ, zero, suc, ◌+◌, length, drop, Ok, Err}
use Rattle.std.proofs.Math.Option.{Option, none, some}
use Rattle.answers.specs.declared.Refusal.TheVariants.{BadRoot, ShortRecord, WrongKind, TooDeep, NoName}
use Rattle.answers.specs.Answers.{Verdict}
use Rattle.wire.specs.Numbers.{Bytes}
use Rattle.records.specs.Record.{kind_of, content_of}
use Rattle.records.specs.Kinds.{Place, stands, Content, bytes, these, any, at_most_one, content_at}
use Rattle.records.specs.Reading.{short, nameless, read}

-- the bytes of a content at place at, whose records may go as deep as is left
unfoldable pub reads : (left : ℕ) → Content → (at : ℕ) → Bytes → Verdict
reads left c at s = read left (suc (length s)) c 1 at s

-- one record at a place, with its content
unfoldable pub reads_record : (left : ℕ) → Place → (at : ℕ) → Bytes → Verdict
reads_record zero p at s =
    cond (short s) (Err (ShortRecord at))
    (cond (not (stands p (kind_of s))) (Err (WrongKind at)) (Err (TooDeep at)))
reads_record (suc left) p at s =
    cond (short s) (Err (ShortRecord at))
    (cond (not (stands p (kind_of s))) (Err (WrongKind at))
    (cond (nameless p (kind_of s) (content_of s)) (Err (NoName at)) (reads left (content_at p (kind_of s)) (at + 6) (content_of s))))

-- what a content asks after j records
abbrev pub after : Content → ℕ → Content
after bytes j = bytes
after (these ps) j = these (drop j ps)
after (any p) j = any p
after (at_most_one p) zero = at_most_one p
after (at_most_one p) (suc j) = these []

-- the place at which record j of a content stands, if one may come
abbrev pub first_of : List Place → Option Place
first_of [] = none
first_of (p ∷ ps) = some p

abbrev pub place_in : Content → ℕ → Option Place
place_in bytes j = none
place_in (these ps) j = first_of (drop j ps)
place_in (any p) j = some p
place_in (at_most_one p) zero = some p
place_in (at_most_one p) (suc j) = none

-- a root's verdict, and then what is said of the card: 3 where the root is none
abbrev pub root_then : Verdict → Verdict → Verdict
root_then (Ok _) v = v
root_then (Err a) v = Err BadRoot
