-- 01, "The console's answers", 4 to 7, and 02, request 4, 11: reading, with the first fault in their order. Assumes nothing: these are definitions.
use Rattle.std.specs.Prelude.{[], ◌∷◌, Bool, true, false, not, ◌&&◌, ◌||◌, cond, ℕ, zero, suc, ◌+◌, length, eqb, ltb, Ok, Err}
use Rattle.answers.specs.declared.Refusal.TheVariants.{ShortRecord, WrongKind, TooDeep, LeftOver, NoName}
use Rattle.answers.specs.Answers.{Verdict}
use Rattle.wire.specs.Numbers.{Bytes}
use Rattle.records.specs.Record.{length_of, kind_of, content_of, rest_of}
use Rattle.records.specs.Kinds.{Place, kinds, name, seq, option, stands, Content, bytes, these, any, at_most_one, content_at}

-- what comes next in a content, by the bytes that are left of it: nothing; bytes that should not be there; or a record at a place, and then more
pub data Next : Type 0 where
  done left_over : Next
  record-at : Place → Content → Next

abbrev pub next : Content → Bytes → Next
next bytes s = done
next (these []) [] = done
next (these []) (b ∷ s) = left_over
next (these (p ∷ ps)) s = record-at p (these ps)
next (any p) [] = done
next (any p) (b ∷ s) = record-at p (any p)
next (at_most_one p) [] = done
next (at_most_one p) (b ∷ s) = record-at p (these [])

-- 4: fewer than 6 bytes left in the parent, or a length under 2 or past the parent's end
abbrev pub short : Bytes → Bool
short s = ltb (length s) 6 || ltb (length_of s) 2 || ltb (length s) (4 + length_of s)

-- 11: a Text held by a PMemberSelect that is empty or is the one byte '!'; a test on place, kind and content
abbrev pub is_no_name : Bytes → Bool
is_no_name [] = true
is_no_name (b ∷ []) = eqb b 33
is_no_name (b ∷ c ∷ s) = false

abbrev pub nameless : Place → ℕ → Bytes → Bool
nameless (kinds from to) k content = false
nameless name k content = eqb k 0x01 && is_no_name content
nameless (seq p) k content = false
nameless (option p) k content = false

abbrev pub and_then : Verdict → Verdict → Verdict
and_then (Ok _) v = v
and_then (Err a) v = Err a

-- the record at the front of s: 4, 5, 6 and 11, then its content, then what follows it
abbrev pub step : Next → (limit depth at : ℕ) → Bytes → (Content → Verdict) → (Content → Verdict) → Verdict
step done limit depth at s content rest = Ok tt
step left_over limit depth at s content rest = Err (LeftOver at)
step (record-at p more) limit depth at s content rest =
    let following : Verdict = rest more in
    let whole : Verdict = and_then (content (content_at p (kind_of s))) following in
    cond (short s) (Err (ShortRecord at))
    (cond (not (stands p (kind_of s))) (Err (WrongKind at))
    (cond (ltb limit depth) (Err (TooDeep at))
    (cond (nameless p (kind_of s) (content_of s)) (Err (NoName at)) whole)))

-- a content's bytes s, which stand at place at of the card and hold records at this depth, at most limit deep; n bounds how many follow or hold one another
unfoldable pub read : (limit n : ℕ) → Content → (depth at : ℕ) → Bytes → Verdict
read limit zero c depth at s = Ok tt
read limit (suc n) c depth at s =
    step (next c s) limit depth at s
    (λ inner. read limit n inner (depth + 1) (at + 6) (content_of s))
    (λ more. read limit n more depth (at + (4 + length_of s)) (rest_of s))

-- exactly one record that stands at a place, at most limit deep: the outermost is 1 deep, and one more than there are bytes suffices for n
unfoldable pub reading : ℕ → Place → Bytes → Verdict
reading limit p s = read limit (suc (length s)) (these (p ∷ [])) 1 0 s
