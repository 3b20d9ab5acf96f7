-- Adding a pair to the words of a table. Assumes nothing: these are definitions.
use Rattle.std.specs.Prelude.{List, Bool, ◌||◌, cond, ℕ, zero, suc, ◌+◌, ◌*◌, ◌/◌, ◌%◌, take, drop, get_or, set, eqb, ltb}
use Rattle.wire.specs.Numbers.{Bytes}
use Rattle.prefix.specs.Prefix.{Scope}
use Rattle.comparing.specs.Compares.{number_of, base_word}
use Rattle.chains.specs.declared.Want.TheVariants.{Based}
use Rattle.chains.specs.Chains.{room, bucket_of, head_of, is_wanted, seek}

-- how many pairs there are, and the words that hold them; one more than the words have room for is a full table
pub record Table : Type 0 where
  pub count : ℕ
  pub words : List ℕ

abbrev pub table : ℕ → List ℕ → Table
table count words = record { count = count; words = words }

-- the fourth words of n pairs from pair i on, and of all, are zero
unfoldable pub started_from : List ℕ → ℕ → ℕ → List ℕ
started_from words i zero = words
started_from words i (suc n) = started_from (set words (4 * i + 3) 0) (suc i) n

unfoldable pub started : List ℕ → List ℕ
started words = started_from words 0 (room words)

-- a pair that n pairs stand ahead of, by its first three words, as the newest of bucket b: its link is the head that the bucket had
unfoldable pub put_pair : List ℕ → (n b at len base : ℕ) → List ℕ
put_pair words n b at len base =
    let three : List ℕ = set (set (set words (4 * n) at) (4 * n + 1) len) (4 * n + 2) base in
    let linked : List ℕ = set three (4 * n + 3) (get_or three (4 * n + 3) 0 / 65536 * 65536 + head_of words b) in
    set linked (4 * b + 3) ((n + 1) * 65536 + get_or linked (4 * b + 3) 0 % 65536)

-- the name at a place of the card with a base is put last, if it is not there and there is room
module _ (s : Scope) (words : List ℕ) (at len base : ℕ) where
  abbrev pub name_in : Bytes
  name_in = take len (drop (at % 65536) s.card)

  -- the number of the name, the pair's first word, which has that above the name's place, and the bucket
  abbrev pub number_in : ℕ
  number_in = number_of s.op name_in

  abbrev pub named_in : ℕ
  named_in = at % 65536 + 65536 * number_in

  abbrev pub bucket_in : ℕ
  bucket_in = bucket_of words number_in

  abbrev pub word_in : ℕ
  word_in = base_word s.op s.card base

  unfoldable pub is_there : Bool
  is_there = ltb 0 (seek (is_wanted s words name_in number_in (Based word_in)) words (head_of words bucket_in))

unfoldable pub added : Scope → Table → (at len base : ℕ) → Table
added s t at len base =
    let n : ℕ = t.count in
    let words : List ℕ = t.words in
    cond (ltb (room words) n || is_there s words at len base) t
    (cond (eqb n (room words)) (table (n + 1) words)
    (table (n + 1) (put_pair words n (bucket_in s words at len base) (named_in s words at len base) len (word_in s words at len base))))
