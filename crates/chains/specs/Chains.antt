-- Pairs in work words, four to a pair, and chains of those whose names have like numbers. Assumes nothing: these are definitions.
use Rattle.std.specs.Prelude.{List, Bool, true, false, not, ◌&&◌, ◌||◌, cond, ℕ, zero, suc, ◌+◌, ◌-◌, ◌*◌, ◌/◌, ◌%◌, min, length, take, drop, get_or, eqb, ltb}
use Rattle.wire.specs.Numbers.{Bytes, same_bytes}
use Rattle.records.specs.Record.{encode, record_at}
use Rattle.rast.specs.Path.{dafny_runtime}
use Rattle.operation.specs.Operations.{operation_of}
use Rattle.prefix.specs.Prefix.{Scope}
use Rattle.comparing.specs.Compares.{place_in, tag_in, same_base}
use Rattle.chains.specs.declared.Want.{Want}
use Rattle.chains.specs.declared.Want.TheVariants.{Named, Based, Runtime}

-- how many pairs words have room for
abbrev pub room : List ℕ → ℕ
room words = min (length words / 4) 65535

-- of the pair that i pairs stand ahead of: its name, the number above the name's place, its base as a word, its link and bucket i's head
abbrev pub name_at : Bytes → List ℕ → ℕ → Bytes
name_at card words i = take (get_or words (4 * i + 1) 0) (drop (get_or words (4 * i) 0 % 65536) card)

abbrev pub number_at : List ℕ → ℕ → ℕ
number_at words i = get_or words (4 * i) 0 / 65536

abbrev pub word_at : List ℕ → ℕ → ℕ
word_at words i = get_or words (4 * i + 2) 0

abbrev pub link_at : List ℕ → ℕ → ℕ
link_at words i = get_or words (4 * i + 3) 0 % 65536

abbrev pub head_at : List ℕ → ℕ → ℕ
head_at words i = get_or words (4 * i + 3) 0 / 65536

-- the bucket of names that have a number, of which the lower half counts: as far among the buckets as that is among the numbers of a half word
unfoldable pub bucket_of : List ℕ → ℕ → ℕ
bucket_of words number = number % 65536 * room words / 65536

-- a bucket's newest pair, and the pair after pair g, counted from 1
unfoldable pub head_of : List ℕ → ℕ → ℕ
head_of words b = cond (ltb b (room words)) (head_at words b) 0

unfoldable pub next_of : List ℕ → ℕ → ℕ
next_of words g = cond (eqb g 0 || ltb (room words) g) 0 (cond (ltb (link_at words (g - 1)) g) (link_at words (g - 1)) 0)

-- whether words alone tell that a base is another than the one that is sought: both are paths of the card, with different numbers above their places
unfoldable pub is_other : Want → ℕ → Bool
is_other Named w = false
is_other (Based v) w = not (eqb (place_in w) 0 || (eqb (place_in v) 0 || eqb (tag_in w) (tag_in v)))
is_other Runtime w = false

module _ (s : Scope) where
  -- what is sought of a base, as a word: nothing; that it is the same as another; that it is dafny_runtime, as a path of the card
  unfoldable pub has_wanted : Want → ℕ → Bool
  has_wanted Named w = true
  has_wanted (Based v) w = same_base s w v
  has_wanted Runtime w = not (eqb (place_in w) 0) && same_bytes (record_at s.card (place_in w)) (encode dafny_runtime)

  -- whether a pair has this name and what is sought
  unfoldable pub has_named : List ℕ → Bytes → Want → ℕ → Bool
  has_named words name want i = (operation_of s.op).same_name (name_at s.card words i) name && has_wanted want (word_at words i)

  -- the same with the number in the pair's words compared first, with one that is taken for the name's; where both are their names' own nothing is lost by it
  unfoldable pub is_wanted : List ℕ → Bytes → ℕ → Want → ℕ → Bool
  is_wanted words name number want i = eqb (number_at words i) number && has_named words name want i

-- whether a word of a pair leaves open that the pair is sought: the number above the place is this one, or there is no place
unfoldable pub may_be : List ℕ → ℕ → ℕ → ℕ → Bool
may_be words field number i = eqb (get_or words (4 * i + field) 0 / 65536) number || eqb (get_or words (4 * i + field) 0 % 65536) 0

-- the same by the word that tells most: that of the base, where a path of the card is sought, else that of the name
unfoldable pub may_have : List ℕ → ℕ → Want → ℕ → Bool
may_have words number Named = may_be words 0 number
may_have words number (Based v) = cond (eqb (place_in v) 0) (may_be words 0 number) (may_be words 2 (tag_in v))
may_have words number Runtime = may_be words 0 number

-- the first pair of the chain from pair g on that a test holds of; n bounds how many are looked at, and g suffices, since links fall
unfoldable pub seek_from : (ℕ → Bool) → List ℕ → ℕ → ℕ → ℕ
seek_from f words zero g = 0
seek_from f words (suc n) g = cond (eqb g 0) 0 (cond (f (g - 1)) g (seek_from f words n (next_of words g)))

unfoldable pub seek : (ℕ → Bool) → List ℕ → ℕ → ℕ
seek f words g = cond (ltb (room words) g) 0 (seek_from f words g g)
