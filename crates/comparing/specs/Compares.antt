-- The number of a name, and a base as a word of the table, compared. Assumes nothing: these are definitions.
use Rattle.std.specs.Prelude.{[], ◌∷◌, Bool, false, ◌||◌, cond, ℕ, zero, suc, ◌+◌, ◌-◌, ◌*◌, ◌/◌, ◌%◌, length, take, drop, eqb, ltb}
use Rattle.wire.specs.Numbers.{Bytes, num}
use Rattle.records.specs.Record.{record_at}
use Rattle.operation.specs.declared.Shortening.{Shortening}
use Rattle.operation.specs.Operations.{same_paths}
use Rattle.prefix.specs.Prefix.{Scope, prefix_in}

-- a number under 2 ^ 32 and one more of the sequence: no pattern in the factor makes sequences of some form meet
abbrev pub mixed : ℕ → ℕ → ℕ
mixed h x = (h * 1540483477 + x) % 4294967296

-- bytes one by one
unfoldable pub hash_few : ℕ → Bytes → ℕ
hash_few h [] = h
hash_few h (b ∷ s) = hash_few (mixed h b) s

-- n fours from a place on, as numbers, and then the last four of all, of which some may have been among them
unfoldable pub hash_fours : Bytes → ℕ → ℕ → ℕ → ℕ
hash_fours s zero at h = mixed h (num (take 4 (drop (length s - 4) s)))
hash_fours s (suc n) at h = hash_fours s n (at + 4) (mixed h (num (take 4 (drop at s))))

-- by fours where there are four or more: those that begin ahead of the last four, then these
unfoldable pub hash_bytes : Bytes → ℕ
hash_bytes s = cond (ltb (length s) 4) (hash_few 0 s) (hash_fours s ((length s - 1) / 4) 0 0)

-- the number of a name, and of a path's record, in an operation: the same where these are the same, and under 65536. The last factor brings every byte to the upper half, which is taken.
unfoldable pub number_of : Shortening → Bytes → ℕ
number_of op s = hash_bytes s * 1831565813 % 4294967296 / 65536

-- a word's lower half is a base's place in the card, 0 for the prefix; its upper half is the number of the path's record
abbrev pub place_in : ℕ → ℕ
place_in w = w % 65536

abbrev pub tag_in : ℕ → ℕ
tag_in w = w / 65536

unfoldable pub base_word : Shortening → (card : Bytes) → ℕ → ℕ
base_word op card place = cond (eqb place 0) 0 (place + 65536 * number_of op (record_at card place))

-- the base at a place
unfoldable pub base_at : Scope → ℕ → Bytes
base_at s place = cond (eqb place 0) (prefix_in s) (record_at s.card place)

-- whether two words say the same base: paths of the card with different numbers are different
unfoldable pub same_base : Scope → ℕ → ℕ → Bool
same_base s v w =
    cond (eqb (place_in v) 0 || (eqb (place_in w) 0 || eqb (tag_in v) (tag_in w)))
    (same_paths s.op (base_at s (place_in v)) (base_at s (place_in w))) false
