-- What stands at a field, as the row of a kind says it in numbers and as document 01, Leaf 1, says it. Assumes nothing: these are definitions.
use Rattle.std.specs.Prelude.{Bool, false, cond, ℕ, zero, suc, ◌-◌, ◌/◌, ◌%◌, leb}
use Rattle.records.specs.Kinds.{Place, kinds, name, seq, option, stands}
use Rattle.rows.specs.Codes.{place_of}

-- the byte of a row that is the lowest after i records
abbrev pub byte_of : ℕ → ℕ → ℕ
byte_of zero row = row % 256
byte_of (suc i) row = byte_of i (row / 256)

-- kind k in the List at a place: by the definition, and by the number with which reading asks, 32 less for a seq and 64 less for an Option
abbrev pub inside : Place → ℕ → Bool
inside (kinds from to) k = false
inside name k = false
inside (seq p) k = stands p k
inside (option p) k = stands p k

abbrev pub inside_of : ℕ → ℕ → Bool
inside_of c k = cond (leb 64 c) (stands (place_of (c - 64)) k) (cond (leb 32 c) (stands (place_of (c - 32)) k) false)
