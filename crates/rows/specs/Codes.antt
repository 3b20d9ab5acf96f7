-- The places of the rows as numbers, and the row of a kind as such numbers. Assumes nothing: these are definitions.
use Rattle.std.specs.Prelude.{List, [], ◌∷◌, map, Bool, true, false, ◌&&◌, cond, ℕ, zero, suc, ◌+◌, ◌-◌, get_or, eqb, leb}
use Rattle.wire.specs.Numbers.{num}
use Rattle.records.specs.Kinds.{Place, kinds, one, name, seq, option, path, type, expr, mod', row_of}

-- the places of one record, from 0: none
abbrev pub bases : List Place
bases =
    one 0 ∷ one 0x01 ∷ one 0x03 ∷ name ∷ path ∷ type ∷ expr ∷ mod' ∷ kinds 0x62 0x6A ∷ one 0x70 ∷ one 0x71 ∷ one 0x72 ∷ one 0x73 ∷ one 0x74 ∷ kinds 0x75 0x76
    ∷ one 0x77 ∷ one 0x78 ∷ kinds 0x79 0x7A ∷ one 0x7B ∷ one 0x7C ∷ one 0x7D ∷ one 0x7E ∷ one 0x7F ∷ one 0x80 ∷ one 0x81 ∷ one 0x82 ∷ kinds 0x83 0x86 ∷ []

abbrev pub base_of : ℕ → Place
base_of c = get_or bases c (one 0)

-- the place that a number means
unfoldable pub place_of : ℕ → Place
place_of c = cond (leb 64 c) (option (base_of (c - 64))) (cond (leb 32 c) (seq (base_of (c - 32))) (base_of c))

-- the number of a place
abbrev pub same_place : Place → Place → Bool
same_place (kinds a b) (kinds c d) = eqb a c && eqb b d
same_place (kinds a b) name = false
same_place (kinds a b) (seq q) = false
same_place (kinds a b) (option q) = false
same_place name (kinds c d) = false
same_place name name = true
same_place name (seq q) = false
same_place name (option q) = false
same_place (seq p) (kinds c d) = false
same_place (seq p) name = false
same_place (seq p) (seq q) = same_place p q
same_place (seq p) (option q) = false
same_place (option p) (kinds c d) = false
same_place (option p) name = false
same_place (option p) (seq q) = false
same_place (option p) (option q) = same_place p q

abbrev pub index_in : List Place → Place → ℕ
index_in [] p = 0
index_in (q ∷ qs) p = cond (same_place q p) 0 (suc (index_in qs p))

unfoldable pub code_of : Place → ℕ
code_of (kinds a b) = index_in bases (kinds a b)
code_of name = index_in bases name
code_of (seq p) = 32 + index_in bases p
code_of (option p) = 64 + index_in bases p

-- a row for each of n kinds from a on: the number whose bytes are the places' numbers, the first place's the lowest
unfoldable pub table_from : (n a : ℕ) → List ℕ
table_from zero a = []
table_from (suc n) a = num (map code_of (row_of a)) ∷ table_from n (suc a)

unfoldable pub table : List ℕ
table = table_from 135 0
