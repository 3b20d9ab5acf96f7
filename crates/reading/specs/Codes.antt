-- The content of a record as a number. Assumes nothing: these are definitions.
use Rattle.std.specs.Prelude.{◌≡◌, List, [], ◌∷◌, map, Bool, ◌||◌, cond, ℕ, zero, suc, ◌+◌, ◌-◌, ◌/◌, ◌%◌, ◌^◌, ◌<◌, ◌≤◌, eqb, leb, ltb, Ok, Err}
use Rattle.answers.specs.Answers.{Answer}
use Rattle.answers.specs.declared.Refusal.TheVariants.{ShortRecord, WrongKind, TooDeep, LeftOver, NoName}
use Rattle.answers.specs.Answers.{Verdict}
use Rattle.wire.specs.Numbers.{num}
use Rattle.records.specs.Kinds.{Place, row_of, Content, these, any}
use Rattle.rows.specs.Codes.{place_of, code_of}

-- a number that means a place: no seq and no Option of none
pub record Valid (c : ℕ) : Type 0 where
  pub small : c < 96
  pub some-seq : c ≡ 32 → ⊥
  pub some-option : c ≡ 64 → ⊥

-- a content as a row, one number: a byte for each place to come, the first the lowest, and 0 ends them; from here on any number of records at
-- the place in the lowest byte
abbrev pub many : ℕ
many = 2 ^ 62

unfoldable pub places_in : (n row : ℕ) → List Place
places_in zero row = []
places_in (suc n) row = cond (eqb (row % 256) 0) [] (place_of (row % 256) ∷ places_in n (row / 256))

unfoldable pub row_content : ℕ → Content
row_content row = cond (leb many row) (any (place_of (row % 256))) (these (places_in 8 row))

-- the row after one record, and whether the content may end
unfoldable pub row_after : ℕ → ℕ
row_after row = cond (leb many row) row (row / 256)

unfoldable pub row_ends : ℕ → Bool
row_ends row = leb many row || eqb (row % 256) 0

-- the row of what a record of kind k that stands at place p holds, where it holds anything: an Option then holds one
unfoldable pub row_in : (p k : ℕ) → ℕ
row_in p k = cond (leb 64 p) (p - 64) (cond (leb 32 p) (many + (p - 32)) (num (map code_of (row_of k))))

-- the rows that occur: their bytes are places
unfoldable pub AllValid : (n row : ℕ) → Type 0
AllValid zero row = row ≡ 0
AllValid (suc n) row = Valid (row % 256) × AllValid n (row / 256)

pub data Good (row : ℕ) : Type 0 where
  again : many ≤ row → 0 < row % 256 → row % 256 < 32 → Good row
  fields : row < many → AllValid 8 row → Good row
