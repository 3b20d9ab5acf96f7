-- 02, request 1: the changed points of a card and its output, with their offsets in the output. Assumes nothing: these are definitions.
use Rattle.std.specs.Prelude.{List, [], ◌∷◌, ◌++◌, cond, ℕ, ◌+◌, length, ltb}
use Rattle.records.specs.Record.{Record, Records, leaf, node, nil, ◌▸◌, encode, count}
use Rattle.points.specs.Points.{Meeting, short_type, short_expr, module', elsewhere, meeting}

-- an entry of the list: an offset, and 1 for a wrapped type, 2 for an expression, 3 for a use put in
pub record Entry : Type 0 where
  pub offset : ℕ
  pub mark : ℕ

abbrev pub entry : ℕ → ℕ → Entry
entry offset mark = record { offset = offset; mark = mark }

-- two words each
unfoldable pub entry_words : List Entry → List ℕ
entry_words [] = []
entry_words (e ∷ es) = e.offset ∷ (e.mark ∷ entry_words es)

-- the walk stops where a name is shortened; elsewhere it goes on to what is inside
abbrev pub listed : Meeting → ℕ → List Entry → List Entry
listed short_type at inside = entry at 1 ∷ []
listed short_expr at inside = entry at 2 ∷ []
listed module' at inside = inside
listed elsewhere at inside = inside

-- The walk of 01, "Points and looking up", this of the card beside that of the output, which starts at an offset. Where those of the output are more, the first
-- of them are put ahead, until as many follow: where Point holds, only a Mod's body has more, and they are its uses.
unfoldable mutual
  pub places_of : ℕ → (this that : Record) → List Entry
  places_of at (leaf k b) that = []
  places_of at (node k c) (leaf j d) = []
  places_of at (node k c) (node j d) = listed (meeting k j) at (places_in (at + 6) c d)

  pub places_in : ℕ → (these those : Records) → List Entry
  places_in at nil nil = []
  places_in at nil (s ▸ d) = entry at 3 ∷ places_in (at + length (encode s)) nil d
  places_in at (r ▸ c) nil = []
  places_in at (r ▸ c) (s ▸ d) =
      let next : ℕ = at + length (encode s) in
      cond (ltb (count c) (count d)) (entry at 3 ∷ places_in next (r ▸ c) d) (places_of at r s ++ places_in next c d)
