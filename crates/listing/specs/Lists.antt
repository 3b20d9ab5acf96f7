-- The changed points over the bytes of a card and of an output, whatever they are: placed/proofs/Listing shows that of a card and an output that Points holds of they
-- are `places_of`. Assumes nothing: these are definitions.
use Rattle.std.specs.Prelude.{◌&&◌, ◌||◌, cond, List, [], ◌∷◌, ◌++◌, ℕ, zero, suc, ◌+◌, ◌-◌, ◌^◌, length, take, drop, eqb, ltb}
use Rattle.wire.specs.Numbers.{Bytes}
use Rattle.records.specs.Record.{is_leaf, kind_of, content_of}
use Rattle.places.specs.Places.{Entry, entry}
use Rattle.rewriting.specs.Rewrites.{parts_of, body_of}

-- uses put ahead, one after the other from an offset on, and where they end
unfoldable pub uses_from : ℕ → List Bytes → List Entry
uses_from at [] = []
uses_from at (u ∷ us) = entry at 3 ∷ uses_from (at + length u) us

unfoldable pub end_of : ℕ → List Bytes → ℕ
end_of at [] = at
end_of at (u ∷ us) = end_of (at + length u) us

-- records of the card beside those of the output, which stand from an offset on
unfoldable pub besides : (ℕ → Bytes → Bytes → List Entry) → ℕ → (these those : List Bytes) → List Entry
besides f at [] d = []
besides f at (r ∷ c) [] = []
besides f at (r ∷ c) (s ∷ d) = f at r s ++ besides f (at + length s) c d

-- those of a Mod's body: the uses put ahead, by which the output's are more, and then the others beside the card's
unfoldable pub besides_body : (ℕ → Bytes → Bytes → List Entry) → ℕ → (these those : List Bytes) → List Entry
besides_body f at these those =
    let n : ℕ = length those - length these in
    uses_from at (take n those) ++ besides f (end_of at (take n those)) these (drop n those)

-- a record of the card that goes at most so deep, beside one of the output at an offset; a Mod's body is its last field, so that its content ends where s ends
unfoldable pub record_places : ℕ → ℕ → (r s : Bytes) → List Entry
record_places zero at r s = []
record_places (suc depth) at r s =
    let k : ℕ = kind_of r in
    let j : ℕ = kind_of s in
    cond (eqb k 0x2D && eqb j 0x37) (entry at 1 ∷ [])
    (cond (eqb k 0x5C && eqb j 0x42) (entry at 2 ∷ [])
    (cond (is_leaf k) []
    (cond (eqb k 0x60) (besides_body (record_places depth) (at + (length s - length (body_of s))) (parts_of (body_of r)) (parts_of (body_of s)))
    (besides (record_places depth) (at + 6) (parts_of (content_of r)) (parts_of (content_of s))))))

-- of a whole card and its output; none where an offset may not fit a word
unfoldable pub card_places : (card out : Bytes) → List Entry
card_places card out = cond (ltb 65536 (length card) || ltb (2 ^ 31) (length out)) [] (record_places 48 0 card out)
