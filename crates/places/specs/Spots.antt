-- The walk of 01, "Points and looking up", as a path from the outermost record on: whatever it meets, met by some path. Assumes nothing: these are definitions.
use Rattle.std.specs.Prelude.{◌≡◌, List, [], ◌∷◌, Bool, true, ◌&&◌, cond, ◌⊎◌, ℕ, ◌+◌, ◌-◌, ◌*◌, ◌<◌, ◌≤◌, length, take, drop, ltb}
use Rattle.std.proofs.Math.Option.{Option, none, some}
use Rattle.wire.specs.Numbers.{Bytes}
use Rattle.records.specs.Record.{Record, leaf, node, encode, encode_all, kind, children, nth, count, first, tree}
use Rattle.rast.specs.Path.{whether}
use Rattle.points.specs.Points.{Meeting, short_type, short_expr, module', elsewhere, meeting}
use Rattle.places.specs.Places.{Entry, entry, entry_words}

-- a record of the card beside one of the output, and the offset of that
pub record Spot : Type 0 where
  pub at : ℕ
  pub this : Record
  pub that : Record

abbrev pub spot : ℕ → (this that : Record) → Spot
spot at this that = record { at = at; this = this; that = that }

-- how the two meet; a Text and a Kept are never short
abbrev pub meets : Record → Record → Meeting
meets (leaf k b) that = elsewhere
meets (node k c) (leaf j d) = elsewhere
meets (node k c) (node j d) = meeting k j

-- how many of the output's records are put ahead of those of the card, and the offset of one of them
abbrev pub ahead : (this that : Record) → ℕ
ahead (leaf k b) that = 0
ahead (node k c) that = count (children that) - count c

abbrev pub child_at : ℕ → Record → ℕ → ℕ
child_at at that i = at + 6 + length (encode_all (first i (children that)))

-- child i of the card's record, beside the child at its place: those put ahead stand before it
abbrev pub beside : Spot → ℕ → Spot
beside s i =
    let j : ℕ = ahead s.this s.that + i in
    spot (child_at s.at s.that j) (nth i (children s.this)) (nth j (children s.that))

-- both have such a child
abbrev pub has_child : Spot → ℕ → Bool
has_child s i = ltb i (count (children s.this)) && ltb (ahead s.this s.that + i) (count (children s.that))

-- the walk stops at a shortened name
abbrev pub goes_on : Meeting → Spot → ℕ → Option Spot
goes_on short_type s i = none
goes_on short_expr s i = none
goes_on module' s i = cond (has_child s i) (some (beside s i)) none
goes_on elsewhere s i = cond (has_child s i) (some (beside s i)) none

-- by a path: a child's number at each step
unfoldable pub follow : List ℕ → Spot → Option Spot
follow [] s = some s
follow (i ∷ path) s = whether (goes_on (meets s.this s.that) s i) none (follow path)

-- some path from a spot leads to one of which P holds
pub record Reaches (from : Spot) (P : Spot → Type 0) : Type 0 where
  pub path : List ℕ
  pub to : Spot
  pub leads : follow path from ≡ some to
  pub holds : P to

-- a shortened type, and a shortened expression, at an offset
abbrev pub ShortAt : Meeting → ℕ → Spot → Type 0
ShortAt m offset s = (meets s.this s.that ≡ m) × (s.at ≡ offset)

-- a record put ahead of those of the card, at an offset
pub record AheadAt (offset : ℕ) (s : Spot) : Type 0 where
  pub number : ℕ
  pub is-ahead : number < ahead s.this s.that
  pub goes-on : (meets s.this s.that ≡ short_type → ⊥) × (meets s.this s.that ≡ short_expr → ⊥)
  pub offset-is : offset ≡ child_at s.at s.that number

-- a use: a UseDecl put ahead in the body of a Mod, its field 3
pub record UseAt (offset : ℕ) (s : Spot) : Type 0 where
  pub is-module : meets s.this s.that ≡ module'
  pub has_body : has_child s 3 ≡ true
  pub in_body : AheadAt offset (beside s 3)
  pub is-use : kind (nth in_body.number (children (beside s 3).that)) ≡ 0x6A

-- an entry is in the list
unfoldable pub In : Entry → List Entry → Type 0
In e [] = ⊥
In e (f ∷ es) = (e ≡ f) ⊎ In e es

-- offsets rise strictly, from one on
unfoldable pub Rising : ℕ → List Entry → Type 0
Rising from [] = Unit {0}
Rising from (e ∷ es) = (from ≤ e.offset) × Rising (e.offset + 1) es

-- THE LIST IS EXACT: listed with 1 are the shortened types, with 2 the shortened expressions, with 3 the uses put ahead, each at its offset, and nothing else.
-- Since offsets rise strictly, no other list is
pub record Exact (from : Spot) (es : List Entry) : Type 0 where
  pub types : (p : ℕ) → (In (entry p 1) es → Reaches from (ShortAt short_type p)) × (Reaches from (ShortAt short_type p) → In (entry p 1) es)
  pub exprs : (p : ℕ) → (In (entry p 2) es → Reaches from (ShortAt short_expr p)) × (Reaches from (ShortAt short_expr p) → In (entry p 2) es)
  pub uses : (p : ℕ) → (In (entry p 3) es → Reaches from (UseAt p)) × (Reaches from (UseAt p) → In (entry p 3) es)
  pub marks : (e : Entry) → In e es → (e.mark ≡ 1) ⊎ ((e.mark ≡ 2) ⊎ (e.mark ≡ 3))
  pub rising : Rising 0 es

-- a record's bytes stand at an offset
abbrev pub Stands : Bytes → ℕ → Record → Type 0
Stands bytes at r = take (length (encode r)) (drop at bytes) ≡ encode r

-- of a card, its output and a list: so many entries at its front, and they are exact
pub record ListExact (card output : Bytes) (entries : ℕ) (list : List ℕ) : Type 0 where
  pub listed : List Entry
  pub many : length listed ≡ entries
  pub words : take (2 * entries) list ≡ entry_words listed
  pub exact : Exact (spot 0 (tree card) (tree output)) listed
  -- an offset is that of its record's bytes in the output: of what the walk meets, and of any child of that, those put ahead too
  pub there : (path : List ℕ) (s : Spot) → follow path (spot 0 (tree card) (tree output)) ≡ some s → Stands output s.at s.that
  pub children-there : (path : List ℕ) (s : Spot) → follow path (spot 0 (tree card) (tree output)) ≡ some s → (i : ℕ) → i < count (children s.that)
      → Stands output (child_at s.at s.that i) (nth i (children s.that))
