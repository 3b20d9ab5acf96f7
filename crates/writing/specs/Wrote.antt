-- What a call of the ring leaves: the piece that it answers is what the definition makes. Assumes nothing: these are definitions.
use Rattle.std.specs.Prelude.{◌≡◌, List, [], ℕ, ◌+◌, ◌-◌, ◌≤◌, length as long, Option, None, Some}
use Rattle.wire.specs.Numbers.{Bytes, between}
use Rattle.records.specs.Record.{content_of}
use Rattle.operation.specs.declared.Shortening.{Shortening}
use Rattle.adding.specs.Adds.{Table, table}
use Rattle.gathering.specs.Gathers.{Span, span, spans_in}
use Rattle.tables.specs.Tables.{last_words}
use Rattle.laying.specs.Lays.{lay}
use Rattle.writing.specs.declared.Piece.{Piece}
use Rattle.modules.specs.Modules.{Made, made, ahead_in, mod_made, saved_made, inner_made, each_made, declaration_made, body_made, module_made}

-- out and the words after a call, its four answers, and what is made
pub record Wrote (out after : Bytes) (words : List ℕ) (length full owner pairs : ℕ) (m : Made) : Type 0 where
  pub length-is : length ≡ long m.bytes
  pub laid : after ≡ lay out 0 m.bytes
  pub full_is : full ≡ m.full
  pub owner-is : owner ≡ m.owner
  pub held-is : table pairs words ≡ m.held

-- the place after that of the first module whose table is full, 0 where none is
abbrev pub place_after : Option ℕ → ℕ
place_after None = 0
place_after (Some place) = place + 1

-- the same of the piece that is answered
abbrev pub Leaves : (out after : Bytes) (words : List ℕ) → Piece → Made → Type 0
Leaves out after words p m = Wrote out after words p.length (place_after p.full) p.held.owner p.held.pairs m

-- a part of a card, whose places fit a half word, and modules around it and in it that are no more than a card's
pub record Within (from to : ℕ) (card : Bytes) (chain : List ℕ) (left : ℕ) : Type 0 where
  pub ordered : from ≤ to
  pub inside : to ≤ long card
  pub small : long card ≤ 65536
  pub shallow : long chain + left ≤ 48

-- what is made of the module at a place, which has this chain and is at most left deep, of its body and of its declarations, where the words hold its table
module _ (op : Shortening) (card root : Bytes) (left : ℕ) (chain : List ℕ) (at : ℕ) where
  abbrev pub saved_at : Span → (pairs : ℕ) → List ℕ → Made
  saved_at d pairs words =
      let held : Table = table pairs words in
      saved_made at held (module_made op card root left chain (span (d.from + 6) d.to) 65537 (table 0 (last_words held (d.to - d.from))))

  abbrev pub inner_at : Span → (owner pairs : ℕ) → List ℕ → Made
  inner_at d owner pairs words = inner_made (module_made op card root left chain) at d owner (table pairs words)

  abbrev pub declaration_at : Span → (owner pairs : ℕ) → List ℕ → Made
  declaration_at d owner pairs words =
      declaration_made op card root (module_made op card root (left - 1)) left chain at d owner (table pairs words)

  abbrev pub declarations_at : (from to pairs : ℕ) → List ℕ → Made
  declarations_at from to pairs words =
      each_made (declaration_made op card root (module_made op card root (left - 1)) left chain at) (spans_in card from to) (made [] 0 at (table pairs words))

  abbrev pub body_at : (from to pairs : ℕ) → List ℕ → Made
  body_at from to pairs words =
      body_made op card root (module_made op card root (left - 1)) left chain at (span from to) (table pairs words)

  abbrev pub mod_at : (to pairs : ℕ) → List ℕ → Made
  mod_at to pairs words =
      let c : Bytes = content_of (between card at to) in
      mod_made c (body_at (at + 6 + long (ahead_in c)) to pairs words)
