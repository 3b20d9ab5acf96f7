-- A module written over the bytes of a card, whatever they are (01, applyPrefix): its uses, then its declarations, each module by its own table. What the
-- work words hold goes along: one module's table and, behind its pairs, those of modules in it that surely have room there. A small module borrows the last
-- words. proofs/Applies shows that over a sound card it is applyPrefix. Assumes nothing: these are definitions.
use Rattle.std.specs.Prelude.{List, [], ◌∷◌, ◌++◌, not, ◌&&◌, cond, ℕ, zero, suc, ◌+◌, ◌-◌, length, take, eqb, ltb}
use Rattle.wire.specs.Numbers.{Bytes, between}
use Rattle.records.specs.Record.{record_bytes, kind_of, content_of, rest_of}
use Rattle.operation.specs.declared.Shortening.{Shortening}
use Rattle.prefix.specs.Prefix.{Scope, scope}
use Rattle.chains.specs.Chains.{room}
use Rattle.adding.specs.Adds.{Table, table}
use Rattle.adding.specs.Settles.{own_words, free_words}
use Rattle.fields.specs.Fields.{name_place}
use Rattle.gathering.specs.Gathers.{Span, span, spans_in}
use Rattle.tables.specs.Tables.{table_of, has_room, is_small, last_words}
use Rattle.rewriting.specs.Imports.{imports_bytes}
use Rattle.rewriting.specs.Rewrites.{declaration}

-- what was made: bytes; the place after that of the first module whose table is full, 0 where none is; whose table the words hold, and that table
pub record Made : Type 0 where
  pub bytes : Bytes
  pub full : ℕ
  pub owner : ℕ
  pub held : Table

abbrev pub made : Bytes → (full owner : ℕ) → Table → Made
made bytes full owner held = record { bytes = bytes; full = full; owner = owner; held = held }

-- the body in a Mod's content, its fourth field, and what stands ahead of it
abbrev pub body_in : Bytes → Bytes
body_in c = rest_of (rest_of (rest_of c))

abbrev pub ahead_in : Bytes → Bytes
ahead_in c = take (length c - length (body_in c)) c

-- one made behind another; the first full table counts
abbrev pub first_full : ℕ → ℕ → ℕ
first_full a b = cond (eqb a 0) b a

unfoldable pub behind : Made → Made → Made
behind m d = made (m.bytes ++ d.bytes) (first_full m.full d.full) d.owner d.held

-- ModDecl(mod), of what was made of the module
unfoldable pub nested_made : Made → Made
nested_made m = made (record_bytes 0x62 m.bytes) m.full m.owner m.held

-- the same, made with the last words, which are put back: the table of the module at a place stays
unfoldable pub saved_made : ℕ → Table → Made → Made
saved_made at held m = made (record_bytes 0x62 m.bytes) m.full at held

-- and made with the words behind that table's pairs
unfoldable pub beside_made : ℕ → Table → Made → Made
beside_made at held m = saved_made at (table held.count (own_words held ++ m.held.words)) m

-- a declaration that holds a module goes on by f. Where the words hold the table of the module at a place: with the last words, if it is small, or beside that
-- table, if there is room. Else with all words
unfoldable pub inner_made : (Span → ℕ → Table → Made) → (at : ℕ) → Span → ℕ → Table → Made
inner_made f at r owner held =
    let inner : Span = span (r.from + 6) r.to in
    let n : ℕ = r.to - r.from in
    cond (eqb owner at && is_small held n) (saved_made at held (f inner 65537 (table 0 (last_words held n))))
    (cond (eqb owner at && has_room held n) (beside_made at held (f inner 65537 (table 0 (free_words held)))) (nested_made (f inner owner held)))

-- declarations, one behind the other
unfoldable pub each_made : (Span → ℕ → Table → Made) → List Span → Made → Made
each_made f [] m = m
each_made f (r ∷ rs) m = each_made f rs (behind m (f r m.owner m.held))

-- Mod(docString, attributes, name, body), of its content and what was made of the body
unfoldable pub mod_made : Bytes → Made → Made
mod_made c b = made (record_bytes 0x60 (ahead_in c ++ b.bytes)) b.full b.owner b.held

module _ (op : Shortening) (card root : Bytes) where
  -- a declaration of the module at a place, which has this chain and is at most so deep
  unfoldable pub declaration_made : (List ℕ → Span → ℕ → Table → Made) → (depth : ℕ) → List ℕ → (at : ℕ) → Span → ℕ → Table → Made
  declaration_made f depth chain at r owner held =
      let s : Scope = scope op card root chain in
      let d : Bytes = between card r.from r.to in
      let mine : Table = table_of s depth at owner held in
      cond (eqb (kind_of d) 0x62) (inner_made (f chain) at r owner held) (made (declaration s (own_words mine) depth d) 0 at mine)

  -- its body, from a place to the module's end: its uses, then its declarations
  unfoldable pub body_made : (List ℕ → Span → ℕ → Table → Made) → (depth : ℕ) → List ℕ → (at : ℕ) → Span → Table → Made
  body_made f depth chain at b mine =
      let uses : Bytes = imports_bytes (scope op card root chain) (own_words mine) mine.count in
      let m : Made = each_made (declaration_made f depth chain at) (spans_in card (b.from + 6) b.to) (made [] 0 at mine) in
      made (record_bytes 0x02 (uses ++ m.bytes)) m.full m.owner m.held

  -- a module, in modules that have this chain: a Mod is written anew, unless its table is full; anything else is left
  unfoldable pub module_made : (depth : ℕ) → List ℕ → Span → ℕ → Table → Made
  module_made zero chain m owner held = made (between card m.from m.to) 0 owner held
  module_made (suc depth) chain m owner held =
      let at : ℕ = m.from in
      let r : Bytes = between card at m.to in
      let c : Bytes = content_of r in
      let inner : List ℕ = chain ++ (name_place card at ∷ []) in
      let mine : Table = table_of (scope op card root inner) (suc depth) at owner held in
      let body : Made = body_made (module_made depth) (suc depth) inner at (span (at + 6 + length (ahead_in c)) m.to) mine in
      cond (not (eqb (kind_of r) 0x60)) (made r 0 owner held)
      (cond (ltb (room mine.words) mine.count) (made [] (at + 1) at mine) (mod_made c body))

  -- the whole card; nothing of one whose places do not fit a half word
  unfoldable pub card_made : ℕ → Table → Made
  card_made owner held = cond (ltb 65536 (length card)) (made [] 0 owner held) (module_made 48 [] (span 0 (length card)) owner held)
