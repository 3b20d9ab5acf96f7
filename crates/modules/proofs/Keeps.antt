-- How many words there are does not change, over any bytes. Assumes nothing.
use mathlib.Core.Path.{◌≡◌, refl, sym, ap, ◌∙◌}
use mathlib.Core.Bool.{not, ◌&&◌}
use mathlib.Core.List.{List, [], ◌∷◌, ◌++◌}
use Prim.Native.Nat.{ℕ, zero, suc, ◌+◌, ◌-◌, ◌*◌}
use lib.ListN.{length, length-append, take-append-drop}
use lib.Dec.{eqb, ltb}
use Rattle.wire.specs.Numbers.{Bytes, between}
use Rattle.records.specs.Record.{kind_of, content_of}
use Rattle.rast.proofs.Tests.{one_of}
use Rattle.operation.specs.declared.Shortening.{Shortening}
use Rattle.prefix.specs.Prefix.{Scope, scope}
use Rattle.chains.specs.Chains.{room}
use Rattle.adding.specs.Adds.{Table, table}
use Rattle.adding.specs.Settles.{own_words, free_words}
use Rattle.adding.proofs.Settles.{settled-table-length}
use Rattle.fields.specs.Fields.{name_place}
use Rattle.gathering.specs.Gathers.{Span, span, spans_in, gathered}
use Rattle.gathering.proofs.Keeps.{gathered-length}
use Rattle.tables.specs.Tables.{table_of, has_room, is_small}
use Rattle.modules.specs.Modules.{Made, made, ahead_in, behind, nested_made, saved_made, beside_made, inner_made, each_made, mod_made}
use Rattle.modules.specs.Modules.{declaration_made, body_made, module_made}

pub table-length : (s : Scope) (left at owner : ℕ) (t : Table) → length (table_of s left at owner t).words ≡ length t.words
unfolding table_of
table-length s left at owner t =
    one_of (λ (u : Table). length u.words ≡ length t.words) (eqb owner at) refl
    (settled-table-length (gathered s left at t.words) ∙ gathered-length s left at t.words)

abbrev Keeps : (Span → ℕ → Table → Made) → Type 0
Keeps f = (r : Span) (owner : ℕ) (held : Table) → length (f r owner held).held.words ≡ length held.words

-- as many words behind a table's pairs as were free
pub beside-length : (held : Table) (words : List ℕ) → length words ≡ length (free_words held) → length (own_words held ++ words) ≡ length held.words
beside-length held words e =
    length-append (own_words held) words ∙ ap (λ (x : ℕ). length (own_words held) + x) e ∙ sym (length-append (own_words held) (free_words held))
    ∙ ap length (take-append-drop (4 * held.count) held.words)

-- a nested module with the last words, beside a table, or with all words
pub inner-length : (f : Span → ℕ → Table → Made) → Keeps f → (at : ℕ) (r : Span) (owner : ℕ) (held : Table)
    → length (inner_made f at r owner held).held.words ≡ length held.words
unfolding inner_made saved_made beside_made nested_made
inner-length f k at r owner held =
    let inner = span (r.from + 6) r.to in
    let n = r.to - r.from in
    let free = table 0 (free_words held) in
    one_of Kept (eqb owner at && is_small held n) refl
    (one_of Kept (eqb owner at && has_room held n) (beside-length held (f inner 65537 free).held.words (k inner 65537 free)) (k inner owner held))
  where
    Kept : Made → Type 0
    Kept m = length m.held.words ≡ length held.words

pub each-length : (f : Span → ℕ → Table → Made) → Keeps f → (rs : List Span) (m : Made)
    → length (each_made f rs m).held.words ≡ length m.held.words
unfolding each_made behind
each-length f k [] m = refl
each-length f k (r ∷ rs) m = each-length f k rs (behind m (f r m.owner m.held)) ∙ k r m.owner m.held

module _ (op : Shortening) (card root : Bytes) where
  abbrev Has : ℕ → Made → Type 0
  Has n m = length m.held.words ≡ n

  module _ (f : List ℕ → Span → ℕ → Table → Made) (keeps : (chain : List ℕ) → Keeps (f chain)) where
    pub declaration-length : (depth : ℕ) (chain : List ℕ) (at : ℕ) (r : Span) (owner : ℕ) (held : Table)
        → length (declaration_made op card root f depth chain at r owner held).held.words ≡ length held.words
    unfolding declaration_made
    declaration-length depth chain at r owner held =
        one_of (Has (length held.words)) (eqb (kind_of (between card r.from r.to)) 0x62)
        (inner-length (f chain) (keeps chain) at r owner held)
        (table-length (scope op card root chain) depth at owner held)

    pub body-length : (depth : ℕ) (chain : List ℕ) (at : ℕ) (b : Span) (mine : Table)
        → length (body_made op card root f depth chain at b mine).held.words ≡ length mine.words
    unfolding body_made
    body-length depth chain at b mine =
        each-length (declaration_made op card root f depth chain at) (declaration-length depth chain at) (spans_in card (b.from + 6) b.to) (made [] 0 at mine)

  -- THE LAW
  pub held-length : (depth : ℕ) (chain : List ℕ) (m : Span) (owner : ℕ) (held : Table)
      → length (module_made op card root depth chain m owner held).held.words ≡ length held.words
  unfolding module_made mod_made
  held-length zero chain m owner held = refl
  held-length (suc depth) chain m owner held =
      let at = m.from in
      let r = between card at m.to in
      let inner = chain ++ (name_place card at ∷ []) in
      let mine = table_of (scope op card root inner) (suc depth) at owner held in
      let t = table-length (scope op card root inner) (suc depth) at owner held in
      one_of (Has (length held.words)) (not (eqb (kind_of r) 0x60)) refl
      (one_of (Has (length held.words)) (ltb (room mine.words) mine.count) t
      (body-length (module_made op card root depth) (λ c. held-length depth c) (suc depth) inner at
      (span (at + 6 + length (ahead_in (content_of r))) m.to) mine ∙ t))
