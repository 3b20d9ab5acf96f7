-- Collecting over the bytes of a card, whatever they are and over any accumulator: proofs/Trees shows that over a sound card it is the one walk of the
-- visitor. Assumes nothing: these are definitions.
use Rattle.std.specs.Prelude.{true, false, cond, List, [], ◌∷◌, ℕ, zero, suc, ◌+◌, ◌-◌, length, drop, eqb, ltb}
use Rattle.wire.specs.Numbers.{Bytes, between}
use Rattle.records.specs.Record.{is_leaf, length_of, kind_of}
use Rattle.records.specs.Reading.{short}
use Rattle.factor_paths.specs.Collects.{Visited, a_type, an_expr, a_decl, holds, visited_as, enters}
use Rattle.prefix.specs.Prefix.{Scope}
use Rattle.adding.specs.Adds.{Table, table, started, added}
use Rattle.visiting.specs.Visits.{visit_path, visit_name}

-- where a record starts in the card, and where it ends
pub record Span : Type 0 where
  pub from : ℕ
  pub to : ℕ

abbrev pub span : ℕ → ℕ → Span
span from to = record { from = from; to = to }

-- the records that stand one after the other from one place to another; n bounds how many, and as many as there are bytes suffice
unfoldable pub spans_up_to : Bytes → ℕ → (from to : ℕ) → List Span
spans_up_to card zero from to = []
spans_up_to card (suc n) from to =
    let s : Bytes = between card from to in
    let end : ℕ = from + 4 + length_of s in
    cond (short s) [] (span from end ∷ spans_up_to card n end to)

unfoldable pub spans_in : Bytes → (from to : ℕ) → List Span
spans_in card from to = spans_up_to card (to - from) from to

-- the fields of a record of kind k, from field i on
unfoldable pub gather_each : {T : Type 0} → (T → Span → T) → ℕ → ℕ → T → List Span → T
gather_each f k i t [] = t
gather_each f k i t (r ∷ rs) = gather_each f k (suc i) (cond (enters k i) (f t r) t) rs

module _ {T : Type 0} (add : T → (at len base : ℕ) → T) (card : Bytes) where
  -- what is collected at a record of kind k itself, whose content lies between two places
  abbrev pub gather_as : Visited → ℕ → T → (from to : ℕ) → T
  gather_as a_type k t from to = cond (eqb k 0x2D) (visit_path add card false t from to) t
  gather_as an_expr k t from to = cond (eqb k 0x5C) (visit_path add card true t from to) t
  gather_as a_decl k t from to = visit_name add card k t from to
  gather_as holds k t from to = t

  unfoldable pub gather_self : ℕ → T → (from to : ℕ) → T
  gather_self k t from to = gather_as (visited_as k) k t from to

  -- a record that goes at most left deep
  unfoldable pub gather : ℕ → T → Span → T
  gather zero t r = t
  gather (suc left) t r =
      let k : ℕ = kind_of (between card r.from r.to) in
      let from : ℕ = r.from + 6 in
      cond (is_leaf k) t (gather_each (gather left) k 0 (gather_self k t from r.to) (spans_in card from r.to))

  -- the fields in the content of a record of kind k, and these after the record itself
  unfoldable pub gather_parts : ℕ → ℕ → T → (from to : ℕ) → T
  gather_parts left k t from to = gather_each (gather left) k 0 t (spans_in card from to)

  unfoldable pub gather_whole : ℕ → ℕ → T → (from to : ℕ) → T
  gather_whole left k t from to = gather_parts left k (gather_self k t from to) from to

  -- the module at a place; of a card so long that its places do not fit a half word, nothing
  unfoldable pub gather_module : ℕ → ℕ → T → T
  gather_module left at t =
      let s : Bytes = drop at card in
      cond (ltb 65536 (length card)) t (cond (short s) t (gather left t (span at (at + 4 + length_of s))))

-- into a table
module _ (s : Scope) where
  abbrev pub parts_added : ℕ → ℕ → Table → (from to : ℕ) → Table
  parts_added = gather_parts (added s) s.card

  abbrev pub whole_added : ℕ → ℕ → Table → (from to : ℕ) → Table
  whole_added = gather_whole (added s) s.card

  abbrev pub gathered : ℕ → ℕ → List ℕ → Table
  gathered left at words = gather_module (added s) s.card left at (table 0 (started words))
