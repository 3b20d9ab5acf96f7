-- What adding keeps, collecting keeps, over any bytes. Assumes nothing.
use mathlib.Core.Path.{◌≡◌, refl, ◌∙◌}
use mathlib.Core.Bool.{Bool, true, false, ◌||◌}
use mathlib.Core.List.{List, [], ◌∷◌}
use Prim.Native.Nat.{ℕ, zero, suc, ◌+◌}
use lib.ListN.{length, drop}
use lib.Dec.{eqb, ltb}
use Rattle.wire.specs.Numbers.{Bytes, same_bytes, between}
use Rattle.records.specs.Record.{is_leaf, encode, length_of, kind_of, content_of, first_record}
use Rattle.records.specs.Reading.{short}
use Rattle.rast.specs.Path.{Self}
use Rattle.rast.proofs.Tests.{one_of}
use Rattle.factor_paths.specs.Collects.{Visited, a_type, an_expr, a_decl, holds, visited_as, enters}
use Rattle.prefix.specs.Prefix.{Scope}
use Rattle.fields.specs.Fields.{name_at}
use Rattle.adding.specs.Adds.{Table, table, started, added}
use Rattle.adding.proofs.Starts.{started-length}
use Rattle.adding.proofs.Stores.{added-length}
use Rattle.visiting.specs.Visits.{unfit, visit_path, visit_name}
use Rattle.gathering.specs.Gathers.{Span, span, spans_in, gather_each, gather_as, gather_self, gather, gather_module, gathered}

module _ {T : Type 0} (add : T → (at len base : ℕ) → T) (card : Bytes) (P : T → Type 0) (keeps : (t : T) (at len base : ℕ) → P t → P (add t at len base)) where
  path-keeps : (inExpr : Bool) (t : T) (from to : ℕ) → P t → P (visit_path add card inExpr t from to)
  unfolding visit_path
  path-keeps inExpr t from to p =
      let c = between card from to in
      one_of P (unfit card from to) p
      (one_of P (eqb (kind_of c) 0x13)
      (one_of P (short (content_of c)) p (one_of P (same_bytes (first_record (content_of c)) (encode Self)) p (keeps t _ _ _ p))) p)

  name-keeps : (k : ℕ) (t : T) (from to : ℕ) → P t → P (visit_name add card k t from to)
  unfolding visit_name
  name-keeps k t from to p =
      let c = between card from to in
      one_of P (unfit card from to) p (one_of P (eqb (name_at k c) 0 || ltb (length c) (name_at k c)) p (keeps t _ _ _ p))

  as-keeps : (v : Visited) (k : ℕ) (t : T) (from to : ℕ) → P t → P (gather_as add card v k t from to)
  as-keeps a_type k t from to p = one_of P (eqb k 0x2D) (path-keeps false t from to p) p
  as-keeps an_expr k t from to p = one_of P (eqb k 0x5C) (path-keeps true t from to p) p
  as-keeps a_decl k t from to p = name-keeps k t from to p
  as-keeps holds k t from to p = p

  each_keeps : (f : T → Span → T) → ((t : T) (r : Span) → P t → P (f t r)) → (k i : ℕ) (t : T) (rs : List Span) → P t → P (gather_each f k i t rs)
  unfolding gather_each
  each_keeps f g k i t [] p = p
  each_keeps f g k i t (r ∷ rs) p = each_keeps f g k (suc i) _ rs (one_of P (enters k i) (g t r p) p)

  pub gather-keeps : (left : ℕ) (t : T) (r : Span) → P t → P (gather add card left t r)
  unfolding gather gather_self
  gather-keeps zero t r p = p
  gather-keeps (suc left) t r p =
      let k = kind_of (between card r.from r.to) in
      let from = r.from + 6 in
      one_of P (is_leaf k) p
      (each_keeps (gather add card left) (gather-keeps left) k 0 _ (spans_in card from r.to) (as-keeps (visited_as k) k t from r.to p))

  pub module-keeps : (left at : ℕ) (t : T) → P t → P (gather_module add card left at t)
  unfolding gather_module
  module-keeps left at t p =
      one_of P (ltb 65536 (length card)) p (one_of P (short (drop at card)) p (gather-keeps left t (span at (at + 4 + length_of (drop at card))) p))

-- how many words there are
pub gathered-length : (s : Scope) (left at : ℕ) (words : List ℕ) → length (gathered s left at words).words ≡ length words
gathered-length s left at words =
    module-keeps (added s) s.card (λ t. length t.words ≡ length words) (λ t a l b p. added-length s t a l b ∙ p) left at (table 0 (started words))
    (started-length words)
