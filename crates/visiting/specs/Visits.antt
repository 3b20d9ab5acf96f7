-- What is added at a record itself, over any accumulator, as the text's visitor is over any T: a name by its place in the card and its length, and the place of
-- its base, 0 for the prefix. Assumes nothing: these are definitions.
use Rattle.std.specs.Prelude.{Bool, ◌||◌, cond, ℕ, ◌+◌, length, drop, eqb, ltb}
use Rattle.wire.specs.Numbers.{Bytes, same_bytes, between}
use Rattle.records.specs.Record.{encode, length_of, kind_of, content_of, rest_of, first_record}
use Rattle.records.specs.Reading.{short}
use Rattle.rast.specs.Path.{Name, Self}
use Rattle.factor_paths.specs.LookUp.{bare}
use Rattle.prefix.specs.Prefix.{Scope}
use Rattle.fields.specs.Fields.{name_at}
use Rattle.adding.specs.Adds.{Table, added}

-- places that fit a half word, and a content that does not end before it starts
abbrev pub unfit : Bytes → (from to : ℕ) → Bool
unfit card from to = ltb 65536 (length card) || ltb to from

module _ {T : Type 0} (add : T → (at len base : ℕ) → T) (card : Bytes) where
  -- VisitTypeSingle and VisitExprSingle, of the content of TypeFromPath and of ExprFromPath: a name loses its final '!' only in an expression
  unfoldable pub visit_path : Bool → T → (from to : ℕ) → T
  visit_path inExpr t from to =
      let c : Bytes = between card from to in
      let p : Bytes = content_of c in
      let name : Name = content_of (rest_of p) in
      cond (unfit card from to) t
      (cond (eqb (kind_of c) 0x13)
      (cond (short p) t
      (cond (same_bytes (first_record p) (encode Self)) t
      (add t (from + 6 + 10 + length_of p) (length (cond inExpr (bare name) name)) (from + 6)))) t)

  -- VisitModDeclSingle, of the content of a declaration of kind k
  unfoldable pub visit_name : ℕ → T → (from to : ℕ) → T
  visit_name k t from to =
      let c : Bytes = between card from to in
      let o : ℕ = name_at k c in
      cond (unfit card from to) t
      (cond (eqb o 0 || ltb (length c) o) t
      (add t (from + o + 6) (length (content_of (drop o c))) 0))

-- into a table
abbrev pub path_added : Scope → Bool → Table → (from to : ℕ) → Table
path_added s = visit_path (added s) s.card

abbrev pub name_added : Scope → ℕ → Table → (from to : ℕ) → Table
name_added s = visit_name (added s) s.card
