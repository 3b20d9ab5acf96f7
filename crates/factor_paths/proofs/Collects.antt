-- The visitor over a module that fits is one walk over its records. Assumes nothing.
use mathlib.Core.Path.{◌≡◌, refl, ap, sym, ◌∙◌}
use mathlib.Core.List.{[], ◌∷◌}
use mathlib.Core.Bool.{Bool, true, false, ◌||◌, false≢true}
use Prim.Native.Nat.{ℕ, suc, ◌≤◌}
use native.Mathlib.Omega.{arith}
use lib.Dec.{eqb, lit≤}
use borrow.Author.Tests.{eqb-true, le-leb}
use Rattle.records.specs.Record.{Record, Records, leaf, node, nil, ◌▸◌, kind, children, nth, field, is_leaf, FoldLeft}
use Rattle.records.specs.Kinds.{Place, kinds, one, seq, option, stands, path, type, expr, mod', row_of, Content, bytes, these, any, at_most_one, content_at}
use Rattle.records.proofs.Fits.{Stands, StandsAll, Fits, FitsAll}
use Rattle.records.proofs.Closed.{Of, OfAll, closed, fits-of}
use Rattle.records.proofs.Run.{◌⨾◌, in-run, within}
use Rattle.records.proofs.Step.{content-leaf, of_bytes-true}
use Rattle.records.proofs.Leaves.{leaf-right, one-kind, no-records}
use Rattle.records.proofs.ByRow.{by-kinds, seq_node, option-node, fits-there}
use Rattle.rast.specs.Path.{Path}
use Rattle.rast.specs.Mod.{Mod-as-Fold}
use Rattle.rast.specs.Fold.{Role, a_type as role_type, an_expr as role_expr, holds as role_holds, other, role, visit, Fold, FoldParts, Expr_Fold}
use Rattle.rast.specs.Visitor.{RASTTopDownVisitor, VisitType, VisitTypeParams, VisitFields, VisitFn, VisitMember, VisitBody, VisitImplMapping, VisitUse}
use Rattle.rast.specs.Visitor.{VisitTopFn, VisitTraitDecl, VisitStructMapping, VisitModMapping, VisitMod}
use Rattle.rast.proofs.Tests.{by-test, either, one_of}
use Rattle.factor_paths.specs.Collects.{Visited, a_type, an_expr, holds, visited_as, enters, single, collects, collects_all}
use Rattle.factor_paths.proofs.Tidy.{type_kind, term_kind, types-closed, terms-closed, by-either, at_literal, by-type_kind, by-term_kind, PathIn, Paths}
use Rattle.factor_paths.proofs.Tidy.{fits-paths}
use Rattle.factor_paths.proofs.Wraps.{or_left, is_expr, no-expr-role, path-role}

-- at the kinds that lie in types and expressions, what is visited itself is what Fold's role says
abbrev to_visited : Role → Visited
to_visited role_type = a_type
to_visited role_expr = an_expr
to_visited role_holds = holds
to_visited other = holds

abbrev Same : ℕ → Type 0
Same k = visited_as k ≡ to_visited (role k)

same-visited : (k : ℕ) → term_kind k ≡ true → Same k
same-visited =
    by-term_kind Same
    (by-type_kind Same (refl ⨾ refl ⨾ refl) (refl ⨾ refl ⨾ refl ⨾ refl) (λ k e. rw e) refl)
    (λ k e. rw e (either (λ v ρ. v ≡ to_visited ρ) (stands type k) refl refl)) refl refl

-- what Fold does not enter there are leaves and paths
abbrev quiet_kind : ℕ → Bool
quiet_kind k = is_leaf k || stands path k

quiet-closed : closed quiet_kind ≡ true
quiet-closed = refl

abbrev Quiet : ℕ → Type 0
Quiet k = role k ≡ other → quiet_kind k ≡ true

other-quiet : (k : ℕ) → term_kind k ≡ true → Quiet k
other-quiet =
    by-term_kind Quiet
    (by-type_kind Quiet ((λ e. refl) ⨾ (λ e. cc) ⨾ (λ e. refl)) ((λ e. refl) ⨾ (λ e. refl) ⨾ (λ e. refl) ⨾ (λ e. refl)) (λ k e. rw e (λ g. cc)) (λ e. cc))
    (λ k e. rw e (one_of (λ ρ. ρ ≡ other → quiet_kind k ≡ true) (stands type k) (λ e. cc) (λ e. cc))) (λ e. cc) (λ e. cc)

-- these are not visited, and hold only such
quiet-visited : (k : ℕ) → quiet_kind k ≡ true → visited_as k ≡ holds
quiet-visited k e =
    by-either (is_leaf k) (stands path k) e
    (λ e. by-either (eqb k 0x01) (eqb k 0x03) e (at_literal P 0x01 refl k) (at_literal P 0x03 refl k))
    (in-run P 0x10 3 (refl ⨾ refl ⨾ refl ⨾ refl) k)
  where
    P : ℕ → Type 0
    P k = visited_as k ≡ holds

quiet-below : (k : ℕ) (c : Records) (p : Place) → quiet_kind k ≡ true → Fits (node k c) p → OfAll quiet_kind c
unfolding Stands Of
quiet-below k c p e f =
    by-either (is_leaf k) (stands path k) e
    (λ e. absurd (no-records c (rw (of_bytes-true (content_at p k) (content-leaf p k f.0 ∙ e)) at f.1)))
    (λ e. let low : 4 ≤ k = (let w = within 0x10 0x13 k e in omega arith) in
    (fits-of quiet_kind quiet-closed (node k c) path refl (fits-there k c p path low f e)).1)

-- of the kinds in types and expressions all but those of path types, path expressions and TSynonym enter each field
not_at : (k₀ : ℕ) → term_kind k₀ ≡ false → (k : ℕ) → term_kind k ≡ true → eqb k k₀ ≡ false
not_at k₀ h k e = by-test (eqb k k₀) (λ g. absurd (false≢true (sym h ∙ rw (eqb-true k k₀ g) at e))) (λ g. g)

enters-all : (k : ℕ) → term_kind k ≡ true → eqb k 0x2D || eqb k 0x5C ≡ false → eqb k 0x37 ≡ false → (i : ℕ) → enters k i ≡ true
enters-all k e a b i = rw (a, b, not_at 0x62 refl k e, not_at 0x6A refl k e, not_at 0x70 refl k e, not_at 0x7A refl k e)

module _ {T : Type 0} (this : RASTTopDownVisitor T) (SelfPath : Path) where
  abbrev C : T → Record → T
  C = collects this SelfPath

  abbrev CAll : ℕ → ℕ → T → Records → T
  CAll = collects_all this SelfPath

  -- F of a record is the walk over it; and so of each record that stands at a place
  abbrev Is : (T → Record → T) → Record → Type 0
  Is F r = (acc : T) → F acc r ≡ C acc r

  abbrev At : Place → (T → Record → T) → Type 0
  At p F = (r : Record) → Fits r p → Is F r

  mutual
    unfolding collects Of

    quiet : (r : Record) → Of quiet_kind r → (acc : T) → C acc r ≡ acc
    quiet (leaf k b) o acc = refl
    quiet (node k c) o acc = rw (quiet-visited k o.0) (quiet_all k 0 c o.1 acc)

    quiet_all : (k i : ℕ) (c : Records) → OfAll quiet_kind c → (acc : T) → CAll k i acc c ≡ acc
    quiet_all k i nil o acc = refl
    quiet_all k i (r ▸ c) o acc = quiet_all k (suc i) c o.1 _ ∙ one_of (λ x. x ≡ acc) (enters k i) (quiet r o.0 acc) refl

  -- the fields of a TSynonym after the first are not entered
  rest-left : (i : ℕ) (c : Records) (acc : T) → CAll 0x37 (suc i) acc c ≡ acc
  unfolding collects_all
  rest-left i nil acc = refl
  rest-left i (r ▸ c) acc = rw (le-leb 1 (suc i) (omega arith)) (rest-left (suc i) c acc)

  abbrev VisitExpr : T → Record → T
  VisitExpr acc e = Expr_Fold e acc this.VisitExprSingle this.VisitTypeSingle

  -- it does not matter that Fold has f for an expression
  abbrev Agrees : (T → Record → T) → Role → Type 0
  Agrees f ρ =
      (acc : T) (r : Record) (parts : T → T)
      → visit f this.VisitTypeSingle ρ acc r parts ≡ visit this.VisitExprSingle this.VisitTypeSingle ρ acc r parts

  -- Fold over kinds q, which are kinds in types and expressions
  module _ (q : ℕ → Bool) (terms : (k : ℕ) → q k ≡ true → term_kind k ≡ true) (f : T → Record → T) (agrees : (k : ℕ) → q k ≡ true → Agrees f (role k)) where
    abbrev F : T → Record → T
    F = Fold f this.VisitTypeSingle

    abbrev FParts : Bool → T → Records → T
    FParts = FoldParts f this.VisitTypeSingle

    -- the path of a path type or a path expression: Fold goes to it and leaves it, the walk does not go there
    path-left : (r : Record) → stands path (kind r) ≡ true → (acc : T) → F acc r ≡ acc
    unfolding Fold
    path-left (leaf k b) e acc = refl
    path-left (node k c) e acc = rw (path-role k e)

    path-parts : (k : ℕ) (c : Records) → eqb k 0x2D || eqb k 0x5C ≡ true → PathIn c → (acc : T) → FParts (eqb k 0x37) acc c ≡ CAll k 0 acc c
    unfolding FoldParts collects_all
    path-parts k c e h acc = rw h.only (by-either (eqb k 0x2D) (eqb k 0x5C) e (at_literal P 0x2D left k) (at_literal P 0x5C left k))
      where
        P : ℕ → Type 0
        P k = FParts (eqb k 0x37) acc (h.held ▸ nil) ≡ CAll k 0 acc (h.held ▸ nil)

        left : F acc h.held ≡ acc
        left = path-left h.held h.stands-path acc

    -- the parts of a record, given the law of each
    unfoldable Each : Records → Type 0
    Each nil = Unit {0}
    Each (r ▸ c) = Is F r × Each c

    first_part : (c : Records) → Each c → (acc : T) → FParts true acc c ≡ CAll 0x37 0 acc c
    unfolding FoldParts collects_all Each
    first_part nil h acc = refl
    first_part (r ▸ c) h acc = h.0 acc ∙ sym (rest-left 0 c (C acc r))

    all-parts : (k : ℕ) → ((i : ℕ) → enters k i ≡ true) → (i : ℕ) (c : Records) → Each c → (acc : T) → FParts false acc c ≡ CAll k i acc c
    unfolding FoldParts collects_all Each
    all-parts k e i nil h acc = refl
    all-parts k e i (r ▸ c) h acc = rw (e i) (ap (λ acc. FParts false acc c) (h.0 acc) ∙ all-parts k e (suc i) c h.1 (C acc r))

    parts : (k : ℕ) (c : Records) (p : Place) → Fits (node k c) p → q k ≡ true → Each c → (acc : T) → FParts (eqb k 0x37) acc c ≡ CAll k 0 acc c
    unfolding Paths
    parts k c p fit o h acc =
        by-test (eqb k 0x2D || eqb k 0x5C) (λ a. path-parts k c a ((fits-paths (node k c) p fit).0 a) acc)
        (λ a. by-test (eqb k 0x37) (λ b. rw (eqb-true k 0x37 b) (first_part c h acc)) (λ b. rw b (all-parts k (enters-all k (terms k o) a b) 0 c h acc)))

    -- the record itself, then its parts
    itself : (ρ : Role) (acc : T) (r : Record) (g h : T → T) → ((acc : T) → g acc ≡ h acc) → (ρ ≡ other → h acc ≡ acc) →
        visit this.VisitExprSingle this.VisitTypeSingle ρ acc r g ≡ h (single this SelfPath (to_visited ρ) acc r)
    itself role_type acc r g h e l = e _
    itself role_expr acc r g h e l = e _
    itself role_holds acc r g h e l = e acc
    itself other acc r g h e l = sym (l refl)

    mutual
      unfolding Fold collects Stands StandsAll Each Of

      fold-collects : (r : Record) (p : Place) → Fits r p → Of q r → (acc : T) → F acc r ≡ C acc r
      fold-collects (leaf k b) p fit o acc = refl
      fold-collects (node k c) p fit o acc =
          agrees k o.0 acc (node k c) _
          ∙ itself (role k) acc (node k c) _ (λ acc. CAll k 0 acc c) (parts k c p fit o.0 (each-collects c (content_at p k) fit.1 o.1))
          (λ e. quiet_all k 0 c (quiet-below k c p (other-quiet k (terms k o.0) e) fit) acc)
          ∙ rw (same-visited k (terms k o.0))

      each-collects : (c : Records) (t : Content) → FitsAll c t → OfAll q c → Each c
      each-collects nil t fit o = tt
      each-collects (r ▸ c) bytes fit o = absurd fit
      each-collects (r ▸ c) (these []) fit o = absurd fit
      each-collects (r ▸ c) (these (p ∷ ps)) fit o = (λ acc. fold-collects r p fit.0 o.0 acc, each-collects c (these ps) fit.1 o.1)
      each-collects (r ▸ c) (any p) fit o = (λ acc. fold-collects r p fit.0 o.0 acc, each-collects c (any p) fit.1 o.1)
      each-collects (r ▸ c) (at_most_one p) fit o = (λ acc. fold-collects r p fit.0 o.0 acc, each-collects c (these []) fit.1 o.1)

  no-expr : (ρ : Role) → is_expr ρ ≡ false → Agrees (λ acc e. acc) ρ
  no-expr role_type e acc r parts = refl
  no-expr role_expr e acc r parts = absurd (false≢true (sym e))
  no-expr role_holds e acc r parts = refl
  no-expr other e acc r parts = refl

  type-collects : At type (VisitType this)
  unfolding VisitType
  type-collects r h =
      fold-collects type_kind (λ k e. or_left _ _ (or_left _ _ (or_left _ _ e))) (λ acc e. acc) (λ k e. no-expr (role k) (no-expr-role k e)) r type h
      (fits-of type_kind types-closed r type refl h)

  expr-collects : At expr VisitExpr
  expr-collects r h = fold-collects term_kind (λ k e. e) this.VisitExprSingle (λ k e acc r parts. refl) r expr h (fits-of term_kind terms-closed r expr refl h)

  -- Texts and Kepts
  bytes-collects : (k : ℕ) → content_at (one k) k ≡ bytes → At (one k) (λ acc r. acc)
  unfolding collects
  bytes-collects k h r f acc = ap (C acc) (leaf-right (one k) k (one-kind k) h r f)

  txt : At (one 0x01) (λ acc r. acc)
  unfolding content_at
  txt = bytes-collects 0x01 refl

  kpt : At (one 0x03) (λ acc r. acc)
  unfolding content_at
  kpt = bytes-collects 0x03 refl

  -- one field after another
  infixl 20 ◌▹◌
  abbrev ◌▹◌ : {F G : T → T} {a b : T} → a ≡ b → ((acc : T) → F acc ≡ G acc) → F a ≡ G b
  ◌▹◌ e h = λ i. h (e i) i

  -- FoldLeft over a seq and over an Option
  module _ (p : Place) {F : T → Record → T} (each : At p F) where
    list-collects : (i : ℕ) (c : Records) → FitsAll c (any p) → (acc : T) → FoldLeft F acc c ≡ CAll 0x02 i acc c
    unfolding StandsAll FoldLeft collects_all
    list-collects i nil f acc = refl
    list-collects i (r ▸ c) f acc = each r f.0 acc ▹ list-collects (suc i) c f.1

    seq-collects : At (seq p) (λ acc r. FoldLeft F acc (children r))
    unfolding collects
    seq-collects r f acc =
        let n = seq_node r p f in
        rw n.1 (list-collects 0 n.0 n.2 acc)

    option-collects : At (option p) (λ acc r. FoldLeft F acc (children r))
    unfolding collects
    option-collects r f acc =
        let n = option-node r p f in
        rw n.1 (list-collects 0 n.0 n.2 acc)

  type_param-collects : At (one 0x7F) (λ acc t. FoldLeft (λ acc t. VisitType this acc t) acc (children (field 1 t)))
  unfolding row_of collects nth
  type_param-collects = by-kinds (Is _) 0x7F 0 (lit≤ tt) (λ n hn ts hts acc. txt n hn acc ▹ seq-collects type type-collects ts hts)

  type_params-collect : At (seq (one 0x7F)) (VisitTypeParams this)
  unfolding VisitTypeParams
  type_params-collect = seq-collects (one 0x7F) type_param-collects

  formal-collects : At (one 0x7E) (λ acc f. VisitType this acc (field 1 f))
  unfolding row_of collects nth
  formal-collects = by-kinds (Is _) 0x7E 0 (lit≤ tt) (λ n hn t ht acc. txt n hn acc ▹ type-collects t ht)

  field-collects : At (one 0x77) (λ acc f. VisitType this acc (field 1 (field 1 f)))
  unfolding row_of collects nth
  field-collects = by-kinds (Is _) 0x77 0 (lit≤ tt) (λ v hv t ht acc. kpt v hv acc ▹ formal-collects t ht)

  nameless_field-collects : At (one 0x78) (λ acc f. VisitType this acc (field 1 f))
  unfolding row_of collects nth
  nameless_field-collects = by-kinds (Is _) 0x78 0 (lit≤ tt) (λ v hv t ht acc. kpt v hv acc ▹ type-collects t ht)

  fields-collect : At (kinds 0x75 0x76) (VisitFields this)
  unfolding row_of collects nth VisitFields
  fields-collect = by-kinds (Is _) 0x75 1 (lit≤ tt) (seq-collects (one 0x77) field-collects ⨾ seq-collects (one 0x78) nameless_field-collects)

  fn-collects : At (one 0x7D) (VisitFn this)
  unfolding row_of collects nth VisitFn VisitType
  fn-collects =
      by-kinds (Is _) 0x7D 0 (lit≤ tt)
      (λ n hn ps hps fs hfs t ht e he acc. txt n hn acc ▹ type_params-collect ps hps ▹ seq-collects (one 0x7E) formal-collects fs hfs ▹ option-collects type
      type-collects t ht ▹ option-collects expr expr-collects e he)

  member-collects : At (kinds 0x83 0x86) (VisitMember this)
  unfolding row_of collects nth VisitMember
  member-collects =
      by-kinds (Is _) 0x83 3 (lit≤ tt)
      (txt
      ⨾ (λ d hd a ha v hv t ht acc. txt d hd acc ▹ kpt a ha ▹ kpt v hv ▹ fn-collects t ht)
      ⨾ (λ n hn t ht acc. txt n hn acc ▹ type-collects t ht)
      ⨾ expr-collects)

  body-collects : At (seq (kinds 0x83 0x86)) (VisitBody this)
  unfolding VisitBody
  body-collects = seq-collects (kinds 0x83 0x86) member-collects

  impl-collects : At (kinds 0x79 0x7A) (VisitImplMapping this)
  unfolding row_of collects nth VisitImplMapping
  impl-collects =
      by-kinds (Is _) 0x79 1 (lit≤ tt)
      ((λ ps hps t ht u hu ms hms acc. type_params-collect ps hps acc ▹ type-collects t ht ▹ type-collects u hu ▹ body-collects ms hms)
      ⨾ (λ ps hps t ht ms hms acc. type-collects t ht acc ▹ body-collects ms hms))

  top_fn-collects : At (one 0x7C) (VisitTopFn this)
  unfolding row_of collects nth VisitTopFn
  top_fn-collects = by-kinds (Is _) 0x7C 0 (lit≤ tt) (λ d hd a ha v hv t ht acc. txt d hd acc ▹ kpt a ha ▹ kpt v hv ▹ fn-collects t ht)

  trait-collects : At (one 0x7B) (VisitTraitDecl this)
  unfolding row_of collects nth VisitTraitDecl VisitType
  trait-collects =
      by-kinds (Is _) 0x7B 0 (lit≤ tt)
      (λ d hd a ha ps hps t ht ts hts ms hms acc. txt d hd acc ▹ kpt a ha ▹ type_params-collect ps hps ▹ type-collects t ht ▹ seq-collects type type-collects ts
      hts ▹ body-collects ms hms)

  -- a Struct's fields are not visited
  struct-collects : At (one 0x70) (VisitStructMapping this)
  unfolding row_of collects nth VisitStructMapping
  struct-collects = by-kinds (Is _) 0x70 0 (lit≤ tt) (λ d hd a ha n hn ps hps fs hfs acc. txt d hd acc ▹ kpt a ha ▹ txt n hn ▹ type_params-collect ps hps)

  type_synonym-collects : At (one 0x71) (λ acc r. VisitType this (VisitTypeParams this acc (field 3 r)) (field 4 r))
  unfolding row_of collects nth
  type_synonym-collects =
      by-kinds (Is _) 0x71 0 (lit≤ tt) (λ d hd a ha n hn ps hps t ht acc. txt d hd acc ▹ kpt a ha ▹ txt n hn ▹ type_params-collect ps hps ▹ type-collects t ht)

  constant-collects : At (one 0x72) (λ acc r. VisitExpr (VisitType this acc (field 3 r)) (field 4 r))
  unfolding row_of collects nth
  constant-collects =
      by-kinds (Is _) 0x72 0 (lit≤ tt) (λ d hd a ha n hn t ht e he acc. txt d hd acc ▹ kpt a ha ▹ txt n hn ▹ type-collects t ht ▹ expr-collects e he)

  enum_case-collects : At (one 0x74) (λ acc r. VisitFields this acc (field 2 r))
  unfolding row_of collects nth
  enum_case-collects = by-kinds (Is _) 0x74 0 (lit≤ tt) (λ d hd n hn fs hfs acc. txt d hd acc ▹ txt n hn ▹ fields-collect fs hfs)

  enum-collects : At (one 0x73) (λ acc r. FoldLeft (λ acc r. VisitFields this acc (field 2 r)) (VisitTypeParams this acc (field 3 r)) (children (field 4 r)))
  unfolding row_of collects nth
  enum-collects =
      by-kinds (Is _) 0x73 0 (lit≤ tt) (λ d hd a ha n hn ps hps cs hcs acc. txt d hd acc ▹ kpt a ha ▹ txt n hn ▹ type_params-collect ps hps ▹ seq-collects
      (one 0x74) enum_case-collects cs hcs)

  -- a declaration itself, then what it holds; a module and a use are not entered
  decl-collects : At (kinds 0x62 0x6A) (λ acc d. VisitModMapping this acc d SelfPath)
  unfolding row_of collects nth VisitModMapping VisitUse
  decl-collects =
      by-kinds (Is _) 0x62 8 (lit≤ tt)
      ((λ r h acc. refl)
      ⨾ (λ r h acc. struct-collects r h _)
      ⨾ (λ r h acc. type_synonym-collects r h _)
      ⨾ (λ r h acc. constant-collects r h _)
      ⨾ (λ r h acc. enum-collects r h _)
      ⨾ (λ r h acc. impl-collects r h _)
      ⨾ (λ r h acc. trait-collects r h _)
      ⨾ (λ r h acc. top_fn-collects r h _)
      ⨾ (λ r h acc. refl))

  -- THE LAW: the visitor over a module is the walk over it
  pub module-collects : (acc : T) (m : Record) → Fits m mod' → VisitMod this acc m SelfPath ≡ collects this SelfPath acc m
  unfolding row_of collects nth VisitMod Mod-as-Fold
  module-collects acc =
      by-kinds (λ m. VisitMod this acc m SelfPath ≡ C acc m) 0x60 1 (lit≤ tt)
      ((λ d hd a ha n hn b hb. txt d hd acc ▹ kpt a ha ▹ txt n hn ▹ seq-collects (kinds 0x62 0x6A) decl-collects b hb) ⨾ (λ n hn. txt n hn acc))
