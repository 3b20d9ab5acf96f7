-- The replacer with PathSimplifier, over a declaration, is the one walk. Assumes nothing.
use mathlib.Core.Path.{◌≡◌, refl, ap, ap₂, sym, subst, ◌∙◌}
use mathlib.Core.Bool.{Bool, true, false, cond}
use Prim.Native.Nat.{ℕ, ◌≤◌}
use lib.Dec.{lit≤}
use Rattle.records.specs.Record.{Record, Records, node, nil, ◌▸◌, set_nth, map_all, Map, update}
use Rattle.records.specs.Kinds.{Place, kinds, one, seq, option, type, expr, row_of, any, content_at}
use Rattle.records.proofs.Fits.{Fits, FitsAll}
use Rattle.records.proofs.Closed.{fits-of}
use Rattle.records.proofs.Run.{◌⨾◌}
use Rattle.records.proofs.Leaves.{leaf-right, one-kind}
use Rattle.records.proofs.ByRow.{Kinds, by-kinds, by-seq, seq_node, option-node}
use Rattle.rast.specs.Path.{Path}
use Rattle.rast.specs.Operation.{Operation}
use Rattle.rast.specs.Replace.{Replace}
use Rattle.rast.specs.Replacer.{RASTBottomUpReplacer, ReplaceType, ReplaceExpr, ReplaceFields, ReplaceTypeParams, ReplaceFn, ReplaceImplMember, ReplaceBody}
use Rattle.rast.specs.Replacer.{ReplaceUse, ReplaceTopFn, ReplaceTrait, ReplaceImplDecl, ReplaceEnumCase, ReplaceEnum, ReplaceConst, ReplaceTypeDecl}
use Rattle.rast.specs.Replacer.{ReplaceStruct, ReplaceModDecl}
use Rattle.factor_paths.specs.Mapping.{FinalReplacement}
use Rattle.factor_paths.specs.Apply.{ReplaceTypeSingle, ReplaceExprSingle, PathSimplifier}
use Rattle.factor_paths.specs.Walk.{walk, walk_all, walk_decl}
use Rattle.factor_paths.proofs.Tidy.{type_kind, term_kind, types-closed, terms-closed, fits-paths}
use Rattle.factor_paths.proofs.Wraps.{type-alone, once, again, same-keeps}

module _ (op : Operation) (rep : FinalReplacement) (a : Bool) (w : ℕ) where
  -- Texts and Kepts are left
  bytes_left : (k : ℕ) → content_at (one k) k ≡ Rattle.records.specs.Kinds.bytes → (r : Record) → Fits r (one k) → walk op rep a w r ≡ r
  unfolding walk
  bytes_left k h r f = ap (walk op rep a w) (sym (leaf-right (one k) k (one-kind k) h r f)) ∙ leaf-right (one k) k (one-kind k) h r f

  pub text-left : (r : Record) → Fits r (one 0x01) → walk op rep a w r ≡ r
  unfolding content_at
  text-left = bytes_left 0x01 refl

  pub kept-left : (r : Record) → Fits r (one 0x03) → walk op rep a w r ≡ r
  unfolding content_at
  kept-left = bytes_left 0x03 refl

  -- Seq.Map over a seq and over an Option
  module _ (p : Place) (F : Record → Record) (each : (r : Record) → Fits r p → F r ≡ walk op rep a w r) where
    map-walk : (c : Records) → FitsAll c (any p) → map_all F c ≡ walk_all op rep a w c
    unfolding map_all walk
    map-walk = by-seq (λ r. F r ≡ walk op rep a w r) (λ c. map_all F c ≡ walk_all op rep a w c) p each refl (λ r c h hs. ap₂ ◌▸◌ h hs)

    list-walk : (c : Records) → FitsAll c (any p) → Map F (node 0x02 c) ≡ walk op rep a w (node 0x02 c)
    unfolding walk
    list-walk c f = ap (node 0x02) (map-walk c f)

    pub seq-walk : (r : Record) → Fits r (seq p) → Map F r ≡ walk op rep a w r
    seq-walk r f =
        let n = seq_node r p f in
        subst (λ (q : Record). Map F q ≡ walk op rep a w q) (sym n.1) (list-walk n.0 n.2)

    pub option-walk : (r : Record) → Fits r (option p) → Map F r ≡ walk op rep a w r
    option-walk r f =
        let n = option-node r p f in
        subst (λ (q : Record). Map F q ≡ walk op rep a w q) (sym n.1) (list-walk n.0 n.2)

module _ (op : Operation) (rep : FinalReplacement) (f : Record → Path → Record) where
  abbrev R : RASTBottomUpReplacer
  R = PathSimplifier op f rep

  abbrev W : Record → Record
  W = walk op rep false 1

  txt : (r : Record) → Fits r (one 0x01) → r ≡ W r
  txt r h = sym (text-left op rep false 1 r h)

  kpt : (r : Record) → Fits r (one 0x03) → r ≡ W r
  kpt r h = sym (kept-left op rep false 1 r h)

  -- a type and an expression, outside of a Fn
  type-walk : (t : Record) → Fits t type → ReplaceType op R t ≡ W t
  unfolding ReplaceType PathSimplifier
  type-walk t h =
      type-alone (λ e. e) (ReplaceExprSingle op rep) (ReplaceTypeSingle op rep) t (fits-of type_kind types-closed t type refl h)
      ∙ once op rep t (fits-of term_kind terms-closed t type refl h)

  expr-walk : (e : Record) → Fits e expr → ReplaceExpr op R e ≡ W e
  unfolding ReplaceExpr PathSimplifier
  expr-walk e h = once op rep e (fits-of term_kind terms-closed e expr refl h)

  -- what ReplaceFn hands on, by whether it walks again
  counted-type : (b : Bool) (p : Place) → Rattle.records.proofs.Closed.holds_at type_kind p ≡ true → Rattle.records.proofs.Closed.holds_at term_kind p ≡ true
      → (r : Record) → Fits r p →
      Replace (λ e. e) (cond b (ReplaceType op R) R.ReplaceTypeSingle) r ≡ walk op rep b 1 r
  unfolding ReplaceType PathSimplifier
  counted-type true p g h r fit =
      type-alone (λ e. e) (Replace (ReplaceExprSingle op rep) (ReplaceTypeSingle op rep)) (Replace (λ e. e) (ReplaceTypeSingle op rep)) r
      (fits-of type_kind types-closed r p g fit)
      ∙ again op rep (λ e. e) (same-keeps op rep) r (fits-of term_kind terms-closed r p h fit) (fits-paths r p fit)
  counted-type false p g h r fit =
      type-alone (λ e. e) (ReplaceExprSingle op rep) (ReplaceTypeSingle op rep) r (fits-of type_kind types-closed r p g fit)
      ∙ once op rep r (fits-of term_kind terms-closed r p h fit)

  counted-expr : (b : Bool) (r : Record) → Fits r expr →
      Replace (cond b (ReplaceExpr op R) R.ReplaceExprSingle) (cond b (ReplaceType op R) R.ReplaceTypeSingle) r ≡ walk op rep b 1 r
  unfolding ReplaceType ReplaceExpr PathSimplifier
  counted-expr true r fit = again op rep (λ e. e) (same-keeps op rep) r (fits-of term_kind terms-closed r expr refl fit) (fits-paths r expr fit)
  counted-expr false r fit = once op rep r (fits-of term_kind terms-closed r expr refl fit)

  type_param-walk : (r : Record) → Fits r (one 0x7F) → update 1 (Map (ReplaceType op R)) r ≡ W r
  unfolding row_of walk set_nth
  type_param-walk =
      by-kinds (λ r. update 1 (Map (ReplaceType op R)) r ≡ W r) 0x7F 0 (lit≤ tt)
      (λ n hn ts hts i. node 0x7F (txt n hn i ▸ seq-walk op rep false 1 type (ReplaceType op R) type-walk ts hts i ▸ nil))

  type_params-walk : (r : Record) → Fits r (seq (one 0x7F)) → ReplaceTypeParams op R r ≡ W r
  unfolding ReplaceTypeParams
  type_params-walk = seq-walk op rep false 1 (one 0x7F) (update 1 (Map (ReplaceType op R))) type_param-walk

  formal-walk : (r : Record) → Fits r (one 0x7E) → update 1 (ReplaceType op R) r ≡ W r
  unfolding row_of walk set_nth
  formal-walk = by-kinds (λ r. update 1 (ReplaceType op R) r ≡ W r) 0x7E 0 (lit≤ tt) (λ n hn t ht i. node 0x7E (txt n hn i ▸ type-walk t ht i ▸ nil))

  field-walk : (r : Record) → Fits r (one 0x77) → update 1 (update 1 (ReplaceType op R)) r ≡ W r
  unfolding row_of walk set_nth
  field-walk =
      by-kinds (λ r. update 1 (update 1 (ReplaceType op R)) r ≡ W r) 0x77 0 (lit≤ tt) (λ v hv t ht i. node 0x77 (kpt v hv i ▸ formal-walk t ht i ▸ nil))

  nameless_field-walk : (r : Record) → Fits r (one 0x78) → update 1 (ReplaceType op R) r ≡ W r
  unfolding row_of walk set_nth
  nameless_field-walk = by-kinds (λ r. update 1 (ReplaceType op R) r ≡ W r) 0x78 0 (lit≤ tt) (λ v hv t ht i. node 0x78 (kpt v hv i ▸ type-walk t ht i ▸ nil))

  fields-walk : (r : Record) → Fits r (kinds 0x75 0x76) → ReplaceFields op R r ≡ W r
  unfolding row_of walk set_nth ReplaceFields
  fields-walk =
      by-kinds (λ r. ReplaceFields op R r ≡ W r) 0x75 1 (lit≤ tt)
      ((λ fs h i. node 0x75 (seq-walk op rep false 1 (one 0x77) (update 1 (update 1 (ReplaceType op R))) field-walk fs h i ▸ nil))
      ⨾ (λ fs h i. node 0x76 (seq-walk op rep false 1 (one 0x78) (update 1 (ReplaceType op R)) nameless_field-walk fs h i ▸ nil)))

  fn-walk : (r : Record) → Fits r (one 0x7D) → ReplaceFn op R r ≡ W r
  unfolding row_of walk set_nth ReplaceFn
  fn-walk =
      by-kinds (λ r. ReplaceFn op R r ≡ W r) 0x7D 0 (lit≤ tt)
      (λ n hn ps hps fs hfs t ht e he i. node 0x7D (
      txt n hn i
      ▸ type_params-walk ps hps i
      ▸ seq-walk op rep b 1 (one 0x7E) (λ r. Replace (λ e. e) ft r) (counted-type b (one 0x7E) refl refl) fs hfs i
      ▸ option-walk op rep b 1 type (λ r. Replace (λ e. e) ft r) (counted-type b type refl refl) t ht i
      ▸ option-walk op rep b 1 expr (λ r. Replace fe ft r) (counted-expr b) e he i
      ▸ nil))
    where
      b : Bool
      b = op.walks_again

      ft : Record → Record
      ft = cond b (ReplaceType op R) R.ReplaceTypeSingle

      fe : Record → Record
      fe = cond b (ReplaceExpr op R) R.ReplaceExprSingle

  member-walk : (r : Record) → Fits r (kinds 0x83 0x86) → ReplaceImplMember op R r ≡ W r
  unfolding row_of walk set_nth ReplaceImplMember
  member-walk =
      by-kinds (λ r. ReplaceImplMember op R r ≡ W r) 0x83 3 (lit≤ tt)
      ((λ t h i. node 0x83 (txt t h i ▸ nil))
      ⨾ (λ d hd a ha v hv t ht i. node 0x84 (txt d hd i ▸ kpt a ha i ▸ kpt v hv i ▸ fn-walk t ht i ▸ nil))
      ⨾ (λ n hn t ht i. node 0x85 (txt n hn i ▸ type-walk t ht i ▸ nil))
      ⨾ (λ e he i. node 0x86 (expr-walk e he i ▸ nil)))

  body-walk : (r : Record) → Fits r (seq (kinds 0x83 0x86)) → ReplaceBody op R r ≡ W r
  unfolding ReplaceBody
  body-walk = seq-walk op rep false 1 (kinds 0x83 0x86) (ReplaceImplMember op R) member-walk

  top_fn-walk : (r : Record) → Fits r (one 0x7C) → ReplaceTopFn op R r ≡ W r
  unfolding row_of walk set_nth ReplaceTopFn
  top_fn-walk =
      by-kinds (λ r. ReplaceTopFn op R r ≡ W r) 0x7C 0 (lit≤ tt) (λ d hd a ha v hv t ht i. node 0x7C
      (txt d hd i ▸ kpt a ha i ▸ kpt v hv i ▸ fn-walk t ht i ▸ nil))

  trait-walk : (r : Record) → Fits r (one 0x7B) → ReplaceTrait op R r ≡ W r
  unfolding row_of walk set_nth ReplaceTrait
  trait-walk =
      by-kinds (λ r. ReplaceTrait op R r ≡ W r) 0x7B 0 (lit≤ tt)
      (λ d hd a ha ps hps t ht ts hts ms hms i. node 0x7B (txt d hd i ▸ kpt a ha i ▸ type_params-walk ps hps i ▸ type-walk t ht i ▸ seq-walk op rep false 1 type
      (ReplaceType op R) type-walk ts hts i ▸ body-walk ms hms i ▸ nil))

  impl-walk : (r : Record) → Fits r (kinds 0x79 0x7A) → ReplaceImplDecl op R r ≡ W r
  unfolding row_of walk set_nth ReplaceImplDecl
  impl-walk =
      by-kinds (λ r. ReplaceImplDecl op R r ≡ W r) 0x79 1 (lit≤ tt)
      ((λ ps hps t ht u hu ms hms i. node 0x79 (type_params-walk ps hps i ▸ type-walk t ht i ▸ type-walk u hu i ▸ body-walk ms hms i ▸ nil))
      ⨾ (λ ps hps t ht ms hms i. node 0x7A (type_params-walk ps hps i ▸ type-walk t ht i ▸ body-walk ms hms i ▸ nil)))

  enum_case-walk : (r : Record) → Fits r (one 0x74) → ReplaceEnumCase op R r ≡ W r
  unfolding row_of walk set_nth ReplaceEnumCase
  enum_case-walk =
      by-kinds (λ r. ReplaceEnumCase op R r ≡ W r) 0x74 0 (lit≤ tt) (λ d hd n hn fs hfs i. node 0x74 (txt d hd i ▸ txt n hn i ▸ fields-walk fs hfs i ▸ nil))

  enum-walk : (r : Record) → Fits r (one 0x73) → ReplaceEnum op R r ≡ W r
  unfolding row_of walk set_nth ReplaceEnum
  enum-walk =
      by-kinds (λ r. ReplaceEnum op R r ≡ W r) 0x73 0 (lit≤ tt)
      (λ d hd a ha n hn ps hps cs hcs i. node 0x73 (txt d hd i ▸ kpt a ha i ▸ txt n hn i ▸ type_params-walk ps hps i ▸ seq-walk op rep false 1 (one 0x74)
      (ReplaceEnumCase op R) enum_case-walk cs hcs i ▸ nil))

  constant-walk : (r : Record) → Fits r (one 0x72) → ReplaceConst op R r ≡ W r
  unfolding row_of walk set_nth ReplaceConst
  constant-walk =
      by-kinds (λ r. ReplaceConst op R r ≡ W r) 0x72 0 (lit≤ tt) (λ d hd a ha n hn t ht e he i. node 0x72
      (txt d hd i ▸ kpt a ha i ▸ txt n hn i ▸ type-walk t ht i ▸ expr-walk e he i ▸ nil))

  type_synonym-walk : (r : Record) → Fits r (one 0x71) → ReplaceTypeDecl op R r ≡ W r
  unfolding row_of walk set_nth ReplaceTypeDecl
  type_synonym-walk =
      by-kinds (λ r. ReplaceTypeDecl op R r ≡ W r) 0x71 0 (lit≤ tt) (λ d hd a ha n hn ps hps t ht i. node 0x71
      (txt d hd i ▸ kpt a ha i ▸ txt n hn i ▸ type_params-walk ps hps i ▸ type-walk t ht i ▸ nil))

  struct-walk : (r : Record) → Fits r (one 0x70) → ReplaceStruct op R r ≡ W r
  unfolding row_of walk set_nth ReplaceStruct
  struct-walk =
      by-kinds (λ r. ReplaceStruct op R r ≡ W r) 0x70 0 (lit≤ tt) (λ d hd a ha n hn ps hps fs hfs i. node 0x70
      (txt d hd i ▸ kpt a ha i ▸ txt n hn i ▸ type_params-walk ps hps i ▸ fields-walk fs hfs i ▸ nil))

  -- THE LAW: a module in a declaration goes on with the nested prefix; any other declaration is walked once, its Fns' formals, results and bodies with a count
  pub decl-walk : (SelfPath : Path) (d : Record) → Fits d (kinds 0x62 0x6A) → ReplaceModDecl op R d SelfPath ≡ walk_decl op rep f SelfPath d
  unfolding row_of walk set_nth ReplaceModDecl ReplaceUse PathSimplifier walk_decl
  decl-walk SelfPath =
      by-kinds (λ d. ReplaceModDecl op R d SelfPath ≡ walk_decl op rep f SelfPath d) 0x62 8 (lit≤ tt)
      ((λ r h. refl)
      ⨾ (λ r h i. node 0x63 (struct-walk r h i ▸ nil))
      ⨾ (λ r h i. node 0x64 (type_synonym-walk r h i ▸ nil))
      ⨾ (λ r h i. node 0x65 (constant-walk r h i ▸ nil))
      ⨾ (λ r h i. node 0x66 (enum-walk r h i ▸ nil))
      ⨾ (λ r h i. node 0x67 (impl-walk r h i ▸ nil))
      ⨾ (λ r h i. node 0x68 (trait-walk r h i ▸ nil))
      ⨾ (λ r h i. node 0x69 (top_fn-walk r h i ▸ nil))
      ⨾ (λ r h. refl))
