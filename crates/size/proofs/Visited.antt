-- What a visitor adds for a module's paths is at most what they are charged, if its single functions add no more. Assumes nothing.
use mathlib.Core.Path.{◌≡◌, refl, sym, subst}
use mathlib.Core.Bool.{Bool, true, false, cond}
use Prim.Native.Nat.{ℕ, ◌+◌, ◌≤◌}
use native.Mathlib.Omega.{arith}
use lib.Dec.{eqb, lit≤}
use Rattle.records.specs.Record.{Record, Records, leaf, node, nil, ◌▸◌, kind, nth, children, field, FoldLeft}
use Rattle.records.specs.Kinds.{Place, kinds, one, seq, stands, path, type, expr, any, row_of}
use Rattle.records.proofs.Fits.{Fits, FitsAll}
use Rattle.records.proofs.Closed.{Of, OfAll, fits-of}
use Rattle.records.proofs.Run.{◌⨾◌}
use Rattle.records.proofs.ByRow.{by-kinds, by-seq, seq_node, option-node}
use Rattle.rast.specs.Path.{Path}
use Rattle.rast.specs.Mod.{Mod-as-Fold}
use Rattle.rast.specs.Fold.{Role, a_type as role_type, an_expr as role_expr, holds as role_holds, other, role, Fold, FoldParts}
use Rattle.rast.specs.Visitor.{RASTTopDownVisitor, VisitType, VisitTypeParams, VisitFields, VisitFn, VisitMember, VisitBody, VisitImplMapping, VisitUse}
use Rattle.rast.specs.Visitor.{VisitTopFn, VisitTraitDecl, VisitStructMapping, VisitModMapping, VisitMod}
use Rattle.rast.proofs.Tests.{by-test}
use Rattle.factor_paths.proofs.Tidy.{term_kind, terms-closed, PathIn, Paths, PathsAll, fits-paths}
use Rattle.factor_paths.proofs.Wraps.{same_step, path-role}
use Rattle.factor_paths.proofs.Modules.{ModFields}
use Rattle.size.proofs.Sizes.{size_all}
use Rattle.size.proofs.Walked.{pathed, charge, charge_all}

module _ {T : Type 0} (μ : T → ℕ) where
  -- a step adds at most n
  abbrev pub Adds : (T → T) → ℕ → Type 0
  Adds g n = (acc : T) (m : ℕ) → μ acc ≤ m → μ (g acc) ≤ m + n

  -- a function adds at most what a path type or a path expression itself is charged, and nothing for another record
  abbrev pub Single : (T → Record → T) → Type 0
  Single g = (k : ℕ) (c : Records) → (pathed k ≡ true → PathIn c) → Adds (λ acc. g acc (node k c)) (cond (pathed k) (19 + size_all c) 0)

  left-single : Single (λ acc r. acc)
  left-single k c i acc m h = omega arith

  module _ (f ft : T → Record → T) (hf : Single f) (ht : Single ft) where
    path-folded : (r : Record) → stands path (kind r) ≡ true → (acc : T) → Fold f ft acc r ≡ acc
    unfolding Fold
    path-folded (leaf k b) e acc = refl
    path-folded (node k c) e acc = rw (path-role k e)

    paths-folded : (c : Records) → PathIn c → (b : Bool) (acc : T) → FoldParts f ft b acc c ≡ acc
    unfolding Fold
    paths-folded c i true acc = rw i.only (path-folded i.held i.stands-path acc)
    paths-folded c i false acc = rw i.only (path-folded i.held i.stands-path acc)

    module _ (k : ℕ) (c : Records) (i : pathed k ≡ true → PathIn c) (parts : (b : Bool) → Adds (λ acc. FoldParts f ft b acc c) (charge_all c)) where
      -- a record itself, then its parts
      node-adds : (g : T → Record → T) → Single g → (b : Bool)
          → Adds (λ acc. FoldParts f ft b (g acc (node k c)) c) (cond (pathed k) (19 + size_all c) (charge_all c))
      node-adds g single b acc m h =
          let own = single k c i acc m h in
          by-test (pathed k)
          (λ e. rw (e, paths-folded c (i e) b (g acc (node k c))) (rw e at own))
          (λ e. let p = parts b (g acc (node k c)) _ (rw e at own) in rw e (omega arith))

      role-adds : (ρ : Role) → role k ≡ ρ → term_kind k ≡ true → Adds (λ acc. Fold f ft acc (node k c)) (charge (node k c))
      unfolding Fold charge
      role-adds role_type e o acc m h = rw (same_step k o, e) (node-adds ft ht (eqb k 0x37) acc m h)
      role-adds role_expr e o acc m h = rw (same_step k o, e) (node-adds f hf (eqb k 0x37) acc m h)
      role-adds role_holds e o acc m h = rw (same_step k o, e) (node-adds (λ acc r. acc) left-single (eqb k 0x37) acc m h)
      role-adds other e o acc m h = rw e (omega arith)

    mutual
      unfolding Fold Of Paths charge

      -- a fold over a type or an expression adds at most what its paths are charged
      Fold-adds : (r : Record) → Of term_kind r → Paths r → Adds (λ acc. Fold f ft acc r) (charge r)
      Fold-adds (leaf k b) o p acc m h = omega arith
      Fold-adds (node k c) o p acc m h = role-adds k c p.0 (λ b acc m h. parts_add c b o.1 p.1 acc m h) (role k) refl o.0 acc m h

      parts_add : (c : Records) (b : Bool) → OfAll term_kind c → PathsAll c → Adds (λ acc. FoldParts f ft b acc c) (charge_all c)
      parts_add nil b o p acc m h = omega arith
      parts_add (r ▸ c) true o p acc m h = let i = Fold-adds r o.0 p.0 acc m h in omega arith
      parts_add (r ▸ c) false o p acc m h = let j = parts_add c false o.1 p.1 _ _ (Fold-adds r o.0 p.0 acc m h) in omega arith

  -- a function adds at most what a record is charged
  abbrev Charged : (T → Record → T) → Record → Type 0
  Charged g r = Adds (λ acc. g acc r) (charge r)

  module _ (p : Place) (g : T → Record → T) (each : (r : Record) → Fits r p → Charged g r) where
    fold-adds : (c : Records) → FitsAll c (any p) → Adds (λ acc. FoldLeft g acc c) (charge_all c)
    unfolding FoldLeft charge
    fold-adds =
        by-seq (Charged g) (λ c. Adds (λ acc. FoldLeft g acc c) (charge_all c)) p each (λ acc m h. omega arith)
        (λ r c first rest acc m h. let i = rest _ _ (first acc m h) in omega arith)

    -- a fold over a List of records that add at most what they are charged
    list-adds : (r : Record) → (c : Records) × (r ≡ node 0x02 c) × FitsAll c (any p) → Charged (λ acc r. FoldLeft g acc (children r)) r
    unfolding charge
    list-adds r n = subst (Charged (λ acc r. FoldLeft g acc (children r))) (sym n.1) (fold-adds n.0 n.2)

  module _ (this : RASTTopDownVisitor T) (ht : Single this.VisitTypeSingle) (he : Single this.VisitExprSingle) where
    abbrev VT : T → Record → T
    VT = VisitType this

    abbrev VE : T → Record → T
    VE acc e = Fold this.VisitExprSingle this.VisitTypeSingle acc e

    type-adds : (t : Record) → Fits t type → Charged VT t
    unfolding VisitType
    type-adds t h = Fold-adds (λ acc e. acc) this.VisitTypeSingle left-single ht t (fits-of term_kind terms-closed t type refl h) (fits-paths t type h)

    expr-adds : (e : Record) → Fits e expr → Charged VE e
    expr-adds e h = Fold-adds this.VisitExprSingle this.VisitTypeSingle he ht e (fits-of term_kind terms-closed e expr refl h) (fits-paths e expr h)

    types-add : (r : Record) → Fits r (seq type) → Charged (λ acc r. FoldLeft VT acc (children r)) r
    types-add r h = list-adds type VT type-adds r (seq_node r type h)

    type_params-add : (r : Record) → Fits r (seq (one 0x7F)) → Charged (VisitTypeParams this) r
    unfolding VisitTypeParams row_of nth charge
    type_params-add r h =
        list-adds (one 0x7F) _
        (by-kinds (Charged (λ acc t. FoldLeft VT acc (children (field 1 t)))) 0x7F 0 (lit≤ tt)
        (λ n hn ts hts acc m h. let i = types-add ts hts acc m h in omega arith))
        r (seq_node r (one 0x7F) h)

    formal-adds : (r : Record) → Fits r (one 0x7E) → Charged (λ acc r. VT acc (field 1 r)) r
    unfolding row_of nth charge
    formal-adds = by-kinds (Charged (λ acc r. VT acc (field 1 r))) 0x7E 0 (lit≤ tt) (λ n hn t ht acc m h. let i = type-adds t ht acc m h in omega arith)

    fields-add : (r : Record) → Fits r (kinds 0x75 0x76) → Charged (VisitFields this) r
    unfolding VisitFields row_of nth charge
    fields-add =
        by-kinds (Charged (VisitFields this)) 0x75 1 (lit≤ tt)
        ((λ fs hfs acc m h.
        let i = list-adds (one 0x77) _
        (by-kinds (Charged (λ acc r. VT acc (field 1 (field 1 r)))) 0x77 0 (lit≤ tt) (λ v hv t ht acc m h. let i = formal-adds t ht acc m h in omega arith))
        fs (seq_node fs (one 0x77) hfs) acc m h in
        omega arith)
        ⨾ (λ fs hfs acc m h.
        let i = list-adds (one 0x78) _
        (by-kinds (Charged (λ acc r. VT acc (field 1 r))) 0x78 0 (lit≤ tt) (λ v hv t ht acc m h. let i = type-adds t ht acc m h in omega arith))
        fs (seq_node fs (one 0x78) hfs) acc m h in
        omega arith))

    fn-adds : (r : Record) → Fits r (one 0x7D) → Charged (VisitFn this) r
    unfolding VisitFn VisitType row_of nth charge
    fn-adds =
        by-kinds (Charged (VisitFn this)) 0x7D 0 (lit≤ tt)
        (λ n hn ps hps fs hfs t ht e he acc m h.
        let i = list-adds expr VE expr-adds e (option-node e expr he) _ _
        (list-adds type VT type-adds t (option-node t type ht) _ _
        (list-adds (one 0x7E) _ formal-adds fs (seq_node fs (one 0x7E) hfs) _ _ (type_params-add ps hps acc m h))) in
        omega arith)

    member-adds : (r : Record) → Fits r (kinds 0x83 0x86) → Charged (VisitMember this) r
    unfolding VisitMember row_of nth charge
    member-adds =
        by-kinds (Charged (VisitMember this)) 0x83 3 (lit≤ tt)
        ((λ t ht acc m h. omega arith)
        ⨾ (λ d hd a ha v hv t ht acc m h. let i = fn-adds t ht acc m h in omega arith)
        ⨾ (λ n hn t ht acc m h. let i = type-adds t ht acc m h in omega arith)
        ⨾ (λ e he acc m h. let i = expr-adds e he acc m h in omega arith))

    body-adds : (r : Record) → Fits r (seq (kinds 0x83 0x86)) → Charged (VisitBody this) r
    unfolding VisitBody
    body-adds r h = list-adds (kinds 0x83 0x86) _ member-adds r (seq_node r (kinds 0x83 0x86) h)

    impl-adds : (r : Record) → Fits r (kinds 0x79 0x7A) → Charged (VisitImplMapping this) r
    unfolding VisitImplMapping row_of nth charge
    impl-adds =
        by-kinds (Charged (VisitImplMapping this)) 0x79 1 (lit≤ tt)
        ((λ ps hps t ht u hu ms hms acc m h. let i = body-adds ms hms _ _ (type-adds u hu _ _ (type-adds t ht _ _ (type_params-add ps hps acc m h))) in omega
        arith)
        ⨾ (λ ps hps t ht ms hms acc m h. let i = body-adds ms hms _ _ (type-adds t ht acc m h) in omega arith))

    trait-adds : (r : Record) → Fits r (one 0x7B) → Charged (VisitTraitDecl this) r
    unfolding VisitTraitDecl VisitType row_of nth charge
    trait-adds =
        by-kinds (Charged (VisitTraitDecl this)) 0x7B 0 (lit≤ tt)
        (λ d hd a ha ps hps t ht ts hts ms hms acc m h. let i = body-adds ms hms _ _
        (types-add ts hts _ _ (type-adds t ht _ _ (type_params-add ps hps acc m h))) in omega arith)

    struct-adds : (r : Record) → Fits r (one 0x70) → Charged (VisitStructMapping this) r
    unfolding VisitStructMapping row_of nth charge
    struct-adds =
        by-kinds (Charged (VisitStructMapping this)) 0x70 0 (lit≤ tt) (λ d hd a ha n hn ps hps fs hfs acc m h. let i = type_params-add ps hps acc m h in omega
        arith)

    synonym-adds : (r : Record) → Fits r (one 0x71) → Charged (λ acc r. VT (VisitTypeParams this acc (field 3 r)) (field 4 r)) r
    unfolding row_of nth charge
    synonym-adds =
        by-kinds (Charged (λ acc r. VT (VisitTypeParams this acc (field 3 r)) (field 4 r))) 0x71 0 (lit≤ tt)
        (λ d hd a ha n hn ps hps t ht acc m h. let i = type-adds t ht _ _ (type_params-add ps hps acc m h) in omega arith)

    constant-adds : (r : Record) → Fits r (one 0x72) → Charged (λ acc r. VE (VT acc (field 3 r)) (field 4 r)) r
    unfolding row_of nth charge
    constant-adds =
        by-kinds (Charged (λ acc r. VE (VT acc (field 3 r)) (field 4 r))) 0x72 0 (lit≤ tt)
        (λ d hd a ha n hn t ht e he acc m h. let i = expr-adds e he _ _ (type-adds t ht acc m h) in omega arith)

    case-adds : (r : Record) → Fits r (one 0x74) → Charged (λ acc r. VisitFields this acc (field 2 r)) r
    unfolding row_of nth charge
    case-adds =
        by-kinds (Charged (λ acc r. VisitFields this acc (field 2 r))) 0x74 0 (lit≤ tt)
        (λ d hd n hn fs hfs acc m h. let i = fields-add fs hfs acc m h in omega arith)

    enum-adds : (r : Record) → Fits r (one 0x73)
        → Charged (λ acc r. FoldLeft (λ acc c. VisitFields this acc (field 2 c)) (VisitTypeParams this acc (field 3 r)) (children (field 4 r))) r
    unfolding row_of nth charge
    enum-adds =
        by-kinds (Charged (λ acc r. FoldLeft (λ acc c. VisitFields this acc (field 2 c)) (VisitTypeParams this acc (field 3 r)) (children (field 4 r)))) 0x73 0
        (lit≤ tt)
        (λ d hd a ha n hn ps hps cs hcs acc m h. let i = list-adds (one 0x74) _ case-adds cs (seq_node cs (one 0x74) hcs) _ _ (type_params-add ps hps acc m h) in
        omega arith)

    top_fn-adds : (r : Record) → Fits r (one 0x7C) → Charged (VisitTopFn this) r
    unfolding VisitTopFn row_of nth charge
    top_fn-adds = by-kinds (Charged (VisitTopFn this)) 0x7C 0 (lit≤ tt) (λ d hd a ha v hv t ht acc m h. let i = fn-adds t ht acc m h in omega arith)

    module _ (S : Path) (hd : (d : Record) → Adds (λ acc. this.VisitModDeclSingle acc d S) 0) where
      decl-adds : (d : Record) → Fits d (kinds 0x62 0x6A) → Charged (λ acc d. VisitModMapping this acc d S) d
      unfolding VisitModMapping VisitUse row_of nth charge
      decl-adds =
          by-kinds (Charged (λ acc d. VisitModMapping this acc d S)) 0x62 8 (lit≤ tt)
          ((λ r hr acc m h. let i = hd (node 0x62 (r ▸ nil)) acc m h in omega arith)
          ⨾ (λ r hr acc m h. let i = struct-adds r hr _ _ (hd (node 0x63 (r ▸ nil)) acc m h) in omega arith)
          ⨾ (λ r hr acc m h. let i = synonym-adds r hr _ _ (hd (node 0x64 (r ▸ nil)) acc m h) in omega arith)
          ⨾ (λ r hr acc m h. let i = constant-adds r hr _ _ (hd (node 0x65 (r ▸ nil)) acc m h) in omega arith)
          ⨾ (λ r hr acc m h. let i = enum-adds r hr _ _ (hd (node 0x66 (r ▸ nil)) acc m h) in omega arith)
          ⨾ (λ r hr acc m h. let i = impl-adds r hr _ _ (hd (node 0x67 (r ▸ nil)) acc m h) in omega arith)
          ⨾ (λ r hr acc m h. let i = trait-adds r hr _ _ (hd (node 0x68 (r ▸ nil)) acc m h) in omega arith)
          ⨾ (λ r hr acc m h. let i = top_fn-adds r hr _ _ (hd (node 0x69 (r ▸ nil)) acc m h) in omega arith)
          ⨾ (λ r hr acc m h. let i = hd (node 0x6A (r ▸ nil)) acc m h in omega arith))

      -- the visit of a module adds at most what the paths in its declarations are charged, those of modules in it aside
      pub VisitMod-adds : (m : Record) (h : ModFields m) → Adds (λ acc. VisitMod this acc m S) (charge_all h.body)
      unfolding VisitMod Mod-as-Fold nth
      VisitMod-adds m h =
          subst (λ m. Adds (λ acc. VisitMod this acc m S) (charge_all h.body)) (sym h.is-mod)
          (fold-adds (kinds 0x62 0x6A) _ decl-adds h.body h.body-fits)
