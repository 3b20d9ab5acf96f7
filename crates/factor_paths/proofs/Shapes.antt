-- What the pass makes of a module that fits is shaped, and so can be read back. Assumes nothing.
use mathlib.Core.Path.{◌≡◌, refl}
use mathlib.Core.List.{List, [], ◌∷◌, ◌++◌}
use mathlib.Core.Bool.{Bool, false, ◌&&◌}
use Prim.Native.Nat.{ℕ, zero, suc, ◌^◌, ◌<◌}
use lib.ListN.{length}
use lib.Dec.{leb, lit<}
use Rattle.records.specs.Record.{Record, Records, leaf, node, nil, ◌▸◌, is, deep, encode, tree, set_nth, children}
use Rattle.records.specs.Kinds.{kinds, one, mod', these, row_of, content_at}
use Rattle.records.proofs.Fits.{Fits}
use Rattle.records.specs.Canonical.{Canonical}
use Rattle.records.proofs.Tree.{tree-encode}
use Rattle.records.proofs.Run.{◌⨾◌}
use Rattle.records.proofs.Leaves.{NodeAt, node_at, these-no-bytes}
use Rattle.records.proofs.ByRow.{by_row, by_kind}
use Rattle.records.proofs.Shape.{Shaped, ShapedAll, shaped-below, text-shaped, append-shaped, map-shaped, fits-shaped, shaped-canonical}
use Rattle.rast.specs.Path.{Name, Path, MSel, dafny_runtime, selected}
use Rattle.rast.specs.Operation.{Operation, entering, nested}
use Rattle.rast.specs.Mod.{name_of}
use Rattle.rast.proofs.Chosen.{Each, Chooses}
use Rattle.rast.proofs.Tests.{by-test, by-option, one_of, whichever}
use Rattle.factor_paths.specs.Mapping.{Provenance, Mapping, FinalReplacement, equal, get, ◌among◌, include, Add, ToFinalReplacement, ToUseStatements}
use Rattle.factor_paths.specs.PathsVisitor.{marked, unmarked}
use Rattle.factor_paths.specs.Apply.{Identifier, replaces, ReplaceExprSingle, mappings, paths_to_remove, imports, apply_prefix, apply}
use Rattle.factor_paths.specs.Walk.{Step, a_type, an_expr, a_fn, left, holds, step_of, deeper, synonyms, wrap, stepped, walk, walk_all, walk_fn, walk_decl}
use Rattle.factor_paths.proofs.Maps.{Held, set-held, get-held}
use Rattle.factor_paths.proofs.Visits.{mappings-keep-in}
use Rattle.factor_paths.proofs.Modules.{mod-fields, module-walk, extern-walk}

-- a name selected from a shaped path is a shaped path
pub selected-shaped : (p : Path) (n : Name) → Shaped p → Shaped (MSel p n)
unfolding Shaped
selected-shaped p n h = (refl, lit< tt, h ⨾ text-shaped n ⨾ tt)

runtime-shaped : Shaped dafny_runtime
unfolding Shaped
runtime-shaped = (refl, lit< tt, (refl, lit< tt, tt) ⨾ (refl, lit< tt) ⨾ tt)

-- all of a name's paths are shaped
abbrev pub ShapedPaths : List Path → Type 0
ShapedPaths ps = Each Shaped ps

last-shaped : (ps : List Path) (p : Path) → ShapedPaths ps → Shaped p → ShapedPaths (ps ++ (p ∷ []))
unfolding Each
last-shaped [] p h s = (s, tt)
last-shaped (q ∷ ps) p h s = (h.0, last-shaped ps p h.1 s)

identifier-shaped : (n : Name) → Shaped (Identifier n)
unfolding Shaped
identifier-shaped n = (refl, lit< tt, text-shaped n ⨾ tt)

synonyms-shaped : (n : Name) (w : ℕ) (r : Record) → Shaped r → Shaped (synonyms n w r)
unfolding synonyms Shaped
synonyms-shaped n zero r h = h
synonyms-shaped n (suc w) r h = (refl, lit< tt, (refl, lit< tt, text-shaped n ⨾ tt) ⨾ synonyms-shaped n w r h ⨾ tt)

module _ (op : Operation) where
  add-shaped : (m : Mapping) (k : Name) (p : Path) → Shaped p → Held ShapedPaths m.provenance → Held ShapedPaths (Add op m k p).provenance
  unfolding Add Each
  add-shaped m k p s h =
      by-option (get op k m.provenance)
      (λ g. rw g (set-held op ShapedPaths k (p ∷ []) m.provenance (s, tt) h))
      (λ ps g. let old : ShapedPaths ps = get-held op ShapedPaths k ps m.provenance h g in
      rw g (set-held op ShapedPaths k (include op p ps) m.provenance (one_of ShapedPaths (◌among◌ op p ps) old (last-shaped ps p old s)) h))

  -- the paths that a shaped module collects are shaped
  pub mappings-shaped : (m : Record) (SelfPath : Path) → Shaped m → Shaped SelfPath → Held ShapedPaths (mappings op m SelfPath).provenance
  unfolding Held
  mappings-shaped m SelfPath a b = mappings-keep-in op shaped-below (λ m. Held ShapedPaths m.provenance) add-shaped m SelfPath a b tt

  -- the paths chosen among shaped ones are shaped
  pub final-shaped : Chooses op → (es : Provenance) (SelfPath : Path) → Shaped SelfPath → Held ShapedPaths es → Held Shaped (ToFinalReplacement op es SelfPath)
  unfolding ToFinalReplacement Held
  final-shaped C [] SelfPath s h = tt
  final-shaped C (e ∷ es) SelfPath s h =
      let others = final-shaped C es SelfPath s h.1 in
      by-option (op.chosen_base SelfPath e.held) (λ g. rw g others)
      (λ q g. rw g (C.kept Shaped SelfPath e.held q s runtime-shaped h.0 g, others))

  uses-shaped : (ks : List Name) (r : FinalReplacement) (S : Path) → Held Shaped r → ShapedAll (ToUseStatements op ks r S)
  unfolding ToUseStatements Shaped
  uses-shaped [] r S h = tt
  uses-shaped (k ∷ ks) r S h =
      let others = uses-shaped ks r S h in
      by-option (get op k r) (λ g. rw g others)
      (λ q g. rw g (one_of ShapedAll (equal op q S) others (
        (
          refl,
          lit< tt,
          (refl, lit< tt, (refl, lit< tt) ⨾ selected-shaped q k (get-held op Shaped k q r h g) ⨾ tt) ⨾ tt,
        ),
        others,
      )))

  -- the uses put ahead of a shaped module's body are shaped
  pub imports-shaped : Chooses op → (m : Record) (SelfPath : Path) → Shaped m → Shaped SelfPath → ShapedAll (imports op m SelfPath)
  unfolding imports paths_to_remove
  imports-shaped C m SelfPath a b =
      uses-shaped (mappings op m SelfPath).keys (paths_to_remove op m SelfPath) SelfPath
      (final-shaped C (mappings op m SelfPath).provenance SelfPath b (mappings-shaped m SelfPath a b))

  module _ (rep : FinalReplacement) where
    wrap-shaped : (w : ℕ) (t : Record) → Shaped t → Shaped (wrap op rep w t)
    unfolding wrap
    wrap-shaped w t h = whichever Shaped (selected 0x2D t) h (λ s. one_of Shaped (replaces op rep s.name s.base) (synonyms-shaped s.name w t h) h)

    expr-shaped : (e : Record) → Shaped e → Shaped (ReplaceExprSingle op rep e)
    unfolding ReplaceExprSingle
    expr-shaped e h =
        whichever Shaped (selected 0x5C e) h
        (λ s. one_of Shaped (replaces op rep s.name s.base) (identifier-shaped s.name)
        (one_of Shaped (marked s.name && replaces op rep (unmarked s.name) s.base) (identifier-shaped s.name) h))

    stepped-shaped : (s : Step) (w : ℕ) (this r q fn : Record) → Shaped this → Shaped r → Shaped q → Shaped fn → Shaped (stepped op rep s w this r q fn)
    stepped-shaped a_type w this r q fn h hr hq hf = wrap-shaped w r hr
    stepped-shaped an_expr w this r q fn h hr hq hf = expr-shaped r hr
    stepped-shaped a_fn w this r q fn h hr hq hf = hf
    stepped-shaped left w this r q fn h hr hq hf = h
    stepped-shaped holds w this r q fn h hr hq hf = hq

    mutual
      unfolding walk Shaped

      -- the walk keeps a record shaped
      pub walk-shaped : (a : Bool) (w : ℕ) (r : Record) → Shaped r → Shaped (walk op rep a w r)
      walk-shaped a w (leaf k b) h = h
      walk-shaped a w (node k c) h =
          stepped-shaped (step_of k) w (node k c) _ _ _ h
          (h.0, h.1, walk_all-shaped a (deeper a w) c h.2)
          (h.0, h.1, walk_all-shaped a w c h.2)
          (h.0, h.1, walk_fn-shaped 0 c h.2)

      -- and records
      pub walk_all-shaped : (a : Bool) (w : ℕ) (c : Records) → ShapedAll c → ShapedAll (walk_all op rep a w c)
      walk_all-shaped a w nil h = tt
      walk_all-shaped a w (r ▸ c) h = (walk-shaped a w r h.0, walk_all-shaped a w c h.1)

      -- and the records of a Fn
      pub walk_fn-shaped : (i : ℕ) (c : Records) → ShapedAll c → ShapedAll (walk_fn op rep i c)
      walk_fn-shaped i nil h = tt
      walk_fn-shaped i (r ▸ c) h = (walk-shaped (leb 2 i && op.walks_again) 1 r h.0, walk_fn-shaped (suc i) c h.1)

  -- a Mod, if each of its declarations is
  module-shaped : Chooses op → (n : ℕ) (m : Record) (SelfPath : Path) → Shaped SelfPath
      → ((d : Record) → Fits d (kinds 0x62 0x6A) → Shaped (walk_decl op (paths_to_remove op m SelfPath) (apply_prefix op n) SelfPath d))
      → Fits m (one 0x60) → Shaped (apply_prefix op (suc n) m SelfPath)
  unfolding Shaped
  module-shaped C n m SelfPath s each f =
      let h = mod-fields m f in
      let a = fits-shaped m (one 0x60) refl f in
      let b : Shaped (node 0x60 (h.doc ▸ h.attributes ▸ h.named ▸ node 0x02 h.body ▸ nil)) = rw h.is-mod at a in
      let body = append-shaped (imports op m SelfPath) _ (imports-shaped C m SelfPath a s) (map-shaped (kinds 0x62 0x6A) _ each h.body h.body-fits) in
      rw (module-walk op n SelfPath m h) (refl, lit< tt, b.2.0 ⨾ b.2.1.0 ⨾ b.2.1.1.0 ⨾ (refl, lit< tt, body) ⨾ tt)

  -- entering a module keeps a path shaped
  entering-shaped : (p : Path) (n : Name) → Shaped p → Shaped (entering op p n)
  entering-shaped p n h = one_of Shaped op.names_again (selected-shaped p n h) h

  -- the pass keeps a module that fits shaped
  module _ (C : Chooses op) where
    -- a declaration, if f keeps modules that fit shaped
    decl-shaped : (rep : FinalReplacement) (f : Record → Path → Record) (SelfPath : Path) → Shaped SelfPath
        → ((m : Record) (p : Path) → Fits m mod' → Shaped p → Shaped (f m p)) → (d : Record) → Fits d (kinds 0x62 0x6A) → Shaped (walk_decl op rep f SelfPath d)
    unfolding walk_decl content_at row_of set_nth Shaped
    decl-shaped rep f SelfPath s go d fit =
        by-test (is 0x62 d)
        (λ t. let h : NodeAt d 0x62 (these (mod' ∷ [])) = node_at d (kinds 0x62 0x6A) 0x62 (these (mod' ∷ [])) t refl (these-no-bytes (mod' ∷ [])) fit in
        let g : Record → Record = λ m. f m (nested op SelfPath (name_of m)) in
        rw (t, h.is-node) (by_row (mod' ∷ []) (λ c. Shaped (node 0x62 (set_nth 0 g c)))
        (λ m fm. (refl, lit< tt, go m _ fm (entering-shaped _ _ (selected-shaped SelfPath (name_of m) s)) ⨾ tt)) (children d) h.fits))
        (λ t. rw t (walk-shaped rep false 1 d (fits-shaped d (kinds 0x62 0x6A) refl fit)))

    -- applyPrefix of a module that fits is shaped
    pub apply_prefix-shaped : (n : ℕ) (m : Record) (SelfPath : Path) → Fits m mod' → Shaped SelfPath → Shaped (apply_prefix op n m SelfPath)
    apply_prefix-shaped zero m SelfPath f s = unfold apply_prefix in fits-shaped m mod' refl f
    apply_prefix-shaped (suc n) m SelfPath f s =
        by_kind 0x60 1 m
        (module-shaped C n m SelfPath s (decl-shaped (paths_to_remove op m SelfPath) (apply_prefix op n) SelfPath s (apply_prefix-shaped n))
        ⨾ (λ e. rw (extern-walk op (suc n) SelfPath m e) (fits-shaped m mod' refl f)))
        f

    -- and so what apply makes of it
    pub apply-shaped : (root : Path) (m : Record) → Fits m mod' → Shaped root → Shaped (apply op root m)
    unfolding apply
    apply-shaped root m f s = apply_prefix-shaped (deep m) m (MSel root (name_of m)) f (selected-shaped root (name_of m) s)

    -- THE LAW: what apply makes of a module that fits is canonical, if its length can be written
    pub apply-canonical : (root : Path) (m : Record) → Fits m mod' → Shaped root → length (encode (apply op root m)) < 2 ^ 32 → Canonical (apply op root m)
    apply-canonical root m f s = shaped-canonical (apply op root m) (apply-shaped root m f s)

    -- and so its bytes are read back as it
    pub apply-read : (root : Path) (m : Record) → Fits m mod' → Shaped root → length (encode (apply op root m)) < 2 ^ 32
        → tree (encode (apply op root m)) ≡ apply op root m
    apply-read root m f s l = tree-encode (apply op root m) (apply-canonical root m f s l)
