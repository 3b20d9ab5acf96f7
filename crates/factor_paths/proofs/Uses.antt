-- The uses put ahead of a module: what looking a name up in them gives, what they are, and the names that they bear. Assumes nothing.
use mathlib.Core.Path.{◌≡◌, refl, sym, ◌∙◌}
use mathlib.Core.List.{List, [], ◌∷◌, ◌++◌}
use mathlib.Core.Bool.{true, false, not, ◌||◌, or-true, or-false, or_assoc, and-eq-true_iff, false≢true, true≢false}
use mathlib.Core.Option.{none, some}
use Prim.Native.Nat.{ℕ}
use native.Mathlib.Omega.{arith}
use lib.ListN.{length}
use lib.Dec.{ltb}
use borrow.Author.Tests.{not-true}
use Rattle.records.specs.Record.{Record, Records, ◌▸◌, nth}
use Rattle.rast.specs.Path.{Name, Path, MSel}
use Rattle.rast.specs.Operation.{Operation}
use Rattle.rast.specs.Mod.{Mod-as-Fold}
use Rattle.rast.specs.Visitor.{VisitModMapping, VisitMod}
use Rattle.rast.proofs.Tests.{by-test, by-option, there-is}
use Rattle.rast.proofs.Names.{Names, turned, paths, selected-same}
use Rattle.rast.proofs.Chosen.{Chooses}
use Rattle.rast.proofs.Keeps.{modules-keep, VisitModMapping-keeps}
use Rattle.factor_paths.specs.Mapping.{Entry, Mapping, no_mapping, Add, FinalReplacement, equal, use_decl, get, ToUseStatements}
use Rattle.factor_paths.specs.PathsVisitor.{marked, VisitModDeclSingle, PathsVisitor}
use Rattle.factor_paths.specs.Apply.{mappings, paths_to_remove, imports, replaces}
use Rattle.factor_paths.proofs.Maps.{names_of, Apart, get-same}
use Rattle.factor_paths.proofs.Mappings.{add-keys, holds, add_holds, added-holds}
use Rattle.factor_paths.proofs.Visits.{type-keeps, expr-keeps, declaration-keeps, mappings-good}
use Rattle.factor_paths.proofs.Final.{final-from, final-self}
use Rattle.factor_paths.proofs.Named.{Marks, Sure, replaced-filled}
use Rattle.factor_paths.specs.LookUp.{unmarked_all, names_borne, UseDecls, look_up, collected, own, has, different}

module _ (op : Operation) where
  -- what the uses of the other keys have, and keep where a key's use comes first, they have with that key
  with-key : (Q : Records → Type 0) (k : Name) (ks : List Name) (r : FinalReplacement) (S : Path) → Q (ToUseStatements op ks r S)
      → ((q : Path) → get op k r ≡ some q → equal op q S ≡ false → Q (use_decl (MSel q k) ▸ ToUseStatements op ks r S)) → Q (ToUseStatements op (k ∷ ks) r S)
  unfolding ToUseStatements
  with-key Q k ks r S rest more =
      by-option (get op k r) (λ o. rw o rest) (λ q o. by-test (equal op q S) (λ s. rw (o, s) rest) (λ s. rw (o, s) (more q o s)))

  uses-are : (keys : List Name) (r : FinalReplacement) (S : Path)
      → ((k : Name) (q : Path) → get op k r ≡ some q → equal op q S ≡ false → ltb 0 (length k) ≡ true) → UseDecls (ToUseStatements op keys r S)
  unfolding UseDecls ToUseStatements nth
  uses-are [] r S h = tt
  uses-are (k ∷ ks) r S h = with-key UseDecls k ks r S (uses-are ks r S h) (λ q o s. (refl, refl, h k q o s, uses-are ks r S h))

  -- what a module without nameless paths puts ahead of its body are UseDecls whose paths end in names
  pub imports-are : Names op → Marks op → Chooses op → (m : Record) (SelfPath : Path) → Sure m → UseDecls (imports op m SelfPath)
  unfolding imports
  imports-are N alike C m SelfPath a =
      uses-are (mappings op m SelfPath).keys (paths_to_remove op m SelfPath) SelfPath (replaced-filled op N alike SelfPath C m a)

  -- the names of the one mapping have the path among their paths in the other
  abbrev Owned : Path → Mapping → Mapping → Type 0
  Owned S o a = (k : Name) → has op k o.keys ≡ true → holds op S k a ≡ true

  module _ (N : Names op) where
    -- a name that a map has is among its names
    has-names : {A : Type 0} (n : Name) (a : A) (es : List (Entry A)) → get op n es ≡ some a → has op n (names_of es) ≡ true
    unfolding get has
    has-names n a [] h = cc
    has-names n a (e ∷ es) h =
        by-test (op.same_name e.name n) (λ t. rw (turned N n e.name, t))
        (λ t. rw (has-names n a es (rw t at h)) (or-true (op.same_name n e.name)))

    -- a name whose base is q is looked up as q and the name, if q is SelfPath or the name is one of the keys
    finds : (r : FinalReplacement) (S : Path) (n : Name) (q : Path) → get op n r ≡ some q → (keys : List Name) → (equal op q S || has op n keys) ≡ true
        → equal op (look_up op (ToUseStatements op keys r S) S n) (MSel q n) ≡ true
    unfolding look_up ToUseStatements has nth
    finds r S n q g [] h = selected-same N S q n n ((paths N).symmetric q S (sym (or-false (equal op q S)) ∙ h)) (N.reflexive n)
    finds r S n q g (k ∷ ks) h =
        by-test (op.same_name k n)
        (λ t. by-test (equal op q S)
        (λ s. rw (get-same op N k n r t, g, s) (finds r S n q g ks (rw s)))
        (λ s. rw (get-same op N k n r t, g, s, t) (selected-same N q q k n ((paths N).reflexive q) t)))
        (λ t. let rest = finds r S n q g ks (rw (turned N n k, t) at h) in
        with-key (λ c. equal op (look_up op c S n) (MSel q n) ≡ true) k ks r S rest (λ base o s. rw t rest))

    module _ (m : Record) (SelfPath : Path) where
      -- a name that is replaced is one that the module collects
      pub replaced-collected : (n : Name) (b : Path) → replaces op (paths_to_remove op m SelfPath) n b ≡ true → has op n (collected op m SelfPath) ≡ true
      unfolding replaces paths_to_remove
      replaced-collected n b h =
          let good = mappings-good op N m SelfPath in
          let i = there-is (get op n (paths_to_remove op m SelfPath)) _ h in
          let j = final-from op N n i.0 (mappings op m SelfPath).provenance SelfPath good.apart i.1 in
          rw (← good.named) (has-names n j.0 (mappings op m SelfPath).provenance j.1)

      -- looking a name up that is replaced where it is selected from b gives b and the name
      pub looks-up : (n : Name) (b : Path) → replaces op (paths_to_remove op m SelfPath) n b ≡ true
          → equal op (look_up op (imports op m SelfPath) SelfPath n) (MSel b n) ≡ true
      unfolding replaces imports
      looks-up n b h =
          let r = paths_to_remove op m SelfPath in
          let i = there-is (get op n r) _ h in
          (paths N).transitive _ _ _
          (finds r SelfPath n i.0 i.1 (collected op m SelfPath) (rw (replaced-collected n b h) (or-true (equal op i.0 SelfPath))))
          (selected-same N i.0 b n n i.2 (N.reflexive n))

    has_last : (k n : Name) (ns : List Name) → has op k (ns ++ (n ∷ [])) ≡ (has op k ns || op.same_name k n)
    unfolding has
    has_last k n [] = or-false (op.same_name k n)
    has_last k n (m ∷ ms) = rw (has_last k n ms) (sym (or_assoc (op.same_name k m) (has op k ms) (op.same_name k n)))

    module _ (S : Path) where
      owned-add : (o a : Mapping) (j : Name) → Owned S o a → Owned S (Add op o j S) (Add op a j S)
      owned-add o a j f k h =
          by-test (op.same_name k j) (λ t. added-holds op N S a j k (N.symmetric k j t))
          (λ t. add_holds op N S a j S k (f k
          (by-option (get op j o.provenance)
          (λ g. rw (add-keys op N o j S, g, has_last k j o.keys, t, or-false (has op k o.keys)) at h)
          (λ ps g. rw (add-keys op N o j S, g) at h))))

      owned : (m : Record) → Owned S (Mod-as-Fold m no_mapping (λ current d. VisitModDeclSingle op current d S)) (mappings op m S)
      unfolding has mappings VisitMod
      owned m =
          modules-keep (Owned S) (λ current d. VisitModDeclSingle op current d S) (λ acc d. VisitModMapping (PathsVisitor op) acc d S)
          (λ o a d r.
          let P : Mapping → Type 0 = Owned S (VisitModDeclSingle op o d S) in
          let kept : (m : Mapping) (j : Name) (p : Path) → P m → P (Add op m j p) = λ m j p f k h. add_holds op N S m j p k (f k h) in
          VisitModMapping-keeps P (PathsVisitor op) (type-keeps op P kept) (expr-keeps op P kept) a d S (declaration-keeps op (Owned S) S owned-add o a d r))
          no_mapping no_mapping m (λ k h. absurd (false≢true h))

    -- the names that uses bear are pairwise different and none is among the others, if none of these that has a use is the name of an entry
    bear-different : {A : Type 0} (r : FinalReplacement) (S : Path) (es : List (Entry A)) → Apart op es → (others : List Name)
        → ((k : Name) → has op k others ≡ true → replaces op r k S ≡ false → get op k es ≡ none)
        → different op others (names_borne (ToUseStatements op (names_of es) r S)) ≡ true
    unfolding Apart get has different names_borne ToUseStatements replaces nth
    bear-different r S [] a others f = refl
    bear-different r S (e ∷ es) a others f =
        let n = e.name in
        let later : (k : Name) → get op k (e ∷ es) ≡ none → get op k es ≡ none =
        λ k g. by-test (op.same_name n k) (λ t. let i = rw t at g in cc) (λ t. rw t at g) in
        with-key (λ c. different op others (names_borne c) ≡ true) n (names_of es) r S
        (bear-different r S es a.1 others (λ k h t. later k (f k h t)))
        (λ q o s. by-test (has op n others)
        (λ h. absurd (let i = rw (N.reflexive n) at (f n h (rw o s)) in let z : ◌≡◌ {A = ℕ} 0 1 = cc in omega arith))
        (λ h. rw h
        (bear-different r S es a.1 (n ∷ others)
        (λ k i t. by-test (op.same_name k n) (λ u. get-same op N k n es u ∙ a.0) (λ u. later k (f k (rw u at i) t))))))

    -- the names that the uses bear are pairwise different, and none is a name of one of the module's own declarations
    pub imports-different : Chooses op → (m : Record) (SelfPath : Path) → different op (own op m SelfPath) (names_borne (imports op m SelfPath)) ≡ true
    unfolding imports paths_to_remove
    imports-different C m SelfPath =
        let good = mappings-good op N m SelfPath in
        rw (← good.named)
        (bear-different (paths_to_remove op m SelfPath) SelfPath (mappings op m SelfPath).provenance good.apart (own op m SelfPath)
        (λ k h t. absurd (true≢false (sym (final-self op N C k (mappings op m SelfPath).provenance SelfPath good.apart (owned SelfPath m k h)) ∙ t))))

unmarked-has : (op : Operation) → Marks op → (n : Name) (ns : List Name) → has op n ns ≡ true → unmarked_all ns ≡ true → marked n ≡ false
unfolding has unmarked_all
unmarked-has op alike n [] h u = absurd (false≢true h)
unmarked-has op alike n (m ∷ ms) h u =
    let v = (and-eq-true_iff (not (marked m)) (unmarked_all ms)).0 u in
    by-test (op.same_name n m) (λ t. (alike n m t).0 ∙ not-true (marked m) v.0) (λ t. unmarked-has op alike n ms (rw t at h) v.1)

-- a name that is replaced does not end in '!' where no collected name does
pub replaced-unmarked : (op : Operation) → Names op → Marks op → (m : Record) (SelfPath : Path) (n : Name) (b : Path)
    → replaces op (paths_to_remove op m SelfPath) n b ≡ true
    → unmarked_all (collected op m SelfPath) ≡ true → marked n ≡ false
replaced-unmarked op N alike m SelfPath n b h = unmarked-has op alike n (collected op m SelfPath) (replaced-collected op N m SelfPath n b h)
