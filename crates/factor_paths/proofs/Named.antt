-- A module whose paths are not nameless puts no use of an empty name ahead of its body: only its own declarations bring one, with the prefix. Assumes nothing.
use mathlib.Core.Path.{◌≡◌, refl, sym, ap, ◌∙◌}
use mathlib.Core.List.{List, [], ◌∷◌, ◌++◌}
use mathlib.Core.Bool.{Bool, true, false, not, ◌&&◌, cond, and-eq-true_iff, false≢true, true≢false}
use mathlib.Core.Option.{none, some, some-injective}
use Prim.Native.Nat.{ℕ, ◌-◌, ◌<◌}
use native.Mathlib.Omega.{arith}
use lib.ListN.{length, length-take}
use lib.Dec.{eqb, ltb, lit<}
use borrow.Author.Tests.{eqb-true, ltb-false, not-true}
use Rattle.wire.proofs.Numbers.{same_bytes-true}
use Rattle.records.specs.Record.{Record, leaf, node, text, nth, field, is}
use Rattle.records.specs.Reading.{is_no_name}
use Rattle.records.specs.Named.{named, named_all}
use Rattle.records.proofs.Hereditary.{Hereditary, field_in}
use Rattle.records.specs.Kinds.{mod'}
use Rattle.records.proofs.Fits.{Fits}
use Rattle.records.proofs.Named.{fits-named}
use Rattle.records.proofs.Shape.{Shaped, ShapedAll, fits-shaped}
use Rattle.rast.specs.Path.{Name, Path, Self, selected, whether}
use Rattle.rast.specs.Final.{is_among}
use Rattle.rast.specs.Operation.{Operation, shortening}
use Rattle.rast.proofs.Tests.{by-test, by-option, one_of}
use Rattle.rast.proofs.Names.{Names, paths}
use Rattle.rast.proofs.Chosen.{Chooses, Each}
use Rattle.rast.proofs.Keeps.{VisitMod-keeps-in}
use Rattle.factor_paths.specs.Mapping.{Entry, entry, Provenance, Mapping, no_mapping, equal, get, set, include, Add}
use Rattle.factor_paths.specs.PathsVisitor.{marked, VisitTypeSingle, VisitExprSingle, PathsVisitor}
use Rattle.factor_paths.specs.Apply.{mappings, paths_to_remove}
use Rattle.factor_paths.specs.LookUp.{bare}
use Rattle.factor_paths.proofs.Visits.{declaration-keeps, mappings-good}
use Rattle.factor_paths.proofs.Final.{final-from}

-- names that are the same end alike in '!', and are alike empty
abbrev pub Marks : Operation → Type 0
Marks op = (a b : Name) → op.same_name a b ≡ true → (marked a ≡ marked b) × (length a ≡ 0 → length b ≡ 0)

pub shortening-marks : (again : Bool) → Marks (shortening again)
shortening-marks again a b e = let same = same_bytes-true a b e in (ap marked same, λ h. rw same at h)

-- a tree without nameless paths whose leaves have a leaf's kind, and so all below it
abbrev pub Sure : Record → Type 0
Sure r = (named r ≡ true) × Shaped r

pub sure-below : Hereditary Sure (λ c. (named_all c ≡ true) × ShapedAll c)
unfolding named Shaped
sure-below = record {
  below = λ {k} {c} h. (((and-eq-true_iff (not (eqb k 0x13 && is_no_name (text (nth 1 c)))) (named_all c)).0 h.0).1, h.1.2);
  none = (refl, tt);
  first = λ {r} {c} h. (((and-eq-true_iff (named r) (named_all c)).0 h.0).0, h.1.0);
  rest = λ {r} {c} h. (((and-eq-true_iff (named r) (named_all c)).0 h.0).1, h.1.1);
  absent = (refl, (refl, lit< tt));
}

pub fits-sure : (r : Record) → Fits r mod' → Sure r
fits-sure r f = (fits-named r mod' f, fits-shaped r mod' refl f)

-- the name of a PMemberSelect is not empty, nor is it without its mark
select-name : (r : Record) → Sure r → is 0x13 r ≡ true → is_no_name (text (field 1 r)) ≡ false
unfolding named Shaped
select-name (leaf k b) h e = absurd (let i = rw (eqb-true k 0x13 e) at h.1.0 in false≢true i)
select-name (node k c) h e = not-true _ (ap (λ (t : Bool). not (t && is_no_name (text (nth 1 c)))) (sym e) ∙ ((and-eq-true_iff _ _).0 h.0).0)

some-name : (n : Name) → is_no_name n ≡ false → length n ≡ 0 → ⊥
some-name [] h e = true≢false h
some-name (b ∷ n) h e = omega arith

bare-name : (n : Name) → is_no_name n ≡ false → length (bare n) ≡ 0 → ⊥
bare-name [] h e = true≢false h
bare-name (b ∷ []) h e = let i = rw h at e in omega arith
bare-name (b ∷ c ∷ n) h e =
    let l = length-take (length (b ∷ c ∷ n) - 1) (b ∷ c ∷ n) in
    by-test (marked (b ∷ c ∷ n)) (λ t. let i = rw t at e in omega arith) (λ t. let i = rw t at e in omega arith)

module _ (op : Operation) (N : Names op) (alike : Marks op) (S : Path) where
  -- an empty name has the prefix alone
  abbrev Fine : Entry (List Path) → Type 0
  Fine e = length e.name ≡ 0 → Each (λ q. equal op q S ≡ true) e.held

  abbrev FineAll : Provenance → Type 0
  FineAll [] = Unit {0}
  FineAll (e ∷ es) = Fine e × FineAll es

  set-fine : (k : Name) (ps : List Path) (es : Provenance) → ((n : Name) → op.same_name n k ≡ true → Fine (entry n ps)) → FineAll es
      → FineAll (set op k ps es)
  unfolding set
  set-fine k ps [] h f = (h k (N.reflexive k), tt)
  set-fine k ps (e ∷ es) h f = by-test (op.same_name e.name k) (λ t. rw t (h e.name t, f.1)) (λ t. rw t (f.0, set-fine k ps es h f.1))

  get-fine : (k : Name) (ps : List Path) (es : Provenance) → FineAll es → get op k es ≡ some ps → length k ≡ 0 → Each (λ q. equal op q S ≡ true) ps
  unfolding get
  get-fine k ps [] f g z = absurd (let z : ◌≡◌ {A = ℕ} 0 1 = cc in omega arith)
  get-fine k ps (e ∷ es) f g z =
      by-test (op.same_name e.name k)
      (λ t. rw (some-injective _ _ (rw t at g)) at (f.0 ((alike k e.name (N.symmetric e.name k t)).1 z)))
      (λ t. get-fine k ps es f.1 (rw t at g) z)

  each_last : (Q : Path → Type 0) (p : Path) (ps : List Path) → Q p → Each Q ps → Each Q (ps ++ (p ∷ []))
  unfolding Each
  each_last Q p [] h f = (h, tt)
  each_last Q p (q ∷ ps) h f = (f.0, each_last Q p ps h f.1)

  -- adding a name that is not empty, or the prefix, keeps that
  add-fine : (m : Mapping) (k : Name) (p : Path) → (length k ≡ 0 → equal op p S ≡ true) → FineAll m.provenance → FineAll (Add op m k p).provenance
  unfolding Add Each
  add-fine m k p own f =
      by-option (get op k m.provenance)
      (λ g. rw g (set-fine k (p ∷ []) m.provenance (λ n t z. (own ((alike n k t).1 z), tt)) f))
      (λ ps g. rw g (set-fine k (include op p ps) m.provenance
      (λ n t z. let old = get-fine k ps m.provenance f g ((alike n k t).1 z) in
      one_of (Each (λ q. equal op q S ≡ true)) (is_among (equal op) p ps) old (each_last (λ q. equal op q S ≡ true) p ps (own ((alike n k t).1 z)) old)) f))

  selected-fine : (k : ℕ) (r : Record) (name : Name → Name) → ((n : Name) → is_no_name n ≡ false → length (name n) ≡ 0 → ⊥) → (m : Mapping)
      → Sure r → FineAll m.provenance
      → FineAll (whether (selected k r) m (λ s. cond (equal op s.base Self) m (Add op m (name s.name) s.base))).provenance
  selected-fine k r name fills m a f =
      by-test (is k r && is 0x13 (field 0 r))
      (λ t. let e = ((and-eq-true_iff (is k r) (is 0x13 (field 0 r))).0 t).1 in
      rw t (one_of (λ (x : Mapping). FineAll x.provenance) (equal op (field 0 (field 0 r)) Self) f
      (add-fine m _ (field 0 (field 0 r)) (λ z. absurd (fills _ (select-name (field 0 r) (field_in sure-below 0 a) e) z)) f)))
      (λ t. rw t f)

  mappings-fine : (m : Record) → Sure m → FineAll (mappings op m S).provenance
  unfolding mappings VisitTypeSingle VisitExprSingle
  mappings-fine m a =
      VisitMod-keeps-in sure-below (λ (x : Mapping). FineAll x.provenance) (PathsVisitor op)
      (λ x t. selected-fine 0x2D t (λ n. n) some-name x)
      (λ x e. selected-fine 0x5C e bare bare-name x) S
      (λ x d c. declaration-keeps op (λ o y. FineAll y.provenance) S (λ o y k. add-fine y k S (λ z. (paths N).reflexive S)) x x d) no_mapping m a tt

  each-among : (q : Path) (ps : List Path) → Each (λ r. equal op r S ≡ true) ps → is_among (equal op) q ps ≡ true → equal op q S ≡ true
  unfolding is_among Each
  each-among q [] f h = absurd (false≢true h)
  each-among q (p ∷ ps) f h =
      by-test (equal op q p) (λ t. (paths N).transitive q p S t f.0) (λ t. each-among q ps f.1 (rw t at h))

  -- THE LAW: a name whose base is another than the prefix is not empty
  pub replaced-filled : Chooses op → (m : Record) → Sure m → (k : Name) (q : Path) → get op k (paths_to_remove op m S) ≡ some q → equal op q S ≡ false
      → ltb 0 (length k) ≡ true
  unfolding paths_to_remove
  replaced-filled C m a k q g e =
      by-test (ltb 0 (length k)) (λ t. t)
      (λ t. let z : length k ≡ 0 = (let l = ltb-false 0 (length k) t in omega arith) in
      let j = final-from op N k q (mappings op m S).provenance S (mappings-good op N m S).apart g in
      let f = get-fine k j.0 (mappings op m S).provenance (mappings-fine m a) j.1 z in
      absurd (true≢false (sym (each-among q j.0 f (C.inside S j.0 q j.2)) ∙ e)))
