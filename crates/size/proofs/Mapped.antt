-- The uses that a module's mapping gives are no larger than what the module's paths are charged. Assumes nothing.
use mathlib.Core.Path.{◌≡◌, refl}
use mathlib.Core.List.{List, [], ◌∷◌, ◌++◌}
use mathlib.Core.Bool.{Bool, true, false, cond, false≢true, or-true}
use mathlib.Core.Option.{none}
use Prim.Native.Nat.{ℕ, ◌+◌, ◌≤◌, ◌-◌}
use native.Mathlib.Omega.{arith}
use lib.ListN.{length, length-take}
use lib.Dec.{eqb}
use Rattle.wire.specs.Numbers.{same_bytes}
use Rattle.wire.proofs.Numbers.{same_bytes-true}
use Rattle.records.specs.Record.{Record, node, nil, ◌▸◌, nth}
use Rattle.rast.specs.Path.{Name, Path, MSel, Self, Selected, selected, whether}
use Rattle.rast.specs.Final.{is_among}
use Rattle.rast.specs.Operation.{Operation, shortening}
use Rattle.rast.proofs.Chosen.{shortening-chooses}
use Rattle.rast.proofs.Names.{shortening-names, turned, paths, same-equal}
use Rattle.rast.proofs.Tests.{by-test, by-option, one_of}
use Rattle.factor_paths.specs.Mapping.{Entry, entry, Provenance, Mapping, no_mapping, FinalReplacement, equal, get, set, ◌among◌, include, Add}
use Rattle.factor_paths.specs.Mapping.{ToFinalReplacement, ToUseStatements}
use Rattle.factor_paths.specs.PathsVisitor.{marked, unmarked, VisitTypeSingle, VisitExprSingle, VisitModDeclSingle, PathsVisitor}
use Rattle.factor_paths.specs.Apply.{mappings, paths_to_remove, imports}
use Rattle.factor_paths.proofs.Maps.{names_of, Apart}
use Rattle.factor_paths.proofs.Visits.{declaration-keeps, mappings-good}
use Rattle.factor_paths.proofs.Final.{get-final}
use Rattle.factor_paths.proofs.Modules.{ModFields}
use Rattle.size.proofs.Sizes.{size, size_all}
use Rattle.size.proofs.Walked.{pathed, charge_all, by-path}
use Rattle.size.proofs.Visited.{Adds, Single, VisitMod-adds}

module _ (op : Operation) (S : Path) where
  -- the size of a name's use from a path; SelfPath gives none
  unfoldable pub use_size : Name → Path → ℕ
  use_size n p = cond (equal op p S) 0 (19 + size (MSel p n))

  unfoldable pub bases_size : Name → List Path → ℕ
  bases_size n [] = 0
  bases_size n (p ∷ ps) = use_size n p + bases_size n ps

  -- as much as the uses of all the paths of a mapping would take
  unfoldable pub uses_size : Provenance → ℕ
  uses_size [] = 0
  uses_size (e ∷ es) = bases_size e.name e.held + uses_size es

  abbrev pub mapping_size : Mapping → ℕ
  mapping_size m = uses_size m.provenance

  bases-last : (n : Name) (p : Path) (ps : List Path) → bases_size n (ps ++ (p ∷ [])) ≡ bases_size n ps + use_size n p
  unfolding bases_size
  bases-last n p [] = omega arith
  bases-last n p (q ∷ ps) = let i = bases-last n p ps in omega arith

  pub use-most : (n : Name) (p : Path) → use_size n p ≤ 19 + size (MSel p n)
  unfolding use_size
  use-most n p = one_of (λ x. x ≤ 19 + size (MSel p n)) (equal op p S) (omega arith) (omega arith)

-- where names that are the same are equal, as both operations have it
module _ (again : Bool) (S : Path) where
  abbrev op : Operation
  op = shortening again

  -- setting a name's paths adds at most as much as they add to what the name had
  set-size : (k : Name) (ps : List Path) (x : ℕ) (es : Provenance) → bases_size op S k ps ≤ whether (get op k es) 0 (bases_size op S k) + x
      → uses_size op S (set op k ps es) ≤ uses_size op S es + x
  unfolding bases_size uses_size get set
  set-size k ps x [] h = omega arith
  set-size k ps x (e ∷ es) h =
      by-test (same_bytes e.name k)
      (λ t. let i : bases_size op S k ps ≤ bases_size op S k e.held + x = rw t at h in rw (t, same_bytes-true e.name k t) (omega arith))
      (λ t. let i = set-size k ps x es (rw t at h) in rw t (omega arith))

  pub add-size : (k : Name) (p : Path) (m : Mapping) → mapping_size op S (Add op m k p) ≤ mapping_size op S m + use_size op S k p
  unfolding Add bases_size
  add-size k p m =
      by-option (get op k m.provenance)
      (λ g. rw g (set-size k (p ∷ []) (use_size op S k p) m.provenance (rw g (omega arith))))
      (λ ps g. rw g (set-size k (include op p ps) (use_size op S k p) m.provenance
      (rw g (one_of (λ qs. bases_size op S k qs ≤ bases_size op S k ps + use_size op S k p) (◌among◌ op p ps) (omega arith)
      (let i = bases-last op S k p ps in omega arith)))))

  -- what is added for a path type or a path expression that selects a name, the name perhaps shortened
  selected-adds : (j : ℕ) → ((k : ℕ) → eqb k j ≡ true → pathed k ≡ true) → (name : Selected → Name) → ((s : Selected) → length (name s) ≤ length s.name)
      → Single (mapping_size op S) (λ m r. whether (selected j r) m (λ s. cond (equal op s.base Self) m (Add op m (name s) s.base)))
  unfolding nth size
  selected-adds j path name short k c i acc m h =
      by-test (eqb k j)
      (λ e. rw (path k e)
      (by-path (λ c. mapping_size op S (whether (selected j (node k c)) acc (λ s. cond (equal op s.base Self) acc (Add op acc (name s) s.base))) ≤ m
      + (19 + size_all c)) c (i (path k e))
      (λ b n same. let s : Selected = record { base = b; name = n } in
      let a = add-size (name s) b acc in
      let u = use-most op S (name s) b in
      let l = short s in
      rw e (one_of (λ acc. mapping_size op S acc ≤ m + (19 + size_all (MSel b n ▸ nil))) (equal op b Self) (omega arith) (omega arith)))
      (λ p f. rw (e, f) (omega arith))))
      (λ e. rw e (omega arith))

  type-single : Single (mapping_size op S) (VisitTypeSingle op)
  unfolding VisitTypeSingle
  type-single = selected-adds 0x2D (λ k e. rw e) (λ s. s.name) (λ s. omega arith)

  expr-single : Single (mapping_size op S) (VisitExprSingle op)
  unfolding VisitExprSingle
  expr-single =
      selected-adds 0x5C (λ k e. rw e (or-true (eqb k 0x2D))) (λ s. cond (marked s.name) (unmarked s.name) s.name)
      (λ s. shorter s.name)
    where
      shorter : (n : Name) → length (cond (marked n) (unmarked n) n) ≤ length n
      shorter n = let l = length-take (length n - 1) n in one_of (λ m. length m ≤ length n) (marked n) {x = unmarked n} {y = n} (omega arith) (omega arith)

  -- a declaration's own name is added with SelfPath
  declaration-adds : (d : Record) → Adds (mapping_size op S) (λ acc. VisitModDeclSingle op acc d S) 0
  unfolding use_size
  declaration-adds d acc m h =
      let i = declaration-keeps op (λ o a. mapping_size op S a ≤ m) S
      (λ o a k l. let j : mapping_size op S (Add op a k S) ≤ mapping_size op S a + 0 = rw ((paths (shortening-names again)).reflexive S) at (add-size k S a) in
      omega arith) acc acc d h in
      omega arith

  -- a module's mapping is no larger than what its paths are charged
  mapping-size : (m : Record) (h : ModFields m) → mapping_size op S (mappings op m S) ≤ charge_all h.body
  unfolding mappings uses_size
  mapping-size m h =
      let i = VisitMod-adds (mapping_size op S) (PathsVisitor op) type-single expr-single S declaration-adds m h no_mapping 0 (omega arith) in
      omega arith

  among-size : (n : Name) (q : Path) (ps : List Path) → ◌among◌ op q ps ≡ true → equal op q S ≡ false → 19 + size (MSel q n) ≤ bases_size op S n ps
  unfolding bases_size use_size is_among
  among-size n q [] h s = absurd (false≢true h)
  among-size n q (p ∷ ps) h s =
      by-test (equal op q p)
      (λ t. rw (← same-equal q p t, s) (omega arith))
      (λ t. let i = among-size n q ps (rw t at h) s in omega arith)

  -- a name that is not one of a map's names does not change their uses
  uses-apart : (n : Name) (q : Path) (r : FinalReplacement) {A : Type 0} (es : List (Entry A)) → get op n es ≡ none
      → ToUseStatements op (names_of es) (entry n q ∷ r) S ≡ ToUseStatements op (names_of es) r S
  unfolding ToUseStatements get
  uses-apart n q r [] h = refl
  uses-apart n q r (e ∷ es) h =
      by-test (same_bytes e.name n)
      (λ t. let i = rw t at h in cc)
      (λ t. rw (turned (shortening-names again) n e.name, t, uses-apart n q r es (rw t at h)))

  uses-size : (es : Provenance) → Apart op es → size_all (ToUseStatements op (names_of es) (ToFinalReplacement op es S) S) ≤ uses_size op S es
  unfolding ToUseStatements ToFinalReplacement Apart uses_size get size
  uses-size [] a = omega arith
  uses-size (e ∷ es) a =
      let n = e.name in
      let others = ToFinalReplacement op es S in
      let rest = uses-size es a.1 in
      by-option (op.chosen_base S e.held)
      (λ c. rw (c, get-final op (shortening-names again) n es S a.1, a.0) (omega arith))
      (λ q c. rw (c, (shortening-names again).reflexive n, uses-apart n q others es a.0)
      (by-test (equal op q S) (λ s. rw s (omega arith))
      (λ s. let i = among-size n q e.held ((shortening-chooses again).inside S e.held q c) s in rw s (omega arith))))

-- the uses put ahead of a module are no larger than the uses of all the paths of its mapping would be
pub imports-most : (again : Bool) (m : Record) (S : Path)
    → size_all (imports (shortening again) m S) ≤ mapping_size (shortening again) S (mappings (shortening again) m S)
unfolding imports paths_to_remove
imports-most again m S =
    let good = mappings-good (shortening again) (shortening-names again) m S in
    let a = uses-size again S (mappings (shortening again) m S).provenance good.apart in
    rw (← good.named) (omega arith)

-- nor than what its paths are charged
pub imports-size : (again : Bool) (m : Record) (h : ModFields m) (S : Path) → size_all (imports (shortening again) m S) ≤ charge_all h.body
imports-size again m h S = let a = imports-most again m S in let b = mapping-size again S m h in omega arith
