-- A module collects at most one pair of name and base for every 18 bytes. Assumes nothing.
use mathlib.Core.Path.{◌≡◌, refl, ap}
use mathlib.Core.List.{List, [], ◌∷◌}
use mathlib.Core.Bool.{Bool, true, false, ◌||◌, cond}
use Prim.Native.Nat.{ℕ, suc, ◌+◌, ◌*◌, ◌≤◌}
use native.Mathlib.Omega.{arith}
use lib.ListN.{length, length-append}
use lib.Dec.{eqb, lit≤}
use borrow.Author.Tests.{eqb-true}
use Rattle.records.specs.Record.{Record, Records, leaf, node, nil, ◌▸◌, children, nth, encode}
use Rattle.records.specs.Kinds.{Place, kinds, one, seq, stands, mod', type, expr, Content, bytes, these, any, at_most_one, row_of, content_at}
use Rattle.records.proofs.Fits.{Stands, StandsAll, Fits, FitsAll}
use Rattle.records.proofs.Run.{◌⨾◌, within}
use Rattle.records.proofs.Leaves.{one-kind}
use Rattle.records.proofs.ByRow.{by-kinds, fits-there}
use Rattle.rast.specs.Path.{Name, Path, MSel, Self, Selected, selected, whether}
use Rattle.rast.specs.Operation.{Operation}
use Rattle.rast.proofs.Tests.{by-test, by-option, one_of, whichever}
use Rattle.factor_paths.specs.Mapping.{Provenance, Mapping, no_mapping, equal, get, set, ◌among◌, include, Add, pairs}
use Rattle.factor_paths.specs.PathsVisitor.{marked, unmarked, VisitTypeSingle, VisitExprSingle, PathsVisitor}
use Rattle.factor_paths.specs.Apply.{mappings}
use Rattle.factor_paths.specs.Collects.{Visited, a_type, an_expr, a_decl, holds, visited_as, enters, single, collects, collects_all}
use Rattle.factor_paths.proofs.Visits.{declaration-adds}
use Rattle.factor_paths.proofs.Tidy.{PathIn, Paths, fits-paths}
use Rattle.factor_paths.proofs.Collects.{module-collects}
use Rattle.size.proofs.Sizes.{size, size_all, size-six, encode-size}
use Rattle.size.proofs.Walked.{pathed, by-path}

abbrev declared : ℕ → Bool
declared k = stands (kinds 0x62 0x6A) k

-- a pair is charged to a path type, a path expression or a declaration
abbrev charged : ℕ → Bool
charged k = pathed k || declared k

-- the bytes of the heads that lie in none of these
unfoldable mutual
  spare : Record → ℕ
  spare (leaf k b) = 6
  spare (node k c) = cond (charged k) 0 (6 + spare_all c)

  spare_all : Records → ℕ
  spare_all nil = 0
  spare_all (r ▸ c) = spare r + spare_all c

mutual
  unfolding spare size

  spare-size : (r : Record) → spare r ≤ size r
  spare-size (leaf k b) = omega arith
  spare-size (node k c) = let i = spare_all-size c in one_of (λ n. n ≤ 6 + size_all c) (charged k) (omega arith) (omega arith)

  spare_all-size : (c : Records) → spare_all c ≤ size_all c
  spare_all-size nil = omega arith
  spare_all-size (r ▸ c) = let i = spare-size r in let j = spare_all-size c in omega arith

-- a record at a place for one kind
spare-six : (p : Place) (j : ℕ) → ((k : ℕ) → stands p k ≡ true → k ≡ j) → charged j ≡ false → (r : Record) → Fits r p → 6 ≤ spare r
unfolding Stands spare
spare-six p j only free (leaf k b) f = omega arith
spare-six p j only free (node k c) f = rw (only k f.0, free) (omega arith)

text-six : (r : Record) → Fits r (one 0x01) → 6 ≤ spare r
text-six = spare-six (one 0x01) 0x01 (one-kind 0x01) refl

kept-six : (r : Record) → Fits r (one 0x03) → 6 ≤ spare r
kept-six = spare-six (one 0x03) 0x03 (one-kind 0x03) refl

list-six : (p : Place) (r : Record) → Fits r (seq p) → 6 ≤ spare r
list-six p = spare-six (seq p) 0x02 (λ k e. eqb-true k 0x02 e) refl

-- a declaration holds two such heads: its record's, and that of this record's first field
abbrev Two : Record → Type 0
Two d = 12 ≤ spare_all (children d)

decl-two : (d : Record) → Fits d (kinds 0x62 0x6A) → Two d
unfolding row_of spare
decl-two =
    by-kinds Two 0x62 8 (lit≤ tt)
    (by-kinds In 0x60 1 (lit≤ tt) ((λ d hd a ha n hn b hb. omega (arith, text-six d hd)) ⨾ (λ n hn. omega (arith, text-six n hn)))
    ⨾ by-kinds In 0x70 0 (lit≤ tt) (λ d hd a ha n hn ps hps fs hfs. omega (arith, text-six d hd))
    ⨾ by-kinds In 0x71 0 (lit≤ tt) (λ d hd a ha n hn ps hps t ht. omega (arith, text-six d hd))
    ⨾ by-kinds In 0x72 0 (lit≤ tt) (λ d hd a ha n hn t ht e he. omega (arith, text-six d hd))
    ⨾ by-kinds In 0x73 0 (lit≤ tt) (λ d hd a ha n hn ps hps cs hcs. omega (arith, text-six d hd))
    ⨾ by-kinds In 0x79 1 (lit≤ tt)
    ((λ ps hps t ht u hu ms hms. omega (arith, list-six _ ps hps)) ⨾ (λ ps hps t ht ms hms. omega (arith, list-six _ ps hps)))
    ⨾ by-kinds In 0x7B 0 (lit≤ tt) (λ d hd a ha ps hps t ht ts hts ms hms. omega (arith, text-six d hd))
    ⨾ by-kinds In 0x7C 0 (lit≤ tt) (λ d hd a ha v hv t ht. omega (arith, text-six d hd))
    ⨾ by-kinds In 0x80 0 (lit≤ tt) (λ v hv p hp. omega (arith, kept-six v hv)))
  where
    In : Record → Type 0
    In r = 12 ≤ spare r + 0

module _ (op : Operation) where
  abbrev count : Mapping → ℕ
  count m = pairs m.provenance

  set-count : (k : Name) (ps : List Path) (es : Provenance) → length ps ≤ whether (get op k es) 0 length + 1 → pairs (set op k ps es) ≤ pairs es + 1
  unfolding pairs get set
  set-count k ps [] h = omega arith
  set-count k ps (e ∷ es) h =
      by-test (op.same_name e.name k)
      (λ t. let i : length ps ≤ length e.held + 1 = rw t at h in rw t (omega arith))
      (λ t. let i = set-count k ps es (rw t at h) in rw t (omega arith))

  -- Add makes at most one pair more
  add-count : (m : Mapping) (k : Name) (p : Path) → count (Add op m k p) ≤ count m + 1
  unfolding Add
  add-count m k p =
      by-option (get op k m.provenance)
      (λ g. rw g (set-count k (p ∷ []) m.provenance (rw g (omega arith))))
      (λ ps g. rw g (set-count k (include op p ps) m.provenance
      (rw g (by-test (◌among◌ op p ps) (λ t. rw t (omega arith)) (λ t. rw (t, length-append ps (p ∷ [])) (omega arith))))))

  selected-count : (k : ℕ) (r : Record) (name : Selected → Name) (m : Mapping)
      → count (whether (selected k r) m (λ s. cond (equal op s.base Self) m (Add op m (name s) s.base))) ≤ count m + 1
  selected-count k r name m =
      let most : Mapping → Type 0 = λ a. count a ≤ count m + 1 in
      whichever most (selected k r) (omega arith) (λ s. one_of most (equal op s.base Self) (omega arith) (add-count m (name s) s.base))

  module _ (S : Path) where
    abbrev own : Visited → Mapping → Record → Mapping
    own = single (PathsVisitor op) S

    -- what is visited itself adds at most one pair
    own-count : (v : Visited) (m : Mapping) (r : Record) → count (own v m r) ≤ count m + 1
    unfolding VisitTypeSingle VisitExprSingle
    own-count a_type m r = selected-count 0x2D r (λ s. s.name) m
    own-count an_expr m r = selected-count 0x5C r (λ s. cond (marked s.name) (unmarked s.name) s.name) m
    own-count a_decl m r = declaration-adds op (λ o a. count a ≤ count m + 1) S m m (omega arith) (λ k. add-count m k S) r
    own-count holds m r = omega arith

    -- and none but at those kinds
    own-none : (k : ℕ) (c : Records) (m : Mapping) → eqb k 0x2D ≡ false → eqb k 0x5C ≡ false → declared k ≡ false → own (visited_as k) m (node k c) ≡ m
    unfolding VisitTypeSingle VisitExprSingle
    own-none k c m a b d =
        rw d (one_of Left (stands type k) (rw a) (one_of Left (stands expr k) (rw b) refl))
      where
        Left : Visited → Type 0
        Left v = own v m (node k c) ≡ m

    abbrev C : Mapping → Record → Mapping
    C = collects (PathsVisitor op) S

    abbrev CAll : ℕ → ℕ → Mapping → Records → Mapping
    CAll = collects_all (PathsVisitor op) S

    -- 18 for each pair that a record adds, and its spare bytes, are at most its size
    abbrev Few : Record → Type 0
    Few r = (m : Mapping) → 18 * count (C m r) + spare r ≤ 18 * count m + size r

    abbrev FewAll : Records → Type 0
    FewAll c = (k i : ℕ) (m : Mapping) → 18 * count (CAll k i m c) + spare_all c ≤ 18 * count m + size_all c

    -- a path type that selects a name has four heads, and nothing in it is visited; so too a path expression
    type-few : (c : Records) → PathIn c → Few (node 0x2D c)
    unfolding collects spare size VisitTypeSingle nth
    type-few c i m =
        by-path (λ c. 18 * count (C m (node 0x2D c)) + spare (node 0x2D c) ≤ 18 * count m + size (node 0x2D c)) c i
        (λ b n e. omega (arith, size-six b, own-count a_type m (node 0x2D (MSel b n ▸ nil))))
        (λ p e. rw e (omega arith))

    expr-few : (c : Records) → PathIn c → Few (node 0x5C c)
    unfolding collects spare size VisitExprSingle nth
    expr-few c i m =
        by-path (λ c. 18 * count (C m (node 0x5C c)) + spare (node 0x5C c) ≤ 18 * count m + size (node 0x5C c)) c i
        (λ b n e. omega (arith, size-six b, own-count an_expr m (node 0x5C (MSel b n ▸ nil))))
        (λ p e. rw e (omega arith))

    -- any record, if it is so of what it holds
    node-few : (k : ℕ) (c : Records) → (pathed k ≡ true → PathIn c) → (declared k ≡ true → 12 ≤ spare_all c) → FewAll c → Few (node k c)
    unfolding collects spare size
    node-few k c i d all m =
        by-test (eqb k 0x2D)
        (λ e. rw (eqb-true k 0x2D e) (type-few c (i (rw e)) m))
        (λ a. by-test (eqb k 0x5C)
        (λ e. rw (eqb-true k 0x5C e) (expr-few c (i (rw (a, e))) m))
        (λ b. by-test (declared k)
        (λ e. let s : spare (node k c) ≡ 0 = rw (a, b, e) in
        let two = d e in
        let o = own-count (visited_as k) m (node k c) in
        let n = all k 0 (own (visited_as k) m (node k c)) in
        omega arith)
        (λ e. let s : spare (node k c) ≡ 6 + spare_all c = rw (a, b, e) in
        let o = ap count (own-none k c m a b e) in
        let n = all k 0 (own (visited_as k) m (node k c)) in
        omega arith)))

    more : (r : Record) (c : Records) → Few r → FewAll c → FewAll (r ▸ c)
    unfolding collects spare size
    more r c h hs k i m =
        let first = one_of (λ a. 18 * count a + spare r ≤ 18 * count m + size r) (enters k i) {x = C m r} {y = m} (h m) (omega (arith, spare-size r)) in
        let rest = hs k (suc i) (cond (enters k i) (C m r) m) in
        omega arith

    mutual
      unfolding Stands StandsAll Paths collects spare size

      -- every record that fits a place
      few : (r : Record) (p : Place) → Fits r p → Few r
      few (leaf k b) p f = λ m. omega arith
      few (node k c) p f =
          node-few k c (fits-paths (node k c) p f).0
          (λ e. let w = within 0x62 0x6A k e in decl-two (node k c) (fits-there k c p (kinds 0x62 0x6A) (omega arith) f e))
          (few-all c (content_at p k) f.1)

      few-all : (c : Records) (t : Content) → FitsAll c t → FewAll c
      few-all nil t f = λ k i m. omega arith
      few-all (r ▸ c) bytes f = absurd f
      few-all (r ▸ c) (these []) f = absurd f
      few-all (r ▸ c) (these (p ∷ ps)) f = more r c (few r p f.0) (few-all c (these ps) f.1)
      few-all (r ▸ c) (any p) f = more r c (few r p f.0) (few-all c (any p) f.1)
      few-all (r ▸ c) (at_most_one p) f = more r c (few r p f.0) (few-all c (these []) f.1)

-- THE LAW: a module has at least 18 bytes for each pair that it collects
pub pairs-few : (op : Operation) (m : Record) (S : Path) → Fits m mod' → 18 * pairs (mappings op m S).provenance ≤ length (encode m)
unfolding mappings pairs
pairs-few op m S h = let i = few op S m mod' h no_mapping in rw (encode-size m, module-collects (PathsVisitor op) S no_mapping m h) (omega arith)
