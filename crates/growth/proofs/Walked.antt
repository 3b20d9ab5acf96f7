-- What the walk makes of a record is no longer than the record and its growth, and where uses are charged, its paths' uses are in it. Assumes nothing.
use mathlib.Core.Path.{◌≡◌, refl}
use mathlib.Core.Bool.{Bool, true, false, ◌&&◌, ◌||◌, cond}
use Prim.Native.Nat.{ℕ, zero, suc, ◌+◌, ◌*◌, ◌≤◌}
use native.Mathlib.Omega.{arith}
use lib.ListN.{length}
use lib.Dec.{eqb}
use borrow.Author.Tests.{eqb-true}
use Rattle.records.specs.Record.{Record, Records, leaf, node, nil, ◌▸◌, encode, encode_all, is_leaf, nth, first, skip, deep, deep_all}
use Rattle.records.specs.Kinds.{stands, path, type, expr, kinds}
use Rattle.records.specs.Canonical.{Canonical, CanonicalAll}
use Rattle.records.proofs.Run.{◌⨾◌, in-run}
use Rattle.rast.specs.Path.{MSel}
use Rattle.rast.specs.Operation.{Operation}
use Rattle.rast.proofs.Tests.{by-test, one_of}
use Rattle.factor_paths.specs.Mapping.{FinalReplacement}
use Rattle.factor_paths.specs.PathsVisitor.{marked, unmarked}
use Rattle.factor_paths.specs.Apply.{replaces, Identifier, ReplaceExprSingle}
use Rattle.factor_paths.specs.Walk.{left, step_of, deeper, wrap, walk, walk_all, walk_fn}
use Rattle.factor_paths.proofs.Tidy.{by-either, at_literal, PathIn, Paths, PathsAll}
use Rattle.factor_paths.proofs.Wraps.{paths-walked, wrap-other, expr-other}
use Rattle.size.proofs.Sizes.{size, size_all, encode-size}
use Rattle.size.proofs.Walked.{pathed, charge, charge_all, by-path, synonyms-size}
use Rattle.operation.specs.declared.Shortening.{Shortening}
use Rattle.operation.specs.Operations.{operation_of}
use Rattle.rewriting.specs.Replaces.{name_in}
use Rattle.rewriting.specs.Rewrites.{parts_of}
use Rattle.rewriting.proofs.Parts.{encode_each, parts_all}
use Rattle.rewriting.proofs.Walks.{alone-kind, alone-content, name-is, counted_is, uncounted-is, counts}
use Rattle.growth.specs.Grows.{is_fixed, wraps_in, sum, growth}

-- what is charged where uses are
abbrev pub due : Bool → ℕ → ℕ
due charged n = cond charged n 0

pub due-none : (b : Bool) → due b 0 ≡ 0
due-none true = refl
due-none false = refl

pub due-sum : (b : Bool) (m n : ℕ) → due b (m + n) ≡ due b m + due b n
due-sum true m n = refl
due-sum false m n = refl

due-more : (b e : Bool) (n : ℕ) → due b n ≤ due (b || e) n
due-more true e n = omega arith
due-more false e n = omega arith

-- what is fixed stays, and holds no path that is charged
abbrev Stays : ℕ → Type 0
Stays k = (step_of k ≡ left) × (pathed k ≡ false)

fixed-stays : (k : ℕ) → is_fixed k ≡ true → Stays k
fixed-stays k e =
    by-either (is_leaf k || stands path k || eqb k 0x6A) (eqb k 0x80) e
    (λ e. by-either (is_leaf k || stands path k) (eqb k 0x6A) e
    (λ e. by-either (is_leaf k) (stands path k) e
    (λ e. by-either (eqb k 0x01) (eqb k 0x03) e (at_literal Stays 0x01 (refl ⨾ refl) k) (at_literal Stays 0x03 (refl ⨾ refl) k))
    (in-run Stays 0x10 3 ((refl ⨾ refl) ⨾ (refl ⨾ refl) ⨾ (refl ⨾ refl) ⨾ (refl ⨾ refl)) k))
    (at_literal Stays 0x6A (refl ⨾ refl) k))
    (at_literal Stays 0x80 (refl ⨾ refl) k)

-- a record that is not fixed, no path type, no path expression and no Fn grows by what it holds
pub held-growth : (op : Shortening) (depth : ℕ) (charged again : Bool) (w k : ℕ) (c : Records) → is_fixed k ≡ false → eqb k 0x2D ≡ false → eqb k 0x5C ≡ false
    → eqb k 0x7D ≡ false → Canonical (node k c)
    → growth op (suc depth) charged again w (encode (node k c))
    ≡ sum (growth op depth (charged || eqb k 0x62) again (wraps_in again w k)) (encode_each c)
unfolding growth Canonical
held-growth op depth charged again w k c e f g i h = rw (alone-kind (node k c) h, alone-content (node k c) h, e, f, g, i, parts_all c h.3)

module _ (op : Shortening) (rep : FinalReplacement) where
  abbrev Op : Operation
  Op = operation_of op

  abbrev Fine : (depth : ℕ) (charged again : Bool) (w : ℕ) → Record → Type 0
  Fine depth charged again w r = size (walk Op rep again w r) + due charged (charge r) ≤ size r + growth op depth charged again w (encode r)

  -- what some records grow by
  abbrev Held : (depth : ℕ) (charged again : Bool) (w : ℕ) → Records → ℕ
  Held depth charged again w c = sum (growth op depth charged again w) (encode_each c)

  -- and by the records in their bytes
  abbrev Parts : (depth : ℕ) (charged again : Bool) (w : ℕ) → Records → ℕ
  Parts depth charged again w c = sum (growth op depth charged again w) (parts_of (encode_all c))

  abbrev Below : ℕ → Type 0
  Below depth = (charged again : Bool) (w : ℕ) (r : Record) → Paths r → Canonical r → deep r ≤ depth → Fine depth charged again w r

  -- a path type and a path expression, with what they are charged
  module _ (depth : ℕ) (charged again : Bool) (w : ℕ) (c : Records) (i : PathIn c) where
    abbrev typed : Records → ℕ
    typed c = w * (18 + length (name_in (encode (node 0x2D c)))) + due charged (19 + size_all c)

    type-growth : Canonical (node 0x2D c) → growth op (suc depth) charged again w (encode (node 0x2D c)) ≡ typed c
    unfolding growth size
    type-growth h = let e : 13 + (6 + size_all c) ≡ 19 + size_all c = omega arith in rw (alone-kind (node 0x2D c) h, encode-size (node 0x2D c), e)

    expr-growth : Canonical (node 0x5C c) → growth op (suc depth) charged again w (encode (node 0x5C c)) ≡ due charged (19 + size_all c)
    unfolding growth size
    expr-growth h = let e : 13 + (6 + size_all c) ≡ 19 + size_all c = omega arith in rw (alone-kind (node 0x5C c) h, encode-size (node 0x5C c), e)

    type-fine : Canonical (node 0x2D c) → Fine (suc depth) charged again w (node 0x2D c)
    unfolding walk charge size wrap nth
    type-fine h =
        rw (type-growth h, paths-walked Op rep again (deeper again w) c i)
        (by-path (λ c. size (wrap Op rep w (node 0x2D c)) + due charged (19 + size_all c) ≤ 6 + size_all c + typed c) c i
        (λ b n e. rw (name-is 0x2D b n (rw e at h))
        (let s = synonyms-size n w (node 0x2D (MSel b n ▸ nil)) in
        one_of (λ r. size r + due charged (19 + size_all (MSel b n ▸ nil)) ≤ 6 + size_all (MSel b n ▸ nil) + (w * (18 + length n) + due charged
        (19 + size_all (MSel b n ▸ nil)))) (replaces Op rep n b) (omega arith) (omega arith)))
        (λ p e. rw e (omega arith)))

    -- what becomes of a path expression that holds c
    abbrev Kept : Records → Record → Type 0
    Kept c r = size r + due charged (19 + size_all c) ≤ 6 + size_all c + due charged (19 + size_all c)

    expr-fine : Canonical (node 0x5C c) → Fine (suc depth) charged again w (node 0x5C c)
    unfolding walk charge size ReplaceExprSingle nth
    expr-fine h =
        rw (expr-growth h, paths-walked Op rep again (deeper again w) c i)
        (by-path (λ c. Kept c (ReplaceExprSingle Op rep (node 0x5C c))) c i
        (λ b n e.
        let named : Kept (MSel b n ▸ nil) (Identifier n) = omega arith in
        one_of (Kept (MSel b n ▸ nil)) (replaces Op rep n b) named (one_of (Kept (MSel b n ▸ nil)) (marked n && replaces Op rep (unmarked n) b) named
        (omega arith)))
        (λ p e. rw e (omega arith)))

  -- given the law of what goes less deep
  module _ (depth : ℕ) (below : Below depth) where
    all-fine : (charged again : Bool) (w : ℕ) (c : Records) → PathsAll c → CanonicalAll c → deep_all c ≤ depth
        → size_all (walk_all Op rep again w c) + due charged (charge_all c) ≤ size_all c + Held depth charged again w c
    unfolding walk charge size sum encode_each Paths Canonical deep
    all-fine charged again w nil p h l = let d = due-none charged in omega arith
    all-fine charged again w (r ▸ c) p h l =
        let i = below charged again w r p.0 h.0 (omega arith) in
        let j = all-fine charged again w c p.1 h.1 (omega arith) in
        let d = due-sum charged (charge r) (charge_all c) in
        omega arith

    parts-fine : (charged again : Bool) (w : ℕ) (c : Records) → PathsAll c → CanonicalAll c → deep_all c ≤ depth
        → size_all (walk_all Op rep again w c) + due charged (charge_all c) ≤ size_all c + Parts depth charged again w c
    parts-fine charged again w c p h l = rw (parts_all c h) (all-fine charged again w c p h l)

    fn-fine : (charged : Bool) (c : Records) → PathsAll c → CanonicalAll c → deep_all c ≤ depth
        → size_all (walk_fn Op rep 0 c) + due charged (charge_all c)
        ≤ size_all c + (Parts depth charged false 1 (first 2 c) + Parts depth charged Op.walks_again 1 (skip 2 c))
    unfolding walk charge size first skip Paths Canonical deep
    fn-fine charged nil p h l = let d = due-none charged in omega arith
    fn-fine charged (q ▸ nil) p h l = let i = parts-fine charged false 1 (q ▸ nil) p h l in omega arith
    fn-fine charged (q ▸ r ▸ c) p h l =
        let i = parts-fine charged false 1 (q ▸ r ▸ nil) (p.0, (p.1.0, tt)) (h.0, (h.1.0, tt)) (omega arith) in
        let j = parts-fine charged Op.walks_again 1 c p.1.1 h.1.1 (omega arith) in
        let e : charge q + (charge r + charge_all c) ≡ charge_all (q ▸ r ▸ nil) + charge_all c = omega arith in
        let d = due-sum charged (charge_all (q ▸ r ▸ nil)) (charge_all c) in
        rw (counts Op rep 2 (omega arith) c, e) (omega arith)

    -- any other record, by the walk's step
    module _ (charged again : Bool) (w k : ℕ) (c : Records) (p : PathsAll c) (h : Canonical (node k c)) (l : deep_all c ≤ depth) where
      held-fine : (v : ℕ) → size_all (walk_all Op rep again v c) + due charged (charge_all c) ≤ size_all c + Held depth (charged || eqb k 0x62) again v c
      unfolding Canonical
      held-fine v =
          let i = all-fine (charged || eqb k 0x62) again v c p h.3 l in
          let d = due-more charged (eqb k 0x62) (charge_all c) in
          omega arith

      module _ (e : is_fixed k ≡ false) (f : eqb k 0x2D ≡ false) (g : eqb k 0x5C ≡ false) (i : eqb k 0x7D ≡ false) where
        other-fine : Fine (suc depth) charged again w (node k c)
        unfolding walk charge size
        other-fine =
            by-test (stands type k)
            (λ t. let j = held-fine (deeper again w) in
            rw (held-growth op depth charged again w k c e f g i h, t, f, g, wrap-other Op rep w k (walk_all Op rep again (deeper again w) c) f) (omega arith))
            (λ t. by-test (stands expr k)
            (λ u. let j = held-fine (deeper again w) in
            rw (held-growth op depth charged again w k c e f g i h, t, u, f, g, expr-other Op rep k (walk_all Op rep again (deeper again w) c) g) (omega arith))
            (λ u. by-test (is_leaf k || stands path k || stands (kinds 0x60 0x62) k || eqb k 0x6A || eqb k 0x80)
            (λ v. let d = due-none charged in rw (t, u, i, v, f, g) (omega arith))
            (λ v. let j = held-fine w in rw (held-growth op depth charged again w k c e f g i h, t, u, i, v, f, g) (omega arith))))

      fixed-fine : is_fixed k ≡ true → Fine (suc depth) charged again w (node k c)
      unfolding walk charge size
      fixed-fine e =
          let s = fixed-stays k e in
          let d = due-none charged in
          rw (s.0, s.1) (omega arith)

    fn-node : (charged again : Bool) (w : ℕ) (c : Records) → PathsAll c → Canonical (node 0x7D c) → deep_all c ≤ depth
        → Fine (suc depth) charged again w (node 0x7D c)
    unfolding walk charge size growth Canonical
    fn-node charged again w c p h l =
        let i = fn-fine charged c p h.3 l in
        rw (alone-kind (node 0x7D c) h, alone-content (node 0x7D c) h, uncounted-is c h.3, counted_is c h.3) (omega arith)

    node-fine : (charged again : Bool) (w k : ℕ) (c : Records) → (pathed k ≡ true → PathIn c) → PathsAll c → Canonical (node k c) → deep_all c ≤ depth
        → Fine (suc depth) charged again w (node k c)
    node-fine charged again w k c i p h l =
        by-test (is_fixed k) (fixed-fine charged again w k c p h l)
        (λ e. by-test (eqb k 0x2D)
        (λ f. let same = eqb-true k 0x2D f in rw same (type-fine depth charged again w c (i (rw f)) (rw same at h)))
        (λ f. by-test (eqb k 0x5C)
        (λ g. let same = eqb-true k 0x5C g in rw same (expr-fine depth charged again w c (i (rw (f, g))) (rw same at h)))
        (λ g. by-test (eqb k 0x7D)
        (λ j. let same = eqb-true k 0x7D j in rw same (fn-node charged again w c p (rw same at h) l))
        (other-fine charged again w k c p h l e f g))))

  -- THE LAW: what the walk makes of a record, with what its paths are charged, is no longer than the record and what its bytes say that it grows by
  pub walk-grows : (depth : ℕ) (charged again : Bool) (w : ℕ) (r : Record) → Paths r → Canonical r → deep r ≤ depth
      → size (walk Op rep again w r) + due charged (charge r) ≤ size r + growth op depth charged again w (encode r)
  unfolding Paths deep walk charge
  walk-grows zero charged again w (leaf k b) p h l = absurd (omega arith)
  walk-grows zero charged again w (node k c) p h l = absurd (omega arith)
  walk-grows (suc depth) charged again w (leaf k b) p h l = let d = due-none charged in omega arith
  walk-grows (suc depth) charged again w (node k c) p h l = node-fine depth (walk-grows depth) charged again w k c p.0 p.1 h (omega arith)
