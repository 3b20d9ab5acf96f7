-- What the walk makes of a record, with the uses that the paths in it may be charged, is at most so many times as large. Assumes nothing.
use mathlib.Core.Path.{◌≡◌, refl, sym, ap, subst, ◌∙◌}
use mathlib.Core.Bool.{Bool, true, false, ◌||◌, ◌&&◌, cond}
use Prim.Native.Nat.{ℕ, zero, suc, ◌+◌, ◌*◌, ◌≤◌, max}
use native.Mathlib.Nat.{zero-mul, suc-mul, mul-le-mul_right}
use native.Mathlib.Omega.{arith}
use lib.ListN.{length}
use lib.Dec.{eqb, leb}
use borrow.Author.Tests.{eqb-true}
use Rattle.records.specs.Record.{Record, Records, leaf, node, nil, ◌▸◌, deep, deep_all, nth, is}
use Rattle.rast.specs.Path.{Name, Path, MSel}
use Rattle.rast.specs.Operation.{Operation}
use Rattle.rast.proofs.Tests.{by-test, either, one_of}
use Rattle.factor_paths.specs.Mapping.{FinalReplacement}
use Rattle.factor_paths.specs.PathsVisitor.{marked, unmarked}
use Rattle.factor_paths.specs.Apply.{replaces, Identifier, ReplaceExprSingle}
use Rattle.factor_paths.specs.Walk.{Step, a_type, an_expr, a_fn, left, holds, step_of, deeper, synonyms, wrap, walk, walk_all, walk_fn}
use Rattle.factor_paths.proofs.Tidy.{PathIn, Paths, PathsAll}
use Rattle.factor_paths.proofs.Wraps.{paths-walked, wrap-other, expr-other}
use Rattle.size.specs.Bound.{times}
use Rattle.size.proofs.Sizes.{size, size_all, size-six}

-- a path type or a path expression
abbrev pub pathed : ℕ → Bool
pathed k = eqb k 0x2D || eqb k 0x5C

-- what the walk leaves is charged nothing
abbrev pub entered : Step → ℕ → ℕ
entered a_type n = n
entered an_expr n = n
entered a_fn n = n
entered left n = 0
entered holds n = n

-- the sizes of the uses, one for each path type and path expression: a use of a path is 19 bytes longer than the path
unfoldable mutual
  pub charge : Record → ℕ
  charge (leaf k b) = 0
  charge (node k c) = cond (pathed k) (19 + size_all c) (entered (step_of k) (charge_all c))

  pub charge_all : Records → ℕ
  charge_all nil = 0
  charge_all (r ▸ c) = charge r + charge_all c

-- a type and an expression count
abbrev pub counts : Step → Bool
counts a_type = true
counts an_expr = true
counts a_fn = false
counts left = false
counts holds = false

-- how often a type in a record of that step is wrapped
abbrev pub within : Step → Bool → ℕ → ℕ
within s a w = deeper (counts s && a) w

module _ (op : Operation) where
  -- how often a type that holds a path with a base is wrapped, at most
  abbrev pub most : ℕ
  most = cond op.walks_again 40 1

  -- once at least
  pub most-one : 1 ≤ most
  most-one = one_of (λ n. 1 ≤ n) op.walks_again (omega arith) (omega arith)

  -- what is left as it is becomes no larger than it may
  pub once : (s : ℕ) → s ≤ times op * s
  once s = one_of (λ t. s ≤ t * s) op.walks_again (omega arith) (omega arith)

  -- a path type that holds s bytes, wrapped as often as may be in synonyms of n bytes, and its use
  wrapped-most : (n s : ℕ) → n ≤ s → 1 ≤ s → most * n + (25 + 2 * s) ≤ times op * (6 + s)
  wrapped-most n s h l = either (λ m t. m * n + (25 + 2 * s) ≤ t * (6 + s)) op.walks_again (omega arith) (omega arith)

  -- a path type or a path expression that is left, and its use
  left-most : (p : Path) → 25 + 2 * size p ≤ times op * (6 + size p)
  left-most p = let s = size-six p in let t = wrapped-most 0 (size p) (omega arith) (omega arith) in omega arith

  -- how deep records may lie where a type in them is wrapped w times, and more often the deeper it lies if it counts: a replaced type holds a path and its base
  abbrev pub Space : Bool → ℕ → ℕ → Type 0
  Space true w d = w + d ≤ most + 3
  Space false w d = w ≤ most

  -- a record has space for what it holds
  abbrev pub Room : Bool → ℕ → Record → Type 0
  Room a w (leaf k b) = Unit {0}
  Room a w (node k c) = Space a (within (step_of k) a w) (deep_all c)

  -- a Fn's fields have space from 1 on
  unfoldable pub Starts : Records → Type 0
  Starts nil = Unit {0}
  Starts (r ▸ c) = Room op.walks_again 1 r × Starts c

  -- and so have those of every Fn in a record
  unfoldable mutual
    pub Fns : Record → Type 0
    Fns (leaf k b) = Unit {0}
    Fns (node k c) = (step_of k ≡ a_fn → Starts c) × FnsAll c

    pub FnsAll : Records → Type 0
    FnsAll nil = Unit {0}
    FnsAll (r ▸ c) = Fns r × FnsAll c

  space-first : (a : Bool) (w d e : ℕ) → Space a w (max d e) → Space a w d
  space-first true w d e h = omega arith
  space-first false w d e h = h

  space-rest : (a : Bool) (w d e : ℕ) → Space a w (max d e) → Space a w e
  space-rest true w d e h = omega arith
  space-rest false w d e h = h

  space-deeper : (t a : Bool) (w d : ℕ) → Space a w (suc d) → Space a (deeper (t && a) w) d
  space-deeper true true w d h = omega arith
  space-deeper true false w d h = h
  space-deeper false true w d h = omega arith
  space-deeper false false w d h = h

  -- where there is space for a record, it has space for what it holds
  pub space-room : (a : Bool) (w : ℕ) (r : Record) → Space a w (deep r) → Room a w r
  unfolding deep
  space-room a w (leaf k b) h = tt
  space-room a w (node k c) h = space-deeper (counts (step_of k)) a w (deep_all c) h

  uncounted : (t b a : Bool) (d : ℕ) → Space a (deeper (t && a) 1) d → Space (b && a) (deeper (t && (b && a)) 1) d
  uncounted t true a d h = h
  uncounted true false a d h = most-one
  uncounted false false a d h = most-one

  -- a Fn's field has space whether it counts or not
  room-either : (b : Bool) (r : Record) → Room op.walks_again 1 r → Room (b && op.walks_again) 1 r
  room-either b (leaf k c) h = tt
  room-either b (node k c) h = uncounted (counts (step_of k)) b op.walks_again (deep_all c) h

  wrapped : (a : Bool) (w : ℕ) (b : Path) (n : Name) → Space a (deeper a w) (deep_all (MSel b n ▸ nil)) → w ≤ most
  unfolding deep
  wrapped true w b n h = omega arith
  wrapped false w b n h = h

-- what holds of a path that selects a name, and of any other, holds of what a path type or a path expression holds
pub by-path : (P : Records → Type 0) (c : Records) → PathIn c → ((b : Path) (n : Name) → c ≡ MSel b n ▸ nil → P (MSel b n ▸ nil))
    → ((p : Path) → is 0x13 p ≡ false → P (p ▸ nil)) → P c
by-path P c i f g =
    by-test (is 0x13 i.held)
    (λ e. let same = i.only ∙ ap (λ p. p ▸ nil) (i.spelled e) in subst P (sym same) (f _ _ same))
    (λ e. subst P (sym i.only) (g i.held e))

-- each synonym is 18 bytes and its name
pub synonyms-size : (n : Name) (w : ℕ) (t : Record) → size (synonyms n w t) ≡ w * (18 + length n) + size t
unfolding synonyms size
synonyms-size n zero t = let m = zero-mul (18 + length n) in omega arith
synonyms-size n (suc w) t =
    let i = synonyms-size n w t in
    let m = suc-mul w (18 + length n) in
    omega arith

module _ (op : Operation) (rep : FinalReplacement) where
  -- what a path type or a path expression that holds c becomes, with what it is charged
  abbrev Bounded : Records → Record → Type 0
  Bounded c r = size r + (19 + size_all c) ≤ times op * (6 + size_all c)

  -- a path that selects a name, as a type and as an expression
  selected-type : (w : ℕ) (b : Path) (n : Name) → w ≤ most op → Bounded (MSel b n ▸ nil) (wrap op rep w (node 0x2D (MSel b n ▸ nil)))
  unfolding wrap size nth
  selected-type w b n h =
      let i = synonyms-size n w (node 0x2D (MSel b n ▸ nil)) in
      let m = mul-le-mul_right (18 + length n) h in
      let s = size-six b in
      let t = wrapped-most op (18 + length n) (size_all (MSel b n ▸ nil)) (omega arith) (omega arith) in
      one_of (Bounded (MSel b n ▸ nil)) (replaces op rep n b) (omega arith) (omega arith)

  selected-expr : (b : Path) (n : Name) → Bounded (MSel b n ▸ nil) (ReplaceExprSingle op rep (node 0x5C (MSel b n ▸ nil)))
  unfolding ReplaceExprSingle size nth
  selected-expr b n =
      let t = left-most op (MSel b n) in
      let named : Bounded (MSel b n ▸ nil) (Identifier n) = omega arith in
      one_of (Bounded (MSel b n ▸ nil)) (replaces op rep n b) named (one_of (Bounded (MSel b n ▸ nil)) (marked n && replaces op rep (unmarked n) b) named
      (omega arith))

  -- what the walk makes of a record, and what its paths are charged
  abbrev Fine : Bool → ℕ → Record → Type 0
  Fine a w r = size (walk op rep a w r) + charge r ≤ times op * size r

  abbrev FineAll : Records → Records → Type 0
  FineAll c d = size_all d + charge_all c ≤ times op * size_all c

  type-fine : (a : Bool) (w : ℕ) (c : Records) → PathIn c → Room op a w (node 0x2D c) → Fine a w (node 0x2D c)
  unfolding walk charge size wrap nth
  type-fine a w c i h =
      rw (paths-walked op rep a (deeper a w) c i)
      (by-path (λ c. Bounded c (wrap op rep w (node 0x2D c))) c i
      (λ b n e. selected-type w b n (wrapped op a w b n (rw e at h)))
      (λ p e. rw e (omega (arith, left-most op p))))

  expr-fine : (a : Bool) (w : ℕ) (c : Records) → PathIn c → Fine a w (node 0x5C c)
  unfolding walk charge size ReplaceExprSingle nth
  expr-fine a w c i =
      rw (paths-walked op rep a (deeper a w) c i)
      (by-path (λ c. Bounded c (ReplaceExprSingle op rep (node 0x5C c))) c i
      (λ b n e. selected-expr b n)
      (λ p e. rw e (omega (arith, left-most op p))))

  -- any record, by its kind and the walk's step, if it is so of what it holds
  module _ (a : Bool) (w k : ℕ) (c : Records) (all : (v : ℕ) → Space op a v (deep_all c) → FineAll c (walk_all op rep a v c))
      (fn : step_of k ≡ a_fn → FineAll c (walk_fn op rep 0 c)) (h : Room op a w (node k c)) where
    other-fine : (s : Step) → step_of k ≡ s → eqb k 0x2D ≡ false → eqb k 0x5C ≡ false → Fine a w (node k c)
    unfolding walk charge size
    other-fine a_type e f g =
        let i = all (deeper a w) (rw e at h) in
        rw (e, f, g, wrap-other op rep w k (walk_all op rep a (deeper a w) c) f) (omega (arith, once op 6))
    other-fine an_expr e f g =
        let i = all (deeper a w) (rw e at h) in
        rw (e, f, g, expr-other op rep k (walk_all op rep a (deeper a w) c) g) (omega (arith, once op 6))
    other-fine a_fn e f g = let i = fn e in rw (e, f, g) (omega (arith, once op 6))
    other-fine left e f g = rw (e, f, g) (omega (arith, once op (6 + size_all c)))
    other-fine holds e f g = let i = all w (rw e at h) in rw (e, f, g) (omega (arith, once op 6))

    node-fine : (pathed k ≡ true → PathIn c) → Fine a w (node k c)
    node-fine i =
        by-test (eqb k 0x2D)
        (λ e. let same = eqb-true k 0x2D e in rw same (type-fine a w c (i (rw e)) (rw same at h)))
        (λ f. by-test (eqb k 0x5C)
        (λ e. rw (eqb-true k 0x5C e) (expr-fine a w c (i (rw (f, e)))))
        (λ g. other-fine (step_of k) refl f g))

  mutual
    unfolding Paths Fns Starts walk charge size deep

    -- what the walk makes of a record whose types have room, with what its paths are charged, is at most so many times as large
    pub walk-size : (r : Record) (a : Bool) (w : ℕ) → Paths r → Fns op r → Room op a w r → size (walk op rep a w r) + charge r ≤ times op * size r
    walk-size (leaf k b) a w p f h = omega (arith, once op (6 + length b))
    walk-size (node k c) a w p f h = node-fine a w k c (λ v h. walk_all-size c a v p.1 f.1 h) (λ e. walk_fn-size c 0 p.1 f.1 (f.0 e)) h p.0

    walk_all-size : (c : Records) (a : Bool) (w : ℕ) → PathsAll c → FnsAll op c → Space op a w (deep_all c)
        → size_all (walk_all op rep a w c) + charge_all c ≤ times op * size_all c
    walk_all-size nil a w p f h = omega arith
    walk_all-size (r ▸ c) a w p f h =
        let i = walk-size r a w p.0 f.0 (space-room op a w r (space-first op a w (deep r) (deep_all c) h)) in
        let j = walk_all-size c a w p.1 f.1 (space-rest op a w (deep r) (deep_all c) h) in
        omega arith

    walk_fn-size : (c : Records) (i : ℕ) → PathsAll c → FnsAll op c → Starts op c → size_all (walk_fn op rep i c) + charge_all c ≤ times op * size_all c
    walk_fn-size nil i p f h = omega arith
    walk_fn-size (r ▸ c) i p f h =
        let j = walk-size r (leb 2 i && op.walks_again) 1 p.0 f.0 (room-either op (leb 2 i) r h.0) in
        let l = walk_fn-size c (suc i) p.1 f.1 h.1 in
        omega arith
