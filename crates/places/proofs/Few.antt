-- HOW MANY ENTRIES A LIST CAN HAVE, by the card alone: at most one for every twelve bytes. A path type or a path expression that is shortened has at
-- least 24; it brings one entry, and what it is charged pays for the entries of its module's uses, of which each has at least 37 bytes. Assumes nothing.
use Rattle.std.specs.Prelude.{Ok}
use mathlib.Core.Path.{◌≡◌, refl, sym, ap, subst, ◌∙◌}
use mathlib.Core.Bool.{Bool, true, false, ◌&&◌, and-false}
use mathlib.Core.List.{List, [], ◌∷◌}
use Prim.Native.Nat.{ℕ, zero, suc, ◌+◌, ◌*◌, ◌≤◌}
use native.Mathlib.Omega.{arith}
use lib.ListN.{length, length-append}
use lib.Dec.{eqb, leb}
use borrow.Author.Tests.{eqb-true, lt-ltb, le-ltb}
use Rattle.wire.specs.Numbers.{Bytes, AreBytes}
use Rattle.records.specs.Record.{Record, Records, leaf, node, nil, ◌▸◌, ◌▸▸◌, children, encode, count, map_all, set_nth, nth, deep, is, tree}
use Rattle.records.specs.Kinds.{kinds, mod', these, any, row_of, content_at}
use Rattle.records.specs.Reading.{reading}
use Rattle.records.proofs.Fits.{Fits, FitsAll}
use Rattle.records.proofs.Run.{◌⨾◌}
use Rattle.records.proofs.Leaves.{node_at, these-no-bytes}
use Rattle.records.proofs.ByRow.{by_row, by_kind, by-seq}
use Rattle.records.proofs.Sound.{sound-reads}
use Rattle.rast.specs.Path.{Name, Path, MSel}
use Rattle.rast.specs.Operation.{Operation, nested, shortening}
use Rattle.rast.specs.Mod.{name_of}
use Rattle.rast.proofs.Tests.{by-test, by-option, one_of}
use Rattle.factor_paths.specs.Mapping.{FinalReplacement, get, equal, ToUseStatements}
use Rattle.factor_paths.specs.PathsVisitor.{marked, unmarked}
use Rattle.factor_paths.specs.Apply.{replaces, Identifier, ReplaceExprSingle, mappings, paths_to_remove, imports, apply_prefix, apply}
use Rattle.factor_paths.specs.Walk.{Step, a_type, an_expr, a_fn, left, holds, step_of, deeper, synonyms, wrap, walk, walk_all, walk_fn, walk_decl}
use Rattle.factor_paths.proofs.Tidy.{PathIn, Paths, PathsAll, fits-paths}
use Rattle.factor_paths.proofs.Wraps.{paths-walked, wrap-other, expr-other}
use Rattle.factor_paths.proofs.Modules.{ModFields, mod-fields, module-walk, extern-walk}
use Rattle.size.proofs.Sizes.{size, size_all, size-six, encode-size}
use Rattle.size.proofs.Walked.{pathed, charge, charge_all, by-path}
use Rattle.size.proofs.Mapped.{imports-size}
use Rattle.points.specs.Points.{meeting}
use Rattle.points.proofs.Modules.{count-append, count_map}
use Rattle.places.specs.Places.{Entry, listed, places_of, places_in}

-- a kind beside itself is no shortened name
apart : (a b : ℕ) → eqb a b ≡ false → (k : ℕ) → (eqb k a && eqb k b) ≡ false
apart a b h k = by-test (eqb k a) (λ e. rw (eqb-true k a e, h) (and-false (eqb a a))) (λ e. rw e)

listed-self : (k at : ℕ) (es : List Entry) → listed (meeting k k) at es ≡ es
listed-self k at es =
    rw (apart 0x2D 0x37 refl k, apart 0x5C 0x42 refl k) (one_of (λ m. listed m at es ≡ es) (eqb k 0x60) refl refl)

-- a record beside itself has no changed point
mutual
  unfolding places_of

  unchanged : (at : ℕ) (r : Record) → places_of at r r ≡ []
  unchanged at (leaf k b) = refl
  unchanged at (node k c) = listed-self k at (places_in (at + 6) c c) ∙ unchanged_all (at + 6) c

  unchanged_all : (at : ℕ) (c : Records) → places_in at c c ≡ []
  unchanged_all at nil = refl
  unchanged_all at (r ▸ c) =
      let next = at + length (encode r) in
      rw (le-ltb (count c) (count c) (omega arith), unchanged at r, unchanged_all next c)

abbrev entries : ℕ → (this that : Record) → ℕ
entries at this that = length (places_of at this that)

abbrev entries_in : ℕ → (these those : Records) → ℕ
entries_in at c d = length (places_in at c d)

-- a record with other children of the same kind
same_kind : (at k : ℕ) (c d : Records) → entries at (node k c) (node k d) ≡ entries_in (at + 6) c d
unfolding places_of
same_kind at k c d = ap length (listed-self k at (places_in (at + 6) c d))

-- a record and those after it, beside as many
one_more : (at : ℕ) (r s : Record) (c d : Records) → count c ≡ count d
    → entries_in at (r ▸ c) (s ▸ d) ≡ entries at r s + entries_in (at + length (encode s)) c d
unfolding places_of
one_more at r s c d e =
    rw (le-ltb (count c) (count d) (omega arith)) (length-append (places_of at r s) (places_in (at + length (encode s)) c d))

-- records put ahead of as many as there are
put-ahead : (at : ℕ) (u c d : Records) → count c ≡ count d → (to : ℕ) × (entries_in at c (u ▸▸ d) ≡ count u + entries_in to c d)
unfolding places_of count ◌▸▸◌
put-ahead at nil c d e = (at, omega arith)
put-ahead at (s ▸ u) nil d e = let i = put-ahead (at + length (encode s)) u nil d e in (i.0, omega (arith, i.1))
put-ahead at (s ▸ u) (r ▸ c) d e =
    let i = put-ahead (at + length (encode s)) u (r ▸ c) d e in
    let n = count-append u d in
    (i.0, rw (lt-ltb (count c) (count (u ▸▸ d)) (omega arith)) (omega (arith, i.1)))

-- what a path type that is wrapped becomes
wrapped-one : (at w : ℕ) (n : Name) (c : Records) → entries at (node 0x2D c) (synonyms n w (node 0x2D c)) ≤ 1
unfolding places_of synonyms
wrapped-one at zero n c = let e = ap length (unchanged at (node 0x2D c)) in omega arith
wrapped-one at (suc w) n c = omega arith

-- twelve bytes for each entry, all of it times 37: so much of what is charged pays for a use's entry
abbrev Enough : ℕ → ℕ → ℕ → Type 0
Enough entries charged bytes = 444 * entries + 12 * charged ≤ 37 * bytes

module _ (op : Operation) (rep : FinalReplacement) where
  abbrev Fine : Bool → ℕ → Record → Type 0
  Fine a w r = (at : ℕ) → Enough (entries at r (walk op rep a w r)) (charge r) (size r)

  abbrev FineAll : Records → Records → Type 0
  FineAll c d = (at : ℕ) → Enough (entries_in at c d) (charge_all c) (size_all c)

  -- a path type or a path expression that holds c, and what it becomes
  abbrev Becomes : ℕ → ℕ → Records → Record → Type 0
  Becomes at k c r = Enough (entries at (node k c) r) (19 + size_all c) (6 + size_all c)

  kept : (at k : ℕ) (p : Path) → Becomes at k (p ▸ nil) (node k (p ▸ nil))
  unfolding size
  kept at k p = let s = size-six p in rw (unchanged at (node k (p ▸ nil))) (omega arith)

  type-fine : (a : Bool) (w : ℕ) (c : Records) → PathIn c → Fine a w (node 0x2D c)
  unfolding walk charge size wrap nth
  type-fine a w c i at =
      rw (paths-walked op rep a (deeper a w) c i)
      (by-path (λ c. Becomes at 0x2D c (wrap op rep w (node 0x2D c))) c i
      (λ b n e. let s = size-six b in
      let t = wrapped-one at w n (MSel b n ▸ nil) in
      one_of (Becomes at 0x2D (MSel b n ▸ nil)) (replaces op rep n b) (omega arith) (kept at 0x2D (MSel b n)))
      (λ p e. rw e (kept at 0x2D p)))

  expr-fine : (a : Bool) (w : ℕ) (c : Records) → PathIn c → Fine a w (node 0x5C c)
  unfolding walk charge size ReplaceExprSingle nth places_of
  expr-fine a w c i at =
      rw (paths-walked op rep a (deeper a w) c i)
      (by-path (λ c. Becomes at 0x5C c (ReplaceExprSingle op rep (node 0x5C c))) c i
      (λ b n e. let s = size-six b in
      let named : Becomes at 0x5C (MSel b n ▸ nil) (Identifier n) = omega arith in
      one_of (Becomes at 0x5C (MSel b n ▸ nil)) (replaces op rep n b) named
      (one_of (Becomes at 0x5C (MSel b n ▸ nil)) (marked n && replaces op rep (unmarked n) b) named (kept at 0x5C (MSel b n))))
      (λ p e. rw e (kept at 0x5C p)))

  -- any record, by its kind and the walk's step, if it is so of what it holds
  module _ (a : Bool) (w k : ℕ) (c : Records) (all : (v : ℕ) → FineAll c (walk_all op rep a v c)) (fn : FineAll c (walk_fn op rep 0 c)) where
    other-fine : (s : Step) → step_of k ≡ s → eqb k 0x2D ≡ false → eqb k 0x5C ≡ false → Fine a w (node k c)
    unfolding walk charge size
    other-fine a_type e f g at =
        let i = all (deeper a w) (at + 6) in
        rw (e, f, g, wrap-other op rep w k (walk_all op rep a (deeper a w) c) f, same_kind at k c (walk_all op rep a (deeper a w) c)) (omega arith)
    other-fine an_expr e f g at =
        let i = all (deeper a w) (at + 6) in
        rw (e, f, g, expr-other op rep k (walk_all op rep a (deeper a w) c) g, same_kind at k c (walk_all op rep a (deeper a w) c)) (omega arith)
    other-fine a_fn e f g at = let i = fn (at + 6) in rw (e, f, g, same_kind at k c (walk_fn op rep 0 c)) (omega arith)
    other-fine left e f g at = rw (e, f, g, unchanged at (node k c)) (omega arith)
    other-fine holds e f g at = let i = all w (at + 6) in rw (e, f, g, same_kind at k c (walk_all op rep a w c)) (omega arith)

    node-fine : (pathed k ≡ true → PathIn c) → Fine a w (node k c)
    node-fine i =
        by-test (eqb k 0x2D)
        (λ e. rw (eqb-true k 0x2D e) (type-fine a w c (i (rw e))))
        (λ f. by-test (eqb k 0x5C)
        (λ e. rw (eqb-true k 0x5C e) (expr-fine a w c (i (rw (f, e)))))
        (λ g. other-fine (step_of k) refl f g))

  walk_all-count : (a : Bool) (w : ℕ) (c : Records) → count c ≡ count (walk_all op rep a w c)
  unfolding walk count
  walk_all-count a w nil = refl
  walk_all-count a w (r ▸ c) = ap suc (walk_all-count a w c)

  walk_fn-count : (i : ℕ) (c : Records) → count c ≡ count (walk_fn op rep i c)
  unfolding walk count
  walk_fn-count i nil = refl
  walk_fn-count i (r ▸ c) = ap suc (walk_fn-count (suc i) c)

  mutual
    unfolding Paths walk charge size

    -- what the walk makes of a record
    walk-few : (r : Record) (a : Bool) (w : ℕ) → Paths r → Fine a w r
    walk-few (leaf k b) a w p at = rw (unchanged at (leaf k b)) (omega arith)
    walk-few (node k c) a w p at = node-fine a w k c (λ v at. walk_all-few c a v p.1 at) (λ at. walk_fn-few c 0 p.1 at) p.0 at

    walk_all-few : (c : Records) (a : Bool) (w : ℕ) → PathsAll c → FineAll c (walk_all op rep a w c)
    walk_all-few nil a w p at = rw (unchanged_all at nil) (omega arith)
    walk_all-few (r ▸ c) a w p at =
        let s = walk op rep a w r in
        let i = walk-few r a w p.0 at in
        let j = walk_all-few c a w p.1 (at + length (encode s)) in
        rw (one_more at r s c (walk_all op rep a w c) (walk_all-count a w c)) (omega arith)

    walk_fn-few : (c : Records) (n : ℕ) → PathsAll c → FineAll c (walk_fn op rep n c)
    walk_fn-few nil n p at = rw (unchanged_all at nil) (omega arith)
    walk_fn-few (r ▸ c) n p at =
        let again = leb 2 n && op.walks_again in
        let s = walk op rep again 1 r in
        let i = walk-few r again 1 p.0 at in
        let j = walk_fn-few c (suc n) p.1 (at + length (encode s)) in
        rw (one_more at r s c (walk_fn op rep (suc n) c) (walk_fn-count (suc n) c)) (omega arith)

-- a use has at least 37 bytes
uses-long : (op : Operation) (keys : List Name) (rep : FinalReplacement) (S : Path)
    → 37 * count (ToUseStatements op keys rep S) ≤ size_all (ToUseStatements op keys rep S)
unfolding ToUseStatements count size
uses-long op [] rep S = omega arith
uses-long op (key ∷ keys) rep S =
    let i = uses-long op keys rep S in
    by-option (get op key rep) (λ e. rw e i)
    (λ base e. let s = size-six base in rw e (by-test (equal op base S) (λ t. rw t i) (λ t. rw t (omega arith))))

-- a module, all of whose fields but its body stay
mod-entries : (at : ℕ) (d a n : Record) (c e : Records)
    → (to : ℕ) × (entries at (node 0x60 (d ▸ a ▸ n ▸ node 0x02 c ▸ nil)) (node 0x60 (d ▸ a ▸ n ▸ node 0x02 e ▸ nil)) ≡ entries_in to c e)
unfolding count
mod-entries at d a n c e =
    let second = at + 6 + length (encode d) in
    let third = second + length (encode a) in
    let fourth = third + length (encode n) in (
      fourth + 6,
      rw (
        same_kind at 0x60 (d ▸ a ▸ n ▸ node 0x02 c ▸ nil) (d ▸ a ▸ n ▸ node 0x02 e ▸ nil),
        one_more (at + 6) d d (a ▸ n ▸ node 0x02 c ▸ nil) (a ▸ n ▸ node 0x02 e ▸ nil) refl,
        one_more second a a (n ▸ node 0x02 c ▸ nil) (n ▸ node 0x02 e ▸ nil) refl,
        one_more third n n (node 0x02 c ▸ nil) (node 0x02 e ▸ nil) refl,
        one_more fourth (node 0x02 c) (node 0x02 e) nil nil refl,
        same_kind fourth 0x02 c e,
        unchanged (at + 6) d,
        unchanged second a,
        unchanged third n,
        unchanged_all (fourth + length (encode (node 0x02 e))) nil,
      )
          (omega arith),
    )

module _ (again : Bool) where
  abbrev O : Operation
  O = shortening again

  -- what f makes of a module, its uses and all
  abbrev Few : (Record → Path → Record) → Type 0
  Few f = (m : Record) (S : Path) → Fits m mod' → (at : ℕ) → 444 * entries at m (f m S) ≤ 37 * size m

  module _ (rep : FinalReplacement) (f : Record → Path → Record) (few : Few f) (S : Path) where
    -- what becomes of a declaration
    abbrev Decl : Record → Type 0
    Decl d = (at : ℕ) → Enough (entries at d (walk_decl O rep f S d)) (charge d) (size d)

    nested-fine : (m : Record) → Fits m mod' → Decl (node 0x62 (m ▸ nil))
    unfolding walk_decl set_nth size charge
    nested-fine m h at =
        let made = f m (nested O S (name_of m)) in
        let i = few m (nested O S (name_of m)) h (at + 6) in
        rw (same_kind at 0x62 (m ▸ nil) (made ▸ nil), one_more (at + 6) m made nil nil refl, unchanged_all (at + 6 + length (encode made)) nil) (omega arith)

    decl-fine : (d : Record) → Fits d (kinds 0x62 0x6A) → Decl d
    unfolding walk_decl content_at row_of
    decl-fine d h =
        by-test (is 0x62 d)
        (λ e. let n = node_at d (kinds 0x62 0x6A) 0x62 (these (mod' ∷ [])) e refl (these-no-bytes (mod' ∷ [])) h in
        subst Decl (sym n.is-node) (by_row (mod' ∷ []) (λ c. Decl (node 0x62 c)) nested-fine (children d) n.fits))
        (λ e at. rw e (walk-few O rep d false 1 (fits-paths d (kinds 0x62 0x6A) h) at))

    decls-fine : (c : Records) → FitsAll c (any (kinds 0x62 0x6A)) → (at : ℕ)
        → Enough (entries_in at c (map_all (walk_decl O rep f S) c)) (charge_all c) (size_all c)
    unfolding map_all size charge
    decls-fine =
        by-seq Decl (λ c. (at : ℕ) → Enough (entries_in at c (map_all (walk_decl O rep f S) c)) (charge_all c) (size_all c)) (kinds 0x62 0x6A) decl-fine
        (λ at. rw (unchanged_all at nil) (omega arith))
        (λ d c h hs at. let made = walk_decl O rep f S d in
        let i = h at in
        let j = hs (at + length (encode made)) in
        rw (one_more at d made c (map_all (walk_decl O rep f S) c) (sym (count_map (walk_decl O rep f S) c))) (omega arith))

  -- a Mod: what its paths are charged pays for its uses
  mod-few : (n : ℕ) → Few (apply_prefix O n) → (m : Record) (S : Path) (h : ModFields m) (at : ℕ)
      → 444 * entries at m (apply_prefix O (suc n) m S) ≤ 37 * size m
  unfolding size imports
  mod-few n few m S h at =
      let rep = paths_to_remove O m S in
      let made = map_all (walk_decl O rep (apply_prefix O n) S) h.body in
      let l = mod-entries at h.doc h.attributes h.named h.body (imports O m S ▸▸ made) in
      let p = put-ahead l.0 (imports O m S) h.body made (sym (count_map (walk_decl O rep (apply_prefix O n) S) h.body)) in
      let i = decls-fine rep (apply_prefix O n) few S h.body h.body-fits p.0 in
      let u = imports-size again m h S in
      let w : 37 * count (imports O m S) ≤ size_all (imports O m S) = uses-long O (mappings O m S).keys rep S in
      let z = ap size h.is-mod in
      let whole = node 0x60 (h.doc ▸ h.attributes ▸ h.named ▸ node 0x02 (imports O m S ▸▸ made) ▸ nil) in
      let q : entries at m (apply_prefix O (suc n) m S) ≡ count (imports O m S) + entries_in p.0 h.body made =
      ap (λ (r : Record). entries at m r) (module-walk O n S m h) ∙ ap (λ (r : Record). entries at r whole) h.is-mod ∙ l.1 ∙ p.1 in
      omega arith

  modules-few : (n : ℕ) → Few (apply_prefix O n)
  modules-few zero m S h at = unfold apply_prefix in rw (unchanged at m) (omega arith)
  modules-few (suc n) m S h at =
      by_kind 0x60 1 m
      ((λ f. mod-few n (modules-few n) m S (mod-fields m f) at)
      ⨾ (λ f. rw (extern-walk O (suc n) S m f, unchanged at m) (omega arith))) h

  -- THE LAW, of a card's bytes that read sound, whatever the root
  pub card-few : (root : Path) (card : Bytes) → AreBytes card → reading O.card_depth O.outermost card ≡ Ok tt
      → 12 * length (places_of 0 (tree card) (apply O root (tree card))) ≤ length card
  unfolding apply
  card-few root card b e =
      let r = sound-reads O.card_depth O.outermost card b e in
      let m = tree card in
      let i = modules-few (deep m) m (MSel root (name_of m)) r.fits 0 in
      let s : length card ≡ size m = ap length (sym r.encoded) ∙ encode-size m in
      omega arith
