-- THE WALK: over the bytes of a record that fits, what is written is the one walk of factor_paths, by a table that means a module's mapping, with the weights
-- of its changed points. Assumes nothing.
use mathlib.Core.Path.{◌≡◌, refl, ap, ap₂, sym, subst, ◌∙◌}
use mathlib.Core.Bool.{Bool, true, false, ◌&&◌, ◌||◌, cond}
use mathlib.Core.List.{List, [], ◌++◌, append_assoc, append-nil}
use Prim.Native.Nat.{ℕ, zero, suc, ◌+◌, ◌-◌, ◌≤◌}
use native.Mathlib.Omega.{arith}
use lib.ListN.{length, take, length-append}
use lib.Seq.{take_at}
use lib.Dec.{eqb}
use borrow.Author.Tests.{ne_eqb, eqb-true, le-leb}
use Rattle.wire.specs.Numbers.{Bytes, num}
use Rattle.records.specs.Record.{Record, Records, leaf, node, nil, ◌▸◌, record_bytes, encode, encode_all, kind_of, content_of, rest_of, first_record, kind, text}
use Rattle.records.specs.Record.{is_leaf, nth, field, is, count, skip, first, deep, deep_all}
use Rattle.records.specs.Kinds.{Place}
use Rattle.records.specs.Canonical.{Canonical, CanonicalAll}
use Rattle.records.proofs.Fits.{Fits}
use Rattle.records.proofs.Front.{inside, encode-kind, encode-content, encode-rest}
use Rattle.rast.specs.Path.{Name, Path, MSel, whether}
use Rattle.rast.specs.Operation.{Operation}
use Rattle.rast.proofs.Tests.{by-test}
use Rattle.factor_paths.specs.Mapping.{Mapping, FinalReplacement, ToFinalReplacement}
use Rattle.factor_paths.specs.PathsVisitor.{marked, unmarked}
use Rattle.factor_paths.specs.Apply.{Identifier, replaces as replaces_path, ReplaceExprSingle}
use Rattle.factor_paths.specs.Walk.{Step, a_type, an_expr, a_fn, left, holds, step_of, deeper, synonyms, wrap, stepped as stepped_record, walk, walk_all, walk_fn}
use Rattle.factor_paths.proofs.Mappings.{Good}
use Rattle.factor_paths.proofs.Tidy.{by-either, at_literal, PathIn, Paths, PathsAll, fits-paths}
use Rattle.factor_paths.proofs.Wraps.{deeper-suc, or_left, or_right, paths-walked, wrap-other, expr-other}
use Rattle.operation.specs.Operations.{operation_of, same_paths, weight_bytes}
use Rattle.places.proofs.Weighed.{weighed, weighed_all, weighed-node, weighed-beside, weighed-self}
use Rattle.prefix.specs.Prefix.{Scope, prefix_in}
use Rattle.comparing.specs.Compares.{number_of, place_in, base_at}
use Rattle.chains.specs.Chains.{room, word_at}
use Rattle.adding.specs.Adds.{Table}
use Rattle.adding.proofs.Stores.{has-fits}
use Rattle.choosing.specs.Chooses.{chosen_pair}
use Rattle.choosing.specs.Picks.{numbered}
use Rattle.choosing.proofs.Says.{chosen-has, base-has}
use Rattle.gathering.specs.Tabled.{Tabled}
use Rattle.gathering.proofs.Parts.{encode-first}
use Rattle.gathering.proofs.Chosen.{replaces-chosen}
use Rattle.rewriting.specs.Replaces.{name_in, base_in, replaces, replaces_type, replaces_expr}
use Rattle.rewriting.specs.Shorts.{synonym_bytes, identifier_bytes, type_bytes, expr_bytes}
use Rattle.rewriting.specs.Rewrites.{parts_of, each, counted, uncounted, stepped, rewrite}
use Rattle.rewriting.proofs.Parts.{parts-end, encode_each, parts_all}

-- a record's bytes alone
pub alone-kind : (r : Record) → Canonical r → kind_of (encode r) ≡ kind r
alone-kind r h = ap kind_of (sym (append-nil (encode r))) ∙ encode-kind r [] h

pub alone-content : (r : Record) → Canonical r → content_of (encode r) ≡ inside r
alone-content r h = ap content_of (sym (append-nil (encode r))) ∙ encode-content r [] h

-- the path that a record of kind k holds
module _ (k : ℕ) (p : Path) (h : Canonical (node k (p ▸ nil))) where
  path-kind : kind_of (content_of (encode (node k (p ▸ nil)))) ≡ kind p
  unfolding encode_all Canonical
  path-kind = ap kind_of (alone-content (node k (p ▸ nil)) h) ∙ encode-kind p [] h.3.0

  path-content : content_of (content_of (encode (node k (p ▸ nil)))) ≡ inside p
  unfolding encode_all Canonical
  path-content = ap content_of (alone-content (node k (p ▸ nil)) h) ∙ encode-content p [] h.3.0

-- and its base and its name, where it selects one
module _ (k : ℕ) (b : Path) (n : Name) (h : Canonical (node k (MSel b n ▸ nil))) where
  base-canonical : Canonical b
  unfolding Canonical
  base-canonical = h.3.0.3.0

  base-is : base_in (encode (node k (MSel b n ▸ nil))) ≡ encode b
  unfolding encode_all
  base-is = ap first_record (path-content k (MSel b n) h) ∙ encode-first b (encode_all (leaf 0x01 n ▸ nil)) base-canonical

  pub name-is : name_in (encode (node k (MSel b n ▸ nil))) ≡ n
  unfolding encode_all Canonical
  name-is =
      ap (λ (x : Bytes). content_of (rest_of x)) (path-content k (MSel b n) h)
      ∙ ap content_of (encode-rest b (encode_all (leaf 0x01 n ▸ nil)) base-canonical)
      ∙ encode-content (leaf 0x01 n) [] h.3.0.3.1.0

-- short names as bytes
synonyms-bytes : (n : Name) (w : ℕ) (t : Record) → synonym_bytes n w (encode t) ≡ encode (synonyms n w t)
unfolding synonym_bytes synonyms encode
synonyms-bytes n zero t = refl
synonyms-bytes n (suc w) t = simp (append-nil, synonyms-bytes n w t)

identifier-bytes : (n : Name) → identifier_bytes n ≡ encode (Identifier n)
unfolding identifier_bytes encode
identifier-bytes n = rw append-nil

-- a record that becomes another of a short name's kind, or is left
module _ (z : Bytes) (this that : Record) (short : weighed z this that ≡ encode that ++ z) where
  weigh-if : (b : Bool) → cond b (encode that ++ z) (encode this) ≡ weighed z this (cond b that this)
  weigh-if true = sym short
  weigh-if false = sym (weighed-self z this)

  weigh-either : (a b : Bool) → cond (a || b) (encode that ++ z) (encode this) ≡ weighed z this (cond a that (cond b that this))
  weigh-either true b = sym short
  weigh-either false b = weigh-if b

short-type : (z : Bytes) (k w : ℕ) (c : Records) (n : Name) → eqb k 0x2D ≡ true
    → weighed z (node k c) (synonyms n (suc w) (node k c)) ≡ encode (synonyms n (suc w) (node k c)) ++ z
unfolding weighed synonyms
short-type z k w c n e = rw e

short-expr : (z : Bytes) (k : ℕ) (c : Records) (n : Name) → eqb k 0x5C ≡ true → weighed z (node k c) (Identifier n) ≡ encode (Identifier n) ++ z
unfolding weighed
short-expr z k c n e = rw (eqb-true k 0x5C e)

-- a Text and a Kept are left
leaf-step : (k : ℕ) → is_leaf k ≡ true → step_of k ≡ left
leaf-step k e =
    by-either (eqb k 0x01) (eqb k 0x03) e (at_literal (λ k. step_of k ≡ left) 0x01 refl k) (at_literal (λ k. step_of k ≡ left) 0x03 refl k)

-- a Fn's records from the third on, and those ahead
rest-is : (c : Records) → CanonicalAll c → rest_of (encode_all c) ≡ encode_all (skip 1 c)
unfolding encode_all skip Canonical num
rest-is nil h = refl
rest-is (r ▸ c) h = encode-rest r (encode_all c) h.0

pub counted_is : (c : Records) → CanonicalAll c → counted (encode_all c) ≡ encode_all (skip 2 c)
unfolding skip Canonical
counted_is nil h = ap rest_of (rest-is nil h) ∙ rest-is nil h
counted_is (r ▸ c) h = ap rest_of (rest-is (r ▸ c) h) ∙ rest-is c h.1

split_at : (i : ℕ) (c : Records) → encode_all c ≡ encode_all (first i c) ++ encode_all (skip i c)
unfolding encode_all first skip
split_at zero c = refl
split_at (suc i) nil = refl
split_at (suc i) (r ▸ c) = ap (λ (x : Bytes). encode r ++ x) (split_at i c) ∙ sym (append_assoc (encode r) (encode_all (first i c)) (encode_all (skip i c)))

pub uncounted-is : (c : Records) → CanonicalAll c → uncounted (encode_all c) ≡ encode_all (first 2 c)
uncounted-is c h =
    let a = encode_all (first 2 c) in
    let b = encode_all (skip 2 c) in
    let e : length (encode_all c) ≡ length a + length b = ap length (split_at 2 c) ∙ length-append a b in
    rw (counted_is c h)
    (ap (take (length (encode_all c) - length b)) (split_at 2 c) ∙ take_at a b (length (encode_all c) - length b) (omega arith))

-- a Fn's fields from the third on count
pub counts : (op : Operation) (rep : FinalReplacement) (i : ℕ) → 2 ≤ i → (c : Records) → walk_fn op rep i c ≡ walk_all op rep op.walks_again 1 c
unfolding walk
counts op rep i l nil = refl
counts op rep i l (r ▸ c) = rw (le-leb 2 i l, counts op rep (suc i) (omega arith) c)

-- the walk keeps how many there are
walked-count : (op : Operation) (rep : FinalReplacement) (again : Bool) (w : ℕ) (c : Records) → count c ≡ count (walk_all op rep again w c)
unfolding walk count
walked-count op rep again w nil = refl
walked-count op rep again w (r ▸ c) = ap suc (walked-count op rep again w c)

module _ (s : Scope) (t : Table) (m : Mapping) (tabled : Tabled s t m) (good : Good (operation_of s.op) m) (room_for : t.count ≤ room t.words)
    (S : Path) (canonical : Canonical S) (prefix-is : prefix_in s ≡ encode S) where
  abbrev Op : Operation
  Op = operation_of s.op

  abbrev Final : FinalReplacement
  Final = ToFinalReplacement Op m.provenance S

  abbrev words : List ℕ
  words = t.words

  abbrev Z : Bytes
  Z = weight_bytes s.op

  -- a name is replaced by the table's words where it is by the text
  pub replaces-is : (name : Name) (b : Path) → Canonical b → replaces s t.words name (encode b) ≡ replaces_path Op Final name b
  unfolding replaces
  replaces-is name b c =
      go (chosen_pair s words name (number_of s.op name)) (chosen-has s t tabled.pairs tabled.has fits name).inside
      ∙ sym (replaces-chosen s t m tabled good room_for S canonical prefix-is name b c)
    where
      fits : length tabled.pairs ≤ room t.words
      fits = has-fits tabled.has room_for

      go : (g : ℕ) → g ≤ t.count → cond (eqb g 0) false (same_paths s.op (base_at s (place_in (word_at words (g - 1)))) (encode b))
          ≡ whether (numbered tabled.pairs g) false (λ x. same_paths s.op x (encode b))
      go zero l = refl
      go (suc i) l =
          let e : suc i - 1 ≡ i = omega arith in
          rw (ne_eqb (suc i) 0 (λ z. omega arith), e, base-has s t tabled.pairs tabled.has fits i (omega arith))

  -- a path type and a path expression
  abbrev TypeWalked : (w k : ℕ) → Path → Type 0
  TypeWalked w k p = type_bytes s words (suc w) (encode (node k (p ▸ nil))) ≡ weighed Z (node k (p ▸ nil)) (wrap Op Final (suc w) (node k (p ▸ nil)))

  abbrev ExprWalked : (k : ℕ) → Path → Type 0
  ExprWalked k p = expr_bytes s words (encode (node k (p ▸ nil))) ≡ weighed Z (node k (p ▸ nil)) (ReplaceExprSingle Op Final (node k (p ▸ nil)))

  -- whose path selects a name
  type-selected : (w k : ℕ) → eqb k 0x2D ≡ true → (b : Path) (n : Name) → Canonical (node k (MSel b n ▸ nil)) → TypeWalked w k (MSel b n)
  unfolding type_bytes replaces_type wrap nth
  type-selected w k g b n h =
      let this = node k (MSel b n ▸ nil) in
      rw (path-kind k (MSel b n) h, name-is k b n h, base-is k b n h, replaces-is n b (base-canonical k b n h), g, synonyms-bytes n (suc w) this)
      (weigh-if Z this (synonyms n (suc w) this) (short-type Z k w (MSel b n ▸ nil) n g) (replaces_path Op Final n b))

  expr-selected : (k : ℕ) → eqb k 0x5C ≡ true → (b : Path) (n : Name) → Canonical (node k (MSel b n ▸ nil)) → ExprWalked k (MSel b n)
  unfolding expr_bytes replaces_expr ReplaceExprSingle nth
  expr-selected k g b n h =
      let c = base-canonical k b n h in
      rw (path-kind k (MSel b n) h, name-is k b n h, base-is k b n h, replaces-is n b c, replaces-is (unmarked n) b c, g, identifier-bytes n)
      (weigh-either Z (node k (MSel b n ▸ nil)) (Identifier n) (short-expr Z k (MSel b n ▸ nil) n g) (replaces_path Op Final n b)
      (marked n && replaces_path Op Final (unmarked n) b))

  -- whose path is any
  module _ (k : ℕ) (c : Records) (o : PathIn c) (h : Canonical (node k c)) where
    abbrev p : Path
    p = o.held

    held-canonical : Canonical (node k (p ▸ nil))
    held-canonical = rw o.only at h

    by-selected : (P : Path → Type 0) → ((b : Path) (n : Name) → Canonical (node k (MSel b n ▸ nil)) → P (MSel b n)) → (is 0x13 p ≡ false → P p) → P p
    by-selected P f g =
        by-test (is 0x13 p)
        (λ e. subst (λ (x : Path). Canonical (node k (x ▸ nil)) → P x) (sym (o.spelled e)) (f (field 0 p) (text (field 1 p))) held-canonical) g

    left-self : encode (node k (p ▸ nil)) ≡ weighed Z (node k (p ▸ nil)) (node k (p ▸ nil))
    left-self = sym (weighed-self Z (node k (p ▸ nil)))

    type-walked : (w : ℕ) → eqb k 0x2D ≡ true → type_bytes s words (suc w) (encode (node k c)) ≡ weighed Z (node k c) (wrap Op Final (suc w) (node k c))
    unfolding type_bytes replaces_type wrap nth
    type-walked w g = rw o.only (by-selected (TypeWalked w k) (type-selected w k g) (λ e. rw (path-kind k p held-canonical, e, g) left-self))

    expr-walked : eqb k 0x5C ≡ true → expr_bytes s words (encode (node k c)) ≡ weighed Z (node k c) (ReplaceExprSingle Op Final (node k c))
    unfolding expr_bytes replaces_expr ReplaceExprSingle nth
    expr-walked g = rw o.only (by-selected (ExprWalked k) (expr-selected k g) (λ e. rw (path-kind k p held-canonical, e, g) left-self))

  abbrev Walked : (depth : ℕ) → Type 0
  Walked depth =
      (again : Bool) (w : ℕ) (r : Record) → Paths r → Canonical r → deep r ≤ depth
      → rewrite s words depth again (suc w) (encode r) ≡ weighed Z r (walk Op Final again (suc w) r)

  -- given the law of what goes less deep
  module _ (depth : ℕ) (below : Walked depth) where
    abbrev Made : Bool → ℕ → Bytes → Bytes
    Made again w c = each (rewrite s words depth again w) (parts_of c)

    each-walked : (again : Bool) (w : ℕ) (c : Records) → PathsAll c → CanonicalAll c → deep_all c ≤ depth
        → each (rewrite s words depth again (suc w)) (encode_each c) ≡ weighed_all Z c (walk_all Op Final again (suc w) c)
    unfolding each encode_each weighed walk Paths Canonical deep
    each-walked again w nil p h l = refl
    each-walked again w (r ▸ c) p h l =
        ap₂ ◌++◌ (below again w r p.0 h.0 (omega arith)) (each-walked again w c p.1 h.1 (omega arith))
        ∙ sym (weighed-beside Z r c (walk Op Final again (suc w) r) (walk_all Op Final again (suc w) c) (walked-count Op Final again (suc w) c))

    parts-walked : (again : Bool) (w : ℕ) (c : Records) → PathsAll c → CanonicalAll c → deep_all c ≤ depth
        → Made again (suc w) (encode_all c) ≡ weighed_all Z c (walk_all Op Final again (suc w) c)
    parts-walked again w c p h l = rw (parts_all c h) (each-walked again w c p h l)

    fn-walked : (c : Records) → PathsAll c → CanonicalAll c → deep_all c ≤ depth
        → Made false 1 (encode_all (first 2 c)) ++ Made Op.walks_again 1 (encode_all (skip 2 c)) ≡ weighed_all Z c (walk_fn Op Final 0 c)
    unfolding encode_all weighed walk first skip each count Paths Canonical deep
    fn-walked nil p h l = rw parts-end
    fn-walked (q ▸ nil) p h l = rw (parts-walked false 0 (q ▸ nil) p h l, parts-end) (append-nil _)
    fn-walked (q ▸ r ▸ c) p h l =
        rw (
          parts-walked false 0 (q ▸ r ▸ nil) (p.0, (p.1.0, tt)) (h.0, (h.1.0, tt)) (omega arith),
          parts-walked Op.walks_again 0 c p.1.1 h.1.1 (omega arith),
          counts Op Final 2 (omega arith) c,
          weighed-beside Z q (r ▸ c) (walk Op Final false 1 q) (walk Op Final false 1 r ▸ walk_all Op Final Op.walks_again 1 c)
              (ap suc (walked-count Op Final Op.walks_again 1 c)),
          weighed-beside Z r c (walk Op Final false 1 r) (walk_all Op Final Op.walks_again 1 c) (walked-count Op Final Op.walks_again 1 c),
        )
        (simp append_assoc)

    kept-walked : (again : Bool) (w k : ℕ) (c : Records) → PathsAll c → CanonicalAll c → deep_all c ≤ depth
        → record_bytes k (Made again (suc w) (encode_all c)) ≡ weighed Z (node k c) (node k (walk_all Op Final again (suc w) c))
    kept-walked again w k c p h l =
        ap (record_bytes k) (parts-walked again w c p h l) ∙ sym (weighed-node Z k c (walk_all Op Final again (suc w) c))

    step-walked : (x : Step) (again : Bool) (w k : ℕ) (c : Records) → Paths (node k c) → Canonical (node k c) → deep_all c ≤ depth
        → stepped s words x k (suc w) (encode (node k c)) (record_bytes k (Made again (suc (deeper again w)) (encode_all c)))
        (record_bytes k (Made again (suc w) (encode_all c)))
        (record_bytes k (Made false 1 (uncounted (encode_all c)) ++ Made Op.walks_again 1 (counted (encode_all c))))
        ≡ weighed Z (node k c) (stepped_record Op Final x (suc w) (node k c) (node k (walk_all Op Final again (suc (deeper again w)) c))
        (node k (walk_all Op Final again (suc w) c)) (node k (walk_fn Op Final 0 c)))
    unfolding Paths Canonical
    step-walked a_type again w k c p h l =
        by-test (eqb k 0x2D)
        (λ g. let o = p.0 (or_left (eqb k 0x2D) (eqb k 0x5C) g) in
        rw (g, paths-walked Op Final again (suc (deeper again w)) c o) (type-walked k c o h w g))
        (λ g. rw (g, wrap-other Op Final (suc w) k (walk_all Op Final again (suc (deeper again w)) c) g)
        (kept-walked again (deeper again w) k c p.1 h.3 l))
    step-walked an_expr again w k c p h l =
        by-test (eqb k 0x5C)
        (λ g. let o = p.0 (or_right (eqb k 0x2D) (eqb k 0x5C) g) in
        rw (g, paths-walked Op Final again (suc (deeper again w)) c o) (expr-walked k c o h g))
        (λ g. rw (g, expr-other Op Final k (walk_all Op Final again (suc (deeper again w)) c) g)
        (kept-walked again (deeper again w) k c p.1 h.3 l))
    step-walked a_fn again w k c p h l =
        rw (uncounted-is c h.3, counted_is c h.3)
        (ap (record_bytes k) (fn-walked c p.1 h.3 l) ∙ sym (weighed-node Z k c (walk_fn Op Final 0 c)))
    step-walked left again w k c p h l = sym (weighed-self Z (node k c))
    step-walked holds again w k c p h l = kept-walked again w k c p.1 h.3 l

  rewrite-paths : (depth : ℕ) → Walked depth
  unfolding rewrite walk weighed Canonical deep
  rewrite-paths zero again w (leaf k b) p h l = absurd (omega arith)
  rewrite-paths zero again w (node k c) p h l = absurd (omega arith)
  rewrite-paths (suc depth) again w (leaf k b) p h l = rw (alone-kind (leaf k b) h, leaf-step k h.0)
  rewrite-paths (suc depth) again w (node k c) p h l =
      rw (alone-kind (node k c) h, alone-content (node k c) h)
      (rw (← deeper-suc again w) (step-walked depth (rewrite-paths depth) (step_of k) again w k c p h (omega arith)))

  -- THE LAW
  pub rewrite-walks : (depth : ℕ) (again : Bool) (w : ℕ) (r : Record) (p : Place) → Fits r p → Canonical r → deep r ≤ depth
      → rewrite s t.words depth again (suc w) (encode r) ≡ weighed (weight_bytes s.op) r (walk Op Final again (suc w) r)
  rewrite-walks depth again w r p f h l = rewrite-paths depth again w r (fits-paths r p f) h l
