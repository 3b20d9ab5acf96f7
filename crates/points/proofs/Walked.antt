-- The points of a declaration that is walked: where a name is shortened it is found, and every other point holds what it held. Assumes nothing.
use mathlib.Core.Path.{◌≡◌, refl, ap, sym, subst, ◌∙◌}
use mathlib.Core.Bool.{Bool, true, false, ◌||◌, ◌&&◌, and-false, false≢true}
use mathlib.Core.Option.{none, some, some-injective, none-ne-some}
use Prim.Native.Nat.{ℕ, suc}
use lib.Dec.{eqb, leb}
use borrow.Author.Tests.{eqb-true}
use Rattle.records.specs.Record.{Record, Records, leaf, node, nil, ◌▸◌, text, nth, set_nth, field, is}
use Rattle.records.proofs.Closed.{Of, OfAll}
use Rattle.rast.specs.Path.{Name, Path, MSel, Selected, selected}
use Rattle.rast.specs.Operation.{Operation}
use Rattle.rast.proofs.Tests.{by-test, by-option}
use Rattle.rast.proofs.Names.{Names}
use Rattle.factor_paths.specs.Mapping.{FinalReplacement}
use Rattle.factor_paths.specs.PathsVisitor.{marked, unmarked}
use Rattle.factor_paths.specs.Apply.{Identifier, paths_to_remove, imports, replaces, ReplaceExprSingle}
use Rattle.factor_paths.specs.Walk.{Step, a_type, an_expr, a_fn, left, holds, step_of, deeper, synonyms, wrap, stepped, walk, walk_all, walk_fn}
use Rattle.factor_paths.proofs.Tidy.{decl_kind, PathIn, Paths, PathsAll}
use Rattle.factor_paths.proofs.Wraps.{deeper-suc, paths-walked, wrap-other, expr-other, or_left, or_right}
use Rattle.factor_paths.specs.LookUp.{collected}
use Rattle.points.specs.Points.{Module, elsewhere, meeting, Point, Points}
use Rattle.factor_paths.proofs.Named.{Marks}
use Rattle.factor_paths.proofs.Uses.{looks-up, replaced-unmarked}

-- two kinds that are the same, and no module's, meet elsewhere
pub meeting-same : (k : ℕ) → eqb k 0x60 ≡ false → meeting k k ≡ elsewhere
meeting-same k e =
    by-test (eqb k 0x2D) (λ h. subst (λ (k : ℕ). meeting k k ≡ elsewhere) (sym (eqb-true k 0x2D h)) refl)
    (λ h. by-test (eqb k 0x5C) (λ g. subst (λ (k : ℕ). meeting k k ≡ elsewhere) (sym (eqb-true k 0x5C g)) refl)
    (λ g. rw (h, g, e)))

no-module : (k : ℕ) → decl_kind k ≡ true → eqb k 0x60 ≡ false
no-module k e = by-test (eqb k 0x60) (λ h. absurd (false≢true (subst (λ (k : ℕ). decl_kind k ≡ true) (eqb-true k 0x60 h) e))) (λ h. h)

module _ (op : Operation) (M : Module) where
  -- of two nodes of one kind that is no module's, the points are those of what they hold
  pub same-node : (k : ℕ) (c d : Records) → eqb k 0x60 ≡ false → Points op M c d → Point op M (node k c) (node k d)
  unfolding Point
  same-node k c d e h = rw (meeting-same k e) (refl, h)

  -- a record in which there is no module holds what it holds
  mutual
    unfolding Of Point

    pub point-self : (r : Record) → Of decl_kind r → Point op M r r
    point-self (leaf k b) o = (refl, refl)
    point-self (node k c) o = same-node k c c (no-module k o.0) (points-self c o.1)

    pub points-self : (c : Records) → OfAll decl_kind c → Points op M c c
    points-self nil o = tt
    points-self (r ▸ c) o = (point-self r o.0, points-self c o.1)

-- the path that a path type or a path expression selects a name of
selected-held : (k : ℕ) → eqb k k ≡ true → (q : Record) → (is 0x13 q ≡ true → q ≡ MSel (field 0 q) (text (field 1 q))) → (v : Selected)
    → selected k (node k (q ▸ nil)) ≡ some v → q ≡ MSel v.base v.name
unfolding nth
selected-held k same q spelled v e =
    by-test (is 0x13 q)
    (λ t. let f : some (record { base = field 0 q; name = text (field 1 q) }) ≡ some v = rw (same, t) at e in
    let g : record { base = field 0 q; name = text (field 1 q) } ≡ v = some-injective _ _ f in
    spelled t ∙ ap (λ (u : Selected). MSel u.base u.name) g)
    (λ t. let f : none ≡ some v = rw (same, t) at e in absurd (none-ne-some v f))

selected-path : (k : ℕ) → eqb k k ≡ true → (c : Records) → PathIn c → (v : Selected) → selected k (node k c) ≡ some v → nth 0 c ≡ MSel v.base v.name
unfolding nth
selected-path k same c h v e = rw h.only (selected-held k same h.held h.spelled v (rw h.only at e))

module _ (op : Operation) (N : Names op) (alike : Marks op) (m : Record) (p : Path) (within : Name → Path) where
  abbrev M : Module
  M = record { prefix = p; uses = imports op m p; names = collected op m p; inner = within }

  abbrev rep : FinalReplacement
  rep = paths_to_remove op m p

  -- where a Fn's types are not walked again, none counts and every one is wrapped once
  abbrev Once : Bool → ℕ → Type 0
  Once a w = op.walks_again ≡ false → (a ≡ false) × (w ≡ 0)

  once-deeper : (a : Bool) (w : ℕ) → Once a w → Once a (deeper a w)
  once-deeper a w o z = let q = o z in (q.0, ap (λ (b : Bool). deeper b w) q.0 ∙ q.1)

  once-field : (b : Bool) → Once (b && op.walks_again) 0
  once-field b z = (ap (λ (c : Bool). b && c) z ∙ and-false b, refl)

  -- a shortened type
  short-type : (c : Records) (h : PathIn c) (v : Selected) → selected 0x2D (node 0x2D c) ≡ some v → replaces op rep v.name v.base ≡ true → (w : ℕ)
      → (op.walks_again ≡ false → w ≡ 0) → Point op M (node 0x2D c) (synonyms v.name (suc w) (node 0x2D c))
  unfolding Point synonyms
  short-type c h v e r w o =
      record {
        name = v.name;
        more = w;
        wrapped = refl;
        once = o;
        finds = λ u. rw (selected-path 0x2D refl c h v e) (looks-up op N m p v.name v.base r);
      }

  -- a shortened expression: by its whole name, or without its mark
  short-whole : (c : Records) (h : PathIn c) (v : Selected) → selected 0x5C (node 0x5C c) ≡ some v → replaces op rep v.name v.base ≡ true
      → Point op M (node 0x5C c) (Identifier v.name)
  unfolding Point nth set_nth
  short-whole c h v e r =
      record {
        name = v.name;
        named = refl;
        finds = λ u. let t : marked v.name ≡ false = replaced-unmarked op N alike m p v.name v.base r u in
            rw (selected-path 0x5C refl c h v e, t) (looks-up op N m p v.name v.base r);
      }

  short-marked : (c : Records) (h : PathIn c) (v : Selected) → selected 0x5C (node 0x5C c) ≡ some v → marked v.name ≡ true
      → replaces op rep (unmarked v.name) v.base ≡ true → Point op M (node 0x5C c) (Identifier v.name)
  unfolding Point nth set_nth
  short-marked c h v e t r =
      record {
        name = v.name;
        named = refl;
        finds = λ u. rw (selected-path 0x5C refl c h v e, t) (looks-up op N m p (unmarked v.name) v.base r);
      }

  -- a path type that is wrapped or left
  type-point : (c : Records) → PathIn c → OfAll decl_kind c → (w : ℕ) → (op.walks_again ≡ false → w ≡ 0)
      → Point op M (node 0x2D c) (wrap op rep (suc w) (node 0x2D c))
  unfolding wrap
  type-point c h o w once =
      by-option (selected 0x2D (node 0x2D c))
      (λ e. rw e (same-node op M 0x2D c c refl (points-self op M c o)))
      (λ v e. rw e (by-test (replaces op rep v.name v.base)
      (λ r. rw r (short-type c h v e r w once))
      (λ r. rw r (same-node op M 0x2D c c refl (points-self op M c o)))))

  -- a path expression that is named or left
  expr-point : (c : Records) → PathIn c → OfAll decl_kind c → Point op M (node 0x5C c) (ReplaceExprSingle op rep (node 0x5C c))
  unfolding ReplaceExprSingle
  expr-point c h o =
      by-option (selected 0x5C (node 0x5C c))
      (λ e. rw e (same-node op M 0x5C c c refl (points-self op M c o)))
      (λ v e. rw e (by-test (replaces op rep v.name v.base)
      (λ r. rw r (short-whole c h v e r))
      (λ r. rw r (by-test (marked v.name)
      (λ t. by-test (replaces op rep (unmarked v.name) v.base)
      (λ q. rw (t, q) (short-marked c h v e t q))
      (λ q. rw (t, q) (same-node op M 0x5C c c refl (points-self op M c o))))
      (λ t. rw t (same-node op M 0x5C c c refl (points-self op M c o)))))))

  -- one record, given the points of what it holds
  step-point : (a : Bool) (w k : ℕ) (c : Records) (s : Step) → Once a w → decl_kind k ≡ true → OfAll decl_kind c → (eqb k 0x2D || eqb k 0x5C ≡ true → PathIn c) →
      Points op M c (walk_all op rep a (suc (deeper a w)) c) → Points op M c (walk_all op rep a (suc w) c) → Points op M c (walk_fn op rep 0 c) →
      Point op M (node k c) (stepped op rep s (suc w) (node k c) (node k (walk_all op rep a (suc (deeper a w)) c)) (node k (walk_all op rep a (suc w) c))
      (node k (walk_fn op rep 0 c)))
  step-point a w k c a_type once d o h deep same fn =
      by-test (eqb k 0x2D)
      (λ e. rw (paths-walked op rep a (suc (deeper a w)) c (h (or_left (eqb k 0x2D) (eqb k 0x5C) e)), eqb-true k 0x2D e)
      (type-point c (h (or_left (eqb k 0x2D) (eqb k 0x5C) e)) o w (λ z. (once z).1)))
      (λ e. rw (wrap-other op rep (suc w) k (walk_all op rep a (suc (deeper a w)) c) e) (same-node op M k c _ (no-module k d) deep))
  step-point a w k c an_expr once d o h deep same fn =
      by-test (eqb k 0x5C)
      (λ e. rw (paths-walked op rep a (suc (deeper a w)) c (h (or_right (eqb k 0x2D) (eqb k 0x5C) e)), eqb-true k 0x5C e)
      (expr-point c (h (or_right (eqb k 0x2D) (eqb k 0x5C) e)) o))
      (λ e. rw (expr-other op rep k (walk_all op rep a (suc (deeper a w)) c) e) (same-node op M k c _ (no-module k d) deep))
  step-point a w k c a_fn once d o h deep same fn = same-node op M k c _ (no-module k d) fn
  step-point a w k c left once d o h deep same fn = same-node op M k c c (no-module k d) (points-self op M c o)
  step-point a w k c holds once d o h deep same fn = same-node op M k c _ (no-module k d) same

  -- THE LAW: every point of a declaration that is walked, with a count of at least 1
  mutual
    unfolding walk Of Paths Points

    pub walk-point : (r : Record) (a : Bool) (w : ℕ) → Once a w → Of decl_kind r → Paths r → Point op M r (walk op rep a (suc w) r)
    walk-point (leaf k b) a w once o p = (refl, refl)
    walk-point (node k c) a w once o p =
        rw (← deeper-suc a w)
        (step-point a w k c (step_of k) once o.0 o.1 p.0 (walk-points c a (deeper a w) (once-deeper a w once) o.1 p.1)
        (walk-points c a w once o.1 p.1) (fn-points c 0 o.1 p.1))

    pub walk-points : (c : Records) (a : Bool) (w : ℕ) → Once a w → OfAll decl_kind c → PathsAll c → Points op M c (walk_all op rep a (suc w) c)
    walk-points nil a w once o p = tt
    walk-points (r ▸ c) a w once o p = (walk-point r a w once o.0 p.0, walk-points c a w once o.1 p.1)

    fn-points : (c : Records) (i : ℕ) → OfAll decl_kind c → PathsAll c → Points op M c (walk_fn op rep i c)
    fn-points nil i o p = tt
    fn-points (r ▸ c) i o p = (walk-point r _ 0 (once-field (leb 2 i)) o.0 p.0, fn-points c (suc i) o.1 p.1)
