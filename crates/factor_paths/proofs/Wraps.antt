-- THE WRAPPING: Replace with functions that walk again, as ReplaceFn calls it, is one walk that carries a count. Assumes nothing.
use mathlib.Core.Path.{◌≡◌, refl, ap, ap₂, sym, ◌∙◌}
use mathlib.Core.Bool.{Bool, true, false, ◌&&◌, ◌||◌, cond, false≢true}
use mathlib.Core.Option.{Option, none, some}
use Prim.Native.Nat.{ℕ, zero, suc}
use lib.Dec.{eqb}
use borrow.Author.Tests.{eqb-true}
use Rattle.records.specs.Record.{Record, Records, leaf, node, nil, ◌▸◌, kind, nth}
use Rattle.records.specs.Kinds.{stands, path, type, expr}
use Rattle.records.proofs.Run.{in-run, ◌⨾◌}
use Rattle.records.proofs.Closed.{Of, OfAll}
use Rattle.rast.specs.Path.{Path, Selected, selected, whether}
use Rattle.rast.specs.Operation.{Operation}
use Rattle.rast.specs.Fold.{Role, a_type as role_type, an_expr as role_expr, holds as role_holds, other, role}
use Rattle.rast.specs.Replace.{Replace, ReplaceParts, mapped}
use Rattle.factor_paths.specs.Mapping.{FinalReplacement}
use Rattle.factor_paths.specs.PathsVisitor.{marked, unmarked}
use Rattle.factor_paths.specs.Apply.{TIdentifier, TSynonym, Identifier, replaces, ReplaceTypeSingle, ReplaceExprSingle}
use Rattle.factor_paths.specs.Walk.{Step, a_type, an_expr, left, holds, step_of, deeper, synonyms, wrap, stepped, walk, walk_all, walk_fn}
use Rattle.factor_paths.proofs.Tidy.{term_kind, type_kind, by-type_kind, by-term_kind, PathIn, Paths, PathsAll}

-- at the kinds that lie in types and expressions, the walk takes the step that Replace's role says
abbrev to_step : Role → Step
to_step role_type = a_type
to_step role_expr = an_expr
to_step role_holds = holds
to_step other = left

tested : (t u : Bool) (x : Role) (y : Step) → t || u ≡ true → cond t a_type (cond u an_expr y) ≡ to_step (cond t role_type (cond u role_expr x))
tested true u x y e = refl
tested false true x y e = refl
tested false false x y e = absurd (false≢true e)

pub or_right : (a b : Bool) → b ≡ true → a || b ≡ true
or_right true b e = refl
or_right false b e = e

pub or_left : (a b : Bool) → a ≡ true → a || b ≡ true
or_left true b e = refl
or_left false b e = absurd (false≢true e)

abbrev Same : ℕ → Type 0
Same k = step_of k ≡ to_step (role k)

pub same_step : (k : ℕ) → term_kind k ≡ true → Same k
same_step =
    by-term_kind Same
    (by-type_kind Same (refl ⨾ refl ⨾ refl) (refl ⨾ refl ⨾ refl ⨾ refl) (λ k e. tested (stands type k) (stands expr k) _ _
    (or_left (stands type k) (stands expr k) e)) refl)
    (λ k e. tested (stands type k) (stands expr k) _ _ (or_right (stands type k) (stands expr k) e)) refl refl

-- in a type there is no expression
abbrev pub is_expr : Role → Bool
is_expr role_type = false
is_expr role_expr = true
is_expr role_holds = false
is_expr other = false

pub no-expr-role : (k : ℕ) → type_kind k ≡ true → is_expr (role k) ≡ false
no-expr-role = by-type_kind (λ k. is_expr (role k) ≡ false) (refl ⨾ refl ⨾ refl) (refl ⨾ refl ⨾ refl ⨾ refl) (λ k e. rw e) refl

-- one wrapping more outside is one more inside
pub deeper-suc : (a : Bool) (w : ℕ) → suc (deeper a w) ≡ deeper a (suc w)
deeper-suc true w = refl
deeper-suc false w = refl

-- so it does not matter what Replace would do with one
module _ (f g ft : Record → Record) where
  same-mapped : (ρ : Role) → is_expr ρ ≡ false → (this r q : Record) → r ≡ q → mapped f ft ρ this r ≡ mapped g ft ρ this q
  same-mapped role_type h this r q e = ap ft e
  same-mapped role_expr h this r q e = absurd (false≢true (sym h))
  same-mapped role_holds h this r q e = e
  same-mapped other h this r q e = refl

  mutual
    unfolding Replace Of

    pub type-alone : (r : Record) → Of type_kind r → Replace f ft r ≡ Replace g ft r
    type-alone (leaf k b) o = refl
    type-alone (node k c) o = same-mapped (role k) (no-expr-role k o.0) (node k c) _ _ (ap (node k) (types-alone c o.1))

    pub types-alone : (c : Records) → OfAll type_kind c → ReplaceParts f ft c ≡ ReplaceParts g ft c
    types-alone nil o = refl
    types-alone (r ▸ c) o = ap₂ ◌▸◌ (type-alone r o.0) (types-alone c o.1)

-- paths are left, by Replace and by the walk
pub path-role : (k : ℕ) → stands path k ≡ true → role k ≡ other
path-role = in-run (λ k. role k ≡ other) 0x10 3 (refl ⨾ refl ⨾ refl ⨾ refl)

path-step : (k : ℕ) → stands path k ≡ true → step_of k ≡ left
path-step = in-run (λ k. step_of k ≡ left) 0x10 3 (refl ⨾ refl ⨾ refl ⨾ refl)

path-replaced : (f ft : Record → Record) (r : Record) → stands path (kind r) ≡ true → Replace f ft r ≡ r
unfolding Replace
path-replaced f ft (leaf k b) e = refl
path-replaced f ft (node k c) e = rw (path-role k e)

pub paths-replaced : (f ft : Record → Record) (c : Records) → PathIn c → ReplaceParts f ft c ≡ c
unfolding Replace
paths-replaced f ft c h = rw h.only (ap (λ r. r ▸ nil) (path-replaced f ft h.held h.stands-path))

module _ (op : Operation) (rep : FinalReplacement) where
  abbrev s : Record → Record
  s = ReplaceTypeSingle op rep

  abbrev x : Record → Record
  x = ReplaceExprSingle op rep

  path-walked : (a : Bool) (w : ℕ) (r : Record) → stands path (kind r) ≡ true → walk op rep a w r ≡ r
  unfolding walk
  path-walked a w (leaf k b) e = refl
  path-walked a w (node k c) e = rw (path-step k e)

  pub paths-walked : (a : Bool) (w : ℕ) (c : Records) → PathIn c → walk_all op rep a w c ≡ c
  unfolding walk
  paths-walked a w c h = rw h.only (ap (λ r. r ▸ nil) (path-walked a w h.held h.stands-path))

  pub wrap-one : (t : Record) → wrap op rep 1 t ≡ s t
  unfolding wrap ReplaceTypeSingle synonyms
  wrap-one t = refl

  -- a type of another kind than 2D, and an expression of another than 5C, are left
  pub wrap-other : (w k : ℕ) (c : Records) → eqb k 0x2D ≡ false → wrap op rep w (node k c) ≡ node k c
  unfolding wrap
  wrap-other w k c e = rw e

  pub expr-other : (k : ℕ) (c : Records) → eqb k 0x5C ≡ false → x (node k c) ≡ node k c
  unfolding ReplaceExprSingle
  expr-other k c e = rw e

  -- a function that leaves what PathSimplifier leaves
  abbrev pub Keeps : (Record → Record) → Type 0
  Keeps f = (e : Record) → x e ≡ e → f e ≡ e

  module _ (f : Record → Record) (keeps : Keeps f) where
    -- one more around a type that is wrapped
    layer-synonyms : (n : Rattle.rast.specs.Path.Name) (t : Record) → Replace f s t ≡ TSynonym (TIdentifier n) t → (w : ℕ)
        → Replace f s (synonyms n w t) ≡ synonyms n (suc w) t
    unfolding synonyms Replace ReplaceTypeSingle nth
    layer-synonyms n t h zero = h
    layer-synonyms n t h (suc w) = ap (TSynonym (TIdentifier n)) (layer-synonyms n t h w)

    -- a path type: one more, or left
    replaced-once : (c : Records) → PathIn c → Replace f s (node 0x2D c) ≡ s (node 0x2D c)
    unfolding Replace
    replaced-once c h = ap (λ d. s (node 0x2D d)) (paths-replaced f s c h)

    layer-type : (c : Records) → PathIn c → (w : ℕ) → Replace f s (wrap op rep w (node 0x2D c)) ≡ wrap op rep (suc w) (node 0x2D c)
    unfolding wrap ReplaceTypeSingle
    layer-type c h w = go (selected 0x2D (node 0x2D c)) refl
      where
        one : (v : Selected) → selected 0x2D (node 0x2D c) ≡ some v → (b : Bool) → replaces op rep v.name v.base ≡ b →
            Replace f s (cond b (synonyms v.name w (node 0x2D c)) (node 0x2D c)) ≡ cond b (synonyms v.name (suc w) (node 0x2D c)) (node 0x2D c)
        one v e true r = layer-synonyms v.name (node 0x2D c) (replaced-once c h ∙ rw (e, r)) w
        one v e false r = replaced-once c h ∙ rw (e, r)

        go : (o : Option Selected) → selected 0x2D (node 0x2D c) ≡ o →
            Replace f s (whether o (node 0x2D c) (λ v. cond (replaces op rep v.name v.base) (synonyms v.name w (node 0x2D c)) (node 0x2D c)))
            ≡ whether o (node 0x2D c) (λ v. cond (replaces op rep v.name v.base) (synonyms v.name (suc w) (node 0x2D c)) (node 0x2D c))
        go none e = replaced-once c h ∙ rw e
        go (some v) e = one v e (replaces op rep v.name v.base) refl

    -- a path expression: the identifier or the path stays
    kept-path : (c : Records) → PathIn c → x (node 0x5C c) ≡ node 0x5C c → Replace f s (node 0x5C c) ≡ node 0x5C c
    unfolding Replace
    kept-path c h e = ap (λ d. f (node 0x5C d)) (paths-replaced f s c h) ∙ keeps (node 0x5C c) e

    kept-name : (n : Rattle.rast.specs.Path.Name) → Replace f s (Identifier n) ≡ Identifier n
    unfolding Replace ReplaceExprSingle
    kept-name n = keeps (Identifier n) refl

    layer-expr : (c : Records) → PathIn c → Replace f s (x (node 0x5C c)) ≡ x (node 0x5C c)
    unfolding ReplaceExprSingle
    layer-expr c h = go (selected 0x5C (node 0x5C c)) refl
      where
        one : (n : Rattle.rast.specs.Path.Name) (a b : Bool)
            → (cond a (Identifier n) (cond b (Identifier n) (node 0x5C c)) ≡ node 0x5C c → x (node 0x5C c) ≡ node 0x5C c) →
            Replace f s (cond a (Identifier n) (cond b (Identifier n) (node 0x5C c))) ≡ cond a (Identifier n) (cond b (Identifier n) (node 0x5C c))
        one n true b e = kept-name n
        one n false true e = kept-name n
        one n false false e = kept-path c h (e refl)

        go : (o : Option Selected) → selected 0x5C (node 0x5C c) ≡ o →
            Replace f s (whether o (node 0x5C c) (λ v. cond (replaces op rep v.name v.base) (Identifier v.name)
            (cond (marked v.name && replaces op rep (unmarked v.name) v.base) (Identifier v.name) (node 0x5C c))))
            ≡ whether o (node 0x5C c) (λ v. cond (replaces op rep v.name v.base) (Identifier v.name)
            (cond (marked v.name && replaces op rep (unmarked v.name) v.base) (Identifier v.name) (node 0x5C c)))
        go none e = kept-path c h (rw e)
        go (some v) e = one v.name (replaces op rep v.name v.base) (marked v.name && replaces op rep (unmarked v.name) v.base) (λ g. rw e g)

    at-type : (k : ℕ) (d : Records) → role k ≡ role_type → Replace f s (node k d) ≡ s (node k (ReplaceParts f s d))
    unfolding Replace
    at-type k d e = rw e

    at-expr : (k : ℕ) (d : Records) → role k ≡ role_expr → Replace f s (node k d) ≡ f (node k (ReplaceParts f s d))
    unfolding Replace
    at-expr k d e = rw e

    at-holds : (k : ℕ) (d : Records) → role k ≡ role_holds → Replace f s (node k d) ≡ node k (ReplaceParts f s d)
    unfolding Replace
    at-holds k d e = rw e

    at_other : (k : ℕ) (d : Records) → role k ≡ other → Replace f s (node k d) ≡ node k d
    unfolding Replace
    at_other k d e = rw e

    -- one record, given the layer of what it holds
    layer-node : (a : Bool) (w k : ℕ) (c : Records) (ρ : Role) → role k ≡ ρ → (eqb k 0x2D || eqb k 0x5C ≡ true → PathIn c) →
        ReplaceParts f s (walk_all op rep a w c) ≡ walk_all op rep a (suc w) c →
        ReplaceParts f s (walk_all op rep a (deeper a w) c) ≡ walk_all op rep a (suc (deeper a w)) c →
        Replace f s (stepped op rep (to_step ρ) w (node k c) (node k (walk_all op rep a (deeper a w) c)) (node k (walk_all op rep a w c))
        (node k (walk_fn op rep 0 c)))
        ≡ stepped op rep (to_step ρ) (suc w) (node k c) (node k (walk_all op rep a (deeper a (suc w)) c)) (node k (walk_all op rep a (suc w) c))
        (node k (walk_fn op rep 0 c))
    layer-node a w k c role_type e h same deep = go (eqb k 0x2D) refl
      where
        go : (b : Bool) → eqb k 0x2D ≡ b
            → Replace f s (wrap op rep w (node k (walk_all op rep a (deeper a w) c))) ≡ wrap op rep (suc w) (node k (walk_all op rep a (deeper a (suc w)) c))
        go true g =
            let p : PathIn c = h (or_left (eqb k 0x2D) (eqb k 0x5C) g) in
            rw (paths-walked a (deeper a w) c p, paths-walked a (deeper a (suc w)) c p, eqb-true k 0x2D g) (layer-type c p w)
        go false g =
            rw (wrap-other w k (walk_all op rep a (deeper a w) c) g, wrap-other (suc w) k (walk_all op rep a (deeper a (suc w)) c) g)
            (at-type k _ e ∙ ap (λ d. s (node k d)) (deep ∙ ap (λ n. walk_all op rep a n c) (deeper-suc a w)) ∙ sym
            (wrap-one (node k (walk_all op rep a (deeper a (suc w)) c))) ∙ wrap-other 1 k _ g)
    layer-node a w k c role_expr e h same deep = go (eqb k 0x5C) refl
      where
        go : (b : Bool) → eqb k 0x5C ≡ b → Replace f s (x (node k (walk_all op rep a (deeper a w) c))) ≡ x (node k (walk_all op rep a (deeper a (suc w)) c))
        go true g =
            let p : PathIn c = h (or_right (eqb k 0x2D) (eqb k 0x5C) g) in
            rw (paths-walked a (deeper a w) c p, paths-walked a (deeper a (suc w)) c p, eqb-true k 0x5C g) (layer-expr c p)
        go false g =
            rw (expr-other k (walk_all op rep a (deeper a w) c) g, expr-other k (walk_all op rep a (deeper a (suc w)) c) g)
            (at-expr k _ e ∙ ap (λ d. f (node k d)) (deep ∙ ap (λ n. walk_all op rep a n c) (deeper-suc a w)) ∙ keeps _
            (expr-other k (walk_all op rep a (deeper a (suc w)) c) g))
    layer-node a w k c role_holds e h same deep = at-holds k _ e ∙ ap (node k) same
    layer-node a w k c other e h same deep = at_other k c e

    mutual
      unfolding walk Of Paths ReplaceParts

      pub layer : (a : Bool) (w : ℕ) (r : Record) → Of term_kind r → Paths r → Replace f s (walk op rep a w r) ≡ walk op rep a (suc w) r
      layer a w (leaf k b) o p = refl
      layer a w (node k c) o p =
          rw (same_step k o.0) (layer-node a w k c (role k) refl p.0 (layer-all a w c o.1 p.1) (layer-all a (deeper a w) c o.1 p.1))

      pub layer-all : (a : Bool) (w : ℕ) (c : Records) → OfAll term_kind c → PathsAll c → ReplaceParts f s (walk_all op rep a w c) ≡ walk_all op rep a (suc w) c
      layer-all a w nil o p = refl
      layer-all a w (r ▸ c) o p = ap₂ ◌▸◌ (layer a w r o.0 p.0) (layer-all a w c o.1 p.1)

  -- what ReplaceType and ReplaceExpr do, outside of a Fn, is the walk that does not count: each path type is wrapped once
  once-node : (k : ℕ) (c : Records) (ρ : Role) → ReplaceParts x s c ≡ walk_all op rep false 1 c →
      mapped x s ρ (node k c) (node k (ReplaceParts x s c))
      ≡ stepped op rep (to_step ρ) 1 (node k c) (node k (walk_all op rep false 1 c)) (node k (walk_all op rep false 1 c)) (node k (walk_fn op rep 0 c))
  once-node k c role_type h = ap (λ d. s (node k d)) h ∙ sym (wrap-one (node k (walk_all op rep false 1 c)))
  once-node k c role_expr h = ap (λ d. x (node k d)) h
  once-node k c role_holds h = ap (node k) h
  once-node k c other h = refl

  mutual
    unfolding walk Of ReplaceParts

    pub once : (r : Record) → Of term_kind r → Replace x s r ≡ walk op rep false 1 r
    once (leaf k b) o = refl
    once (node k c) o = rw (same_step k o.0) (once-node k c (role k) (once-all c o.1))

    pub once-all : (c : Records) → OfAll term_kind c → ReplaceParts x s c ≡ walk_all op rep false 1 c
    once-all nil o = refl
    once-all (r ▸ c) o = ap₂ ◌▸◌ (once r o.0) (once-all c o.1)

  pub expr-keeps : Keeps x
  expr-keeps e h = h

  pub same-keeps : Keeps (λ e. e)
  same-keeps e h = refl

  -- THE WRAPPING: handed on to Replace, they are the walk that counts. A path type under n type and expression records is wrapped n + 1 times
  module _ (f : Record → Record) (keeps : Keeps f) where
    again-node : (k : ℕ) (c : Records) (ρ : Role) → role k ≡ ρ → OfAll term_kind c → PathsAll c
        → ReplaceParts (Replace x s) (Replace f s) c ≡ walk_all op rep true 1 c →
        mapped (Replace x s) (Replace f s) ρ (node k c) (node k (ReplaceParts (Replace x s) (Replace f s) c))
        ≡ stepped op rep (to_step ρ) 1 (node k c) (node k (walk_all op rep true 2 c)) (node k (walk_all op rep true 1 c)) (node k (walk_fn op rep 0 c))
    again-node k c role_type e o p h =
        ap (λ d. Replace f s (node k d)) h ∙ at-type f keeps k _ e ∙ ap (λ d. s (node k d)) (layer-all f keeps true 1 c o p)
        ∙ sym (wrap-one (node k (walk_all op rep true 2 c)))
    again-node k c role_expr e o p h =
        ap (λ d. Replace x s (node k d)) h ∙ at-expr x expr-keeps k _ e ∙ ap (λ d. x (node k d)) (layer-all x expr-keeps true 1 c o p)
    again-node k c role_holds e o p h = ap (node k) h
    again-node k c other e o p h = refl

    mutual
      unfolding walk Of Paths ReplaceParts

      pub again : (r : Record) → Of term_kind r → Paths r → Replace (Replace x s) (Replace f s) r ≡ walk op rep true 1 r
      again (leaf k b) o p = refl
      again (node k c) o p = rw (same_step k o.0) (again-node k c (role k) refl o.1 p.1 (again-all c o.1 p.1))

      pub again-all : (c : Records) → OfAll term_kind c → PathsAll c → ReplaceParts (Replace x s) (Replace f s) c ≡ walk_all op rep true 1 c
      again-all nil o p = refl
      again-all (r ▸ c) o p = ap₂ ◌▸◌ (again r o.0 p.0) (again-all c o.1 p.1)
