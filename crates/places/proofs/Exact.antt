-- THE LIST IS EXACT. Where Point holds, those put ahead are in a Mod's body: they are its uses. Assumes nothing.
use mathlib.Core.Path.{◌≡◌, refl, sym, ap, subst, ◌∙◌}
use mathlib.Core.Bool.{true}
use mathlib.Core.List.{List, [], ◌∷◌}
use mathlib.Core.Logic.{◌⊎◌, inl, inr, ⊎_elim}
use mathlib.Core.Option.{some, some-injective}
use Prim.Native.Nat.{ℕ, zero, suc, ◌+◌, ◌-◌, ◌<◌, ◌≤◌}
use native.Mathlib.Nat.{le_refl}
use native.Mathlib.Omega.{arith}
use lib.Dec.{eqb}
use borrow.Author.Tests.{eqb-true, eqb-false}
use Rattle.records.specs.Record.{Record, Records, leaf, node, nil, ◌▸◌, kind, children, nth, set_nth, put, count, first, skip, deep}
use Rattle.rast.specs.Operation.{Operation}
use Rattle.rast.proofs.Tests.{by-test}
use Rattle.factor_paths.specs.LookUp.{UseDecls}
use Rattle.points.specs.Points.{Meeting, short_type, short_expr, module', elsewhere, meeting, Module, put_ahead, module_of, Point, Points}
use Rattle.places.specs.Places.{Entry, entry, places_of}
use Rattle.places.specs.Spots.{Spot, spot, meets, ahead, beside, has_child, follow, Reaches, ShortAt, AheadAt, UseAt, In, Exact}
use Rattle.places.proofs.Meets.{Here, type-here, expr-here, use-here, code, other-type, other-expr, long, stepped, both, met-here, met-child, places-met}
use Rattle.places.proofs.Meets.{met-listed}
use Rattle.places.proofs.Rises.{rises}

-- children, where some are skipped or one is put in another's place
nth-skip : (i n : ℕ) (d : Records) → nth i (skip n d) ≡ nth (n + i) d
unfolding nth skip
nth-skip i n nil = none i n
  where
    none : (i n : ℕ) → nth i (skip n nil) ≡ nth (n + i) nil
    none i zero = refl
    none i (suc n) = refl
nth-skip i zero (s ▸ d) = let e : 0 + i ≡ i = omega arith in rw e
nth-skip i (suc n) (s ▸ d) = let e : suc n + i ≡ suc (n + i) = omega arith in rw e (nth-skip i n d)

nth-other : (i j : ℕ) (f : Record → Record) (d : Records) → (i ≡ j → ⊥) → nth i (set_nth j f d) ≡ nth i d
unfolding nth set_nth
nth-other i j f nil h = refl
nth-other zero zero f (s ▸ d) h = absurd (h refl)
nth-other zero (suc j) f (s ▸ d) h = refl
nth-other (suc i) zero f (s ▸ d) h = refl
nth-other (suc i) (suc j) f (s ▸ d) h = nth-other i j f d (λ e. h (ap suc e))

nth-same : (i : ℕ) (f : Record → Record) (d : Records) → i < count d → nth i (set_nth i f d) ≡ f (nth i d)
unfolding nth set_nth count
nth-same i f nil l = absurd (omega (arith, l))
nth-same zero f (s ▸ d) l = refl
nth-same (suc i) f (s ▸ d) l = nth-same i f d (omega (arith, l))

count_set : (i : ℕ) (f : Record → Record) (d : Records) → count (set_nth i f d) ≡ count d
unfolding set_nth count
count_set i f nil = refl
count_set zero f (s ▸ d) = refl
count_set (suc i) f (s ▸ d) = ap suc (count_set i f d)

skip-none : (that : Record) → put (skip 0 (children that)) that ≡ that
unfolding skip
skip-none (leaf k b) = refl
skip-none (node k c) = refl

-- a record among the first of some uses
use-kind : (n : ℕ) (c : Records) (m : ℕ) → UseDecls (first m c) → n < m → m ≤ count c → kind (nth n c) ≡ 0x6A
unfolding UseDecls first nth count
use-kind n c zero h l k = absurd (omega (arith, l))
use-kind n nil (suc m) h l k = absurd (omega (arith, k))
use-kind zero (r ▸ c) (suc m) h l k = h.0
use-kind (suc n) (r ▸ c) (suc m) h l k = use-kind n c m h.3 (omega (arith, l)) (omega (arith, k))

ahead-most : (n : ℕ) (this that : Record) → n < ahead this that → n < count (children that) - count (children this)
ahead-most n (leaf k b) that l = absurd (omega (arith, l))
ahead-most n (node k c) that l = l

-- a body with its uses put aside
abbrev aside : (this that : Record) → Record → Record
aside this that body = put (skip (put_ahead this that) (children body)) body

module _ (op : Operation) where
  points-count : (m : Module) (c d : Records) → Points op m c d → count c ≡ count d
  unfolding Point count
  points-count m nil nil h = refl
  points-count m nil (s ▸ d) h = absurd h
  points-count m (r ▸ c) nil h = absurd h
  points-count m (r ▸ c) (s ▸ d) h = ap suc (points-count m c d h.1)

  points-nth : (m : Module) (c d : Records) → Points op m c d → (i : ℕ) → i < count c → Point op m (nth i c) (nth i d)
  unfolding Point count nth
  points-nth m nil nil h i l = absurd (omega (arith, l))
  points-nth m nil (s ▸ d) h i l = absurd h
  points-nth m (r ▸ c) nil h i l = absurd h
  points-nth m (r ▸ c) (s ▸ d) h zero l = h.0
  points-nth m (r ▸ c) (s ▸ d) h (suc i) l = points-nth m c d h.1 i (omega (arith, l))

  -- where Point holds and no name is shortened, none is put ahead
  even : (m : Module) (this that : Record) → Point op m this that → 2 ≤ code (meets this that) → ahead this that ≡ 0
  unfolding Point
  even m (leaf k b) that h l = refl
  even m (node k c) (leaf j d) h l = absurd h
  even m (node k c) (node j d) h l = go (meeting k j) refl
    where
      go : (x : Meeting) → meeting k j ≡ x → count d - count c ≡ 0
      go short_type e = absurd (let f = ap code e in omega (arith, l, f))
      go short_expr e = absurd (let f = ap code e in omega (arith, l, f))
      go module' e =
          let n = points-count _ c (set_nth 3 (aside (node k c) (node j d)) d) (rw e at h).2 in
          let g = count_set 3 (aside (node k c) (node j d)) d in
          omega (arith, n, g)
      go elsewhere e = let n = points-count m c d (rw e at h).1 in omega (arith, n)

  -- Point holds of a record, with those put ahead taken out of the output's, wherever the walk goes on
  abbrev Good : Module → (this that : Record) → Type 0
  Good m this that = 2 ≤ code (meets this that) → Point op m this (put (skip (ahead this that) (children that)) that)

  good-even : (m : Module) (this that : Record) → Point op m this that → Good m this that
  good-even m this that h l = subst (Point op m this) (sym (ap (λ (n : ℕ). put (skip n (children that)) that) (even m this that h l) ∙ skip-none that)) h

  module _ (k j : ℕ) (c d : Records) where
    abbrev Ahead : ℕ
    Ahead = count d - count c

    -- a child of such a pair: of a module its field 3 may have some put ahead, no other
    child-elsewhere : (m : Module) → meeting k j ≡ elsewhere → Point op m (node k c) (node j (skip Ahead d)) → (i : ℕ) → i < count c
        → Point op m (nth i c) (nth (Ahead + i) d)
    unfolding Point
    child-elsewhere m e h i l = subst (Point op m (nth i c)) (nth-skip i Ahead d) (points-nth m c (skip Ahead d) (rw e at h).1 i l)

    abbrev Inner : Module → Module
    Inner m = module_of op m (node k c) (node j (skip Ahead d))

    fields : (m : Module) → meeting k j ≡ module' → Point op m (node k c) (node j (skip Ahead d))
        → Points op (Inner m) c (set_nth 3 (aside (node k c) (node j (skip Ahead d))) (skip Ahead d))
    unfolding Point
    fields m e h = (rw e at h).2

    child-other : (m : Module) → meeting k j ≡ module' → Point op m (node k c) (node j (skip Ahead d)) → (i : ℕ) → i < count c → (i ≡ 3 → ⊥)
        → Point op (Inner m) (nth i c) (nth (Ahead + i) d)
    child-other m e h i l o =
        subst (Point op (Inner m) (nth i c)) (nth-other i 3 (aside (node k c) (node j (skip Ahead d))) (skip Ahead d) o ∙ nth-skip i Ahead d)
        (points-nth (Inner m) c (set_nth 3 (aside (node k c) (node j (skip Ahead d))) (skip Ahead d)) (fields m e h) i l)

    child-body : (m : Module) → meeting k j ≡ module' → Point op m (node k c) (node j (skip Ahead d)) → 3 < count c
        → Point op (Inner m) (nth 3 c) (put (skip (count (children (nth (Ahead + 3) d)) - count (children (nth 3 c))) (children (nth (Ahead + 3) d)))
        (nth (Ahead + 3) d))
    child-body m e h l =
        let f = aside (node k c) (node j (skip Ahead d)) in
        let g = points-count (Inner m) c (set_nth 3 f (skip Ahead d)) (fields m e h) ∙ count_set 3 f (skip Ahead d) in
        subst (λ (b : Record). Point op (Inner m) (nth 3 c) (put (skip (count (children b) - count (children (nth 3 c))) (children b)) b)) (nth-skip 3 Ahead d)
        (subst (Point op (Inner m) (nth 3 c)) (nth-same 3 f (skip Ahead d) (omega (arith, l, g)))
        (points-nth (Inner m) c (set_nth 3 f (skip Ahead d)) (fields m e h) 3 l))

    -- those put ahead in the body are uses
    body-uses : (m : Module) → meeting k j ≡ module' → Point op m (node k c) (node j (skip Ahead d)) → (n : ℕ)
        → n < ahead (nth 3 c) (nth (Ahead + 3) d) → kind (nth n (children (nth (Ahead + 3) d))) ≡ 0x6A
    unfolding Point
    body-uses m e h n l =
        subst (λ (b : Record). n < ahead (nth 3 c) b → kind (nth n (children b)) ≡ 0x6A) (nth-skip 3 Ahead d)
        (λ l. use-kind n (children (nth 3 (skip Ahead d))) (count (children (nth 3 (skip Ahead d))) - count (children (nth 3 c))) (rw e at h).1.are_uses
        (ahead-most n (nth 3 c) (nth 3 (skip Ahead d)) l) (omega arith)) l

  -- which is so of a body
  good-body : (m : Module) (this that : Record) → Point op m this (put (skip (count (children that) - count (children this)) (children that)) that)
      → Good m this that
  unfolding Point
  good-body m (leaf k b) (leaf j d) h l = h
  good-body m (leaf k b) (node j d) h l = absurd h
  good-body m (node k c) that h l = h

  -- what is put ahead where a path leads is put ahead at once, or is a use
  module _ (p : ℕ) where
    none_ahead : (m : Module) (at : ℕ) (this that : Record) → Point op m this that → AheadAt p (spot at this that) → ⊥
    none_ahead m at this that h a =
        let e = even m this that h (long a.goes-on.0 a.goes-on.1) in
        let l = a.is-ahead in
        omega (arith, e, l)

    child-leads : (s : Spot) (i : ℕ) (m : Module) → has_child s i ≡ true → 2 ≤ code (meets s.this s.that)
        → Point op m (beside s i).this (beside s i).that
        → Reaches (beside s i) (UseAt p) ⊎ AheadAt p (beside s i) → Reaches s (UseAt p) ⊎ AheadAt p s
    child-leads s i m x l h =
        ⊎_elim (λ r. inl (met-child s i x (other-type l) (other-expr l) r))
        (λ a. absurd (none_ahead m (beside s i).at (beside s i).this (beside s i).that h a))

    body-leads : (s : Spot) → has_child s 3 ≡ true → meets s.this s.that ≡ module'
        → ((n : ℕ) → n < ahead (beside s 3).this (beside s 3).that → kind (nth n (children (beside s 3).that)) ≡ 0x6A)
        → Reaches (beside s 3) (UseAt p) ⊎ AheadAt p (beside s 3) → Reaches s (UseAt p) ⊎ AheadAt p s
    body-leads s x e u =
        let l : 2 ≤ code (meets s.this s.that) = let f = ap code e in omega (arith, f) in
        ⊎_elim (λ r. inl (met-child s 3 x (other-type l) (other-expr l) r))
        (λ a. inl (met-here s (record { is-module = e; has_body = x; in_body = a; is-use = u a.number a.is-ahead })))

    -- a step by child i, given what holds of the rest of the path
    step-leads : (at k j : ℕ) (c d : Records) (i : ℕ) (m : Module) → has_child (spot at (node k c) (node j d)) i ≡ true
        → 2 ≤ code (meeting k j) → Point op m (node k c) (node j (skip (count d - count c) d))
        → ((m' : Module) → Good m' (nth i c) (nth (count d - count c + i) d)
        → Reaches (beside (spot at (node k c) (node j d)) i) (UseAt p) ⊎ AheadAt p (beside (spot at (node k c) (node j d)) i))
        → Reaches (spot at (node k c) (node j d)) (UseAt p) ⊎ AheadAt p (spot at (node k c) (node j d))
    step-leads at k j c d i m x l h rest = go (meeting k j) refl
      where
        inside : i < count c
        inside = (both (spot at (node k c) (node j d)) i x).0

        go : (y : Meeting) → meeting k j ≡ y → Reaches (spot at (node k c) (node j d)) (UseAt p) ⊎ AheadAt p (spot at (node k c) (node j d))
        go short_type e = absurd (let f = ap code e in omega (arith, l, f))
        go short_expr e = absurd (let f = ap code e in omega (arith, l, f))
        go elsewhere e =
            let g = child-elsewhere k j c d m e h i inside in
            child-leads (spot at (node k c) (node j d)) i m x l g (rest m (good-even m (nth i c) (nth (count d - count c + i) d) g))
        go module' e =
            by-test (eqb i 3)
            (λ t. let q = eqb-true i 3 t in
            subst (λ (n : ℕ). n < count c → has_child (spot at (node k c) (node j d)) n ≡ true
            → ((m' : Module) → Good m' (nth n c) (nth (count d - count c + n) d)
            → Reaches (beside (spot at (node k c) (node j d)) n) (UseAt p) ⊎ AheadAt p (beside (spot at (node k c) (node j d)) n))
            → Reaches (spot at (node k c) (node j d)) (UseAt p) ⊎ AheadAt p (spot at (node k c) (node j d))) (sym q)
            (λ b x rest. body-leads (spot at (node k c) (node j d)) x e (body-uses k j c d m e h)
            (rest (Inner k j c d m) (good-body (Inner k j c d m) (nth 3 c) (nth (count d - count c + 3) d) (child-body k j c d m e h b))))
            inside x rest)
            (λ t. let g = child-other k j c d m e h i inside (eqb-false i 3 t) in
            child-leads (spot at (node k c) (node j d)) i (Inner k j c d m) x l g
            (rest (Inner k j c d m) (good-even (Inner k j c d m) (nth i c) (nth (count d - count c + i) d) g)))

    ahead-leads : (path : List ℕ) (m : Module) (at : ℕ) (this that : Record) (to : Spot) → Good m this that → follow path (spot at this that) ≡ some to
        → AheadAt p to → Reaches (spot at this that) (UseAt p) ⊎ AheadAt p (spot at this that)
    unfolding follow count
    ahead-leads [] m at this that to h q a = inr (subst (AheadAt p) (sym (some-injective _ _ q)) a)
    ahead-leads (i ∷ path) m at (leaf k b) that to h q a =
        absurd (let z = (both (spot at (leaf k b) that) i (stepped elsewhere (spot at (leaf k b) that) i path to q).1).0 in omega (arith, z))
    ahead-leads (i ∷ path) m at (node k c) (leaf j d) to h q a =
        absurd (let z = (both (spot at (node k c) (leaf j d)) i (stepped elsewhere (spot at (node k c) (leaf j d)) i path to q).1).1 in omega (arith, z))
    ahead-leads (i ∷ path) m at (node k c) (node j d) to h q a =
        let y = stepped (meeting k j) (spot at (node k c) (node j d)) i path to q in
        step-leads at k j c d i m y.1 y.0 (h y.0) (λ m' g. ahead-leads path m' _ (nth i c) _ to g y.2 a)

    -- and a use is put ahead in the body, one step on
    use-ahead : (path : List ℕ) (s t : Spot) → follow path s ≡ some t → UseAt p t → Reaches s (AheadAt p)
    unfolding follow
    use-ahead [] s t q u =
        let f = ap code u.is-module in
        let e = some-injective _ _ q in
        subst (λ (x : Spot). Reaches x (AheadAt p)) (sym e)
        (met-child t 3 u.has_body (other-type (omega (arith, f))) (other-expr (omega (arith, f))) (met-here (beside t 3) u.in_body))
    use-ahead (i ∷ path) s t q u =
        let y = stepped (meets s.this s.that) s i path t q in
        met-child s i y.1 (other-type y.0) (other-expr y.0) (use-ahead path (beside s i) t y.2 u)

  -- THE LAW
  pub exact : (m : Module) (this that : Record) → Point op m this that → Exact (spot 0 this that) (places_of 0 this that)
  exact m this that h =
      record {
        types = λ p. (
          (λ x. reaches-as (is-type p) (met (entry p 1) x)),
          (λ x. met-listed (entry p 1) x.path 0 this that x.to x.leads (type-here x.holds.0 (ap (λ (q : ℕ). entry q 1) (sym x.holds.1)))),
        );
        exprs = λ p. (
          (λ x. reaches-as (is-expr p) (met (entry p 2) x)),
          (λ x. met-listed (entry p 2) x.path 0 this that x.to x.leads (expr-here x.holds.0 (ap (λ (q : ℕ). entry q 2) (sym x.holds.1)))),
        );
        uses = λ p. (
          (λ x. is-used p (reaches-as (is-use p) (met (entry p 3) x))),
          (λ x. let y = use-ahead p x.path (spot 0 this that) x.to x.leads x.holds in
              met-listed (entry p 3) y.path 0 this that y.to y.leads (use-here y.holds refl)),
        );
        marks = λ e x. let y = met e x in marked e y.to y.holds;
        rising = rises 0 this that;
      }
    where
      met : (e : Entry) → In e (places_of 0 this that) → Reaches (spot 0 this that) (Here e)
      met e x = places-met e (deep this) 0 this that (le_refl (deep this)) x

      reaches-as : {P Q : Spot → Type 0} {s : Spot} → ((t : Spot) → P t → Q t) → Reaches s P → Reaches s Q
      reaches-as f x = record { path = x.path; to = x.to; leads = x.leads; holds = f x.to x.holds }

      marked : (e : Entry) (t : Spot) → Here e t → (e.mark ≡ 1) ⊎ ((e.mark ≡ 2) ⊎ (e.mark ≡ 3))
      marked e t (type-here q x) = inl (ap (λ (y : Entry). y.mark) x)
      marked e t (expr-here q x) = inr (inl (ap (λ (y : Entry). y.mark) x))
      marked e t (use-here q x) = inr (inr x)

      is-type : (p : ℕ) (t : Spot) → Here (entry p 1) t → ShortAt short_type p t
      is-type p t (type-here q x) = (q, sym (ap (λ (y : Entry). y.offset) x))
      is-type p t (expr-here q x) = absurd (let f = ap (λ (y : Entry). y.mark) x in omega (arith, f))
      is-type p t (use-here q x) = absurd (omega (arith, x))

      is-expr : (p : ℕ) (t : Spot) → Here (entry p 2) t → ShortAt short_expr p t
      is-expr p t (type-here q x) = absurd (let f = ap (λ (y : Entry). y.mark) x in omega (arith, f))
      is-expr p t (expr-here q x) = (q, sym (ap (λ (y : Entry). y.offset) x))
      is-expr p t (use-here q x) = absurd (omega (arith, x))

      is-use : (p : ℕ) (t : Spot) → Here (entry p 3) t → AheadAt p t
      is-use p t (type-here q x) = absurd (let f = ap (λ (y : Entry). y.mark) x in omega (arith, f))
      is-use p t (expr-here q x) = absurd (let f = ap (λ (y : Entry). y.mark) x in omega (arith, f))
      is-use p t (use-here q x) = q

      is-used : (p : ℕ) → Reaches (spot 0 this that) (AheadAt p) → Reaches (spot 0 this that) (UseAt p)
      is-used p x =
          ⊎_elim (λ r. r) (λ a. absurd (none_ahead p m 0 this that h a))
          (ahead-leads p x.path m 0 this that x.to (good-even m this that h) x.leads x.holds)
