-- What is listed is what the walk meets, whatever path leads there, and it stands in the output at its offset. Assumes nothing.
use mathlib.Core.Path.{◌≡◌, refl, sym, ap, ap₂, subst, ◌∙◌}
use mathlib.Core.List.{List, [], ◌∷◌, ◌++◌}
use mathlib.Core.Bool.{true, ◌&&◌, and-eq-true_iff}
use mathlib.Core.Logic.{◌⊎◌, inl, inr, ⊎_elim}
use mathlib.Core.Option.{none, some, some-injective, none-ne-some}
use Prim.Native.Nat.{ℕ, zero, suc, ◌+◌, ◌-◌, ◌<◌, ◌≤◌}
use native.Mathlib.Omega.{arith}
use lib.ListN.{length, length-append}
use lib.Dec.{ltb}
use borrow.Author.Tests.{ltb-true, ltb-false, lt-ltb}
use Rattle.wire.specs.Numbers.{Bytes}
use Rattle.records.specs.Record.{Record, Records, leaf, node, nil, ◌▸◌, encode, encode_all, children, nth, count, first, skip, deep, deep_all}
use Rattle.records.proofs.Starts.{Starts, content-start, first-starts, skip-start}
use Rattle.rast.specs.Path.{whether}
use Rattle.rast.proofs.Tests.{by-test}
use Rattle.points.specs.Points.{Meeting, short_type, short_expr, module', elsewhere, meeting}
use Rattle.places.specs.Places.{Entry, entry, listed, places_of, places_in}
use Rattle.places.specs.Spots.{Spot, spot, meets, ahead, beside, has_child, goes_on, follow, Reaches, AheadAt, In}

-- an entry of one list or of another behind it
in_left : (e : Entry) (es fs : List Entry) → In e es → In e (es ++ fs)
unfolding In
in_left e [] fs h = absurd h
in_left e (f ∷ es) fs (inl h) = inl h
in_left e (f ∷ es) fs (inr h) = inr (in_left e es fs h)

in_right : (e : Entry) (es fs : List Entry) → In e fs → In e (es ++ fs)
unfolding In
in_right e [] fs h = h
in_right e (f ∷ es) fs h = inr (in_right e es fs h)

in_either : (e : Entry) (es fs : List Entry) → In e (es ++ fs) → In e es ⊎ In e fs
unfolding In
in_either e [] fs h = inr h
in_either e (f ∷ es) fs (inl h) = inl (inl h)
in_either e (f ∷ es) fs (inr h) = ⊎_elim (λ x. inl (inr x)) (λ x. inr x) (in_either e es fs h)

-- an entry of one of those put ahead, from an offset on, and of one of those beside a child
record AheadIn (e : Entry) (at : ℕ) (c d : Records) : Type 0 where
  pub number : ℕ
  pub is-ahead : number < count d - count c
  pub is : e ≡ entry (at + length (encode_all (first number d))) 3

record ChildIn (e : Entry) (at : ℕ) (c d : Records) : Type 0 where
  pub number : ℕ
  pub inside : number < count c
  pub is : In e (places_of (at + length (encode_all (first (count d - count c + number) d))) (nth number c) (nth (count d - count c + number) d))

-- behind one more of the output's
first_more : (at : ℕ) (s : Record) (d : Records) (n : ℕ)
    → at + length (encode s) + length (encode_all (first n d)) ≡ at + length (encode_all (first (suc n) (s ▸ d)))
unfolding first encode_all
first_more at s d n = let a = length-append (encode s) (encode_all (first n d)) in omega (arith, a)

module _ (e : Entry) where
  ahead_more : (at : ℕ) (c : Records) (s : Record) (d : Records) → count c ≤ count d → AheadIn e (at + length (encode s)) c d → AheadIn e at c (s ▸ d)
  unfolding count
  ahead_more at c s d l h =
      record {
        number = suc h.number;
        is-ahead = (let a = h.is-ahead in omega (arith, l, a));
        is = h.is ∙ ap (λ (p : ℕ). entry p 3) (first_more at s d h.number);
      }

  child-more : (at : ℕ) (c : Records) (s : Record) (d : Records) → count c ≤ count d → ChildIn e (at + length (encode s)) c d → ChildIn e at c (s ▸ d)
  unfolding count nth
  child-more at c s d l h =
      let n = count d - count c + h.number in
      let g : count (s ▸ d) - count c + h.number ≡ suc n = omega (arith, l) in
      record {
        number = h.number;
        inside = h.inside;
        is = rw g (subst (λ (p : ℕ). In e (places_of p (nth h.number c) (nth n d))) (first_more at s d n) h.is);
      }

  child-next : (at : ℕ) (r : Record) (c : Records) (s : Record) (d : Records) → count d ≤ count c → ChildIn e (at + length (encode s)) c d
      → ChildIn e at (r ▸ c) (s ▸ d)
  unfolding count nth
  child-next at r c s d l h =
      let n = count d - count c + h.number in
      let g : count (s ▸ d) - count (r ▸ c) + suc h.number ≡ suc n = omega (arith, l) in
      record {
        number = suc h.number;
        inside = (let a = h.inside in omega (arith, a));
        is = rw g (subst (λ (p : ℕ). In e (places_of p (nth h.number c) (nth n d))) (first_more at s d n) h.is);
      }

  child-first : (at : ℕ) (r : Record) (c : Records) (s : Record) (d : Records) → count d ≤ count c → In e (places_of at r s) → ChildIn e at (r ▸ c) (s ▸ d)
  unfolding count nth first encode_all
  child-first at r c s d l h =
      let g : count (s ▸ d) - count (r ▸ c) + 0 ≡ 0 = omega (arith, l) in
      let z : at ≡ at + 0 = omega arith in
      record { number = 0; inside = omega arith; is = rw g (subst (λ (p : ℕ). In e (places_of p r s)) z h) }

  ahead-first : (at : ℕ) (c : Records) (s : Record) (d : Records) → count c ≤ count d → e ≡ entry at 3 → AheadIn e at c (s ▸ d)
  unfolding count first encode_all
  ahead-first at c s d l h = record { number = 0; is-ahead = omega (arith, l); is = h ∙ ap (λ (p : ℕ). entry p 3) (let z : at ≡ at + 0 = omega arith in z) }

  -- what is listed of children is of one put ahead, or of one beside
  in-children : (at : ℕ) (c d : Records) → In e (places_in at c d) → AheadIn e at c d ⊎ ChildIn e at c d
  unfolding places_of In count
  in-children at nil nil h = absurd h
  in-children at nil (s ▸ d) (inl h) = inl (ahead-first at nil s d (omega arith) h)
  in-children at nil (s ▸ d) (inr h) =
      ⊎_elim (λ x. inl (ahead_more at nil s d (omega arith) x)) (λ x. inr (child-more at nil s d (omega arith) x))
      (in-children (at + length (encode s)) nil d h)
  in-children at (r ▸ c) nil h = absurd h
  in-children at (r ▸ c) (s ▸ d) h =
      by-test (ltb (count c) (count d))
      (λ t. let l = ltb-true (count c) (count d) t in
      ⊎_elim (λ x. inl (ahead-first at (r ▸ c) s d (omega (arith, l)) x))
      (λ x. ⊎_elim (λ y. inl (ahead_more at (r ▸ c) s d (omega (arith, l)) y)) (λ y. inr (child-more at (r ▸ c) s d (omega (arith, l)) y))
      (in-children (at + length (encode s)) (r ▸ c) d x))
      (rw t at h))
      (λ t. let l = ltb-false (count c) (count d) t in
      ⊎_elim (λ x. inr (child-first at r c s d l x))
      (λ x. ⊎_elim (λ (y : AheadIn e (at + length (encode s)) c d). absurd (let a = y.is-ahead in omega (arith, a, l))) (λ y. inr (child-next at r c s d l y))
      (in-children (at + length (encode s)) c d x))
      (in_either e (places_of at r s) (places_in (at + length (encode s)) c d) (rw t at h)))

  -- and the other way round
  ahead-less : (at : ℕ) (c : Records) (s : Record) (d : Records) → AheadIn e at c (s ▸ d)
      → (e ≡ entry at 3) ⊎ AheadIn e (at + length (encode s)) c d
  unfolding count first encode_all
  ahead-less at c s d h = go h.number h.is-ahead h.is
    where
      go : (n : ℕ) → n < suc (count d) - count c → e ≡ entry (at + length (encode_all (first n (s ▸ d)))) 3
          → (e ≡ entry at 3) ⊎ AheadIn e (at + length (encode s)) c d
      go zero l q = inl (q ∙ ap (λ (p : ℕ). entry p 3) (let z : at + 0 ≡ at = omega arith in z))
      go (suc n) l q = inr (record { number = n; is-ahead = omega (arith, l); is = q ∙ ap (λ (p : ℕ). entry p 3) (sym (first_more at s d n)) })

  ahead-in : (at : ℕ) (c d : Records) → AheadIn e at c d → In e (places_in at c d)
  unfolding places_of In count
  ahead-in at nil nil h = absurd (let a = h.is-ahead in omega (arith, a))
  ahead-in at nil (s ▸ d) h = ⊎_elim (λ x. inl x) (λ x. inr (ahead-in (at + length (encode s)) nil d x)) (ahead-less at nil s d h)
  ahead-in at (r ▸ c) nil h = absurd (let a = h.is-ahead in omega (arith, a))
  ahead-in at (r ▸ c) (s ▸ d) h =
      by-test (ltb (count c) (count d))
      (λ t. rw t (⊎_elim (λ x. inl x) (λ x. inr (ahead-in (at + length (encode s)) (r ▸ c) d x)) (ahead-less at (r ▸ c) s d h)))
      (λ t. absurd (let a = h.is-ahead in let l = ltb-false (count c) (count d) t in omega (arith, a, l)))

  none_beside : (at : ℕ) (this : Record) (k : ℕ) → In e (places_of at this (leaf k [])) → ⊥
  unfolding places_of In
  none_beside at (leaf j b) k h = h
  none_beside at (node j c) k h = h

  child-less : (at : ℕ) (c : Records) (s : Record) (d : Records) → count c ≤ count d → ChildIn e at c (s ▸ d) → ChildIn e (at + length (encode s)) c d
  unfolding count nth
  child-less at c s d l h =
      let n = count d - count c + h.number in
      let g : suc (count d) - count c + h.number ≡ suc n = omega (arith, l) in
      record {
        number = h.number;
        inside = h.inside;
        is = subst (λ (p : ℕ). In e (places_of p (nth h.number c) (nth n d))) (sym (first_more at s d n)) (rw g at h.is);
      }

  child-before : (at : ℕ) (r : Record) (c : Records) (s : Record) (d : Records) → count d ≤ count c → ChildIn e at (r ▸ c) (s ▸ d)
      → In e (places_of at r s) ⊎ ChildIn e (at + length (encode s)) c d
  unfolding count nth first encode_all
  child-before at r c s d l h = go h.number h.inside h.is
    where
      none : suc (count d) - suc (count c) ≡ 0
      none = omega (arith, l)

      as_many : count d - count c ≡ 0
      as_many = omega (arith, l)

      go : (n : ℕ) → n < suc (count c)
          → In e (places_of (at + length (encode_all (first (suc (count d) - suc (count c) + n) (s ▸ d)))) (nth n (r ▸ c))
          (nth (suc (count d) - suc (count c) + n) (s ▸ d)))
          → In e (places_of at r s) ⊎ ChildIn e (at + length (encode s)) c d
      go zero b q = inl (subst (λ (p : ℕ). In e (places_of p r s)) (let z : at + 0 ≡ at = omega arith in z) (rw none at q))
      go (suc n) b q =
          let g : suc (count d) - suc (count c) + suc n ≡ suc n = omega (arith, none) in
          let f : count d - count c + n ≡ n = omega (arith, as_many) in
          inr (record {
            number = n;
            inside = omega (arith, b);
            is = rw f (subst (λ (p : ℕ). In e (places_of p (nth n c) (nth n d))) (sym (first_more at s d n)) (rw g at q));
          })

  child-in : (at : ℕ) (c d : Records) → ChildIn e at c d → In e (places_in at c d)
  unfolding places_of In count nth
  child-in at nil nil h = absurd (let a = h.inside in omega (arith, a))
  child-in at nil (s ▸ d) h = absurd (let a = h.inside in omega (arith, a))
  child-in at (r ▸ c) nil h = absurd (none_beside _ (nth h.number (r ▸ c)) 1 h.is)
  child-in at (r ▸ c) (s ▸ d) h =
      by-test (ltb (count c) (count d))
      (λ t. let l = ltb-true (count c) (count d) t in
      rw t (inr (child-in (at + length (encode s)) (r ▸ c) d (child-less at (r ▸ c) s d (omega (arith, l)) h))))
      (λ t. let l = ltb-false (count c) (count d) t in
      rw t (⊎_elim (in_left e (places_of at r s) (places_in (at + length (encode s)) c d))
      (λ x. in_right e (places_of at r s) (places_in (at + length (encode s)) c d) (child-in (at + length (encode s)) c d x))
      (child-before at r c s d l h)))

  -- the output has the child that something is listed of
  past-none : (i : ℕ) (d : Records) → count d ≤ i → nth i d ≡ leaf 0x01 []
  unfolding count nth
  past-none i nil l = refl
  past-none zero (s ▸ d) l = absurd (omega (arith, l))
  past-none (suc i) (s ▸ d) l = past-none i d (omega (arith, l))

  child-there : (at : ℕ) (c d : Records) → (x : ChildIn e at c d) → count d - count c + x.number < count d
  child-there at c d x =
      by-test (ltb i (count d)) (λ t. ltb-true i (count d) t)
      (λ t. absurd (none_beside _ (nth x.number c) 1 (rw (past-none i d (ltb-false i (count d) t)) at x.is)))
    where
      i : ℕ
      i = count d - count c + x.number

-- the last path step: what an entry says of the spot itself
pub data Here (e : Entry) (s : Spot) : Type 0 where
  type-here : meets s.this s.that ≡ short_type → e ≡ entry s.at 1 → Here e s
  expr-here : meets s.this s.that ≡ short_expr → e ≡ entry s.at 2 → Here e s
  use-here : AheadAt e.offset s → e.mark ≡ 3 → Here e s

deep-nth : (i : ℕ) (c : Records) → i < count c → deep (nth i c) ≤ deep_all c
unfolding count nth deep
deep-nth i nil l = absurd (omega (arith, l))
deep-nth zero (r ▸ c) l = omega arith
deep-nth (suc i) (r ▸ c) l = let h = deep-nth i c (omega (arith, l)) in omega (arith, h)

-- the walk goes on to a child where no name is shortened
goes-on : (m : Meeting) → (m ≡ short_type → ⊥) → (m ≡ short_expr → ⊥) → (s : Spot) (i : ℕ) → has_child s i ≡ true → goes_on m s i ≡ some (beside s i)
goes-on short_type a b s i l = absurd (a refl)
goes-on short_expr a b s i l = absurd (b refl)
goes-on module' a b s i l = rw l
goes-on elsewhere a b s i l = rw l

module _ {P : Spot → Type 0} where
  pub met-here : (s : Spot) → P s → Reaches s P
  unfolding follow
  met-here s h = record { path = []; to = s; leads = refl; holds = h }

  pub met-child : (s : Spot) (i : ℕ) → has_child s i ≡ true → (meets s.this s.that ≡ short_type → ⊥)
      → (meets s.this s.that ≡ short_expr → ⊥) → Reaches (beside s i) P → Reaches s P
  unfolding follow
  met-child s i l a b h =
      record {
        path = i ∷ h.path;
        to = h.to;
        leads = rw (goes-on (meets s.this s.that) a b s i l) h.leads;
        holds = h.holds;
      }

-- the meetings are four
abbrev pub code : Meeting → ℕ
code short_type = 0
code short_expr = 1
code module' = 2
code elsewhere = 3

pub other-type : {m : Meeting} → 2 ≤ code m → m ≡ short_type → ⊥
other-type l e = let f = ap code e in omega (arith, l, f)

pub other-expr : {m : Meeting} → 2 ≤ code m → m ≡ short_expr → ⊥
other-expr l e = let f = ap code e in omega (arith, l, f)

-- where no name is shortened, what is listed is of one put ahead, or of one beside a child
inside-met : (e : Entry) (at k j : ℕ) (c d : Records) → 2 ≤ code (meeting k j)
    → (ChildIn e (at + 6) c d → 2 ≤ code (meeting k j) → Reaches (spot at (node k c) (node j d)) (Here e))
    → In e (places_in (at + 6) c d) → Reaches (spot at (node k c) (node j d)) (Here e)
inside-met e at k j c d l f h =
    ⊎_elim
    (λ (x : AheadIn e (at + 6) c d). met-here (spot at (node k c) (node j d))
    (use-here (record {
      number = x.number;
      is-ahead = x.is-ahead;
      goes-on = (other-type l, other-expr l);
      offset-is = ap (λ (y : Entry). y.offset) x.is;
    }) (ap (λ (y : Entry). y.mark) x.is)))
    (λ x. f x l)
    (in-children e (at + 6) c d h)

pub long : {m : Meeting} → (m ≡ short_type → ⊥) → (m ≡ short_expr → ⊥) → 2 ≤ code m
long {m} a b = go m a b
  where
    go : (m : Meeting) → (m ≡ short_type → ⊥) → (m ≡ short_expr → ⊥) → 2 ≤ code m
    go short_type a b = absurd (a refl)
    go short_expr a b = absurd (b refl)
    go module' a b = omega arith
    go elsewhere a b = omega arith

-- by the next step of a path
pub stepped : (m : Meeting) (s : Spot) (i : ℕ) (path : List ℕ) (to : Spot) → whether (goes_on m s i) none (follow path) ≡ some to
    → (2 ≤ code m) × (has_child s i ≡ true) × (follow path (beside s i) ≡ some to)
stepped short_type s i path to q = absurd (none-ne-some to q)
stepped short_expr s i path to q = absurd (none-ne-some to q)
stepped module' s i path to q = by-test (has_child s i) (λ t. (omega arith, t, rw t at q)) (λ t. absurd (none-ne-some to (rw t at q)))
stepped elsewhere s i path to q = by-test (has_child s i) (λ t. (omega arith, t, rw t at q)) (λ t. absurd (none-ne-some to (rw t at q)))

-- both children are there
pub both : (s : Spot) (i : ℕ) → has_child s i ≡ true → (i < count (children s.this)) × (ahead s.this s.that + i < count (children s.that))
both s i h =
    let g = (and-eq-true_iff _ _).0 h in
    (ltb-true i (count (children s.this)) g.0, ltb-true (ahead s.this s.that + i) (count (children s.that)) g.1)

module _ (e : Entry) where
  -- what is listed is met: given that of what is beside a child
  listed-met : (at k j : ℕ) (c d : Records) → (ChildIn e (at + 6) c d → 2 ≤ code (meeting k j) → Reaches (spot at (node k c) (node j d)) (Here e))
      → (m : Meeting) → meeting k j ≡ m → In e (listed m at (places_in (at + 6) c d)) → Reaches (spot at (node k c) (node j d)) (Here e)
  unfolding In
  listed-met at k j c d f short_type q (inl h) = met-here (spot at (node k c) (node j d)) (type-here q h)
  listed-met at k j c d f short_type q (inr h) = absurd h
  listed-met at k j c d f short_expr q (inl h) = met-here (spot at (node k c) (node j d)) (expr-here q h)
  listed-met at k j c d f short_expr q (inr h) = absurd h
  listed-met at k j c d f module' q h = inside-met e at k j c d (let g = ap code q in omega (arith, g)) f h
  listed-met at k j c d f elsewhere q h = inside-met e at k j c d (let g = ap code q in omega (arith, g)) f h

  pub places-met : (n at : ℕ) (this that : Record) → deep this ≤ n → In e (places_of at this that) → Reaches (spot at this that) (Here e)
  unfolding places_of In deep
  places-met zero at (leaf k b) that l h = absurd h
  places-met zero at (node k c) that l h = absurd (omega (arith, l))
  places-met (suc n) at (leaf k b) that l h = absurd h
  places-met (suc n) at (node k c) (leaf j d) l h = absurd h
  places-met (suc n) at (node k c) (node j d) l h =
      listed-met at k j c d
      (λ x g. met-child (spot at (node k c) (node j d)) x.number
      (ap₂ ◌&&◌ (lt-ltb x.number (count c) x.inside) (lt-ltb (count d - count c + x.number) (count d) (child-there e (at + 6) c d x)))
      (other-type g) (other-expr g)
      (places-met n _ _ _ (let y = deep-nth x.number c x.inside in omega (arith, l, y)) x.is))
      (meeting k j) refl h

  -- what is met is listed
  inside-in : (at : ℕ) (m : Meeting) (es : List Entry) → 2 ≤ code m → In e es → In e (listed m at es)
  inside-in at short_type es l h = absurd (omega (arith, l))
  inside-in at short_expr es l h = absurd (omega (arith, l))
  inside-in at module' es l h = h
  inside-in at elsewhere es l h = h

  here_in : (at : ℕ) (this that : Record) → Here e (spot at this that) → In e (places_of at this that)
  unfolding places_of In count
  here_in at (leaf k b) that (type-here q h) = absurd (other-type {m = elsewhere} (omega arith) q)
  here_in at (leaf k b) that (expr-here q h) = absurd (other-expr {m = elsewhere} (omega arith) q)
  here_in at (leaf k b) that (use-here h g) = absurd (let a = h.is-ahead in omega (arith, a))
  here_in at (node k c) (leaf j d) (type-here q h) = absurd (other-type {m = elsewhere} (omega arith) q)
  here_in at (node k c) (leaf j d) (expr-here q h) = absurd (other-expr {m = elsewhere} (omega arith) q)
  here_in at (node k c) (leaf j d) (use-here h g) = absurd (none h.is-ahead)
    where
      none : {n : ℕ} → n < count nil - count c → ⊥
      none a = omega (arith, a)
  here_in at (node k c) (node j d) (type-here q h) = rw q (inl h)
  here_in at (node k c) (node j d) (expr-here q h) = rw q (inl h)
  here_in at (node k c) (node j d) (use-here h g) =
      inside-in at (meeting k j) (places_in (at + 6) c d) (long h.goes-on.0 h.goes-on.1)
      (ahead-in e (at + 6) c d (record { number = h.number; is-ahead = h.is-ahead; is = ap₂ entry h.offset-is g }))

  pub met-listed : (path : List ℕ) (at : ℕ) (this that : Record) (to : Spot) → follow path (spot at this that) ≡ some to → Here e to
      → In e (places_of at this that)
  unfolding follow places_of count nth
  met-listed [] at this that to q h = here_in at this that (subst (Here e) (sym (some-injective _ _ q)) h)
  met-listed (i ∷ path) at (leaf k b) that to q h =
      absurd (let a = (both (spot at (leaf k b) that) i (stepped elsewhere (spot at (leaf k b) that) i path to q).1).0 in omega (arith, a))
  met-listed (i ∷ path) at (node k c) (leaf j d) to q h =
      let a = (both (spot at (node k c) (leaf j d)) i (stepped elsewhere (spot at (node k c) (leaf j d)) i path to q).1).1 in
      absurd (omega (arith, a))
  met-listed (i ∷ path) at (node k c) (node j d) to q h =
      let a = stepped (meeting k j) (spot at (node k c) (node j d)) i path to q in
      inside-in at (meeting k j) (places_in (at + 6) c d) a.0
      (child-in e (at + 6) c d
      (record { number = i; inside = (both (spot at (node k c) (node j d)) i a.1).0; is = met-listed path _ (nth i c) _ to a.2 h }))

-- what a path leads to stands in the output at its offset
skip-nth : (i : ℕ) (d : Records) → i < count d → skip i d ≡ (nth i d ▸ skip (suc i) d)
unfolding skip nth count
skip-nth i nil l = absurd (omega (arith, l))
skip-nth zero (s ▸ d) l = refl
skip-nth (suc i) (s ▸ d) l = skip-nth i d (omega (arith, l))

pub child-starts : {bytes : Bytes} (at i k : ℕ) (d : Records) → i < count d → Starts bytes at (node k d)
    → Starts bytes (at + 6 + length (encode_all (first i d))) (nth i d)
child-starts at i k d l h = first-starts (rw (skip-nth i d l) at (skip-start i d (content-start h)))

pub there : (bytes : Bytes) (path : List ℕ) (at : ℕ) (this that : Record) (s : Spot) → Starts bytes at that → follow path (spot at this that) ≡ some s
    → Starts bytes s.at s.that
unfolding follow count
there bytes [] at this that s h q = subst (λ (t : Spot). Starts bytes t.at t.that) (some-injective _ _ q) h
there bytes (i ∷ path) at this (leaf j d) s h q =
    let a = stepped (meets this (leaf j d)) (spot at this (leaf j d)) i path s q in
    absurd (let b = (both (spot at this (leaf j d)) i a.1).1 in omega (arith, b))
there bytes (i ∷ path) at this (node j d) s h q =
    let a = stepped (meets this (node j d)) (spot at this (node j d)) i path s q in
    there bytes path _ _ _ s (child-starts at (ahead this (node j d) + i) j d (both (spot at this (node j d)) i a.1).1 h) a.2
