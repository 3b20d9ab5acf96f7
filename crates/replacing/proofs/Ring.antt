-- The walk over bytes, step by step, and what a step may ask of the next. Assumes nothing.
use mathlib.Core.Path.{◌≡◌, refl, sym, ap, ◌∙◌}
use mathlib.Core.Bool.{Bool, true, false, ◌||◌, cond}
use mathlib.Core.List.{List, ◌++◌}
use Prim.Native.Nat.{ℕ, zero, suc, ◌+◌, ◌-◌, ◌*◌, ◌^◌, ◌<◌, ◌≤◌}
use native.Mathlib.Omega.{arith}
use lib.ListN.{length, take, drop, length-append, length-take}
use lib.Dec.{eqb}
use borrow.Author.Tests.{eq-eqb, ne_eqb, lt-ltb, le-ltb}
use Rattle.wire.specs.Numbers.{Bytes}
use Rattle.records.specs.Record.{record_bytes, kind_of, content_of, rest_of}
use Rattle.records.specs.Kinds.{stands, type, expr}
use Rattle.records.proofs.Tree.{record-length}
use Rattle.factor_paths.specs.Walk.{Step, a_type, an_expr, a_fn, left, holds, step_of, deeper}
use Rattle.operation.specs.Operations.{operation_of}
use Rattle.prefix.specs.Prefix.{Scope}
use Rattle.steps.specs.Steps.{is_left}
use Rattle.laying.specs.Lays.{lay, Laid}
use Rattle.laying.proofs.Laws.{laid_none, laid_then}
use Rattle.heads.specs.Heads.{head_bytes}
use Rattle.heads.proofs.Laws.{laid-record}
use Rattle.rewriting.specs.Shorts.{unfit, type_bytes, expr_bytes, type_laid, expr_laid}
use Rattle.rewriting.specs.Rewrites.{parts_of, each, counted, uncounted, rewrite, parts, kept, function, declaration}
use Rattle.rewriting.proofs.Bound.{declaration-small}
use Rattle.rewriting.proofs.Lengths.{content-inside, rest-inside}
use Rattle.replacing.specs.Room.{Room}

-- the step at a kind, test by test
pub step-type : (k : ℕ) → stands type k ≡ true → step_of k ≡ a_type
step-type k a = rw a

pub step-expr : (k : ℕ) → stands type k ≡ false → stands expr k ≡ true → step_of k ≡ an_expr
step-expr k a b = rw (a, b)

pub step-fn : (k : ℕ) → stands type k ≡ false → stands expr k ≡ false → k ≡ 0x7D → step_of k ≡ a_fn
step-fn k a b c = rw (a, b, eq-eqb k 0x7D c)

pub step_left : (k : ℕ) → stands type k ≡ false → stands expr k ≡ false → (k ≡ 0x7D → ⊥) → is_left k ≡ true → step_of k ≡ left
step_left k a b c d = rw (a, b, ne_eqb k 0x7D c, d)

pub step-holds : (k : ℕ) → stands type k ≡ false → stands expr k ≡ false → (k ≡ 0x7D → ⊥) → is_left k ≡ false → step_of k ≡ holds
step-holds k a b c d = rw (a, b, ne_eqb k 0x7D c, d)

module _ (s : Scope) (words : List ℕ) (again : Bool) (w : ℕ) (r : Bytes) where
  pub no-depth : (d : ℕ) → d ≡ 0 → rewrite s words d again w r ≡ r
  unfolding rewrite
  no-depth d e = rw e

  module _ (d : ℕ) where
    pub type-path : step_of (kind_of r) ≡ a_type → kind_of r ≡ 0x2D → rewrite s words (suc d) again w r ≡ type_bytes s words w r
    unfolding rewrite
    type-path a b = rw (a, eq-eqb (kind_of r) 0x2D b)

    pub type-other : step_of (kind_of r) ≡ a_type → (kind_of r ≡ 0x2D → ⊥) → rewrite s words (suc d) again w r ≡ kept s words d again (deeper again w) r
    unfolding rewrite kept parts
    type-other a b = rw (a, ne_eqb (kind_of r) 0x2D b)

    pub expr-path : step_of (kind_of r) ≡ an_expr → kind_of r ≡ 0x5C → rewrite s words (suc d) again w r ≡ expr_bytes s words r
    unfolding rewrite
    expr-path a b = rw (a, eq-eqb (kind_of r) 0x5C b)

    pub expr-other : step_of (kind_of r) ≡ an_expr → (kind_of r ≡ 0x5C → ⊥) → rewrite s words (suc d) again w r ≡ kept s words d again (deeper again w) r
    unfolding rewrite kept parts
    expr-other a b = rw (a, ne_eqb (kind_of r) 0x5C b)

    pub fn_is : step_of (kind_of r) ≡ a_fn → rewrite s words (suc d) again w r ≡ function s words d r
    unfolding rewrite function parts
    fn_is a = rw a

    pub left_is : step_of (kind_of r) ≡ left → rewrite s words (suc d) again w r ≡ r
    unfolding rewrite
    left_is a = rw a

    pub holds-is : step_of (kind_of r) ≡ holds → rewrite s words (suc d) again w r ≡ kept s words d again w r
    unfolding rewrite kept parts
    holds-is a = rw a

-- what a card brings about is fit
fit-type : (s : Scope) (words : List ℕ) (at w : ℕ) (r : Bytes) → at ≤ 2 ^ 61 → w ≤ 65536 → length r ≤ 65536 → type_bytes s words w r ≡ type_laid s words at w r
unfolding type_laid
fit-type s words at w r a b c = rw (le-ltb (2 ^ 61) at a, le-ltb 65536 w b, le-ltb 65536 (length r) c)

fit-expr : (s : Scope) (words : List ℕ) (at : ℕ) (r : Bytes) → at ≤ 2 ^ 61 → length r ≤ 65536 → expr_bytes s words r ≡ expr_laid s words at r
unfolding expr_laid
fit-expr s words at r a c = rw (le-ltb (2 ^ 61) at a, le-ltb 65536 (length r) c)

-- what is laid, by another name
pub laid_same : (out : Bytes) (at : ℕ) (b b' : Bytes) (e : ℕ) (after : Bytes) → b ≡ b' → Laid out at b' e after → Laid out at b e after
laid_same out at b b' e after h x = rw h x

-- what is asked of the next step: the same bytes, and no more around a type
room-same : (at : ℕ) (b b' : Bytes) (w w' d d' : ℕ) (r : Bytes) → Room at b w d r → b ≡ b' → w' + d' ≤ w + d → Room at b' w' d' r
room-same at b b' w w' d d' r h e l = record { space = rw e at h.space; counts = omega (arith, h.counts, l); small = h.small }

deeper-less : (again : Bool) (w d : ℕ) → deeper again w + d ≤ w + suc d
deeper-less true w d = omega arith
deeper-less false w d = omega arith

-- a type and an expression whose content is next: d is one less deep
module _ (s : Scope) (words : List ℕ) (again : Bool) (w : ℕ) (r : Bytes) (d k at : ℕ) (y : k ≡ kind_of r) (out : Bytes) (e : ℕ) (after : Bytes) where
  module _ (t : step_of (kind_of r) ≡ a_type) where
    pub type-asks : (k ≡ 0x2D → ⊥) → (v : ℕ) → v ≡ deeper again w → Room at (rewrite s words (suc d) again w r) w (suc d) r
        → Room at (kept s words d again v r) v d r
    type-asks n v f h =
        room-same at _ _ w v (suc d) d r h (type-other s words again w r d t (λ z. n (y ∙ z)) ∙ ap (λ (x : ℕ). kept s words d again x r) (sym f))
        (let l = deeper-less again w d in rw f l)

    pub type-gives : (k ≡ 0x2D → ⊥) → (v : ℕ) → v ≡ deeper again w → Laid out at (kept s words d again v r) e after
        → Laid out at (rewrite s words (suc d) again w r) e after
    type-gives n v f = laid_same out at _ _ e after (type-other s words again w r d t (λ z. n (y ∙ z)) ∙ ap (λ (x : ℕ). kept s words d again x r) (sym f))

    pub path-type-gives : k ≡ 0x2D → Room at (rewrite s words (suc d) again w r) w (suc d) r → Laid out at (type_laid s words at w r) e after
        → Laid out at (rewrite s words (suc d) again w r) e after
    path-type-gives n h = laid_same out at _ _ e after (type-path s words again w r d t (sym y ∙ n) ∙ fits)
      where
        fits : type_bytes s words w r ≡ type_laid s words at w r
        fits = fit-type s words at w r (omega (arith, h.space)) (omega (arith, h.counts)) h.small

  module _ (t : step_of (kind_of r) ≡ an_expr) where
    pub expr-asks : (k ≡ 0x5C → ⊥) → (v : ℕ) → v ≡ deeper again w → Room at (rewrite s words (suc d) again w r) w (suc d) r
        → Room at (kept s words d again v r) v d r
    expr-asks n v f h =
        room-same at _ _ w v (suc d) d r h (expr-other s words again w r d t (λ z. n (y ∙ z)) ∙ ap (λ (x : ℕ). kept s words d again x r) (sym f))
        (let l = deeper-less again w d in rw f l)

    pub expr-gives : (k ≡ 0x5C → ⊥) → (v : ℕ) → v ≡ deeper again w → Laid out at (kept s words d again v r) e after
        → Laid out at (rewrite s words (suc d) again w r) e after
    expr-gives n v f = laid_same out at _ _ e after (expr-other s words again w r d t (λ z. n (y ∙ z)) ∙ ap (λ (x : ℕ). kept s words d again x r) (sym f))

    pub path-expr-gives : k ≡ 0x5C → Room at (rewrite s words (suc d) again w r) w (suc d) r → Laid out at (expr_laid s words at r) e after
        → Laid out at (rewrite s words (suc d) again w r) e after
    path-expr-gives n h = laid_same out at _ _ e after (expr-path s words again w r d t (sym y ∙ n) ∙ fits)
      where
        fits : expr_bytes s words r ≡ expr_laid s words at r
        fits = fit-expr s words at r (omega (arith, h.space)) h.small

-- a record, l deep: what the members of the ring that it goes to are asked, and what they give
module _ (s : Scope) (words : List ℕ) (again : Bool) (w : ℕ) (r : Bytes) (at l : ℕ) (out : Bytes) (e : ℕ) (after : Bytes) where
  pub no-depth-gives : l ≡ 0 → after ≡ lay out at r → Laid out at (rewrite s words l again w r) (at + length r) after
  no-depth-gives z x = laid_same out at _ r (at + length r) after (no-depth s words again w r l z) (record { ends = refl; bytes = x })

  pub no-depth-fits : l ≡ 0 → Room at (rewrite s words l again w r) w l r → at + length r < 2 ^ 61
  no-depth-fits z h = let a = ap length (no-depth s words again w r l z) in omega (arith, h.space, a)

  module _ (z : l ≡ 0 → ⊥) where
    one : l ≡ suc (l - 1)
    one = omega (arith, z)

    pub less-asks : Room at (rewrite s words l again w r) w l r → Room at (rewrite s words (suc (l - 1)) again w r) w (suc (l - 1)) r
    less-asks h = room-same at _ _ w w l (suc (l - 1)) r h (ap (λ (x : ℕ). rewrite s words x again w r) one) (omega (arith, z))

    pub less-gives : Laid out at (rewrite s words (suc (l - 1)) again w r) e after → Laid out at (rewrite s words l again w r) e after
    less-gives = laid_same out at _ _ e after (ap (λ (x : ℕ). rewrite s words x again w r) one)

    module _ (k : ℕ) (y : k ≡ kind_of r) (a : stands type k ≡ false) (b : stands expr k ≡ false) where
      is-fn : k ≡ 0x7D → rewrite s words l again w r ≡ function s words (l - 1) r
      is-fn n = ap (λ (x : ℕ). rewrite s words x again w r) one ∙ fn_is s words again w r (l - 1) (rw y at (step-fn k a b n))

      pub fn_asks : k ≡ 0x7D → Room at (rewrite s words l again w r) w l r → Room at (function s words (l - 1) r) 1 (l - 1) r
      fn_asks n h = room-same at _ _ w 1 l (l - 1) r h (is-fn n) (omega (arith, z))

      pub fn-gives : k ≡ 0x7D → Laid out at (function s words (l - 1) r) e after → Laid out at (rewrite s words l again w r) e after
      fn-gives n = laid_same out at _ _ e after (is-fn n)

      module _ (n : k ≡ 0x7D → ⊥) where
        is-left : is_left k ≡ true → rewrite s words l again w r ≡ r
        is-left c = ap (λ (x : ℕ). rewrite s words x again w r) one ∙ left_is s words again w r (l - 1) (rw y at (step_left k a b n c))

        pub left-gives : is_left k ≡ true → after ≡ lay out at r → Laid out at (rewrite s words l again w r) (at + length r) after
        left-gives c x = laid_same out at _ r (at + length r) after (is-left c) (record { ends = refl; bytes = x })

        pub left-fits : is_left k ≡ true → Room at (rewrite s words l again w r) w l r → at + length r < 2 ^ 61
        left-fits c h = let i = ap length (is-left c) in omega (arith, h.space, i)

        is-kept : is_left k ≡ false → rewrite s words l again w r ≡ kept s words (l - 1) again w r
        is-kept c = ap (λ (x : ℕ). rewrite s words x again w r) one ∙ holds-is s words again w r (l - 1) (rw y at (step-holds k a b n c))

        pub holds-asks : is_left k ≡ false → Room at (rewrite s words l again w r) w l r → Room at (kept s words (l - 1) again w r) w (l - 1) r
        holds-asks c h = room-same at _ _ w w l (l - 1) r h (is-kept c) (omega (arith, z))

        pub holds-gives : is_left k ≡ false → Laid out at (kept s words (l - 1) again w r) e after → Laid out at (rewrite s words l again w r) e after
        holds-gives c = laid_same out at _ _ e after (is-kept c)

-- a record that is kept: its content, then its head
module _ (s : Scope) (words : List ℕ) (again : Bool) (w : ℕ) (r c : Bytes) (d at : ℕ) (y : c ≡ content_of r) where
  is-content : kept s words d again w r ≡ record_bytes (kind_of r) (parts s words d again w c)
  unfolding kept
  is-content = ap (λ (x : Bytes). record_bytes (kind_of r) (parts s words d again w x)) (sym y)

  pub kept-asks : Room at (kept s words d again w r) w d r → Room (at + 6) (parts s words d again w c) w d c
  kept-asks h =
      let a = ap length is-content in
      let b = record-length (kind_of r) (parts s words d again w c) in
      let i = content-inside r in
      let l = ap length y in
      record { space = omega (arith, h.space, a, b); counts = h.counts; small = omega (arith, h.small, i, l) }

  pub kept_gives : (out : Bytes) (e k : ℕ) (o₁ o₂ : Bytes) → k ≡ kind_of r → Laid out (at + 6) (parts s words d again w c) e o₁
      → o₂ ≡ lay o₁ at (head_bytes (e - at - 4) k) → Laid out at (kept s words d again w r) e o₂
  kept_gives out e k o₁ o₂ z x h =
      laid_same out at _ _ e o₂ is-content (laid-record out at (kind_of r) (parts s words d again w c) e o₁ o₂ x (rw z at h))

-- a Fn: what is not counted, what is, and the head
module _ (s : Scope) (words : List ℕ) (r c b u : Bytes) (d at : ℕ) (y : c ≡ content_of r) (z : b ≡ counted c) (v : u ≡ uncounted c) where
  abbrev Plain : Bytes
  Plain = parts s words d false 1 u

  abbrev Counted : Bytes
  Counted = parts s words d (operation_of s.op).walks_again 1 b

  is-function : function s words d r ≡ record_bytes (kind_of r) (Plain ++ Counted)
  unfolding function
  is-function = rw (v, z, y)

  module _ (h : Room at (function s words d r) 1 d r) where
    small-content : length c ≤ 65536
    small-content = let i = content-inside r in let l = ap length y in omega (arith, h.small, i, l)

    whole : at + 6 + length Plain + length Counted < 2 ^ 61
    whole =
        let a = ap length is-function in
        let l = record-length (kind_of r) (Plain ++ Counted) in
        let m = length-append Plain Counted in
        omega (arith, h.space, a, l, m)

    pub plain-asks : Room (at + 6) Plain 1 d u
    plain-asks =
        let w = whole in
        let i = small-content in
        let l = ap length v in
        let m = length-take (length c - length (counted c)) c in
        record { space = omega arith; counts = h.counts; small = omega arith }

    pub counted-asks : (p : ℕ) → p ≡ at + 6 + length Plain → (again : Bool) → again ≡ (operation_of s.op).walks_again
        → Room p (parts s words d again 1 b) 1 d b
    counted-asks p e again f =
        let w = whole in
        let i = small-content in
        let l = ap length z in
        let m = rest-inside c in
        let n = rest-inside (rest_of c) in
        rw f (record { space = omega arith; counts = h.counts; small = omega arith })

  pub fn-parts-gives : (out : Bytes) (p : ℕ) (o₁ : Bytes) (e : ℕ) (o₂ o₃ : Bytes) (again : Bool) → again ≡ (operation_of s.op).walks_again → kind_of r ≡ 0x7D
      → Laid out (at + 6) Plain p o₁ → Laid o₁ p (parts s words d again 1 b) e o₂ → o₃ ≡ lay o₂ at (head_bytes (e - at - 4) 0x7D)
      → Laid out at (function s words d r) e o₃
  fn-parts-gives out p o₁ e o₂ o₃ again f k x x' h =
      laid_same out at _ _ e o₃ (is-function ∙ ap (λ (n : ℕ). record_bytes n (Plain ++ Counted)) k)
      (laid-record out at 0x7D (Plain ++ Counted) e o₂ o₃ (laid_then out (at + 6) Plain p o₁ Counted e o₂ x (rw f at x')) h)

pub counted-inside : (c a b : Bytes) → a ≡ rest_of c → b ≡ rest_of a → length b ≤ length c
counted-inside c a b e f =
    let i = rest-inside c in
    let j = rest-inside a in
    let m = ap length e in
    let n = ap length f in
    omega arith

-- where a head is put once what is behind it ends
pub ends-behind : (out : Bytes) (at : ℕ) (b : Bytes) (e : ℕ) (after : Bytes) → Laid out (at + 6) b e after → at + 6 ≤ e
ends-behind out at b e after x = omega (arith, x.ends)

-- the remaining depth falls
pub record-falls : (t l c : ℕ) → 4 * l ≡ t → (l ≡ 0 → ⊥) → c < 4 → 4 * (l - 1) + c < t
record-falls t l c h z k = omega (arith, h, z, k)

-- the loop over parts, in the words of the ring
module _ (s : Scope) (words : List ℕ) (again : Bool) (w : ℕ) (c : Bytes) (d at : ℕ) where
  is-each : parts s words d again w c ≡ each (rewrite s words d again w) (parts_of c)
  unfolding parts
  is-each = refl

  pub parts-asks : Room at (parts s words d again w c) w d c → (p : ℕ) (r : Bytes)
      → (at + length (each (rewrite s words d again w) (parts_of c)) < 2 ^ 61 → p + length (rewrite s words d again w r) < 2 ^ 61) → length r ≤ length c
      → Room p (rewrite s words d again w r) w d r
  parts-asks h p r f l = record { space = f (rw is-each at h.space); counts = h.counts; small = omega (arith, h.small, l) }

  pub parts-gives : (out : Bytes) (e : ℕ) (after : Bytes) → Laid out at (each (rewrite s words d again w) (parts_of c)) e after
      → Laid out at (parts s words d again w c) e after
  parts-gives out e after = laid_same out at _ _ e after is-each

-- what a Fn does not count, as a part of its content
pub fn-front : (c a b : Bytes) → a ≡ rest_of c → b ≡ rest_of a → take (length c - length b) (drop 0 c) ≡ uncounted c
fn-front c a b e f = ap (λ (x : Bytes). take (length c - length x) c) (f ∙ ap rest_of e)

-- one more where types are counted
pub deeper-again : (again : Bool) (w : ℕ) → again ≡ true → w + 1 ≡ deeper again w
deeper-again again w e = rw e (omega arith)

pub deeper-not : (again : Bool) (w : ℕ) → again ≡ false → w ≡ deeper again w
deeper-not again w e = rw e

-- a declaration, test by test
module _ (s : Scope) (words : List ℕ) (d : ℕ) (r out : Bytes) where
  pub declaration-long : 65536 < length r → Laid out 0 (declaration s words d r) 0 out
  unfolding declaration
  declaration-long h = rw (lt-ltb 65536 (length r) h) (laid_none out 0)

  pub declaration-deep : length r ≤ 65536 → 48 < d → Laid out 0 (declaration s words d r) 0 out
  unfolding declaration
  declaration-deep h k = rw (le-ltb 65536 (length r) h, lt-ltb 48 d k) (laid_none out 0)

  module _ (h : length r ≤ 65536) (k : d ≤ 48) where
    pub declaration-asks : Room 0 (rewrite s words d false 1 r) 1 d r
    declaration-asks = let l = declaration-small s words d r h k in record { space = omega arith; counts = omega arith; small = h }

    pub declaration-gives : (e : ℕ) (after : Bytes) → Laid out 0 (rewrite s words d false 1 r) e after → Laid out 0 (declaration s words d r) e after
    unfolding declaration
    declaration-gives e after x = rw (le-ltb 65536 (length r) h, le-ltb 48 d k) x
