-- The walk over the fields of a record, turn by turn: what is left to gather makes the whole, also where it goes on in a record that ends its parent.
-- Assumes nothing.
use mathlib.Core.Path.{◌≡◌, refl, ap, sym, ◌∙◌}
use mathlib.Core.Bool.{Bool, true, false, not, ◌||◌, cond, false≢true, and-eq-true_iff, and-false}
use mathlib.Core.List.{List, [], ◌∷◌}
use Prim.Native.Nat.{ℕ, zero, suc, ◌+◌, ◌-◌, ◌*◌, ◌^◌, ◌<◌, ◌≤◌}
use native.Mathlib.Omega.{arith}
use native.Mathlib.Numerals.{add-one}
use lib.ListN.{drop}
use lib.Dec.{leb}
use borrow.Author.Tests.{eq-eqb, ne_eqb, lt-leb, leb-true}
use Rattle.wire.specs.Numbers.{Bytes, between}
use Rattle.wire.proofs.Less.{at_least_one}
use Rattle.records.specs.Record.{is_leaf, length_of, kind_of}
use Rattle.records.specs.Kinds.{stands, kinds}
use Rattle.records.specs.Reading.{short}
use Rattle.factor_paths.specs.Collects.{Visited, a_type, an_expr, a_decl, holds, visited_as, enters}
use Rattle.prefix.specs.Prefix.{Scope}
use Rattle.adding.specs.Adds.{Table, added}
use Rattle.visiting.specs.Visits.{visit_path, visit_name}
use Rattle.gathering.proofs.Spans.{kind-front, span_fits, none-short, none_in, first-in}
use Rattle.gathering.specs.Gathers.{Span, span, spans_in, gather_each, gather_as, gather_self, gather, gather_parts, gather_whole}
use Rattle.gathering.specs.Gathers.{parts_added, whole_added}

-- where no field is entered, and where no depth is left
closed : {T : Type 0} (f : T → Span → T) (j i : ℕ) (t : T) (rs : List Span) → ((i : ℕ) → enters j i ≡ false) → gather_each f j i t rs ≡ t
unfolding gather_each
closed f j i t [] h = refl
closed f j i t (r ∷ rs) h = rw (h i) (closed f j (suc i) t rs h)

either : {A : Type 0} (b : Bool) (x : A) → cond b x x ≡ x
either true x = refl
either false x = refl

no-depth : {T : Type 0} (add : T → (at len base : ℕ) → T) (card : Bytes) (j i : ℕ) (t : T) (rs : List Span) → gather_each (gather add card 0) j i t rs ≡ t
unfolding gather_each gather
no-depth add card j i t [] = refl
no-depth add card j i t (r ∷ rs) = rw (either (enters j i) t) (no-depth add card j (suc i) t rs)

-- a record that is passed, and one that is not
neither : (a b : Bool) → (a || not b) ≡ false → (a ≡ false) × (b ≡ true)
neither true b h = absurd (false≢true (sym h))
neither false true h = (refl, refl)
neither false false h = absurd (false≢true (sym h))

passed : {A : Type 0} (a b : Bool) (x t : A) → (a || not b) ≡ true → (a ≡ true → t ≡ x) → t ≡ cond b x t
passed true true x t h f = f refl
passed false true x t h f = cc
passed a false x t h f = refl

pub passed-text : (j : ℕ) (b : Bool) → j ≡ 1 → true ≡ (is_leaf j || b)
passed-text j b h = rw h

pub passed-kept : (j : ℕ) (b : Bool) → j ≡ 3 → true ≡ (is_leaf j || b)
passed-kept j b h = rw h

pub passed-not : (j : ℕ) {r b : Bool} → (j ≡ 1 → ⊥) → (j ≡ 3 → ⊥) → r ≡ b → not r ≡ (is_leaf j || not b)
passed-not j n m e = rw (ne_eqb j 1 n, ne_eqb j 3 m, e)

leaf-left : (s : Scope) (t : Table) (from to left j : ℕ) → kind_of (between s.card from to) ≡ j → is_leaf j ≡ true
    → t ≡ gather (added s) s.card left t (span from to)
unfolding gather
leaf-left s t from to zero j e g = refl
leaf-left s t from to (suc n) j e g = rw (e, g)

-- a record that is no leaf: itself and its fields
node-is : (s : Scope) (t : Table) (from to left j : ℕ) → kind_of (between s.card from to) ≡ j → is_leaf j ≡ false → (left ≡ 0 → ⊥)
    → gather (added s) s.card left t (span from to) ≡ whole_added s (left - 1) j t (from + 6) to
unfolding gather gather_parts gather_whole
node-is s t from to zero j e g d = absurd (d refl)
node-is s t from to (suc n) j e g d =
    let o : n ≡ suc n - 1 = omega arith in
    rw (e, g) (ap (λ (m : ℕ). gather_each (gather (added s) s.card m) j 0 (gather_self (added s) s.card j t (from + 6) to) (spans_in s.card (from + 6)
    to)) o)

-- what is collected at a record itself, by its kind
module _ (s : Scope) (t : Table) (from to k left : ℕ) where
  abbrev Whole : Table
  Whole = whole_added s left k t from to

  whole-as : (v : Visited) → visited_as k ≡ v → Whole ≡ parts_added s left k (gather_as (added s) s.card v k t from to) from to
  unfolding gather_whole gather_self
  whole-as v e = ap (λ (x : Visited). parts_added s left k (gather_as (added s) s.card x k t from to) from to) e

  module _ (u : Table) where
    -- the path of a type or an expression, of which no field is entered
    shut : (v : Visited) (j : ℕ) → visited_as j ≡ v → ((i : ℕ) → enters j i ≡ false) → k ≡ j → gather_as (added s) s.card v k t from to ≡ u → u ≡ Whole
    unfolding gather_parts
    shut v j e n g y =
        sym (whole-as v (ap visited_as g ∙ e) ∙ closed (gather (added s) s.card left) k 0 _ (spans_in s.card from to) (λ i. rw g (n i)) ∙ y)

    pub type-path : k ≡ 0x2D → u ≡ visit_path (added s) s.card false t from to → u ≡ Whole
    type-path g y = shut a_type 0x2D refl (λ i. refl) g (rw (eq-eqb k 0x2D g) (sym y))

    pub expr-path : k ≡ 0x5C → u ≡ visit_path (added s) s.card true t from to → u ≡ Whole
    expr-path g y = shut an_expr 0x5C refl (λ i. refl) g (rw (eq-eqb k 0x5C g) (sym y))

    -- the name of a use or a nested module, of which no field is entered either
    pub use-name : k ≡ 0x6A → u ≡ visit_name (added s) s.card k t from to → u ≡ Whole
    use-name g y = shut a_decl 0x6A refl (λ i. refl) g (sym y)

    pub mod-name : k ≡ 0x62 → u ≡ visit_name (added s) s.card k t from to → u ≡ Whole
    mod-name g y = shut a_decl 0x62 refl (λ i. refl) g (sym y)

    pub decl-both : visited_as k ≡ a_decl → (m : Table) → m ≡ visit_name (added s) s.card k t from to → u ≡ parts_added s left k m from to → u ≡ Whole
    decl-both e m x y = y ∙ rw x (sym (whole-as a_decl e))

  -- of any other kind only what it holds
  module _ (n : k ≡ 0x2D → ⊥) (m : k ≡ 0x5C → ⊥) (d : stands (kinds 0x62 0x6A) k ≡ false) where
    self-none : (v : Visited) → visited_as k ≡ v → gather_as (added s) s.card v k t from to ≡ t
    self-none a_type e = rw (ne_eqb k 0x2D n)
    self-none an_expr e = rw (ne_eqb k 0x5C m)
    self-none a_decl e = absurd (false≢true (sym d ∙ go (stands (kinds 0x20 0x38) k) (stands (kinds 0x40 0x5E) k) (stands (kinds 0x62 0x6A) k) e))
      where
        go : (a b c : Bool) → cond a a_type (cond b an_expr (cond c a_decl holds)) ≡ a_decl → c ≡ true
        go true b c e = cc
        go false true c e = cc
        go false false true e = refl
        go false false false e = cc
    self-none holds e = refl

    pub other-whole : Whole ≡ parts_added s left k t from to
    other-whole = whole-as (visited_as k) refl ∙ ap (λ (x : Table). parts_added s left k x from to) (self-none (visited_as k) refl)

-- how a declaration's kind is visited
pub visited-decl : (k : ℕ) (b : Bool) → b ≡ stands (kinds 0x62 0x6A) k → b ≡ true → visited_as k ≡ a_decl
visited-decl k b e h =
    let g = (and-eq-true_iff (leb 0x62 k) (leb k 0x6A)).0 (sym e ∙ h) in
    let l = leb-true 0x62 k g.0 in
    rw (lt-leb k 0x38 (omega arith), lt-leb k 0x5E (omega arith), and-false (leb 0x20 k), and-false (leb 0x40 k), g.0, g.1)

-- the depth that a call has is less than its caller's
pub less-deep : (t deep left : ℕ) → 2 * left ≡ t → deep ≤ left → (deep ≡ 0 → ⊥) → 2 * (deep - 1) + 1 < t
less-deep t deep left e h n = let o = at_least_one deep n in omega arith

-- the fields that are left, from a place on, make the whole
pub record Going (s : Scope) (T : Table) (to left : ℕ) (t : Table) (at of i deep : ℕ) : Type 0 where
  pub ordered : at ≤ to
  pub counted : i ≤ at
  pub under : deep ≤ left
  pub rest : T ≡ gather_each (gather (added s) s.card deep) of i t (spans_in s.card at to)

pub going_start : (s : Scope) (t : Table) (from to k left : ℕ) → from ≤ to → Going s (parts_added s left k t from to) to left t from k 0 left
unfolding gather_parts
going_start s t from to k left h = record { ordered = h; counted = omega arith; under = omega arith; rest = refl }

module _ {s : Scope} {T : Table} {to left : ℕ} {t : Table} {at of i deep : ℕ} (g : Going s T to left t at of i deep) where
  stops : spans_in s.card at to ≡ [] → t ≡ T
  unfolding gather_each
  stops e = sym (g.rest ∙ ap (gather_each (gather (added s) s.card deep) of i t) e)

  pub going_done : to ≤ at → t ≡ T
  going_done h = stops (none_in s.card at to (none-short s.card at to (omega arith)))

  pub going-deep : deep ≡ 0 → t ≡ T
  going-deep h =
      sym (g.rest ∙ ap (λ (d : ℕ). gather_each (gather (added s) s.card d) of i t (spans_in s.card at to)) h
      ∙ no-depth (added s) s.card of i t (spans_in s.card at to))

  module _ {x : Bytes} {b : Bool} (e : x ≡ between s.card at to) (f : b ≡ short x) where
    is-short : short (between s.card at to) ≡ b
    is-short = ap short (sym e) ∙ sym f

    pub going-short : b ≡ true → t ≡ T
    going-short h = stops (none_in s.card at to (is-short ∙ h))

    module _ (h : b ≡ false) {l : ℕ} (q : (l ≡ length_of x) × (l < 2 ^ 32)) where
      is-length : length_of (between s.card at to) ≡ l
      is-length = ap length_of (sym e) ∙ sym q.0

      pub going-six : at + 6 ≤ at + 4 + l
      going-six = let f = (span_fits s.card at to (is-short ∙ h)).0 in let n = is-length in omega arith

      pub going-to : at + 4 + l ≤ to
      going-to = let f = (span_fits s.card at to (is-short ∙ h)).1 in let n = is-length in omega arith

      abbrev Next : Table → Table
      Next u = gather_each (gather (added s) s.card deep) of (suc i) u (spans_in s.card (at + 4 + l) to)

      abbrev Field : Table
      Field = cond (enters of i) (gather (added s) s.card deep t (span at (at + 4 + l))) t

      first : T ≡ Next Field
      unfolding gather_each
      first = let n = is-length in g.rest ∙ ap (gather_each (gather (added s) s.card deep) of i t) (first-in s.card at to (is-short ∙ h)) ∙ rw n

      next : (u : Table) → u ≡ Field → Going s T to left u (at + 4 + l) of (i + 1) deep
      next u y =
          let c = g.counted in
          let o = going-to in
          record { ordered = o; counted = omega arith; under = g.under; rest = first ∙ rw (← y, add-one i) }

      -- a record of kind j
      module _ {j : ℕ} (z : (j ≡ kind_of x) × (j < 65536)) {p : Bool} (m : p ≡ (is_leaf j || not (enters of i))) where
        -- the kind is that of the record's own bytes
        is-kind : kind_of (between s.card at (at + 4 + l)) ≡ j
        is-kind =
            let o = going-to in
            let n = going-six in
            let w : at + 4 + l - at ≡ 4 + l = omega arith in
            rw w (kind-front (drop at s.card) (4 + l) (omega arith))
            ∙ sym (kind-front (drop at s.card) (to - at) (omega arith)) ∙ ap kind_of (sym e) ∙ sym z.0

        pub going-passed : p ≡ true → Going s T to left t (at + 4 + l) of (i + 1) deep
        going-passed y = next t (passed (is_leaf j) (enters of i) _ t (sym m ∙ y) (leaf-left s t at (at + 4 + l) deep j is-kind))

        module _ (y : p ≡ false) (d : deep ≡ 0 → ⊥) where
          -- it is entered, itself and then its fields
          entered : Field ≡ whole_added s (deep - 1) j t (at + 6) (at + 4 + l)
          entered =
              let a = neither (is_leaf j) (enters of i) (sym m ∙ y) in
              rw a.1 (node-is s t at (at + 4 + l) deep j is-kind a.0 d)

          pub going-whole : {u : Table} → u ≡ whole_added s (deep - 1) j t (at + 6) (at + 4 + l) → Going s T to left u (at + 4 + l) of (i + 1) deep
          going-whole w = next _ (w ∙ sym entered)

          pub going-parts : {u : Table} → whole_added s (deep - 1) j t (at + 6) (at + 4 + l) ≡ parts_added s (deep - 1) j t (at + 6) (at + 4 + l)
              → u ≡ parts_added s (deep - 1) j t (at + 6) (at + 4 + l) → Going s T to left u (at + 4 + l) of (i + 1) deep
          going-parts w y = going-whole (y ∙ sym w)

          -- where it ends its parent, its fields are what is left
          pub going-in : at + 4 + l ≡ to → whole_added s (deep - 1) j t (at + 6) (at + 4 + l) ≡ parts_added s (deep - 1) j t (at + 6) (at + 4 + l)
              → Going s T to left t (at + 6) j 0 (deep - 1)
          unfolding gather_each gather_parts
          going-in n w =
              let c = g.counted in
              let o = going-six in
              let u = g.under in
              record {
                ordered = omega arith;
                counted = omega arith;
                under = omega arith;
                rest =
                    first ∙ ends Field ∙ entered ∙ w
                    ∙ ap (λ (x : ℕ). parts_added s (deep - 1) j t (at + 6) x) n;
              }
            where
              ends : (u : Table) → Next u ≡ u
              ends u =
                  ap (gather_each (gather (added s) s.card deep) of (suc i) u)
                  (none_in s.card (at + 4 + l) to (none-short s.card (at + 4 + l) to (omega arith)))
