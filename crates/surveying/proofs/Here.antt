-- A turn of the walk at a record whose head is read, with what is collected and what is added up: on, by the laws of both. Assumes nothing.
use mathlib.Core.Path.{◌≡◌, refl, ap, ap₂, sym, ◌∙◌}
use mathlib.Core.Bool.{Bool, true, false, not, ◌||◌, false≢true}
use Prim.Native.Nat.{ℕ, ◌+◌, ◌-◌, ◌*◌, ◌^◌, ◌<◌, ◌≤◌}
use native.Mathlib.Omega.{arith}
use lib.ListN.{length, take, drop}
use lib.Dec.{eqb}
use borrow.Author.Tests.{ne_eqb}
use Rattle.wire.specs.Numbers.{Bytes, between}
use Rattle.records.specs.Record.{length_of, kind_of}
use Rattle.records.specs.Kinds.{stands, kinds}
use Rattle.records.specs.Reading.{short}
use Rattle.records.proofs.Tree.{long-enough, enough-long}
use Rattle.rast.proofs.Tests.{by-test}
use Rattle.factor_paths.specs.Collects.{enters}
use Rattle.operation.specs.declared.Shortening.{Shortening}
use Rattle.operation.specs.Operations.{operation_of}
use Rattle.prefix.specs.Prefix.{Scope}
use Rattle.adding.specs.Adds.{Table, added}
use Rattle.visiting.specs.Visits.{visit_path}
use Rattle.gathering.specs.Gathers.{parts_added, whole_added}
use Rattle.collecting.proofs.Going.{Going, going-passed, going-whole, going-parts, going-in, passed-text, passed-kept, passed-not}
use Rattle.collecting.proofs.Going.{type-path, expr-path, other-whole}
use Rattle.rewriting.specs.Replaces.{name_in}
use Rattle.rewriting.specs.Rewrites.{counted, uncounted}
use Rattle.growth.specs.Grows.{is_fixed, wraps_in, wraps_at, growth, growth_all, part_growth, decl_growth}
use Rattle.growth.proofs.Most.{type-fits}
use Rattle.growth.proofs.Tests.{fixed-text, fixed_kept, wraps-none, wraps-small}
use Rattle.growth.proofs.Turns.{part_length, record-fits, first_part, rest_part, length-same, all_none, all-step, part-is}
use Rattle.growth.proofs.Turns.{Turn, Head, head, on, turn-fixed, turn-type, turn-expr, turn-fn, held_fits, turn-held, turn_last}
use Rattle.surveying.proofs.Decls.{decl-from, decl-to, decl-no-type, decl-no-expr}

-- a whole record is the only one in its bytes
module _ (op : Shortening) (depth : ℕ) (charged again : Bool) (w : ℕ) (card : Bytes) (at to : ℕ) (h : to ≤ length card)
    (t : short (between card at to) ≡ false) (e : ℕ) (x : e ≡ at + 4 + length_of (between card at to)) where
  alone : growth_all op depth charged again w (between card at e) ≡ growth op depth charged again w (between card at e)
  alone =
      let f = record-fits card at to h t e x in
      let a = f.0 in
      let b = f.1 in
      let s = length-same card at to h t e x in
      let i : e ≤ length card = omega arith in
      let l = part_length card at e i in
      let m = (long-enough (between card at to) t).two in
      let u : short (between card at e) ≡ false =
      enough-long (between card at e) (record { six = omega arith; two = omega arith; inside = omega arith }) in
      let y : e ≡ at + 4 + length_of (between card at e) = omega arith in
      let z : e - e ≡ 0 = omega arith in
      let n = all_none op depth charged again w (between card e e) (ap (λ (n : ℕ). short (take n (drop e card))) z) in
      let p = all-step op depth charged again w (between card at e) u
      ∙ ap₂ (λ (c d : Bytes). growth op depth charged again w c + growth_all op depth charged again w d) (first_part card at e i u e y)
      (rest_part card at e i u e y) in
      omega arith

pub record Here (op : Shortening) (s : Scope) (T : Table) (whole to left : ℕ) (t : Table) (at of i deep sum : ℕ) (again : Bool) (wraps j l : ℕ)
    : Type 0 where
  pub going : Going s T to left t at of i deep
  pub head : Head op whole s.card to left at sum false again wraps deep j (at + 4 + l)
  pub full : false ≡ short (between s.card at to)
  pub len : (l ≡ length_of (between s.card at to)) × (l < 2 ^ 32)
  pub kind : (j ≡ kind_of (between s.card at to)) × (j < 65536)
  pub small : length s.card ≤ 65536
  pub some : deep ≡ 0 → ⊥

pub here : {op : Shortening} {s : Scope} {T : Table} {whole to left : ℕ} {t : Table} {at of i deep sum : ℕ} {again : Bool} {wraps j l : ℕ} {b : Bool}
    → Going s T to left t at of i deep → Turn op whole s.card to left at sum false again wraps deep
    → to ≤ length s.card → length s.card ≤ 65536 → b ≡ short (between s.card at to) → b ≡ false → (deep ≡ 0 → ⊥)
    → (l ≡ length_of (between s.card at to)) × (l < 2 ^ 32) → (j ≡ kind_of (between s.card at to)) × (j < 65536)
    → Here op s T whole to left t at of i deep sum again wraps j l
here g u h i f y d q z =
    record { going = g; head = head u h f y d z.0 q.0; full = sym y ∙ f; len = q; kind = z; small = i; some = d }

module _ {op : Shortening} {s : Scope} {T : Table} {whole to left : ℕ} {t : Table} {at of i deep sum : ℕ} {again : Bool} {wraps j l : ℕ}
    (h : Here op s T whole to left t at of i deep sum again wraps j l) where
  abbrev Goes : Table → Type 0
  Goes u = Going s T to left u (at + 4 + l) of (i + 1) deep

  abbrev Grows : ℕ → Type 0
  Grows n = Turn op whole s.card to left (at + 4 + l) n false again wraps deep

  -- a Text and a Kept
  pub text-goes : j ≡ 1 → Goes t
  text-goes e = going-passed h.going refl h.full refl h.len h.kind (passed-text j _ e) refl

  pub text-grows : j ≡ 1 → Grows sum
  text-grows e = turn-fixed h.head (fixed-text j e) refl

  pub kept_goes : j ≡ 3 → Goes t
  kept_goes e = going-passed h.going refl h.full refl h.len h.kind (passed-kept j _ e) refl

  pub kept-grows : (j ≡ 1 → ⊥) → j ≡ 3 → Grows sum
  kept-grows n e = turn-fixed h.head (fixed_kept j n e) refl

  -- any record, by its growth alone
  pub part-grows : (n : ℕ) → n ≡ part_growth op s.card at (at + 4 + l) false again wraps deep → Grows (sum + n)
  part-grows n x =
      let a = h.head.after-head in
      let b = h.head.inside in
      let c = h.head.bound in
      on h.head n (x ∙ sym (part-is op s.card at (at + 4 + l) false again wraps deep (omega arith) (omega arith) h.small h.head.turn.fit)
      ∙ alone op deep false again wraps s.card at to c (sym h.full) (at + 4 + l) (ap (λ (m : ℕ). at + 4 + m) h.len.0))

  -- a path
  pub type-grows : j ≡ 0x2D → (name : Bytes) → name ≡ name_in (between s.card at (at + 4 + l)) → Grows (sum + wraps * (18 + length name))
  type-grows e name x =
      turn-type h.head (let z : false ≡ is_fixed j = rw e in z) refl e (wraps * (18 + length name)) (let y = ap length x in rw y (omega arith))

  pub type-small : (name : Bytes) → name ≡ name_in (between s.card at (at + 4 + l)) → wraps * (18 + length name) ≤ 2 ^ 40
  type-small name x =
      let a = h.head.turn.fit in
      let b = h.head.long in
      let c = h.head.inside in
      let d = h.head.bound in
      let e = h.small in
      type-fits false wraps (between s.card at (at + 4 + l)) name (omega arith) (omega arith) x

  pub expr-grows : (j ≡ 0x2D → ⊥) → j ≡ 0x5C → Grows sum
  expr-grows n e =
      let z : sum + 0 ≡ sum = omega arith in
      rw z at (turn-expr h.head (let z : false ≡ is_fixed j = rw e in z) refl n e 0 refl)

  -- a declaration
  pub decl-grows : {b : Bool} → b ≡ stands (kinds 0x62 0x6A) j → b ≡ true → (n : ℕ)
      → n ≡ decl_growth op (deep - 1) again wraps j (between s.card (at + 6) (at + 4 + l)) → Grows (sum + n)
  unfolding decl_growth
  decl-grows f y n x =
      let d : stands (kinds 0x62 0x6A) j ≡ true = sym f ∙ y in
      let p = decl-from j d in
      let q = decl-to j d in
      by-test (is_fixed j)
      (λ a. let z : n ≡ 0 = x ∙ rw a in
      let o : sum ≡ sum + n = omega arith in
      rw o at (turn-fixed h.head refl a))
      (λ a. turn-held h.head refl a (λ e. omega arith) (λ e. omega arith) (λ e. omega arith) (eqb j 0x62) refl wraps
      (wraps-none again wraps j (decl-no-type j d) (decl-no-expr j d)) n (x ∙ rw a))

  -- a Fn
  pub fn-grows : (j ≡ 0x2D → ⊥) → (j ≡ 0x5C → ⊥) → j ≡ 0x7D → (n : ℕ)
      → n ≡ growth_all op (deep - 1) false false 1 (uncounted (between s.card (at + 6) (at + 4 + l)))
      + growth_all op (deep - 1) false (operation_of op).walks_again 1 (counted (between s.card (at + 6) (at + 4 + l))) → Grows (sum + n)
  fn-grows a b e n x = turn-fn h.head (let z : false ≡ is_fixed j = rw e in z) refl a b e n x

  -- what is fixed
  pub fixed-grows : {b : Bool} → b ≡ is_fixed j → b ≡ true → Grows sum
  fixed-grows a y = turn-fixed h.head a y

  -- any other
  module _ {b : Bool} (a : b ≡ is_fixed j) (y : b ≡ false) (c : j ≡ 0x2D → ⊥) (d : j ≡ 0x5C → ⊥) (g : j ≡ 0x7D → ⊥) {q : Bool}
      (e : q ≡ stands (kinds 0x62 0x6A) j) (z : q ≡ false) {v : ℕ} (o : v ≡ wraps_at again wraps j) where
    no-module : j ≡ 0x62 → ⊥
    no-module k = false≢true (sym z ∙ e ∙ ap (stands (kinds 0x62 0x6A)) k)

    uses : false ≡ (false || eqb j 0x62)
    uses = rw (ne_eqb j 0x62 no-module)

    wrapped : v ≡ wraps_in again wraps j
    wrapped = let f = h.head.turn.fit in o ∙ sym (wraps-small again wraps j (omega arith))

    pub inner-fits : v + (deep - 1) ≤ 65536
    inner-fits = held_fits h.head a y c d g false uses v wrapped

    pub held-grows : (n : ℕ) → n ≡ growth_all op (deep - 1) false again v (between s.card (at + 6) (at + 4 + l)) → Grows (sum + n)
    held-grows n x = turn-held h.head a y c d g false uses v wrapped n x

    pub last-grows : at + 4 + l ≡ to → Turn op whole s.card to left (at + 6) sum false again v (deep - 1)
    last-grows x = turn_last h.head a y c d g false uses v wrapped x

  -- a field that is not entered, and one that is
  module _ (n : j ≡ 1 → ⊥) (m : j ≡ 3 → ⊥) {r : Bool} (e : r ≡ enters of i) where
    pub field-goes : not r ≡ true → Goes t
    field-goes y = going-passed h.going refl h.full refl h.len h.kind (passed-not j n m e) y

    module _ (y : not r ≡ false) where
      pub whole-goes : {u : Table} → u ≡ whole_added s (deep - 1) j t (at + 6) (at + 4 + l) → Goes u
      whole-goes w = going-whole h.going refl h.full refl h.len h.kind (passed-not j n m e) y h.some w

      pub type-goes : {u : Table} → j ≡ 0x2D → u ≡ visit_path (added s) s.card false t (at + 6) (at + 4 + l) → Goes u
      type-goes a w = whole-goes (type-path s _ _ _ _ _ _ a w)

      pub expr-goes : {u : Table} → j ≡ 0x5C → u ≡ visit_path (added s) s.card true t (at + 6) (at + 4 + l) → Goes u
      expr-goes a w = whole-goes (expr-path s _ _ _ _ _ _ a w)

      module _ (a : j ≡ 0x2D → ⊥) (b : j ≡ 0x5C → ⊥) {q : Bool} (f : q ≡ stands (kinds 0x62 0x6A) j) (z : q ≡ false) where
        pub parts-goes : {u : Table} → u ≡ parts_added s (deep - 1) j t (at + 6) (at + 4 + l) → Goes u
        parts-goes w =
            going-parts h.going refl h.full refl h.len h.kind (passed-not j n m e) y h.some (other-whole s _ _ _ _ _ a b (sym f ∙ z)) w

        pub fn-goes : {u : Table} → j ≡ 0x7D → u ≡ parts_added s (deep - 1) 0x7D t (at + 6) (at + 4 + l) → Goes u
        fn-goes k w = parts-goes (w ∙ ap (λ (x : ℕ). parts_added s (deep - 1) x t (at + 6) (at + 4 + l)) (sym k))

        pub in-goes : at + 4 + l ≡ to → Going s T to left t (at + 6) j 0 (deep - 1)
        in-goes x =
            going-in h.going refl h.full refl h.len h.kind (passed-not j n m e) y h.some x (other-whole s _ _ _ _ _ a b (sym f ∙ z))
