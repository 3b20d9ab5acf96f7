-- The loop over the records between two places of a card, turn by turn, as the code has it in hand: the sum so far and what is left make the whole. Assumes
-- nothing.
use mathlib.Core.Path.{◌≡◌, refl, ap, ap₂, sym, ◌∙◌}
use mathlib.Core.Bool.{Bool, true, false, ◌||◌, true≢false}
use mathlib.Core.List.{List, [], ◌∷◌}
use Prim.Native.Nat.{ℕ, zero, suc, ◌+◌, ◌-◌, ◌*◌, ◌^◌, ◌<◌, ◌≤◌}
use native.Mathlib.Omega.{arith}
use lib.ListN.{length, take, drop, length-take, length-drop}
use lib.Dec.{eqb, ltb}
use borrow.Author.Tests.{lt-ltb, le-ltb, ltb-true, ltb-false, eq-eqb, ne_eqb}
use Rattle.wire.specs.Numbers.{Bytes, num, between}
use Rattle.wire.proofs.Within.{Within, within_all, within-take, within-drop, within-front, within-own}
use Rattle.records.specs.Record.{length_of, kind_of, content_of, rest_of, first_record}
use Rattle.records.specs.Reading.{short}
use Rattle.records.proofs.Tree.{long-enough, enough-long}
use Rattle.rast.proofs.Tests.{by-test}
use Rattle.operation.specs.declared.Shortening.{Shortening}
use Rattle.operation.specs.Operations.{operation_of}
use Rattle.rewriting.specs.Replaces.{name_in}
use Rattle.rewriting.specs.Rewrites.{parts_of, counted, uncounted}
use Rattle.rewriting.proofs.Parts.{parts_none, parts-step}
use Rattle.growth.specs.Grows.{is_fixed, wraps_in, use_of, sum, growth, growth_all, part_growth, card_growth}
use Rattle.growth.proofs.Most.{wraps-most, all_small}

-- parts of a card
pub part_length : (card : Bytes) (at to : ℕ) → to ≤ length card → length (between card at to) ≡ to - at
part_length card at to h = simp (length-take, length-drop) (omega arith)

piece : (card x : Bytes) (p q : ℕ) → Within card p x → length x ≡ q - p → x ≡ between card p q
piece card x p q w m = sym (within-own card p x w) ∙ ap (λ (n : ℕ). take n (drop p card)) m

-- a record that is not short, e where it ends: it, its head, its content and what follows it are parts of the card
module _ (card : Bytes) (at to : ℕ) (h : to ≤ length card) (t : short (between card at to) ≡ false)
    (e : ℕ) (x : e ≡ at + 4 + length_of (between card at to)) where
  pub record-fits : (at + 6 ≤ e) × (e ≤ to)
  record-fits =
      let l = long-enough (between card at to) t in
      let p = part_length card at to h in
      let a = l.two in
      let b = l.inside in
      (omega arith, omega arith)

  pub first_part : first_record (between card at to) ≡ between card at e
  first_part =
      let s : Bytes = between card at to in
      let l = long-enough s t in
      let b = l.inside in
      let a = length-take (4 + length_of s) s in
      piece card (first_record s) at e (within-take card at s (within_all card at (to - at) s refl) (4 + length_of s)) (omega arith)

  pub rest_part : rest_of (between card at to) ≡ between card e to
  rest_part =
      let s : Bytes = between card at to in
      let l = long-enough s t in
      let b = l.inside in
      let a = length-drop (4 + length_of s) s in
      let p = part_length card at to h in
      let o : at + (4 + length_of s) ≡ e = omega arith in
      piece card (rest_of s) e to (rw o at (within-drop card at s (within_all card at (to - at) s refl) (4 + length_of s))) (omega arith)

  pub length-same : length_of (between card at e) ≡ length_of (between card at to)
  length-same =
      let f = record-fits in
      let a = f.0 in
      let b = f.1 in
      let p = part_length card at to h in
      let q = part_length card at e (omega arith) in
      ap num (within-front card at (between card at e) (within_all card at (e - at) (between card at e) refl) 4 (omega arith)
      ∙ sym (within-front card at (between card at to) (within_all card at (to - at) (between card at to) refl) 4 (omega arith)))

  kind-same : kind_of (between card at e) ≡ kind_of (between card at to)
  kind-same =
      let f = record-fits in
      let a = f.0 in
      let b = f.1 in
      let r : Bytes = between card at e in
      let s : Bytes = between card at to in
      let p = part_length card at to h in
      let q = part_length card at e (omega arith) in
      let i = length-drop 4 r in
      let j = length-drop 4 s in
      ap num (within-front card (at + 4) (drop 4 r) (within-drop card at r (within_all card at (e - at) r refl) 4) 2 (omega arith)
      ∙ sym (within-front card (at + 4) (drop 4 s) (within-drop card at s (within_all card at (to - at) s refl) 4) 2 (omega arith)))

  content-part : content_of (between card at e) ≡ between card (at + 6) e
  content-part =
      let f = record-fits in
      let a = f.0 in
      let b = f.1 in
      let r : Bytes = between card at e in
      let m = length-same in
      let q = part_length card at e (omega arith) in
      let i = length-drop 6 r in
      let j = length-take (length_of r - 2) (drop 6 r) in
      piece card (content_of r) (at + 6) e
      (within-take card (at + 6) (drop 6 r) (within-drop card at r (within_all card at (e - at) r refl) 6) (length_of r - 2)) (omega arith)

module _ (op : Shortening) where
  -- the records in bytes: none in short ones, else the first and those that follow; none grow where nothing may be looked into
  module _ (depth : ℕ) (charged again : Bool) (w : ℕ) (c : Bytes) where
    pub all_none : short c ≡ true → growth_all op depth charged again w c ≡ 0
    unfolding growth_all sum
    all_none t = ap (sum (growth op depth charged again w)) (parts_none c t)

    pub all-step : short c ≡ false
        → growth_all op depth charged again w c ≡ growth op depth charged again w (first_record c) + growth_all op depth charged again w (rest_of c)
    unfolding growth_all sum
    all-step t = ap (sum (growth op depth charged again w)) (parts-step c t)

  none-grow : (charged again : Bool) (w : ℕ) (l : List Bytes) → sum (growth op zero charged again w) l ≡ 0
  unfolding sum growth
  none-grow charged again w [] = refl
  none-grow charged again w (r ∷ l) = let i = none-grow charged again w l in omega arith

  all-flat : (depth : ℕ) (charged again : Bool) (w : ℕ) (c : Bytes) → depth ≡ 0 → growth_all op depth charged again w c ≡ 0
  unfolding growth_all
  all-flat depth charged again w c z =
      ap (λ (n : ℕ). sum (growth op n charged again w) (parts_of c)) z ∙ none-grow charged again w (parts_of c)

  -- a record that may be looked into, by its kind
  module _ (d : ℕ) (charged again : Bool) (w : ℕ) (r : Bytes) where
    fixed-is : is_fixed (kind_of r) ≡ true → growth op (suc d) charged again w r ≡ 0
    unfolding growth
    fixed-is a = rw a

    module _ (a : is_fixed (kind_of r) ≡ false) where
      type-is : kind_of r ≡ 0x2D → growth op (suc d) charged again w r ≡ w * (18 + length (name_in r)) + use_of charged (length r)
      unfolding growth
      type-is b = rw (a, eq-eqb (kind_of r) 0x2D b)

      module _ (b : kind_of r ≡ 0x2D → ⊥) where
        expr-is : kind_of r ≡ 0x5C → growth op (suc d) charged again w r ≡ use_of charged (length r)
        unfolding growth
        expr-is f = rw (a, ne_eqb (kind_of r) 0x2D b, eq-eqb (kind_of r) 0x5C f)

        module _ (f : kind_of r ≡ 0x5C → ⊥) where
          fn_is : kind_of r ≡ 0x7D → growth op (suc d) charged again w r ≡ growth_all op d charged false 1 (uncounted (content_of r))
              + growth_all op d charged (operation_of op).walks_again 1 (counted (content_of r))
          unfolding growth growth_all
          fn_is g = rw (a, ne_eqb (kind_of r) 0x2D b, ne_eqb (kind_of r) 0x5C f, eq-eqb (kind_of r) 0x7D g)

          other-is : (kind_of r ≡ 0x7D → ⊥)
              → growth op (suc d) charged again w r ≡ growth_all op d (charged || eqb (kind_of r) 0x62) again (wraps_in again w (kind_of r)) (content_of r)
          unfolding growth growth_all
          other-is g = rw (a, ne_eqb (kind_of r) 0x2D b, ne_eqb (kind_of r) 0x5C f, ne_eqb (kind_of r) 0x7D g)

-- where a turn stands: at a place with a sum, and what the records from there on grow by, so deep, is what is left of the whole
pub record Turn (op : Shortening) (whole : ℕ) (card : Bytes) (to left at sum : ℕ) (uses again : Bool) (wraps deep : ℕ) : Type 0 where
  pub inside : at ≤ to
  pub under : deep ≤ left
  pub fit : wraps + deep ≤ 65536
  pub most : whole ≤ 2 ^ 40
  pub same : whole ≡ sum + growth_all op deep uses again wraps (between card at to)

pub turn-start : (op : Shortening) (card : Bytes) (from to left w : ℕ) (charged again : Bool) → from ≤ to → to ≤ length card → length card ≤ 65536
    → w + left ≤ 65536 → Turn op (growth_all op left charged again w (between card from to)) card to left from 0 charged again w left
turn-start op card from to left w charged again h i j k =
    let l = part_length card from to i in
    record {
      inside = h;
      under = omega arith;
      fit = k;
      most = all_small op left charged again w (between card from to) (omega arith) k;
      same = omega arith;
    }

module _ {op : Shortening} {whole : ℕ} {card : Bytes} {to left at sum : ℕ} {uses again : Bool} {wraps deep : ℕ}
    (t : Turn op whole card to left at sum uses again wraps deep) where
  -- the end of the bytes, of those that hold a record, and of what may be looked into
  pub turn_end : to ≤ at → sum ≡ whole
  turn_end h =
      let z : to - at ≡ 0 = omega arith in
      let e = all_none op deep uses again wraps (between card at to) (ap (λ (n : ℕ). short (take n (drop at card))) z) in
      let s = t.same in
      omega arith

  pub turn-short : (b : Bool) → b ≡ short (between card at to) → b ≡ true → sum ≡ whole
  turn-short b f y =
      let e = all_none op deep uses again wraps (between card at to) (sym f ∙ y) in
      let s = t.same in
      omega arith

  pub turn-deep : deep ≡ 0 → sum ≡ whole
  turn-deep z =
      let e = all-flat op deep uses again wraps (between card at to) z in
      let s = t.same in
      omega arith

  pub turn-fits : sum ≤ 2 ^ 40
  turn-fits = let s = t.same in let m = t.most in omega arith

-- a record to look into: its kind and where it ends
pub record Head (op : Shortening) (whole : ℕ) (card : Bytes) (to left at sum : ℕ) (uses again : Bool) (wraps deep k e : ℕ) : Type 0 where
  pub turn : Turn op whole card to left at sum uses again wraps deep
  pub bound : to ≤ length card
  pub deeper : deep ≡ suc (deep - 1)
  pub kind : kind_of (between card at e) ≡ k
  pub content : content_of (between card at e) ≡ between card (at + 6) e
  pub after-head : at + 6 ≤ e
  pub inside : e ≤ to
  pub long : length (between card at e) ≡ e - at
  pub rest : whole ≡ sum + (growth op deep uses again wraps (between card at e) + growth_all op deep uses again wraps (between card e to))

pub head : {op : Shortening} {whole : ℕ} {card : Bytes} {to left at sum : ℕ} {uses again : Bool} {wraps deep k n : ℕ} {b : Bool}
    → Turn op whole card to left at sum uses again wraps deep → to ≤ length card → b ≡ short (between card at to) → b ≡ false → (deep ≡ 0 → ⊥)
    → k ≡ kind_of (between card at to) → n ≡ length_of (between card at to)
    → Head op whole card to left at sum uses again wraps deep k (at + 4 + n)
head {op} {whole} {card} {to} {left} {at} {sum} {uses} {again} {wraps} {deep} {k} {n} t h f y z g m =
    let l : short (between card at to) ≡ false = sym f ∙ y in
    let x : at + 4 + n ≡ at + 4 + length_of (between card at to) = ap (λ (j : ℕ). at + 4 + j) m in
    let fits = record-fits card at to h l (at + 4 + n) x in
    let p = fits.0 in
    let q = fits.1 in
    record {
      turn = t;
      bound = h;
      deeper = omega arith;
      kind = kind-same card at to h l (at + 4 + n) x ∙ sym g;
      content = content-part card at to h l (at + 4 + n) x;
      after-head = p;
      inside = q;
      long = part_length card at (at + 4 + n) (omega arith);
      rest =
          t.same
          ∙ ap (λ (j : ℕ). sum + j) (all-step op deep uses again wraps (between card at to) l
          ∙ ap₂ (λ (c d : Bytes). growth op deep uses again wraps c + growth_all op deep uses again wraps d)
          (first_part card at to h l (at + 4 + n) x) (rest_part card at to h l (at + 4 + n) x));
    }

module _ {op : Shortening} {whole : ℕ} {card : Bytes} {to left at sum : ℕ} {uses again : Bool} {wraps deep k e : ℕ}
    (f : Head op whole card to left at sum uses again wraps deep k e) where
  grown : growth op deep uses again wraps (between card at e) ≡ growth op (suc (deep - 1)) uses again wraps (between card at e)
  grown = ap (λ (n : ℕ). growth op n uses again wraps (between card at e)) f.deeper

  -- on, with what the record grows by
  pub on : (part : ℕ) → part ≡ growth op deep uses again wraps (between card at e) → Turn op whole card to left e (sum + part) uses again wraps deep
  on part p =
      let r = f.rest in
      record { inside = f.inside; under = f.turn.under; fit = f.turn.fit; most = f.turn.most; same = omega arith }

  -- a record in which nothing grows is passed by
  pub turn-fixed : {b : Bool} → b ≡ is_fixed k → b ≡ true → Turn op whole card to left e sum uses again wraps deep
  turn-fixed {b} a y =
      let z = grown ∙ fixed-is op (deep - 1) uses again wraps (between card at e) (ap is_fixed f.kind ∙ sym a ∙ y) in
      let r = f.rest in
      record { inside = f.inside; under = f.turn.under; fit = f.turn.fit; most = f.turn.most; same = omega arith }

  module _ {b : Bool} (a : b ≡ is_fixed k) (y : b ≡ false) where
    loose : is_fixed (kind_of (between card at e)) ≡ false
    loose = ap is_fixed f.kind ∙ sym a ∙ y

    -- a path type
    pub turn-type : k ≡ 0x2D → (n : ℕ) → n ≡ wraps * (18 + length (name_in (between card at e))) + use_of uses (length (between card at e))
        → Turn op whole card to left e (sum + n) uses again wraps deep
    turn-type c n x = on n (x ∙ sym (grown ∙ type-is op (deep - 1) uses again wraps (between card at e) loose (f.kind ∙ c)))

    module _ (c : k ≡ 0x2D → ⊥) where
      other-type : kind_of (between card at e) ≡ 0x2D → ⊥
      other-type z = c (sym f.kind ∙ z)

      -- a path expression
      pub turn-expr : k ≡ 0x5C → (n : ℕ) → n ≡ use_of uses (e - at) → Turn op whole card to left e (sum + n) uses again wraps deep
      turn-expr d n x =
          on n (x ∙ ap (use_of uses) (sym f.long)
          ∙ sym (grown ∙ expr-is op (deep - 1) uses again wraps (between card at e) loose other-type (f.kind ∙ d)))

      module _ (d : k ≡ 0x5C → ⊥) where
        other-expr : kind_of (between card at e) ≡ 0x5C → ⊥
        other-expr z = d (sym f.kind ∙ z)

        -- a Fn
        pub turn-fn : k ≡ 0x7D → (n : ℕ) → n ≡ growth_all op (deep - 1) uses false 1 (uncounted (between card (at + 6) e))
            + growth_all op (deep - 1) uses (operation_of op).walks_again 1 (counted (between card (at + 6) e))
            → Turn op whole card to left e (sum + n) uses again wraps deep
        turn-fn g n x =
            on n (x ∙ ap (λ (c : Bytes). growth_all op (deep - 1) uses false 1 (uncounted c)
            + growth_all op (deep - 1) uses (operation_of op).walks_again 1 (counted c)) (sym f.content)
            ∙ sym (grown ∙ fn_is op (deep - 1) uses again wraps (between card at e) loose other-type other-expr (f.kind ∙ g)))

        -- any other holds records, that are gone on with where it is the last of its parent
        module _ (g : k ≡ 0x7D → ⊥) (u : Bool) (m : u ≡ (uses || eqb k 0x62)) (v : ℕ) (o : v ≡ wraps_in again wraps k) where
          held : growth op deep uses again wraps (between card at e) ≡ growth_all op (deep - 1) u again v (between card (at + 6) e)
          held =
              grown ∙ other-is op (deep - 1) uses again wraps (between card at e) loose other-type other-expr (λ z. g (sym f.kind ∙ z))
              ∙ ap₂ (λ (j : ℕ) (c : Bytes). growth_all op (deep - 1) (uses || eqb j 0x62) again (wraps_in again wraps j) c) f.kind f.content
              ∙ ap₂ (λ (q : Bool) (j : ℕ). growth_all op (deep - 1) q again j (between card (at + 6) e)) (sym m) (sym o)

          pub held_fits : v + (deep - 1) ≤ 65536
          held_fits =
              let i = wraps-most again wraps k in
              let j = f.turn.fit in
              let l = f.deeper in
              omega arith

          pub turn-held : (n : ℕ) → n ≡ growth_all op (deep - 1) u again v (between card (at + 6) e)
              → Turn op whole card to left e (sum + n) uses again wraps deep
          turn-held n x = on n (x ∙ sym held)

          pub turn_last : e ≡ to → Turn op whole card to left (at + 6) sum u again v (deep - 1)
          turn_last x =
              let z : to - e ≡ 0 = omega arith in
              let i = all_none op deep uses again wraps (between card e to) (ap (λ (n : ℕ). short (take n (drop e card))) z) in
              let j = held ∙ ap (λ (n : ℕ). growth_all op (deep - 1) u again v (between card (at + 6) n)) x in
              let r = f.rest in
              let p = f.after-head in
              let q = f.turn.under in
              record { inside = omega arith; under = omega arith; fit = held_fits; most = f.turn.most; same = omega arith }

-- bytes that reach to a place, as the part that ends there
last-piece : (card x : Bytes) (p to : ℕ) → Within card p x → (0 < length x → p ≡ to - length x) → length x ≤ to → x ≡ between card (to - length x) to
last-piece card [] p to w h l = ap (λ (n : ℕ). take n (drop (to - 0) card)) (let z : 0 ≡ to - (to - 0) = omega arith in z)
last-piece card (b ∷ x) p to w h l = piece card (b ∷ x) (to - length (b ∷ x)) to (rw (h (omega arith)) at w) (omega arith)

-- the content of a Fn: b is what is counted
module _ (card : Bytes) (from to : ℕ) (h : from ≤ to) (i : to ≤ length card) (a b : Bytes) (x : a ≡ rest_of (between card from to)) (y : b ≡ rest_of a) where
  counted_is : b ≡ counted (between card from to)
  counted_is = y ∙ ap rest_of x

  pub mid-fits : length b ≤ to - from
  mid-fits =
      let c : Bytes = between card from to in
      let l = part_length card from to i in
      let p = length-drop (4 + length_of c) c in
      let q = length-drop (4 + length_of a) a in
      let u = ap length x in
      let v = ap length y in
      omega arith

  front-is : between card from (to - length b) ≡ uncounted (between card from to)
  front-is =
      let c : Bytes = between card from to in
      let l = part_length card from to i in
      let m = mid-fits in
      let e : length c - length b ≡ to - length b - from = omega arith in
      sym (ap (λ (d : Bytes). take (length c - length d) c) (sym counted_is)
      ∙ within-front card from c (within_all card from (to - from) c refl) (length c - length b) (omega arith)
      ∙ ap (λ (n : ℕ). take n (drop from card)) e)

  back_is : between card (to - length b) to ≡ counted (between card from to)
  back_is =
      let c : Bytes = between card from to in
      let l = part_length card from to i in
      let m = mid-fits in
      let p = length-drop (4 + length_of c) c in
      let q = length-drop (4 + length_of a) a in
      let u = ap length x in
      let v = ap length y in
      let at_a : Within card (from + (4 + length_of c)) a = rw (sym x) at (within-drop card from c (within_all card from (to - from) c refl) (4 + length_of c)) in
      let at_b : Within card (from + (4 + length_of c) + (4 + length_of a)) b =
      rw (sym y) at (within-drop card (from + (4 + length_of c)) a at_a (4 + length_of a)) in
      sym (last-piece card b (from + (4 + length_of c) + (4 + length_of a)) to at_b (λ z. omega arith) (omega arith)) ∙ counted_is

  module _ (op : Shortening) (left : ℕ) (charged : Bool) (n m : ℕ) (again : Bool) (g : again ≡ (operation_of op).walks_again)
      (d : n ≡ growth_all op left charged false 1 (between card from (to - length b)))
      (e : m ≡ growth_all op left charged again 1 (between card (to - length b) to)) where
    pub fn-fits : length card ≤ 65536 → left ≤ 65535 → n + m ≤ 2 ^ 41
    fn-fits j k =
        let p = part_length card from (to - length b) (omega arith) in
        let q = part_length card (to - length b) to i in
        let r = all_small op left charged false 1 (between card from (to - length b)) (omega arith) (omega arith) in
        let s = all_small op left charged again 1 (between card (to - length b) to) (omega arith) (omega arith) in
        omega arith

    pub fn-gives : n + m ≡ growth_all op left charged false 1 (uncounted (between card from to))
        + growth_all op left charged (operation_of op).walks_again 1 (counted (between card from to))
    fn-gives =
        ap₂ (λ (j k : ℕ). j + k) (d ∙ ap (growth_all op left charged false 1) front-is)
        (e ∙ ap₂ (λ (q : Bool) (c : Bytes). growth_all op left charged q 1 c) g back_is)

-- between any two places: nothing where they are not in the card, or a count would be too large
module _ (op : Shortening) (card : Bytes) (from to : ℕ) (charged again : Bool) (w left : ℕ) where
  abbrev Part : ℕ
  Part = part_growth op card from to charged again w left

  pub part_turned : to < from → 0 ≡ Part
  unfolding part_growth
  part_turned a = rw (lt-ltb to from a)

  module _ (a : from ≤ to) where
    pub part-past : length card < to → 0 ≡ Part
    unfolding part_growth
    part-past b = rw (le-ltb to from a, lt-ltb (length card) to b)

    module _ (b : to ≤ length card) where
      pub part-long : 65536 < length card → 0 ≡ Part
      unfolding part_growth
      part-long c = rw (le-ltb to from a, le-ltb (length card) to b, lt-ltb 65536 (length card) c)

      module _ (c : length card ≤ 65536) where
        pub part-much : 65536 < w + left → 0 ≡ Part
        unfolding part_growth
        part-much d = rw (le-ltb to from a, le-ltb (length card) to b, le-ltb 65536 (length card) c, lt-ltb 65536 (w + left) d)

        pub part-is : w + left ≤ 65536 → growth_all op left charged again w (between card from to) ≡ Part
        unfolding part_growth
        part-is d = rw (le-ltb to from a, le-ltb (length card) to b, le-ltb 65536 (length card) c, le-ltb 65536 (w + left) d)

-- a card
module _ (op : Shortening) (card : Bytes) where
  pub card-long : 65536 < length card → 0 ≡ card_growth op card
  unfolding card_growth
  card-long h =
      by-test (ltb (length card) (4 + length_of card))
      (λ t. part-past op card 0 (4 + length_of card) false false 1 48 (omega arith) (ltb-true (length card) (4 + length_of card) t))
      (λ t. part-long op card 0 (4 + length_of card) false false 1 48 (omega arith) (ltb-false (length card) (4 + length_of card) t) h)

  module _ (small : length card ≤ 65536) where
    pub card-none : short card ≡ true → 0 ≡ card_growth op card
    unfolding card_growth
    card-none h =
        by-test (ltb (length card) (4 + length_of card))
        (λ t. part-past op card 0 (4 + length_of card) false false 1 48 (omega arith) (ltb-true (length card) (4 + length_of card) t))
        (λ t. let i = ltb-false (length card) (4 + length_of card) t in
        let l = part_length card 0 (4 + length_of card) i in
        let f : length (between card 0 (4 + length_of card)) < 6 = few (ltb-false (length card) (4 + length_of card) t) in
        sym (all_none op 48 false false 1 (between card 0 (4 + length_of card)) (few-short (between card 0 (4 + length_of card)) f))
        ∙ part-is op card 0 (4 + length_of card) false false 1 48 (omega arith) i small (omega arith))
      where
        few : 4 + length_of card ≤ length card → length (between card 0 (4 + length_of card)) < 6
        few i =
            let l = part_length card 0 (4 + length_of card) i in
            by-test (ltb (length card) 6) (λ t. let a = ltb-true (length card) 6 t in omega arith)
            (λ t. by-test (ltb (length_of card) 2) (λ u. let a = ltb-true (length_of card) 2 u in omega arith)
            (λ u. absurd (true≢false (sym h
            ∙ enough-long card (record { six = ltb-false (length card) 6 t; two = ltb-false (length_of card) 2 u; inside = i })))))

        few-short : (s : Bytes) → length s < 6 → short s ≡ true
        few-short s l = rw (lt-ltb (length s) 6 l)

    pub card-is : short card ≡ false → (l n : ℕ) → l ≡ length_of card → n ≡ growth_all op 48 false false 1 (between card 0 (4 + l)) → n ≡ card_growth op card
    unfolding card_growth
    card-is h l n e f =
        let i = (long-enough card h).inside in
        f ∙ ap (λ (m : ℕ). growth_all op 48 false false 1 (between card 0 (4 + m))) e
        ∙ part-is op card 0 (4 + length_of card) false false 1 48 (omega arith) i small (omega arith)
