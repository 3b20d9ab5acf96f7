-- The content of a Fn that starts with two records: its fields are those up to the third and those from there on. Assumes nothing.
use mathlib.Core.Path.{◌≡◌, refl, ap, sym, ◌∙◌}
use mathlib.Core.Bool.{Bool, true, false, not, and-eq-true_iff}
use mathlib.Core.List.{List, [], ◌∷◌}
use Prim.Native.Nat.{ℕ, suc, ◌+◌, ◌-◌, ◌≤◌}
use native.Mathlib.Omega.{arith}
use lib.ListN.{length}
use Rattle.wire.specs.Numbers.{Bytes, num, between}
use Rattle.wire.proofs.Within.{within_all, within-front}
use Rattle.records.specs.Record.{length_of, rest_of}
use Rattle.records.specs.Reading.{short}
use Rattle.records.proofs.Tree.{long-enough, enough-long}
use Rattle.prefix.specs.Prefix.{Scope}
use Rattle.adding.specs.Adds.{Table, added}
use Rattle.gathering.proofs.Spans.{none-short, none_in, first-in}
use Rattle.gathering.specs.Gathers.{Span, span, spans_in, gather_each, gather, gather_parts, parts_added}
use Rattle.growth.proofs.Turns.{part_length, record-fits, rest_part}
use Rattle.surveying.specs.Surveys.{is_parted}

not-true : (b : Bool) → not b ≡ true → b ≡ false
not-true true e = cc
not-true false e = refl

-- whether a content starts with two records, as the code tests it
pub parted-none : (c : Bytes) (b : Bool) → b ≡ short c → b ≡ true → false ≡ is_parted c
unfolding is_parted
parted-none c b e h = rw (sym e ∙ h)

pub parted-one : (c x : Bytes) (b d : Bool) → b ≡ short c → b ≡ false → x ≡ rest_of c → d ≡ short x → not d ≡ is_parted c
unfolding is_parted
parted-one c x b d e h r f = rw (sym e ∙ h, f, r)

-- which field it is does not matter
any_field : {T : Type 0} (f : T → Span → T) (i j : ℕ) (t : T) (rs : List Span) → gather_each f 0x7D i t rs ≡ gather_each f 0x7D j t rs
unfolding gather_each
any_field f i j t [] = refl
any_field f i j t (r ∷ rs) = any_field f (suc i) (suc j) (f t r) rs

-- a record's length is that of its first four bytes
front_same : (card : Bytes) (at p q : ℕ) → at + 4 ≤ p → p ≤ length card → at + 4 ≤ q → q ≤ length card
    → length_of (between card at p) ≡ length_of (between card at q)
front_same card at p q a b c d =
    let x = part_length card at p b in
    let y = part_length card at q d in
    ap num (within-front card at (between card at p) (within_all card at (p - at) (between card at p) refl) 4 (omega arith)
    ∙ sym (within-front card at (between card at q) (within_all card at (q - at) (between card at q) refl) 4 (omega arith)))

-- a record that ends before a place is not short up to there either
front-full : (card : Bytes) (at p to : ℕ) → to ≤ length card → short (between card at to) ≡ false → at + 4 + length_of (between card at to) ≤ p → p ≤ to
    → short (between card at p) ≡ false
front-full card at p to h t x y =
    let l = long-enough (between card at to) t in
    let b = l.two in
    let s = front_same card at p to (omega arith) (omega arith) (omega arith) h in
    let m = part_length card at p (omega arith) in
    enough-long (between card at p) (record { six = omega arith; two = omega arith; inside = omega arith })

-- its span is the first up to there
front-in : (card : Bytes) (at p to : ℕ) → to ≤ length card → short (between card at to) ≡ false → (e : ℕ) → e ≡ at + 4 + length_of (between card at to)
    → e ≤ p → p ≤ to → spans_in card at p ≡ span at e ∷ spans_in card e p
front-in card at p to h t e o x y =
    let l = long-enough (between card at to) t in
    let b = l.two in
    let s = front_same card at p to (omega arith) (omega arith) (omega arith) h in
    let z : at + 4 + length_of (between card at p) ≡ e = omega arith in
    first-in card at p (front-full card at p to h t (omega arith) y) ∙ ap (λ (n : ℕ). span at n ∷ spans_in card n p) z

module _ (card : Bytes) (from to : ℕ) (i : to ≤ length card) (g : is_parted (between card from to) ≡ true) where
  full-one : short (between card from to) ≡ false
  unfolding is_parted
  full-one = not-true _ ((and-eq-true_iff (not (short (between card from to))) (not (short (rest_of (between card from to))))).0 g).0

  abbrev Second : ℕ
  Second = from + 4 + length_of (between card from to)

  second_is : rest_of (between card from to) ≡ between card Second to
  second_is = rest_part card from to i full-one Second refl

  full-two : short (between card Second to) ≡ false
  unfolding is_parted
  full-two =
      ap short (sym second_is)
      ∙ not-true _ ((and-eq-true_iff (not (short (between card from to))) (not (short (rest_of (between card from to))))).0 g).1

  abbrev Third : ℕ
  Third = Second + 4 + length_of (between card Second to)

  third-fits : (Second ≤ Third) × (Third ≤ to)
  third-fits = let f = record-fits card Second to i full-two Third refl in (omega arith, f.1)

  third-is : (a b : Bytes) → a ≡ rest_of (between card from to) → b ≡ rest_of a → to - length b ≡ Third
  third-is a b x y =
      let z : b ≡ between card Third to = y ∙ ap rest_of (x ∙ second_is) ∙ rest_part card Second to i full-two Third refl in
      let p = ap length z in
      let q = part_length card Third to i in
      let f = third-fits.1 in
      omega arith

  all_in : spans_in card from to ≡ span from Second ∷ span Second Third ∷ spans_in card Third to
  all_in = first-in card from to full-one ∙ ap (λ (rs : List Span). span from Second ∷ rs) (first-in card Second to full-two)

  two_in : spans_in card from Third ≡ span from Second ∷ span Second Third ∷ []
  two_in =
      let f = third-fits in
      front-in card from Third to i full-one Second refl f.0 f.1
      ∙ ap (λ (rs : List Span). span from Second ∷ rs) (front-in card Second Third to i full-two Third refl (omega arith) f.1
      ∙ ap (λ (rs : List Span). span Second Third ∷ rs) (none_in card Third Third (none-short card Third Third (omega arith))))

-- THE LAW: the fields up to the third, and from there on
pub fn-parts : (s : Scope) (left from to : ℕ) (t u v : Table) → to ≤ length s.card → is_parted (between s.card from to) ≡ true
    → (a b : Bytes) → a ≡ rest_of (between s.card from to) → b ≡ rest_of a
    → u ≡ parts_added s left 0x7D t from (to - length b) → v ≡ parts_added s left 0x7D u (to - length b) to → v ≡ parts_added s left 0x7D t from to
unfolding gather_parts gather_each
fn-parts s left from to t u v i g a b x y p q =
    let card : Bytes = s.card in
    let third : ℕ = Third card from to i g in
    let e = third-is card from to i g a b x y in
    let f : Table → Span → Table = gather (added s) card left in
    let p' : u ≡ gather_each f 0x7D 0 t (spans_in card from third) = p ∙ ap (λ (n : ℕ). gather_each f 0x7D 0 t (spans_in card from n)) e in
    let q' : v ≡ gather_each f 0x7D 0 u (spans_in card third to) = q ∙ ap (λ (n : ℕ). gather_each f 0x7D 0 u (spans_in card n to)) e in
    q' ∙ ap (λ (w : Table). gather_each f 0x7D 0 w (spans_in card third to)) (p' ∙ ap (gather_each f 0x7D 0 t) (two_in card from to i g))
    ∙ any_field f 0 2 _ (spans_in card third to)
    ∙ sym (ap (gather_each f 0x7D 0 t) (all_in card from to i g))
