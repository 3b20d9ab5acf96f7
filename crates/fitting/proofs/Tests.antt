-- Whether there surely is room, test by test. Assumes nothing.
use mathlib.Core.Path.{◌≡◌, refl, sym, ap, ◌∙◌}
use mathlib.Core.Bool.{Bool, true, false, ◌&&◌, cond}
use mathlib.Core.List.{List, [], ◌∷◌}
use Prim.Native.Nat.{ℕ, ◌+◌, ◌-◌, ◌*◌, ◌/◌, ◌%◌, ◌^◌, ◌<◌, ◌≤◌, min}
use native.Mathlib.Numerals.{add-one}
use native.Mathlib.Omega.{arith}
use lib.ListN.{length, take, drop, get_or, length-take, length-drop}
use lib.Seq.{drop-drop, take_all, length-take-le}
use lib.Dec.{eqb, leb, ltb}
use borrow.Author.Tests.{lt-leb, le-leb, leb-true, leb-false, eq-eqb, ne_eqb}
use Rattle.wire.specs.Numbers.{Bytes}
use Rattle.records.specs.Record.{length_of, kind_of, content_of, first_record, rest_of}
use Rattle.records.specs.Reading.{short}
use Rattle.records.proofs.Tree.{long-enough}
use Rattle.rast.proofs.Tests.{by-test}
use Rattle.size.specs.Bound.{times}
use Rattle.operation.specs.declared.Shortening.{Shortening}
use Rattle.operation.specs.Operations.{operation_of}
use Rattle.prefix.specs.Prefix.{Scope}
use Rattle.chains.specs.Chains.{room, word_at}
use Rattle.adding.specs.Adds.{table}
use Rattle.adding.specs.Settles.{own_words}
use Rattle.gathering.proofs.Spans.{kind-front}
use Rattle.rewriting.specs.Rewrites.{parts_of}
use Rattle.tables.proofs.Beside.{own-taken}
use Rattle.rewriting.proofs.Parts.{parts_none, parts-step}
use Rattle.fitting.specs.Fitting.{surely_fits, are_few, nested_few, use_most, uses_most, is_roomy}

-- dividing the one number and multiplying the other
divided : (t n m : ℕ) → (n ≤ m / t → t * n ≤ m) → (m / t < n → m < t * n) → leb n (m / t) ≡ leb (t * n) m
divided t n m f g =
    by-test (leb n (m / t))
    (λ h. h ∙ sym (le-leb (t * n) m (f (leb-true n (m / t) h))))
    (λ h. h ∙ sym (lt-leb (t * n) m (g (leb-false n (m / t) h))))

pub wide-again : (op : Shortening) (n m : ℕ) → (operation_of op).walks_again ≡ true → leb n (m / 42) ≡ leb (times (operation_of op) * n) m
wide-again op n m e = rw e (divided 42 n m (λ h. omega arith) (λ h. omega arith))

pub wide-once : (op : Shortening) (n m : ℕ) → (operation_of op).walks_again ≡ false → leb n (m / 4) ≡ leb (times (operation_of op) * n) m
wide-once op n m e = rw e (divided 4 n m (λ h. omega arith) (λ h. omega arith))

-- by the card's length
module _ (op : Shortening) (card out : Bytes) (words : List ℕ) {w : Bool} (wide : w ≡ leb (times (operation_of op) * length card) (length out)) where
  pub fits_not : w ≡ false → false ≡ surely_fits op card out words
  unfolding surely_fits
  fits_not h = rw (sym wide ∙ h)

  pub fits-is : w ≡ true → (r : ℕ) → r ≡ room words → leb (length card / 18) r ≡ surely_fits op card out words
  unfolding surely_fits
  fits-is h r e = rw (sym wide ∙ h, e)

-- one declaration
pub many_is : (k n most : ℕ) → k ≡ 0x62 → ltb most (n / 18) ≡ (eqb k 0x62 && ltb most (n / 18))
many_is k n most e = rw (eq-eqb k 0x62 e)

pub many-not : (k n most : ℕ) → (k ≡ 0x62 → ⊥) → false ≡ (eqb k 0x62 && ltb most (n / 18))
many-not k n most e = rw (ne_eqb k 0x62 e)

-- the declarations from place i on decide
pub record Left (most : ℕ) (c : Bytes) (i : ℕ) : Type 0 where
  pub inside : i ≤ length c
  pub same : are_few most (parts_of c) ≡ are_few most (parts_of (drop i c))

pub left-start : (most : ℕ) (c : Bytes) → Left most c 0
left-start most c = record { inside = omega arith; same = refl }

module _ {most : ℕ} {c : Bytes} {i : ℕ} (l : Left most c i) where
  none_left : short (drop i c) ≡ true → true ≡ are_few most (parts_of c)
  unfolding are_few
  none_left t = sym (l.same ∙ ap (are_few most) (parts_none (drop i c) t))

  pub left_end : length c ≤ i → true ≡ are_few most (parts_of c)
  left_end h = none_left (go (drop i c) (let d = length-drop i c in omega arith))
    where
      go : (s : Bytes) → length s ≤ 0 → short s ≡ true
      go [] g = refl
      go (b ∷ s) g = absurd (omega arith)

  module _ {s : Bytes} (e : s ≡ drop i c) {b : Bool} (f : b ≡ short s) where
    pub left-short : b ≡ true → true ≡ are_few most (parts_of c)
    left-short t = none_left (ap short (sym e) ∙ sym f ∙ t)

    module _ (t : b ≡ false) {m : ℕ} (g : (m ≡ length_of s) × (m < 2 ^ 32)) where
      abbrev Rest : Bytes
      Rest = drop i c

      long : short Rest ≡ false
      long = ap short (sym e) ∙ sym f ∙ t

      same_length : m ≡ length_of Rest
      same_length = g.0 ∙ ap length_of e

      pub left-inside : i + (4 + m) ≤ length c
      left-inside =
          let a = (long-enough Rest long).inside in
          let n = same_length in
          let d = length-drop i c in
          let h = l.inside in
          omega arith

      first-length : length (first_record Rest) ≡ 4 + m
      first-length =
          let a = (long-enough Rest long).inside in
          let n = same_length in
          let d = length-take (4 + length_of Rest) Rest in
          omega arith

      module _ {k : ℕ} (z : (k ≡ kind_of s) × (k < 65536)) {d : Bool} (y : d ≡ (eqb k 0x62 && ltb most ((4 + m) / 18))) where
        first-many : (eqb (kind_of (first_record Rest)) 0x62 && ltb most (length (first_record Rest) / 18)) ≡ d
        first-many =
            let a = (long-enough Rest long).two in
            rw (kind-front Rest (4 + length_of Rest) (omega arith), first-length, ← e, ← z.0) (sym y)

        step : are_few most (parts_of c) ≡ cond d false (are_few most (parts_of (drop (i + (4 + m)) c)))
        unfolding are_few
        step =
            l.same ∙ ap (are_few most) (parts-step Rest long)
            ∙ rw (first-many, ← same_length, drop-drop (4 + m) i c)

        pub left-many : d ≡ true → false ≡ are_few most (parts_of c)
        left-many q = sym (step ∙ rw q)

        pub left-next : d ≡ false → Left most c (i + (4 + m))
        left-next q = record { inside = left-inside; same = step ∙ rw q }

-- a card's declarations, by the parts that the code takes
pub few-in : (card c₁ c₂ c₃ c₄ c₅ : Bytes) → c₁ ≡ content_of card → c₂ ≡ rest_of c₁ → c₃ ≡ rest_of c₂ → c₄ ≡ rest_of c₃ → c₅ ≡ content_of c₄ → (most : ℕ)
    → {b : Bool} → b ≡ are_few most (parts_of c₅) → b ≡ nested_few card most
unfolding nested_few
few-in card c₁ c₂ c₃ c₄ c₅ e₁ e₂ e₃ e₄ e₅ most h = h ∙ rw (e₅, e₄, e₃, e₂, e₁)

-- they have room for the pairs
pub own_room : (words : List ℕ) (pairs k : ℕ) {most : ℕ} → most ≡ room words → pairs ≤ most → k ≡ min (4 * pairs) (length words)
    → pairs ≤ room (take k words)
own_room words pairs k e h o = let l = length-take-le k words (omega arith) in omega arith

-- the use of one pair, by its words
module _ (card : Bytes) (words : List ℕ) (i : ℕ) {w : ℕ} (e : w ≡ word_at words i) where
  pub use-none : w % 65536 ≡ 0 → 0 ≡ use_most card words i
  unfolding use_most
  use-none h = rw (← e, eq-eqb (w % 65536) 0 h)

  pub use-is : (w % 65536 ≡ 0 → ⊥) → {s : Bytes} → s ≡ take (length card) (drop (w % 65536) card) → {m : ℕ} → m ≡ length_of s
      → {l : ℕ} → l ≡ get_or words (4 * i + 1) 0 → 31 + l + (4 + m) ≡ use_most card words i
  unfolding use_most
  use-is h p q r =
      let d = length-drop (w % 65536) card in
      rw (← e, ne_eqb (w % 65536) 0 h, q, p, take_all (length card) (drop (w % 65536) card) (omega arith), r)

-- and of one pair more
pub uses-next : (card : Bytes) (words : List ℕ) (i : ℕ) {n u : ℕ} → n ≡ uses_most card words i → u ≡ use_most card words i
    → n + u ≡ uses_most card words (i + 1)
unfolding uses_most
uses-next card words i e f = rw (add-one i, ← e, ← f)

-- by the outermost module's table
module _ (s : Scope) (lent grown pairs : ℕ) (words : List ℕ) where
  abbrev Roomy : Bool
  Roomy = is_roomy s lent grown (table pairs words)

  abbrev Uses : ℕ
  Uses = uses_most s.card (own_words (table pairs words)) pairs

  abbrev Bound : ℕ
  Bound = length s.card + grown + Uses

  pub roomy-full : (most : ℕ) → most ≡ room words → most < pairs → false ≡ Roomy
  unfolding is_roomy
  roomy-full most e h = rw (lt-leb pairs (room words) (omega (arith, e)))

  module _ {most : ℕ} (e : most ≡ room words) (h : pairs ≤ most) where
    count_fits : leb pairs (room words) ≡ true
    count_fits = le-leb pairs (room words) (omega arith)

    over : lent < Bound → false ≡ Roomy
    unfolding is_roomy
    over l = rw (count_fits, lt-leb Bound lent l)

    pub roomy-card : lent < length s.card → false ≡ Roomy
    roomy-card l = over (omega arith)

    module _ (i : length s.card ≤ lent) where
      pub roomy-grown : lent - length s.card < grown → false ≡ Roomy
      roomy-grown l = over (omega arith)

      module _ (j : grown ≤ lent - length s.card) {k : ℕ} (o : k ≡ min (4 * pairs) (length words)) {uses : ℕ}
          (u : uses ≡ uses_most s.card (take k words) pairs) where
        uses-are : uses ≡ Uses
        uses-are = u ∙ ap (λ (x : List ℕ). uses_most s.card x pairs) (own-taken words pairs k o)

        pub roomy-uses : lent - length s.card - grown < uses → false ≡ Roomy
        roomy-uses l = let w = uses-are in over (omega arith)

        pub roomy-is : uses ≤ lent - length s.card - grown → {b : Bool} → b ≡ nested_few s.card most → b ≡ Roomy
        unfolding is_roomy
        roomy-is l f = let w = uses-are in f ∙ rw (e, count_fits, le-leb Bound lent (omega arith))
