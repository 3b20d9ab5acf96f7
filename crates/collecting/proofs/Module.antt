-- The module at a place of the card, as the only record between two places. Assumes nothing.
use mathlib.Core.Path.{◌≡◌, ap, sym, ◌∙◌}
use mathlib.Core.Bool.{Bool, true, false}
use mathlib.Core.List.{List, [], ◌∷◌}
use Prim.Native.Nat.{ℕ, ◌+◌, ◌-◌, ◌^◌, ◌<◌, ◌≤◌}
use native.Mathlib.Omega.{arith}
use lib.ListN.{length, take, drop, length-take, length-drop}
use lib.Seq.{take-take}
use borrow.Author.Tests.{lt-ltb, le-ltb}
use Rattle.wire.specs.Numbers.{Bytes, between, num}
use Rattle.wire.proofs.Slices.{tail-part}
use Rattle.records.specs.Record.{length_of}
use Rattle.records.specs.Reading.{short}
use Rattle.records.proofs.Tree.{Enough, long-enough, enough-long}
use Rattle.prefix.specs.Prefix.{Scope}
use Rattle.adding.specs.Adds.{Table, table, started, added}
use Rattle.gathering.proofs.Spans.{none-short, none_in, first-in}
use Rattle.gathering.specs.Gathers.{Span, span, spans_in, gather_each, gather, gather_parts, gather_module, parts_added, gathered}

module _ (card : Bytes) (at : ℕ) {x : Bytes} (e : x ≡ take (length card) (drop at card)) {b : Bool} (f : b ≡ short x) where
  there : x ≡ drop at card
  there = tail-part card x at e

  module _ (h : b ≡ false) where
    enough : Enough x
    enough = long-enough x (sym f ∙ h)

    long : length x ≡ length card - at
    long = ap length there ∙ length-drop at card

    pub module-four : at + 4 ≤ length card
    module-four = let a = enough.six in let m = long in omega arith

    module _ {n : ℕ} (l : (n ≡ length_of x) × (n < 2 ^ 32)) where
      pub module-six : at ≤ at + 4 + n
      module-six = omega arith

      pub module-to : at + 4 + n ≤ length card
      module-to = let i = enough.inside in let j = enough.six in let k = l.0 in let m = long in omega arith

      abbrev Own : Bytes
      Own = between card at (at + 4 + n)

      own_is : Own ≡ take (4 + n) x
      own_is = let w : at + 4 + n - at ≡ 4 + n = omega arith in rw (w, ← there)

      own-length : length_of Own ≡ n
      own-length = ap length_of own_is ∙ ap num (take-take 4 (4 + n) x (omega arith)) ∙ sym l.0

      own-long : short Own ≡ false
      own-long =
          let i = enough.inside in
          let j = enough.two in
          let k = l.0 in
          let o = own-length in
          let m : length Own ≡ 4 + n = ap length own_is ∙ length-take (4 + n) x ∙ (omega arith) in
          enough-long Own (record { six = omega arith; two = omega arith; inside = omega arith })

      pub alone-in : spans_in card at (at + 4 + n) ≡ span at (at + 4 + n) ∷ []
      alone-in =
          let to = at + 4 + n in
          first-in card at to own-long
          ∙ ap (λ (k : ℕ). span at (at + 4 + k) ∷ spans_in card (at + 4 + k) to) own-length
          ∙ ap (λ (rs : List Span). span at to ∷ rs) (none_in card to to (none-short card to to (omega arith)))

module _ (s : Scope) {words : List ℕ} (words₀ : List ℕ) (at left : ℕ) (w : words ≡ started words₀) where
  abbrev Module : Table
  Module = gathered s left at words₀

  pub module-long : 65536 < length s.card → table 0 words ≡ Module
  unfolding gather_module
  module-long h = rw (lt-ltb 65536 (length s.card) h, w)

  module _ (small : length s.card ≤ 65536) {x : Bytes} (e : x ≡ take (length s.card) (drop at s.card)) {b : Bool} (f : b ≡ short x) where
    pub module-none : b ≡ true → table 0 words ≡ Module
    unfolding gather_module
    module-none h = rw (le-ltb 65536 (length s.card) small, ← there s.card at e f, ← f, h, w)

    pub module-gathered : b ≡ false → {n : ℕ} → (n ≡ length_of x) × (n < 2 ^ 32) → {u : Table} → u ≡ parts_added s left 2 (table 0 words) at (at + 4 + n)
        → u ≡ Module
    unfolding gather_module gather_parts gather_each
    module-gathered h l y =
        y ∙ ap (gather_each (gather (added s) s.card left) 2 0 (table 0 words)) (alone-in s.card at e f h l)
        ∙ rw (le-ltb 65536 (length s.card) small, ← there s.card at e f, ← f, h, l.0, w)
