-- The records that stand one after the other between two places of the card. Assumes nothing.
use mathlib.Core.Path.{◌≡◌, refl, ap, sym, ◌∙◌}
use mathlib.Core.Bool.{true, false, cond}
use mathlib.Core.List.{List, [], ◌∷◌}
use Prim.Native.Nat.{ℕ, zero, suc, ◌+◌, ◌-◌, ◌<◌, ◌≤◌}
use native.Mathlib.Omega.{arith}
use lib.ListN.{length, take, drop, length-take, length-drop}
use Rattle.wire.specs.Numbers.{Bytes, between, num}
use Rattle.records.specs.Record.{length_of, kind_of}
use Rattle.records.specs.Reading.{short}
use Rattle.records.proofs.Tree.{Enough, long-enough}
use Rattle.rast.proofs.Tests.{by-test}
use Rattle.gathering.specs.Gathers.{Span, span, spans_up_to, spans_in}

-- a record's kind is that of its first six bytes
six : (x : Bytes) (m : ℕ) → take 2 (drop 4 (take (suc (suc (suc (suc (suc (suc m)))))) x)) ≡ take 2 (drop 4 x)
six [] m = refl
six (a ∷ []) m = refl
six (a ∷ b ∷ []) m = refl
six (a ∷ b ∷ c ∷ []) m = refl
six (a ∷ b ∷ c ∷ d ∷ []) m = refl
six (a ∷ b ∷ c ∷ d ∷ e ∷ []) m = refl
six (a ∷ b ∷ c ∷ d ∷ e ∷ f ∷ r) m = refl

pub kind-front : (x : Bytes) (m : ℕ) → 6 ≤ m → kind_of (take m x) ≡ kind_of x
kind-front x m h = let q : m ≡ suc (suc (suc (suc (suc (suc (m - 6)))))) = omega arith in rw q (ap num (six x (m - 6)))

pub between-length : (card : Bytes) (from to : ℕ) → length (between card from to) ≤ to - from
between-length card from to = let a = length-take (to - from) (drop from card) in omega arith

-- a record that is not short is at least six bytes long, and ends within
pub span_fits : (card : Bytes) (from to : ℕ) → short (between card from to) ≡ false
    → (from + 6 ≤ from + 4 + length_of (between card from to)) × (from + 4 + length_of (between card from to) ≤ to) × (from + 6 ≤ to)
span_fits card from to h =
    let e : Enough (between card from to) = long-enough (between card from to) h in
    let l = between-length card from to in
    let a = e.six in
    let b = e.two in
    let c = e.inside in
    (omega arith, omega arith, omega arith)

pub none-short : (card : Bytes) (from to : ℕ) → to - from ≤ 0 → short (between card from to) ≡ true
none-short card from to h = ap (λ (n : ℕ). short (take n (drop from card))) (let e : to - from ≡ 0 = omega arith in e)

-- the records between two places, whatever their number is bounded by
up_to-same : (card : Bytes) (n m from to : ℕ) → to - from ≤ n → to - from ≤ m → spans_up_to card n from to ≡ spans_up_to card m from to
unfolding spans_up_to
up_to-same card zero zero from to h g = refl
up_to-same card zero (suc m) from to h g = rw (none-short card from to h)
up_to-same card (suc n) zero from to h g = rw (none-short card from to g)
up_to-same card (suc n) (suc m) from to h g =
    by-test (short (between card from to)) (λ t. rw t)
    (λ t. let f = span_fits card from to t in
    let a = f.0 in
    let b = f.2 in
    rw (t, up_to-same card n m (from + 4 + length_of (between card from to)) to (omega arith) (omega arith)))

up-to-none : (card : Bytes) (n from to : ℕ) → short (between card from to) ≡ true → spans_up_to card n from to ≡ []
unfolding spans_up_to
up-to-none card zero from to h = refl
up-to-none card (suc n) from to h = rw h

pub none_in : (card : Bytes) (from to : ℕ) → short (between card from to) ≡ true → spans_in card from to ≡ []
unfolding spans_in
none_in card from to h = up-to-none card (to - from) from to h

pub first-in : (card : Bytes) (from to : ℕ) → short (between card from to) ≡ false
    → spans_in card from to ≡ span from (from + 4 + length_of (between card from to)) ∷ spans_in card (from + 4 + length_of (between card from to)) to
unfolding spans_in spans_up_to
first-in card from to h =
    let f = span_fits card from to h in
    let a = f.0 in
    let b = f.2 in
    let e : to - from ≡ suc (to - from - 1) = omega arith in
    let end = from + 4 + length_of (between card from to) in
    ap (λ (n : ℕ). spans_up_to card n from to) e
    ∙ rw (h, up_to-same card (to - from - 1) (to - end) end to (omega arith) (omega arith))
