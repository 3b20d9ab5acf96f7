-- The laws of a line's fields: where they end. Assumes nothing.
use Rattle.std.proofs.Common.{◌≡◌, refl, ◌∙◌, ℕ, zero, suc, ◌+◌, ◌≤◌, ◌<◌, [], ◌∷◌, cond, eqb, Bool, true, false, length, take, drop, get_or, ap, length-drop, ◌-◌, arith, add-one, ◌&&◌, rules, tests}
use borrow.Author.Tests.{eq-eqb, ne_eqb}
use Rattle.wire.specs.Numbers.{Bytes, same_bytes}
use Rattle.wire.proofs.Slices.{tail-part}
use Rattle.test_text.specs.Text.{First, until, beyond}

first_later : {x b r : ℕ} {s : Bytes} → First (x ∷ s) b (suc r) → First s b r
first_later f = record {
  within = omega (arith, f.within);
  before = λ k h e. f.before (suc k) (omega arith) e;
  found = f.found;
}

pub until_first : (b : ℕ) (s : Bytes) (r : ℕ) → First s b r → take r s ≡ until b s
unfolding until
until_first b [] r f = absurd (omega (arith, f.within))
until_first b (x ∷ s) zero f = rw (eq-eqb x b f.found)
until_first b (x ∷ s) (suc r) f = rw (ne_eqb x b (f.before 0 (omega arith)), until_first b s r (first_later f))

pub until_none : (b : ℕ) (s : Bytes) → ((k : ℕ) → k < length s → get_or s k 0 ≡ b → ⊥) → s ≡ until b s
unfolding until
until_none b [] h = refl
until_none b (x ∷ s) h = rw (ne_eqb x b (h 0 (omega arith)), ← until_none b s (λ k i. h (suc k) (omega arith)))

beyond_next : (b : ℕ) (s : Bytes) (r : ℕ) → First s b r → drop (suc r) s ≡ beyond b s
unfolding beyond
beyond_next b [] r f = absurd (omega (arith, f.within))
beyond_next b (x ∷ s) zero f = rw (eq-eqb x b f.found)
beyond_next b (x ∷ s) (suc r) f = rw (ne_eqb x b (f.before 0 (omega arith))) (beyond_next b s r (first_later f))

pub beyond_first : (b : ℕ) (s : Bytes) (r : ℕ) → First s b r → drop (r + 1) s ≡ beyond b s
beyond_first b s r f = rw (add-one r) (beyond_next b s r f)

pub beyond_none : (b : ℕ) (s : Bytes) → ((k : ℕ) → k < length s → get_or s k 0 ≡ b → ⊥) → [] ≡ beyond b s
unfolding beyond
beyond_none b [] h = refl
beyond_none b (x ∷ s) h = rw (ne_eqb x b (h 0 (omega arith))) (beyond_none b s (λ k i. h (suc k) (omega arith)))

short : (t : Bool) (x : ℕ) (s u : Bytes) → length u ≤ length s → length (cond t [] (x ∷ u)) ≤ length (x ∷ s)
short true x s u h = omega arith
short false x s u h = omega arith

until_short : (b : ℕ) (s : Bytes) → length (until b s) ≤ length s
unfolding until
until_short b [] = omega arith
until_short b (x ∷ s) = short (eqb x b) x s (until b s) (until_short b s)

-- the line that starts at i, as the code takes it
pub line_is : (text p r : Bytes) (i : ℕ) → p ≡ take (length text) (drop i text) → r ≡ until 10 p
    → (r ≡ until 10 (drop i text)) × (length r ≤ length text - i)
line_is text p r i e f =
    let g : r ≡ until 10 (drop i text) = f ∙ ap (until 10) (tail-part text p i e) in
    let m : length r ≡ length (until 10 (drop i text)) = ap length g in
    let h = until_short 10 (drop i text) in
    (g, omega (arith, length-drop i text))

-- whether a field is -, as the code asks it
pub dash_is : (s : Bytes) → same_bytes s (45 ∷ []) ≡ (eqb (length s) 1 && eqb (get_or s 0 0) 45)
unfolding same_bytes
dash_is [] = refl
dash_is (x ∷ []) = search (rules, tests)
dash_is (x ∷ y ∷ s) = search (rules, tests)
