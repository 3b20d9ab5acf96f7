-- The records of bytes that a loop has passed, and the one that stands next. Assumes nothing.
use mathlib.Core.Path.{◌≡◌, refl, sym, ap, ◌∙◌}
use mathlib.Core.Bool.{true, false}
use mathlib.Core.List.{List, [], ◌∷◌, ◌++◌, append-nil, append_assoc}
use Prim.Native.Nat.{ℕ, ◌+◌, ◌-◌, ◌<◌, ◌≤◌}
use native.Mathlib.Omega.{arith}
use lib.ListN.{length, take, drop, length-append, length-drop}
use lib.Seq.{drop-drop, length-take-le}
use Rattle.wire.specs.Numbers.{Bytes}
use Rattle.wire.proofs.Slices.{tail-is, tail-length}
use Rattle.records.specs.Record.{length_of}
use Rattle.records.specs.Reading.{short}
use Rattle.records.proofs.Tree.{long-enough}
use Rattle.rast.proofs.Tests.{by-test}
use Rattle.rewriting.specs.Rewrites.{parts_of}
use Rattle.rewriting.proofs.Parts.{parts_none, parts-step}

-- what stands from a place on, as code takes it
abbrev pub tail : Bytes → ℕ → Bytes
tail d i = take (length d - i) (drop i d)

-- a record whose length is x stands there
pub record Next (d : Bytes) (i x : ℕ) : Type 0 where
  pub inside : i + (4 + x) ≤ length d
  pub long : length (take (4 + x) (tail d i)) ≡ 4 + x
  pub parts : parts_of (drop i d) ≡ take (4 + x) (tail d i) ∷ parts_of (drop (i + (4 + x)) d)

module _ (d : Bytes) (i : ℕ) where
  pub next : short (tail d i) ≡ false → (x : ℕ) → x ≡ length_of (tail d i) → Next d i x
  next t x e =
      let l = long-enough (tail d i) t in
      let a = l.six in
      let b = l.inside in
      let f = tail-length d i in
      let n : 4 + x ≡ 4 + length_of (tail d i) = ap (λ (y : ℕ). 4 + y) e in
      record {
        inside = omega arith;
        long = length-take-le (4 + x) (tail d i) (omega arith);
        parts =
            ap parts_of (sym (tail-is d i)) ∙ parts-step (tail d i) t
            ∙ rw (← n, tail-is d i, drop-drop (4 + x) i d);
      }

  -- none does
  pub none-next : short (tail d i) ≡ true → parts_of (drop i d) ≡ []
  none-next t = ap parts_of (sym (tail-is d i)) ∙ parts_none (tail d i) t

  pub end-next : length d ≤ i → parts_of (drop i d) ≡ []
  end-next l = parts_none (drop i d) (none (drop i d) (omega (arith, length-drop i d)))
    where
      none : (s : Bytes) → length s ≤ 0 → short s ≡ true
      none [] g = refl
      none (b ∷ s) g = absurd (omega arith)

-- j records stand ahead of place i
pub record Passed (d : Bytes) (i j : ℕ) : Type 0 where
  pub done : List Bytes
  pub inside : i ≤ length d
  pub few : j ≤ i
  pub many : length done ≡ j
  pub parts : done ++ parts_of (drop i d) ≡ parts_of d

module _ (d : Bytes) where
  abbrev pub passed_none : Passed d 0 0
  passed_none = record { done = []; inside = omega arith; few = omega arith; many = refl; parts = refl }

  module _ (i j : ℕ) (h : Passed d i j) where
    pub passed-all : parts_of (drop i d) ≡ [] → j ≡ length (parts_of d)
    passed-all e = sym h.many ∙ ap length (sym (append-nil h.done) ∙ ap (λ (l : List Bytes). h.done ++ l) (sym e) ∙ h.parts)

    -- one more follows where there are more
    pub passed-more : j < length (parts_of d) → short (tail d i) ≡ false
    passed-more l = by-test (short (tail d i)) (λ t. absurd (omega (arith, passed-all (none-next d i t)))) (λ t. t)

    abbrev pub passed-next : (x : ℕ) → Next d i x → Passed d (i + (4 + x)) (j + 1)
    passed-next x n =
        record {
          done = h.done ++ (take (4 + x) (tail d i) ∷ []);
          inside = n.inside;
          few = omega (arith, h.few);
          many = length-append h.done (take (4 + x) (tail d i) ∷ []) ∙ ap (λ (n : ℕ). n + 1) h.many;
          parts =
              append_assoc h.done (take (4 + x) (tail d i) ∷ []) (parts_of (drop (i + (4 + x)) d))
              ∙ ap (λ (l : List Bytes). h.done ++ l) (sym n.parts) ∙ h.parts;
        }
