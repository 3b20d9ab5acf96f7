-- Whether two words say the same base, test by test. Assumes nothing.
use mathlib.Core.Path.{◌≡◌, refl, sym, ap, ◌∙◌}
use mathlib.Core.Bool.{Bool, true, false}
use Prim.Native.Nat.{ℕ, ◌+◌, ◌*◌, ◌/◌, ◌%◌, ◌^◌, ◌<◌}
use native.Mathlib.Omega.{arith}
use lib.Dec.{eqb}
use borrow.Author.Tests.{eq-eqb, ne_eqb}
use Rattle.wire.specs.Numbers.{Bytes, same_bytes}
use Rattle.records.specs.Record.{record_at}
use Rattle.rast.proofs.Tests.{by-test}
use Rattle.rast.proofs.Names.{turned}
use Rattle.operation.specs.declared.Shortening.{Shortening}
use Rattle.operation.specs.Operations.{same_paths}
use Rattle.prefix.specs.Prefix.{Scope, prefix_in}
use Rattle.comparing.specs.Compares.{number_of, place_in, base_word, base_at, same_base}
use Rattle.comparing.proofs.Operations.{path_bytes, paths-of}
use Rattle.comparing.proofs.Hashes.{number_small}

module _ (s : Scope) (v w : ℕ) where
  pub base-both-prefix : v % 65536 ≡ 0 → w % 65536 ≡ 0 → true ≡ same_base s v w
  unfolding same_base base_at
  base-both-prefix a b = rw (a, b) (sym ((paths-of s.op).reflexive (prefix_in s)))

  module _ (x : Bytes) (r : Bool) (f : r ≡ same_bytes x (prefix_in s)) where
    pub base-left : v % 65536 ≡ 0 → (w % 65536 ≡ 0 → ⊥) → x ≡ record_at s.card (w % 65536) → r ≡ same_base s v w
    unfolding same_base base_at
    base-left a b e =
        path_bytes s.op x (prefix_in s) r f ∙ ap (λ (y : Bytes). same_paths s.op y (prefix_in s)) e
        ∙ turned (paths-of s.op) (record_at s.card (w % 65536)) (prefix_in s) ∙ rw (a, ne_eqb (w % 65536) 0 b)

    pub base-right : (v % 65536 ≡ 0 → ⊥) → w % 65536 ≡ 0 → x ≡ record_at s.card (v % 65536) → r ≡ same_base s v w
    unfolding same_base base_at
    base-right a b e = path_bytes s.op x (prefix_in s) r f ∙ ap (λ (y : Bytes). same_paths s.op y (prefix_in s)) e ∙ rw (b, ne_eqb (v % 65536) 0 a)

  module _ (a : v % 65536 ≡ 0 → ⊥) (b : w % 65536 ≡ 0 → ⊥) where
    pub base-tags : (v / 65536 ≡ w / 65536 → ⊥) → false ≡ same_base s v w
    unfolding same_base
    base-tags t = rw (ne_eqb (v % 65536) 0 a, ne_eqb (w % 65536) 0 b, ne_eqb (v / 65536) (w / 65536) t)

    pub base-paths : v / 65536 ≡ w / 65536 → (x y : Bytes) (r : Bool) → x ≡ record_at s.card (v % 65536) → y ≡ record_at s.card (w % 65536)
        → r ≡ same_paths s.op x y → r ≡ same_base s v w
    unfolding same_base base_at
    base-paths t x y r e f g = g ∙ rw (e, f, ne_eqb (v % 65536) 0 a, ne_eqb (w % 65536) 0 b, eq-eqb (v / 65536) (w / 65536) t)

-- whether a path is the base at a place
module _ (s : Scope) (place : ℕ) (x : Bytes) (r : Bool) where
  pub is-base-prefix : place ≡ 0 → r ≡ same_bytes x (prefix_in s) → r ≡ same_paths s.op (base_at s place) x
  unfolding base_at
  is-base-prefix a e = path_bytes s.op x (prefix_in s) r e ∙ turned (paths-of s.op) x (prefix_in s) ∙ rw a

  pub is-base-path : (place ≡ 0 → ⊥) → (y : Bytes) → y ≡ record_at s.card place → r ≡ same_paths s.op y x → r ≡ same_paths s.op (base_at s place) x
  unfolding base_at
  is-base-path a y e f = f ∙ ap (λ (z : Bytes). same_paths s.op z x) e ∙ rw (ne_eqb place 0 a)

-- a base as a word: its place, and where it is a path its number
module _ (op : Shortening) (card : Bytes) where
  pub word-prefix : (p : ℕ) → p ≡ 0 → (0 ≡ base_word op card p) × (0 < 2 ^ 32)
  unfolding base_word
  word-prefix p z = rw z (refl, omega arith)

  pub word-path : (p q h : ℕ) (x : Bytes) → p < 65536 → (p ≡ 0 → ⊥) → q ≡ p → x ≡ record_at card q → (h ≡ number_of op x) × (h < 65536)
      → (q + 65536 * h ≡ base_word op card p) × (q + 65536 * h < 2 ^ 32)
  unfolding base_word
  word-path p q h x l n c e f = rw (ne_eqb p 0 n) (c', omega (arith, f.1))
    where
      c' : q + 65536 * h ≡ p + 65536 * number_of op (record_at card p)
      c' = rw (f.0, e, c)

  pub word-place : (p : ℕ) → p < 65536 → place_in (base_word op card p) ≡ p
  unfolding base_word
  word-place p l =
      by-test (eqb p 0) (λ t. rw t (let e = eq_of p t in omega arith))
      (λ t. rw t (let h = number_small op (record_at card p) in omega arith))
    where
      eq_of : (p : ℕ) → eqb p 0 ≡ true → p ≡ 0
      eq_of p t = borrow.Author.Tests.eqb-true p 0 t
