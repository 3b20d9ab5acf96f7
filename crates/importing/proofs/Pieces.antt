-- A use laid piece by piece: the heads of the records around its path, then the path. Assumes nothing.
use mathlib.Core.Path.{◌≡◌, ap, ◌∙◌}
use mathlib.Core.List.{[], ◌∷◌, ◌++◌}
use Prim.Native.Nat.{ℕ, ◌+◌}
use native.Mathlib.Omega.{arith}
use lib.ListN.{length, length-append}
use Rattle.wire.specs.Numbers.{Bytes}
use Rattle.records.specs.Record.{record_bytes}
use Rattle.records.proofs.Tree.{record-length}
use Rattle.prefix.specs.Prefix.{selection}
use Rattle.pairs.specs.Stored.{stored}
use Rattle.pairs.specs.Choice.{use_bytes}
use Rattle.laying.specs.Lays.{lay, Laid}
use Rattle.laying.proofs.Laws.{lay-behind}
use Rattle.heads.specs.Heads.{head_bytes}
use Rattle.heads.proofs.Laws.{lay-record}

-- what is laid at a place that is said in another way
at_place : (o after : Bytes) (p q : ℕ) (b : Bytes) → p ≡ q → after ≡ lay o p b → after ≡ lay o q b
at_place o after p q b e h = h ∙ ap (λ (x : ℕ). lay o x b) e

-- a piece behind another, and a content behind its head
behind : (out o after : Bytes) (at p : ℕ) (a b : Bytes) → p ≡ at + length a → o ≡ lay out at a → after ≡ lay o p b → after ≡ lay out at (a ++ b)
behind out o after at p a b e f h = at_place o after p (at + length a) b e h ∙ rw f (lay-behind out at a b)

headed : (out o after : Bytes) (at p n k : ℕ) (c : Bytes) → p ≡ at + 6 → n ≡ 2 + length c → o ≡ lay out at (head_bytes n k) → after ≡ lay o p c
    → after ≡ lay out at (record_bytes k c)
headed out o after at p n k c e l f h = at_place o after p (at + 6) c e h ∙ rw f (lay-record out at k c n l)

module _ (name base : Bytes) where
  abbrev Named : Bytes
  Named = record_bytes 0x01 name

  abbrev Path : Bytes
  Path = selection base Named

  abbrev Public : Bytes
  Public = record_bytes 0x03 (1 ∷ [])

  named-length : length Named ≡ 6 + length name
  named-length = record-length 0x01 name

  inside-length : length (base ++ Named) ≡ length base + length name + 6
  inside-length = omega (arith, length-append base Named, named-length)

  path-length : length Path ≡ length base + length name + 12
  path-length = omega (arith, record-length 0x13 (base ++ Named), inside-length)

  public-length : length Public ≡ 7
  public-length = record-length 0x03 (1 ∷ [])

  used-length : length (Public ++ Path) ≡ length base + length name + 19
  used-length = omega (arith, length-append Public Path, public-length, path-length)

  use-inside : length (record_bytes 0x80 (Public ++ Path)) ≡ length base + length name + 25
  use-inside = omega (arith, record-length 0x80 (Public ++ Path), used-length)

  pub use-length : length (use_bytes (stored name base)) ≡ length base + length name + 31
  use-length = omega (arith, record-length 0x6A (record_bytes 0x80 (Public ++ Path)), use-inside)

  module _ (out : Bytes) (at : ℕ) where
    pub selection-laid : (o₁ o₂ o₃ o₄ : Bytes)
        → o₁ ≡ lay out at (head_bytes (length base + length name + 8) 0x13) → o₂ ≡ lay o₁ (at + 6) base
        → o₃ ≡ lay o₂ (at + 6 + length base) (head_bytes (length name + 2) 0x01) → o₄ ≡ lay o₃ (at + 6 + length base + 6) name
        → Laid out at (selection base (record_bytes 0x01 name)) (at + 6 + length base + 6 + length name) o₄
    selection-laid o₁ o₂ o₃ o₄ f g h i = record {
      ends = omega (arith, path-length);
      bytes = headed out o₁ o₄ at (at + 6) (length base + length name + 8) 0x13 (base ++ Named) (omega arith) (omega (arith, inside-length)) f
          (behind o₁ o₂ o₄ (at + 6) (at + 6 + length base) base Named (omega arith) g
          (headed o₂ o₃ o₄ (at + 6 + length base) (at + 6 + length base + 6) (length name + 2) 0x01 name (omega arith) (omega arith) h i));
    }

    pub use-laid : (o₁ o₂ o₃ o₄ : Bytes) (e : ℕ) (o₅ : Bytes)
        → o₁ ≡ lay out at (head_bytes (length base + length name + 27) 0x6A)
        → o₂ ≡ lay o₁ (at + 6) (head_bytes (length base + length name + 21) 0x80)
        → o₃ ≡ lay o₂ (at + 12) (head_bytes 3 0x03) → o₄ ≡ lay o₃ (at + 18) (1 ∷ [])
        → Laid o₄ (at + 19) (selection base (record_bytes 0x01 name)) e o₅ → Laid out at (use_bytes (stored name base)) e o₅
    use-laid o₁ o₂ o₃ o₄ e o₅ f g h i l = record {
      ends = omega (arith, l.ends, path-length, use-length);
      bytes = headed out o₁ o₅ at (at + 6) (length base + length name + 27) 0x6A (record_bytes 0x80 (Public ++ Path)) (omega arith)
          (omega (arith, use-inside)) f
          (headed o₁ o₂ o₅ (at + 6) (at + 12) (length base + length name + 21) 0x80 (Public ++ Path) (omega arith) (omega (arith, used-length)) g
          (behind o₂ o₄ o₅ (at + 12) (at + 19) Public Path (omega (arith, public-length))
          (headed o₂ o₃ o₄ (at + 12) (at + 18) 3 0x03 (1 ∷ []) (omega arith) (omega arith) h i) l.bytes));
    }
