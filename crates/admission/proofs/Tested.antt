-- The two tests, one condition after another, as the code has them in hand. Assumes nothing.
use mathlib.Core.Path.{◌≡◌, ap, ◌∙◌}
use mathlib.Core.Bool.{false}
use Prim.Native.Nat.{ℕ, ◌+◌, ◌<◌, ◌≤◌}
use lib.ListN.{length, drop}
use lib.Dec.{eqb, leb}
use borrow.Author.Tests.{le-leb, lt-leb, eq-eqb, ne_eqb}
use Rattle.wire.specs.Numbers.{Bytes, between}
use Rattle.wire.proofs.Slices.{tail-is}
use Rattle.records.specs.Record.{length_of, kind_of}
use Rattle.admission.specs.Plain.{is_plain, is_extern}

module _ (root : Bytes) where
  pub plain-long : (length root ≡ 6 → ⊥) → false ≡ is_plain root
  plain-long h = rw (ne_eqb (length root) 6 h)

  module _ (six : length root ≡ 6) (n : ℕ) (e : n ≡ length_of root) where
    pub plain-filled : (n ≡ 2 → ⊥) → false ≡ is_plain root
    plain-filled h = rw (eq-eqb (length root) 6 six, ← e, ne_eqb n 2 h)

    module _ (two : n ≡ 2) (k : ℕ) (f : k ≡ kind_of root) where
      pub plain-low : k < 0x10 → false ≡ is_plain root
      plain-low h = rw (eq-eqb (length root) 6 six, ← e, eq-eqb n 2 two, ← f, lt-leb 0x10 k h)

      pub plain-last : 0x10 ≤ k → leb k 0x12 ≡ is_plain root
      plain-last h = rw (eq-eqb (length root) 6 six, ← e, eq-eqb n 2 two, ← f, le-leb 0x10 k h)

module _ (card : Bytes) where
  pub extern-few : length card < 12 → false ≡ is_extern card
  extern-few h = rw (lt-leb 12 (length card) h)

  module _ (twelve : 12 ≤ length card) (k : ℕ) (e : k ≡ kind_of card) where
    pub extern-other : (k ≡ 0x61 → ⊥) → false ≡ is_extern card
    extern-other h = rw (le-leb 12 (length card) twelve, ← e, ne_eqb k 0x61 h)

    module _ (kind : k ≡ 0x61) (n : ℕ) (f : n ≡ length_of card) where
      pub extern-part : (n + 4 ≡ length card → ⊥) → false ≡ is_extern card
      extern-part h = rw (le-leb 12 (length card) twelve, ← e, eq-eqb k 0x61 kind, ← f, ne_eqb (n + 4) (length card) h)

      module _ (whole : n + 4 ≡ length card) (m : ℕ) (g : m ≡ length_of (between card 6 (length card))) where
        said : m ≡ length_of (drop 6 card)
        said = g ∙ ap length_of (tail-is card 6)

        pub extern-more : (m + 10 ≡ length card → ⊥) → false ≡ is_extern card
        extern-more h =
            rw (le-leb 12 (length card) twelve, ← e, eq-eqb k 0x61 kind, ← f, eq-eqb (n + 4) (length card) whole, ← said, ne_eqb (m + 10) (length card) h)

        pub extern-last : m + 10 ≡ length card → (j : ℕ) → j ≡ kind_of (between card 6 (length card)) → eqb j 0x01 ≡ is_extern card
        extern-last h j i =
            rw (le-leb 12 (length card) twelve, ← e, eq-eqb k 0x61 kind, ← f, eq-eqb (n + 4) (length card) whole, ← said, eq-eqb (m + 10) (length card) h)
            (ap (λ (k : ℕ). eqb k 0x01) (i ∙ ap kind_of (tail-is card 6)))
