-- A module, test by test: what is left, a full table, and a Mod that is written anew. Assumes nothing.
use mathlib.Core.Path.{◌≡◌, refl, sym, ap, subst, ◌∙◌}
use mathlib.Core.List.{List, [], ◌∷◌, ◌++◌}
use Prim.Native.Nat.{ℕ, suc, ◌+◌, ◌-◌, ◌^◌, ◌<◌, ◌≤◌}
use native.Mathlib.Omega.{arith}
use lib.ListN.{length, length-append}
use borrow.Author.Tests.{eq-eqb, ne_eqb, lt-ltb, le-ltb}
use Rattle.wire.specs.Numbers.{Bytes, between}
use Rattle.records.specs.Record.{kind_of, content_of}
use Rattle.operation.specs.declared.Shortening.{Shortening}
use Rattle.prefix.specs.Prefix.{scope}
use Rattle.chains.specs.Chains.{room}
use Rattle.adding.specs.Adds.{Table, table}
use Rattle.fields.specs.Fields.{name_place}
use Rattle.gathering.specs.Gathers.{Span, span}
use Rattle.gathering.proofs.Spans.{between-length}
use Rattle.rewriting.proofs.Lengths.{content-inside}
use Rattle.tables.specs.Tables.{table_of}
use Rattle.laying.specs.Lays.{lay}
use Rattle.laying.proofs.Laws.{lay-nil}
use Rattle.modules.specs.Modules.{Made, made, ahead_in, body_made, mod_made, module_made, card_made}
use Rattle.modules.proofs.Keeps.{held-length}
use Rattle.modules.proofs.Bound.{module-small}
use Rattle.writing.specs.Wrote.{Wrote, Within}

module _ (op : Shortening) (card root : Bytes) (left : ℕ) (chain : List ℕ) (at to owner pairs : ℕ) (words : List ℕ) (out r : Bytes) (y : r ≡ between card at to)
  where
    abbrev Whole : Made
    Whole = module_made op card root left chain (span at to) owner (table pairs words)

    as-it-is : (after : Bytes) → after ≡ lay out 0 r → Wrote out after words (length r) 0 owner pairs (made (between card at to) 0 owner (table pairs words))
    as-it-is after h =
        record { length-is = ap length y; laid = h ∙ ap (lay out 0) y; full_is = refl; owner-is = refl; held-is = refl }

    pub module-shallow : left ≡ 0 → (after : Bytes) → after ≡ lay out 0 r → Wrote out after words (length r) 0 owner pairs Whole
    unfolding module_made
    module-shallow z after h = rw z (as-it-is after h)

    module _ (z : left ≡ 0 → ⊥) where
      one : left ≡ suc (left - 1)
      one = omega (arith, z)

      pub module-other : (k : ℕ) → k ≡ kind_of r → (k ≡ 0x60 → ⊥) → (after : Bytes) → after ≡ lay out 0 r → Wrote out after words (length r) 0 owner pairs Whole
      unfolding module_made
      module-other k e n after h =
          rw one (rw (ne_eqb (kind_of (between card at to)) 0x60 (λ i. n (e ∙ ap kind_of y ∙ i))) (as-it-is after h))

      module _ (k : ℕ) (e : k ≡ kind_of r) (n : k ≡ 0x60) (inner : List ℕ) (place : ℕ) (p : place ≡ name_place card at) (i : inner ≡ chain ++ (place ∷ []))
          (mine : ℕ) (words' : List ℕ) (t : table mine words' ≡ table_of (scope op card root inner) left at owner (table pairs words)) where
        is-kind : kind_of (between card at to) ≡ 0x60
        is-kind = ap kind_of (sym y) ∙ sym e ∙ n

        inner-is : chain ++ (name_place card at ∷ []) ≡ inner
        inner-is = sym (i ∙ ap (λ (x : ℕ). chain ++ (x ∷ [])) p)

        held-is : table_of (scope op card root (chain ++ (name_place card at ∷ []))) (suc (left - 1)) at owner (table pairs words) ≡ table mine words'
        held-is = ap (λ (x : List ℕ). table_of (scope op card root x) (suc (left - 1)) at owner (table pairs words)) inner-is
            ∙ ap (λ (d : ℕ). table_of (scope op card root inner) d at owner (table pairs words)) (sym one) ∙ sym t

        pub module-full : room words' < mine → Wrote out out words' 0 (at + 1) at mine Whole
        unfolding module_made
        module-full h =
            rw one (rw (eq-eqb (kind_of (between card at to)) 0x60 is-kind, held-is, lt-ltb (room words') mine h)
            (record { length-is = refl; laid = sym (lay-nil out 0); full_is = refl; owner-is = refl; held-is = refl }))

        pub module-mod : mine ≤ room words' → (after : Bytes) (words'' : List ℕ) (len full owner' pairs' : ℕ)
            → Wrote out after words'' len full owner' pairs' (mod_made (content_of (between card at to))
            (body_made op card root (module_made op card root (left - 1))
            left inner at (span (at + 6 + length (ahead_in (content_of (between card at to)))) to) (table mine words')))
            → Wrote out after words'' len full owner' pairs' Whole
        unfolding module_made
        module-mod h after words'' len full owner' pairs' x =
            rw one (rw (eq-eqb (kind_of (between card at to)) 0x60 is-kind, held-is, inner-is, le-ltb (room words') mine h) (subst Written one x))
          where
            Written : ℕ → Type 0
            Written d = Wrote out after words'' len full owner' pairs' (mod_made (content_of (between card at to)) (body_made op card root
                (module_made op card root (left - 1)) d inner at (span (at + 6 + length (ahead_in (content_of (between card at to)))) to) (table mine words')))

-- what the ring is asked of the parts of a card
module _ (card : Bytes) (chain : List ℕ) (from to left : ℕ) (h : Within from to card chain left) where
  pub names-fit : (left ≡ 0 → ⊥) → length chain < 48
  names-fit z = omega (arith, h.shallow, z)

  pub within-inner : (left ≡ 0 → ⊥) → (inner : List ℕ) (place : ℕ) → inner ≡ chain ++ (place ∷ []) → Within from to card inner (left - 1)
  within-inner z inner place e =
      let a = ap length e in
      let b = length-append chain (place ∷ []) in
      record { ordered = h.ordered; inside = h.inside; small = h.small; shallow = omega (arith, h.shallow, z, a, b) }

  pub within-part : (a b : ℕ) → a ≤ b → b ≤ to → Within a b card chain left
  within-part a b l k = record { ordered = l; inside = omega (arith, h.inside, k); small = h.small; shallow = h.shallow }

pub within-zero : (card : Bytes) (chain : List ℕ) (from to left : ℕ) → Within from to card chain left → Within 0 to card chain left
within-zero card chain from to left h = record { ordered = omega arith; inside = h.inside; small = h.small; shallow = h.shallow }

pub content-small : (card : Bytes) (at to : ℕ) (r c : Bytes) → r ≡ between card at to → c ≡ content_of r → length c ≤ to - at
content-small card at to r c y e =
    let a = content-inside r in
    let b = ap length e in
    let d = between-length card at to in
    let f = ap length y in
    omega arith

-- a module leaves as many words as it had
pub module-keeps : (op : Shortening) (card root : Bytes) (left : ℕ) (chain : List ℕ) (m : Span) (owner₀ : ℕ) (held : Table) (out after : Bytes)
    (words : List ℕ) (len full owner pairs : ℕ) → Wrote out after words len full owner pairs (module_made op card root left chain m owner₀ held)
    → length words ≡ length held.words
module-keeps op card root left chain m owner₀ held out after words len full owner pairs w =
    ap (λ (t : Table). length t.words) w.held-is ∙ held-length op card root left chain m owner₀ held

-- what was written of a module leaves room for a head
pub module-fits : (op : Shortening) (card root : Bytes) (left : ℕ) (chain : List ℕ) (from to owner₀ : ℕ) (held : Table) (out after : Bytes)
    (words : List ℕ) (len full owner pairs : ℕ) → Within from to card chain left → left ≤ 48
    → Wrote out after words len full owner pairs (module_made op card root left chain (span from to) owner₀ held) → len ≤ 2 ^ 60
module-fits op card root left chain from to owner₀ held out after words len full owner pairs h d w =
    let b = module-small op card root h.small left d chain from to h.ordered h.inside owner₀ held in
    omega (arith, w.length-is, b)

pub fits-room : (words : List ℕ) (n mine : ℕ) → n ≡ room words → mine ≤ n → mine ≤ room words
fits-room words n mine e h = omega (arith, e, h)

pub inside-card : (b to n : ℕ) → b ≤ to → to ≤ n → b ≤ n
inside-card b to n h k = omega (arith, h, k)

-- the whole card
module _ (op : Shortening) (card root : Bytes) (owner pairs : ℕ) (words : List ℕ) (out : Bytes) where
  pub card-long : 65536 < length card → Wrote out out words 0 0 owner pairs (card_made op card root owner (table pairs words))
  unfolding card_made
  card-long h =
      rw (lt-ltb 65536 (length card) h) (record { length-is = refl; laid = sym (lay-nil out 0); full_is = refl; owner-is = refl; held-is = refl })

  pub card-within : length card ≤ 65536 → Within 0 (length card) card [] 48
  card-within h = record { ordered = omega arith; inside = omega arith; small = h; shallow = omega arith }

  pub card-gives : length card ≤ 65536 → (after : Bytes) (words' : List ℕ) (len full owner' pairs' : ℕ)
      → Wrote out after words' len full owner' pairs' (module_made op card root 48 [] (span 0 (length card)) owner (table pairs words))
      → Wrote out after words' len full owner' pairs' (card_made op card root owner (table pairs words))
  unfolding card_made
  card-gives h after words' len full owner' pairs' x = rw (le-ltb 65536 (length card) h) x
