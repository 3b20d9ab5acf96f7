-- A declaration's own name, test by test, and where it stands in the card. Assumes nothing.
use mathlib.Core.Path.{◌≡◌, refl, ap, sym, ◌∙◌}
use mathlib.Core.Bool.{Bool, true, false, or-true}
use Prim.Native.Nat.{ℕ, ◌+◌, ◌-◌, ◌^◌, ◌<◌, ◌≤◌}
use native.Mathlib.Omega.{arith}
use lib.ListN.{length, take, drop, length-take, length-drop}
use lib.Dec.{eqb}
use borrow.Author.Tests.{eq-eqb, ne_eqb, lt-ltb, le-ltb}
use Rattle.wire.specs.Numbers.{Bytes, between}
use Rattle.wire.proofs.Within.{Within, within_all, within-take, within-drop, within-length}
use Rattle.wire.proofs.Slices.{tail-part}
use Rattle.records.specs.Record.{length_of, content_of}
use Rattle.prefix.specs.Prefix.{Scope}
use Rattle.fields.specs.Fields.{name_at}
use Rattle.adding.specs.Adds.{Table, added}
use Rattle.visiting.specs.Visits.{unfit, visit_name}

-- the name that starts at a place of a content
module _ (card : Bytes) (from to o : ℕ) (c : Bytes) (e : c ≡ between card from to) where
  pub own-within : Within card (from + o + 6) (content_of (drop o c))
  own-within =
      within-take card _ (drop 6 (drop o c)) (within-drop card _ (drop o c) (within-drop card from c (within_all card from (to - from) c e) o) 6)
      (length_of (drop o c) - 2)

  pub own-fits : (x name : Bytes) → x ≡ take (length c) (drop o c) → name ≡ content_of x → length name ≤ length card
  own-fits x name g i = rw (i, tail-part c x o g) (within-length card (from + o + 6) (content_of (drop o c)) own-within)

  -- where it starts fits too
  pub start_fits : from ≤ to → o ≤ length c → (o ≡ 0 → ⊥) → from + o ≤ length card
  start_fits a l z =
      let u = length-take (to - from) (drop from card) in
      let v : length c ≡ length (between card from to) = ap length e in
      let w = length-drop from card in
      let x : 0 < o = omega (arith, z) in
      omega arith

module _ (s : Scope) (t : Table) (from to k : ℕ) where
  abbrev After : Table
  After = visit_name (added s) s.card k t from to

  pub name-unfit : unfit s.card from to ≡ true → t ≡ After
  unfolding visit_name
  name-unfit h = rw h

  module _ (h : unfit s.card from to ≡ false) (c : Bytes) (e : c ≡ between s.card from to) (o : ℕ) (f : (o ≡ name_at k c) × (o < 2 ^ 41)) where
    placed : name_at k (between s.card from to) ≡ o
    placed = ap (name_at k) (sym e) ∙ sym f.0

    pub name-none : o ≡ 0 → t ≡ After
    unfolding visit_name
    name-none z = rw (h, placed, eq-eqb o 0 z)

    module _ (z : o ≡ 0 → ⊥) where
      pub name-past : length c < o → t ≡ After
      unfolding visit_name
      name-past l = rw (h, placed, ne_eqb o 0 z, ← e, lt-ltb (length c) o l)

      module _ (l : o ≤ length c) (x name : Bytes) (g : x ≡ take (length c) (drop o c)) (i : name ≡ content_of x) where
        is_name : name ≡ content_of (drop o c)
        is_name = i ∙ ap content_of (tail-part c x o g)

        pub name-added : (a : Table) → a ≡ added s t (from + o + 6) (length name) 0 → a ≡ After
        unfolding visit_name
        name-added a y = y ∙ rw (h, placed, ne_eqb o 0 z, ← e, le-ltb (length c) o l, is_name)
