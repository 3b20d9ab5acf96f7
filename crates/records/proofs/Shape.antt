-- The shape of a tree that can be read back: leaves of a leaf's kind and nodes of another, each kind in two bytes. Assumes nothing.
use mathlib.Core.Path.{◌≡◌, refl, sym, ap, ◌∙◌}
use mathlib.Core.List.{[], ◌∷◌}
use mathlib.Core.Bool.{Bool, true, false}
use Prim.Native.Nat.{ℕ, ◌^◌, ◌<◌}
use native.Mathlib.Omega.{arith}
use lib.ListN.{length, length-append}
use lib.Dec.{ltb, lit<}
use borrow.Author.Tests.{ltb-true}
use Rattle.wire.specs.Numbers.{Bytes}
use Rattle.records.specs.Record.{Record, Records, leaf, node, nil, ◌▸◌, ◌▸▸◌, map_all, is_leaf, encode, encode_all}
use Rattle.records.specs.Kinds.{Place, Content, bytes, these, any, at_most_one, content_at}
use Rattle.records.proofs.Fits.{Stands, Fits, FitsAll}
use Rattle.records.specs.Canonical.{Canonical, CanonicalAll}
use Rattle.records.proofs.Tree.{record-length}
use Rattle.records.proofs.Step.{content-leaf}
use Rattle.records.specs.Kinds.{of_bytes}
use Rattle.records.proofs.Closed.{Of, OfAll, holds_at, closed, fits-of}
use Rattle.records.proofs.Leaves.{no-records}
use Rattle.records.proofs.ByRow.{by-seq}
use Rattle.records.proofs.Hereditary.{Hereditary}

-- a leaf has a leaf's kind and a node another, and each kind is under 65536
unfoldable mutual
  pub Shaped : Record → Type 0
  Shaped (leaf k b) = (is_leaf k ≡ true) × (k < 65536)
  Shaped (node k c) = (is_leaf k ≡ false) × (k < 65536) × ShapedAll c

  pub ShapedAll : Records → Type 0
  ShapedAll nil = Unit {0}
  ShapedAll (r ▸ c) = Shaped r × ShapedAll c

-- a shaped tree is shaped all the way down
pub shaped-below : Hereditary Shaped ShapedAll
unfolding Shaped
shaped-below = record { below = λ h. h.2; none = tt; first = λ h. h.0; rest = λ h. h.1; absent = (refl, lit< tt) }

-- a Text is shaped
pub text-shaped : (b : Bytes) → Shaped (leaf 0x01 b)
unfolding Shaped
text-shaped b = (refl, lit< tt)

-- shaped records one after another are shaped
pub append-shaped : (c d : Records) → ShapedAll c → ShapedAll d → ShapedAll (c ▸▸ d)
unfolding Shaped ◌▸▸◌
append-shaped nil d g h = h
append-shaped (r ▸ c) d g h = (g.0, append-shaped c d g.1 h)

-- records made of records that fit a place are shaped, if each is
pub map-shaped : (p : Place) (g : Record → Record) → ((r : Record) → Fits r p → Shaped (g r)) → (c : Records) → FitsAll c (any p) → ShapedAll (map_all g c)
unfolding Shaped map_all
map-shaped p g each = by-seq (λ r. Shaped (g r)) (λ c. ShapedAll (map_all g c)) p each tt (λ r c h hs. (h, hs))

-- the kinds of two bytes
abbrev pub small : ℕ → Bool
small k = ltb k 65536

small-closed : closed small ≡ true
small-closed = refl

node-kind : (c : Records) (t : Content) → FitsAll c t → of_bytes t ≡ false
node-kind c bytes f = absurd (no-records c f)
node-kind c (these ps) f = refl
node-kind c (any p) f = refl
node-kind c (at_most_one p) f = refl

mutual
  unfolding Stands Of Shaped

  of-shaped : (r : Record) (p : Place) → Fits r p → Of small r → Shaped r
  of-shaped (leaf k b) p f o = (sym (content-leaf p k f.0) ∙ ap of_bytes f.1, ltb-true k 65536 o)
  of-shaped (node k c) p f o =
      (sym (content-leaf p k f.0) ∙ node-kind c (content_at p k) f.1, ltb-true k 65536 o.0, all-shaped c (content_at p k) f.1 o.1)

  all-shaped : (c : Records) (t : Content) → FitsAll c t → OfAll small c → ShapedAll c
  all-shaped nil t f o = tt
  all-shaped (r ▸ c) bytes f o = absurd f
  all-shaped (r ▸ c) (these []) f o = absurd f
  all-shaped (r ▸ c) (these (p ∷ ps)) f o = (of-shaped r p f.0 o.0, all-shaped c (these ps) f.1 o.1)
  all-shaped (r ▸ c) (any p) f o = (of-shaped r p f.0 o.0, all-shaped c (any p) f.1 o.1)
  all-shaped (r ▸ c) (at_most_one p) f o = (of-shaped r p f.0 o.0, all-shaped c (these []) f.1 o.1)

-- a tree that fits a place of small kinds is shaped
pub fits-shaped : (r : Record) (p : Place) → holds_at small p ≡ true → Fits r p → Shaped r
fits-shaped r p h f = of-shaped r p f (fits-of small small-closed r p h f)

mutual
  unfolding Shaped Canonical encode

  -- a shaped tree whose bytes' length can be written is canonical
  pub shaped-canonical : (r : Record) → Shaped r → length (encode r) < 2 ^ 32 → Canonical r
  shaped-canonical (leaf k b) h l =
      let m = record-length k b in
      (h.0, h.1, omega arith)
  shaped-canonical (node k c) h l =
      let m = record-length k (encode_all c) in
      (h.0, h.1, omega arith, shaped-canonical-all c h.2 (omega arith))

  -- and so are shaped records
  pub shaped-canonical-all : (c : Records) → ShapedAll c → length (encode_all c) < 2 ^ 32 → CanonicalAll c
  shaped-canonical-all nil h l = tt
  shaped-canonical-all (r ▸ c) h l =
      let m = length-append (encode r) (encode_all c) in
      (shaped-canonical r h.0 (omega arith), shaped-canonical-all c h.1 (omega arith))
