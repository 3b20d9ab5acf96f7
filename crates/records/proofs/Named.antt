-- A tree that fits a place has no nameless path. Assumes nothing.
use Rattle.std.specs.Prelude.{Ok}
use mathlib.Core.Path.{◌≡◌, refl, subst}
use mathlib.Core.List.{[], ◌∷◌}
use mathlib.Core.Bool.{Bool, true, false, not, ◌&&◌, and-eq-true_iff}
use Prim.Native.Nat.{ℕ}
use lib.Dec.{eqb, lit≤}
use borrow.Author.Tests.{eqb-true}
use Rattle.wire.specs.Numbers.{Bytes, AreBytes}
use Rattle.records.specs.Record.{Record, Records, leaf, node, nil, ◌▸◌, text, nth, tree}
use Rattle.records.specs.Kinds.{Place, name, stands, path, Content, bytes, these, any, at_most_one, row_of, content_at}
use Rattle.records.specs.Reading.{is_no_name, reading}
use Rattle.records.specs.Named.{named, named_all}
use Rattle.records.proofs.Fits.{Stands, StandsAll, Fits, FitsAll}
use Rattle.records.proofs.Sound.{sound-reads}
use Rattle.records.proofs.Leaves.{no-records}
use Rattle.records.proofs.ByRow.{row-content}

-- a Text where a name is due is one
pub fits-name : (r : Record) → Fits r name → is_no_name (text r) ≡ false
unfolding Stands content_at
fits-name (leaf k b) f = rw (eqb-true k 0x01 f.0) at f.2
fits-name (node k c) f = absurd (no-records c f.1)

-- what a PMemberSelect holds ends in a name
pub select-named : (c : Records) → FitsAll c (these (path ∷ name ∷ [])) → is_no_name (text (nth 1 c)) ≡ false
unfolding StandsAll nth
select-named nil f = absurd f
select-named (r ▸ nil) f = absurd f.1
select-named (r ▸ s ▸ c) f = fits-name s f.1.0

mutual
  unfolding row_of Stands StandsAll named

  pub fits-named : (r : Record) (p : Place) → Fits r p → named r ≡ true
  fits-named (leaf k b) p f = refl
  fits-named (node k c) p f = (and-eq-true_iff _ _).1 (go (eqb k 0x13) refl, fits-named-all c (content_at p k) f.1)
    where
      go : (t : Bool) → eqb k 0x13 ≡ t → not (t && is_no_name (text (nth 1 c))) ≡ true
      go false e = refl
      go true e =
          let s : stands p 0x13 ≡ true = rw (eqb-true k 0x13 e) at f.0 in
          let g : FitsAll c (content_at p 0x13) = rw (eqb-true k 0x13 e) at f.1 in
          rw (select-named c (subst (λ (t : Content). FitsAll c t) (row-content p 0x13 (lit≤ tt) s) g))

  pub fits-named-all : (c : Records) (t : Content) → FitsAll c t → named_all c ≡ true
  fits-named-all nil t f = refl
  fits-named-all (r ▸ c) bytes f = absurd f
  fits-named-all (r ▸ c) (these []) f = absurd f
  fits-named-all (r ▸ c) (these (p ∷ ps)) f = (and-eq-true_iff _ _).1 (fits-named r p f.0, fits-named-all c (these ps) f.1)
  fits-named-all (r ▸ c) (any p) f = (and-eq-true_iff _ _).1 (fits-named r p f.0, fits-named-all c (any p) f.1)
  fits-named-all (r ▸ c) (at_most_one p) f = (and-eq-true_iff _ _).1 (fits-named r p f.0, fits-named-all c (these []) f.1)

-- what reads sound has no nameless path
pub reading-named : (limit : ℕ) (p : Place) (s : Bytes) → AreBytes s → reading limit p s ≡ Ok tt → named (tree s) ≡ true
reading-named limit p s h e = fits-named (tree s) p (sound-reads limit p s h e).fits
