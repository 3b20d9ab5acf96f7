-- Records of bytes, and records at a kind that is known. Assumes nothing.
use mathlib.Core.Path.{◌≡◌, refl, sym, ap, ◌∙◌, subst}
use mathlib.Core.List.{List}
use mathlib.Core.Bool.{true, false}
use Prim.Native.Nat.{ℕ}
use native.Mathlib.Omega.{arith}
use borrow.Author.Tests.{eqb-true}
use Rattle.wire.specs.Numbers.{Bytes}
use Rattle.records.specs.Record.{Record, Records, leaf, node, nil, ◌▸◌, kind, text, children, is}
use Rattle.records.specs.Kinds.{Place, kinds, one, name, seq, option, stands, Content, bytes, these, content_at}
use Rattle.records.specs.Reading.{nameless}
use Rattle.records.proofs.Fits.{Stands, StandsAll, Fits, FitsAll}
use Rattle.records.proofs.Run.{within}

-- the kind of a record that fits a place stands there
pub fits-stands : (r : Record) (p : Place) → Fits r p → stands p (kind r) ≡ true
unfolding Stands
fits-stands (leaf k b) p f = f.0
fits-stands (node k c) p f = f.0

-- no records fit where bytes are held
pub no-records : (c : Records) → FitsAll c bytes → ⊥
unfolding StandsAll
no-records nil f = f
no-records (r ▸ c) f = f

-- no record that holds records is without a name
pub node-named : (p : Place) (k : ℕ) (c : Records) (s : Bytes) → FitsAll c (content_at p k) → nameless p k s ≡ false
unfolding content_at
node-named (kinds from to) k c s f = refl
node-named name k c s f = absurd (no-records c f)
node-named (seq p) k c s f = refl
node-named (option p) k c s f = refl

-- a record of bytes
pub leaf-right : (p : Place) (k₀ : ℕ) → ((k : ℕ) → stands p k ≡ true → k ≡ k₀) → content_at p k₀ ≡ bytes → (r : Record) → Fits r p → leaf k₀ (text r) ≡ r
unfolding Stands
leaf-right p k₀ same holds (leaf k b) f = ap (λ (k : ℕ). leaf k b) (sym (same k f.0))
leaf-right p k₀ same holds (node k c) f = absurd (no-records c (subst (λ (x : Content). FitsAll c x) (ap (content_at p) (same k f.0) ∙ holds) f.1))

pub one-kind : (k₀ k : ℕ) → stands (one k₀) k ≡ true → k ≡ k₀
one-kind k₀ k e =
    let h = within k₀ k₀ k e in
    omega arith

-- a Text that a PMemberSelect holds
pub name-right : (r : Record) → Fits r name → leaf 0x01 (text r) ≡ r
unfolding content_at
name-right r f = leaf-right name 0x01 (λ k e. eqb-true k 0x01 e) refl r f

-- a record whose kind holds records: it is a node, and its records fit
pub record NodeAt (r : Record) (k : ℕ) (t : Content) : Type 0 where
  pub is-node : r ≡ node k (children r)
  pub fits : FitsAll (children r) t

pub node_at : (r : Record) (p : Place) (k : ℕ) (t : Content) → is k r ≡ true → content_at p k ≡ t → (t ≡ bytes → ⊥) → Fits r p → NodeAt r k t
unfolding Stands
node_at (leaf j b) p k t e same never f = absurd (never (sym same ∙ ap (content_at p) (sym (eqb-true j k e)) ∙ f.1))
node_at (node j c) p k t e same never f =
    record {
      is-node = ap (λ (i : ℕ). node i c) (eqb-true j k e);
      fits = subst (λ (x : Content). FitsAll c x) (ap (content_at p) (eqb-true j k e) ∙ same) f.1;
    }

pub these-no-bytes : (ps : List Place) → these ps ≡ bytes → ⊥
these-no-bytes ps e = let z : ◌≡◌ {A = ℕ} 0 1 = cc in omega arith
