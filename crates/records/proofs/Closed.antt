-- A set of kinds that is closed under the rows holds every kind in a tree that fits a place of that set: one computed test over the table, one law.
-- Assumes nothing.
use mathlib.Core.Path.{◌≡◌, refl, sym, subst}
use mathlib.Core.List.{List, [], ◌∷◌}
use mathlib.Core.Bool.{Bool, true, false, not, ◌&&◌, ◌||◌, cond, false≢true}
use Prim.Native.Nat.{ℕ, zero, suc, ◌+◌, ◌-◌, ◌≤◌}
use native.Mathlib.Omega.{arith}
use native.Mathlib.Decide.{dec_le}
use lib.Dec.{eqb}
use borrow.Author.Tests.{eqb-true}
use Rattle.records.specs.Record.{Record, Records, leaf, node, nil, ◌▸◌, is_leaf}
use Rattle.records.specs.Kinds.{Place, kinds, name, seq, option, stands, Row, rows, row_in, row_of, Content, bytes, these, any, at_most_one, content_at}
use Rattle.records.proofs.Fits.{Stands, StandsAll, Fits, FitsAll}
use Rattle.records.proofs.Run.{both, within}

module _ (q : ℕ → Bool) where
  -- every kind in a tree is of the set
  unfoldable mutual
    pub Of : Record → Type 0
    Of (leaf k b) = q k ≡ true
    Of (node k c) = (q k ≡ true) × OfAll c

    pub OfAll : Records → Type 0
    OfAll nil = Unit {0}
    OfAll (r ▸ c) = Of r × OfAll c

  abbrev in_run : ℕ → ℕ → Bool
  in_run from zero = q from
  in_run from (suc n) = q from && in_run (suc from) n

  -- all that may stand at a place is of the set
  abbrev pub holds_at : Place → Bool
  holds_at (kinds from to) = in_run from (to - from)
  holds_at name = q 0x01
  holds_at (seq p) = q 0x02 && holds_at p
  holds_at (option p) = q 0x02 && holds_at p

  abbrev pub holds_at_all : List Place → Bool
  holds_at_all [] = true
  holds_at_all (p ∷ ps) = holds_at p && holds_at_all ps

  -- the places of each kind of the set hold only kinds of the set
  abbrev pub closed_in : List Row → Bool
  closed_in [] = true
  closed_in (r ∷ rs) = (not (q r.kind) || holds_at_all r.places) && closed_in rs

  abbrev pub closed : Bool
  closed = closed_in rows

  in-in_run : (from n k : ℕ) → in_run from n ≡ true → from ≤ k → k ≤ from + n → q k ≡ true
  in-in_run from zero k h low high =
      let e : from ≡ k = omega arith in
      subst (λ (x : ℕ). q x ≡ true) e h
  in-in_run from (suc n) k h low high =
      elim (dec_le (suc from) k) [
        | yes above ↦ in-in_run (suc from) n k (both (q from) (in_run (suc from) n) h).1 above (omega arith)
        | no here ↦ (let e : from ≡ k = omega arith in subst (λ (x : ℕ). q x ≡ true) e (both (q from) (in_run (suc from) n) h).0)
      ]

  at_row : (rs : List Row) → closed_in rs ≡ true → (k : ℕ) → q k ≡ true → holds_at_all (row_in rs k) ≡ true
  at_row [] h k e = refl
  at_row (r ∷ rs) h k e =
      let b = both (not (q r.kind) || holds_at_all r.places) (closed_in rs) h in
      go (eqb k r.kind) refl b.0 (at_row rs b.1 k e)
    where
      here : (t : Bool) → t ≡ true → not t || holds_at_all r.places ≡ true → holds_at_all r.places ≡ true
      here true u g = g
      here false u g = absurd (false≢true u)

      go : (t : Bool) → eqb k r.kind ≡ t → not (q r.kind) || holds_at_all r.places ≡ true → holds_at_all (row_in rs k) ≡ true
          → holds_at_all (cond t r.places (row_in rs k)) ≡ true
      go true u g others = here (q r.kind) (subst (λ (x : ℕ). q x ≡ true) (eqb-true k r.kind u) e) g
      go false u g others = others

  -- THE LAW: a tree that fits a place of a closed set has only kinds of it
  module _ (h : closed ≡ true) where
    stands-in : (p : Place) (k : ℕ) → holds_at p ≡ true → stands p k ≡ true → q k ≡ true
    stands-in (kinds from to) k g e =
        let w = within from to k e in
        in-in_run from (to - from) k g w.0 (omega arith)
    stands-in name k g e = subst (λ (x : ℕ). q x ≡ true) (sym (eqb-true k 0x01 e)) g
    stands-in (seq p) k g e = subst (λ (x : ℕ). q x ≡ true) (sym (eqb-true k 0x02 e)) (both (q 0x02) (holds_at p) g).0
    stands-in (option p) k g e = subst (λ (x : ℕ). q x ≡ true) (sym (eqb-true k 0x02 e)) (both (q 0x02) (holds_at p) g).0

    -- the same of what a record holds
    abbrev within-content : Content → Bool
    within-content bytes = true
    within-content (these ps) = holds_at_all ps
    within-content (any p) = holds_at p
    within-content (at_most_one p) = holds_at p

    content-in : (p : Place) (k : ℕ) → holds_at p ≡ true → stands p k ≡ true → within-content (content_at p k) ≡ true
    unfolding content_at row_of
    content-in (kinds from to) k g e = go (is_leaf k)
      where
        go : (t : Bool) → within-content (cond t bytes (these (row_in rows k))) ≡ true
        go true = refl
        go false = at_row rows h k (stands-in (kinds from to) k g e)
    content-in name k g e = refl
    content-in (seq p) k g e = (both (q 0x02) (holds_at p) g).1
    content-in (option p) k g e = (both (q 0x02) (holds_at p) g).1

    mutual
      unfolding Stands StandsAll Of

      pub fits-of : (r : Record) (p : Place) → holds_at p ≡ true → Fits r p → Of r
      fits-of (leaf k b) p g f = stands-in p k g f.0
      fits-of (node k c) p g f = (stands-in p k g f.0, fits-of-all c (content_at p k) (content-in p k g f.0) f.1)

      pub fits-of-all : (c : Records) (t : Content) → within-content t ≡ true → FitsAll c t → OfAll c
      fits-of-all nil t g f = tt
      fits-of-all (r ▸ c) bytes g f = absurd f
      fits-of-all (r ▸ c) (these []) g f = absurd f
      fits-of-all (r ▸ c) (these (p ∷ ps)) g f =
          let b = both (holds_at p) (holds_at_all ps) g in
          (fits-of r p b.0 f.0, fits-of-all c (these ps) b.1 f.1)
      fits-of-all (r ▸ c) (any p) g f = (fits-of r p g f.0, fits-of-all c (any p) g f.1)
      fits-of-all (r ▸ c) (at_most_one p) g f = (fits-of r p g f.0, fits-of-all c (these []) refl f.1)
