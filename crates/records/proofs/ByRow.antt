-- To show something of every record that stands at a place, show it of each kind's record, given records that fit its row. Assumes nothing.
use mathlib.Core.Path.{◌≡◌, refl, sym, ap, subst, ◌∙◌}
use mathlib.Core.List.{List, [], ◌∷◌}
use mathlib.Core.Bool.{Bool, true, false, ◌||◌}
use Prim.Native.Nat.{ℕ, ◌+◌, ◌≤◌}
use native.Mathlib.Nat.{le_refl}
use native.Mathlib.Omega.{arith}
use lib.Dec.{eqb}
use borrow.Author.Tests.{eqb-true, le-leb}
use Rattle.records.specs.Record.{Record, Records, leaf, node, nil, ◌▸◌, is_leaf, children, is}
use Rattle.records.specs.Kinds.{Place, one, kinds, name, seq, option, stands, row_of, Content, bytes, these, any, at_most_one, content_at}
use Rattle.records.proofs.Fits.{Stands, StandsAll, Fits, FitsAll}
use Rattle.records.proofs.Run.{Run, in-run, within}
use Rattle.records.proofs.Leaves.{NodeAt, node_at, these-no-bytes}

-- P of every sequence of records that fit a row
abbrev pub Rowed : List Place → (Records → Type 0) → Type 0
Rowed [] P = P nil
Rowed (p ∷ ps) P = (r : Record) → Fits r p → Rowed ps (λ c. P (r ▸ c))

pub by_row : (ps : List Place) (P : Records → Type 0) → Rowed ps P → (c : Records) → FitsAll c (these ps) → P c
unfolding StandsAll
by_row [] P h nil f = h
by_row [] P h (r ▸ c) f = absurd f
by_row (p ∷ ps) P h nil f = absurd f
by_row (p ∷ ps) P h (r ▸ c) f = by_row ps (λ c. P (r ▸ c)) (h r f.0) c f.1

pub no-leaf : (k : ℕ) → 4 ≤ k → is_leaf k ≡ false
no-leaf k h = go (eqb k 0x01) (eqb k 0x03) refl refl
  where
    go : (a b : Bool) → eqb k 0x01 ≡ a → eqb k 0x03 ≡ b → a || b ≡ false
    go true b p q =
        let e : k ≡ 1 = eqb-true k 0x01 p in
        absurd (omega arith)
    go false true p q =
        let e : k ≡ 3 = eqb-true k 0x03 q in
        absurd (omega arith)
    go false false p q = refl

-- where a kind from 4 on stands, it holds its row
pub row-content : (p : Place) (k : ℕ) → 4 ≤ k → stands p k ≡ true → content_at p k ≡ these (row_of k)
unfolding content_at
row-content (kinds from to) k h s = rw (no-leaf k h)
row-content name k h s = absurd (omega (arith, eqb-true k 0x01 s))
row-content (seq p) k h s = absurd (omega (arith, eqb-true k 0x02 s))
row-content (option p) k h s = absurd (omega (arith, eqb-true k 0x02 s))

-- a record from kind 4 on that fits a place fits each other where its kind stands
pub fits-there : (k : ℕ) (c : Records) (p q : Place) → 4 ≤ k → Fits (node k c) p → stands q k ≡ true → Fits (node k c) q
unfolding Stands
fits-there k c p q l f s = (s, subst (λ (x : Content). FitsAll c x) (row-content p k l f.0 ∙ sym (row-content q k l s)) f.1)

-- at a place for kinds from 4 on
abbrev pub Kinds : (Record → Type 0) → ℕ → Type 0
Kinds P k = Rowed (row_of k) (λ c. P (node k c))

pub by-kinds : (P : Record → Type 0) (from n : ℕ) → 4 ≤ from → Run (Kinds P) from n → (r : Record) → Fits r (kinds from (from + n)) → P r
unfolding Stands content_at
by-kinds P from n low h (leaf k b) f =
    let l : is_leaf k ≡ false = no-leaf k (let w = within from (from + n) k f.0 in omega arith) in
    absurd (these-no-bytes (row_of k) (rw l at f.1))
by-kinds P from n low h (node k c) f =
    let l : is_leaf k ≡ false = no-leaf k (let w = within from (from + n) k f.0 in omega arith) in
    by_row (row_of k) (λ c. P (node k c)) (in-run (Kinds P) from n h k f.0) c (rw l at f.1)

-- a List, as a seq and as an Option, if it holds for each record in it
pub by-seq : (P : Record → Type 0) (Q : Records → Type 0) (p : Place) → ((r : Record) → Fits r p → P r) → Q nil
    → ((r : Record) (c : Records) → P r → Q c → Q (r ▸ c)) → (c : Records) → FitsAll c (any p) → Q c
unfolding StandsAll
by-seq P Q p each none more nil f = none
by-seq P Q p each none more (r ▸ c) f = more r c (each r f.0) (by-seq P Q p each none more c f.1)

pub seq_node : (r : Record) (p : Place) → Fits r (seq p) → (c : Records) × (r ≡ node 0x02 c) × FitsAll c (any p)
unfolding Stands content_at
seq_node (leaf k b) p f = absurd (let z : ◌≡◌ {A = ℕ} 0 1 = (let e : any p ≡ bytes = f.1 in cc) in omega arith)
seq_node (node k c) p f = (c, ap (λ (j : ℕ). node j c) (eqb-true k 0x02 f.0), f.1)

pub option-node : (r : Record) (p : Place) → Fits r (option p) → (c : Records) × (r ≡ node 0x02 c) × FitsAll c (any p)
unfolding Stands StandsAll content_at
option-node (leaf k b) p f = absurd (let z : ◌≡◌ {A = ℕ} 0 1 = (let e : at_most_one p ≡ bytes = f.1 in cc) in omega arith)
option-node (node k nil) p f = (nil, ap (λ (j : ℕ). node j nil) (eqb-true k 0x02 f.0), tt)
option-node (node k (r ▸ nil)) p f = (r ▸ nil, ap (λ (j : ℕ). node j (r ▸ nil)) (eqb-true k 0x02 f.0), (f.1.0, tt))
option-node (node k (r ▸ s ▸ c)) p f = absurd f.1.1

-- what follows from a record at each of several kinds follows from it at a place for all of them
pub by_kind : {X : Type 0} (from n : ℕ) (r : Record) → Run (λ k. Fits r (one k) → X) from n → Fits r (kinds from (from + n)) → X
unfolding Stands content_at
by_kind {X} from n (leaf k b) h f = in-run (λ j. Fits (leaf k b) (one j) → X) from n h k f.0 (rw (le-leb k k (le_refl k)), f.1, refl)
by_kind {X} from n (node k c) h f = in-run (λ j. Fits (node k c) (one j) → X) from n h k f.0 (rw (le-leb k k (le_refl k)), f.1)

-- at a place for several kinds, of a record whose kind is known
pub by-is : (P : Record → Type 0) (p : Place) (k : ℕ) (ps : List Place) → content_at p k ≡ these ps → Rowed ps (λ c. P (node k c)) → (r : Record)
    → Fits r p → is k r ≡ true → P r
by-is P p k ps same h r f e =
    let n : NodeAt r k (these ps) = node_at r p k (these ps) e same (these-no-bytes ps) f in
    subst P (sym n.is-node) (by_row ps (λ c. P (node k c)) h (children r) n.fits)
