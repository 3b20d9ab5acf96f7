-- What a tree that fits a place says to the walks: its path types and path expressions hold one path, and which kinds lie in types, expressions and
-- declarations. Assumes nothing.
use mathlib.Core.Path.{◌≡◌, refl, ap, sym, subst, ◌∙◌}
use mathlib.Core.List.{[], ◌∷◌}
use mathlib.Core.Bool.{Bool, true, false, not, ◌&&◌, ◌||◌}
use Prim.Native.Nat.{ℕ, ◌≤◌}
use lib.Dec.{eqb, leb, lit≤}
use borrow.Author.Tests.{eqb-true}
use Rattle.records.specs.Record.{Record, Records, leaf, node, nil, ◌▸◌, kind, text, children, nth, field, is}
use Rattle.records.specs.Kinds.{Place, kinds, name, stands, path, type, expr, Content, bytes, these, any, at_most_one, row_of, content_at}
use Rattle.records.proofs.Fits.{Stands, StandsAll, Fits, FitsAll}
use Rattle.records.proofs.Run.{Run, in-run}
use Rattle.records.proofs.Leaves.{fits-stands, name-right, NodeAt, node_at, these-no-bytes}
use Rattle.records.proofs.ByRow.{row-content}
use Rattle.records.proofs.Closed.{closed}
use Rattle.rast.specs.Path.{MSel}

-- the kinds that lie in types and formals; in these and expressions; and in declarations that are no modules
abbrev pub type_kind : ℕ → Bool
type_kind k = leb 1 k && leb k 3 || stands path k || stands type k || eqb k 0x7E

abbrev pub term_kind : ℕ → Bool
term_kind k = type_kind k || stands expr k || eqb k 0x81 || eqb k 0x82

abbrev pub decl_kind : ℕ → Bool
decl_kind k = not (stands (kinds 0x60 0x62) k)

pub types-closed : closed type_kind ≡ true
types-closed = refl

pub terms-closed : closed term_kind ≡ true
terms-closed = refl

pub decls-closed : closed decl_kind ≡ true
decls-closed = refl

-- what follows from each of two tests follows from either
pub by-either : {C : Type 0} (a b : Bool) → a || b ≡ true → (a ≡ true → C) → (b ≡ true → C) → C
by-either true b e f g = f refl
by-either false b e f g = g e

-- to show something of the kinds that lie in types, or in types and expressions: types and expressions are known by their place alone, so that these runs need
-- not be written out
module _ (P : ℕ → Type 0) where
  pub at_literal : (k₀ : ℕ) → P k₀ → (k : ℕ) → eqb k k₀ ≡ true → P k
  at_literal k₀ h k e = subst P (sym (eqb-true k k₀ e)) h

  pub by-type_kind : Run P 1 2 → Run P 0x10 3 → ((k : ℕ) → stands type k ≡ true → P k) → P 0x7E → (k : ℕ) → type_kind k ≡ true → P k
  by-type_kind low paths types formal k e =
      by-either (leb 1 k && leb k 3 || stands path k || stands type k) (eqb k 0x7E) e
      (λ e. by-either (leb 1 k && leb k 3 || stands path k) (stands type k) e
      (λ e. by-either (leb 1 k && leb k 3) (stands path k) e (in-run P 1 2 low k) (in-run P 0x10 3 paths k))
      (types k))
      (at_literal 0x7E formal k)

  pub by-term_kind : ((k : ℕ) → type_kind k ≡ true → P k) → ((k : ℕ) → stands expr k ≡ true → P k) → P 0x81 → P 0x82 → (k : ℕ) → term_kind k ≡ true → P k
  by-term_kind types exprs matchCase assign k e =
      by-either (type_kind k || stands expr k || eqb k 0x81) (eqb k 0x82) e
      (λ e. by-either (type_kind k || stands expr k) (eqb k 0x81) e (λ e. by-either (type_kind k) (stands expr k) e (types k) (exprs k))
      (at_literal 0x81 matchCase k))
      (at_literal 0x82 assign k)

-- what a path type or a path expression holds: one record of a path's kind, spelled as MSel spells it where it selects a name
pub record PathIn (c : Records) : Type 0 where
  pub held : Record
  pub only : c ≡ held ▸ nil
  pub stands-path : stands path (kind held) ≡ true
  pub spelled : is 0x13 held ≡ true → held ≡ MSel (field 0 held) (text (field 1 held))

unfoldable mutual
  pub Paths : Record → Type 0
  Paths (leaf k b) = Unit {0}
  Paths (node k c) = (eqb k 0x2D || eqb k 0x5C ≡ true → PathIn c) × PathsAll c

  pub PathsAll : Records → Type 0
  PathsAll nil = Unit {0}
  PathsAll (r ▸ c) = Paths r × PathsAll c

-- a PMemberSelect that fits is spelled as MSel spells it
spelled-path : (r : Record) → Fits r path → is 0x13 r ≡ true → r ≡ MSel (field 0 r) (text (field 1 r))
unfolding content_at row_of StandsAll nth
spelled-path r f e =
    let h : NodeAt r 0x13 (these (path ∷ name ∷ [])) = node_at r path 0x13 (these (path ∷ name ∷ [])) e refl (these-no-bytes (path ∷ name ∷ [])) f in
    h.is-node ∙ ap (node 0x13) (two (children r) h.fits)
  where
    two : (c : Records) → FitsAll c (these (path ∷ name ∷ [])) → c ≡ nth 0 c ▸ leaf 0x01 (text (nth 1 c)) ▸ nil
    two nil f = absurd f
    two (r ▸ nil) f = absurd f.1
    two (r ▸ s ▸ nil) f = ap (λ u. r ▸ u ▸ nil) (sym (name-right s f.1.0))
    two (r ▸ s ▸ t ▸ c) f = absurd f.1.1

path-in : (c : Records) → FitsAll c (these (path ∷ [])) → PathIn c
unfolding StandsAll
path-in nil f = absurd f
path-in (r ▸ nil) f = record { held = r; only = refl; stands-path = fits-stands r path f.0; spelled = spelled-path r f.0 }
path-in (r ▸ s ▸ c) f = absurd f.1

-- the places at which a kind that is 2D or 5C stands hold its row
path-row : (p : Place) (k : ℕ) → eqb k 0x2D || eqb k 0x5C ≡ true → stands p k ≡ true → content_at p k ≡ these (path ∷ [])
unfolding row_of
path-row p k e s = go (eqb k 0x2D) refl e
  where
    at : (k₀ : ℕ) → 4 ≤ k₀ → row_of k₀ ≡ path ∷ [] → k ≡ k₀ → content_at p k ≡ these (path ∷ [])
    at k₀ h r same = rw same (row-content p k₀ h (rw same at s) ∙ ap these r)

    go : (t : Bool) → eqb k 0x2D ≡ t → t || eqb k 0x5C ≡ true → content_at p k ≡ these (path ∷ [])
    go true a e = at 0x2D (lit≤ tt) refl (eqb-true k 0x2D a)
    go false a e = at 0x5C (lit≤ tt) refl (eqb-true k 0x5C e)

mutual
  unfolding Stands StandsAll Paths

  pub fits-paths : (r : Record) (p : Place) → Fits r p → Paths r
  fits-paths (leaf k b) p f = tt
  fits-paths (node k c) p f = (λ e. path-in c (subst (λ (t : Content). FitsAll c t) (path-row p k e f.0) f.1), fits-paths-all c (content_at p k) f.1)

  pub fits-paths-all : (c : Records) (t : Content) → FitsAll c t → PathsAll c
  fits-paths-all nil t f = tt
  fits-paths-all (r ▸ c) bytes f = absurd f
  fits-paths-all (r ▸ c) (these []) f = absurd f
  fits-paths-all (r ▸ c) (these (p ∷ ps)) f = (fits-paths r p f.0, fits-paths-all c (these ps) f.1)
  fits-paths-all (r ▸ c) (any p) f = (fits-paths r p f.0, fits-paths-all c (any p) f.1)
  fits-paths-all (r ▸ c) (at_most_one p) f = (fits-paths r p f.0, fits-paths-all c (these []) f.1)
