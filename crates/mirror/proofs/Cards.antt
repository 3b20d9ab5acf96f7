-- Nothing is missed: the theorem speaks of every card and every root, and these are exactly the module trees and the paths that are without nameless paths, have room
-- in their bytes and are not too deep. Assumes nothing.
use Rattle.std.specs.Prelude.{Ok}
use mathlib.Core.Path.{◌≡◌, refl, sym, ap, subst, ◌∙◌}
use mathlib.Core.Bool.{true}
use Prim.Native.Nat.{ℕ, ◌≤◌}
use Rattle.wire.specs.Numbers.{Bytes, AreBytes}
use Rattle.records.specs.Record.{Record, encode, tree, deep}
use Rattle.records.specs.Kinds.{mod', path}
use Rattle.records.specs.Reading.{reading}
use Rattle.records.specs.Named.{named}
use Rattle.records.specs.Canonical.{Canonical}
use Rattle.records.proofs.Sound.{ReadsAs, sound-reads}
use Rattle.records.proofs.FitsRead.{fits-sound}
use Rattle.records.proofs.Named.{fits-named}
use Rattle.rast.specs.Operation.{upstream}
use Rattle.factor_paths.specs.Apply.{apply}
use Rattle.mirror.specs.Rast.{Path, Mod}
use Rattle.mirror.specs.FactorPaths as Text
use Rattle.mirror.specs.Tree.{Path_tree, Mod_tree}
use Rattle.mirror.proofs.Paths.{Path_unique, every-path}
use Rattle.mirror.proofs.Mods.{every-tree, unique}
use Rattle.mirror.proofs.Fits.{allowed-fits}
use Rattle.mirror.proofs.Allowed.{Path_allowed, Mod_allowed}
use Rattle.mirror.proofs.Theorem.{apply-tree}

-- the module tree of a card: the card is the bytes of its record tree, it is the only one whose record tree is the card's, and no path in it is nameless (02,
-- request 4); the record tree's kinds and lengths have room in their bytes, and it is at most limit deep
pub record ModuleOf (limit : ℕ) (card : Bytes) : Type 0 where
  pub m : Mod
  pub is-tree : tree card ≡ Mod_tree m
  pub is-card : card ≡ encode (Mod_tree m)
  pub only : (m' : Mod) → tree card ≡ Mod_tree m' → m ≡ m'
  pub is-named : named (Mod_tree m) ≡ true
  pub canonical : Canonical (Mod_tree m)
  pub shallow : deep (Mod_tree m) ≤ limit

-- every sound card, whatever the limit of depth, is the record tree of just one module tree, without nameless paths
pub every-card : (limit : ℕ) (card : Bytes) → AreBytes card → reading limit mod' card ≡ Ok tt → ModuleOf limit card
every-card limit card b s =
    let h : ReadsAs limit mod' card (tree card) = sound-reads limit mod' card b s in
    let t : (m : Mod) × (Mod_tree m ≡ tree card) = every-tree (tree card) h.fits in
    record {
      m = t.0;
      is-tree = sym t.1;
      is-card = sym h.encoded ∙ ap encode (sym t.1);
      only = λ m' e. unique t.0 m' (t.1 ∙ e);
      is-named = ap named t.1 ∙ fits-named (tree card) mod' h.fits;
      canonical = subst Canonical (sym t.1) h.canonical;
      shallow = subst (λ (r : Record). deep r ≤ limit) (sym t.1) h.shallow;
    }

-- and every such module tree is a sound card
pub card-of : (limit : ℕ) (m : Mod) → named (Mod_tree m) ≡ true → Canonical (Mod_tree m) → deep (Mod_tree m) ≤ limit
    → reading limit mod' (encode (Mod_tree m)) ≡ Ok tt
card-of limit m n = fits-sound limit mod' (Mod_tree m) (allowed-fits (Mod_tree m) mod' refl (Mod_allowed m) n)

pub module-reads : (limit : ℕ) (card : Bytes) → ModuleOf limit card → reading limit mod' card ≡ Ok tt
module-reads limit card h = ap (reading limit mod') h.is-card ∙ card-of limit h.m h.is-named h.canonical h.shallow

-- the path of a root, likewise
pub record PathOf (limit : ℕ) (root : Bytes) : Type 0 where
  pub p : Path
  pub is-tree : tree root ≡ Path_tree p
  pub is-root : root ≡ encode (Path_tree p)
  pub only : (q : Path) → tree root ≡ Path_tree q → p ≡ q
  pub is-named : named (Path_tree p) ≡ true
  pub canonical : Canonical (Path_tree p)
  pub shallow : deep (Path_tree p) ≤ limit

pub every-root : (limit : ℕ) (root : Bytes) → AreBytes root → reading limit path root ≡ Ok tt → PathOf limit root
every-root limit root b s =
    let h : ReadsAs limit path root (tree root) = sound-reads limit path root b s in
    let t : (p : Path) × (Path_tree p ≡ tree root) = every-path (tree root) h.fits in
    record {
      p = t.0;
      is-tree = sym t.1;
      is-root = sym h.encoded ∙ ap encode (sym t.1);
      only = λ q e. Path_unique t.0 q (t.1 ∙ e);
      is-named = ap named t.1 ∙ fits-named (tree root) path h.fits;
      canonical = subst Canonical (sym t.1) h.canonical;
      shallow = subst (λ (r : Record). deep r ≤ limit) (sym t.1) h.shallow;
    }

pub root-of : (limit : ℕ) (p : Path) → named (Path_tree p) ≡ true → Canonical (Path_tree p) → deep (Path_tree p) ≤ limit
    → reading limit path (encode (Path_tree p)) ≡ Ok tt
root-of limit p n = fits-sound limit path (Path_tree p) (allowed-fits (Path_tree p) path refl (Path_allowed p) n)

pub path-reads : (limit : ℕ) (root : Bytes) → PathOf limit root → reading limit path root ≡ Ok tt
path-reads limit root h = ap (reading limit path) h.is-root ∙ root-of limit h.p h.is-named h.canonical h.shallow

-- so of every sound card and root the definitions make the record tree of apply(root)(m)
pub apply-card : (limit depth : ℕ) (card root : Bytes) → AreBytes card → AreBytes root → reading limit mod' card ≡ Ok tt → reading depth path root ≡ Ok tt →
    (p : Path) × (m : Mod) × (tree root ≡ Path_tree p) × (tree card ≡ Mod_tree m) × (apply upstream (tree root) (tree card) ≡ Mod_tree (Text.apply p m))
apply-card limit depth card root b c s r =
    let q : PathOf depth root = every-root depth root c r in
    let h : ModuleOf limit card = every-card limit card b s in
    (q.p, h.m, q.is-tree, h.is-tree, rw (q.is-tree, h.is-tree) (apply-tree q.p h.m))
