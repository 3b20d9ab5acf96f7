-- Mapping over the record trees of paths is the text's Mapping over paths. Assumes nothing.
use mathlib.Core.Path.{◌≡◌, refl, ap, ap₂, sym, ◌∙◌}
use mathlib.Core.List.{List, [], ◌∷◌, ◌++◌, map, map-append}
use mathlib.Core.Option
use mathlib.Core.Option.{Option, none, some}
use mathlib.Core.Bool.{Bool as 𝔹, true, false, ◌&&◌, ◌||◌, cond}
use lib.ListN.{length, length-map}
use lib.Dec.{eqb}
use Rattle.wire.specs.Numbers.{same_bytes}
use Rattle.records.specs.Record.{◌▸◌}
use Rattle.rast.specs.Path.{same_path, whether}
use Rattle.rast.specs.Final.{UniqueElementOf, is_among, final_path}
use Rattle.rast.specs.Operation.{upstream}
use Rattle.factor_paths.specs.Mapping.{Entry, entry, Mapping, Provenance, FinalReplacement, get, set, ◌among◌, include, Add, final, ToFinalReplacement}
use Rattle.factor_paths.specs.Mapping.{ToUseStatements, use_decl}
use Rattle.mirror.specs.Rast.{string, Path, Global, Crate, Self, PMemberSelect, Use', UseDecl, ModDecls, ◌∷ᵐ◌}
use Rattle.mirror.specs.FactorPaths as Text
use Rattle.mirror.specs.Tree.{Path_tree, Use_tree, ModDecls_trees}

-- a function past an if and past an Option
pub past-cond : {A B : Type 0} (g : A → B) (t : 𝔹) (a b : A) → cond t (g a) (g b) ≡ g (cond t a b)
past-cond g true a b = refl
past-cond g false a b = refl

and-true : (b : 𝔹) → b && true ≡ b
and-true true = refl
and-true false = refl

pub same-path : (p q : Path) → same_path same_bytes (Path_tree p) (Path_tree q) ≡ Text.same_path p q
unfolding same_path Path_tree Text.same_path
same-path Global Global = refl
same-path Global Crate = refl
same-path Global Self = refl
same-path Global (PMemberSelect q m) = refl
same-path Crate Global = refl
same-path Crate Crate = refl
same-path Crate Self = refl
same-path Crate (PMemberSelect q m) = refl
same-path Self Global = refl
same-path Self Crate = refl
same-path Self Self = refl
same-path Self (PMemberSelect q m) = refl
same-path (PMemberSelect p n) Global = refl
same-path (PMemberSelect p n) Crate = refl
same-path (PMemberSelect p n) Self = refl
same-path (PMemberSelect p n) (PMemberSelect q m) = ap₂ ◌&&◌ (same-path p q) (and-true (same_bytes n m))

-- a map with other values
abbrev pub other : {A B : Type 0} → (A → B) → Entry A → Entry B
other h e = entry e.name (h e.held)

module _ {A B : Type 0} (h : A → B) where
  pub get_other : (k : string) (es : List (Entry A)) → get upstream k (map (other h) es) ≡ Option.map h (Text.get k es)
  unfolding get Text.get
  get_other k [] = refl
  get_other k (e ∷ es) = rw (get_other k es) (past-cond (Option.map h) (same_bytes e.name k) (some e.held) (Text.get k es))

  pub set_other : (k : string) (a : A) (es : List (Entry A)) → set upstream k (h a) (map (other h) es) ≡ map (other h) (Text.set k a es)
  unfolding set Text.set
  set_other k a [] = refl
  set_other k a (e ∷ es) =
      rw (set_other k a es) (past-cond (map (other h)) (same_bytes e.name k) (entry e.name a ∷ es) (e ∷ Text.set k a es))

pub among-trees : (p : Path) (qs : List Path) → ◌among◌ upstream (Path_tree p) (map Path_tree qs) ≡ Text.◌among◌ p qs
unfolding is_among Text.◌among◌
among-trees p [] = refl
among-trees p (q ∷ qs) = ap₂ ◌||◌ (same-path p q) (among-trees p qs)

include-trees : (p : Path) (ps : List Path) → include upstream (Path_tree p) (map Path_tree ps) ≡ map Path_tree (Text.include p ps)
include-trees p ps =
    ap₂ (λ t l. cond t (map Path_tree ps) l) (among-trees p ps) (sym (map-append Path_tree ps (p ∷ [])))
    ∙ past-cond (map Path_tree) (Text.◌among◌ p ps) ps (ps ++ (p ∷ []))

-- the mapping whose bases are the record trees of a mapping's paths
abbrev pub trees-of : List (Entry (List Path)) → Provenance
trees-of es = map (other (map Path_tree)) es

abbrev pub mapping : Text.Mapping → Mapping
mapping m = record { provenance = trees-of m.provenance; keys = m.keys }

with-provenance : {a b : Provenance} (ks : List string) → a ≡ b
    → ◌≡◌ {A = Mapping} (record { provenance = a; keys = ks }) (record { provenance = b; keys = ks })
with-provenance ks e = λ i. record { provenance = e i; keys = ks }

pub add-tree : (m : Text.Mapping) (k : string) (p : Path) → Add upstream (mapping m) k (Path_tree p) ≡ mapping (Text.Add m k p)
unfolding Add Text.Add
add-tree m k p = rw (get_other (map Path_tree) k m.provenance) (go (Text.get k m.provenance))
  where
    go : (o : Option (List Path)) →
        whether (Option.map (map Path_tree) o)
        (record { provenance = set upstream k (Path_tree p ∷ []) (trees-of m.provenance); keys = m.keys ++ (k ∷ []) })
        (λ paths. record { provenance = set upstream k (include upstream (Path_tree p) paths) (trees-of m.provenance); keys = m.keys })
        ≡ mapping (Text.whether o
        (record { provenance = Text.set k (p ∷ []) m.provenance; keys = m.keys ++ (k ∷ []) })
        (λ paths. record { provenance = Text.set k (Text.include p paths) m.provenance; keys = m.keys }))
    go none = with-provenance _ (set_other (map Path_tree) k (p ∷ []) m.provenance)
    go (some ps) = with-provenance _ (rw (include-trees p ps) (set_other (map Path_tree) k (Text.include p ps) m.provenance))

-- the final replacement whose paths are the record trees of a final replacement's
abbrev pub final-trees : Text.FinalReplacement → FinalReplacement
final-trees es = map (other Path_tree) es

unique-tree : (ps : List Path) → UniqueElementOf (Path_tree Text.dafny_runtime) (map Path_tree ps) ≡ Path_tree (Text.UniqueElementOf ps)
unfolding Path_tree
unique-tree [] = refl
unique-tree (p ∷ ps) = refl

runtime-tree : Rattle.rast.specs.Path.dafny_runtime ≡ Path_tree Text.dafny_runtime
unfolding Path_tree
runtime-tree = refl

chosen-tree : (one self run : 𝔹) (p u d : Path) (n : string) (others : Text.FinalReplacement) →
    whether (cond (one || self || run) (some (cond one (Path_tree u) (cond self (Path_tree p) (Path_tree d)))) none) (final-trees others)
    (λ q. entry n q ∷ final-trees others)
    ≡ final-trees (cond (one || self || run) (entry n (cond one u (cond self p d)) ∷ others) others)
chosen-tree true self run p u d n others = refl
chosen-tree false true run p u d n others = refl
chosen-tree false false true p u d n others = refl
chosen-tree false false false p u d n others = refl

final-tree : (p : Path) (e : Entry (List Path)) (others : Text.FinalReplacement)
    → final upstream (Path_tree p) (other (map Path_tree) e) (final-trees others) ≡ final-trees (Text.final p e others)
unfolding Path_tree final_path
final-tree p e others =
    rw (length-map e.held Path_tree, among-trees p e.held, among-trees Text.dafny_runtime e.held, unique-tree e.held)
    (chosen-tree (eqb (length e.held) 1) (Text.◌among◌ p e.held) (Text.◌among◌ Text.dafny_runtime e.held) p (Text.UniqueElementOf e.held)
    Text.dafny_runtime e.name others)

pub to-final-tree : (p : Path) (es : List (Entry (List Path)))
    → ToFinalReplacement upstream (trees-of es) (Path_tree p) ≡ final-trees (Text.ToFinalReplacement es p)
unfolding ToFinalReplacement Text.ToFinalReplacement
to-final-tree p [] = refl
to-final-tree p (e ∷ es) =
    ap (λ (o : FinalReplacement). final upstream (Path_tree p) (other (map Path_tree) e) o) (to-final-tree p es) ∙ final-tree p e (Text.ToFinalReplacement es p)

pub to-use-tree : (ks : List string) (r : Text.FinalReplacement) (p : Path)
    → ToUseStatements upstream ks (final-trees r) (Path_tree p) ≡ ModDecls_trees (Text.ToUseStatements ks r p)
unfolding ToUseStatements Text.ToUseStatements ModDecls_trees Use_tree Path_tree
to-use-tree [] r p = refl
to-use-tree (k ∷ ks) r p = rw (to-use-tree ks r p, get_other Path_tree k r) (go (Text.get k r) (Text.ToUseStatements ks r p))
  where
    go : (o : Option Path) (others : ModDecls) →
        whether (Option.map Path_tree o) (ModDecls_trees others)
        (λ base. cond (same_path same_bytes base (Path_tree p)) (ModDecls_trees others) (use_decl (Rattle.rast.specs.Path.MSel base k) ▸ ModDecls_trees others))
        ≡ ModDecls_trees (Text.whether o others (λ path. cond (Text.same_path path p) others (UseDecl (Use' (1 ∷ []) (PMemberSelect path k)) ∷ᵐ others)))
    go none others = refl
    go (some q) others = rw (same-path q p) (past-cond ModDecls_trees (Text.same_path q p) others (UseDecl (Use' (1 ∷ []) (PMemberSelect q k)) ∷ᵐ others))
