-- The depth that falls never runs out, and so: what the definitions make of the record tree of a module tree is the record tree of what the text makes of it.
-- Assumes nothing.
use mathlib.Core.Path.{◌≡◌, refl, ap, ◌∙◌}
use Prim.Native.Nat.{ℕ, zero, suc, ◌≤◌}
use native.Mathlib.Nat.{le_refl}
use native.Mathlib.Omega.{arith}
use Rattle.records.specs.Record.{deep, deep_all}
use Rattle.rast.specs.Operation.{upstream}
use Rattle.factor_paths.specs.Apply.{apply_prefix, apply}
use Rattle.mirror.specs.Rast.{Path, Mod, Mod', ExternMod, ModDecl, ModDecl', StructDecl, TypeDecl, ConstDecl, EnumDecl, ImplDecl, TraitDecl, TopFnDecl'}
use Rattle.mirror.specs.Rast.{UseDecl, ModDecls, []ᵐ, ◌∷ᵐ◌}
use Rattle.mirror.specs.Fold.{FoldModDecls, Mod-as-Fold}
use Rattle.mirror.specs.Visitor.{MSel, Mod_name}
use Rattle.mirror.specs.Replacer.{◌++ᵐ◌, ReplaceType, ReplaceExpr, ReplaceFields, ReplaceTypeParams, ReplaceFn, ReplaceImplMember, ReplaceBody}
use Rattle.mirror.specs.Replacer.{ReplaceUse, ReplaceTopFn, ReplaceTrait, ReplaceImplDecl, ReplaceEnumCase, ReplaceEnum, ReplaceConst, ReplaceTypeDecl}
use Rattle.mirror.specs.Replacer.{ReplaceStruct, ReplaceModDecl, ReplaceMod}
use Rattle.mirror.specs.FactorPaths.{FinalReplacement, PathSimplifier, nesting, nesting_decl, nesting_all, with_imports}
use Rattle.mirror.specs.FactorPaths as Text
use Rattle.mirror.specs.Tree.{Path_tree, Mod_tree, ModDecl_tree, ModDecls_trees}
use Rattle.mirror.proofs.Replacements.{path-tree}
use Rattle.mirror.proofs.Pass.{apply-prefix}

-- two ways to go on with nested modules agree up to a nesting
abbrev Agree : (Mod → Path → Mod) → (Mod → Path → Mod) → ℕ → Type 0
Agree f g b = (m : Mod) (p : Path) → nesting m ≤ b → f m p ≡ g m p

decl-agree : (f g : Mod → Path → Mod) (r : FinalReplacement) (b : ℕ) → Agree f g b → (d : ModDecl) → nesting_decl d ≤ b → (p : Path)
    → ReplaceModDecl (PathSimplifier f r) d p ≡ ReplaceModDecl (PathSimplifier g r) d p
unfolding PathSimplifier nesting_decl ReplaceModDecl ReplaceType ReplaceExpr ReplaceFields ReplaceTypeParams ReplaceFn ReplaceImplMember ReplaceBody ReplaceUse
    ReplaceTopFn ReplaceTrait ReplaceImplDecl ReplaceEnumCase ReplaceEnum ReplaceConst ReplaceTypeDecl ReplaceStruct
decl-agree f g r b h (ModDecl' m) le p = ap ModDecl' (h m _ le)
decl-agree f g r b h (StructDecl s) le p = refl
decl-agree f g r b h (TypeDecl t) le p = refl
decl-agree f g r b h (ConstDecl c) le p = refl
decl-agree f g r b h (EnumDecl e) le p = refl
decl-agree f g r b h (ImplDecl i) le p = refl
decl-agree f g r b h (TraitDecl t) le p = refl
decl-agree f g r b h (TopFnDecl' t) le p = refl
decl-agree f g r b h (UseDecl u) le p = refl

decls-agree : (f g : Mod → Path → Mod) (r : FinalReplacement) (b : ℕ) → Agree f g b → (ds : ModDecls) → nesting_all ds ≤ b → (cs : ModDecls) (p : Path) →
    FoldModDecls (λ current d. current ++ᵐ (ReplaceModDecl (PathSimplifier f r) d p ∷ᵐ []ᵐ)) cs ds
    ≡ FoldModDecls (λ current d. current ++ᵐ (ReplaceModDecl (PathSimplifier g r) d p ∷ᵐ []ᵐ)) cs ds
unfolding FoldModDecls nesting_all
decls-agree f g r b h []ᵐ le cs p = refl
decls-agree f g r b h (d ∷ᵐ ds) le cs p =
    ap (λ u. FoldModDecls (λ current d. current ++ᵐ (ReplaceModDecl (PathSimplifier f r) d p ∷ᵐ []ᵐ)) (cs ++ᵐ (u ∷ᵐ []ᵐ)) ds)
    (decl-agree f g r b h d (omega arith) p)
    ∙ decls-agree f g r b h ds (omega arith) _ p

mod-agree : (f g : Mod → Path → Mod) (r : FinalReplacement) (b : ℕ) → Agree f g b → (m : Mod) → nesting m ≤ suc b → (p : Path)
    → ReplaceMod (PathSimplifier f r) m p ≡ ReplaceMod (PathSimplifier g r) m p
unfolding ReplaceMod Mod-as-Fold nesting
mod-agree f g r b h (Mod' d a n ds) le p = ap (Mod' d a n) (decls-agree f g r b h ds (omega arith) []ᵐ p)
mod-agree f g r b h (ExternMod n) le p = refl

-- any depth that the nesting does not pass gives the same
enough : (n k : ℕ) (m : Mod) (p : Path) → nesting m ≤ n → nesting m ≤ k → Text.apply_prefix n m p ≡ Text.apply_prefix k m p
unfolding Text.apply_prefix nesting
enough zero k (Mod' d a name ds) p le le' = absurd (omega arith)
enough zero k (ExternMod name) p le le' = absurd (omega arith)
enough (suc n) zero (Mod' d a name ds) p le le' = absurd (omega arith)
enough (suc n) zero (ExternMod name) p le le' = absurd (omega arith)
enough (suc n) (suc k) (Mod' d a name ds) p le le' =
    ap (with_imports _) (mod-agree (Text.apply_prefix n) (Text.apply_prefix k) _ (nesting_all ds) (λ m q h. enough n k m q (omega arith) (omega arith))
    (Mod' d a name ds) (omega arith) p)
enough (suc n) (suc k) (ExternMod name) p le le' = refl

-- a record tree is at least as deep as the modules in it are nested
mutual
  unfolding nesting deep Mod_tree

  mod-deep : (m : Mod) → nesting m ≤ deep (Mod_tree m)
  mod-deep (Mod' d a n ds) = let h : nesting_all ds ≤ deep_all (ModDecls_trees ds) = decls-deep ds in omega arith
  mod-deep (ExternMod n) = omega arith

  decl-deep : (d : ModDecl) → nesting_decl d ≤ deep (ModDecl_tree d)
  decl-deep (ModDecl' m) = let h : nesting m ≤ deep (Mod_tree m) = mod-deep m in omega arith
  decl-deep (StructDecl s) = omega arith
  decl-deep (TypeDecl t) = omega arith
  decl-deep (ConstDecl c) = omega arith
  decl-deep (EnumDecl e) = omega arith
  decl-deep (ImplDecl i) = omega arith
  decl-deep (TraitDecl t) = omega arith
  decl-deep (TopFnDecl' f) = omega arith
  decl-deep (UseDecl u) = omega arith

  decls-deep : (ds : ModDecls) → nesting_all ds ≤ deep_all (ModDecls_trees ds)
  decls-deep []ᵐ = omega arith
  decls-deep (d ∷ᵐ ds) =
      let h : nesting_decl d ≤ deep (ModDecl_tree d) = decl-deep d in let k : nesting_all ds ≤ deep_all (ModDecls_trees ds) = decls-deep ds in omega arith

-- THE THEOREM: what the definitions make of the record tree of m, under the record tree of a root, is the record tree of apply(root)(m)
pub apply-tree : (root : Path) (m : Mod) → apply upstream (Path_tree root) (Mod_tree m) ≡ Mod_tree (Text.apply root m)
unfolding apply Text.apply
apply-tree root m =
    ap (apply_prefix upstream (deep (Mod_tree m)) (Mod_tree m)) (path-tree root m)
    ∙ apply-prefix (deep (Mod_tree m)) m (MSel root (Mod_name m))
    ∙ ap Mod_tree (enough (deep (Mod_tree m)) (nesting m) m (MSel root (Mod_name m)) (mod-deep m) (le_refl _))
