-- Nothing is missed: the record tree of a module tells which module it is, and every record tree that stands at a module's place is that of a module.
-- Assumes nothing.
use mathlib.Core.Path.{◌≡◌, refl}
use mathlib.Core.List.{[], ◌∷◌}
use lib.Dec.{lit≤}
use Rattle.records.specs.Record.{Record, children}
use Rattle.records.specs.Kinds.{kinds, seq, mod', row_of}
use Rattle.records.proofs.Fits.{Fits}
use Rattle.mirror.specs.Rast.{Mod, Mod', ExternMod, ModDecl, ModDecl', StructDecl, TypeDecl, ConstDecl, EnumDecl, ImplDecl, TraitDecl, TopFnDecl'}
use Rattle.mirror.specs.Rast.{UseDecl, ModDecls, []ᵐ, ◌∷ᵐ◌}
use Rattle.mirror.specs.Tree.{list, Mod_tree, ModDecl_tree, ModDecls_trees}
use Rattle.mirror.proofs.Decode.{fold, fold_all, Mod_absent, Mod_at, ModDecl_at, ModDecls_from, Mod_reading, Mod_of, ModDecl_of, ModDecls_of}
use Rattle.records.proofs.Run.{Run, ◌⨾◌}
use Rattle.mirror.proofs.Rows.{Layer, Law, Codec, GoodAll, Case, refold, layer, row, all-good, sure, kinds-right, seq-right, text_codec, kept_codec}
use Rattle.mirror.proofs.Rows.{distinct, reached}
use Rattle.mirror.proofs.Decls.{Struct_back, TypeSynonym_back, Constant_back, Enum_back, Impl_back, Trait_back, TopFnDecl_back, Use_back, Struct_codec}
use Rattle.mirror.proofs.Decls.{TypeSynonym_codec, Constant_codec, Enum_codec, Impl_codec, Trait_codec, TopFnDecl_codec, Use_codec}

mutual
  unfolding fold fold_all Mod_at ModDecl_at Mod_tree ModDecl_tree ModDecls_trees

  pub Mod_back : (m : Mod) → Mod_of (Mod_tree m) ≡ m
  Mod_back (Mod' docString attributes name body) = λ i. Mod' docString attributes name (ModDecls_back body i)
  Mod_back (ExternMod name) = refl

  pub ModDecl_back : (d : ModDecl) → ModDecl_of (ModDecl_tree d) ≡ d
  ModDecl_back (ModDecl' m) = λ i. ModDecl' (Mod_back m i)
  ModDecl_back (StructDecl struct) = λ i. StructDecl (Struct_back struct i)
  ModDecl_back (TypeDecl tpe) = λ i. TypeDecl (TypeSynonym_back tpe i)
  ModDecl_back (ConstDecl c) = λ i. ConstDecl (Constant_back c i)
  ModDecl_back (EnumDecl enum) = λ i. EnumDecl (Enum_back enum i)
  ModDecl_back (ImplDecl impl) = λ i. ImplDecl (Impl_back impl i)
  ModDecl_back (TraitDecl tr) = λ i. TraitDecl (Trait_back tr i)
  ModDecl_back (TopFnDecl' fn) = λ i. TopFnDecl' (TopFnDecl_back fn i)
  ModDecl_back (UseDecl u) = λ i. UseDecl (Use_back u i)

  pub ModDecls_back : (ds : ModDecls) → ModDecls_of (list (ModDecls_trees ds)) ≡ ds
  ModDecls_back []ᵐ = refl
  ModDecls_back (d ∷ᵐ ds) = λ i. ModDecl_back d i ∷ᵐ ModDecls_back ds i

-- what is shown of every record
pub record Good (r : Record) : Type 0 where
  pub a_mod : Fits r mod' → Mod_tree (Mod_of r) ≡ r
  pub decl : Fits r (kinds 0x62 0x6A) → ModDecl_tree (ModDecl_of r) ≡ r
  pub decls : Fits r (seq (kinds 0x62 0x6A)) → list (ModDecls_trees (ModDecls_of r)) ≡ r

abbrev pub M : Layer
M = layer Mod_reading Mod_absent Good

abbrev a : {A : Type 0} → Codec A → Law M
a C = sure M C

abbrev a_mod : Law M
a_mod = record { place = mod'; again = λ x. Mod_tree x.as'.mod'; right = λ r g. g.a_mod }

abbrev decl : Law M
decl = record { place = kinds 0x62 0x6A; again = λ x. ModDecl_tree x.as'.decl; right = λ r g. g.decl }

abbrev decls : Law M
decls = record { place = seq (kinds 0x62 0x6A); again = λ x. list (ModDecls_trees x.as'.decls); right = λ r g. g.decls }

Mod_cases : Run (Case M Mod_tree Mod_at) 0x60 1
unfolding Mod_at Mod_tree row_of
Mod_cases = row M (a text_codec ∷ a kept_codec ∷ a text_codec ∷ decls ∷ []) ⨾ row M (a text_codec ∷ [])

ModDecl_cases : Run (Case M ModDecl_tree ModDecl_at) 0x62 8
unfolding ModDecl_at ModDecl_tree row_of
ModDecl_cases =
    row M (a_mod ∷ [])
    ⨾ row M (a Struct_codec ∷ [])
    ⨾ row M (a TypeSynonym_codec ∷ [])
    ⨾ row M (a Constant_codec ∷ [])
    ⨾ row M (a Enum_codec ∷ [])
    ⨾ row M (a Impl_codec ∷ [])
    ⨾ row M (a Trait_codec ∷ [])
    ⨾ row M (a TopFnDecl_codec ∷ [])
    ⨾ row M (a Use_codec ∷ [])

step : (r : Record) → GoodAll M (children r) → Good r
unfolding fold fold_all ModDecls_trees
step r g =
    record {
      a_mod = kinds-right M Mod_tree Mod_at 0x60 1 (lit≤ tt) Mod_cases Mod_of (refold Mod_reading Mod_at) r g;
      decl = kinds-right M ModDecl_tree ModDecl_at 0x62 8 (lit≤ tt) ModDecl_cases ModDecl_of (refold Mod_reading ModDecl_at) r g;
      decls = seq-right M decl (λ x. x.as'.decl) []ᵐ ◌∷ᵐ◌ ModDecls_trees refl (λ x s. refl) ModDecls_of (refold Mod_reading (λ k. ModDecls_from)) r g;
    }

pub good : (r : Record) → Good r
good = all-good M step

pub Mod_right : (r : Record) → Fits r mod' → Mod_tree (Mod_of r) ≡ r
Mod_right r = (good r).a_mod

abbrev pub Mod_codec : Codec Mod
Mod_codec = record { place = mod'; tree = Mod_tree; of = Mod_of; back = Mod_back; right = Mod_right }

-- two modules of one tree are one module
pub unique : (m m' : Mod) → Mod_tree m ≡ Mod_tree m' → m ≡ m'
unique = distinct Mod_codec

-- every tree that stands at a module's place is the tree of a module
pub every-tree : (r : Record) → Fits r mod' → (m : Mod) × (Mod_tree m ≡ r)
every-tree = reached Mod_codec
