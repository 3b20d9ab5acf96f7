-- The record tree of every datatype is allowed at its place, constructor by constructor. Assumes nothing.
use mathlib.Core.Path.{refl}
use mathlib.Core.List.{List, [], ◌∷◌}
use mathlib.Core.Option.{none, some}
use Rattle.records.specs.Kinds.{kinds, one, seq, option, any, expr, row_of, content_at}
use Rattle.records.proofs.Run.{◌⨾◌}
use Rattle.mirror.specs.Rast.{Global, Crate, Self, PMemberSelect, U8, U16, U32, U64, U128, I8, I16, I32, I64, I128, USIZE, Bool, TIdentifier}
use Rattle.mirror.specs.Rast.{TypeFromPath, TypeApp, Borrowed, BorrowedMut, ImplType, DynType, TupleType, FnType, IntersectionType, Array, TSynonym}
use Rattle.mirror.specs.Rast.{TMetaData, []ᵗ, ◌∷ᵗ◌, Formal', RawExpr, ExprFromType, Identifier, Match, StmtExpr, Block, StructBuild, Tuple, UnaryOp}
use Rattle.mirror.specs.Rast.{BinaryOp, TypeAscription, TraitCast, LiteralInt, LiteralBool, LiteralString, DeclareVar, Assign, IfExpr, Loop, For}
use Rattle.mirror.specs.Rast.{Labelled, Break, Continue, Return, CallType, Call, Select, SelectIndex, ExprFromPath, FunctionSelect, Lambda, Exprs, []ᵉ}
use Rattle.mirror.specs.Rast.{◌∷ᵉ◌, OptExpr, None, Some, MatchCase, MatchCase', MatchCases, []ᶜ, ◌∷ᶜ◌, AssignIdentifier, AssignIdentifier'}
use Rattle.mirror.specs.Rast.{AssignIdentifiers, []ᵃ, ◌∷ᵃ◌, TypeParamDecl', Field', NamelessField', NamedFields, NamelessFields, Struct', TypeSynonym'}
use Rattle.mirror.specs.Rast.{Constant', EnumCase', Enum', Fn', RawImplMember, TypeDeclMember, FnDecl, ImplMemberMacro, ImplFor, Impl', Trait', TopFn}
use Rattle.mirror.specs.Rast.{Use', Mod', ExternMod, ModDecl, ModDecl', StructDecl, TypeDecl, ConstDecl, EnumDecl, ImplDecl, TraitDecl, TopFnDecl'}
use Rattle.mirror.specs.Rast.{UseDecl, ModDecls, []ᵐ, ◌∷ᵐ◌}
use Rattle.mirror.specs.Tree.{list, trees, Path_tree, Type_tree, Types_trees, Formal_tree, Expr_tree, Exprs_trees, OptExpr_tree, MatchCase_tree}
use Rattle.mirror.specs.Tree.{MatchCases_trees, AssignIdentifier_tree, AssignIdentifiers_trees, TypeParamDecl_tree, Field_tree, NamelessField_tree}
use Rattle.mirror.specs.Tree.{Fields_tree, Struct_tree, TypeSynonym_tree, Constant_tree, EnumCase_tree, Enum_tree, Fn_tree, ImplMember_tree, Impl_tree}
use Rattle.mirror.specs.Tree.{Trait_tree, TopFnDecl_tree, Use_tree, Mod_tree, ModDecl_tree, ModDecls_trees}
use Rattle.mirror.proofs.Rows.{Codec, seq_codec, option_codec, text_codec, kept_codec, name_codec, text-holds, kept-holds, name-holds}
use Rattle.mirror.proofs.Paths.{Path_codec}
use Rattle.mirror.proofs.Types.{Type_codec, Types_codec}
use Rattle.mirror.proofs.Exprs.{Formal_codec, Expr_codec}
use Rattle.mirror.proofs.Decls.{TypeParamDecl_codec, Field_codec, NamelessField_codec, Fields_codec, Struct_codec, TypeSynonym_codec, Constant_codec}
use Rattle.mirror.proofs.Decls.{EnumCase_codec, Enum_codec, Fn_codec, ImplMember_codec, Impl_codec, Trait_codec, TopFnDecl_codec, Use_codec}
use Rattle.mirror.proofs.Mods.{Mod_codec}
use Rattle.records.proofs.Fits.{Stands, StandsAll}
use Rattle.mirror.proofs.Fits.{Allowed, AllowedAll}

-- every tree of a datatype is allowed at its place
abbrev pub Stand : {A : Type 0} → Codec A → Type 0
Stand {A} C = (x : A) → Allowed (C.tree x) C.place

pub text_allowed : Stand text_codec
unfolding Stands
text_allowed b = (refl, text-holds, refl)

pub kept_allowed : Stand kept_codec
unfolding Stands
kept_allowed b = (refl, kept-holds, refl)

pub name_allowed : Stand name_codec
unfolding Stands
name_allowed b = (refl, name-holds, refl)

-- the seq and the Option of a datatype
module _ {A : Type 0} (C : Codec A) (each : Stand C) where
  trees_allowed : (xs : List A) → AllowedAll (trees C.tree xs) (any C.place)
  unfolding StandsAll trees
  trees_allowed [] = tt
  trees_allowed (x ∷ xs) = each x ⨾ trees_allowed xs

  pub seq_allowed : Stand (seq_codec C)
  unfolding Stands content_at
  seq_allowed xs = refl ⨾ trees_allowed xs

  pub option_allowed : Stand (option_codec C)
  unfolding Stands StandsAll content_at
  option_allowed none = refl ⨾ tt
  option_allowed (some x) = refl ⨾ each x ⨾ tt

pub Path_allowed : Stand Path_codec
unfolding Stands StandsAll content_at row_of Path_tree
Path_allowed Global = refl ⨾ tt
Path_allowed Crate = refl ⨾ tt
Path_allowed Self = refl ⨾ tt
Path_allowed (PMemberSelect base name) = refl ⨾ Path_allowed base ⨾ name_allowed name ⨾ tt

mutual
  unfolding Stands StandsAll content_at row_of Type_tree Types_trees

  pub Type_allowed : Stand Type_codec
  Type_allowed U8 = refl ⨾ tt
  Type_allowed U16 = refl ⨾ tt
  Type_allowed U32 = refl ⨾ tt
  Type_allowed U64 = refl ⨾ tt
  Type_allowed U128 = refl ⨾ tt
  Type_allowed I8 = refl ⨾ tt
  Type_allowed I16 = refl ⨾ tt
  Type_allowed I32 = refl ⨾ tt
  Type_allowed I64 = refl ⨾ tt
  Type_allowed I128 = refl ⨾ tt
  Type_allowed USIZE = refl ⨾ tt
  Type_allowed Bool = refl ⨾ tt
  Type_allowed (TIdentifier name) = refl ⨾ text_allowed name ⨾ tt
  Type_allowed (TypeFromPath path) = refl ⨾ Path_allowed path ⨾ tt
  Type_allowed (TypeApp baseName arguments) = refl ⨾ Type_allowed baseName ⨾ Types_allowed arguments ⨾ tt
  Type_allowed (Borrowed underlying) = refl ⨾ Type_allowed underlying ⨾ tt
  Type_allowed (BorrowedMut underlying) = refl ⨾ Type_allowed underlying ⨾ tt
  Type_allowed (ImplType underlying) = refl ⨾ Type_allowed underlying ⨾ tt
  Type_allowed (DynType underlying) = refl ⨾ Type_allowed underlying ⨾ tt
  Type_allowed (TupleType arguments) = refl ⨾ Types_allowed arguments ⨾ tt
  Type_allowed (FnType arguments returnType) = refl ⨾ Types_allowed arguments ⨾ Type_allowed returnType ⨾ tt
  Type_allowed (IntersectionType left right) = refl ⨾ Type_allowed left ⨾ Type_allowed right ⨾ tt
  Type_allowed (Array underlying size) = refl ⨾ Type_allowed underlying ⨾ option_allowed text_codec text_allowed size ⨾ tt
  Type_allowed (TSynonym display base) = refl ⨾ Type_allowed display ⨾ Type_allowed base ⨾ tt
  Type_allowed (TMetaData display copySemantics overflow) = refl ⨾ Type_allowed display ⨾ kept_allowed copySemantics ⨾ kept_allowed overflow ⨾ tt

  pub Types_allowed : Stand Types_codec
  Types_allowed []ᵗ = refl ⨾ tt
  Types_allowed (t ∷ᵗ ts) = refl ⨾ Type_allowed t ⨾ (Types_allowed ts).1

opt_type_allowed : Stand (option_codec Type_codec)
opt_type_allowed = option_allowed Type_codec Type_allowed

pub Formal_allowed : Stand Formal_codec
unfolding Stands StandsAll content_at row_of Formal_tree
Formal_allowed (Formal' name tpe) = refl ⨾ text_allowed name ⨾ Type_allowed tpe ⨾ tt

formals_allowed : Stand (seq_codec Formal_codec)
formals_allowed = seq_allowed Formal_codec Formal_allowed

mutual
  unfolding Stands StandsAll content_at row_of Expr_tree Exprs_trees OptExpr_tree MatchCase_tree MatchCases_trees AssignIdentifier_tree AssignIdentifiers_trees

  pub Expr_allowed : Stand Expr_codec
  Expr_allowed (RawExpr content) = refl ⨾ text_allowed content ⨾ tt
  Expr_allowed (ExprFromType tpe) = refl ⨾ Type_allowed tpe ⨾ tt
  Expr_allowed (Identifier name) = refl ⨾ text_allowed name ⨾ tt
  Expr_allowed (Match matchee cases) = refl ⨾ Expr_allowed matchee ⨾ MatchCases_allowed cases ⨾ tt
  Expr_allowed (StmtExpr stmt rhs) = refl ⨾ Expr_allowed stmt ⨾ Expr_allowed rhs ⨾ tt
  Expr_allowed (Block underlying) = refl ⨾ Expr_allowed underlying ⨾ tt
  Expr_allowed (StructBuild underlying assignments) = refl ⨾ Expr_allowed underlying ⨾ AssignIdentifiers_allowed assignments ⨾ tt
  Expr_allowed (Tuple arguments) = refl ⨾ Exprs_allowed arguments ⨾ tt
  Expr_allowed (UnaryOp op1 underlying format) = refl ⨾ text_allowed op1 ⨾ Expr_allowed underlying ⨾ kept_allowed format ⨾ tt
  Expr_allowed (BinaryOp op2 left right format2) = refl ⨾ text_allowed op2 ⨾ Expr_allowed left ⨾ Expr_allowed right ⨾ kept_allowed format2 ⨾ tt
  Expr_allowed (TypeAscription left tpe) = refl ⨾ Expr_allowed left ⨾ Type_allowed tpe ⨾ tt
  Expr_allowed (TraitCast leftTpe tpe) = refl ⨾ Type_allowed leftTpe ⨾ Type_allowed tpe ⨾ tt
  Expr_allowed (LiteralInt value) = refl ⨾ text_allowed value ⨾ tt
  Expr_allowed (LiteralBool bvalue) = refl ⨾ kept_allowed bvalue ⨾ tt
  Expr_allowed (LiteralString value binary verbatim) = refl ⨾ text_allowed value ⨾ kept_allowed binary ⨾ kept_allowed verbatim ⨾ tt
  Expr_allowed (DeclareVar declareType name opt_type optRhs) =
      refl ⨾ kept_allowed declareType ⨾ text_allowed name ⨾ opt_type_allowed opt_type ⨾ OptExpr_allowed optRhs ⨾ tt
  Expr_allowed (Assign names rhs) = refl ⨾ kept_allowed names ⨾ Expr_allowed rhs ⨾ tt
  Expr_allowed (IfExpr cond thn els) = refl ⨾ Expr_allowed cond ⨾ Expr_allowed thn ⨾ Expr_allowed els ⨾ tt
  Expr_allowed (Loop optCond underlying) = refl ⨾ OptExpr_allowed optCond ⨾ Expr_allowed underlying ⨾ tt
  Expr_allowed (For name range body) = refl ⨾ text_allowed name ⨾ Expr_allowed range ⨾ Expr_allowed body ⨾ tt
  Expr_allowed (Labelled lbl underlying) = refl ⨾ text_allowed lbl ⨾ Expr_allowed underlying ⨾ tt
  Expr_allowed (Break optLbl) = refl ⨾ option_allowed text_codec text_allowed optLbl ⨾ tt
  Expr_allowed (Continue optLbl) = refl ⨾ option_allowed text_codec text_allowed optLbl ⨾ tt
  Expr_allowed (Return optExpr) = refl ⨾ OptExpr_allowed optExpr ⨾ tt
  Expr_allowed (CallType obj typeArguments) = refl ⨾ Expr_allowed obj ⨾ Types_allowed typeArguments ⨾ tt
  Expr_allowed (Call obj arguments) = refl ⨾ Expr_allowed obj ⨾ Exprs_allowed arguments ⨾ tt
  Expr_allowed (Select obj name) = refl ⨾ Expr_allowed obj ⨾ text_allowed name ⨾ tt
  Expr_allowed (SelectIndex obj range) = refl ⨾ Expr_allowed obj ⨾ Expr_allowed range ⨾ tt
  Expr_allowed (ExprFromPath path) = refl ⨾ Path_allowed path ⨾ tt
  Expr_allowed (FunctionSelect obj name) = refl ⨾ Expr_allowed obj ⨾ text_allowed name ⨾ tt
  Expr_allowed (Lambda params retType body) = refl ⨾ formals_allowed params ⨾ opt_type_allowed retType ⨾ Expr_allowed body ⨾ tt

  pub Exprs_allowed : (es : Exprs) → Allowed (list (Exprs_trees es)) (seq expr)
  Exprs_allowed []ᵉ = refl ⨾ tt
  Exprs_allowed (e ∷ᵉ es) = refl ⨾ Expr_allowed e ⨾ (Exprs_allowed es).1

  pub OptExpr_allowed : (o : OptExpr) → Allowed (OptExpr_tree o) (option expr)
  OptExpr_allowed None = refl ⨾ tt
  OptExpr_allowed (Some e) = refl ⨾ Expr_allowed e ⨾ tt

  pub MatchCase_allowed : (c : MatchCase) → Allowed (MatchCase_tree c) (one 0x81)
  MatchCase_allowed (MatchCase' pattern rhs) = refl ⨾ kept_allowed pattern ⨾ Expr_allowed rhs ⨾ tt

  pub MatchCases_allowed : (cs : MatchCases) → Allowed (list (MatchCases_trees cs)) (seq (one 0x81))
  MatchCases_allowed []ᶜ = refl ⨾ tt
  MatchCases_allowed (c ∷ᶜ cs) = refl ⨾ MatchCase_allowed c ⨾ (MatchCases_allowed cs).1

  pub AssignIdentifier_allowed : (a : AssignIdentifier) → Allowed (AssignIdentifier_tree a) (one 0x82)
  AssignIdentifier_allowed (AssignIdentifier' identifier rhs) = refl ⨾ text_allowed identifier ⨾ Expr_allowed rhs ⨾ tt

  pub AssignIdentifiers_allowed : (as' : AssignIdentifiers) → Allowed (list (AssignIdentifiers_trees as')) (seq (one 0x82))
  AssignIdentifiers_allowed []ᵃ = refl ⨾ tt
  AssignIdentifiers_allowed (a ∷ᵃ as') = refl ⨾ AssignIdentifier_allowed a ⨾ (AssignIdentifiers_allowed as').1

pub TypeParamDecl_allowed : Stand TypeParamDecl_codec
unfolding Stands StandsAll content_at row_of TypeParamDecl_tree
TypeParamDecl_allowed (TypeParamDecl' name constraints) = refl ⨾ text_allowed name ⨾ Types_allowed constraints ⨾ tt

type_params_allowed : Stand (seq_codec TypeParamDecl_codec)
type_params_allowed = seq_allowed TypeParamDecl_codec TypeParamDecl_allowed

pub Field_allowed : Stand Field_codec
unfolding Stands StandsAll content_at row_of Field_tree
Field_allowed (Field' visibility formal) = refl ⨾ kept_allowed visibility ⨾ Formal_allowed formal ⨾ tt

pub NamelessField_allowed : Stand NamelessField_codec
unfolding Stands StandsAll content_at row_of NamelessField_tree
NamelessField_allowed (NamelessField' visibility tpe) = refl ⨾ kept_allowed visibility ⨾ Type_allowed tpe ⨾ tt

pub Fields_allowed : Stand Fields_codec
unfolding Stands StandsAll content_at row_of Fields_tree
Fields_allowed (NamedFields fields) = refl ⨾ seq_allowed Field_codec Field_allowed fields ⨾ tt
Fields_allowed (NamelessFields types) = refl ⨾ seq_allowed NamelessField_codec NamelessField_allowed types ⨾ tt

pub Struct_allowed : Stand Struct_codec
unfolding Stands StandsAll content_at row_of Struct_tree
Struct_allowed (Struct' docString attributes name type_params fields) =
    refl ⨾ text_allowed docString ⨾ kept_allowed attributes ⨾ text_allowed name ⨾ type_params_allowed type_params ⨾ Fields_allowed fields ⨾ tt

pub TypeSynonym_allowed : Stand TypeSynonym_codec
unfolding Stands StandsAll content_at row_of TypeSynonym_tree
TypeSynonym_allowed (TypeSynonym' docString attributes name type_params tpe) =
    refl ⨾ text_allowed docString ⨾ kept_allowed attributes ⨾ text_allowed name ⨾ type_params_allowed type_params ⨾ Type_allowed tpe ⨾ tt

pub Constant_allowed : Stand Constant_codec
unfolding Stands StandsAll content_at row_of Constant_tree
Constant_allowed (Constant' docString attributes name tpe value) =
    refl ⨾ text_allowed docString ⨾ kept_allowed attributes ⨾ text_allowed name ⨾ Type_allowed tpe ⨾ Expr_allowed value ⨾ tt

pub EnumCase_allowed : Stand EnumCase_codec
unfolding Stands StandsAll content_at row_of EnumCase_tree
EnumCase_allowed (EnumCase' docString name fields) = refl ⨾ text_allowed docString ⨾ text_allowed name ⨾ Fields_allowed fields ⨾ tt

pub Enum_allowed : Stand Enum_codec
unfolding Stands StandsAll content_at row_of Enum_tree
Enum_allowed (Enum' docString attributes name type_params variants) =
    refl ⨾ text_allowed docString ⨾ kept_allowed attributes ⨾ text_allowed name ⨾ type_params_allowed type_params
    ⨾ seq_allowed EnumCase_codec EnumCase_allowed variants ⨾ tt

pub Fn_allowed : Stand Fn_codec
unfolding Stands StandsAll content_at row_of Fn_tree
Fn_allowed (Fn' name type_params formals returnType body) =
    refl ⨾ text_allowed name ⨾ type_params_allowed type_params ⨾ formals_allowed formals ⨾ opt_type_allowed returnType
    ⨾ option_allowed Expr_codec Expr_allowed body ⨾ tt

pub ImplMember_allowed : Stand ImplMember_codec
unfolding Stands StandsAll content_at row_of ImplMember_tree
ImplMember_allowed (RawImplMember content) = refl ⨾ text_allowed content ⨾ tt
ImplMember_allowed (TypeDeclMember name rhs) = refl ⨾ text_allowed name ⨾ Type_allowed rhs ⨾ tt
ImplMember_allowed (FnDecl docString attributes «pub» fun) = refl ⨾ text_allowed docString ⨾ kept_allowed attributes ⨾ kept_allowed «pub» ⨾ Fn_allowed fun ⨾ tt
ImplMember_allowed (ImplMemberMacro expr) = refl ⨾ Expr_allowed expr ⨾ tt

members_allowed : Stand (seq_codec ImplMember_codec)
members_allowed = seq_allowed ImplMember_codec ImplMember_allowed

pub Impl_allowed : Stand Impl_codec
unfolding Stands StandsAll content_at row_of Impl_tree
Impl_allowed (ImplFor type_params tpe forType body) = refl ⨾ type_params_allowed type_params ⨾ Type_allowed tpe ⨾ Type_allowed forType ⨾ members_allowed body ⨾ tt
Impl_allowed (Impl' type_params tpe body) = refl ⨾ type_params_allowed type_params ⨾ Type_allowed tpe ⨾ members_allowed body ⨾ tt

pub Trait_allowed : Stand Trait_codec
unfolding Stands StandsAll content_at row_of Trait_tree
Trait_allowed (Trait' docString attributes type_params tpe parents body) =
    refl ⨾ text_allowed docString ⨾ kept_allowed attributes ⨾ type_params_allowed type_params ⨾ Type_allowed tpe ⨾ Types_allowed parents
    ⨾ members_allowed body ⨾ tt

pub TopFnDecl_allowed : Stand TopFnDecl_codec
unfolding Stands StandsAll content_at row_of TopFnDecl_tree
TopFnDecl_allowed (TopFn docString attributes visibility fn) =
    refl ⨾ text_allowed docString ⨾ kept_allowed attributes ⨾ kept_allowed visibility ⨾ Fn_allowed fn ⨾ tt

pub Use_allowed : Stand Use_codec
unfolding Stands StandsAll content_at row_of Use_tree
Use_allowed (Use' visibility path) = refl ⨾ kept_allowed visibility ⨾ Path_allowed path ⨾ tt

mutual
  unfolding Stands StandsAll content_at row_of Mod_tree ModDecl_tree ModDecls_trees

  pub Mod_allowed : Stand Mod_codec
  Mod_allowed (Mod' docString attributes name body) = refl ⨾ text_allowed docString ⨾ kept_allowed attributes ⨾ text_allowed name ⨾ ModDecls_allowed body ⨾ tt
  Mod_allowed (ExternMod name) = refl ⨾ text_allowed name ⨾ tt

  pub ModDecl_allowed : (d : ModDecl) → Allowed (ModDecl_tree d) (kinds 0x62 0x6A)
  ModDecl_allowed (ModDecl' m) = refl ⨾ Mod_allowed m ⨾ tt
  ModDecl_allowed (StructDecl struct) = refl ⨾ Struct_allowed struct ⨾ tt
  ModDecl_allowed (TypeDecl tpe) = refl ⨾ TypeSynonym_allowed tpe ⨾ tt
  ModDecl_allowed (ConstDecl c) = refl ⨾ Constant_allowed c ⨾ tt
  ModDecl_allowed (EnumDecl enum) = refl ⨾ Enum_allowed enum ⨾ tt
  ModDecl_allowed (ImplDecl impl) = refl ⨾ Impl_allowed impl ⨾ tt
  ModDecl_allowed (TraitDecl tr) = refl ⨾ Trait_allowed tr ⨾ tt
  ModDecl_allowed (TopFnDecl' fn) = refl ⨾ TopFnDecl_allowed fn ⨾ tt
  ModDecl_allowed (UseDecl u) = refl ⨾ Use_allowed u ⨾ tt

  pub ModDecls_allowed : (ds : ModDecls) → Allowed (list (ModDecls_trees ds)) (seq (kinds 0x62 0x6A))
  ModDecls_allowed []ᵐ = refl ⨾ tt
  ModDecls_allowed (d ∷ᵐ ds) = refl ⨾ ModDecl_allowed d ⨾ (ModDecls_allowed ds).1
