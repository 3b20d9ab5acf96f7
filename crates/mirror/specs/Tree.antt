-- 01, Leaf 1: the record tree of a module tree. A string is a Text, a seq a List, an Option a List of at most one, what is kept unread a Kept;
-- any other is a record of its constructor's kind that holds the constructor's fields in order. Assumes nothing: these are definitions.
use Rattle.std.specs.Prelude.{List, [], ◌∷◌}
use Rattle.std.proofs.Math.Option.{Option, none, some}
use Rattle.records.specs.Record.{Record, Records, leaf, node, nil, ◌▸◌}
use Rattle.mirror.specs.Rast.{string, Kept, Path, Global, Crate, Self, PMemberSelect, «Type», U8, U16, U32, U64, U128, I8, I16, I32, I64, I128, USIZE}
use Rattle.mirror.specs.Rast.{Bool, TIdentifier, TypeFromPath, TypeApp, Borrowed, BorrowedMut, ImplType, DynType, TupleType, FnType, IntersectionType}
use Rattle.mirror.specs.Rast.{Array, TSynonym, TMetaData, Types, []ᵗ, ◌∷ᵗ◌, Formal, Formal'}
use Rattle.mirror.specs.Rast.{Expr, RawExpr, ExprFromType, Identifier, Match, StmtExpr, Block, StructBuild, Tuple, UnaryOp, BinaryOp, TypeAscription}
use Rattle.mirror.specs.Rast.{TraitCast, LiteralInt, LiteralBool, LiteralString, DeclareVar, Assign, IfExpr, Loop, For, Labelled, Break, Continue, Return}
use Rattle.mirror.specs.Rast.{CallType, Call, Select, SelectIndex, ExprFromPath, FunctionSelect, Lambda}
use Rattle.mirror.specs.Rast.{Exprs, []ᵉ, ◌∷ᵉ◌, OptExpr, None, Some, MatchCase, MatchCase', MatchCases, []ᶜ, ◌∷ᶜ◌, AssignIdentifier, AssignIdentifier'}
use Rattle.mirror.specs.Rast.{AssignIdentifiers, []ᵃ, ◌∷ᵃ◌}
use Rattle.mirror.specs.Rast.{TypeParamDecl, TypeParamDecl', Field, Field', NamelessField, NamelessField', Fields, NamedFields, NamelessFields, Struct}
use Rattle.mirror.specs.Rast.{Struct', TypeSynonym, TypeSynonym', Constant, Constant', EnumCase, EnumCase', Enum, Enum', Fn, Fn', ImplMember}
use Rattle.mirror.specs.Rast.{RawImplMember, TypeDeclMember, FnDecl, ImplMemberMacro, Impl, ImplFor, Impl', Trait, Trait', TopFnDecl, TopFn, Use, Use'}
use Rattle.mirror.specs.Rast.{Mod, Mod', ExternMod, ModDecl, ModDecl', StructDecl, TypeDecl, ConstDecl, EnumDecl, ImplDecl, TraitDecl, TopFnDecl'}
use Rattle.mirror.specs.Rast.{UseDecl, ModDecls, []ᵐ, ◌∷ᵐ◌}

abbrev pub text : string → Record
text b = leaf 0x01 b

abbrev pub kept : Kept → Record
kept b = leaf 0x03 b

abbrev pub list : Records → Record
list c = node 0x02 c

module _ {A : Type 0} (tree : A → Record) where
  unfoldable pub trees : List A → Records
  trees [] = nil
  trees (x ∷ xs) = tree x ▸ trees xs

  abbrev pub seq : List A → Record
  seq xs = list (trees xs)

  abbrev pub option : Option A → Record
  option none = list nil
  option (some x) = list (tree x ▸ nil)

unfoldable pub Path_tree : Path → Record
Path_tree Global = node 0x10 nil
Path_tree Crate = node 0x11 nil
Path_tree Self = node 0x12 nil
Path_tree (PMemberSelect base name) = node 0x13 (Path_tree base ▸ text name ▸ nil)

unfoldable mutual
  pub Type_tree : «Type» → Record
  Type_tree U8 = node 0x20 nil
  Type_tree U16 = node 0x21 nil
  Type_tree U32 = node 0x22 nil
  Type_tree U64 = node 0x23 nil
  Type_tree U128 = node 0x24 nil
  Type_tree I8 = node 0x25 nil
  Type_tree I16 = node 0x26 nil
  Type_tree I32 = node 0x27 nil
  Type_tree I64 = node 0x28 nil
  Type_tree I128 = node 0x29 nil
  Type_tree USIZE = node 0x2A nil
  Type_tree Bool = node 0x2B nil
  Type_tree (TIdentifier name) = node 0x2C (text name ▸ nil)
  Type_tree (TypeFromPath path) = node 0x2D (Path_tree path ▸ nil)
  Type_tree (TypeApp baseName arguments) = node 0x2E (Type_tree baseName ▸ list (Types_trees arguments) ▸ nil)
  Type_tree (Borrowed underlying) = node 0x2F (Type_tree underlying ▸ nil)
  Type_tree (BorrowedMut underlying) = node 0x30 (Type_tree underlying ▸ nil)
  Type_tree (ImplType underlying) = node 0x31 (Type_tree underlying ▸ nil)
  Type_tree (DynType underlying) = node 0x32 (Type_tree underlying ▸ nil)
  Type_tree (TupleType arguments) = node 0x33 (list (Types_trees arguments) ▸ nil)
  Type_tree (FnType arguments returnType) = node 0x34 (list (Types_trees arguments) ▸ Type_tree returnType ▸ nil)
  Type_tree (IntersectionType left right) = node 0x35 (Type_tree left ▸ Type_tree right ▸ nil)
  Type_tree (Array underlying size) = node 0x36 (Type_tree underlying ▸ option text size ▸ nil)
  Type_tree (TSynonym display base) = node 0x37 (Type_tree display ▸ Type_tree base ▸ nil)
  Type_tree (TMetaData display copySemantics overflow) = node 0x38 (Type_tree display ▸ kept copySemantics ▸ kept overflow ▸ nil)

  pub Types_trees : Types → Records
  Types_trees []ᵗ = nil
  Types_trees (t ∷ᵗ ts) = Type_tree t ▸ Types_trees ts

unfoldable pub Formal_tree : Formal → Record
Formal_tree (Formal' name tpe) = node 0x7E (text name ▸ Type_tree tpe ▸ nil)

unfoldable mutual
  pub Expr_tree : Expr → Record
  Expr_tree (RawExpr content) = node 0x40 (text content ▸ nil)
  Expr_tree (ExprFromType tpe) = node 0x41 (Type_tree tpe ▸ nil)
  Expr_tree (Identifier name) = node 0x42 (text name ▸ nil)
  Expr_tree (Match matchee cases) = node 0x43 (Expr_tree matchee ▸ list (MatchCases_trees cases) ▸ nil)
  Expr_tree (StmtExpr stmt rhs) = node 0x44 (Expr_tree stmt ▸ Expr_tree rhs ▸ nil)
  Expr_tree (Block underlying) = node 0x45 (Expr_tree underlying ▸ nil)
  Expr_tree (StructBuild underlying assignments) = node 0x46 (Expr_tree underlying ▸ list (AssignIdentifiers_trees assignments) ▸ nil)
  Expr_tree (Tuple arguments) = node 0x47 (list (Exprs_trees arguments) ▸ nil)
  Expr_tree (UnaryOp op1 underlying format) = node 0x48 (text op1 ▸ Expr_tree underlying ▸ kept format ▸ nil)
  Expr_tree (BinaryOp op2 left right format2) = node 0x49 (text op2 ▸ Expr_tree left ▸ Expr_tree right ▸ kept format2 ▸ nil)
  Expr_tree (TypeAscription left tpe) = node 0x4A (Expr_tree left ▸ Type_tree tpe ▸ nil)
  Expr_tree (TraitCast leftTpe tpe) = node 0x4B (Type_tree leftTpe ▸ Type_tree tpe ▸ nil)
  Expr_tree (LiteralInt value) = node 0x4C (text value ▸ nil)
  Expr_tree (LiteralBool bvalue) = node 0x4D (kept bvalue ▸ nil)
  Expr_tree (LiteralString value binary verbatim) = node 0x4E (text value ▸ kept binary ▸ kept verbatim ▸ nil)
  Expr_tree (DeclareVar declareType name opt_type optRhs) = node 0x4F (kept declareType ▸ text name ▸ option Type_tree opt_type ▸ OptExpr_tree optRhs ▸ nil)
  Expr_tree (Assign names rhs) = node 0x50 (kept names ▸ Expr_tree rhs ▸ nil)
  Expr_tree (IfExpr cond thn els) = node 0x51 (Expr_tree cond ▸ Expr_tree thn ▸ Expr_tree els ▸ nil)
  Expr_tree (Loop optCond underlying) = node 0x52 (OptExpr_tree optCond ▸ Expr_tree underlying ▸ nil)
  Expr_tree (For name range body) = node 0x53 (text name ▸ Expr_tree range ▸ Expr_tree body ▸ nil)
  Expr_tree (Labelled lbl underlying) = node 0x54 (text lbl ▸ Expr_tree underlying ▸ nil)
  Expr_tree (Break optLbl) = node 0x55 (option text optLbl ▸ nil)
  Expr_tree (Continue optLbl) = node 0x56 (option text optLbl ▸ nil)
  Expr_tree (Return optExpr) = node 0x57 (OptExpr_tree optExpr ▸ nil)
  Expr_tree (CallType obj typeArguments) = node 0x58 (Expr_tree obj ▸ list (Types_trees typeArguments) ▸ nil)
  Expr_tree (Call obj arguments) = node 0x59 (Expr_tree obj ▸ list (Exprs_trees arguments) ▸ nil)
  Expr_tree (Select obj name) = node 0x5A (Expr_tree obj ▸ text name ▸ nil)
  Expr_tree (SelectIndex obj range) = node 0x5B (Expr_tree obj ▸ Expr_tree range ▸ nil)
  Expr_tree (ExprFromPath path) = node 0x5C (Path_tree path ▸ nil)
  Expr_tree (FunctionSelect obj name) = node 0x5D (Expr_tree obj ▸ text name ▸ nil)
  Expr_tree (Lambda params retType body) = node 0x5E (seq Formal_tree params ▸ option Type_tree retType ▸ Expr_tree body ▸ nil)

  pub Exprs_trees : Exprs → Records
  Exprs_trees []ᵉ = nil
  Exprs_trees (e ∷ᵉ es) = Expr_tree e ▸ Exprs_trees es

  pub OptExpr_tree : OptExpr → Record
  OptExpr_tree None = list nil
  OptExpr_tree (Some e) = list (Expr_tree e ▸ nil)

  pub MatchCase_tree : MatchCase → Record
  MatchCase_tree (MatchCase' pattern rhs) = node 0x81 (kept pattern ▸ Expr_tree rhs ▸ nil)

  pub MatchCases_trees : MatchCases → Records
  MatchCases_trees []ᶜ = nil
  MatchCases_trees (c ∷ᶜ cs) = MatchCase_tree c ▸ MatchCases_trees cs

  pub AssignIdentifier_tree : AssignIdentifier → Record
  AssignIdentifier_tree (AssignIdentifier' identifier rhs) = node 0x82 (text identifier ▸ Expr_tree rhs ▸ nil)

  pub AssignIdentifiers_trees : AssignIdentifiers → Records
  AssignIdentifiers_trees []ᵃ = nil
  AssignIdentifiers_trees (a ∷ᵃ as') = AssignIdentifier_tree a ▸ AssignIdentifiers_trees as'

unfoldable pub TypeParamDecl_tree : TypeParamDecl → Record
TypeParamDecl_tree (TypeParamDecl' name constraints) = node 0x7F (text name ▸ list (Types_trees constraints) ▸ nil)

abbrev pub type_params_tree : List TypeParamDecl → Record
type_params_tree type_params = seq TypeParamDecl_tree type_params

unfoldable pub Field_tree : Field → Record
Field_tree (Field' visibility formal) = node 0x77 (kept visibility ▸ Formal_tree formal ▸ nil)

unfoldable pub NamelessField_tree : NamelessField → Record
NamelessField_tree (NamelessField' visibility tpe) = node 0x78 (kept visibility ▸ Type_tree tpe ▸ nil)

unfoldable pub Fields_tree : Fields → Record
Fields_tree (NamedFields fields) = node 0x75 (seq Field_tree fields ▸ nil)
Fields_tree (NamelessFields types) = node 0x76 (seq NamelessField_tree types ▸ nil)

unfoldable pub Struct_tree : Struct → Record
Struct_tree (Struct' docString attributes name type_params fields) =
    node 0x70 (text docString ▸ kept attributes ▸ text name ▸ type_params_tree type_params ▸ Fields_tree fields ▸ nil)

unfoldable pub TypeSynonym_tree : TypeSynonym → Record
TypeSynonym_tree (TypeSynonym' docString attributes name type_params tpe) =
    node 0x71 (text docString ▸ kept attributes ▸ text name ▸ type_params_tree type_params ▸ Type_tree tpe ▸ nil)

unfoldable pub Constant_tree : Constant → Record
Constant_tree (Constant' docString attributes name tpe value) =
    node 0x72 (text docString ▸ kept attributes ▸ text name ▸ Type_tree tpe ▸ Expr_tree value ▸ nil)

unfoldable pub EnumCase_tree : EnumCase → Record
EnumCase_tree (EnumCase' docString name fields) = node 0x74 (text docString ▸ text name ▸ Fields_tree fields ▸ nil)

unfoldable pub Enum_tree : Enum → Record
Enum_tree (Enum' docString attributes name type_params variants) =
    node 0x73 (text docString ▸ kept attributes ▸ text name ▸ type_params_tree type_params ▸ seq EnumCase_tree variants ▸ nil)

unfoldable pub Fn_tree : Fn → Record
Fn_tree (Fn' name type_params formals returnType body) =
    node 0x7D (text name ▸ type_params_tree type_params ▸ seq Formal_tree formals ▸ option Type_tree returnType ▸ option Expr_tree body ▸ nil)

unfoldable pub ImplMember_tree : ImplMember → Record
ImplMember_tree (RawImplMember content) = node 0x83 (text content ▸ nil)
ImplMember_tree (TypeDeclMember name rhs) = node 0x85 (text name ▸ Type_tree rhs ▸ nil)
ImplMember_tree (FnDecl docString attributes «pub» fun) = node 0x84 (text docString ▸ kept attributes ▸ kept «pub» ▸ Fn_tree fun ▸ nil)
ImplMember_tree (ImplMemberMacro expr) = node 0x86 (Expr_tree expr ▸ nil)

unfoldable pub Impl_tree : Impl → Record
Impl_tree (ImplFor type_params tpe forType body) =
    node 0x79 (type_params_tree type_params ▸ Type_tree tpe ▸ Type_tree forType ▸ seq ImplMember_tree body ▸ nil)
Impl_tree (Impl' type_params tpe body) = node 0x7A (type_params_tree type_params ▸ Type_tree tpe ▸ seq ImplMember_tree body ▸ nil)

unfoldable pub Trait_tree : Trait → Record
Trait_tree (Trait' docString attributes type_params tpe parents body) =
    node 0x7B (text docString ▸ kept attributes ▸ type_params_tree type_params ▸ Type_tree tpe ▸ list (Types_trees parents) ▸ seq ImplMember_tree body ▸ nil)

unfoldable pub TopFnDecl_tree : TopFnDecl → Record
TopFnDecl_tree (TopFn docString attributes visibility fn) = node 0x7C (text docString ▸ kept attributes ▸ kept visibility ▸ Fn_tree fn ▸ nil)

unfoldable pub Use_tree : Use → Record
Use_tree (Use' visibility path) = node 0x80 (kept visibility ▸ Path_tree path ▸ nil)

unfoldable mutual
  pub Mod_tree : Mod → Record
  Mod_tree (Mod' docString attributes name body) = node 0x60 (text docString ▸ kept attributes ▸ text name ▸ list (ModDecls_trees body) ▸ nil)
  Mod_tree (ExternMod name) = node 0x61 (text name ▸ nil)

  pub ModDecl_tree : ModDecl → Record
  ModDecl_tree (ModDecl' m) = node 0x62 (Mod_tree m ▸ nil)
  ModDecl_tree (StructDecl struct) = node 0x63 (Struct_tree struct ▸ nil)
  ModDecl_tree (TypeDecl tpe) = node 0x64 (TypeSynonym_tree tpe ▸ nil)
  ModDecl_tree (ConstDecl c) = node 0x65 (Constant_tree c ▸ nil)
  ModDecl_tree (EnumDecl enum) = node 0x66 (Enum_tree enum ▸ nil)
  ModDecl_tree (ImplDecl impl) = node 0x67 (Impl_tree impl ▸ nil)
  ModDecl_tree (TraitDecl tr) = node 0x68 (Trait_tree tr ▸ nil)
  ModDecl_tree (TopFnDecl' fn) = node 0x69 (TopFnDecl_tree fn ▸ nil)
  ModDecl_tree (UseDecl u) = node 0x6A (Use_tree u ▸ nil)

  pub ModDecls_trees : ModDecls → Records
  ModDecls_trees []ᵐ = nil
  ModDecls_trees (d ∷ᵐ ds) = ModDecl_tree d ▸ ModDecls_trees ds
