-- The declarations that a module holds: their record trees are read back, and every record tree that stands at their places is one. Assumes nothing.
use mathlib.Core.Path.{◌≡◌, refl}
use mathlib.Core.List.{[], ◌∷◌}
use Rattle.records.specs.Kinds.{row_of}
use Rattle.mirror.specs.Rast.{TypeParamDecl, TypeParamDecl', Field, Field', NamelessField, NamelessField', Fields, NamedFields, NamelessFields, Struct}
use Rattle.mirror.specs.Rast.{Struct', TypeSynonym, TypeSynonym', Constant, Constant', EnumCase, EnumCase', Enum, Enum', Fn, Fn', ImplMember}
use Rattle.mirror.specs.Rast.{RawImplMember, FnDecl, TypeDeclMember, ImplMemberMacro, Impl, ImplFor, Impl', Trait, Trait', TopFnDecl, TopFn, Use, Use'}
use Rattle.mirror.specs.Tree.{TypeParamDecl_tree, Field_tree, NamelessField_tree, Fields_tree, Struct_tree, TypeSynonym_tree, Constant_tree}
use Rattle.mirror.specs.Tree.{EnumCase_tree, Enum_tree, Fn_tree, ImplMember_tree, Impl_tree, Trait_tree, TopFnDecl_tree, Use_tree}
use Rattle.mirror.proofs.Decode.{TypeParamDecl_at, TypeParamDecl_of, Field_at, Field_of, NamelessField_at, NamelessField_of, Fields_at, Fields_of}
use Rattle.mirror.proofs.Decode.{Struct_at, Struct_of, TypeSynonym_at, TypeSynonym_of, Constant_at, Constant_of, EnumCase_at, EnumCase_of, Enum_at}
use Rattle.mirror.proofs.Decode.{Enum_of, Fn_at, Fn_of, ImplMember_at, ImplMember_of, Impl_at, Impl_of, Trait_at, Trait_of, TopFnDecl_at, TopFnDecl_of}
use Rattle.mirror.proofs.Decode.{Use_at, Use_of}
use Rattle.records.proofs.Run.{◌⨾◌}
use Rattle.mirror.proofs.Rows.{Law, Codec, row, sure, plain, Plain, plain_codec, text_codec, kept_codec, option_codec, option_back, seq_codec, seq_back}
use Rattle.mirror.proofs.Paths.{Path_back, Path_codec}
use Rattle.mirror.proofs.Types.{Type_back, Types_back, Type_codec, Types_codec}
use Rattle.mirror.proofs.Exprs.{Formal_back, Formal_codec, Expr_back, Expr_codec}

abbrev a : {A : Type 0} → Codec A → Law plain
a C = sure plain C

pub TypeParamDecl_back : (x : TypeParamDecl) → TypeParamDecl_of (TypeParamDecl_tree x) ≡ x
unfolding TypeParamDecl_at TypeParamDecl_tree
TypeParamDecl_back (TypeParamDecl' name constraints) = λ i. TypeParamDecl' name (Types_back constraints i)

pub TypeParamDecl_cases : Plain TypeParamDecl_tree TypeParamDecl_at 0x7F 0
unfolding TypeParamDecl_at TypeParamDecl_tree row_of
TypeParamDecl_cases = row plain (a text_codec ∷ a Types_codec ∷ [])

abbrev pub TypeParamDecl_codec : Codec TypeParamDecl
TypeParamDecl_codec = plain_codec TypeParamDecl_tree TypeParamDecl_at 0x7F 0 tt TypeParamDecl_back TypeParamDecl_cases

pub Field_back : (x : Field) → Field_of (Field_tree x) ≡ x
unfolding Field_at Field_tree
Field_back (Field' visibility formal) = λ i. Field' visibility (Formal_back formal i)

pub Field_cases : Plain Field_tree Field_at 0x77 0
unfolding Field_at Field_tree row_of
Field_cases = row plain (a kept_codec ∷ a Formal_codec ∷ [])

abbrev pub Field_codec : Codec Field
Field_codec = plain_codec Field_tree Field_at 0x77 0 tt Field_back Field_cases

pub NamelessField_back : (x : NamelessField) → NamelessField_of (NamelessField_tree x) ≡ x
unfolding NamelessField_at NamelessField_tree
NamelessField_back (NamelessField' visibility tpe) = λ i. NamelessField' visibility (Type_back tpe i)

pub NamelessField_cases : Plain NamelessField_tree NamelessField_at 0x78 0
unfolding NamelessField_at NamelessField_tree row_of
NamelessField_cases = row plain (a kept_codec ∷ a Type_codec ∷ [])

abbrev pub NamelessField_codec : Codec NamelessField
NamelessField_codec = plain_codec NamelessField_tree NamelessField_at 0x78 0 tt NamelessField_back NamelessField_cases

pub Fields_back : (x : Fields) → Fields_of (Fields_tree x) ≡ x
unfolding Fields_at Fields_tree
Fields_back (NamedFields fields) = λ i. NamedFields (seq_back Field_codec fields i)
Fields_back (NamelessFields types) = λ i. NamelessFields (seq_back NamelessField_codec types i)

pub Fields_cases : Plain Fields_tree Fields_at 0x75 1
unfolding Fields_at Fields_tree row_of
Fields_cases = row plain (a (seq_codec Field_codec) ∷ []) ⨾ row plain (a (seq_codec NamelessField_codec) ∷ [])

abbrev pub Fields_codec : Codec Fields
Fields_codec = plain_codec Fields_tree Fields_at 0x75 1 tt Fields_back Fields_cases

pub Struct_back : (x : Struct) → Struct_of (Struct_tree x) ≡ x
unfolding Struct_at Struct_tree
Struct_back (Struct' docString attributes name type_params fields) =
    λ i. Struct' docString attributes name (seq_back TypeParamDecl_codec type_params i) (Fields_back fields i)

pub Struct_cases : Plain Struct_tree Struct_at 0x70 0
unfolding Struct_at Struct_tree row_of
Struct_cases = row plain (a text_codec ∷ a kept_codec ∷ a text_codec ∷ a (seq_codec TypeParamDecl_codec) ∷ a Fields_codec ∷ [])

abbrev pub Struct_codec : Codec Struct
Struct_codec = plain_codec Struct_tree Struct_at 0x70 0 tt Struct_back Struct_cases

pub TypeSynonym_back : (x : TypeSynonym) → TypeSynonym_of (TypeSynonym_tree x) ≡ x
unfolding TypeSynonym_at TypeSynonym_tree
TypeSynonym_back (TypeSynonym' docString attributes name type_params tpe) =
    λ i. TypeSynonym' docString attributes name (seq_back TypeParamDecl_codec type_params i) (Type_back tpe i)

pub TypeSynonym_cases : Plain TypeSynonym_tree TypeSynonym_at 0x71 0
unfolding TypeSynonym_at TypeSynonym_tree row_of
TypeSynonym_cases = row plain (a text_codec ∷ a kept_codec ∷ a text_codec ∷ a (seq_codec TypeParamDecl_codec) ∷ a Type_codec ∷ [])

abbrev pub TypeSynonym_codec : Codec TypeSynonym
TypeSynonym_codec = plain_codec TypeSynonym_tree TypeSynonym_at 0x71 0 tt TypeSynonym_back TypeSynonym_cases

pub Constant_back : (x : Constant) → Constant_of (Constant_tree x) ≡ x
unfolding Constant_at Constant_tree
Constant_back (Constant' docString attributes name tpe value) = λ i. Constant' docString attributes name (Type_back tpe i) (Expr_back value i)

pub Constant_cases : Plain Constant_tree Constant_at 0x72 0
unfolding Constant_at Constant_tree row_of
Constant_cases = row plain (a text_codec ∷ a kept_codec ∷ a text_codec ∷ a Type_codec ∷ a Expr_codec ∷ [])

abbrev pub Constant_codec : Codec Constant
Constant_codec = plain_codec Constant_tree Constant_at 0x72 0 tt Constant_back Constant_cases

pub EnumCase_back : (x : EnumCase) → EnumCase_of (EnumCase_tree x) ≡ x
unfolding EnumCase_at EnumCase_tree
EnumCase_back (EnumCase' docString name fields) = λ i. EnumCase' docString name (Fields_back fields i)

pub EnumCase_cases : Plain EnumCase_tree EnumCase_at 0x74 0
unfolding EnumCase_at EnumCase_tree row_of
EnumCase_cases = row plain (a text_codec ∷ a text_codec ∷ a Fields_codec ∷ [])

abbrev pub EnumCase_codec : Codec EnumCase
EnumCase_codec = plain_codec EnumCase_tree EnumCase_at 0x74 0 tt EnumCase_back EnumCase_cases

pub Enum_back : (x : Enum) → Enum_of (Enum_tree x) ≡ x
unfolding Enum_at Enum_tree
Enum_back (Enum' docString attributes name type_params variants) =
    λ i. Enum' docString attributes name (seq_back TypeParamDecl_codec type_params i) (seq_back EnumCase_codec variants i)

pub Enum_cases : Plain Enum_tree Enum_at 0x73 0
unfolding Enum_at Enum_tree row_of
Enum_cases = row plain (a text_codec ∷ a kept_codec ∷ a text_codec ∷ a (seq_codec TypeParamDecl_codec) ∷ a (seq_codec EnumCase_codec) ∷ [])

abbrev pub Enum_codec : Codec Enum
Enum_codec = plain_codec Enum_tree Enum_at 0x73 0 tt Enum_back Enum_cases

pub Fn_back : (x : Fn) → Fn_of (Fn_tree x) ≡ x
unfolding Fn_at Fn_tree
Fn_back (Fn' name type_params formals returnType body) =
    λ i. Fn' name (seq_back TypeParamDecl_codec type_params i) (seq_back Formal_codec formals i) (option_back Type_codec returnType i)
    (option_back Expr_codec body i)

pub Fn_cases : Plain Fn_tree Fn_at 0x7D 0
unfolding Fn_at Fn_tree row_of
Fn_cases =
    row plain (a text_codec ∷ a (seq_codec TypeParamDecl_codec) ∷ a (seq_codec Formal_codec) ∷ a (option_codec Type_codec) ∷ a (option_codec Expr_codec) ∷ [])

abbrev pub Fn_codec : Codec Fn
Fn_codec = plain_codec Fn_tree Fn_at 0x7D 0 tt Fn_back Fn_cases

pub ImplMember_back : (x : ImplMember) → ImplMember_of (ImplMember_tree x) ≡ x
unfolding ImplMember_at ImplMember_tree
ImplMember_back (RawImplMember content) = refl
ImplMember_back (FnDecl docString attributes «pub» fun) = λ i. FnDecl docString attributes «pub» (Fn_back fun i)
ImplMember_back (TypeDeclMember name rhs) = λ i. TypeDeclMember name (Type_back rhs i)
ImplMember_back (ImplMemberMacro expr) = λ i. ImplMemberMacro (Expr_back expr i)

pub ImplMember_cases : Plain ImplMember_tree ImplMember_at 0x83 3
unfolding ImplMember_at ImplMember_tree row_of
ImplMember_cases =
    row plain (a text_codec ∷ []) ⨾ row plain (a text_codec ∷ a kept_codec ∷ a kept_codec ∷ a Fn_codec ∷ []) ⨾ row plain (a text_codec ∷ a Type_codec ∷ []) ⨾
    row plain (a Expr_codec ∷ [])

abbrev pub ImplMember_codec : Codec ImplMember
ImplMember_codec = plain_codec ImplMember_tree ImplMember_at 0x83 3 tt ImplMember_back ImplMember_cases

pub Impl_back : (x : Impl) → Impl_of (Impl_tree x) ≡ x
unfolding Impl_at Impl_tree
Impl_back (ImplFor type_params tpe forType body) =
    λ i. ImplFor (seq_back TypeParamDecl_codec type_params i) (Type_back tpe i) (Type_back forType i) (seq_back ImplMember_codec body i)
Impl_back (Impl' type_params tpe body) = λ i. Impl' (seq_back TypeParamDecl_codec type_params i) (Type_back tpe i) (seq_back ImplMember_codec body i)

pub Impl_cases : Plain Impl_tree Impl_at 0x79 1
unfolding Impl_at Impl_tree row_of
Impl_cases =
    row plain (a (seq_codec TypeParamDecl_codec) ∷ a Type_codec ∷ a Type_codec ∷ a (seq_codec ImplMember_codec) ∷ []) ⨾ row plain
    (a (seq_codec TypeParamDecl_codec) ∷ a Type_codec ∷ a (seq_codec ImplMember_codec) ∷ [])

abbrev pub Impl_codec : Codec Impl
Impl_codec = plain_codec Impl_tree Impl_at 0x79 1 tt Impl_back Impl_cases

pub Trait_back : (x : Trait) → Trait_of (Trait_tree x) ≡ x
unfolding Trait_at Trait_tree
Trait_back (Trait' docString attributes type_params tpe parents body) =
    λ i. Trait' docString attributes (seq_back TypeParamDecl_codec type_params i) (Type_back tpe i) (Types_back parents i) (seq_back ImplMember_codec body i)

pub Trait_cases : Plain Trait_tree Trait_at 0x7B 0
unfolding Trait_at Trait_tree row_of
Trait_cases = row plain (a text_codec ∷ a kept_codec ∷ a (seq_codec TypeParamDecl_codec) ∷ a Type_codec ∷ a Types_codec ∷ a (seq_codec ImplMember_codec) ∷ [])

abbrev pub Trait_codec : Codec Trait
Trait_codec = plain_codec Trait_tree Trait_at 0x7B 0 tt Trait_back Trait_cases

pub TopFnDecl_back : (x : TopFnDecl) → TopFnDecl_of (TopFnDecl_tree x) ≡ x
unfolding TopFnDecl_at TopFnDecl_tree
TopFnDecl_back (TopFn docString attributes visibility fn) = λ i. TopFn docString attributes visibility (Fn_back fn i)

pub TopFnDecl_cases : Plain TopFnDecl_tree TopFnDecl_at 0x7C 0
unfolding TopFnDecl_at TopFnDecl_tree row_of
TopFnDecl_cases = row plain (a text_codec ∷ a kept_codec ∷ a kept_codec ∷ a Fn_codec ∷ [])

abbrev pub TopFnDecl_codec : Codec TopFnDecl
TopFnDecl_codec = plain_codec TopFnDecl_tree TopFnDecl_at 0x7C 0 tt TopFnDecl_back TopFnDecl_cases

pub Use_back : (x : Use) → Use_of (Use_tree x) ≡ x
unfolding Use_at Use_tree
Use_back (Use' visibility path) = λ i. Use' visibility (Path_back path i)

pub Use_cases : Plain Use_tree Use_at 0x80 0
unfolding Use_at Use_tree row_of
Use_cases = row plain (a kept_codec ∷ a Path_codec ∷ [])

abbrev pub Use_codec : Codec Use
Use_codec = plain_codec Use_tree Use_at 0x80 0 tt Use_back Use_cases
