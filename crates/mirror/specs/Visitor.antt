-- RASTTopDownVisitor of RAST, function by function. Its own functions stand before those that call them; recurseSubmodules comes with VisitMod. Assumes
-- nothing: these are definitions.
use Rattle.std.specs.Prelude.{List, Bool as 𝔹, true, false}
use Rattle.mirror.specs.Rast.{Path, PMemberSelect, «Type», Types, Formal, Formal', Expr, TypeParamDecl, TypeParamDecl', Field, Field', NamelessField}
use Rattle.mirror.specs.Rast.{NamelessField', Fields, NamedFields, NamelessFields, Struct, Struct', TypeSynonym, TypeSynonym', Constant, Constant'}
use Rattle.mirror.specs.Rast.{EnumCase, EnumCase', Enum, Enum', Fn, Fn', ImplMember, RawImplMember, TypeDeclMember, FnDecl, ImplMemberMacro, Impl}
use Rattle.mirror.specs.Rast.{ImplFor, Impl', Trait, Trait', TopFnDecl, TopFn, Use}
use Rattle.mirror.specs.Rast.{Mod, Mod', ExternMod, ModDecl, ModDecl', StructDecl, TypeDecl, ConstDecl, EnumDecl, ImplDecl, TraitDecl, TopFnDecl'}
use Rattle.mirror.specs.Rast.{UseDecl, ModDecls, []ᵐ, ◌∷ᵐ◌, string}
use Rattle.mirror.specs.Fold.{FoldLeft, FoldTypes, if_some, Type_Fold, Expr_Fold}

pub record RASTTopDownVisitor (T : Type 0) : Type 0 where
  pub VisitTypeSingle : T → «Type» → T
  pub VisitExprSingle : T → Expr → T
  pub VisitModDeclSingle : T → ModDecl → Path → T
  pub recurse_submodules : 𝔹

abbrev pub MSel : Path → string → Path
MSel this name = PMemberSelect this name

-- mod.name
abbrev pub Mod_name : Mod → string
Mod_name (Mod' docString attributes name body) = name
Mod_name (ExternMod name) = name

-- TypeParamDecl's constraints, EnumCase's fields, and the types of a Field and of a NamelessField
abbrev pub constraints : TypeParamDecl → Types
constraints (TypeParamDecl' name types) = types

abbrev pub EnumCase_fields : EnumCase → Fields
EnumCase_fields (EnumCase' docString name fields) = fields

abbrev pub Formal_tpe : Formal → «Type»
Formal_tpe (Formal' name tpe) = tpe

abbrev pub Field_formal : Field → Formal
Field_formal (Field' visibility formal) = formal

abbrev pub NamelessField_tpe : NamelessField → «Type»
NamelessField_tpe (NamelessField' visibility tpe) = tpe

module _ {T : Type 0} (this : RASTTopDownVisitor T) where
  unfoldable pub VisitType : T → «Type» → T
  VisitType acc tpe = Type_Fold (λ acc t. this.VisitTypeSingle acc t) tpe acc

  unfoldable pub VisitTypeParams : T → List TypeParamDecl → T
  VisitTypeParams acc type_params = FoldLeft (λ acc t. FoldTypes (λ acc t. VisitType acc t) acc (constraints t)) acc type_params

  unfoldable pub VisitFields : T → Fields → T
  VisitFields acc (NamedFields sFields) = FoldLeft (λ acc f. VisitType acc (Formal_tpe (Field_formal f))) acc sFields
  VisitFields acc (NamelessFields sFields) = FoldLeft (λ acc f. VisitType acc (NamelessField_tpe f)) acc sFields

  unfoldable pub VisitFn : T → Fn → T
  VisitFn acc (Fn' name type_params formals returnType body) =
      let acc₁ : T = VisitTypeParams acc type_params in
      let acc₂ : T = FoldLeft (λ acc f. Type_Fold this.VisitTypeSingle (Formal_tpe f) acc) acc₁ formals in
      let acc₃ : T = if_some returnType acc₂ (λ value. Type_Fold this.VisitTypeSingle value acc₂) in
      let acc₄ : T = if_some body acc₃ (λ value. Expr_Fold this.VisitExprSingle this.VisitTypeSingle value acc₃) in
      acc₄

  unfoldable pub VisitMember : T → ImplMember → T
  VisitMember acc (RawImplMember content) = acc
  VisitMember acc (TypeDeclMember name tpe) = VisitType acc tpe
  VisitMember acc (FnDecl docString attributes «pub» fun) = VisitFn acc fun
  VisitMember acc (ImplMemberMacro expr) = Expr_Fold this.VisitExprSingle this.VisitTypeSingle expr acc

  unfoldable pub VisitBody : T → List ImplMember → T
  VisitBody acc members = FoldLeft (λ acc member. VisitMember acc member) acc members

  unfoldable pub VisitImplMapping : T → Impl → T
  VisitImplMapping acc (ImplFor type_params tpe forType body) =
      let acc₁ : T = VisitTypeParams acc type_params in
      let acc₂ : T = VisitType acc₁ tpe in
      let acc₃ : T = VisitType acc₂ forType in
      VisitBody acc₃ body
  VisitImplMapping acc (Impl' type_params tpe body) =
      let acc₁ : T = VisitType acc tpe in
      VisitBody acc₁ body

  unfoldable pub VisitUse : T → Use → T
  VisitUse acc u = acc

  unfoldable pub VisitTopFn : T → TopFnDecl → T
  VisitTopFn acc (TopFn docString attributes visibility fn) = VisitFn acc fn

  unfoldable pub VisitTraitDecl : T → Trait → T
  VisitTraitDecl acc (Trait' docString attributes type_params tpe parents body) =
      let acc₁ : T = VisitTypeParams acc type_params in
      let acc₂ : T = Type_Fold this.VisitTypeSingle tpe acc₁ in
      let acc₃ : T = FoldTypes (λ acc parent. Type_Fold this.VisitTypeSingle parent acc) acc₂ parents in
      VisitBody acc₃ body

  unfoldable pub VisitStructMapping : T → Struct → T
  VisitStructMapping acc (Struct' docString attributes name type_params fields) = VisitTypeParams acc type_params

  unfoldable pub VisitTypeSynonym : T → TypeSynonym → T
  VisitTypeSynonym acc (TypeSynonym' docString attributes name type_params tpe) =
      let acc₁ : T = VisitTypeParams acc type_params in
      VisitType acc₁ tpe

  unfoldable pub VisitConstant : T → Constant → T
  VisitConstant acc (Constant' docString attributes name tpe value) =
      let acc₁ : T = VisitType acc tpe in
      Expr_Fold this.VisitExprSingle this.VisitTypeSingle value acc₁

  unfoldable pub VisitEnum : T → Enum → T
  VisitEnum acc (Enum' docString attributes name type_params variants) =
      FoldLeft (λ acc enum_case. VisitFields acc (EnumCase_fields enum_case)) (VisitTypeParams acc type_params) variants

  abbrev pub if_recursing : 𝔹 → T → T → T
  if_recursing true visited acc = visited
  if_recursing false visited acc = acc

  unfoldable mutual
    pub VisitMod : Mod → T → Path → T
    VisitMod (Mod' docString attributes name body) acc SelfPath = VisitModDecls body acc SelfPath
    VisitMod (ExternMod name) acc SelfPath = acc

    -- mod.Fold(acc, (acc, modDecl) => VisitModMapping(acc, modDecl, SelfPath))
    pub VisitModDecls : ModDecls → T → Path → T
    VisitModDecls []ᵐ acc SelfPath = acc
    VisitModDecls (modDecl ∷ᵐ body) acc SelfPath = VisitModDecls body (VisitModMapping modDecl acc SelfPath) SelfPath

    pub VisitModMapping : ModDecl → T → Path → T
    VisitModMapping (ModDecl' m) acc SelfPath =
        let acc₁ : T = this.VisitModDeclSingle acc (ModDecl' m) SelfPath in
        if_recursing this.recurse_submodules (VisitMod m acc₁ (MSel SelfPath (Mod_name m))) acc₁
    VisitModMapping (StructDecl struct) acc SelfPath = VisitStructMapping (this.VisitModDeclSingle acc (StructDecl struct) SelfPath) struct
    VisitModMapping (TypeDecl tpe) acc SelfPath = VisitTypeSynonym (this.VisitModDeclSingle acc (TypeDecl tpe) SelfPath) tpe
    VisitModMapping (ConstDecl c) acc SelfPath = VisitConstant (this.VisitModDeclSingle acc (ConstDecl c) SelfPath) c
    VisitModMapping (EnumDecl enum) acc SelfPath = VisitEnum (this.VisitModDeclSingle acc (EnumDecl enum) SelfPath) enum
    VisitModMapping (ImplDecl impl) acc SelfPath = VisitImplMapping (this.VisitModDeclSingle acc (ImplDecl impl) SelfPath) impl
    VisitModMapping (TraitDecl tr) acc SelfPath = VisitTraitDecl (this.VisitModDeclSingle acc (TraitDecl tr) SelfPath) tr
    VisitModMapping (TopFnDecl' fn) acc SelfPath = VisitTopFn (this.VisitModDeclSingle acc (TopFnDecl' fn) SelfPath) fn
    VisitModMapping (UseDecl u) acc SelfPath = VisitUse (this.VisitModDeclSingle acc (UseDecl u) SelfPath) u
