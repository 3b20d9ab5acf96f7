-- RASTBottomUpReplacer of RAST, function by function. Assumes nothing: these are definitions.
use Rattle.std.specs.Prelude.{List, map}
use Rattle.std.proofs.Math.Option
use Rattle.mirror.specs.Rast.{Path, «Type», Formal', Expr, TypeParamDecl, TypeParamDecl', Field, Field', NamelessField, NamelessField', Fields}
use Rattle.mirror.specs.Rast.{NamedFields, NamelessFields, Struct, Struct', TypeSynonym, TypeSynonym', Constant, Constant', EnumCase, EnumCase', Enum}
use Rattle.mirror.specs.Rast.{Enum', Fn, Fn', ImplMember, RawImplMember, TypeDeclMember, FnDecl, ImplMemberMacro, Impl, ImplFor, Impl', Trait, Trait'}
use Rattle.mirror.specs.Rast.{TopFnDecl, TopFn, Use, Use'}
use Rattle.mirror.specs.Rast.{Mod, Mod', ExternMod, ModDecl, ModDecl', StructDecl, TypeDecl, ConstDecl, EnumDecl, ImplDecl, TraitDecl, TopFnDecl'}
use Rattle.mirror.specs.Rast.{UseDecl, ModDecls, []ᵐ, ◌∷ᵐ◌}
use Rattle.mirror.specs.Fold.{Mod-as-Fold}
use Rattle.mirror.specs.Replace.{map_types, Type_Replace, Formal_Replace, Expr_Replace}
use Rattle.mirror.specs.Visitor.{MSel, Mod_name}

pub record RASTBottomUpReplacer : Type 0 where
  pub ReplaceModSingle : Mod → Path → Mod
  pub ReplaceTypeSingle : «Type» → «Type»
  pub ReplaceExprSingle : Expr → Expr

-- a seq after a seq
infixr 65 ◌++ᵐ◌
unfoldable pub ◌++ᵐ◌ : ModDecls → ModDecls → ModDecls
◌++ᵐ◌ []ᵐ ds = ds
◌++ᵐ◌ (c ∷ᵐ cs) ds = c ∷ᵐ (cs ++ᵐ ds)

module _ (this : RASTBottomUpReplacer) where
  unfoldable pub ReplaceType : «Type» → «Type»
  ReplaceType t = Type_Replace this.ReplaceTypeSingle t

  unfoldable pub ReplaceExpr : Expr → Expr
  ReplaceExpr e = Expr_Replace this.ReplaceExprSingle this.ReplaceTypeSingle e

  -- f.(formal := f.formal.(tpe := ReplaceType(f.formal.tpe))) and f.(tpe := ReplaceType(f.tpe))
  abbrev pub in_field : Field → Field
  in_field (Field' visibility (Formal' name tpe)) = Field' visibility (Formal' name (ReplaceType tpe))

  abbrev pub in_nameless_field : NamelessField → NamelessField
  in_nameless_field (NamelessField' visibility tpe) = NamelessField' visibility (ReplaceType tpe)

  unfoldable pub ReplaceFields : Fields → Fields
  ReplaceFields (NamedFields sFields) = NamedFields (map in_field sFields)
  ReplaceFields (NamelessFields sFields) = NamelessFields (map in_nameless_field sFields)

  -- t.(constraints := Seq.Map(ReplaceType, t.constraints))
  abbrev pub in_type_param : TypeParamDecl → TypeParamDecl
  in_type_param (TypeParamDecl' name constraints) = TypeParamDecl' name (map_types (λ constraint. ReplaceType constraint) constraints)

  unfoldable pub ReplaceTypeParams : List TypeParamDecl → List TypeParamDecl
  ReplaceTypeParams type_params = map in_type_param type_params

  unfoldable pub ReplaceFn : Fn → Fn
  ReplaceFn (Fn' name type_params formals returnType body) =
      Fn' name
      (ReplaceTypeParams type_params)
      (map (λ f. Formal_Replace ReplaceType f) formals)
      (Option.map (λ value. Type_Replace ReplaceType value) returnType)
      (Option.map (λ value. Expr_Replace ReplaceExpr ReplaceType value) body)

  unfoldable pub ReplaceImplMember : ImplMember → ImplMember
  ReplaceImplMember (RawImplMember content) = RawImplMember content
  ReplaceImplMember (TypeDeclMember name tpe) = TypeDeclMember name (ReplaceType tpe)
  ReplaceImplMember (FnDecl docString attributes «pub» fun) = FnDecl docString attributes «pub» (ReplaceFn fun)
  ReplaceImplMember (ImplMemberMacro expr) = ImplMemberMacro (ReplaceExpr expr)

  unfoldable pub ReplaceBody : List ImplMember → List ImplMember
  ReplaceBody decls = map (λ t. ReplaceImplMember t) decls

  unfoldable pub ReplaceUse : Use → Use
  ReplaceUse (Use' visibility path) = Use' visibility path

  unfoldable pub ReplaceTopFn : TopFnDecl → TopFnDecl
  ReplaceTopFn (TopFn docString attributes visibility fn) = TopFn docString attributes visibility (ReplaceFn fn)

  unfoldable pub ReplaceTrait : Trait → Trait
  ReplaceTrait (Trait' docString attributes type_params tpe parents body) =
      Trait' docString attributes (ReplaceTypeParams type_params) (ReplaceType tpe) (map_types (λ t. ReplaceType t) parents) (ReplaceBody body)

  unfoldable pub ReplaceImplDecl : Impl → Impl
  ReplaceImplDecl (ImplFor type_params tpe forType body) = ImplFor (ReplaceTypeParams type_params) (ReplaceType tpe) (ReplaceType forType) (ReplaceBody body)
  ReplaceImplDecl (Impl' type_params tpe body) = Impl' (ReplaceTypeParams type_params) (ReplaceType tpe) (ReplaceBody body)

  unfoldable pub ReplaceEnumCase : EnumCase → EnumCase
  ReplaceEnumCase (EnumCase' docString name fields) = EnumCase' docString name (ReplaceFields fields)

  unfoldable pub ReplaceEnum : Enum → Enum
  ReplaceEnum (Enum' docString attributes name type_params variants) =
      Enum' docString attributes name (ReplaceTypeParams type_params) (map (λ t. ReplaceEnumCase t) variants)

  unfoldable pub ReplaceConst : Constant → Constant
  ReplaceConst (Constant' docString attributes name tpe value) = Constant' docString attributes name (ReplaceType tpe) (ReplaceExpr value)

  unfoldable pub ReplaceTypeDecl : TypeSynonym → TypeSynonym
  ReplaceTypeDecl (TypeSynonym' docString attributes name type_params tpe) =
      TypeSynonym' docString attributes name (ReplaceTypeParams type_params) (ReplaceType tpe)

  unfoldable pub ReplaceStruct : Struct → Struct
  ReplaceStruct (Struct' docString attributes name type_params fields) =
      Struct' docString attributes name (ReplaceTypeParams type_params) (ReplaceFields fields)

  unfoldable pub ReplaceModDecl : ModDecl → Path → ModDecl
  ReplaceModDecl (ModDecl' m) SelfPath = ModDecl' (this.ReplaceModSingle m (MSel SelfPath (Mod_name m)))
  ReplaceModDecl (StructDecl struct) SelfPath = StructDecl (ReplaceStruct struct)
  ReplaceModDecl (TypeDecl tpe) SelfPath = TypeDecl (ReplaceTypeDecl tpe)
  ReplaceModDecl (ConstDecl c) SelfPath = ConstDecl (ReplaceConst c)
  ReplaceModDecl (EnumDecl enum) SelfPath = EnumDecl (ReplaceEnum enum)
  ReplaceModDecl (ImplDecl impl) SelfPath = ImplDecl (ReplaceImplDecl impl)
  ReplaceModDecl (TraitDecl tr) SelfPath = TraitDecl (ReplaceTrait tr)
  ReplaceModDecl (TopFnDecl' fn) SelfPath = TopFnDecl' (ReplaceTopFn fn)
  ReplaceModDecl (UseDecl u) SelfPath = UseDecl (ReplaceUse u)

  unfoldable pub ReplaceMod : Mod → Path → Mod
  ReplaceMod (ExternMod name) SelfPath = ExternMod name
  ReplaceMod (Mod' docString attributes name body) SelfPath =
      let new_mod_declarations : ModDecls = Mod-as-Fold (Mod' docString attributes name body) []ᵐ
      (λ current modDecl. current ++ᵐ (ReplaceModDecl modDecl SelfPath ∷ᵐ []ᵐ)) in
      Mod' docString attributes name new_mod_declarations
