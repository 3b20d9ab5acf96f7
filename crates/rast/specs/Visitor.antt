-- RASTTopDownVisitor of RAST, function by function. A field is given by its place in its constructor, and the constructor beside its kind.
-- The pass makes visitors with recurseSubmodules false alone, so a nested module is not entered. Assumes nothing: these are definitions.
use Rattle.std.specs.Prelude.{[], ◌∷◌}
use Rattle.records.specs.Record.{Record, children, field, FoldLeft}
use Rattle.rast.specs.Path.{Path}
use Rattle.rast.specs.Mod.{case, match, Mod-as-Fold}
use Rattle.rast.specs.Fold.{Type_Fold, Expr_Fold}

pub record RASTTopDownVisitor (T : Type 0) : Type 0 where
  pub VisitTypeSingle : T → Record → T
  pub VisitExprSingle : T → Record → T
  pub VisitModDeclSingle : T → Record → Path → T

module _ {T : Type 0} (this : RASTTopDownVisitor T) where
  unfoldable pub VisitType : T → Record → T
  VisitType acc tpe = Type_Fold tpe acc this.VisitTypeSingle

  unfoldable pub VisitTypeParams : T → Record → T
  VisitTypeParams acc type_params =
      FoldLeft (λ acc t. FoldLeft (λ acc t. VisitType acc t) acc (children (field 1 t))) acc (children type_params)

  unfoldable pub VisitFields : T → Record → T
  VisitFields acc fields =
      match fields (
      case 0x75 (λ r. FoldLeft (λ acc f. VisitType acc (field 1 (field 1 f))) acc (children (field 0 r)))  -- NamedFields(sFields)
      ∷ case 0x76 (λ r. FoldLeft (λ acc f. VisitType acc (field 1 f)) acc (children (field 0 r)))  -- NamelessFields(sFields)
      ∷ []
      ) (λ r. acc)

  unfoldable pub VisitFn : T → Record → T
  VisitFn acc fn =
      let acc₁ : T = VisitTypeParams acc (field 1 fn) in
      let acc₂ : T = FoldLeft (λ acc f. Type_Fold (field 1 f) acc this.VisitTypeSingle) acc₁ (children (field 2 fn)) in
      let acc₃ : T = FoldLeft (λ acc t. Type_Fold t acc this.VisitTypeSingle) acc₂ (children (field 3 fn)) in
      FoldLeft (λ acc e. Expr_Fold e acc this.VisitExprSingle this.VisitTypeSingle) acc₃ (children (field 4 fn))

  unfoldable pub VisitMember : T → Record → T
  VisitMember acc member =
      match member (
      case 0x83 (λ r. acc)  -- RawImplMember(content)
      ∷ case 0x84 (λ r. VisitFn acc (field 3 r))  -- FnDecl(docString, attributes, pub, fun)
      ∷ case 0x85 (λ r. VisitType acc (field 1 r))  -- TypeDeclMember(name, tpe)
      ∷ case 0x86 (λ r. Expr_Fold (field 0 r) acc this.VisitExprSingle this.VisitTypeSingle)  -- ImplMemberMacro(expr)
      ∷ []
      ) (λ r. acc)

  unfoldable pub VisitBody : T → Record → T
  VisitBody acc members = FoldLeft (λ acc member. VisitMember acc member) acc (children members)

  unfoldable pub VisitImplMapping : T → Record → T
  VisitImplMapping acc impl =
      match impl (
      -- ImplFor(typeParams, tpe, forType, body)
      case 0x79 (λ r. VisitBody (VisitType (VisitType (VisitTypeParams acc (field 0 r)) (field 1 r)) (field 2 r)) (field 3 r))
      ∷ case 0x7A (λ r. VisitBody (VisitType acc (field 1 r)) (field 2 r))  -- Impl(typeParams, tpe, body)
      ∷ []
      ) (λ r. acc)

  unfoldable pub VisitUse : T → Record → T
  VisitUse acc u = acc

  unfoldable pub VisitTopFn : T → Record → T
  VisitTopFn acc t = VisitFn acc (field 3 t)

  unfoldable pub VisitTraitDecl : T → Record → T
  VisitTraitDecl acc tr =
      let acc₁ : T = VisitTypeParams acc (field 2 tr) in
      let acc₂ : T = Type_Fold (field 3 tr) acc₁ this.VisitTypeSingle in
      let acc₃ : T = FoldLeft (λ acc parent. Type_Fold parent acc this.VisitTypeSingle) acc₂ (children (field 4 tr)) in
      VisitBody acc₃ (field 5 tr)

  unfoldable pub VisitStructMapping : T → Record → T
  VisitStructMapping acc struct = VisitTypeParams acc (field 3 struct)

  unfoldable pub VisitModMapping : T → Record → Path → T
  VisitModMapping acc₀ modDecl SelfPath =
      let acc : T = this.VisitModDeclSingle acc₀ modDecl SelfPath in
      let it : Record = field 0 modDecl in
      match modDecl (
      case 0x62 (λ r. acc)  -- ModDecl(mod)
      ∷ case 0x63 (λ r. VisitStructMapping acc it)  -- StructDecl(struct)
      ∷ case 0x64 (λ r. VisitType (VisitTypeParams acc (field 3 it)) (field 4 it))  -- TypeDecl(TypeSynonym(attributes, _, name, typeParams, tpe))
      -- ConstDecl(Constant(attributes, _, name, tpe, value))
      ∷ case 0x65 (λ r. Expr_Fold (field 4 it) (VisitType acc (field 3 it)) this.VisitExprSingle this.VisitTypeSingle)
      -- EnumDecl(Enum(attributes, _, name, typeParams, variants))
      ∷ case 0x66 (λ r. FoldLeft (λ acc enum_case. VisitFields acc (field 2 enum_case)) (VisitTypeParams acc (field 3 it)) (children (field 4 it)))
      ∷ case 0x67 (λ r. VisitImplMapping acc it)  -- ImplDecl(impl)
      ∷ case 0x68 (λ r. VisitTraitDecl acc it)  -- TraitDecl(tr)
      ∷ case 0x69 (λ r. VisitTopFn acc it)  -- TopFnDecl(fn)
      ∷ case 0x6A (λ r. VisitUse acc it)  -- UseDecl(use)
      ∷ []
      ) (λ r. acc)

  unfoldable pub VisitMod : T → Record → Path → T
  VisitMod acc m SelfPath = Mod-as-Fold m acc (λ acc modDecl. VisitModMapping acc modDecl SelfPath)
