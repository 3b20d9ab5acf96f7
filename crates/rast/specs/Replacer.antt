-- RASTBottomUpReplacer of RAST, function by function. A field is given by its place in its constructor, and the constructor beside its kind. Assumes nothing:
-- these are definitions.
use Rattle.std.specs.Prelude.{[], ◌∷◌, cond}
use Rattle.records.specs.Record.{Record, Records, nil, ◌▸◌, ◌▸▸◌, update, put, Map}
use Rattle.rast.specs.Path.{Path, MSel}
use Rattle.rast.specs.Operation.{Operation}
use Rattle.rast.specs.Mod.{case, match, ExternMod?, name_of, Mod-as-Fold}
use Rattle.rast.specs.Replace.{Type_Replace, Formal_Replace, Expr_Replace}

pub record RASTBottomUpReplacer : Type 0 where
  pub ReplaceModSingle : Record → Path → Record
  pub ReplaceTypeSingle : Record → Record
  pub ReplaceExprSingle : Record → Record

module _ (op : Operation) (this : RASTBottomUpReplacer) where
  unfoldable pub ReplaceType : Record → Record
  ReplaceType t = Type_Replace t this.ReplaceTypeSingle

  unfoldable pub ReplaceExpr : Record → Record
  ReplaceExpr e = Expr_Replace e this.ReplaceExprSingle this.ReplaceTypeSingle

  unfoldable pub ReplaceFields : Record → Record
  ReplaceFields fields =
      match fields (
      case 0x75 (update 0 (Map (update 1 (update 1 ReplaceType))))  -- NamedFields(sFields)
      ∷ case 0x76 (update 0 (Map (update 1 ReplaceType)))  -- NamelessFields(sFields)
      ∷ []
      ) (λ r. r)

  unfoldable pub ReplaceTypeParams : Record → Record
  ReplaceTypeParams type_params = Map (update 1 (Map ReplaceType)) type_params

  -- the text hands on ReplaceType and ReplaceExpr; straight shortening hands on the single functions, as ReplaceType and ReplaceExpr do
  unfoldable pub ReplaceFn : Record → Record
  ReplaceFn t =
      let ft : Record → Record = cond op.walks_again ReplaceType this.ReplaceTypeSingle in
      let f : Record → Record = cond op.walks_again ReplaceExpr this.ReplaceExprSingle in
      update 1 ReplaceTypeParams
      (update 2 (Map (λ formal. Formal_Replace formal ft))
      (update 3 (Map (λ returnType. Type_Replace returnType ft))
      (update 4 (Map (λ body. Expr_Replace body f ft)) t)))

  unfoldable pub ReplaceImplMember : Record → Record
  ReplaceImplMember t =
      match t (
      case 0x83 (λ r. r)  -- RawImplMember(content)
      ∷ case 0x84 (update 3 ReplaceFn)  -- FnDecl(docString, attributes, pub, fun)
      ∷ case 0x85 (update 1 ReplaceType)  -- TypeDeclMember(name, tpe)
      ∷ case 0x86 (update 0 ReplaceExpr)  -- ImplMemberMacro(expr)
      ∷ []
      ) (λ r. r)

  unfoldable pub ReplaceBody : Record → Record
  ReplaceBody decls = Map ReplaceImplMember decls

  unfoldable pub ReplaceUse : Record → Record
  ReplaceUse u = u

  unfoldable pub ReplaceTopFn : Record → Record
  ReplaceTopFn t = update 3 ReplaceFn t

  unfoldable pub ReplaceTrait : Record → Record
  ReplaceTrait tr = update 2 ReplaceTypeParams (update 3 ReplaceType (update 4 (Map ReplaceType) (update 5 ReplaceBody tr)))

  unfoldable pub ReplaceImplDecl : Record → Record
  ReplaceImplDecl impl =
      match impl (
      -- ImplFor(typeParams, tpe, forType, body)
      case 0x79 (λ r. update 0 ReplaceTypeParams (update 1 ReplaceType (update 2 ReplaceType (update 3 ReplaceBody r))))
      ∷ case 0x7A (λ r. update 0 ReplaceTypeParams (update 1 ReplaceType (update 2 ReplaceBody r)))  -- Impl(typeParams, tpe, body)
      ∷ []
      ) (λ r. r)

  unfoldable pub ReplaceEnumCase : Record → Record
  ReplaceEnumCase enum_case = update 2 ReplaceFields enum_case

  unfoldable pub ReplaceEnum : Record → Record
  ReplaceEnum enum = update 3 ReplaceTypeParams (update 4 (Map ReplaceEnumCase) enum)

  unfoldable pub ReplaceConst : Record → Record
  ReplaceConst t = update 3 ReplaceType (update 4 ReplaceExpr t)

  unfoldable pub ReplaceTypeDecl : Record → Record
  ReplaceTypeDecl t = update 3 ReplaceTypeParams (update 4 ReplaceType t)

  unfoldable pub ReplaceStruct : Record → Record
  ReplaceStruct struct = update 3 ReplaceTypeParams (update 4 ReplaceFields struct)

  unfoldable pub ReplaceModDecl : Record → Path → Record
  ReplaceModDecl modDecl SelfPath =
      match modDecl (
      case 0x62 (update 0 (λ m. this.ReplaceModSingle m (MSel SelfPath (name_of m))))  -- ModDecl(mod)
      ∷ case 0x63 (update 0 ReplaceStruct)  -- StructDecl(struct)
      ∷ case 0x64 (update 0 ReplaceTypeDecl)  -- TypeDecl(tpe)
      ∷ case 0x65 (update 0 ReplaceConst)  -- ConstDecl(c)
      ∷ case 0x66 (update 0 ReplaceEnum)  -- EnumDecl(enum)
      ∷ case 0x67 (update 0 ReplaceImplDecl)  -- ImplDecl(impl)
      ∷ case 0x68 (update 0 ReplaceTrait)  -- TraitDecl(tr)
      ∷ case 0x69 (update 0 ReplaceTopFn)  -- TopFnDecl(fn)
      ∷ case 0x6A (update 0 ReplaceUse)  -- UseDecl(use)
      ∷ []
      ) (λ r. r)

  unfoldable pub ReplaceMod : Record → Path → Record
  ReplaceMod m SelfPath =
      let new_mod_declarations : Records = Mod-as-Fold m nil (λ current modDecl. current ▸▸ (ReplaceModDecl modDecl SelfPath ▸ nil)) in
      cond (ExternMod? m) m (update 3 (put new_mod_declarations) m)
