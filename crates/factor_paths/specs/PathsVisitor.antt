-- PathsVisitor of FactorPathsOptimization (01, PathsVisitor on RASTTopDownVisitor). Assumes nothing: these are definitions.
use Rattle.std.specs.Prelude.{[], ◌∷◌, Bool, ◌&&◌, cond, ◌-◌, length, take, get_or, eqb, ltb}
use Rattle.records.specs.Record.{Record, text, field, is}
use Rattle.rast.specs.Path.{Name, Path, Self, selected, whether}
use Rattle.rast.specs.Operation.{Operation}
use Rattle.rast.specs.Mod.{case, match, name_of}
use Rattle.rast.specs.Visitor.{RASTTopDownVisitor}
use Rattle.factor_paths.specs.Mapping.{Mapping, Add, equal}

-- |id| > 0 && id[|id|-1] == '!', and id[..|id|-1]
abbrev pub marked : Name → Bool
marked id = ltb 0 (length id) && eqb (get_or id (length id - 1) 0) 33

abbrev pub unmarked : Name → Name
unmarked id = take (length id - 1) id

module _ (op : Operation) where
  unfoldable pub VisitTypeSingle : Mapping → Record → Mapping
  VisitTypeSingle current t =
      whether (selected 0x2D t) current
      (λ s. cond (equal op s.base Self) current (Add op current s.name s.base))

  unfoldable pub VisitExprSingle : Mapping → Record → Mapping
  VisitExprSingle current e =
      whether (selected 0x5C e) current
      (λ s. cond (equal op s.base Self) current (Add op current (cond (marked s.name) (unmarked s.name) s.name) s.base))

  -- match tr.tpe, in VisitModDeclSingle
  unfoldable pub VisitTraitName : Mapping → Record → Path → Mapping
  VisitTraitName current tpe prefix =
      match tpe (
      case 0x2E (λ r. cond (is 0x2C (field 0 r)) (Add op current (text (field 0 (field 0 r))) prefix) current)  -- TypeApp(TIdentifier(name), _)
      ∷ case 0x2C (λ r. Add op current (text (field 0 r)) prefix)  -- TIdentifier(name)
      ∷ []
      ) (λ r. current)

  unfoldable pub VisitModDeclSingle : Mapping → Record → Path → Mapping
  VisitModDeclSingle current modDecl prefix =
      let it : Record = field 0 modDecl in
      let named : Record → Mapping = λ name. Add op current (text name) prefix in
      match modDecl (
      case 0x62 (λ r. Add op current (name_of it) prefix)  -- ModDecl(mod)
      ∷ case 0x63 (λ r. named (field 2 it))  -- StructDecl(struct)
      ∷ case 0x64 (λ r. named (field 2 it))  -- TypeDecl(tpe)
      ∷ case 0x65 (λ r. named (field 2 it))  -- ConstDecl(c)
      ∷ case 0x66 (λ r. named (field 2 it))  -- EnumDecl(enum)
      ∷ case 0x67 (λ r. current)  -- ImplDecl(impl)
      ∷ case 0x68 (λ r. VisitTraitName current (field 3 it) prefix)  -- TraitDecl(tr)
      ∷ case 0x69 (λ r. named (field 0 (field 3 it)))  -- TopFnDecl(fn)
      ∷ case 0x6A (λ r. current)  -- UseDecl(use)
      ∷ []
      ) (λ r. current)

  abbrev pub PathsVisitor : RASTTopDownVisitor Mapping
  PathsVisitor = record { VisitTypeSingle = VisitTypeSingle; VisitExprSingle = VisitExprSingle; VisitModDeclSingle = VisitModDeclSingle }
