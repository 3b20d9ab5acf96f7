-- Fold of RAST's Type, Formal, MatchCase, AssignIdentifier, Expr and Mod, case by case in the text's order. Assumes nothing: these are definitions.
use Rattle.std.specs.Prelude.{List, [], ◌∷◌}
use Rattle.std.proofs.Math.Option.{Option, none, some}
use Rattle.mirror.specs.Rast.{«Type», U8, U16, U32, U64, U128, I8, I16, I32, I64, I128, USIZE, Bool, TIdentifier, TypeFromPath, TypeApp, Borrowed}
use Rattle.mirror.specs.Rast.{BorrowedMut, ImplType, DynType, TupleType, FnType, IntersectionType, Array, TSynonym, TMetaData, Types, []ᵗ, ◌∷ᵗ◌, Formal}
use Rattle.mirror.specs.Rast.{Formal'}
use Rattle.mirror.specs.Rast.{Expr, RawExpr, ExprFromType, Identifier, Match, StmtExpr, Block, StructBuild, Tuple, UnaryOp, BinaryOp, TypeAscription}
use Rattle.mirror.specs.Rast.{TraitCast, LiteralInt, LiteralBool, LiteralString, DeclareVar, Assign, IfExpr, Loop, For, Labelled, Break, Continue, Return}
use Rattle.mirror.specs.Rast.{CallType, Call, Select, SelectIndex, ExprFromPath, FunctionSelect, Lambda}
use Rattle.mirror.specs.Rast.{Exprs, []ᵉ, ◌∷ᵉ◌, OptExpr, None, Some, MatchCase, MatchCase', MatchCases, []ᶜ, ◌∷ᶜ◌, AssignIdentifier, AssignIdentifier'}
use Rattle.mirror.specs.Rast.{AssignIdentifiers, []ᵃ, ◌∷ᵃ◌, Mod, Mod', ExternMod, ModDecl, ModDecls, []ᵐ, ◌∷ᵐ◌}

module _ {T : Type 0} where
  -- FoldLeft, over a seq
  unfoldable pub FoldLeft : {A : Type 0} → (T → A → T) → T → List A → T
  FoldLeft f init [] = init
  FoldLeft f init (x ∷ xs) = FoldLeft f (f init x) xs

  unfoldable pub FoldTypes : (T → «Type» → T) → T → Types → T
  FoldTypes f init []ᵗ = init
  FoldTypes f init (x ∷ᵗ xs) = FoldTypes f (f init x) xs

  unfoldable pub FoldModDecls : (T → ModDecl → T) → T → ModDecls → T
  FoldModDecls f init []ᵐ = init
  FoldModDecls f init (x ∷ᵐ xs) = FoldModDecls f (f init x) xs

  -- an Option's value, if any
  abbrev pub if_some : {A : Type 0} → Option A → T → (A → T) → T
  if_some none acc f = acc
  if_some (some value) acc f = f value

module _ {T : Type 0} (f : T → «Type» → T) where
  unfoldable mutual
    pub Type_Fold : «Type» → T → T
    Type_Fold U8 acc = f acc U8
    Type_Fold U16 acc = f acc U16
    Type_Fold U32 acc = f acc U32
    Type_Fold U64 acc = f acc U64
    Type_Fold U128 acc = f acc U128
    Type_Fold I8 acc = f acc I8
    Type_Fold I16 acc = f acc I16
    Type_Fold I32 acc = f acc I32
    Type_Fold I64 acc = f acc I64
    Type_Fold I128 acc = f acc I128
    Type_Fold USIZE acc = f acc USIZE
    Type_Fold Bool acc = f acc Bool
    Type_Fold (TIdentifier name) acc = f acc (TIdentifier name)
    Type_Fold (TypeFromPath path) acc = f acc (TypeFromPath path)
    Type_Fold (TypeApp baseName arguments) acc = Types_Fold arguments (Type_Fold baseName (f acc (TypeApp baseName arguments)))
    Type_Fold (Borrowed underlying) acc = Type_Fold underlying (f acc (Borrowed underlying))
    Type_Fold (BorrowedMut underlying) acc = Type_Fold underlying (f acc (BorrowedMut underlying))
    Type_Fold (ImplType underlying) acc = Type_Fold underlying (f acc (ImplType underlying))
    Type_Fold (DynType underlying) acc = Type_Fold underlying (f acc (DynType underlying))
    Type_Fold (TupleType arguments) acc = Types_Fold arguments (f acc (TupleType arguments))
    Type_Fold (FnType arguments returnType) acc = Type_Fold returnType (Types_Fold arguments (f acc (FnType arguments returnType)))
    Type_Fold (IntersectionType left right) acc = Type_Fold right (Type_Fold left (f acc (IntersectionType left right)))
    Type_Fold (Array underlying size) acc = Type_Fold underlying (f acc (Array underlying size))
    Type_Fold (TSynonym display base) acc = Type_Fold display (f acc (TSynonym display base))
    Type_Fold (TMetaData display copySemantics overflow) acc = Type_Fold display (f acc (TMetaData display copySemantics overflow))

    -- FoldLeft((acc, argType) => argType.Fold(acc, f), acc, arguments)
    pub Types_Fold : Types → T → T
    Types_Fold []ᵗ acc = acc
    Types_Fold (argType ∷ᵗ arguments) acc = Types_Fold arguments (Type_Fold argType acc)

  abbrev pub Formal_Fold : Formal → T → T
  Formal_Fold (Formal' name tpe) acc = Type_Fold tpe acc

module _ {T : Type 0} (f : T → Expr → T) (ft : T → «Type» → T) where
  unfoldable mutual
    pub Expr_Fold : Expr → T → T
    Expr_Fold (RawExpr content) acc = f acc (RawExpr content)
    Expr_Fold (ExprFromType tpe) acc = Type_Fold ft tpe (f acc (ExprFromType tpe))
    Expr_Fold (Identifier name) acc = f acc (Identifier name)
    Expr_Fold (Match matchee cases) acc = MatchCases_Fold cases (Expr_Fold matchee (f acc (Match matchee cases)))
    Expr_Fold (StmtExpr stmt rhs) acc = Expr_Fold rhs (Expr_Fold stmt (f acc (StmtExpr stmt rhs)))
    Expr_Fold (Block underlying) acc = Expr_Fold underlying (f acc (Block underlying))
    Expr_Fold (StructBuild underlying assignments) acc = AssignIdentifiers_Fold assignments (Expr_Fold underlying (f acc (StructBuild underlying assignments)))
    Expr_Fold (Tuple arguments) acc = Exprs_Fold arguments (f acc (Tuple arguments))
    Expr_Fold (UnaryOp op1 underlying format) acc = Expr_Fold underlying (f acc (UnaryOp op1 underlying format))
    Expr_Fold (BinaryOp op2 left right format2) acc = Expr_Fold right (Expr_Fold left (f acc (BinaryOp op2 left right format2)))
    Expr_Fold (TypeAscription left tpe) acc = Type_Fold ft tpe (Expr_Fold left (f acc (TypeAscription left tpe)))
    Expr_Fold (TraitCast leftTpe tpe) acc = Type_Fold ft tpe (Type_Fold ft leftTpe (f acc (TraitCast leftTpe tpe)))
    Expr_Fold (LiteralInt value) acc = f acc (LiteralInt value)
    Expr_Fold (LiteralBool bvalue) acc = f acc (LiteralBool bvalue)
    Expr_Fold (LiteralString value binary verbatim) acc = f acc (LiteralString value binary verbatim)
    Expr_Fold (DeclareVar declareType name opt_type optRhs) acc =
        let acc₁ : T = f acc (DeclareVar declareType name opt_type optRhs) in
        let acc₂ : T = if_some opt_type acc₁ (λ value. Type_Fold ft value acc₁) in
        OptExpr_Fold optRhs acc₂
    Expr_Fold (Assign names rhs) acc = Expr_Fold rhs (f acc (Assign names rhs))
    Expr_Fold (IfExpr cond thn els) acc = Expr_Fold els (Expr_Fold thn (Expr_Fold cond (f acc (IfExpr cond thn els))))
    Expr_Fold (Loop optCond underlying) acc = Expr_Fold underlying (OptExpr_Fold optCond (f acc (Loop optCond underlying)))
    Expr_Fold (For name range body) acc = Expr_Fold body (Expr_Fold range (f acc (For name range body)))
    Expr_Fold (Labelled lbl underlying) acc = Expr_Fold underlying (f acc (Labelled lbl underlying))
    Expr_Fold (Break optLbl) acc = f acc (Break optLbl)
    Expr_Fold (Continue optLbl) acc = f acc (Continue optLbl)
    Expr_Fold (Return optExpr) acc = OptExpr_Fold optExpr (f acc (Return optExpr))
    Expr_Fold (CallType obj typeArguments) acc = FoldTypes (λ acc t. Type_Fold ft t acc) (Expr_Fold obj (f acc (CallType obj typeArguments))) typeArguments
    Expr_Fold (Call obj arguments) acc = Exprs_Fold arguments (Expr_Fold obj (f acc (Call obj arguments)))
    Expr_Fold (Select obj name) acc = Expr_Fold obj (f acc (Select obj name))
    Expr_Fold (SelectIndex obj range) acc = Expr_Fold range (Expr_Fold obj (f acc (SelectIndex obj range)))
    Expr_Fold (ExprFromPath path) acc = f acc (ExprFromPath path)
    Expr_Fold (FunctionSelect obj name) acc = Expr_Fold obj (f acc (FunctionSelect obj name))
    Expr_Fold (Lambda params retType body) acc =
        let acc₁ : T = FoldLeft (λ acc param. Formal_Fold ft param acc) (f acc (Lambda params retType body)) params in
        let acc₂ : T = if_some retType acc₁ (λ value. Type_Fold ft value acc₁) in
        Expr_Fold body acc₂

    -- FoldLeft((acc, e) => e.Fold(acc, f, ft), acc, arguments)
    pub Exprs_Fold : Exprs → T → T
    Exprs_Fold []ᵉ acc = acc
    Exprs_Fold (e ∷ᵉ arguments) acc = Exprs_Fold arguments (Expr_Fold e acc)

    -- if optExpr.None? then acc else optExpr.value.Fold(acc, f, ft)
    pub OptExpr_Fold : OptExpr → T → T
    OptExpr_Fold None acc = acc
    OptExpr_Fold (Some value) acc = Expr_Fold value acc

    pub MatchCase_Fold : MatchCase → T → T
    MatchCase_Fold (MatchCase' pattern rhs) acc = Expr_Fold rhs acc

    pub MatchCases_Fold : MatchCases → T → T
    MatchCases_Fold []ᶜ acc = acc
    MatchCases_Fold (c ∷ᶜ cases) acc = MatchCases_Fold cases (MatchCase_Fold c acc)

    pub AssignIdentifier_Fold : AssignIdentifier → T → T
    AssignIdentifier_Fold (AssignIdentifier' identifier rhs) acc = Expr_Fold rhs acc

    pub AssignIdentifiers_Fold : AssignIdentifiers → T → T
    AssignIdentifiers_Fold []ᵃ acc = acc
    AssignIdentifiers_Fold (a ∷ᵃ assignments) acc = AssignIdentifiers_Fold assignments (AssignIdentifier_Fold a acc)

unfoldable pub Mod-as-Fold : {T : Type 0} → Mod → T → (T → ModDecl → T) → T
Mod-as-Fold (Mod' docString attributes name body) acc accBuilder = FoldModDecls accBuilder acc body
Mod-as-Fold (ExternMod name) acc accBuilder = acc
