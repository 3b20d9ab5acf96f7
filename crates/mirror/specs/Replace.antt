-- Replace of RAST's Type, Formal, MatchCase, AssignIdentifier and Expr, case by case in the text's order. Assumes nothing: these are definitions.
use Rattle.std.specs.Prelude.{map}
use Rattle.std.proofs.Math.Option
use Rattle.mirror.specs.Rast.{«Type», U8, U16, U32, U64, U128, I8, I16, I32, I64, I128, USIZE, Bool, TIdentifier, TypeFromPath, TypeApp, Borrowed}
use Rattle.mirror.specs.Rast.{BorrowedMut, ImplType, DynType, TupleType, FnType, IntersectionType, Array, TSynonym, TMetaData, Types, []ᵗ, ◌∷ᵗ◌, Formal}
use Rattle.mirror.specs.Rast.{Formal'}
use Rattle.mirror.specs.Rast.{Expr, RawExpr, ExprFromType, Identifier, Match, StmtExpr, Block, StructBuild, Tuple, UnaryOp, BinaryOp, TypeAscription}
use Rattle.mirror.specs.Rast.{TraitCast, LiteralInt, LiteralBool, LiteralString, DeclareVar, Assign, IfExpr, Loop, For, Labelled, Break, Continue, Return}
use Rattle.mirror.specs.Rast.{CallType, Call, Select, SelectIndex, ExprFromPath, FunctionSelect, Lambda}
use Rattle.mirror.specs.Rast.{Exprs, []ᵉ, ◌∷ᵉ◌, OptExpr, None, Some, MatchCase, MatchCase', MatchCases, []ᶜ, ◌∷ᶜ◌, AssignIdentifier, AssignIdentifier'}
use Rattle.mirror.specs.Rast.{AssignIdentifiers, []ᵃ, ◌∷ᵃ◌}

-- Seq.Map over a seq<Type>
unfoldable pub map_types : («Type» → «Type») → Types → Types
map_types f []ᵗ = []ᵗ
map_types f (t ∷ᵗ ts) = f t ∷ᵗ map_types f ts

module _ (mapping : «Type» → «Type») where
  unfoldable mutual
    pub Type_Replace : «Type» → «Type»
    Type_Replace U8 = mapping U8
    Type_Replace U16 = mapping U16
    Type_Replace U32 = mapping U32
    Type_Replace U64 = mapping U64
    Type_Replace U128 = mapping U128
    Type_Replace I8 = mapping I8
    Type_Replace I16 = mapping I16
    Type_Replace I32 = mapping I32
    Type_Replace I64 = mapping I64
    Type_Replace I128 = mapping I128
    Type_Replace USIZE = mapping USIZE
    Type_Replace Bool = mapping Bool
    Type_Replace (TIdentifier name) = mapping (TIdentifier name)
    Type_Replace (TypeFromPath path) = mapping (TypeFromPath path)
    Type_Replace (TypeApp baseName arguments) = mapping (TypeApp (Type_Replace baseName) (Types_Replace arguments))
    Type_Replace (Borrowed underlying) = mapping (Borrowed (Type_Replace underlying))
    Type_Replace (BorrowedMut underlying) = mapping (BorrowedMut (Type_Replace underlying))
    Type_Replace (ImplType underlying) = mapping (ImplType (Type_Replace underlying))
    Type_Replace (DynType underlying) = mapping (DynType (Type_Replace underlying))
    Type_Replace (TupleType arguments) = mapping (TupleType (Types_Replace arguments))
    Type_Replace (FnType arguments returnType) = mapping (FnType (Types_Replace arguments) (Type_Replace returnType))
    Type_Replace (IntersectionType left right) = mapping (IntersectionType (Type_Replace left) (Type_Replace right))
    Type_Replace (Array underlying size) = mapping (Array (Type_Replace underlying) size)
    Type_Replace (TSynonym display base) = mapping (TSynonym (Type_Replace display) (Type_Replace base))
    Type_Replace (TMetaData display copySemantics overflow) = mapping (TMetaData (Type_Replace display) copySemantics overflow)

    -- Seq.Map(t => t.Replace(mapping), arguments)
    pub Types_Replace : Types → Types
    Types_Replace []ᵗ = []ᵗ
    Types_Replace (t ∷ᵗ arguments) = Type_Replace t ∷ᵗ Types_Replace arguments

unfoldable pub Formal_Replace : («Type» → «Type») → Formal → Formal
Formal_Replace ft (Formal' name tpe) = Formal' name (Type_Replace ft tpe)

module _ (f : Expr → Expr) (ft : «Type» → «Type») where
  unfoldable mutual
    pub Expr_Replace : Expr → Expr
    Expr_Replace (RawExpr content) = f (RawExpr content)
    Expr_Replace (ExprFromType tpe) = f (ExprFromType (Type_Replace ft tpe))
    Expr_Replace (Identifier name) = f (Identifier name)
    Expr_Replace (Match matchee cases) = f (Match (Expr_Replace matchee) (MatchCases_Replace cases))
    Expr_Replace (StmtExpr stmt rhs) = f (StmtExpr (Expr_Replace stmt) (Expr_Replace rhs))
    Expr_Replace (Block underlying) = f (Block (Expr_Replace underlying))
    Expr_Replace (StructBuild underlying assignments) = f (StructBuild (Expr_Replace underlying) (AssignIdentifiers_Replace assignments))
    Expr_Replace (Tuple arguments) = f (Tuple (Exprs_Replace arguments))
    Expr_Replace (UnaryOp op1 underlying format) = f (UnaryOp op1 (Expr_Replace underlying) format)
    Expr_Replace (BinaryOp op2 left right format2) = f (BinaryOp op2 (Expr_Replace left) (Expr_Replace right) format2)
    Expr_Replace (TypeAscription left tpe) = f (TypeAscription (Expr_Replace left) (Type_Replace ft tpe))
    Expr_Replace (TraitCast leftTpe tpe) = f (TraitCast (Type_Replace ft leftTpe) (Type_Replace ft tpe))
    Expr_Replace (LiteralInt value) = f (LiteralInt value)
    Expr_Replace (LiteralBool bvalue) = f (LiteralBool bvalue)
    Expr_Replace (LiteralString value binary verbatim) = f (LiteralString value binary verbatim)
    Expr_Replace (DeclareVar declareType name opt_type optRhs) = f (DeclareVar declareType name (Option.map (Type_Replace ft) opt_type) (OptExpr_Replace optRhs))
    Expr_Replace (Assign names rhs) = f (Assign names (Expr_Replace rhs))
    Expr_Replace (IfExpr cond thn els) = f (IfExpr (Expr_Replace cond) (Expr_Replace thn) (Expr_Replace els))
    Expr_Replace (Loop optCond underlying) = f (Loop (OptExpr_Replace optCond) (Expr_Replace underlying))
    Expr_Replace (For name range body) = f (For name (Expr_Replace range) (Expr_Replace body))
    Expr_Replace (Labelled lbl underlying) = f (Labelled lbl (Expr_Replace underlying))
    Expr_Replace (Break optLbl) = f (Break optLbl)
    Expr_Replace (Continue optLbl) = f (Continue optLbl)
    Expr_Replace (Return optExpr) = f (Return (OptExpr_Replace optExpr))
    Expr_Replace (CallType obj typeArguments) = f (CallType (Expr_Replace obj) (map_types (Type_Replace ft) typeArguments))
    Expr_Replace (Call obj arguments) = f (Call (Expr_Replace obj) (Exprs_Replace arguments))
    Expr_Replace (Select obj name) = f (Select (Expr_Replace obj) name)
    Expr_Replace (SelectIndex obj range) = f (SelectIndex (Expr_Replace obj) (Expr_Replace range))
    Expr_Replace (ExprFromPath path) = f (ExprFromPath path)
    Expr_Replace (FunctionSelect obj name) = f (FunctionSelect (Expr_Replace obj) name)
    Expr_Replace (Lambda params retType body) = f (Lambda (map (Formal_Replace ft) params) (Option.map (Type_Replace ft) retType) (Expr_Replace body))

    -- Seq.Map(e => e.Replace(f, ft), arguments)
    pub Exprs_Replace : Exprs → Exprs
    Exprs_Replace []ᵉ = []ᵉ
    Exprs_Replace (e ∷ᵉ arguments) = Expr_Replace e ∷ᵉ Exprs_Replace arguments

    -- if optExpr.None? then None else Some(optExpr.value.Replace(f, ft))
    pub OptExpr_Replace : OptExpr → OptExpr
    OptExpr_Replace None = None
    OptExpr_Replace (Some value) = Some (Expr_Replace value)

    pub MatchCase_Replace : MatchCase → MatchCase
    MatchCase_Replace (MatchCase' pattern rhs) = MatchCase' pattern (Expr_Replace rhs)

    pub MatchCases_Replace : MatchCases → MatchCases
    MatchCases_Replace []ᶜ = []ᶜ
    MatchCases_Replace (c ∷ᶜ cases) = MatchCase_Replace c ∷ᶜ MatchCases_Replace cases

    pub AssignIdentifier_Replace : AssignIdentifier → AssignIdentifier
    AssignIdentifier_Replace (AssignIdentifier' identifier rhs) = AssignIdentifier' identifier (Expr_Replace rhs)

    pub AssignIdentifiers_Replace : AssignIdentifiers → AssignIdentifiers
    AssignIdentifiers_Replace []ᵃ = []ᵃ
    AssignIdentifiers_Replace (a ∷ᵃ assignments) = AssignIdentifier_Replace a ∷ᵃ AssignIdentifiers_Replace assignments
