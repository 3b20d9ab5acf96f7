-- Module RAST of the Dafny text: its datatypes, constructor by constructor in the text's order. A constructor that bears its datatype's name has a ';
-- a seq that its own datatype needs is a type of the same block; what 01 keeps unread (attributes, visibility, format, pattern, bool ..) is bytes.
-- Assumes nothing: these are definitions.
use Rattle.std.specs.Prelude.{List}
use Rattle.std.proofs.Math.Option.{Option}
use Rattle.wire.specs.Numbers.{Bytes}

abbrev pub string : Type 0
string = Bytes

abbrev pub Kept : Type 0
Kept = Bytes

pub data Path : Type 0 where
  Global Crate Self : Path
  PMemberSelect : (base : Path) (name : string) → Path

mutual
  pub data «Type» : Type 0 where
    U8 U16 U32 U64 U128 I8 I16 I32 I64 I128 USIZE : «Type»
    Bool : «Type»
    TIdentifier : (name : string) → «Type»
    TypeFromPath : (path : Path) → «Type»
    TypeApp : (baseName : «Type») (arguments : Types) → «Type»
    Borrowed : (underlying : «Type») → «Type»
    BorrowedMut : (underlying : «Type») → «Type»
    ImplType : (underlying : «Type») → «Type»
    DynType : (underlying : «Type») → «Type»
    TupleType : (arguments : Types) → «Type»
    FnType : (arguments : Types) (returnType : «Type») → «Type»
    IntersectionType : (left right : «Type») → «Type»
    Array : (underlying : «Type») (size : Option string) → «Type»
    TSynonym : (display base : «Type») → «Type»
    TMetaData : (display : «Type») (copySemantics overflow : Kept) → «Type»

  -- seq<Type>
  pub data Types : Type 0 where
    []ᵗ : Types
    ◌∷ᵗ◌ : «Type» → Types → Types

pub data Formal : Type 0 where
  Formal' : (name : string) (tpe : «Type») → Formal

mutual
  pub data Expr : Type 0 where
    RawExpr : (content : string) → Expr
    ExprFromType : (tpe : «Type») → Expr
    Identifier : (name : string) → Expr
    Match : (matchee : Expr) (cases : MatchCases) → Expr
    StmtExpr : (stmt rhs : Expr) → Expr
    Block : (underlying : Expr) → Expr
    StructBuild : (underlying : Expr) (assignments : AssignIdentifiers) → Expr
    Tuple : (arguments : Exprs) → Expr
    UnaryOp : (op1 : string) (underlying : Expr) (format : Kept) → Expr
    BinaryOp : (op2 : string) (left right : Expr) (format2 : Kept) → Expr
    TypeAscription : (left : Expr) (tpe : «Type») → Expr
    TraitCast : (leftTpe tpe : «Type») → Expr
    LiteralInt : (value : string) → Expr
    LiteralBool : (bvalue : Kept) → Expr
    LiteralString : (value : string) (binary verbatim : Kept) → Expr
    DeclareVar : (declareType : Kept) (name : string) (opt_type : Option «Type») (optRhs : OptExpr) → Expr
    Assign : (names : Kept) (rhs : Expr) → Expr
    IfExpr : (cond thn els : Expr) → Expr
    Loop : (optCond : OptExpr) (underlying : Expr) → Expr
    For : (name : string) (range body : Expr) → Expr
    Labelled : (lbl : string) (underlying : Expr) → Expr
    Break : (optLbl : Option string) → Expr
    Continue : (optLbl : Option string) → Expr
    Return : (optExpr : OptExpr) → Expr
    CallType : (obj : Expr) (typeArguments : Types) → Expr
    Call : (obj : Expr) (arguments : Exprs) → Expr
    Select : (obj : Expr) (name : string) → Expr
    SelectIndex : (obj range : Expr) → Expr
    ExprFromPath : (path : Path) → Expr
    FunctionSelect : (obj : Expr) (name : string) → Expr
    Lambda : (params : List Formal) (retType : Option «Type») (body : Expr) → Expr

  -- seq<Expr>, Option<Expr>
  pub data Exprs : Type 0 where
    []ᵉ : Exprs
    ◌∷ᵉ◌ : Expr → Exprs → Exprs

  pub data OptExpr : Type 0 where
    None : OptExpr
    Some : Expr → OptExpr

  pub data MatchCase : Type 0 where
    MatchCase' : (pattern : Kept) (rhs : Expr) → MatchCase

  pub data MatchCases : Type 0 where
    []ᶜ : MatchCases
    ◌∷ᶜ◌ : MatchCase → MatchCases → MatchCases

  pub data AssignIdentifier : Type 0 where
    AssignIdentifier' : (identifier : string) (rhs : Expr) → AssignIdentifier

  pub data AssignIdentifiers : Type 0 where
    []ᵃ : AssignIdentifiers
    ◌∷ᵃ◌ : AssignIdentifier → AssignIdentifiers → AssignIdentifiers

infixr 67 ◌∷ᵗ◌
infixr 67 ◌∷ᵉ◌
infixr 67 ◌∷ᶜ◌
infixr 67 ◌∷ᵃ◌
infixr 67 ◌∷ᵐ◌
pub data TypeParamDecl : Type 0 where
  TypeParamDecl' : (name : string) (constraints : Types) → TypeParamDecl

pub data Field : Type 0 where
  Field' : (visibility : Kept) (formal : Formal) → Field

pub data NamelessField : Type 0 where
  NamelessField' : (visibility : Kept) (tpe : «Type») → NamelessField

pub data Fields : Type 0 where
  NamedFields : (fields : List Field) → Fields
  NamelessFields : (types : List NamelessField) → Fields

pub data Struct : Type 0 where
  Struct' : (docString : string) (attributes : Kept) (name : string) (type_params : List TypeParamDecl) (fields : Fields) → Struct

pub data TypeSynonym : Type 0 where
  TypeSynonym' : (docString : string) (attributes : Kept) (name : string) (type_params : List TypeParamDecl) (tpe : «Type») → TypeSynonym

pub data Constant : Type 0 where
  Constant' : (docString : string) (attributes : Kept) (name : string) (tpe : «Type») (value : Expr) → Constant

pub data EnumCase : Type 0 where
  EnumCase' : (docString name : string) (fields : Fields) → EnumCase

pub data Enum : Type 0 where
  Enum' : (docString : string) (attributes : Kept) (name : string) (type_params : List TypeParamDecl) (variants : List EnumCase) → Enum

pub data Fn : Type 0 where
  Fn' : (name : string) (type_params : List TypeParamDecl) (formals : List Formal) (returnType : Option «Type») (body : Option Expr) → Fn

pub data ImplMember : Type 0 where
  RawImplMember : (content : string) → ImplMember
  TypeDeclMember : (name : string) (rhs : «Type») → ImplMember
  FnDecl : (docString : string) (attributes «pub» : Kept) (fun : Fn) → ImplMember
  ImplMemberMacro : (expr : Expr) → ImplMember

pub data Impl : Type 0 where
  ImplFor : (type_params : List TypeParamDecl) (tpe forType : «Type») (body : List ImplMember) → Impl
  Impl' : (type_params : List TypeParamDecl) (tpe : «Type») (body : List ImplMember) → Impl

pub data Trait : Type 0 where
  Trait' : (docString : string) (attributes : Kept) (type_params : List TypeParamDecl) (tpe : «Type») (parents : Types) (body : List ImplMember) → Trait

pub data TopFnDecl : Type 0 where
  TopFn : (docString : string) (attributes visibility : Kept) (fn : Fn) → TopFnDecl

pub data Use : Type 0 where
  Use' : (visibility : Kept) (path : Path) → Use

mutual
  pub data Mod : Type 0 where
    Mod' : (docString : string) (attributes : Kept) (name : string) (body : ModDecls) → Mod
    ExternMod : (name : string) → Mod

  pub data ModDecl : Type 0 where
    ModDecl' : (m : Mod) → ModDecl
    StructDecl : (struct : Struct) → ModDecl
    TypeDecl : (tpe : TypeSynonym) → ModDecl
    ConstDecl : (c : Constant) → ModDecl
    EnumDecl : (enum : Enum) → ModDecl
    ImplDecl : (impl : Impl) → ModDecl
    TraitDecl : (tr : Trait) → ModDecl
    TopFnDecl' : (fn : TopFnDecl) → ModDecl
    UseDecl : (u : Use) → ModDecl

  pub data ModDecls : Type 0 where
    []ᵐ : ModDecls
    ◌∷ᵐ◌ : ModDecl → ModDecls → ModDecls
