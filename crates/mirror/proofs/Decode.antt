-- The datatypes of a record tree: a reading of every record, whatever it is. Assumes nothing: these are definitions.
use mathlib.Core.List.{List, [], ◌∷◌}
use mathlib.Core.Bool.{cond}
use mathlib.Core.Option.{Option, none, some}
use Prim.Native.Nat.{ℕ, zero, suc}
use lib.Dec.{eqb}
use Rattle.wire.specs.Numbers.{Bytes}
use Rattle.records.specs.Record.{Record, Records, leaf, node, nil, ◌▸◌, kind, text, children}
use Rattle.mirror.specs.Rast.{Path, Global, Crate, Self, PMemberSelect, «Type», U8, U16, U32, U64, U128, I8, I16, I32, I64, I128, USIZE, Bool}
use Rattle.mirror.specs.Rast.{TIdentifier, TypeFromPath, TypeApp, Borrowed, BorrowedMut, ImplType, DynType, TupleType, FnType, IntersectionType, Array}
use Rattle.mirror.specs.Rast.{TSynonym, TMetaData, Types, []ᵗ, ◌∷ᵗ◌, Formal, Formal'}
use Rattle.mirror.specs.Rast.{Expr, RawExpr, ExprFromType, Identifier, Match, StmtExpr, Block, StructBuild, Tuple, UnaryOp, BinaryOp, TypeAscription}
use Rattle.mirror.specs.Rast.{TraitCast, LiteralInt, LiteralBool, LiteralString, DeclareVar, Assign, IfExpr, Loop, For, Labelled, Break, Continue, Return}
use Rattle.mirror.specs.Rast.{CallType, Call, Select, SelectIndex, ExprFromPath, FunctionSelect, Lambda}
use Rattle.mirror.specs.Rast.{Exprs, []ᵉ, ◌∷ᵉ◌, OptExpr, None, Some, MatchCase, MatchCase', MatchCases, []ᶜ, ◌∷ᶜ◌, AssignIdentifier, AssignIdentifier'}
use Rattle.mirror.specs.Rast.{AssignIdentifiers, []ᵃ, ◌∷ᵃ◌}
use Rattle.mirror.specs.Rast.{TypeParamDecl, TypeParamDecl', Field, Field', NamelessField, NamelessField', Fields, NamedFields, NamelessFields, Struct}
use Rattle.mirror.specs.Rast.{Struct', TypeSynonym, TypeSynonym', Constant, Constant', EnumCase, EnumCase', Enum, Enum', Fn, Fn', ImplMember}
use Rattle.mirror.specs.Rast.{RawImplMember, TypeDeclMember, FnDecl, ImplMemberMacro, Impl, ImplFor, Impl', Trait, Trait', TopFnDecl, TopFn, Use, Use'}
use Rattle.mirror.specs.Rast.{Mod, Mod', ExternMod, ModDecl, ModDecl', StructDecl, TypeDecl, ConstDecl, EnumDecl, ImplDecl, TraitDecl, TopFnDecl'}
use Rattle.mirror.specs.Rast.{UseDecl, ModDecls, []ᵐ, ◌∷ᵐ◌}

-- every one of some records, read
module _ {K : Type 0} (kid : Record → K) where
  abbrev pub each : Records → List K
  each nil = []
  each (r ▸ c) = kid r ∷ each c

-- a record and what was read of it
pub record Kid (D : Type 0) : Type 0 where
  pub own : Record
  pub as' : D

-- a reading of every record, from its kind and the readings of the records that it holds
module _ {D : Type 0} (reading : ℕ → List (Kid D) → D) where
  unfoldable mutual
    pub fold : Record → D
    fold (leaf k b) = reading k []
    fold (node k c) = reading k (fold_all c)

    pub fold_all : Records → List (Kid D)
    fold_all nil = []
    fold_all (r ▸ c) = record { own = r; as' = fold r } ∷ fold_all c

  abbrev pub kid : Record → Kid D
  kid r = record { own = r; as' = fold r }

-- what was read of the record at place i, or other where there is none
module _ {K : Type 0} (other : K) where
  abbrev pub first : List K → K
  first [] = other
  first (x ∷ xs) = x

abbrev pub rest : {K : Type 0} → List K → List K
rest [] = []
rest (x ∷ xs) = xs

module _ {K : Type 0} (other : K) where
  abbrev pub nth : ℕ → List K → K
  nth zero xs = first other xs
  nth (suc i) xs = nth i (rest xs)

-- what stands beside k in the list, or a where k does not stand in it
module _ {A : Type 0} where
  abbrev pub choose : ℕ → A → List (ℕ × A) → A
  choose k a [] = a
  choose k a (x ∷ xs) = cond (eqb k x.0) x.1 (choose k a xs)

-- a seq, from its empty one and its cons; an Option, from its two
module _ {K A L : Type 0} (empty : L) (more : A → L → L) (of : K → A) where
  abbrev pub gather : List K → L
  gather [] = empty
  gather (x ∷ xs) = more (of x) (gather xs)

module _ {K A O : Type 0} (nothing : O) (just : A → O) (of : K → A) where
  abbrev pub at_most : List K → O
  at_most [] = nothing
  at_most (x ∷ xs) = just (of x)

abbrev pub own : Record → Record
own r = r

abbrev pub held : Record → List Record
held r = each own (children r)

module _ {A : Type 0} (of : Record → A) where
  abbrev pub seq_of : Record → List A
  seq_of r = gather [] ◌∷◌ of (held r)

  abbrev pub option_of : Record → Option A
  option_of r = at_most none some of (held r)

abbrev pub absent : Record
absent = leaf 0x01 []

-- a datatype that does not hold itself is read from its record's kind and the records that it holds
module _ {A : Type 0} (at : ℕ → (ℕ → Record) → A) where
  abbrev pub from : ℕ → List Record → A
  from k xs = at k (λ i. nth absent i xs)

  abbrev pub read : Record → A
  read r = from (kind r) (held r)

-- Path
abbrev pub Path_absent : Kid Path
Path_absent = record { own = absent; as' = Global }

unfoldable pub Path_at : ℕ → List (Kid Path) → Path
Path_at k xs =
    let string : ℕ → Bytes = λ i. text (nth Path_absent i xs).own in
    let path : ℕ → Path = λ i. (nth Path_absent i xs).as' in
    choose k Global (
    (0x11, Crate)
    ∷ (0x12, Self)
    ∷ (0x13, PMemberSelect (path 0) (string 1))
    ∷ [])

abbrev pub Path_of : Record → Path
Path_of r = fold Path_at r

-- Type, seq<Type>
pub record Type_Reading : Type 0 where
  pub type : «Type»
  pub types : Types

abbrev pub Type_absent : Kid Type_Reading
Type_absent = record { own = absent; as' = record { type = U8; types = []ᵗ } }

unfoldable pub Type_at : ℕ → List (Kid Type_Reading) → «Type»
Type_at k xs =
    let x : ℕ → Record = λ i. (nth Type_absent i xs).own in
    let string : ℕ → Bytes = λ i. text (x i) in
    let type : ℕ → «Type» = λ i. (nth Type_absent i xs).as'.type in
    let types : ℕ → Types = λ i. (nth Type_absent i xs).as'.types in
    choose k U8 (
    (0x21, U16)
    ∷ (0x22, U32)
    ∷ (0x23, U64)
    ∷ (0x24, U128)
    ∷ (0x25, I8)
    ∷ (0x26, I16)
    ∷ (0x27, I32)
    ∷ (0x28, I64)
    ∷ (0x29, I128)
    ∷ (0x2A, USIZE)
    ∷ (0x2B, Bool)
    ∷ (0x2C, TIdentifier (string 0))
    ∷ (0x2D, TypeFromPath (Path_of (x 0)))
    ∷ (0x2E, TypeApp (type 0) (types 1))
    ∷ (0x2F, Borrowed (type 0))
    ∷ (0x30, BorrowedMut (type 0))
    ∷ (0x31, ImplType (type 0))
    ∷ (0x32, DynType (type 0))
    ∷ (0x33, TupleType (types 0))
    ∷ (0x34, FnType (types 0) (type 1))
    ∷ (0x35, IntersectionType (type 0) (type 1))
    ∷ (0x36, Array (type 0) (option_of text (x 1)))
    ∷ (0x37, TSynonym (type 0) (type 1))
    ∷ (0x38, TMetaData (type 0) (string 1) (string 2))
    ∷ [])

abbrev pub Types_from : List (Kid Type_Reading) → Types
Types_from xs = gather []ᵗ ◌∷ᵗ◌ (λ x. x.as'.type) xs

abbrev pub Type_reading : ℕ → List (Kid Type_Reading) → Type_Reading
Type_reading k xs = record { type = Type_at k xs; types = Types_from xs }

abbrev pub Type_of : Record → «Type»
Type_of r = (fold Type_reading r).type

abbrev pub Types_of : Record → Types
Types_of r = (fold Type_reading r).types

-- Formal
unfoldable pub Formal_at : ℕ → (ℕ → Record) → Formal
Formal_at k x = Formal' (text (x 0)) (Type_of (x 1))

abbrev pub Formal_of : Record → Formal
Formal_of = read Formal_at

-- Expr, seq<Expr>, Option<Expr>, MatchCase, AssignIdentifier and their seqs
pub record Expr_Reading : Type 0 where
  pub expr : Expr
  pub exprs : Exprs
  pub opt : OptExpr
  pub case : MatchCase
  pub cases : MatchCases
  pub assign : AssignIdentifier
  pub assigns : AssignIdentifiers

abbrev no_expr : Expr
no_expr = RawExpr []

abbrev pub Expr_absent : Kid Expr_Reading
Expr_absent =
    record {
      own =
          absent;
      as' =
          record { expr = no_expr; exprs = []ᵉ; opt = None; case = MatchCase' [] no_expr; cases = []ᶜ; assign = AssignIdentifier' [] no_expr; assigns = []ᵃ };
    }

unfoldable pub Expr_at : ℕ → List (Kid Expr_Reading) → Expr
Expr_at k xs =
    let x : ℕ → Record = λ i. (nth Expr_absent i xs).own in
    let string : ℕ → Bytes = λ i. text (x i) in
    let type : ℕ → «Type» = λ i. Type_of (x i) in
    let expr : ℕ → Expr = λ i. (nth Expr_absent i xs).as'.expr in
    let exprs : ℕ → Exprs = λ i. (nth Expr_absent i xs).as'.exprs in
    let opt : ℕ → OptExpr = λ i. (nth Expr_absent i xs).as'.opt in
    choose k no_expr (
    (0x40, RawExpr (string 0))
    ∷ (0x41, ExprFromType (type 0))
    ∷ (0x42, Identifier (string 0))
    ∷ (0x43, Match (expr 0) (nth Expr_absent 1 xs).as'.cases)
    ∷ (0x44, StmtExpr (expr 0) (expr 1))
    ∷ (0x45, Block (expr 0))
    ∷ (0x46, StructBuild (expr 0) (nth Expr_absent 1 xs).as'.assigns)
    ∷ (0x47, Tuple (exprs 0))
    ∷ (0x48, UnaryOp (string 0) (expr 1) (string 2))
    ∷ (0x49, BinaryOp (string 0) (expr 1) (expr 2) (string 3))
    ∷ (0x4A, TypeAscription (expr 0) (type 1))
    ∷ (0x4B, TraitCast (type 0) (type 1))
    ∷ (0x4C, LiteralInt (string 0))
    ∷ (0x4D, LiteralBool (string 0))
    ∷ (0x4E, LiteralString (string 0) (string 1) (string 2))
    ∷ (0x4F, DeclareVar (string 0) (string 1) (option_of Type_of (x 2)) (opt 3))
    ∷ (0x50, Assign (string 0) (expr 1))
    ∷ (0x51, IfExpr (expr 0) (expr 1) (expr 2))
    ∷ (0x52, Loop (opt 0) (expr 1))
    ∷ (0x53, For (string 0) (expr 1) (expr 2))
    ∷ (0x54, Labelled (string 0) (expr 1))
    ∷ (0x55, Break (option_of text (x 0)))
    ∷ (0x56, Continue (option_of text (x 0)))
    ∷ (0x57, Return (opt 0))
    ∷ (0x58, CallType (expr 0) (Types_of (x 1)))
    ∷ (0x59, Call (expr 0) (exprs 1))
    ∷ (0x5A, Select (expr 0) (string 1))
    ∷ (0x5B, SelectIndex (expr 0) (expr 1))
    ∷ (0x5C, ExprFromPath (Path_of (x 0)))
    ∷ (0x5D, FunctionSelect (expr 0) (string 1))
    ∷ (0x5E, Lambda (seq_of Formal_of (x 0)) (option_of Type_of (x 1)) (expr 2))
    ∷ [])

abbrev pub MatchCase_at : ℕ → List (Kid Expr_Reading) → MatchCase
MatchCase_at k xs = MatchCase' (text (nth Expr_absent 0 xs).own) (nth Expr_absent 1 xs).as'.expr

abbrev pub AssignIdentifier_at : ℕ → List (Kid Expr_Reading) → AssignIdentifier
AssignIdentifier_at k xs = AssignIdentifier' (text (nth Expr_absent 0 xs).own) (nth Expr_absent 1 xs).as'.expr

abbrev pub Exprs_from : List (Kid Expr_Reading) → Exprs
Exprs_from xs = gather []ᵉ ◌∷ᵉ◌ (λ x. x.as'.expr) xs

abbrev pub OptExpr_from : List (Kid Expr_Reading) → OptExpr
OptExpr_from xs = at_most None Some (λ x. x.as'.expr) xs

abbrev pub MatchCases_from : List (Kid Expr_Reading) → MatchCases
MatchCases_from xs = gather []ᶜ ◌∷ᶜ◌ (λ x. x.as'.case) xs

abbrev pub AssignIdentifiers_from : List (Kid Expr_Reading) → AssignIdentifiers
AssignIdentifiers_from xs = gather []ᵃ ◌∷ᵃ◌ (λ x. x.as'.assign) xs

abbrev pub Expr_reading : ℕ → List (Kid Expr_Reading) → Expr_Reading
Expr_reading k xs =
    record {
      expr = Expr_at k xs;
      exprs = Exprs_from xs;
      opt = OptExpr_from xs;
      case = MatchCase_at k xs;
      cases = MatchCases_from xs;
      assign = AssignIdentifier_at k xs;
      assigns = AssignIdentifiers_from xs;
    }

abbrev pub Expr_of : Record → Expr
Expr_of r = (fold Expr_reading r).expr

abbrev pub Exprs_of : Record → Exprs
Exprs_of r = (fold Expr_reading r).exprs

abbrev pub OptExpr_of : Record → OptExpr
OptExpr_of r = (fold Expr_reading r).opt

abbrev pub MatchCase_of : Record → MatchCase
MatchCase_of r = (fold Expr_reading r).case

abbrev pub MatchCases_of : Record → MatchCases
MatchCases_of r = (fold Expr_reading r).cases

abbrev pub AssignIdentifier_of : Record → AssignIdentifier
AssignIdentifier_of r = (fold Expr_reading r).assign

abbrev pub AssignIdentifiers_of : Record → AssignIdentifiers
AssignIdentifiers_of r = (fold Expr_reading r).assigns

-- the declarations that a module holds
unfoldable pub TypeParamDecl_at : ℕ → (ℕ → Record) → TypeParamDecl
TypeParamDecl_at k x = TypeParamDecl' (text (x 0)) (Types_of (x 1))

abbrev pub TypeParamDecl_of : Record → TypeParamDecl
TypeParamDecl_of = read TypeParamDecl_at

unfoldable pub Field_at : ℕ → (ℕ → Record) → Field
Field_at k x = Field' (text (x 0)) (Formal_of (x 1))

abbrev pub Field_of : Record → Field
Field_of = read Field_at

unfoldable pub NamelessField_at : ℕ → (ℕ → Record) → NamelessField
NamelessField_at k x = NamelessField' (text (x 0)) (Type_of (x 1))

abbrev pub NamelessField_of : Record → NamelessField
NamelessField_of = read NamelessField_at

unfoldable pub Fields_at : ℕ → (ℕ → Record) → Fields
Fields_at k x =
    choose k (NamedFields (seq_of Field_of (x 0))) (
    (0x76, NamelessFields (seq_of NamelessField_of (x 0)))
    ∷ [])

abbrev pub Fields_of : Record → Fields
Fields_of = read Fields_at

unfoldable pub Struct_at : ℕ → (ℕ → Record) → Struct
Struct_at k x = Struct' (text (x 0)) (text (x 1)) (text (x 2)) (seq_of TypeParamDecl_of (x 3)) (Fields_of (x 4))

abbrev pub Struct_of : Record → Struct
Struct_of = read Struct_at

unfoldable pub TypeSynonym_at : ℕ → (ℕ → Record) → TypeSynonym
TypeSynonym_at k x = TypeSynonym' (text (x 0)) (text (x 1)) (text (x 2)) (seq_of TypeParamDecl_of (x 3)) (Type_of (x 4))

abbrev pub TypeSynonym_of : Record → TypeSynonym
TypeSynonym_of = read TypeSynonym_at

unfoldable pub Constant_at : ℕ → (ℕ → Record) → Constant
Constant_at k x = Constant' (text (x 0)) (text (x 1)) (text (x 2)) (Type_of (x 3)) (Expr_of (x 4))

abbrev pub Constant_of : Record → Constant
Constant_of = read Constant_at

unfoldable pub EnumCase_at : ℕ → (ℕ → Record) → EnumCase
EnumCase_at k x = EnumCase' (text (x 0)) (text (x 1)) (Fields_of (x 2))

abbrev pub EnumCase_of : Record → EnumCase
EnumCase_of = read EnumCase_at

unfoldable pub Enum_at : ℕ → (ℕ → Record) → Enum
Enum_at k x = Enum' (text (x 0)) (text (x 1)) (text (x 2)) (seq_of TypeParamDecl_of (x 3)) (seq_of EnumCase_of (x 4))

abbrev pub Enum_of : Record → Enum
Enum_of = read Enum_at

unfoldable pub Fn_at : ℕ → (ℕ → Record) → Fn
Fn_at k x = Fn' (text (x 0)) (seq_of TypeParamDecl_of (x 1)) (seq_of Formal_of (x 2)) (option_of Type_of (x 3)) (option_of Expr_of (x 4))

abbrev pub Fn_of : Record → Fn
Fn_of = read Fn_at

unfoldable pub ImplMember_at : ℕ → (ℕ → Record) → ImplMember
ImplMember_at k x =
    choose k (RawImplMember (text (x 0))) (
    (0x84, FnDecl (text (x 0)) (text (x 1)) (text (x 2)) (Fn_of (x 3)))
    ∷ (0x85, TypeDeclMember (text (x 0)) (Type_of (x 1)))
    ∷ (0x86, ImplMemberMacro (Expr_of (x 0)))
    ∷ [])

abbrev pub ImplMember_of : Record → ImplMember
ImplMember_of = read ImplMember_at

unfoldable pub Impl_at : ℕ → (ℕ → Record) → Impl
Impl_at k x =
    choose k (ImplFor (seq_of TypeParamDecl_of (x 0)) (Type_of (x 1)) (Type_of (x 2)) (seq_of ImplMember_of (x 3))) (
    (0x7A, Impl' (seq_of TypeParamDecl_of (x 0)) (Type_of (x 1)) (seq_of ImplMember_of (x 2)))
    ∷ [])

abbrev pub Impl_of : Record → Impl
Impl_of = read Impl_at

unfoldable pub Trait_at : ℕ → (ℕ → Record) → Trait
Trait_at k x = Trait' (text (x 0)) (text (x 1)) (seq_of TypeParamDecl_of (x 2)) (Type_of (x 3)) (Types_of (x 4)) (seq_of ImplMember_of (x 5))

abbrev pub Trait_of : Record → Trait
Trait_of = read Trait_at

unfoldable pub TopFnDecl_at : ℕ → (ℕ → Record) → TopFnDecl
TopFnDecl_at k x = TopFn (text (x 0)) (text (x 1)) (text (x 2)) (Fn_of (x 3))

abbrev pub TopFnDecl_of : Record → TopFnDecl
TopFnDecl_of = read TopFnDecl_at

unfoldable pub Use_at : ℕ → (ℕ → Record) → Use
Use_at k x = Use' (text (x 0)) (Path_of (x 1))

abbrev pub Use_of : Record → Use
Use_of = read Use_at

-- Mod, ModDecl, seq<ModDecl>
pub record Mod_Reading : Type 0 where
  pub mod' : Mod
  pub decl : ModDecl
  pub decls : ModDecls

abbrev pub Mod_absent : Kid Mod_Reading
Mod_absent = record { own = absent; as' = record { mod' = ExternMod []; decl = ModDecl' (ExternMod []); decls = []ᵐ } }

unfoldable pub Mod_at : ℕ → List (Kid Mod_Reading) → Mod
Mod_at k xs =
    let string : ℕ → Bytes = λ i. text (nth Mod_absent i xs).own in
    choose k (ExternMod (string 0)) ((0x60, Mod' (string 0) (string 1) (string 2) (nth Mod_absent 3 xs).as'.decls) ∷ [])

unfoldable pub ModDecl_at : ℕ → List (Kid Mod_Reading) → ModDecl
ModDecl_at k xs =
    let x : Record = (nth Mod_absent 0 xs).own in
    choose k (ModDecl' (nth Mod_absent 0 xs).as'.mod') (
    (0x63, StructDecl (Struct_of x))
    ∷ (0x64, TypeDecl (TypeSynonym_of x))
    ∷ (0x65, ConstDecl (Constant_of x))
    ∷ (0x66, EnumDecl (Enum_of x))
    ∷ (0x67, ImplDecl (Impl_of x))
    ∷ (0x68, TraitDecl (Trait_of x))
    ∷ (0x69, TopFnDecl' (TopFnDecl_of x))
    ∷ (0x6A, UseDecl (Use_of x))
    ∷ [])

abbrev pub ModDecls_from : List (Kid Mod_Reading) → ModDecls
ModDecls_from xs = gather []ᵐ ◌∷ᵐ◌ (λ x. x.as'.decl) xs

abbrev pub Mod_reading : ℕ → List (Kid Mod_Reading) → Mod_Reading
Mod_reading k xs = record { mod' = Mod_at k xs; decl = ModDecl_at k xs; decls = ModDecls_from xs }

abbrev pub Mod_of : Record → Mod
Mod_of r = (fold Mod_reading r).mod'

abbrev pub ModDecl_of : Record → ModDecl
ModDecl_of r = (fold Mod_reading r).decl

abbrev pub ModDecls_of : Record → ModDecls
ModDecls_of r = (fold Mod_reading r).decls
