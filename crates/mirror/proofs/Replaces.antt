-- Replace over the record tree of a type or an expression gives the record tree of what Replace gives: whatever functions are handed on, if they agree so.
-- Assumes nothing.
use mathlib.Core.Path.{◌≡◌, refl, ap, ap₂}
use mathlib.Core.List.{List, [], ◌∷◌, map}
use mathlib.Core.Option
use mathlib.Core.Option.{Option, none, some}
use Rattle.records.specs.Record.{Record, node, nil, ◌▸◌}
use Rattle.rast.specs.Replace.{Replace, ReplaceParts}
use Rattle.mirror.specs.Rast.{string, Path, Global, Crate, Self, PMemberSelect, «Type», U8, U16, U32, U64, U128, I8, I16, I32, I64, I128, USIZE, Bool}
use Rattle.mirror.specs.Rast.{TIdentifier, TypeFromPath, TypeApp, Borrowed, BorrowedMut, ImplType, DynType, TupleType, FnType, IntersectionType, Array}
use Rattle.mirror.specs.Rast.{TSynonym, TMetaData, Types, []ᵗ, ◌∷ᵗ◌, Formal, Formal'}
use Rattle.mirror.specs.Rast.{Expr, RawExpr, ExprFromType, Identifier, Match, StmtExpr, Block, StructBuild, Tuple, UnaryOp, BinaryOp, TypeAscription}
use Rattle.mirror.specs.Rast.{TraitCast, LiteralInt, LiteralBool, LiteralString, DeclareVar, Assign, IfExpr, Loop, For, Labelled, Break, Continue, Return}
use Rattle.mirror.specs.Rast.{CallType, Call, Select, SelectIndex, ExprFromPath, FunctionSelect, Lambda}
use Rattle.mirror.specs.Rast.{Exprs, []ᵉ, ◌∷ᵉ◌, OptExpr, None, Some, MatchCase, MatchCase', MatchCases, []ᶜ, ◌∷ᶜ◌, AssignIdentifier, AssignIdentifier'}
use Rattle.mirror.specs.Rast.{AssignIdentifiers, []ᵃ, ◌∷ᵃ◌}
use Rattle.mirror.specs.Replace.{map_types, Type_Replace, Types_Replace, Formal_Replace, Expr_Replace, Exprs_Replace, OptExpr_Replace, MatchCase_Replace}
use Rattle.mirror.specs.Replace.{MatchCases_Replace, AssignIdentifier_Replace, AssignIdentifiers_Replace}
use Rattle.mirror.specs.Tree.{text, kept, list, trees, option, Path_tree, Type_tree, Types_trees, Formal_tree, Expr_tree, Exprs_trees, OptExpr_tree}
use Rattle.mirror.specs.Tree.{MatchCase_tree, MatchCases_trees, AssignIdentifier_tree, AssignIdentifiers_trees}

-- a path and an Option<string> are left
replace-path : (f ft : Record → Record) (p : Path) → Replace f ft (Path_tree p) ≡ Path_tree p
unfolding Replace Path_tree
replace-path f ft Global = refl
replace-path f ft Crate = refl
replace-path f ft Self = refl
replace-path f ft (PMemberSelect p n) = refl

replace-string : (f ft : Record → Record) (o : Option string) → Replace f ft (option text o) ≡ option text o
unfolding Replace
replace-string f ft none = refl
replace-string f ft (some n) = refl

module _ (f ft : Record → Record) (ft' : «Type» → «Type») (ht : (t : «Type») → ft (Type_tree t) ≡ Type_tree (ft' t)) where
  mutual
    unfolding Replace Type_Replace Type_tree

    pub replace-type : (t : «Type») → Replace f ft (Type_tree t) ≡ Type_tree (Type_Replace ft' t)
    replace-type U8 = ht U8
    replace-type U16 = ht U16
    replace-type U32 = ht U32
    replace-type U64 = ht U64
    replace-type U128 = ht U128
    replace-type I8 = ht I8
    replace-type I16 = ht I16
    replace-type I32 = ht I32
    replace-type I64 = ht I64
    replace-type I128 = ht I128
    replace-type USIZE = ht USIZE
    replace-type Bool = ht Bool
    replace-type (TIdentifier n) = ht (TIdentifier n)
    replace-type (TypeFromPath p) = rw (replace-path f ft p) (ht (TypeFromPath p))
    replace-type (TypeApp t ts) = rw (replace-type t, replace-types ts) (ht (TypeApp _ _))
    replace-type (Borrowed t) = rw (replace-type t) (ht (Borrowed _))
    replace-type (BorrowedMut t) = rw (replace-type t) (ht (BorrowedMut _))
    replace-type (ImplType t) = rw (replace-type t) (ht (ImplType _))
    replace-type (DynType t) = rw (replace-type t) (ht (DynType _))
    replace-type (TupleType ts) = rw (replace-types ts) (ht (TupleType _))
    replace-type (FnType ts t) = rw (replace-types ts, replace-type t) (ht (FnType _ _))
    replace-type (IntersectionType t u) = rw (replace-type t, replace-type u) (ht (IntersectionType _ _))
    replace-type (Array t o) = rw (replace-type t, replace-string f ft o) (ht (Array _ o))
    replace-type (TSynonym t u) = rw (replace-type t, replace-type u) (ht (TSynonym _ _))
    replace-type (TMetaData t c o) = rw (replace-type t) (ht (TMetaData _ c o))

    pub replace-types : (ts : Types) → ReplaceParts f ft (Types_trees ts) ≡ Types_trees (Types_Replace ft' ts)
    replace-types []ᵗ = refl
    replace-types (t ∷ᵗ ts) = ap₂ ◌▸◌ (replace-type t) (replace-types ts)

  -- the same of a seq of types that Seq.Map goes over, of an Option<Type> and of formals
  types-map : (ts : Types) → Types_Replace ft' ts ≡ map_types (Type_Replace ft') ts
  unfolding Type_Replace map_types
  types-map []ᵗ = refl
  types-map (t ∷ᵗ ts) = ap (λ us. Type_Replace ft' t ∷ᵗ us) (types-map ts)

  pub replace-map-types : (ts : Types) → ReplaceParts f ft (Types_trees ts) ≡ Types_trees (map_types (Type_Replace ft') ts)
  replace-map-types ts = rw (← types-map ts) (replace-types ts)

  pub replace-option-type : (o : Option «Type») → Replace f ft (option Type_tree o) ≡ option Type_tree (Option.map (Type_Replace ft') o)
  unfolding Replace
  replace-option-type none = refl
  replace-option-type (some t) = ap (λ r. list (r ▸ nil)) (replace-type t)

  pub replace-formal : (p : Formal) → Replace f ft (Formal_tree p) ≡ Formal_tree (Formal_Replace ft' p)
  unfolding Replace Formal_tree Formal_Replace
  replace-formal (Formal' n t) = ap (λ r. node 0x7E (text n ▸ r ▸ nil)) (replace-type t)

  pub replace-formals : (ps : List Formal) → ReplaceParts f ft (trees Formal_tree ps) ≡ trees Formal_tree (map (Formal_Replace ft') ps)
  unfolding Replace trees
  replace-formals [] = refl
  replace-formals (p ∷ ps) = ap₂ ◌▸◌ (replace-formal p) (replace-formals ps)

module _ (f ft : Record → Record) (f' : Expr → Expr) (ft' : «Type» → «Type») (hf : (e : Expr) → f (Expr_tree e) ≡ Expr_tree (f' e))
    (ht : (t : «Type») → ft (Type_tree t) ≡ Type_tree (ft' t)) where
  abbrev ty : (t : «Type») → Replace f ft (Type_tree t) ≡ Type_tree (Type_Replace ft' t)
  ty = replace-type f ft ft' ht

  mutual
    unfolding Replace Expr_Replace Expr_tree

    pub replace-expr : (e : Expr) → Replace f ft (Expr_tree e) ≡ Expr_tree (Expr_Replace f' ft' e)
    replace-expr (RawExpr b) = hf (RawExpr b)
    replace-expr (ExprFromType t) = rw (ty t) (hf (ExprFromType _))
    replace-expr (Identifier n) = hf (Identifier n)
    replace-expr (Match e cs) = rw (replace-expr e, replace-cases cs) (hf (Match _ _))
    replace-expr (StmtExpr d e) = rw (replace-expr d, replace-expr e) (hf (StmtExpr _ _))
    replace-expr (Block e) = rw (replace-expr e) (hf (Block _))
    replace-expr (StructBuild e as') = rw (replace-expr e, replace-assigns as') (hf (StructBuild _ _))
    replace-expr (Tuple es) = rw (replace-exprs es) (hf (Tuple _))
    replace-expr (UnaryOp o e k) = rw (replace-expr e) (hf (UnaryOp o _ k))
    replace-expr (BinaryOp o d e k) = rw (replace-expr d, replace-expr e) (hf (BinaryOp o _ _ k))
    replace-expr (TypeAscription e t) = rw (replace-expr e, ty t) (hf (TypeAscription _ _))
    replace-expr (TraitCast t u) = rw (ty t, ty u) (hf (TraitCast _ _))
    replace-expr (LiteralInt b) = hf (LiteralInt b)
    replace-expr (LiteralBool b) = hf (LiteralBool b)
    replace-expr (LiteralString b c d) = hf (LiteralString b c d)
    replace-expr (DeclareVar k n o e) = rw (replace-option-type f ft ft' ht o, replace-opt e) (hf (DeclareVar k n _ _))
    replace-expr (Assign k e) = rw (replace-expr e) (hf (Assign k _))
    replace-expr (IfExpr c d e) = rw (replace-expr c, replace-expr d, replace-expr e) (hf (IfExpr _ _ _))
    replace-expr (Loop o e) = rw (replace-opt o, replace-expr e) (hf (Loop _ _))
    replace-expr (For n d e) = rw (replace-expr d, replace-expr e) (hf (For n _ _))
    replace-expr (Labelled n e) = rw (replace-expr e) (hf (Labelled n _))
    replace-expr (Break o) = rw (replace-string f ft o) (hf (Break o))
    replace-expr (Continue o) = rw (replace-string f ft o) (hf (Continue o))
    replace-expr (Return o) = rw (replace-opt o) (hf (Return _))
    replace-expr (CallType e ts) = rw (replace-expr e, replace-map-types f ft ft' ht ts) (hf (CallType _ _))
    replace-expr (Call e es) = rw (replace-expr e, replace-exprs es) (hf (Call _ _))
    replace-expr (Select e n) = rw (replace-expr e) (hf (Select _ n))
    replace-expr (SelectIndex d e) = rw (replace-expr d, replace-expr e) (hf (SelectIndex _ _))
    replace-expr (ExprFromPath p) = rw (replace-path f ft p) (hf (ExprFromPath p))
    replace-expr (FunctionSelect e n) = rw (replace-expr e) (hf (FunctionSelect _ n))
    replace-expr (Lambda ps o e) = rw (replace-formals f ft ft' ht ps, replace-option-type f ft ft' ht o, replace-expr e) (hf (Lambda _ _ _))

    pub replace-exprs : (es : Exprs) → ReplaceParts f ft (Exprs_trees es) ≡ Exprs_trees (Exprs_Replace f' ft' es)
    replace-exprs []ᵉ = refl
    replace-exprs (e ∷ᵉ es) = ap₂ ◌▸◌ (replace-expr e) (replace-exprs es)

    pub replace-opt : (o : OptExpr) → Replace f ft (OptExpr_tree o) ≡ OptExpr_tree (OptExpr_Replace f' ft' o)
    replace-opt None = refl
    replace-opt (Some e) = ap (λ r. list (r ▸ nil)) (replace-expr e)

    pub replace-case : (c : MatchCase) → Replace f ft (MatchCase_tree c) ≡ MatchCase_tree (MatchCase_Replace f' ft' c)
    replace-case (MatchCase' k e) = ap (λ r. node 0x81 (kept k ▸ r ▸ nil)) (replace-expr e)

    pub replace-cases : (cs : MatchCases) → ReplaceParts f ft (MatchCases_trees cs) ≡ MatchCases_trees (MatchCases_Replace f' ft' cs)
    replace-cases []ᶜ = refl
    replace-cases (c ∷ᶜ cs) = ap₂ ◌▸◌ (replace-case c) (replace-cases cs)

    pub replace-assign : (a : AssignIdentifier) → Replace f ft (AssignIdentifier_tree a) ≡ AssignIdentifier_tree (AssignIdentifier_Replace f' ft' a)
    replace-assign (AssignIdentifier' n e) = ap (λ r. node 0x82 (text n ▸ r ▸ nil)) (replace-expr e)

    pub replace-assigns : (as' : AssignIdentifiers)
        → ReplaceParts f ft (AssignIdentifiers_trees as') ≡ AssignIdentifiers_trees (AssignIdentifiers_Replace f' ft' as')
    replace-assigns []ᵃ = refl
    replace-assigns (a ∷ᵃ as') = ap₂ ◌▸◌ (replace-assign a) (replace-assigns as')
