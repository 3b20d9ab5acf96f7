-- Fold over the record tree of a type or an expression is Fold over the type or the expression: whatever accumulates, and however (g) the one accumulator
-- stands for the other. Assumes nothing.
use mathlib.Core.Path.{◌≡◌, refl, ap, ◌∙◌}
use mathlib.Core.List.{List, [], ◌∷◌}
use mathlib.Core.Option.{Option, none, some}
use mathlib.Core.Bool.{false}
use Rattle.records.specs.Record.{Record}
use Rattle.rast.specs.Fold.{Fold, FoldParts}
use Rattle.mirror.specs.Rast.{string, Path, Global, Crate, Self, PMemberSelect, «Type», U8, U16, U32, U64, U128, I8, I16, I32, I64, I128, USIZE, Bool}
use Rattle.mirror.specs.Rast.{TIdentifier, TypeFromPath, TypeApp, Borrowed, BorrowedMut, ImplType, DynType, TupleType, FnType, IntersectionType, Array}
use Rattle.mirror.specs.Rast.{TSynonym, TMetaData, Types, []ᵗ, ◌∷ᵗ◌, Formal, Formal'}
use Rattle.mirror.specs.Rast.{Expr, RawExpr, ExprFromType, Identifier, Match, StmtExpr, Block, StructBuild, Tuple, UnaryOp, BinaryOp, TypeAscription}
use Rattle.mirror.specs.Rast.{TraitCast, LiteralInt, LiteralBool, LiteralString, DeclareVar, Assign, IfExpr, Loop, For, Labelled, Break, Continue, Return}
use Rattle.mirror.specs.Rast.{CallType, Call, Select, SelectIndex, ExprFromPath, FunctionSelect, Lambda}
use Rattle.mirror.specs.Rast.{Exprs, []ᵉ, ◌∷ᵉ◌, OptExpr, None, Some, MatchCase, MatchCase', MatchCases, []ᶜ, ◌∷ᶜ◌, AssignIdentifier, AssignIdentifier'}
use Rattle.mirror.specs.Rast.{AssignIdentifiers, []ᵃ, ◌∷ᵃ◌}
use Rattle.mirror.specs.Fold.{Expr_Fold, Exprs_Fold, OptExpr_Fold, MatchCase_Fold, MatchCases_Fold, AssignIdentifier_Fold, AssignIdentifiers_Fold}
use Rattle.mirror.specs.Tree.{Expr_tree, Exprs_trees, OptExpr_tree, MatchCase_tree, MatchCases_trees, AssignIdentifier_tree, AssignIdentifiers_trees}
use Rattle.mirror.specs.Fold.{FoldLeft, FoldTypes, if_some, Type_Fold, Types_Fold, Formal_Fold}
use Rattle.mirror.specs.Tree.{text, trees, option, Path_tree, Type_tree, Types_trees, Formal_tree}

-- a path and an Option<string> hold no type and no expression
fold-path : {T : Type 0} (f ft : T → Record → T) (p : Path) (acc : T) → Fold f ft acc (Path_tree p) ≡ acc
unfolding Fold Path_tree
fold-path f ft Global acc = refl
fold-path f ft Crate acc = refl
fold-path f ft Self acc = refl
fold-path f ft (PMemberSelect p n) acc = refl

fold-string : {T : Type 0} (f ft : T → Record → T) (o : Option string) (acc : T) → Fold f ft acc (option text o) ≡ acc
unfolding Fold
fold-string f ft none acc = refl
fold-string f ft (some n) acc = refl

module _ {T S : Type 0} (g : S → T) (f ft : T → Record → T) (ft' : S → «Type» → S) (ht : (acc : S) (t : «Type») → ft (g acc) (Type_tree t) ≡ g (ft' acc t))
  where
    mutual
      unfolding Fold Type_Fold Type_tree

      pub fold_type : (t : «Type») (acc : S) → Fold f ft (g acc) (Type_tree t) ≡ g (Type_Fold ft' t acc)
      fold_type U8 acc = ht acc U8
      fold_type U16 acc = ht acc U16
      fold_type U32 acc = ht acc U32
      fold_type U64 acc = ht acc U64
      fold_type U128 acc = ht acc U128
      fold_type I8 acc = ht acc I8
      fold_type I16 acc = ht acc I16
      fold_type I32 acc = ht acc I32
      fold_type I64 acc = ht acc I64
      fold_type I128 acc = ht acc I128
      fold_type USIZE acc = ht acc USIZE
      fold_type Bool acc = ht acc Bool
      fold_type (TIdentifier name) acc = ht acc (TIdentifier name)
      fold_type (TypeFromPath path) acc = rw fold-path (ht acc (TypeFromPath path))
      fold_type (TypeApp t ts) acc = rw (ht acc (TypeApp t ts), fold_type t _) (fold-types ts _)
      fold_type (Borrowed t) acc = rw (ht acc (Borrowed t)) (fold_type t _)
      fold_type (BorrowedMut t) acc = rw (ht acc (BorrowedMut t)) (fold_type t _)
      fold_type (ImplType t) acc = rw (ht acc (ImplType t)) (fold_type t _)
      fold_type (DynType t) acc = rw (ht acc (DynType t)) (fold_type t _)
      fold_type (TupleType ts) acc = rw (ht acc (TupleType ts)) (fold-types ts _)
      fold_type (FnType ts t) acc = rw (ht acc (FnType ts t), fold-types ts _) (fold_type t _)
      fold_type (IntersectionType t u) acc = rw (ht acc (IntersectionType t u), fold_type t _) (fold_type u _)
      fold_type (Array t size) acc = rw (ht acc (Array t size), fold-string f ft size _) (fold_type t _)
      fold_type (TSynonym t u) acc = rw (ht acc (TSynonym t u)) (fold_type t _)
      fold_type (TMetaData t c o) acc = rw (ht acc (TMetaData t c o)) (fold_type t _)

      pub fold-types : (ts : Types) (acc : S) → FoldParts f ft false (g acc) (Types_trees ts) ≡ g (Types_Fold ft' ts acc)
      fold-types []ᵗ acc = refl
      fold-types (t ∷ᵗ ts) acc = rw (fold_type t acc) (fold-types ts _)

    -- the same of a seq of types that FoldLeft goes over, of an Option<Type> and of formals
    types-fold : (ts : Types) (acc : S) → Types_Fold ft' ts acc ≡ FoldTypes (λ acc t. Type_Fold ft' t acc) acc ts
    unfolding Type_Fold FoldTypes
    types-fold []ᵗ acc = refl
    types-fold (t ∷ᵗ ts) acc = types-fold ts _

    pub fold-left-types : (ts : Types) (acc : S) → FoldParts f ft false (g acc) (Types_trees ts) ≡ g (FoldTypes (λ acc t. Type_Fold ft' t acc) acc ts)
    fold-left-types ts acc = fold-types ts acc ∙ ap g (types-fold ts acc)

    pub fold-option-type : (o : Option «Type») (acc : S) → Fold f ft (g acc) (option Type_tree o) ≡ g (if_some o acc (λ value. Type_Fold ft' value acc))
    unfolding Fold
    fold-option-type none acc = refl
    fold-option-type (some t) acc = fold_type t acc

    pub fold-formals : (ps : List Formal) (acc : S)
        → FoldParts f ft false (g acc) (trees Formal_tree ps) ≡ g (FoldLeft (λ acc param. Formal_Fold ft' param acc) acc ps)
    unfolding Fold FoldLeft trees Formal_tree
    fold-formals [] acc = refl
    fold-formals (Formal' n t ∷ ps) acc = rw (fold_type t acc) (fold-formals ps _)

module _ {T S : Type 0} (g : S → T) (f ft : T → Record → T) (f' : S → Expr → S) (ft' : S → «Type» → S)
    (hf : (acc : S) (e : Expr) → f (g acc) (Expr_tree e) ≡ g (f' acc e)) (ht : (acc : S) (t : «Type») → ft (g acc) (Type_tree t) ≡ g (ft' acc t)) where
  abbrev ty : (t : «Type») (acc : S) → Fold f ft (g acc) (Type_tree t) ≡ g (Type_Fold ft' t acc)
  ty = fold_type g f ft ft' ht

  mutual
    unfolding Fold Expr_Fold Expr_tree

    pub fold-expr : (e : Expr) (acc : S) → Fold f ft (g acc) (Expr_tree e) ≡ g (Expr_Fold f' ft' e acc)
    fold-expr (RawExpr b) acc = hf acc (RawExpr b)
    fold-expr (ExprFromType t) acc = rw (hf acc (ExprFromType t)) (ty t _)
    fold-expr (Identifier n) acc = hf acc (Identifier n)
    fold-expr (Match e cs) acc = rw (hf acc (Match e cs), fold-expr e _) (fold-cases cs _)
    fold-expr (StmtExpr d e) acc = rw (hf acc (StmtExpr d e), fold-expr d _) (fold-expr e _)
    fold-expr (Block e) acc = rw (hf acc (Block e)) (fold-expr e _)
    fold-expr (StructBuild e as') acc = rw (hf acc (StructBuild e as'), fold-expr e _) (fold-assigns as' _)
    fold-expr (Tuple es) acc = rw (hf acc (Tuple es)) (fold-exprs es _)
    fold-expr (UnaryOp o e k) acc = rw (hf acc (UnaryOp o e k)) (fold-expr e _)
    fold-expr (BinaryOp o d e k) acc = rw (hf acc (BinaryOp o d e k), fold-expr d _) (fold-expr e _)
    fold-expr (TypeAscription e t) acc = rw (hf acc (TypeAscription e t), fold-expr e _) (ty t _)
    fold-expr (TraitCast t u) acc = rw (hf acc (TraitCast t u), ty t _) (ty u _)
    fold-expr (LiteralInt b) acc = hf acc (LiteralInt b)
    fold-expr (LiteralBool b) acc = hf acc (LiteralBool b)
    fold-expr (LiteralString b c d) acc = hf acc (LiteralString b c d)
    fold-expr (DeclareVar k n o e) acc = rw (hf acc (DeclareVar k n o e), fold-option-type g f ft ft' ht o _) (fold-opt e _)
    fold-expr (Assign k e) acc = rw (hf acc (Assign k e)) (fold-expr e _)
    fold-expr (IfExpr c d e) acc = rw (hf acc (IfExpr c d e), fold-expr c _, fold-expr d _) (fold-expr e _)
    fold-expr (Loop o e) acc = rw (hf acc (Loop o e), fold-opt o _) (fold-expr e _)
    fold-expr (For n d e) acc = rw (hf acc (For n d e), fold-expr d _) (fold-expr e _)
    fold-expr (Labelled n e) acc = rw (hf acc (Labelled n e)) (fold-expr e _)
    fold-expr (Break o) acc = rw (hf acc (Break o)) (fold-string f ft o _)
    fold-expr (Continue o) acc = rw (hf acc (Continue o)) (fold-string f ft o _)
    fold-expr (Return o) acc = rw (hf acc (Return o)) (fold-opt o _)
    fold-expr (CallType e ts) acc = rw (hf acc (CallType e ts), fold-expr e _) (fold-left-types g f ft ft' ht ts _)
    fold-expr (Call e es) acc = rw (hf acc (Call e es), fold-expr e _) (fold-exprs es _)
    fold-expr (Select e n) acc = rw (hf acc (Select e n)) (fold-expr e _)
    fold-expr (SelectIndex d e) acc = rw (hf acc (SelectIndex d e), fold-expr d _) (fold-expr e _)
    fold-expr (ExprFromPath p) acc = rw (hf acc (ExprFromPath p)) (fold-path f ft p _)
    fold-expr (FunctionSelect e n) acc = rw (hf acc (FunctionSelect e n)) (fold-expr e _)
    fold-expr (Lambda ps o e) acc = rw (hf acc (Lambda ps o e), fold-formals g f ft ft' ht ps _, fold-option-type g f ft ft' ht o _) (fold-expr e _)

    pub fold-exprs : (es : Exprs) (acc : S) → FoldParts f ft false (g acc) (Exprs_trees es) ≡ g (Exprs_Fold f' ft' es acc)
    fold-exprs []ᵉ acc = refl
    fold-exprs (e ∷ᵉ es) acc = rw (fold-expr e acc) (fold-exprs es _)

    pub fold-opt : (o : OptExpr) (acc : S) → Fold f ft (g acc) (OptExpr_tree o) ≡ g (OptExpr_Fold f' ft' o acc)
    fold-opt None acc = refl
    fold-opt (Some e) acc = fold-expr e acc

    pub fold-case : (c : MatchCase) (acc : S) → Fold f ft (g acc) (MatchCase_tree c) ≡ g (MatchCase_Fold f' ft' c acc)
    fold-case (MatchCase' k e) acc = fold-expr e acc

    pub fold-cases : (cs : MatchCases) (acc : S) → FoldParts f ft false (g acc) (MatchCases_trees cs) ≡ g (MatchCases_Fold f' ft' cs acc)
    fold-cases []ᶜ acc = refl
    fold-cases (c ∷ᶜ cs) acc = rw (fold-case c acc) (fold-cases cs _)

    pub fold-assign : (a : AssignIdentifier) (acc : S) → Fold f ft (g acc) (AssignIdentifier_tree a) ≡ g (AssignIdentifier_Fold f' ft' a acc)
    fold-assign (AssignIdentifier' n e) acc = fold-expr e acc

    pub fold-assigns : (as' : AssignIdentifiers) (acc : S)
        → FoldParts f ft false (g acc) (AssignIdentifiers_trees as') ≡ g (AssignIdentifiers_Fold f' ft' as' acc)
    fold-assigns []ᵃ acc = refl
    fold-assigns (a ∷ᵃ as') acc = rw (fold-assign a acc) (fold-assigns as' _)
