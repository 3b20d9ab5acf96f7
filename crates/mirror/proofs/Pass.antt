-- applyPrefix and apply over record trees are the text's over module trees; what is collected is what the text collects. Assumes nothing.
use mathlib.Core.Path.{◌≡◌, refl, ap, ◌∙◌}
use mathlib.Core.List.{[]}
use mathlib.Core.Option.{Option, none, some, map}
use mathlib.Core.Bool.{Bool as 𝔹, true, false, ◌&&◌, cond}
use Prim.Native.Nat.{ℕ, zero, suc}
use Rattle.records.specs.Record.{Record, node, nil, ◌▸◌, nth, set_nth, is, field, update, put, children, ◌▸▸◌}
use Rattle.rast.specs.Path.{whether}
use Rattle.rast.specs.Operation.{upstream}
use Rattle.rast.specs.Visitor.{VisitMod}
use Rattle.rast.specs.Replacer.{ReplaceMod}
use Rattle.factor_paths.specs.Mapping.{Mapping, FinalReplacement, Add}
use Rattle.factor_paths.specs.PathsVisitor.{marked, unmarked, VisitTypeSingle, VisitExprSingle, VisitTraitName, VisitModDeclSingle, PathsVisitor}
use Rattle.factor_paths.specs.Apply.{replaces, ReplaceTypeSingle, ReplaceExprSingle, PathSimplifier, mappings, paths_to_remove, imports, apply_prefix}
use Rattle.mirror.specs.Rast.{string, Path, Global, Crate, Self, PMemberSelect, «Type», U8, U16, U32, U64, U128, I8, I16, I32, I64, I128, USIZE, Bool}
use Rattle.mirror.specs.Rast.{TIdentifier, TypeFromPath, TypeApp, Borrowed, BorrowedMut, ImplType, DynType, TupleType, FnType, IntersectionType, Array}
use Rattle.mirror.specs.Rast.{TSynonym, TMetaData}
use Rattle.mirror.specs.Rast.{Expr, RawExpr, ExprFromType, Identifier, Match, StmtExpr, Block, StructBuild, Tuple, UnaryOp, BinaryOp, TypeAscription}
use Rattle.mirror.specs.Rast.{TraitCast, LiteralInt, LiteralBool, LiteralString, DeclareVar, Assign, IfExpr, Loop, For, Labelled, Break, Continue, Return}
use Rattle.mirror.specs.Rast.{CallType, Call, Select, SelectIndex, ExprFromPath, FunctionSelect, Lambda}
use Rattle.mirror.specs.Rast.{Struct', TypeSynonym', Constant', Enum', Fn', Trait', TopFn, Mod, Mod', ExternMod, ModDecl, ModDecl', StructDecl, TypeDecl}
use Rattle.mirror.specs.Rast.{ConstDecl, EnumDecl, ImplDecl, TraitDecl, TopFnDecl', UseDecl, ModDecls}
use Rattle.mirror.specs.Visitor.{MSel, Mod_name}
use Rattle.mirror.specs.Visitor as TextVisitor
use Rattle.mirror.specs.Replacer as TextReplacer
use Rattle.mirror.specs.FactorPaths as Text
use Rattle.mirror.specs.Tree.{text, kept, list, Path_tree, Type_tree, Expr_tree, Struct_tree, TypeSynonym_tree, Constant_tree, Enum_tree, Fn_tree}
use Rattle.mirror.specs.Tree.{Trait_tree, TopFnDecl_tree, Mod_tree, ModDecl_tree, ModDecls_trees}
use Rattle.mirror.proofs.Mappings.{past-cond, same-path, get_other, mapping, add-tree, final-trees, to-final-tree, to-use-tree}
use Rattle.mirror.proofs.Visits.{visit-mod}
use Rattle.mirror.proofs.Replacements.{append-trees, name-tree, path-tree, replace-mod}

-- PathsVisitor's single functions
visit-selected : (acc : Text.Mapping) (k : string) (b : Path)
    → cond (Rattle.factor_paths.specs.Mapping.equal upstream (Path_tree b) Rattle.rast.specs.Path.Self) (mapping acc)
    (Add upstream (mapping acc) k (Path_tree b)) ≡ mapping (cond (Text.same_path b Self) acc (Text.Add acc k b))
unfolding Path_tree
visit-selected acc k b = rw (same-path b Self, add-tree acc k b) (past-cond mapping (Text.same_path b Self) acc (Text.Add acc k b))

visit-type-single : (acc : Text.Mapping) (t : «Type») → VisitTypeSingle upstream (mapping acc) (Type_tree t) ≡ mapping (Text.VisitTypeSingle acc t)
unfolding VisitTypeSingle Text.VisitTypeSingle Type_tree Path_tree nth
visit-type-single acc U8 = refl
visit-type-single acc U16 = refl
visit-type-single acc U32 = refl
visit-type-single acc U64 = refl
visit-type-single acc U128 = refl
visit-type-single acc I8 = refl
visit-type-single acc I16 = refl
visit-type-single acc I32 = refl
visit-type-single acc I64 = refl
visit-type-single acc I128 = refl
visit-type-single acc USIZE = refl
visit-type-single acc Bool = refl
visit-type-single acc (TIdentifier a) = refl
visit-type-single acc (TypeFromPath Global) = refl
visit-type-single acc (TypeFromPath Crate) = refl
visit-type-single acc (TypeFromPath Self) = refl
visit-type-single acc (TypeFromPath (PMemberSelect b n)) = visit-selected acc n b
visit-type-single acc (TypeApp a b) = refl
visit-type-single acc (Borrowed a) = refl
visit-type-single acc (BorrowedMut a) = refl
visit-type-single acc (ImplType a) = refl
visit-type-single acc (DynType a) = refl
visit-type-single acc (TupleType a) = refl
visit-type-single acc (FnType a b) = refl
visit-type-single acc (IntersectionType a b) = refl
visit-type-single acc (Array a b) = refl
visit-type-single acc (TSynonym a b) = refl
visit-type-single acc (TMetaData a b c) = refl

visit-marked : (acc : Text.Mapping) (n : string) (b : Path) (t : 𝔹)
    → mapping (cond (Text.same_path b Self) acc (Text.Add acc (cond t (Text.unmarked n) n) b))
    ≡ mapping (cond (Text.same_path b Self) acc (cond t (Text.Add acc (Text.unmarked n) b) (Text.Add acc n b)))
visit-marked acc n b true = refl
visit-marked acc n b false = refl

visit-expr-single : (acc : Text.Mapping) (e : Expr) → VisitExprSingle upstream (mapping acc) (Expr_tree e) ≡ mapping (Text.VisitExprSingle acc e)
unfolding VisitExprSingle Text.VisitExprSingle Expr_tree Path_tree nth
visit-expr-single acc (RawExpr a) = refl
visit-expr-single acc (ExprFromType a) = refl
visit-expr-single acc (Identifier a) = refl
visit-expr-single acc (Match a b) = refl
visit-expr-single acc (StmtExpr a b) = refl
visit-expr-single acc (Block a) = refl
visit-expr-single acc (StructBuild a b) = refl
visit-expr-single acc (Tuple a) = refl
visit-expr-single acc (UnaryOp a b c) = refl
visit-expr-single acc (BinaryOp a b c d) = refl
visit-expr-single acc (TypeAscription a b) = refl
visit-expr-single acc (TraitCast a b) = refl
visit-expr-single acc (LiteralInt a) = refl
visit-expr-single acc (LiteralBool a) = refl
visit-expr-single acc (LiteralString a b c) = refl
visit-expr-single acc (DeclareVar a b c d) = refl
visit-expr-single acc (Assign a b) = refl
visit-expr-single acc (IfExpr a b c) = refl
visit-expr-single acc (Loop a b) = refl
visit-expr-single acc (For a b c) = refl
visit-expr-single acc (Labelled a b) = refl
visit-expr-single acc (Break a) = refl
visit-expr-single acc (Continue a) = refl
visit-expr-single acc (Return a) = refl
visit-expr-single acc (CallType a b) = refl
visit-expr-single acc (Call a b) = refl
visit-expr-single acc (Select a b) = refl
visit-expr-single acc (SelectIndex a b) = refl
visit-expr-single acc (ExprFromPath Global) = refl
visit-expr-single acc (ExprFromPath Crate) = refl
visit-expr-single acc (ExprFromPath Self) = refl
visit-expr-single acc (ExprFromPath (PMemberSelect b n)) = visit-selected acc (cond (marked n) (unmarked n) n) b ∙ visit-marked acc n b (Text.marked n)
visit-expr-single acc (FunctionSelect a b) = refl
visit-expr-single acc (Lambda a b c) = refl

visit-identifier : (acc : Text.Mapping) (t : «Type») (p : Path)
    → cond (is 0x2C (Type_tree t)) (Add upstream (mapping acc) (Rattle.records.specs.Record.text (field 0 (Type_tree t))) (Path_tree p)) (mapping acc)
    ≡ mapping (Text.add_identifier acc p (Text.type_case t))
unfolding Type_tree nth
visit-identifier acc U8 p = refl
visit-identifier acc U16 p = refl
visit-identifier acc U32 p = refl
visit-identifier acc U64 p = refl
visit-identifier acc U128 p = refl
visit-identifier acc I8 p = refl
visit-identifier acc I16 p = refl
visit-identifier acc I32 p = refl
visit-identifier acc I64 p = refl
visit-identifier acc I128 p = refl
visit-identifier acc USIZE p = refl
visit-identifier acc Bool p = refl
visit-identifier acc (TIdentifier n) p = add-tree acc n p
visit-identifier acc (TypeFromPath a) p = refl
visit-identifier acc (TypeApp a b) p = refl
visit-identifier acc (Borrowed a) p = refl
visit-identifier acc (BorrowedMut a) p = refl
visit-identifier acc (ImplType a) p = refl
visit-identifier acc (DynType a) p = refl
visit-identifier acc (TupleType a) p = refl
visit-identifier acc (FnType a b) p = refl
visit-identifier acc (IntersectionType a b) p = refl
visit-identifier acc (Array a b) p = refl
visit-identifier acc (TSynonym a b) p = refl
visit-identifier acc (TMetaData a b c) p = refl

visit-trait-name : (acc : Text.Mapping) (t : «Type») (p : Path)
    → VisitTraitName upstream (mapping acc) (Type_tree t) (Path_tree p) ≡ mapping (Text.add_trait acc p (Text.type_case t))
unfolding VisitTraitName Type_tree nth
visit-trait-name acc U8 p = refl
visit-trait-name acc U16 p = refl
visit-trait-name acc U32 p = refl
visit-trait-name acc U64 p = refl
visit-trait-name acc U128 p = refl
visit-trait-name acc I8 p = refl
visit-trait-name acc I16 p = refl
visit-trait-name acc I32 p = refl
visit-trait-name acc I64 p = refl
visit-trait-name acc I128 p = refl
visit-trait-name acc USIZE p = refl
visit-trait-name acc Bool p = refl
visit-trait-name acc (TIdentifier n) p = add-tree acc n p
visit-trait-name acc (TypeFromPath a) p = refl
visit-trait-name acc (TypeApp t ts) p = visit-identifier acc t p
visit-trait-name acc (Borrowed a) p = refl
visit-trait-name acc (BorrowedMut a) p = refl
visit-trait-name acc (ImplType a) p = refl
visit-trait-name acc (DynType a) p = refl
visit-trait-name acc (TupleType a) p = refl
visit-trait-name acc (FnType a b) p = refl
visit-trait-name acc (IntersectionType a b) p = refl
visit-trait-name acc (Array a b) p = refl
visit-trait-name acc (TSynonym a b) p = refl
visit-trait-name acc (TMetaData a b c) p = refl

visit-decl-single : (acc : Text.Mapping) (d : ModDecl) (p : Path)
    → VisitModDeclSingle upstream (mapping acc) (ModDecl_tree d) (Path_tree p) ≡ mapping (Text.VisitModDeclSingle acc d p)
unfolding VisitModDeclSingle Text.VisitModDeclSingle ModDecl_tree Struct_tree TypeSynonym_tree Constant_tree Enum_tree Trait_tree TopFnDecl_tree Fn_tree nth
visit-decl-single acc (ModDecl' m) p = rw (name-tree m) (add-tree acc (Mod_name m) p)
visit-decl-single acc (StructDecl (Struct' d a n ps fs)) p = add-tree acc n p
visit-decl-single acc (TypeDecl (TypeSynonym' d a n ps t)) p = add-tree acc n p
visit-decl-single acc (ConstDecl (Constant' d a n t e)) p = add-tree acc n p
visit-decl-single acc (EnumDecl (Enum' d a n ps cs)) p = add-tree acc n p
visit-decl-single acc (ImplDecl i) p = refl
visit-decl-single acc (TraitDecl (Trait' d a ps t ts ms)) p = visit-trait-name acc t p
visit-decl-single acc (TopFnDecl' (TopFn d a k (Fn' n ps fs t e))) p = add-tree acc n p
visit-decl-single acc (UseDecl u) p = refl

-- what is collected of a module, in order
pub collected : (m : Mod) (p : Path)
    → mappings upstream (Mod_tree m) (Path_tree p) ≡ mapping (TextVisitor.VisitMod Text.PathsVisitor m (record { provenance = []; keys = [] }) p)
unfolding mappings
collected m p =
    visit-mod mapping (PathsVisitor upstream) Text.PathsVisitor visit-type-single visit-expr-single visit-decl-single refl m
    (record { provenance = []; keys = [] }) p

-- PathSimplifier's single functions
replaces-tree : (r : Text.FinalReplacement) (k : string) (b : Path) → replaces upstream (final-trees r) k (Path_tree b) ≡ Text.replaces r k b
unfolding replaces Text.replaces
replaces-tree r k b = rw (get_other Path_tree k r) (go (Text.get k r))
  where
    go : (o : Option Path)
        → whether (map Path_tree o) false (λ p. Rattle.factor_paths.specs.Mapping.equal upstream p (Path_tree b))
        ≡ Text.whether o false (λ p. Text.same_path p b)
    go none = refl
    go (some q) = same-path q b

replace-type-single : (r : Text.FinalReplacement) (t : «Type»)
    → ReplaceTypeSingle upstream (final-trees r) (Type_tree t) ≡ Type_tree (Text.ReplaceTypeSingle r t)
unfolding ReplaceTypeSingle Text.ReplaceTypeSingle Type_tree Path_tree nth
replace-type-single r U8 = refl
replace-type-single r U16 = refl
replace-type-single r U32 = refl
replace-type-single r U64 = refl
replace-type-single r U128 = refl
replace-type-single r I8 = refl
replace-type-single r I16 = refl
replace-type-single r I32 = refl
replace-type-single r I64 = refl
replace-type-single r I128 = refl
replace-type-single r USIZE = refl
replace-type-single r Bool = refl
replace-type-single r (TIdentifier a) = refl
replace-type-single r (TypeFromPath Global) = refl
replace-type-single r (TypeFromPath Crate) = refl
replace-type-single r (TypeFromPath Self) = refl
replace-type-single r (TypeFromPath (PMemberSelect b n)) =
    rw (replaces-tree r n b) (past-cond Type_tree (Text.replaces r n b) (TSynonym (TIdentifier n) (TypeFromPath (PMemberSelect b n)))
    (TypeFromPath (PMemberSelect b n)))
replace-type-single r (TypeApp a b) = refl
replace-type-single r (Borrowed a) = refl
replace-type-single r (BorrowedMut a) = refl
replace-type-single r (ImplType a) = refl
replace-type-single r (DynType a) = refl
replace-type-single r (TupleType a) = refl
replace-type-single r (FnType a b) = refl
replace-type-single r (IntersectionType a b) = refl
replace-type-single r (Array a b) = refl
replace-type-single r (TSynonym a b) = refl
replace-type-single r (TMetaData a b c) = refl

marked-tree : (t u : 𝔹) (n : string) (e : Expr)
    → cond t (Expr_tree (Identifier n)) (cond u (Expr_tree (Identifier n)) (Expr_tree e)) ≡ Expr_tree (cond t (Identifier n) (cond u (Identifier n) e))
marked-tree true u n e = refl
marked-tree false true n e = refl
marked-tree false false n e = refl

and-cond : {A : Type 0} (t u : 𝔹) (a b : A) → cond (t && u) a b ≡ cond t (cond u a b) b
and-cond true u a b = refl
and-cond false u a b = refl

replace-selected : (r : Text.FinalReplacement) (n : string) (b : Path) →
    cond (replaces upstream (final-trees r) n (Path_tree b)) (Expr_tree (Identifier n))
    (cond (marked n && replaces upstream (final-trees r) (unmarked n) (Path_tree b)) (Expr_tree (Identifier n)) (Expr_tree (ExprFromPath (PMemberSelect b n))))
    ≡ Expr_tree (cond (Text.replaces r n b) (Identifier n) (cond (Text.marked n)
    (cond (Text.replaces r (Text.unmarked n) b) (Identifier n) (ExprFromPath (PMemberSelect b n))) (ExprFromPath (PMemberSelect b n))))
replace-selected r n b =
    rw (
      replaces-tree r n b,
      replaces-tree r (unmarked n) b,
      ← and-cond (Text.marked n) (Text.replaces r (Text.unmarked n) b) (Identifier n)
          (ExprFromPath (PMemberSelect b n)),
    )
    (marked-tree (Text.replaces r n b) (Text.marked n && Text.replaces r (Text.unmarked n) b) n (ExprFromPath (PMemberSelect b n)))

replace-expr-single : (r : Text.FinalReplacement) (e : Expr) → ReplaceExprSingle upstream (final-trees r) (Expr_tree e) ≡ Expr_tree (Text.ReplaceExprSingle r e)
unfolding ReplaceExprSingle Text.ReplaceExprSingle Expr_tree Path_tree nth
replace-expr-single r (RawExpr a) = refl
replace-expr-single r (ExprFromType a) = refl
replace-expr-single r (Identifier a) = refl
replace-expr-single r (Match a b) = refl
replace-expr-single r (StmtExpr a b) = refl
replace-expr-single r (Block a) = refl
replace-expr-single r (StructBuild a b) = refl
replace-expr-single r (Tuple a) = refl
replace-expr-single r (UnaryOp a b c) = refl
replace-expr-single r (BinaryOp a b c d) = refl
replace-expr-single r (TypeAscription a b) = refl
replace-expr-single r (TraitCast a b) = refl
replace-expr-single r (LiteralInt a) = refl
replace-expr-single r (LiteralBool a) = refl
replace-expr-single r (LiteralString a b c) = refl
replace-expr-single r (DeclareVar a b c d) = refl
replace-expr-single r (Assign a b) = refl
replace-expr-single r (IfExpr a b c) = refl
replace-expr-single r (Loop a b) = refl
replace-expr-single r (For a b c) = refl
replace-expr-single r (Labelled a b) = refl
replace-expr-single r (Break a) = refl
replace-expr-single r (Continue a) = refl
replace-expr-single r (Return a) = refl
replace-expr-single r (CallType a b) = refl
replace-expr-single r (Call a b) = refl
replace-expr-single r (Select a b) = refl
replace-expr-single r (SelectIndex a b) = refl
replace-expr-single r (ExprFromPath Global) = refl
replace-expr-single r (ExprFromPath Crate) = refl
replace-expr-single r (ExprFromPath Self) = refl
replace-expr-single r (ExprFromPath (PMemberSelect b n)) = replace-selected r n b
replace-expr-single r (FunctionSelect a b) = refl
replace-expr-single r (Lambda a b c) = refl

-- the text's local variables in applyPrefix
abbrev mappings' : Mod → Path → Text.Mapping
mappings' m p = TextVisitor.VisitMod Text.PathsVisitor m (record { provenance = []; keys = [] }) p

abbrev removed' : Mod → Path → Text.FinalReplacement
removed' m p = Text.ToFinalReplacement (mappings' m p).provenance p

removed-tree : (m : Mod) (p : Path) → paths_to_remove upstream (Mod_tree m) (Path_tree p) ≡ final-trees (removed' m p)
unfolding paths_to_remove
removed-tree m p = rw (collected m p) (to-final-tree p (mappings' m p).provenance)

imports-tree : (m : Mod) (p : Path) → imports upstream (Mod_tree m) (Path_tree p) ≡ ModDecls_trees (Text.ToUseStatements (mappings' m p).keys (removed' m p) p)
unfolding imports
imports-tree m p = rw (removed-tree m p, collected m p) (to-use-tree (mappings' m p).keys (removed' m p) p)

-- mod.(body := imports + mod.body)
with-imports-tree : (is : ModDecls) (m : Mod) → update 3 (λ body. put (ModDecls_trees is ▸▸ children body) body) (Mod_tree m) ≡ Mod_tree (Text.with_imports is m)
unfolding Mod_tree set_nth
with-imports-tree is (Mod' d a n ds) = ap (λ c. node 0x60 (text d ▸ kept a ▸ text n ▸ list c ▸ nil)) (append-trees is ds)
with-imports-tree is (ExternMod n) = refl

simplified-tree : (f : Record → Record → Record) (f' : Mod → Path → Mod) → ((m : Mod) (p : Path) → f (Mod_tree m) (Path_tree p) ≡ Mod_tree (f' m p))
    → (r : Text.FinalReplacement) (m : Mod) (p : Path) →
    ReplaceMod upstream (PathSimplifier upstream f (final-trees r)) (Mod_tree m) (Path_tree p)
    ≡ Mod_tree (TextReplacer.ReplaceMod (Text.PathSimplifier f' r) m p)
unfolding PathSimplifier Text.PathSimplifier
simplified-tree f f' h r m p =
    replace-mod upstream refl (PathSimplifier upstream f (final-trees r)) (Text.PathSimplifier f' r) single (replace-type-single r) (replace-expr-single r) m p
  where
    single : (m : Mod) (p : Path)
        → f (Mod_tree m) (Rattle.rast.specs.Path.MSel (Path_tree p) (Rattle.rast.specs.Mod.name_of (Mod_tree m))) ≡ Mod_tree (f' m (MSel p (Mod_name m)))
    single m p = ap (f (Mod_tree m)) (path-tree p m) ∙ h m (MSel p (Mod_name m))

-- one module, if the modules in it come out as the text's do
prefix-step : (f : Record → Record → Record) (f' : Mod → Path → Mod) → ((m : Mod) (p : Path) → f (Mod_tree m) (Path_tree p) ≡ Mod_tree (f' m p))
    → (m : Mod) (p : Path) →
    update 3 (λ body. put (imports upstream (Mod_tree m) (Path_tree p) ▸▸ children body) body)
    (ReplaceMod upstream (PathSimplifier upstream f (paths_to_remove upstream (Mod_tree m) (Path_tree p))) (Mod_tree m) (Path_tree p))
    ≡ Mod_tree (Text.with_imports (Text.ToUseStatements (mappings' m p).keys (removed' m p) p)
    (TextReplacer.ReplaceMod (Text.PathSimplifier f' (removed' m p)) m p))
prefix-step f f' h m p = rw (imports-tree m p, removed-tree m p, simplified-tree f f' h (removed' m p) m p) (with-imports-tree _ _)

pub apply-prefix : (n : ℕ) (m : Mod) (p : Path) → apply_prefix upstream n (Mod_tree m) (Path_tree p) ≡ Mod_tree (Text.apply_prefix n m p)
unfolding apply_prefix Text.apply_prefix Mod_tree
apply-prefix zero m p = refl
apply-prefix (suc n) (Mod' d a name ds) p = prefix-step (apply_prefix upstream n) (Text.apply_prefix n) (λ m q. apply-prefix n m q) (Mod' d a name ds) p
apply-prefix (suc n) (ExternMod name) p = refl
