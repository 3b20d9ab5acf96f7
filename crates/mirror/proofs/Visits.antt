-- The visitor over the record tree of a module is the text's visitor over the module, if their single functions agree so. Assumes nothing.
use mathlib.Core.Path.{◌≡◌, refl, ap, ◌∙◌}
use mathlib.Core.List.{List, [], ◌∷◌}
use mathlib.Core.Option.{Option, none, some}
use mathlib.Core.Bool.{false}
use Rattle.records.specs.Record.{Record, children, FoldLeft, nth}
use Rattle.rast.specs.Mod.{Mod-as-Fold}
use Rattle.rast.specs.Fold.{Fold}
use Rattle.rast.specs.Visitor.{RASTTopDownVisitor, VisitType, VisitTypeParams, VisitFields, VisitFn, VisitMember, VisitBody, VisitImplMapping, VisitUse}
use Rattle.rast.specs.Visitor.{VisitTopFn, VisitTraitDecl, VisitStructMapping, VisitModMapping, VisitMod}
use Rattle.mirror.specs.Rast.{Path, «Type», Types, []ᵗ, ◌∷ᵗ◌, Formal, Formal', Expr, TypeParamDecl, TypeParamDecl', Field, Field', NamelessField}
use Rattle.mirror.specs.Rast.{NamelessField', Fields, NamedFields, NamelessFields, Struct, Struct', TypeSynonym, TypeSynonym', Constant, Constant'}
use Rattle.mirror.specs.Rast.{EnumCase, EnumCase', Enum, Enum', Fn, Fn', ImplMember, RawImplMember, TypeDeclMember, FnDecl, ImplMemberMacro, Impl}
use Rattle.mirror.specs.Rast.{ImplFor, Impl', Trait, Trait', TopFnDecl, TopFn}
use Rattle.mirror.specs.Rast.{Mod, Mod', ExternMod, ModDecl, ModDecl', StructDecl, TypeDecl, ConstDecl, EnumDecl, ImplDecl, TraitDecl, TopFnDecl'}
use Rattle.mirror.specs.Rast.{UseDecl, ModDecls, []ᵐ, ◌∷ᵐ◌}
use Rattle.mirror.specs.Fold as Text
use Rattle.mirror.specs.Visitor as TextVisitor
use Rattle.mirror.specs.Tree.{trees, seq, option, type_params_tree, Path_tree, Type_tree, Types_trees, Formal_tree, Expr_tree, TypeParamDecl_tree}
use Rattle.mirror.specs.Tree.{Field_tree, NamelessField_tree, Fields_tree, Struct_tree, TypeSynonym_tree, Constant_tree, EnumCase_tree, Enum_tree}
use Rattle.mirror.specs.Tree.{Fn_tree, ImplMember_tree, Impl_tree, Trait_tree, TopFnDecl_tree, Mod_tree, ModDecl_tree, ModDecls_trees}
use Rattle.mirror.proofs.Folds.{fold_type, fold-expr}

-- FoldLeft over the records of a seq, of a seq of types, and of an Option
module _ {T S A : Type 0} (g : S → T) (tree : A → Record) (step : T → Record → T) (step' : S → A → S)
    (h : (acc : S) (x : A) → step (g acc) (tree x) ≡ g (step' acc x)) where
  fold-seq : (xs : List A) (acc : S) → FoldLeft step (g acc) (trees tree xs) ≡ g (Text.FoldLeft step' acc xs)
  unfolding FoldLeft Text.FoldLeft trees
  fold-seq [] acc = refl
  fold-seq (x ∷ xs) acc = ap (λ a. FoldLeft step a (trees tree xs)) (h acc x) ∙ fold-seq xs _

  fold-option : (o : Option A) (acc : S) → FoldLeft step (g acc) (children (option tree o)) ≡ g (Text.if_some o acc (λ value. step' acc value))
  unfolding FoldLeft
  fold-option none acc = refl
  fold-option (some x) acc = h acc x

module _ {T S : Type 0} (g : S → T) (step : T → Record → T) (step' : S → «Type» → S) (h : (acc : S) (t : «Type») → step (g acc) (Type_tree t) ≡ g (step' acc t))
  where
    fold-types-seq : (ts : Types) (acc : S) → FoldLeft step (g acc) (Types_trees ts) ≡ g (Text.FoldTypes step' acc ts)
    unfolding FoldLeft Text.FoldTypes Types_trees
    fold-types-seq []ᵗ acc = refl
    fold-types-seq (t ∷ᵗ ts) acc = ap (λ a. FoldLeft step a (Types_trees ts)) (h acc t) ∙ fold-types-seq ts _

module _ {T S : Type 0} (g : S → T) (v : RASTTopDownVisitor T) (v' : TextVisitor.RASTTopDownVisitor S)
    (ht : (acc : S) (t : «Type») → v.VisitTypeSingle (g acc) (Type_tree t) ≡ g (v'.VisitTypeSingle acc t))
    (hf : (acc : S) (e : Expr) → v.VisitExprSingle (g acc) (Expr_tree e) ≡ g (v'.VisitExprSingle acc e))
    (hd : (acc : S) (d : ModDecl) (p : Path) → v.VisitModDeclSingle (g acc) (ModDecl_tree d) (Path_tree p) ≡ g (v'.VisitModDeclSingle acc d p))
    (flat : v'.recurse_submodules ≡ false) where
  ty : (t : «Type») (acc : S) → Fold (λ acc e. acc) v.VisitTypeSingle (g acc) (Type_tree t) ≡ g (Text.Type_Fold v'.VisitTypeSingle t acc)
  ty = fold_type g (λ acc e. acc) v.VisitTypeSingle v'.VisitTypeSingle ht

  ex : (e : Expr) (acc : S)
      → Fold v.VisitExprSingle v.VisitTypeSingle (g acc) (Expr_tree e) ≡ g (Text.Expr_Fold v'.VisitExprSingle v'.VisitTypeSingle e acc)
  ex = fold-expr g v.VisitExprSingle v.VisitTypeSingle v'.VisitExprSingle v'.VisitTypeSingle hf ht

  visit-type : (acc : S) (t : «Type») → VisitType v (g acc) (Type_tree t) ≡ g (TextVisitor.VisitType v' acc t)
  unfolding VisitType TextVisitor.VisitType
  visit-type acc t = ty t acc

  visit-constraints : (acc : S) (p : TypeParamDecl)
      → FoldLeft (λ acc t. VisitType v acc t) (g acc) (children (nth 1 (children (TypeParamDecl_tree p))))
      ≡ g (Text.FoldTypes (λ acc t. TextVisitor.VisitType v' acc t) acc (TextVisitor.constraints p))
  unfolding TypeParamDecl_tree nth
  visit-constraints acc (TypeParamDecl' n ts) = fold-types-seq g _ _ visit-type ts acc

  visit-type_params : (acc : S) (ps : List TypeParamDecl) → VisitTypeParams v (g acc) (type_params_tree ps) ≡ g (TextVisitor.VisitTypeParams v' acc ps)
  unfolding VisitTypeParams TextVisitor.VisitTypeParams
  visit-type_params acc ps = fold-seq g TypeParamDecl_tree _ _ visit-constraints ps acc

  visit-field : (acc : S) (f : Field)
      → VisitType v (g acc) (nth 1 (children (nth 1 (children (Field_tree f)))))
      ≡ g (TextVisitor.VisitType v' acc (TextVisitor.Formal_tpe (TextVisitor.Field_formal f)))
  unfolding Field_tree Formal_tree nth
  visit-field acc (Field' k (Formal' n t)) = visit-type acc t

  visit-nameless_field : (acc : S) (f : NamelessField)
      → VisitType v (g acc) (nth 1 (children (NamelessField_tree f))) ≡ g (TextVisitor.VisitType v' acc (TextVisitor.NamelessField_tpe f))
  unfolding NamelessField_tree nth
  visit-nameless_field acc (NamelessField' k t) = visit-type acc t

  visit-fields : (acc : S) (f : Fields) → VisitFields v (g acc) (Fields_tree f) ≡ g (TextVisitor.VisitFields v' acc f)
  unfolding VisitFields TextVisitor.VisitFields Fields_tree nth
  visit-fields acc (NamedFields fs) = fold-seq g Field_tree _ _ visit-field fs acc
  visit-fields acc (NamelessFields fs) = fold-seq g NamelessField_tree _ _ visit-nameless_field fs acc

  visit-formal : (acc : S) (f : Formal)
      → Fold (λ acc e. acc) v.VisitTypeSingle (g acc) (nth 1 (children (Formal_tree f)))
      ≡ g (Text.Type_Fold v'.VisitTypeSingle (TextVisitor.Formal_tpe f) acc)
  unfolding Formal_tree nth
  visit-formal acc (Formal' n t) = ty t acc

  visit-formals : (acc : S) (fs : List Formal)
      → FoldLeft (λ acc f. Fold (λ acc e. acc) v.VisitTypeSingle acc (nth 1 (children f))) (g acc) (trees Formal_tree fs)
      ≡ g (Text.FoldLeft (λ acc f. Text.Type_Fold v'.VisitTypeSingle (TextVisitor.Formal_tpe f) acc) acc fs)
  visit-formals acc fs = fold-seq g Formal_tree (λ acc f. Fold (λ acc e. acc) v.VisitTypeSingle acc (nth 1 (children f))) _ visit-formal fs acc

  visit-result : (acc : S) (o : Option «Type»)
      → FoldLeft (λ acc t. Fold (λ acc e. acc) v.VisitTypeSingle acc t) (g acc) (children (option Type_tree o))
      ≡ g (Text.if_some o acc (λ value. Text.Type_Fold v'.VisitTypeSingle value acc))
  visit-result acc o =
      fold-option g Type_tree (λ acc t. Fold (λ acc e. acc) v.VisitTypeSingle acc t) (λ acc value. Text.Type_Fold v'.VisitTypeSingle value acc)
      (λ acc t. ty t acc) o acc

  visit-fn_body : (acc : S) (o : Option Expr)
      → FoldLeft (λ acc e. Fold v.VisitExprSingle v.VisitTypeSingle acc e) (g acc) (children (option Expr_tree o))
      ≡ g (Text.if_some o acc (λ value. Text.Expr_Fold v'.VisitExprSingle v'.VisitTypeSingle value acc))
  visit-fn_body acc o =
      fold-option g Expr_tree (λ acc e. Fold v.VisitExprSingle v.VisitTypeSingle acc e)
      (λ acc value. Text.Expr_Fold v'.VisitExprSingle v'.VisitTypeSingle value acc) (λ acc e. ex e acc) o acc

  visit-fn : (acc : S) (fn : Fn) → VisitFn v (g acc) (Fn_tree fn) ≡ g (TextVisitor.VisitFn v' acc fn)
  unfolding VisitFn TextVisitor.VisitFn Fn_tree nth
  visit-fn acc (Fn' n ps fs t e) = rw (visit-type_params acc ps, visit-formals _ fs, visit-result _ t) (visit-fn_body _ e)

  visit-member : (acc : S) (m : ImplMember) → VisitMember v (g acc) (ImplMember_tree m) ≡ g (TextVisitor.VisitMember v' acc m)
  unfolding VisitMember TextVisitor.VisitMember ImplMember_tree nth
  visit-member acc (RawImplMember b) = refl
  visit-member acc (TypeDeclMember n t) = visit-type acc t
  visit-member acc (FnDecl d a k fn) = visit-fn acc fn
  visit-member acc (ImplMemberMacro e) = ex e acc

  visit-body : (acc : S) (ms : List ImplMember) → VisitBody v (g acc) (seq ImplMember_tree ms) ≡ g (TextVisitor.VisitBody v' acc ms)
  unfolding VisitBody TextVisitor.VisitBody
  visit-body acc ms = fold-seq g ImplMember_tree _ _ visit-member ms acc

  visit-impl : (acc : S) (i : Impl) → VisitImplMapping v (g acc) (Impl_tree i) ≡ g (TextVisitor.VisitImplMapping v' acc i)
  unfolding VisitImplMapping TextVisitor.VisitImplMapping Impl_tree nth
  visit-impl acc (ImplFor ps t u ms) = rw (visit-type_params acc ps, visit-type _ t, visit-type _ u) (visit-body _ ms)
  visit-impl acc (Impl' ps t ms) = rw (visit-type acc t) (visit-body _ ms)

  visit-top_fn : (acc : S) (t : TopFnDecl) → VisitTopFn v (g acc) (TopFnDecl_tree t) ≡ g (TextVisitor.VisitTopFn v' acc t)
  unfolding VisitTopFn TextVisitor.VisitTopFn TopFnDecl_tree nth
  visit-top_fn acc (TopFn d a k fn) = visit-fn acc fn

  visit-trait : (acc : S) (t : Trait) → VisitTraitDecl v (g acc) (Trait_tree t) ≡ g (TextVisitor.VisitTraitDecl v' acc t)
  unfolding VisitTraitDecl TextVisitor.VisitTraitDecl Trait_tree nth
  visit-trait acc (Trait' d a ps t ts ms) =
      rw (visit-type_params acc ps, ty t _, fold-types-seq g _ _ (λ acc t. ty t acc) ts _) (visit-body _ ms)

  visit-struct : (acc : S) (s : Struct) → VisitStructMapping v (g acc) (Struct_tree s) ≡ g (TextVisitor.VisitStructMapping v' acc s)
  unfolding VisitStructMapping TextVisitor.VisitStructMapping Struct_tree nth
  visit-struct acc (Struct' d a n ps fs) = visit-type_params acc ps

  visit-enum_case : (acc : S) (c : EnumCase)
      → VisitFields v (g acc) (nth 2 (children (EnumCase_tree c))) ≡ g (TextVisitor.VisitFields v' acc (TextVisitor.EnumCase_fields c))
  unfolding EnumCase_tree nth
  visit-enum_case acc (EnumCase' d n fs) = visit-fields acc fs

  visit-type_synonym : (acc : S) (t : TypeSynonym)
      → VisitType v (VisitTypeParams v (g acc) (nth 3 (children (TypeSynonym_tree t)))) (nth 4 (children (TypeSynonym_tree t)))
      ≡ g (TextVisitor.VisitTypeSynonym v' acc t)
  unfolding TextVisitor.VisitTypeSynonym TypeSynonym_tree nth
  visit-type_synonym acc (TypeSynonym' d a n ps t) = rw (visit-type_params acc ps) (visit-type _ t)

  visit-constant : (acc : S) (c : Constant)
      → Fold v.VisitExprSingle v.VisitTypeSingle (VisitType v (g acc) (nth 3 (children (Constant_tree c)))) (nth 4 (children (Constant_tree c)))
      ≡ g (TextVisitor.VisitConstant v' acc c)
  unfolding TextVisitor.VisitConstant Constant_tree nth
  visit-constant acc (Constant' d a n t e) = rw (visit-type acc t) (ex e _)

  visit-enum : (acc : S) (e : Enum)
      → FoldLeft (λ acc enum_case. VisitFields v acc (nth 2 (children enum_case))) (VisitTypeParams v (g acc) (nth 3 (children (Enum_tree e))))
      (children (nth 4 (children (Enum_tree e)))) ≡ g (TextVisitor.VisitEnum v' acc e)
  unfolding TextVisitor.VisitEnum Enum_tree nth
  visit-enum acc (Enum' d a n ps cs) =
      rw (visit-type_params acc ps) (fold-seq g EnumCase_tree (λ acc enum_case. VisitFields v acc (nth 2 (children enum_case))) _ visit-enum_case cs _)

  visit-decl : (d : ModDecl) (acc : S) (p : Path) → VisitModMapping v (g acc) (ModDecl_tree d) (Path_tree p) ≡ g (TextVisitor.VisitModMapping v' d acc p)
  unfolding VisitModMapping TextVisitor.VisitModMapping ModDecl_tree nth VisitUse TextVisitor.VisitUse
  visit-decl (ModDecl' m) acc p = rw flat (hd acc (ModDecl' m) p)
  visit-decl (StructDecl s) acc p = rw (hd acc (StructDecl s) p) (visit-struct _ s)
  visit-decl (TypeDecl t) acc p = rw (hd acc (TypeDecl t) p) (visit-type_synonym _ t)
  visit-decl (ConstDecl c) acc p = rw (hd acc (ConstDecl c) p) (visit-constant _ c)
  visit-decl (EnumDecl e) acc p = rw (hd acc (EnumDecl e) p) (visit-enum _ e)
  visit-decl (ImplDecl i) acc p = rw (hd acc (ImplDecl i) p) (visit-impl _ i)
  visit-decl (TraitDecl t) acc p = rw (hd acc (TraitDecl t) p) (visit-trait _ t)
  visit-decl (TopFnDecl' f) acc p = rw (hd acc (TopFnDecl' f) p) (visit-top_fn _ f)
  visit-decl (UseDecl u) acc p = hd acc (UseDecl u) p

  visit-decls : (ds : ModDecls) (acc : S) (p : Path)
      → FoldLeft (λ acc modDecl. VisitModMapping v acc modDecl (Path_tree p)) (g acc) (ModDecls_trees ds) ≡ g (TextVisitor.VisitModDecls v' ds acc p)
  unfolding FoldLeft TextVisitor.VisitModDecls ModDecls_trees
  visit-decls []ᵐ acc p = refl
  visit-decls (d ∷ᵐ ds) acc p =
      ap (λ a. FoldLeft (λ acc modDecl. VisitModMapping v acc modDecl (Path_tree p)) a (ModDecls_trees ds)) (visit-decl d acc p) ∙ visit-decls ds _ p

  pub visit-mod : (m : Mod) (acc : S) (p : Path) → VisitMod v (g acc) (Mod_tree m) (Path_tree p) ≡ g (TextVisitor.VisitMod v' m acc p)
  unfolding VisitMod TextVisitor.VisitMod Mod-as-Fold Mod_tree nth
  visit-mod (Mod' d a n ds) acc p = visit-decls ds acc p
  visit-mod (ExternMod n) acc p = refl
