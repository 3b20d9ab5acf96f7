-- The replacer over the record tree of a module gives the record tree of what the text's replacer gives, if their single functions agree so and ReplaceFn walks
-- again. Assumes nothing.
use mathlib.Core.Path.{◌≡◌, refl, ap, ap₂, ◌∙◌}
use mathlib.Core.List.{List, [], ◌∷◌, map}
use mathlib.Core.Option
use mathlib.Core.Option.{Option, none, some}
use mathlib.Core.Bool.{true, cond}
use Rattle.records.specs.Record.{Record, node, nil, ◌▸◌, ◌▸▸◌, FoldLeft, nth, set_nth, map_all, Map, update}
use Rattle.rast.specs.Operation.{Operation}
use Rattle.rast.specs.Mod.{Mod-as-Fold}
use Rattle.rast.specs.Replace.{Replace}
use Rattle.rast.specs.Replacer.{RASTBottomUpReplacer, ReplaceType, ReplaceExpr, ReplaceFields, ReplaceTypeParams, ReplaceFn, ReplaceImplMember, ReplaceBody}
use Rattle.rast.specs.Replacer.{ReplaceUse, ReplaceTopFn, ReplaceTrait, ReplaceImplDecl, ReplaceEnumCase, ReplaceEnum, ReplaceConst, ReplaceTypeDecl}
use Rattle.rast.specs.Replacer.{ReplaceStruct, ReplaceModDecl, ReplaceMod}
use Rattle.mirror.specs.Rast.{string, Path, «Type», Types, []ᵗ, ◌∷ᵗ◌, Formal, Formal', Expr, TypeParamDecl, TypeParamDecl', Field, Field', NamelessField}
use Rattle.mirror.specs.Rast.{NamelessField', Fields, NamedFields, NamelessFields, Struct, Struct', TypeSynonym, TypeSynonym', Constant, Constant'}
use Rattle.mirror.specs.Rast.{EnumCase, EnumCase', Enum, Enum', Fn, Fn', ImplMember, RawImplMember, TypeDeclMember, FnDecl, ImplMemberMacro, Impl}
use Rattle.mirror.specs.Rast.{ImplFor, Impl', Trait, Trait', TopFnDecl, TopFn, Use, Use'}
use Rattle.mirror.specs.Rast.{Mod, Mod', ExternMod, ModDecl, ModDecl', StructDecl, TypeDecl, ConstDecl, EnumDecl, ImplDecl, TraitDecl, TopFnDecl'}
use Rattle.mirror.specs.Rast.{UseDecl, ModDecls, []ᵐ, ◌∷ᵐ◌}
use Rattle.mirror.specs.Fold.{FoldModDecls}
use Rattle.mirror.specs.Fold as TextFold
use Rattle.mirror.specs.Replace as TextReplace
use Rattle.mirror.specs.Visitor.{MSel, Mod_name}
use Rattle.mirror.specs.Replacer.{◌++ᵐ◌}
use Rattle.mirror.specs.Replacer as Text
use Rattle.mirror.specs.Tree.{text, kept, list, trees, seq, option, type_params_tree, Path_tree, Type_tree, Types_trees, Formal_tree, Expr_tree}
use Rattle.mirror.specs.Tree.{TypeParamDecl_tree, Field_tree, NamelessField_tree, Fields_tree, Struct_tree, TypeSynonym_tree, Constant_tree}
use Rattle.mirror.specs.Tree.{EnumCase_tree, Enum_tree, Fn_tree, ImplMember_tree, Impl_tree, Trait_tree, TopFnDecl_tree, Use_tree, Mod_tree, ModDecl_tree}
use Rattle.mirror.specs.Tree.{ModDecls_trees}
use Rattle.mirror.proofs.Replaces.{replace-type, replace-expr, replace-formal}

-- Seq.Map over the records of a seq, of a seq of types, and of an Option
module _ {A : Type 0} (tree : A → Record) (f : Record → Record) (f' : A → A) (h : (x : A) → f (tree x) ≡ tree (f' x)) where
  map-seq : (xs : List A) → map_all f (trees tree xs) ≡ trees tree (map f' xs)
  unfolding map_all trees
  map-seq [] = refl
  map-seq (x ∷ xs) = ap₂ ◌▸◌ (h x) (map-seq xs)

  map-option : (o : Option A) → Map f (option tree o) ≡ option tree (Option.map f' o)
  unfolding map_all
  map-option none = refl
  map-option (some x) = ap (λ r. list (r ▸ nil)) (h x)

map-types : (f : Record → Record) (f' : «Type» → «Type») → ((t : «Type») → f (Type_tree t) ≡ Type_tree (f' t)) → (ts : Types)
    → map_all f (Types_trees ts) ≡ Types_trees (TextReplace.map_types f' ts)
unfolding map_all Types_trees TextReplace.map_types
map-types f f' h []ᵗ = refl
map-types f f' h (t ∷ᵗ ts) = ap₂ ◌▸◌ (h t) (map-types f f' h ts)

-- one seq after another
pub append-trees : (cs ds : ModDecls) → ModDecls_trees cs ▸▸ ModDecls_trees ds ≡ ModDecls_trees (cs ++ᵐ ds)
unfolding ◌▸▸◌ ◌++ᵐ◌ ModDecls_trees
append-trees []ᵐ ds = refl
append-trees (c ∷ᵐ cs) ds = ap (λ d. ModDecl_tree c ▸ d) (append-trees cs ds)

-- mod.name
pub name-tree : (m : Mod) → Rattle.rast.specs.Mod.name_of (Mod_tree m) ≡ Mod_name m
unfolding Mod_tree nth
name-tree (Mod' d a n ds) = refl
name-tree (ExternMod n) = refl

-- SelfPath.MSel(mod.name)
pub path-tree : (p : Path) (m : Mod) → Rattle.rast.specs.Path.MSel (Path_tree p) (Rattle.rast.specs.Mod.name_of (Mod_tree m)) ≡ Path_tree (MSel p (Mod_name m))
unfolding Path_tree
path-tree p m = ap (Rattle.rast.specs.Path.MSel (Path_tree p)) (name-tree m)

module _ (op : Operation) (again : op.walks_again ≡ true) (r : RASTBottomUpReplacer) (r' : Text.RASTBottomUpReplacer)
    (hm : (m : Mod) (p : Path) → r.ReplaceModSingle (Mod_tree m) (Path_tree p) ≡ Mod_tree (r'.ReplaceModSingle m p))
    (ht : (t : «Type») → r.ReplaceTypeSingle (Type_tree t) ≡ Type_tree (r'.ReplaceTypeSingle t))
    (hf : (e : Expr) → r.ReplaceExprSingle (Expr_tree e) ≡ Expr_tree (r'.ReplaceExprSingle e)) where
  type' : (t : «Type») → ReplaceType op r (Type_tree t) ≡ Type_tree (Text.ReplaceType r' t)
  unfolding ReplaceType Text.ReplaceType
  type' t = replace-type (λ e. e) r.ReplaceTypeSingle r'.ReplaceTypeSingle ht t

  expr' : (e : Expr) → ReplaceExpr op r (Expr_tree e) ≡ Expr_tree (Text.ReplaceExpr r' e)
  unfolding ReplaceExpr Text.ReplaceExpr
  expr' e = replace-expr r.ReplaceExprSingle r.ReplaceTypeSingle r'.ReplaceExprSingle r'.ReplaceTypeSingle hf ht e

  field' : (f : Field) → update 1 (update 1 (ReplaceType op r)) (Field_tree f) ≡ Field_tree (Text.in_field r' f)
  unfolding Field_tree Formal_tree set_nth
  field' (Field' k (Formal' n t)) = ap (λ u. node 0x77 (kept k ▸ node 0x7E (text n ▸ u ▸ nil) ▸ nil)) (type' t)

  nameless_field' : (f : NamelessField) → update 1 (ReplaceType op r) (NamelessField_tree f) ≡ NamelessField_tree (Text.in_nameless_field r' f)
  unfolding NamelessField_tree set_nth
  nameless_field' (NamelessField' k t) = ap (λ u. node 0x78 (kept k ▸ u ▸ nil)) (type' t)

  fields' : (f : Fields) → ReplaceFields op r (Fields_tree f) ≡ Fields_tree (Text.ReplaceFields r' f)
  unfolding ReplaceFields Text.ReplaceFields Fields_tree set_nth
  fields' (NamedFields fs) = ap (λ c. node 0x75 (list c ▸ nil)) (map-seq Field_tree _ _ field' fs)
  fields' (NamelessFields fs) = ap (λ c. node 0x76 (list c ▸ nil)) (map-seq NamelessField_tree _ _ nameless_field' fs)

  type_param' : (p : TypeParamDecl) → update 1 (Map (ReplaceType op r)) (TypeParamDecl_tree p) ≡ TypeParamDecl_tree (Text.in_type_param r' p)
  unfolding TypeParamDecl_tree set_nth
  type_param' (TypeParamDecl' n ts) = ap (λ c. node 0x7F (text n ▸ list c ▸ nil)) (map-types _ _ type' ts)

  type_params' : (ps : List TypeParamDecl) → ReplaceTypeParams op r (type_params_tree ps) ≡ type_params_tree (Text.ReplaceTypeParams r' ps)
  unfolding ReplaceTypeParams Text.ReplaceTypeParams
  type_params' ps = ap list (map-seq TypeParamDecl_tree _ _ type_param' ps)

  formals' : (fs : List Formal)
      → map_all (λ formal. Replace (λ e. e) (ReplaceType op r) formal) (trees Formal_tree fs)
      ≡ trees Formal_tree (map (λ f. TextReplace.Formal_Replace (Text.ReplaceType r') f) fs)
  formals' fs = map-seq Formal_tree _ _ (replace-formal (λ e. e) (ReplaceType op r) (Text.ReplaceType r') type') fs

  result' : (o : Option «Type»)
      → Map (λ t. Replace (λ e. e) (ReplaceType op r) t) (option Type_tree o)
      ≡ option Type_tree (Option.map (λ value. TextReplace.Type_Replace (Text.ReplaceType r') value) o)
  result' o = map-option Type_tree _ _ (replace-type (λ e. e) (ReplaceType op r) (Text.ReplaceType r') type') o

  fn_body' : (o : Option Expr)
      → Map (λ e. Replace (ReplaceExpr op r) (ReplaceType op r) e) (option Expr_tree o)
      ≡ option Expr_tree (Option.map (λ value. TextReplace.Expr_Replace (Text.ReplaceExpr r') (Text.ReplaceType r') value) o)
  fn_body' o = map-option Expr_tree _ _ (replace-expr (ReplaceExpr op r) (ReplaceType op r) (Text.ReplaceExpr r') (Text.ReplaceType r') expr' type') o

  -- what ReplaceFn gives if it hands on ft and f
  handing : (ft f : Record → Record) → ft ≡ ReplaceType op r → f ≡ ReplaceExpr op r
      → (n : string) (ps : List TypeParamDecl) (fs : List Formal) (t : Option «Type») (e : Option Expr) →
      node 0x7D (text n ▸ ReplaceTypeParams op r (type_params_tree ps) ▸ list (map_all (λ formal. Replace (λ e. e) ft formal) (trees Formal_tree fs))
      ▸ Map (λ t. Replace (λ e. e) ft t) (option Type_tree t) ▸ Map (λ e. Replace f ft e) (option Expr_tree e) ▸ nil)
      ≡ Fn_tree (Text.ReplaceFn r' (Fn' n ps fs t e))
  unfolding Text.ReplaceFn Fn_tree
  handing ft f et ef n ps fs t e = rw (et, ef, type_params' ps, formals' fs, result' t, fn_body' e)

  fn' : (f : Fn) → ReplaceFn op r (Fn_tree f) ≡ Fn_tree (Text.ReplaceFn r' f)
  unfolding ReplaceFn Fn_tree set_nth
  fn' (Fn' n ps fs t e) =
      handing (cond op.walks_again (ReplaceType op r) r.ReplaceTypeSingle) (cond op.walks_again (ReplaceExpr op r) r.ReplaceExprSingle)
      (ap (λ b. cond b (ReplaceType op r) r.ReplaceTypeSingle) again) (ap (λ b. cond b (ReplaceExpr op r) r.ReplaceExprSingle) again) n ps fs t e

  member' : (m : ImplMember) → ReplaceImplMember op r (ImplMember_tree m) ≡ ImplMember_tree (Text.ReplaceImplMember r' m)
  unfolding ReplaceImplMember Text.ReplaceImplMember ImplMember_tree set_nth
  member' (RawImplMember b) = refl
  member' (TypeDeclMember n t) = rw (type' t)
  member' (FnDecl d a k f) = rw (fn' f)
  member' (ImplMemberMacro e) = rw (expr' e)

  body' : (ms : List ImplMember) → ReplaceBody op r (seq ImplMember_tree ms) ≡ seq ImplMember_tree (Text.ReplaceBody r' ms)
  unfolding ReplaceBody Text.ReplaceBody
  body' ms = ap list (map-seq ImplMember_tree _ _ member' ms)

  top_fn' : (t : TopFnDecl) → ReplaceTopFn op r (TopFnDecl_tree t) ≡ TopFnDecl_tree (Text.ReplaceTopFn r' t)
  unfolding ReplaceTopFn Text.ReplaceTopFn TopFnDecl_tree set_nth
  top_fn' (TopFn d a k f) = rw (fn' f)

  trait' : (t : Trait) → ReplaceTrait op r (Trait_tree t) ≡ Trait_tree (Text.ReplaceTrait r' t)
  unfolding ReplaceTrait Text.ReplaceTrait Trait_tree set_nth
  trait' (Trait' d a ps t ts ms) = rw (type_params' ps, type' t, map-types (ReplaceType op r) (λ t. Text.ReplaceType r' t) type' ts, body' ms)

  impl' : (i : Impl) → ReplaceImplDecl op r (Impl_tree i) ≡ Impl_tree (Text.ReplaceImplDecl r' i)
  unfolding ReplaceImplDecl Text.ReplaceImplDecl Impl_tree set_nth
  impl' (ImplFor ps t u ms) = rw (type_params' ps, type' t, type' u, body' ms)
  impl' (Impl' ps t ms) = rw (type_params' ps, type' t, body' ms)

  enum_case' : (c : EnumCase) → ReplaceEnumCase op r (EnumCase_tree c) ≡ EnumCase_tree (Text.ReplaceEnumCase r' c)
  unfolding ReplaceEnumCase Text.ReplaceEnumCase EnumCase_tree set_nth
  enum_case' (EnumCase' d n fs) = rw (fields' fs)

  enum' : (e : Enum) → ReplaceEnum op r (Enum_tree e) ≡ Enum_tree (Text.ReplaceEnum r' e)
  unfolding ReplaceEnum Text.ReplaceEnum Enum_tree set_nth
  enum' (Enum' d a n ps cs) = rw (type_params' ps, map-seq EnumCase_tree (ReplaceEnumCase op r) (λ t. Text.ReplaceEnumCase r' t) enum_case' cs)

  constant' : (c : Constant) → ReplaceConst op r (Constant_tree c) ≡ Constant_tree (Text.ReplaceConst r' c)
  unfolding ReplaceConst Text.ReplaceConst Constant_tree set_nth
  constant' (Constant' d a n t e) = rw (type' t, expr' e)

  type_synonym' : (t : TypeSynonym) → ReplaceTypeDecl op r (TypeSynonym_tree t) ≡ TypeSynonym_tree (Text.ReplaceTypeDecl r' t)
  unfolding ReplaceTypeDecl Text.ReplaceTypeDecl TypeSynonym_tree set_nth
  type_synonym' (TypeSynonym' d a n ps t) = rw (type_params' ps, type' t)

  struct' : (s : Struct) → ReplaceStruct op r (Struct_tree s) ≡ Struct_tree (Text.ReplaceStruct r' s)
  unfolding ReplaceStruct Text.ReplaceStruct Struct_tree set_nth
  struct' (Struct' d a n ps fs) = rw (type_params' ps, fields' fs)

  use' : (u : Use) → ReplaceUse op r (Use_tree u) ≡ Use_tree (Text.ReplaceUse r' u)
  unfolding ReplaceUse Text.ReplaceUse
  use' (Use' k p) = refl

  decl' : (d : ModDecl) (p : Path) → ReplaceModDecl op r (ModDecl_tree d) (Path_tree p) ≡ ModDecl_tree (Text.ReplaceModDecl r' d p)
  unfolding ReplaceModDecl Text.ReplaceModDecl ModDecl_tree set_nth
  decl' (ModDecl' m) p = ap (λ q. node 0x62 (r.ReplaceModSingle (Mod_tree m) q ▸ nil)) (path-tree p m) ∙ ap (λ u. node 0x62 (u ▸ nil)) (hm m _)
  decl' (StructDecl s) p = rw (struct' s)
  decl' (TypeDecl t) p = rw (type_synonym' t)
  decl' (ConstDecl c) p = rw (constant' c)
  decl' (EnumDecl e) p = rw (enum' e)
  decl' (ImplDecl i) p = rw (impl' i)
  decl' (TraitDecl t) p = rw (trait' t)
  decl' (TopFnDecl' f) p = rw (top_fn' f)
  decl' (UseDecl u) p = rw (use' u)

  decls' : (ds cs : ModDecls) (p : Path) →
      FoldLeft (λ current modDecl. current ▸▸ (ReplaceModDecl op r modDecl (Path_tree p) ▸ nil)) (ModDecls_trees cs) (ModDecls_trees ds)
      ≡ ModDecls_trees (FoldModDecls (λ current modDecl. current ++ᵐ (Text.ReplaceModDecl r' modDecl p ∷ᵐ []ᵐ)) cs ds)
  unfolding FoldLeft FoldModDecls ModDecls_trees
  decls' []ᵐ cs p = refl
  decls' (d ∷ᵐ ds) cs p =
      ap (λ c. FoldLeft (λ current modDecl. current ▸▸ (ReplaceModDecl op r modDecl (Path_tree p) ▸ nil)) c (ModDecls_trees ds))
      (ap (λ u. ModDecls_trees cs ▸▸ (u ▸ nil)) (decl' d p) ∙ append-trees cs (Text.ReplaceModDecl r' d p ∷ᵐ []ᵐ))
      ∙ decls' ds (cs ++ᵐ (Text.ReplaceModDecl r' d p ∷ᵐ []ᵐ)) p

  pub replace-mod : (m : Mod) (p : Path) → ReplaceMod op r (Mod_tree m) (Path_tree p) ≡ Mod_tree (Text.ReplaceMod r' m p)
  unfolding ReplaceMod Text.ReplaceMod Mod-as-Fold TextFold.Mod-as-Fold Mod_tree set_nth nth
  replace-mod (Mod' d a n ds) p = ap (λ c. node 0x60 (text d ▸ kept a ▸ text n ▸ list c ▸ nil)) (decls' ds []ᵐ p)
  replace-mod (ExternMod n) p = refl
