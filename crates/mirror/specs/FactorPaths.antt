-- Module FactorPathsOptimization of the Dafny text, function by function. A map is a list of entries in the order in which they were put, a set a list without
-- repetition. Assumes nothing: these are definitions.
use Rattle.std.specs.Prelude.{List, [], ◌∷◌, ◌++◌, Bool as 𝔹, true, false, ◌&&◌, ◌||◌, cond, ℕ, zero, suc, ◌-◌, max, length, take, get_or, eqb, ltb}
use Rattle.std.proofs.Math.Option.{Option, none, some}
use Rattle.wire.specs.Numbers.{same_bytes}
use Rattle.factor_paths.specs.Mapping.{Entry, entry}
use Rattle.mirror.specs.Rast.{string, Path, Global, Crate, Self, PMemberSelect, «Type», U8, U16, U32, U64, U128, I8, I16, I32, I64, I128, USIZE, Bool}
use Rattle.mirror.specs.Rast.{TIdentifier, TypeFromPath, TypeApp, Borrowed, BorrowedMut, ImplType, DynType, TupleType, FnType, IntersectionType, Array}
use Rattle.mirror.specs.Rast.{TSynonym, TMetaData}
use Rattle.mirror.specs.Rast.{Expr, RawExpr, ExprFromType, Identifier, Match, StmtExpr, Block, StructBuild, Tuple, UnaryOp, BinaryOp, TypeAscription}
use Rattle.mirror.specs.Rast.{TraitCast, LiteralInt, LiteralBool, LiteralString, DeclareVar, Assign, IfExpr, Loop, For, Labelled, Break, Continue, Return}
use Rattle.mirror.specs.Rast.{CallType, Call, Select, SelectIndex, ExprFromPath, FunctionSelect, Lambda}
use Rattle.mirror.specs.Rast.{Struct', TypeSynonym', Constant', Enum', Fn', Trait', TopFn, Use', Mod, Mod', ExternMod, ModDecl, ModDecl', StructDecl}
use Rattle.mirror.specs.Rast.{TypeDecl, ConstDecl, EnumDecl, ImplDecl, TraitDecl, TopFnDecl', UseDecl, ModDecls, []ᵐ, ◌∷ᵐ◌}
use Rattle.mirror.specs.Visitor.{RASTTopDownVisitor, MSel, Mod_name, VisitMod}
use Rattle.mirror.specs.Replacer.{RASTBottomUpReplacer, ReplaceMod, ◌++ᵐ◌}

-- p == q
unfoldable pub same_path : Path → Path → 𝔹
same_path Global Global = true
same_path Global Crate = false
same_path Global Self = false
same_path Global (PMemberSelect q m) = false
same_path Crate Global = false
same_path Crate Crate = true
same_path Crate Self = false
same_path Crate (PMemberSelect q m) = false
same_path Self Global = false
same_path Self Crate = false
same_path Self Self = true
same_path Self (PMemberSelect q m) = false
same_path (PMemberSelect p n) Global = false
same_path (PMemberSelect p n) Crate = false
same_path (PMemberSelect p n) Self = false
same_path (PMemberSelect p n) (PMemberSelect q m) = same_path p q && same_bytes n m

abbrev pub dafny_runtime : Path
dafny_runtime = MSel Global (100 ∷ 97 ∷ 102 ∷ 110 ∷ 121 ∷ 95 ∷ 114 ∷ 117 ∷ 110 ∷ 116 ∷ 105 ∷ 109 ∷ 101 ∷ [])

-- k in m and m[k]; m[k := a]
unfoldable pub get : {A : Type 0} → string → List (Entry A) → Option A
get k [] = none
get k (e ∷ es) = cond (same_bytes e.name k) (some e.held) (get k es)

unfoldable pub set : {A : Type 0} → string → A → List (Entry A) → List (Entry A)
set k a [] = entry k a ∷ []
set k a (e ∷ es) = cond (same_bytes e.name k) (entry e.name a ∷ es) (e ∷ set k a es)

-- p in s, and s + {p}
infix 50 ◌among◌
unfoldable pub ◌among◌ : Path → List Path → 𝔹
◌among◌ p [] = false
◌among◌ p (q ∷ qs) = same_path p q || ◌among◌ p qs

abbrev pub include : Path → List Path → List Path
include p ps = cond (p among ps) ps (ps ++ (p ∷ []))

abbrev pub whether : {A B : Type 0} → Option A → B → (A → B) → B
whether none b f = b
whether (some a) b f = f a

-- |id| > 0 && id[|id|-1] == '!', and id[..|id|-1]
abbrev pub marked : string → 𝔹
marked id = ltb 0 (length id) && eqb (get_or id (length id - 1) 0) 33

abbrev pub unmarked : string → string
unmarked id = take (length id - 1) id

pub record Mapping : Type 0 where
  pub provenance : List (Entry (List Path))
  pub keys : List string

unfoldable pub Add : Mapping → string → Path → Mapping
Add this k path =
    whether (get k this.provenance)
    (record { provenance = set k (path ∷ []) this.provenance; keys = this.keys ++ (k ∷ []) })
    (λ paths. record { provenance = set k (include path paths) this.provenance; keys = this.keys })

abbrev pub UniqueElementOf : List Path → Path
UniqueElementOf [] = dafny_runtime
UniqueElementOf (e ∷ s) = e

abbrev pub FinalReplacement : Type 0
FinalReplacement = List (Entry Path)

abbrev pub final : Path → Entry (List Path) → FinalReplacement → FinalReplacement
final SelfPath e others =
    let paths : List Path = e.held in
    let one : 𝔹 = eqb (length paths) 1 in
    cond (one || SelfPath among paths || dafny_runtime among paths)
    (entry e.name (cond one (UniqueElementOf paths) (cond (SelfPath among paths) SelfPath dafny_runtime)) ∷ others)
    others

unfoldable pub ToFinalReplacement : List (Entry (List Path)) → Path → FinalReplacement
ToFinalReplacement [] SelfPath = []
ToFinalReplacement (e ∷ provenance) SelfPath = final SelfPath e (ToFinalReplacement provenance SelfPath)

unfoldable pub ToUseStatements : List string → FinalReplacement → Path → ModDecls
ToUseStatements [] finalReplacement SelfPath = []ᵐ
ToUseStatements (key ∷ keys) finalReplacement SelfPath =
    let others : ModDecls = ToUseStatements keys finalReplacement SelfPath in
    whether (get key finalReplacement) others
    (λ path. cond (same_path path SelfPath) others (UseDecl (Use' (1 ∷ []) (MSel path key)) ∷ᵐ others))

-- a type and an expression as the patterns of PathsVisitor and PathSimplifier tell them apart
pub data TypeCase : Type 0 where
  a_t_identifier : string → TypeCase
  a_type_from_path : Path → TypeCase
  a_type_app : «Type» → TypeCase
  another_type : TypeCase

abbrev pub type_case : «Type» → TypeCase
type_case U8 = another_type
type_case U16 = another_type
type_case U32 = another_type
type_case U64 = another_type
type_case U128 = another_type
type_case I8 = another_type
type_case I16 = another_type
type_case I32 = another_type
type_case I64 = another_type
type_case I128 = another_type
type_case USIZE = another_type
type_case Bool = another_type
type_case (TIdentifier name) = a_t_identifier name
type_case (TypeFromPath path) = a_type_from_path path
type_case (TypeApp baseName arguments) = a_type_app baseName
type_case (Borrowed underlying) = another_type
type_case (BorrowedMut underlying) = another_type
type_case (ImplType underlying) = another_type
type_case (DynType underlying) = another_type
type_case (TupleType arguments) = another_type
type_case (FnType arguments returnType) = another_type
type_case (IntersectionType left right) = another_type
type_case (Array underlying size) = another_type
type_case (TSynonym display base) = another_type
type_case (TMetaData display copySemantics overflow) = another_type

abbrev pub expr_path : Expr → Option Path
expr_path (RawExpr content) = none
expr_path (ExprFromType tpe) = none
expr_path (Identifier name) = none
expr_path (Match matchee cases) = none
expr_path (StmtExpr stmt rhs) = none
expr_path (Block underlying) = none
expr_path (StructBuild underlying assignments) = none
expr_path (Tuple arguments) = none
expr_path (UnaryOp op1 underlying format) = none
expr_path (BinaryOp op2 left right format2) = none
expr_path (TypeAscription left tpe) = none
expr_path (TraitCast leftTpe tpe) = none
expr_path (LiteralInt value) = none
expr_path (LiteralBool bvalue) = none
expr_path (LiteralString value binary verbatim) = none
expr_path (DeclareVar declareType name opt_type optRhs) = none
expr_path (Assign names rhs) = none
expr_path (IfExpr c thn els) = none
expr_path (Loop optCond underlying) = none
expr_path (For name range body) = none
expr_path (Labelled lbl underlying) = none
expr_path (Break optLbl) = none
expr_path (Continue optLbl) = none
expr_path (Return optExpr) = none
expr_path (CallType obj typeArguments) = none
expr_path (Call obj arguments) = none
expr_path (Select obj name) = none
expr_path (SelectIndex obj range) = none
expr_path (ExprFromPath path) = some path
expr_path (FunctionSelect obj name) = none
expr_path (Lambda params retType body) = none

-- PMemberSelect(base, name), or any other path
abbrev pub if_selected : {A : Type 0} → Path → A → (Path → string → A) → A
if_selected Global otherwise f = otherwise
if_selected Crate otherwise f = otherwise
if_selected Self otherwise f = otherwise
if_selected (PMemberSelect base name) otherwise f = f base name

-- PathsVisitor
abbrev pub visit_type : Mapping → TypeCase → Mapping
visit_type current (a_t_identifier name) = current
visit_type current (a_type_from_path path) = if_selected path current (λ base name. cond (same_path base Self) current (Add current name base))
visit_type current (a_type_app baseName) = current
visit_type current another_type = current

unfoldable pub VisitTypeSingle : Mapping → «Type» → Mapping
VisitTypeSingle current t = visit_type current (type_case t)

unfoldable pub VisitExprSingle : Mapping → Expr → Mapping
VisitExprSingle current e =
    whether (expr_path e) current
    (λ path. if_selected path current
    (λ base id. cond (same_path base Self) current (cond (marked id) (Add current (unmarked id) base) (Add current id base))))

-- case TypeApp(TIdentifier(name), _), case TIdentifier(name), case _
abbrev pub add_identifier : Mapping → Path → TypeCase → Mapping
add_identifier current prefix (a_t_identifier name) = Add current name prefix
add_identifier current prefix (a_type_from_path path) = current
add_identifier current prefix (a_type_app baseName) = current
add_identifier current prefix another_type = current

abbrev pub add_trait : Mapping → Path → TypeCase → Mapping
add_trait current prefix (a_t_identifier name) = Add current name prefix
add_trait current prefix (a_type_from_path path) = current
add_trait current prefix (a_type_app baseName) = add_identifier current prefix (type_case baseName)
add_trait current prefix another_type = current

unfoldable pub VisitModDeclSingle : Mapping → ModDecl → Path → Mapping
VisitModDeclSingle current (ModDecl' m) prefix = Add current (Mod_name m) prefix
VisitModDeclSingle current (StructDecl (Struct' docString attributes name type_params fields)) prefix = Add current name prefix
VisitModDeclSingle current (TypeDecl (TypeSynonym' docString attributes name type_params tpe)) prefix = Add current name prefix
VisitModDeclSingle current (ConstDecl (Constant' docString attributes name tpe value)) prefix = Add current name prefix
VisitModDeclSingle current (EnumDecl (Enum' docString attributes name type_params variants)) prefix = Add current name prefix
VisitModDeclSingle current (ImplDecl impl) prefix = current
VisitModDeclSingle current (TraitDecl (Trait' docString attributes type_params tpe parents body)) prefix = add_trait current prefix (type_case tpe)
VisitModDeclSingle current (TopFnDecl' (TopFn docString attributes visibility (Fn' name type_params formals returnType body))) prefix = Add current name prefix
VisitModDeclSingle current (UseDecl u) prefix = current

abbrev pub PathsVisitor : RASTTopDownVisitor Mapping
PathsVisitor =
    record { VisitTypeSingle = VisitTypeSingle; VisitExprSingle = VisitExprSingle; VisitModDeclSingle = VisitModDeclSingle; recurse_submodules = false }

-- PathSimplifier: id in replacement && replacement[id] == base
unfoldable pub replaces : FinalReplacement → string → Path → 𝔹
replaces replacement id base = whether (get id replacement) false (λ p. same_path p base)

abbrev pub replace_type : FinalReplacement → «Type» → TypeCase → «Type»
replace_type replacement t (a_t_identifier name) = t
replace_type replacement t (a_type_from_path path) = if_selected path t (λ base id. cond (replaces replacement id base) (TSynonym (TIdentifier id) t) t)
replace_type replacement t (a_type_app baseName) = t
replace_type replacement t another_type = t

unfoldable pub ReplaceTypeSingle : FinalReplacement → «Type» → «Type»
ReplaceTypeSingle replacement t = replace_type replacement t (type_case t)

unfoldable pub ReplaceExprSingle : FinalReplacement → Expr → Expr
ReplaceExprSingle replacement e =
    whether (expr_path e) e
    (λ path. if_selected path e
    (λ base id. cond (replaces replacement id base) (Identifier id)
    (cond (marked id) (cond (replaces replacement (unmarked id) base) (Identifier id) e) e)))

unfoldable pub PathSimplifier : (Mod → Path → Mod) → FinalReplacement → RASTBottomUpReplacer
PathSimplifier apply_prefix replacement =
    record {
      ReplaceModSingle = λ m SelfPath. apply_prefix m (MSel SelfPath (Mod_name m));
      ReplaceTypeSingle = ReplaceTypeSingle replacement;
      ReplaceExprSingle = ReplaceExprSingle replacement;
    }

-- how deep modules are nested
unfoldable mutual
  pub nesting : Mod → ℕ
  nesting (Mod' docString attributes name body) = suc (nesting_all body)
  nesting (ExternMod name) = 1

  pub nesting_decl : ModDecl → ℕ
  nesting_decl (ModDecl' m) = nesting m
  nesting_decl (StructDecl struct) = 0
  nesting_decl (TypeDecl tpe) = 0
  nesting_decl (ConstDecl c) = 0
  nesting_decl (EnumDecl enum) = 0
  nesting_decl (ImplDecl impl) = 0
  nesting_decl (TraitDecl tr) = 0
  nesting_decl (TopFnDecl' fn) = 0
  nesting_decl (UseDecl u) = 0

  pub nesting_all : ModDecls → ℕ
  nesting_all []ᵐ = 0
  nesting_all (d ∷ᵐ body) = max (nesting_decl d) (nesting_all body)

-- mod.(body := imports + mod.body), and an ExternMod as it is
abbrev pub with_imports : ModDecls → Mod → Mod
with_imports imports (Mod' docString attributes name body) = Mod' docString attributes name (imports ++ᵐ body)
with_imports imports (ExternMod name) = ExternMod name

-- a depth that falls, for m < mParent
unfoldable pub apply_prefix : ℕ → Mod → Path → Mod
apply_prefix zero m SelfPath = m
apply_prefix (suc n) (ExternMod name) SelfPath = ExternMod name
apply_prefix (suc n) (Mod' docString attributes name body) SelfPath =
    let m : Mod = Mod' docString attributes name body in
    let mappings : Mapping = VisitMod PathsVisitor m (record { provenance = []; keys = [] }) SelfPath in
    let paths_to_remove : FinalReplacement = ToFinalReplacement mappings.provenance SelfPath in
    let imports : ModDecls = ToUseStatements mappings.keys paths_to_remove SelfPath in
    with_imports imports (ReplaceMod (PathSimplifier (apply_prefix n) paths_to_remove) m SelfPath)

unfoldable pub apply : Path → Mod → Mod
apply root m = apply_prefix (nesting m) m (MSel root (Mod_name m))
