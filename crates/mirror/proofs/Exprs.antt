-- Formal, and Expr with what holds it: their record trees are read back, and every record tree that stands at their places is one. Assumes nothing.
use mathlib.Core.Path.{◌≡◌, refl}
use mathlib.Core.List.{[], ◌∷◌}
use lib.Dec.{lit≤}
use Rattle.records.specs.Record.{Record, children}
use Rattle.records.specs.Kinds.{one, seq, option, expr, row_of}
use Rattle.records.proofs.Fits.{Fits}
use Rattle.mirror.specs.Rast.{Formal, Formal'}
use Rattle.mirror.specs.Rast.{Expr, RawExpr, ExprFromType, Identifier, Match, StmtExpr, Block, StructBuild, Tuple, UnaryOp, BinaryOp, TypeAscription}
use Rattle.mirror.specs.Rast.{TraitCast, LiteralInt, LiteralBool, LiteralString, DeclareVar, Assign, IfExpr, Loop, For, Labelled, Break, Continue, Return}
use Rattle.mirror.specs.Rast.{CallType, Call, Select, SelectIndex, ExprFromPath, FunctionSelect, Lambda}
use Rattle.mirror.specs.Rast.{Exprs, []ᵉ, ◌∷ᵉ◌, OptExpr, None, Some, MatchCase, MatchCase', MatchCases, []ᶜ, ◌∷ᶜ◌, AssignIdentifier, AssignIdentifier'}
use Rattle.mirror.specs.Rast.{AssignIdentifiers, []ᵃ, ◌∷ᵃ◌}
use Rattle.mirror.specs.Tree.{list, Formal_tree, Expr_tree, Exprs_trees, OptExpr_tree, MatchCase_tree, MatchCases_trees, AssignIdentifier_tree}
use Rattle.mirror.specs.Tree.{AssignIdentifiers_trees}
use Rattle.mirror.proofs.Decode.{read, fold, fold_all, Formal_at, Expr_absent, Expr_at, MatchCase_at, AssignIdentifier_at, Expr_reading, Expr_of}
use Rattle.mirror.proofs.Decode.{Exprs_of, OptExpr_of, MatchCase_of, MatchCases_of, AssignIdentifier_of, AssignIdentifiers_of, Exprs_from, OptExpr_from}
use Rattle.mirror.proofs.Decode.{MatchCases_from, AssignIdentifiers_from}
use Rattle.records.proofs.Run.{Run, ◌⨾◌}
use Rattle.mirror.proofs.Rows.{Layer, Law, Codec, GoodAll, Case, refold, layer, plain, Plain, plain_codec, row, all-good, sure, kinds-right, seq-right}
use Rattle.mirror.proofs.Rows.{option-right, text_codec, kept_codec, option_codec, option_back, seq_codec, seq_back}
use Rattle.mirror.proofs.Paths.{Path_back, Path_codec}
use Rattle.mirror.proofs.Types.{Type_back, Types_back, Type_codec, Types_codec}

pub Formal_back : (f : Formal) → read Formal_at (Formal_tree f) ≡ f
unfolding Formal_at Formal_tree
Formal_back (Formal' name tpe) = λ i. Formal' name (Type_back tpe i)

pub Formal_cases : Plain Formal_tree Formal_at 0x7E 0
unfolding Formal_at Formal_tree row_of
Formal_cases = row plain (sure plain text_codec ∷ sure plain Type_codec ∷ [])

abbrev pub Formal_codec : Codec Formal
Formal_codec = plain_codec Formal_tree Formal_at 0x7E 0 tt Formal_back Formal_cases

mutual
  unfolding fold fold_all Expr_at Expr_tree Exprs_trees OptExpr_tree MatchCase_tree MatchCases_trees AssignIdentifier_tree AssignIdentifiers_trees

  pub Expr_back : (e : Expr) → Expr_of (Expr_tree e) ≡ e
  Expr_back (RawExpr content) = refl
  Expr_back (ExprFromType tpe) = λ i. ExprFromType (Type_back tpe i)
  Expr_back (Identifier name) = refl
  Expr_back (Match matchee cases) = λ i. Match (Expr_back matchee i) (MatchCases_back cases i)
  Expr_back (StmtExpr stmt rhs) = λ i. StmtExpr (Expr_back stmt i) (Expr_back rhs i)
  Expr_back (Block underlying) = λ i. Block (Expr_back underlying i)
  Expr_back (StructBuild underlying assignments) = λ i. StructBuild (Expr_back underlying i) (AssignIdentifiers_back assignments i)
  Expr_back (Tuple arguments) = λ i. Tuple (Exprs_back arguments i)
  Expr_back (UnaryOp op1 underlying format) = λ i. UnaryOp op1 (Expr_back underlying i) format
  Expr_back (BinaryOp op2 left right format2) = λ i. BinaryOp op2 (Expr_back left i) (Expr_back right i) format2
  Expr_back (TypeAscription left tpe) = λ i. TypeAscription (Expr_back left i) (Type_back tpe i)
  Expr_back (TraitCast leftTpe tpe) = λ i. TraitCast (Type_back leftTpe i) (Type_back tpe i)
  Expr_back (LiteralInt value) = refl
  Expr_back (LiteralBool bvalue) = refl
  Expr_back (LiteralString value binary verbatim) = refl
  Expr_back (DeclareVar declareType name opt_type optRhs) = λ i. DeclareVar declareType name (option_back Type_codec opt_type i) (OptExpr_back optRhs i)
  Expr_back (Assign names rhs) = λ i. Assign names (Expr_back rhs i)
  Expr_back (IfExpr cond thn els) = λ i. IfExpr (Expr_back cond i) (Expr_back thn i) (Expr_back els i)
  Expr_back (Loop optCond underlying) = λ i. Loop (OptExpr_back optCond i) (Expr_back underlying i)
  Expr_back (For name range body) = λ i. For name (Expr_back range i) (Expr_back body i)
  Expr_back (Labelled lbl underlying) = λ i. Labelled lbl (Expr_back underlying i)
  Expr_back (Break optLbl) = λ i. Break (option_back text_codec optLbl i)
  Expr_back (Continue optLbl) = λ i. Continue (option_back text_codec optLbl i)
  Expr_back (Return optExpr) = λ i. Return (OptExpr_back optExpr i)
  Expr_back (CallType obj typeArguments) = λ i. CallType (Expr_back obj i) (Types_back typeArguments i)
  Expr_back (Call obj arguments) = λ i. Call (Expr_back obj i) (Exprs_back arguments i)
  Expr_back (Select obj name) = λ i. Select (Expr_back obj i) name
  Expr_back (SelectIndex obj range) = λ i. SelectIndex (Expr_back obj i) (Expr_back range i)
  Expr_back (ExprFromPath path) = λ i. ExprFromPath (Path_back path i)
  Expr_back (FunctionSelect obj name) = λ i. FunctionSelect (Expr_back obj i) name
  Expr_back (Lambda params retType body) = λ i. Lambda (seq_back Formal_codec params i) (option_back Type_codec retType i) (Expr_back body i)

  pub Exprs_back : (es : Exprs) → Exprs_of (list (Exprs_trees es)) ≡ es
  Exprs_back []ᵉ = refl
  Exprs_back (e ∷ᵉ es) = λ i. Expr_back e i ∷ᵉ Exprs_back es i

  pub OptExpr_back : (o : OptExpr) → OptExpr_of (OptExpr_tree o) ≡ o
  OptExpr_back None = refl
  OptExpr_back (Some e) = λ i. Some (Expr_back e i)

  pub MatchCase_back : (c : MatchCase) → MatchCase_of (MatchCase_tree c) ≡ c
  MatchCase_back (MatchCase' pattern rhs) = λ i. MatchCase' pattern (Expr_back rhs i)

  pub MatchCases_back : (cs : MatchCases) → MatchCases_of (list (MatchCases_trees cs)) ≡ cs
  MatchCases_back []ᶜ = refl
  MatchCases_back (c ∷ᶜ cs) = λ i. MatchCase_back c i ∷ᶜ MatchCases_back cs i

  pub AssignIdentifier_back : (a : AssignIdentifier) → AssignIdentifier_of (AssignIdentifier_tree a) ≡ a
  AssignIdentifier_back (AssignIdentifier' identifier rhs) = λ i. AssignIdentifier' identifier (Expr_back rhs i)

  pub AssignIdentifiers_back : (as' : AssignIdentifiers) → AssignIdentifiers_of (list (AssignIdentifiers_trees as')) ≡ as'
  AssignIdentifiers_back []ᵃ = refl
  AssignIdentifiers_back (a ∷ᵃ as') = λ i. AssignIdentifier_back a i ∷ᵃ AssignIdentifiers_back as' i

-- what is shown of every record
pub record Good (r : Record) : Type 0 where
  pub expr' : Fits r expr → Expr_tree (Expr_of r) ≡ r
  pub exprs : Fits r (seq expr) → list (Exprs_trees (Exprs_of r)) ≡ r
  pub opt : Fits r (option expr) → OptExpr_tree (OptExpr_of r) ≡ r
  pub case : Fits r (one 0x81) → MatchCase_tree (MatchCase_of r) ≡ r
  pub cases : Fits r (seq (one 0x81)) → list (MatchCases_trees (MatchCases_of r)) ≡ r
  pub assign : Fits r (one 0x82) → AssignIdentifier_tree (AssignIdentifier_of r) ≡ r
  pub assigns : Fits r (seq (one 0x82)) → list (AssignIdentifiers_trees (AssignIdentifiers_of r)) ≡ r

abbrev pub E : Layer
E = layer Expr_reading Expr_absent Good

abbrev an_expr : Law E
an_expr = record { place = expr; again = λ x. Expr_tree x.as'.expr; right = λ r g. g.expr' }

abbrev exprs : Law E
exprs = record { place = seq expr; again = λ x. list (Exprs_trees x.as'.exprs); right = λ r g. g.exprs }

abbrev opt : Law E
opt = record { place = option expr; again = λ x. OptExpr_tree x.as'.opt; right = λ r g. g.opt }

abbrev a_case : Law E
a_case = record { place = one 0x81; again = λ x. MatchCase_tree x.as'.case; right = λ r g. g.case }

abbrev cases : Law E
cases = record { place = seq (one 0x81); again = λ x. list (MatchCases_trees x.as'.cases); right = λ r g. g.cases }

abbrev an_assign : Law E
an_assign = record { place = one 0x82; again = λ x. AssignIdentifier_tree x.as'.assign; right = λ r g. g.assign }

abbrev assigns : Law E
assigns = record { place = seq (one 0x82); again = λ x. list (AssignIdentifiers_trees x.as'.assigns); right = λ r g. g.assigns }

abbrev a_text : Law E
a_text = sure E text_codec

abbrev opt_text : Law E
opt_text = sure E (option_codec text_codec)

abbrev a_kept : Law E
a_kept = sure E kept_codec

abbrev a_path : Law E
a_path = sure E Path_codec

abbrev a_type : Law E
a_type = sure E Type_codec

abbrev types : Law E
types = sure E Types_codec

abbrev opt_type : Law E
opt_type = sure E (option_codec Type_codec)

abbrev formals : Law E
formals = sure E (seq_codec Formal_codec)

Expr_cases : Run (Case E Expr_tree Expr_at) 0x40 30
unfolding Expr_at Expr_tree row_of
Expr_cases =
    row E (a_text ∷ [])
    ⨾ row E (a_type ∷ [])
    ⨾ row E (a_text ∷ [])
    ⨾ row E (an_expr ∷ cases ∷ [])
    ⨾ row E (an_expr ∷ an_expr ∷ [])
    ⨾ row E (an_expr ∷ [])
    ⨾ row E (an_expr ∷ assigns ∷ [])
    ⨾ row E (exprs ∷ [])
    ⨾ row E (a_text ∷ an_expr ∷ a_kept ∷ [])
    ⨾ row E (a_text ∷ an_expr ∷ an_expr ∷ a_kept ∷ [])
    ⨾ row E (an_expr ∷ a_type ∷ [])
    ⨾ row E (a_type ∷ a_type ∷ [])
    ⨾ row E (a_text ∷ [])
    ⨾ row E (a_kept ∷ [])
    ⨾ row E (a_text ∷ a_kept ∷ a_kept ∷ [])
    ⨾ row E (a_kept ∷ a_text ∷ opt_type ∷ opt ∷ [])
    ⨾ row E (a_kept ∷ an_expr ∷ [])
    ⨾ row E (an_expr ∷ an_expr ∷ an_expr ∷ [])
    ⨾ row E (opt ∷ an_expr ∷ [])
    ⨾ row E (a_text ∷ an_expr ∷ an_expr ∷ [])
    ⨾ row E (a_text ∷ an_expr ∷ [])
    ⨾ row E (opt_text ∷ [])
    ⨾ row E (opt_text ∷ [])
    ⨾ row E (opt ∷ [])
    ⨾ row E (an_expr ∷ types ∷ [])
    ⨾ row E (an_expr ∷ exprs ∷ [])
    ⨾ row E (an_expr ∷ a_text ∷ [])
    ⨾ row E (an_expr ∷ an_expr ∷ [])
    ⨾ row E (a_path ∷ [])
    ⨾ row E (an_expr ∷ a_text ∷ [])
    ⨾ row E (formals ∷ opt_type ∷ an_expr ∷ [])

MatchCase_cases : Run (Case E MatchCase_tree MatchCase_at) 0x81 0
unfolding MatchCase_tree row_of
MatchCase_cases = row E (a_kept ∷ an_expr ∷ [])

AssignIdentifier_cases : Run (Case E AssignIdentifier_tree AssignIdentifier_at) 0x82 0
unfolding AssignIdentifier_tree row_of
AssignIdentifier_cases = row E (a_text ∷ an_expr ∷ [])

step : (r : Record) → GoodAll E (children r) → Good r
unfolding fold fold_all Exprs_trees OptExpr_tree MatchCases_trees AssignIdentifiers_trees
step r g =
    record {
      expr' = kinds-right E Expr_tree Expr_at 0x40 30 (lit≤ tt) Expr_cases Expr_of (refold Expr_reading Expr_at) r g;
      exprs = seq-right E an_expr (λ x. x.as'.expr) []ᵉ ◌∷ᵉ◌ Exprs_trees refl (λ x s. refl) Exprs_of (refold Expr_reading (λ k. Exprs_from)) r g;
      opt = option-right E an_expr (λ x. x.as'.expr) None Some OptExpr_tree refl (λ x. refl) OptExpr_of (refold Expr_reading (λ k. OptExpr_from)) r g;
      case = kinds-right E MatchCase_tree MatchCase_at 0x81 0 (lit≤ tt) MatchCase_cases MatchCase_of (refold Expr_reading MatchCase_at) r g;
      cases = seq-right E a_case (λ x. x.as'.case) []ᶜ ◌∷ᶜ◌ MatchCases_trees refl (λ x s. refl) MatchCases_of (refold Expr_reading (λ k. MatchCases_from)) r g;
      assign =
          kinds-right E AssignIdentifier_tree AssignIdentifier_at 0x82 0 (lit≤ tt) AssignIdentifier_cases AssignIdentifier_of
          (refold Expr_reading AssignIdentifier_at) r g;
      assigns =
          seq-right E an_assign (λ x. x.as'.assign) []ᵃ ◌∷ᵃ◌ AssignIdentifiers_trees refl (λ x s. refl) AssignIdentifiers_of
          (refold Expr_reading (λ k. AssignIdentifiers_from)) r g;
    }

pub good : (r : Record) → Good r
good = all-good E step

abbrev pub Expr_codec : Codec Expr
Expr_codec = record { place = expr; tree = Expr_tree; of = Expr_of; back = Expr_back; right = λ r. (good r).expr' }
