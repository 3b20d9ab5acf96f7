-- PathSimplifier, applyPrefix and apply of FactorPathsOptimization (01, PathSimplifier on RASTBottomUpReplacer, applyPrefix). Assumes nothing: these are
-- definitions.
use Rattle.std.specs.Prelude.{Bool, false, ◌&&◌, cond, ℕ, zero, suc}
use Rattle.records.specs.Record.{Record, Records, leaf, node, nil, ◌▸◌, ◌▸▸◌, children, update, put, deep}
use Rattle.rast.specs.Path.{Name, Path, MSel, selected, whether}
use Rattle.rast.specs.Operation.{Operation, entering}
use Rattle.rast.specs.Mod.{ExternMod?, name_of}
use Rattle.rast.specs.Visitor.{VisitMod}
use Rattle.rast.specs.Replacer.{RASTBottomUpReplacer, ReplaceMod}
use Rattle.factor_paths.specs.Mapping.{FinalReplacement, Mapping, no_mapping, get, equal, ToFinalReplacement, ToUseStatements}
use Rattle.factor_paths.specs.PathsVisitor.{PathsVisitor, marked, unmarked}

abbrev pub TIdentifier : Name → Record
TIdentifier name = node 0x2C (leaf 0x01 name ▸ nil)

abbrev pub TSynonym : Record → Record → Record
TSynonym display base = node 0x37 (display ▸ base ▸ nil)

abbrev pub Identifier : Name → Record
Identifier name = node 0x42 (leaf 0x01 name ▸ nil)

module _ (op : Operation) where
  -- id in replacement && replacement[id] == base
  unfoldable pub replaces : FinalReplacement → Name → Path → Bool
  replaces replacement id base = whether (get op id replacement) false (λ p. equal op p base)

  unfoldable pub ReplaceTypeSingle : FinalReplacement → Record → Record
  ReplaceTypeSingle replacement t =
      whether (selected 0x2D t) t
      (λ s. cond (replaces replacement s.name s.base) (TSynonym (TIdentifier s.name) t) t)

  unfoldable pub ReplaceExprSingle : FinalReplacement → Record → Record
  ReplaceExprSingle replacement e =
      whether (selected 0x5C e) e
      (λ s. cond (replaces replacement s.name s.base) (Identifier s.name)
      (cond (marked s.name && replaces replacement (unmarked s.name) s.base) (Identifier s.name) e))

  unfoldable pub PathSimplifier : (Record → Path → Record) → FinalReplacement → RASTBottomUpReplacer
  PathSimplifier apply_prefix replacement =
      record {
        ReplaceModSingle = λ m SelfPath. apply_prefix m (entering op SelfPath (name_of m));
        ReplaceTypeSingle = ReplaceTypeSingle replacement;
        ReplaceExprSingle = ReplaceExprSingle replacement;
      }

  unfoldable pub mappings : Record → Path → Mapping
  mappings m SelfPath = VisitMod (PathsVisitor op) no_mapping m SelfPath

  unfoldable pub paths_to_remove : Record → Path → FinalReplacement
  paths_to_remove m SelfPath = ToFinalReplacement op (mappings m SelfPath).provenance SelfPath

  unfoldable pub imports : Record → Path → Records
  imports m SelfPath = ToUseStatements op (mappings m SelfPath).keys (paths_to_remove m SelfPath) SelfPath

  -- a depth that falls, for Dafny's m < mParent
  unfoldable pub apply_prefix : ℕ → Record → Path → Record
  apply_prefix zero m SelfPath = m
  apply_prefix (suc n) m SelfPath =
      let simplified : Record = ReplaceMod op (PathSimplifier (apply_prefix n) (paths_to_remove m SelfPath)) m SelfPath in
      let ahead : Records = imports m SelfPath in
      let whole : Record = update 3 (λ body. put (ahead ▸▸ children body) body) simplified in
      cond (ExternMod? m) m whole

  unfoldable pub apply : Path → Record → Record
  apply root m = apply_prefix (deep m) m (MSel root (name_of m))
