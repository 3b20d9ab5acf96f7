-- Mapping of FactorPathsOptimization (01, Mapping). Assumes nothing: these are definitions.
use Rattle.std.specs.Prelude.{List, [], ◌∷◌, ◌++◌, Bool, cond, ℕ, ◌+◌, length}
use Rattle.std.proofs.Math.Option.{Option, none, some}
use Rattle.records.specs.Record.{Record, Records, leaf, node, nil, ◌▸◌}
use Rattle.rast.specs.Path.{Name, Path, MSel, same_path, whether}
use Rattle.rast.specs.Final.{is_among}
use Rattle.rast.specs.Operation.{Operation}

-- map<string, A>, its names in the order in which they were first put
pub record Entry (A : Type 0) : Type 0 where
  pub name : Name
  pub held : A

abbrev pub entry : {A : Type 0} → Name → A → Entry A
entry k a = record { name = k; held = a }

abbrev pub Provenance : Type 0
Provenance = List (Entry (List Path))

pub record Mapping : Type 0 where
  pub provenance : Provenance
  pub keys : List Name

abbrev pub no_mapping : Mapping
no_mapping = record { provenance = []; keys = [] }

-- map<string, Path>
abbrev pub FinalReplacement : Type 0
FinalReplacement = List (Entry Path)

-- UseDecl(Use(PUB, path)): PUB is a Kept of the byte 01 (01, Leaf 2)
abbrev pub use_decl : Path → Record
use_decl p = node 0x6A (node 0x80 (leaf 0x03 (1 ∷ []) ▸ p ▸ nil) ▸ nil)

module _ (op : Operation) where
  abbrev pub equal : Path → Path → Bool
  equal = same_path op.same_name

  unfoldable pub get : {A : Type 0} → Name → List (Entry A) → Option A
  get k [] = none
  get k (e ∷ es) = cond (op.same_name e.name k) (some e.held) (get k es)

  unfoldable pub set : {A : Type 0} → Name → A → List (Entry A) → List (Entry A)
  set k a [] = entry k a ∷ []
  set k a (e ∷ es) = cond (op.same_name e.name k) (entry e.name a ∷ es) (e ∷ set k a es)

  -- set<Path>
  abbrev pub ◌among◌ : Path → List Path → Bool
  ◌among◌ p ps = is_among equal p ps

  abbrev pub include : Path → List Path → List Path
  include p ps = cond (◌among◌ p ps) ps (ps ++ (p ∷ []))

  unfoldable pub Add : Mapping → Name → Path → Mapping
  Add this k path =
      whether (get k this.provenance)
      (record { provenance = set k (path ∷ []) this.provenance; keys = this.keys ++ (k ∷ []) })
      (λ paths. record { provenance = set k (include path paths) this.provenance; keys = this.keys })

  -- the entry of an identifier that has a final path, before the others
  abbrev pub final : Path → Entry (List Path) → FinalReplacement → FinalReplacement
  final SelfPath e others = whether (op.chosen_base SelfPath e.held) others (λ path. entry e.name path ∷ others)

  unfoldable pub ToFinalReplacement : Provenance → Path → FinalReplacement
  ToFinalReplacement [] SelfPath = []
  ToFinalReplacement (e ∷ es) SelfPath = final SelfPath e (ToFinalReplacement es SelfPath)

  unfoldable pub ToUseStatements : List Name → FinalReplacement → Path → Records
  ToUseStatements [] finalReplacement SelfPath = nil
  ToUseStatements (key ∷ keys) finalReplacement SelfPath =
      let others : Records = ToUseStatements keys finalReplacement SelfPath in
      whether (get key finalReplacement) others
      (λ base. cond (equal base SelfPath) others (use_decl (MSel base key) ▸ others))

-- 01, answer 8: the pairs of name and base
unfoldable pub pairs : Provenance → ℕ
pairs [] = 0
pairs (e ∷ es) = length e.held + pairs es
