-- A module's mapping as a table has it: pairs of name and base, in the order in which they were first collected. Assumes nothing: these are definitions.
use Rattle.std.specs.Prelude.{◌≡◌, List, [], ◌∷◌, ◌++◌, cond, length}
use Rattle.std.proofs.Math.Option.{Option, none, some}
use Rattle.rast.specs.Path.{Name, Path, whether}
use Rattle.rast.specs.Operation.{Operation}
use Rattle.factor_paths.specs.Mapping.{Mapping, no_mapping, Add, get, pairs, ◌among◌}

pub record Pair : Type 0 where
  pub name : Name
  pub base : Path

abbrev pub pair : Name → Path → Pair
pair k b = record { name = k; base = b }

-- no bases are no entry
abbrev pub listed : List Path → Option (List Path)
listed [] = none
listed (b ∷ bs) = some (b ∷ bs)

module _ (op : Operation) where
  -- the bases that stand with a name
  unfoldable pub bases_of : List Pair → Name → List Path
  bases_of [] k = []
  bases_of (p ∷ t) k = cond (op.same_name p.name k) (p.base ∷ bases_of t k) (bases_of t k)

  -- a pair is put last, if it is not there
  unfoldable pub put : List Pair → Name → Path → List Pair
  put t k b = cond (◌among◌ op b (bases_of t k)) t (t ++ (pair k b ∷ []))

  -- the mapping that their adding gives
  unfoldable pub add_all : Mapping → List Pair → Mapping
  add_all m [] = m
  add_all m (p ∷ t) = add_all (Add op m p.name p.base) t

  -- the names in the order in which they first stand, after the pairs that stand ahead
  unfoldable pub names_after : List Pair → List Pair → List Name
  names_after ahead [] = []
  names_after ahead (p ∷ t) =
      let others : List Name = names_after (ahead ++ (p ∷ [])) t in
      whether (listed (bases_of ahead p.name)) (p.name ∷ others) (λ bs. others)

  -- pairs are a mapping: adding them gives it, it counts as many, has their names in their order, and each name has the bases that stand with it
  pub record Is (t : List Pair) (m : Mapping) : Type 0 where
    pub added : add_all no_mapping t ≡ m
    pub count : pairs m.provenance ≡ length t
    pub names : m.keys ≡ names_after [] t
    pub bases : (n : Name) → get op n m.provenance ≡ listed (bases_of t n)
