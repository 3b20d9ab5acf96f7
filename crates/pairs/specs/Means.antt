-- A table as a mapping: pairs as bytes mean the mapping that they are as trees. Assumes nothing: these are definitions.
use Rattle.std.specs.Prelude.{◌≡◌, List, [], ◌∷◌, map}
use Rattle.records.specs.Canonical.{Canonical}
use Rattle.factor_paths.specs.Mapping.{Mapping}
use Rattle.operation.specs.declared.Shortening.{Shortening}
use Rattle.operation.specs.Operations.{operation_of}
use Rattle.pairs.specs.Pairs.{Pair, Is}
use Rattle.pairs.specs.Stored.{Stored, bytes_of}

abbrev pub bytes_of_all : List Pair → List Stored
bytes_of_all ps = map bytes_of ps

-- each pair's base is canonical: no other tree has its bytes
unfoldable pub Bases : List Pair → Type 0
Bases [] = Unit {0}
Bases (p ∷ ps) = Canonical p.base × Bases ps

pub record Means (op : Shortening) (t : List Stored) (m : Mapping) : Type 0 where
  pub pairs : List Pair
  pub is : Is (operation_of op) pairs m
  pub bytes : t ≡ bytes_of_all pairs
  pub canonical : Bases pairs
