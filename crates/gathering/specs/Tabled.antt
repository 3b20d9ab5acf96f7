-- A table as a mapping: the pairs that its words hold mean it. Assumes nothing: these are definitions.
use Rattle.std.specs.Prelude.{List}
use Rattle.factor_paths.specs.Mapping.{Mapping}
use Rattle.prefix.specs.Prefix.{Scope}
use Rattle.pairs.specs.Stored.{Stored}
use Rattle.pairs.specs.Means.{Means}
use Rattle.adding.specs.Adds.{Table}
use Rattle.adding.specs.Holds.{Has}

pub record Tabled (s : Scope) (t : Table) (m : Mapping) : Type 0 where
  pub pairs : List Stored
  pub has : Has s t pairs
  pub means : Means s.op pairs m
