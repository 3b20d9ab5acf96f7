-- The kinds that the walk which replaces leaves (factor_paths, Walk: stepOf). Assumes nothing: these are definitions.
use Rattle.std.specs.Prelude.{Bool, ◌||◌, ℕ, eqb}
use Rattle.records.specs.Record.{is_leaf}
use Rattle.records.specs.Kinds.{stands, path, kinds}

-- a Text, a Kept, paths, modules, uses
abbrev pub is_left : ℕ → Bool
is_left k = is_leaf k || stands path k || stands (kinds 0x60 0x62) k || eqb k 0x6A || eqb k 0x80
