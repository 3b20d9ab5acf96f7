-- Words laid over others. Assumes nothing: these are definitions.
use Rattle.std.specs.Prelude.{List, ◌++◌, ℕ, length, take, drop}

-- from the first on, as far as both reach
abbrev pub over : List ℕ → List ℕ → List ℕ
over from to = take (length to) from ++ drop (length from) to
