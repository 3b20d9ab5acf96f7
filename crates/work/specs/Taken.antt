-- How many of the lent words a table may take (02, request 5). Assumes nothing: these are definitions.
use Rattle.std.specs.Prelude.{ℕ, min}

-- four for a pair, of at most 1,024 pairs
abbrev pub for_table : ℕ → ℕ
for_table lent = min lent 4096
