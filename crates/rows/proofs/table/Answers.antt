-- `rows::table` meets its contract: ROWS is the table that the rows make, by computing it. Assumes nothing.
use mathlib.Core.Path.{refl}
use Rattle.records.specs.Kinds.{row_of}
use Rattle.wire.specs.Numbers.{num}
use Rattle.rows.specs.Codes.{code_of, table_from, table}
use Rattle.rows.proofs.table.Goals as goal

pub returns : goal.returns
unfolding table table_from num row_of code_of
returns c = refl
