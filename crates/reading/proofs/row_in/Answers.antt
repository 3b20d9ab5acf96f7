-- `reading::row_in` meets its contract, by the range of the place's number. Assumes nothing.
use mathlib.Core.Path.{sym, ◌∙◌}
use native.Mathlib.Omega.{arith}
use Rattle.reading.proofs.Rows.{in_one, in-seq, in-option, row_read}
use Rattle.reading.proofs.row_in.Goals as goal

pub returns-then-p-ge64 : goal.returns-then-p-ge64
returns-then-p-ge64 c = sym (in-option _ _ (omega arith))

pub returns-then-p-ge32 : goal.returns-then-p-ge32
returns-then-p-ge32 c = sym (in-seq _ _ (omega arith) (omega arith))

pub returns : goal.returns
returns c = row_read c.args.t.now _ _ c.requires.1 c.row_at.ensures ∙ sym (in_one _ _ (omega arith))
