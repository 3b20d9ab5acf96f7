-- `test_text::line_at` meets its contract. Assumes nothing.
use Rattle.test_text.proofs.Fields.{line_is}
use Rattle.test_text.proofs.line_at.Goals as goal

pub returns : goal.returns
returns c = line_is c.args.text.now _ _ c.args.i c.part.ensures c.until.ensures
