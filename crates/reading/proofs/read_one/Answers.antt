-- `reading::read_one` meets its contract, by the laws of Whole. Assumes nothing.
use mathlib.Core.Path.{◌∙◌}
use native.Mathlib.Omega.{arith}
use Rattle.reading.proofs.Rows.{good-one}
use Rattle.reading.proofs.Whole.{read-least}
use Rattle.reading.proofs.read_one.Goals as goal

pub read_content-requires : goal.read_content-requires
read_content-requires c =
    let small = c.record_length-e.ensures.1 in
    let least = c.min.ensures in (
      good-one _ c.requires.1,
      omega arith,
      omega (arith, least),
      omega (arith, least),
      c.requires.2,
    )

pub returns : goal.returns
returns c =
    c.read_content.ensures
    ∙ read-least c.args.limit c.args.p c.args.s.now _ _ c.requires.0 c.requires.1 c.record_length-e.ensures.0 c.min.ensures
