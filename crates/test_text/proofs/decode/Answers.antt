-- `test_text::decode` meets its contract. Assumes nothing.
use Rattle.std.proofs.Common.{◌≡◌, sym, ◌∙◌, arith}
use Rattle.test_text.proofs.Text.{said_at, filled_more, filled_end, filled_most}
use Rattle.test_text.proofs.decode.Goals as goal

pub returns-in_default : goal.returns-in_default
returns-in_default c =
    let f = c.loop-n.invariant in
    filled_end f (sym (said_at f c.hex_byte.ensures.0) ∙ c.in_default.is)

pub loop-n-preserved : goal.loop-n-preserved
loop-n-preserved c =
    let f = c.loop-n.invariant in
    filled_more f _ (sym (said_at f c.hex_byte.ensures.0) ∙ c.in-Some.is) (omega arith)

pub returns : goal.returns
returns c = let e : c.loop-n.n ≡ c.min-most.result = omega arith in rw e at (filled_most c.loop-n.invariant (omega arith))
