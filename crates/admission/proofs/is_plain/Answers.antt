-- `admission::is_plain` meets its contract, by the laws of Tested. Assumes nothing.
use native.Mathlib.Omega.{arith}
use Rattle.admission.proofs.Tested.{plain-long, plain-filled, plain-low, plain-last}
use Rattle.admission.proofs.is_plain.Goals as goal

pub returns-then-root-ne6 : goal.returns-then-root-ne6
returns-then-root-ne6 c = plain-long c.args.root.now c.if-root-ne6.true

pub returns-then-record_length-ne2 : goal.returns-then-record_length-ne2
returns-then-record_length-ne2 c = plain-filled c.args.root.now c.if-root-ne6.false _ c.record_length.ensures.0 c.if-record_length-ne2.true

pub returns-then-k-lt16 : goal.returns-then-k-lt16
returns-then-k-lt16 c =
    plain-low c.args.root.now c.if-root-ne6.false _ c.record_length.ensures.0 c.if-record_length-ne2.false
    _ c.record_kind-k.ensures.0 c.if-k-lt16.true

pub returns : goal.returns
returns c =
    plain-last c.args.root.now c.if-root-ne6.false _ c.record_length.ensures.0 c.if-record_length-ne2.false
    _ c.record_kind-k.ensures.0 (omega (arith, c.if-k-lt16.false))
