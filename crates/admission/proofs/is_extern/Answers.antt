-- `admission::is_extern` meets its contract, by the laws of Tested. Assumes nothing.
use native.Mathlib.Omega.{arith}
use Rattle.admission.proofs.Tested.{extern-few, extern-other, extern-part, extern-more, extern-last}
use Rattle.admission.proofs.is_extern.Goals as goal

pub returns-then-n-lt12 : goal.returns-then-n-lt12
returns-then-n-lt12 c = extern-few c.args.card.now c.if-n-lt12.true

pub returns-then-record_kind-ne97 : goal.returns-then-record_kind-ne97
returns-then-record_kind-ne97 c =
    extern-other c.args.card.now (omega (arith, c.if-n-lt12.false)) _ c.record_kind.ensures.0 c.if-record_kind-ne97.true

pub returns-then-record_length-n : goal.returns-then-record_length-n
returns-then-record_length-n c =
    extern-part c.args.card.now (omega (arith, c.if-n-lt12.false)) _ c.record_kind.ensures.0 c.if-record_kind-ne97.false
    _ c.record_length.ensures.0 c.if-record_length-n.true

pub returns-then-record_length-n-2 : goal.returns-then-record_length-n-2
returns-then-record_length-n-2 c =
    extern-more c.args.card.now (omega (arith, c.if-n-lt12.false)) _ c.record_kind.ensures.0 c.if-record_kind-ne97.false
    _ c.record_length.ensures.0 c.if-record_length-n.false
    _ c.record_length-2.ensures.0 c.if-record_length-n-2.true

pub returns : goal.returns
returns c =
    extern-last c.args.card.now (omega (arith, c.if-n-lt12.false)) _ c.record_kind.ensures.0 c.if-record_kind-ne97.false
    _ c.record_length.ensures.0 c.if-record_length-n.false
    _ c.record_length-2.ensures.0 c.if-record_length-n-2.false _ c.record_kind-2.ensures.0
