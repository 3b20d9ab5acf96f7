-- `reading::read_content` meets its contract. It calls itself, and what falls is how deep records may go. Each need is a law of Turns.
-- Assumes nothing.
use Prim.Native.Nat.{◌-◌}
use native.Mathlib.Omega.{arith}
use Rattle.reading.proofs.Rows.{good-valid, row_read}
use Rattle.reading.proofs.Turns.{turn-start, turn_end, turn-cut, turn-left, turn-short, turn-wrong, turn-deep, head}
use Rattle.reading.proofs.Turns.{turn-nameless, turn-leaf, turn-empty, turn-hollow, turn-good, turn_last, turn-fault, turn-inner}
use Rattle.std.proofs.Common.{rules, Err}
use mathlib.Core.Path.{◌≡◌, ap, refl, ◌∙◌}
use mathlib.Core.Bool.{not}
use Rattle.reading.proofs.+read_content.Goals as goal

pub loop-i-init : goal.loop-i-init
loop-i-init t c = turn-start _ _ _ _ _ c.requires.0 c.requires.1

pub returns-then-p-eq0 : goal.returns-then-p-eq0
returns-then-p-eq0 t c = turn-left c.loop-i.invariant c.loop-i-test.true c.requires.2 c.if-p-eq0.true

pub returns-then-is_short : goal.returns-then-is_short
returns-then-is_short t c =
    turn-short c.loop-i.invariant c.loop-i-test.true c.requires.2
    c.if-p-eq0.false c.is_short.ensures c.if-is_short.true

pub returns-then-not-may_stand : goal.returns-then-not-may_stand
returns-then-not-may_stand t c =
    turn-wrong c.loop-i.invariant c.loop-i-test.true c.requires.2 c.if-p-eq0.false
    c.is_short.ensures c.if-is_short.false c.record_kind-k.ensures.0 c.may_stand.ensures (ap not c.if-not-may_stand.true)

pub returns-then-left-eq0 : goal.returns-then-left-eq0
returns-then-left-eq0 t c =
    turn-deep (head c.loop-i.invariant c.loop-i-test.true c.requires.2 c.if-p-eq0.false
    c.is_short.ensures c.if-is_short.false c.record_kind-k.ensures.0 c.may_stand.ensures
    (ap not c.if-not-may_stand.false) c.record_length.ensures.0 c.row_after-after.ensures) c.if-left-eq0.true

pub returns-then-is_nameless : goal.returns-then-is_nameless
returns-then-is_nameless t c =
    turn-nameless (head c.loop-i.invariant c.loop-i-test.true c.requires.2 c.if-p-eq0.false
    c.is_short.ensures c.if-is_short.false c.record_kind-k.ensures.0 c.may_stand.ensures
    (ap not c.if-not-may_stand.false) c.record_length.ensures.0 c.row_after-after.ensures) c.if-left-eq0.false c.is_nameless.ensures c.if-is_nameless.true

pub loop-i-preserved-then-p-lt4 : goal.loop-i-preserved-then-p-lt4
loop-i-preserved-then-p-lt4 t c =
    turn-leaf (head c.loop-i.invariant c.loop-i-test.true c.requires.2 c.if-p-eq0.false
    c.is_short.ensures c.if-is_short.false c.record_kind-k.ensures.0 c.may_stand.ensures
    (ap not c.if-not-may_stand.false) c.record_length.ensures.0 c.row_after-after.ensures) c.if-left-eq0.false c.if-p-lt4.true c.is_nameless.ensures c.if-is_nameless.false

pub row_in-inner-requires : goal.row_in-inner-requires
row_in-inner-requires t c =
    let valid = good-valid _ c.loop-i.invariant.good in
    (valid.small, c.requires.4)

pub returns-then-left-eq0-2 : goal.returns-then-left-eq0-2
returns-then-left-eq0-2 t c =
    turn-deep (head c.loop-i.invariant c.loop-i-test.true c.requires.2 c.if-p-eq0.false
    c.is_short.ensures c.if-is_short.false c.record_kind-k.ensures.0 c.may_stand.ensures
    (ap not c.if-not-may_stand.false) c.record_length.ensures.0 c.row_after-after.ensures) c.if-left-eq0-2.true

pub returns-then-not-may_end : goal.returns-then-not-may_end
returns-then-not-may_end t c =
    turn-hollow (head c.loop-i.invariant c.loop-i-test.true c.requires.2 c.if-p-eq0.false
    c.is_short.ensures c.if-is_short.false c.record_kind-k.ensures.0 c.may_stand.ensures
    (ap not c.if-not-may_stand.false) c.record_length.ensures.0 c.row_after-after.ensures) c.if-left-eq0-2.false c.if-p-lt4.false c.if-e-i.true
    (row_read c.args.t.now _ _ c.requires.4 c.row_at.ensures) c.may_end.ensures (ap not c.if-not-may_end.true)

pub loop-i-preserved-then-e-i : goal.loop-i-preserved-then-e-i
loop-i-preserved-then-e-i t c =
    turn-empty (head c.loop-i.invariant c.loop-i-test.true c.requires.2 c.if-p-eq0.false
    c.is_short.ensures c.if-is_short.false c.record_kind-k.ensures.0 c.may_stand.ensures
    (ap not c.if-not-may_stand.false) c.record_length.ensures.0 c.row_after-after.ensures) c.if-left-eq0-2.false c.if-p-lt4.false c.if-e-i.true
    (row_read c.args.t.now _ _ c.requires.4 c.row_at.ensures) c.may_end.ensures (ap not c.if-not-may_end.false)

pub loop-i-preserved-then-may_end : goal.loop-i-preserved-then-may_end
loop-i-preserved-then-may_end t c =
    turn_last (head c.loop-i.invariant c.loop-i-test.true c.requires.2 c.if-p-eq0.false
    c.is_short.ensures c.if-is_short.false c.record_kind-k.ensures.0 c.may_stand.ensures
    (ap not c.if-not-may_stand.false) c.record_length.ensures.0 c.row_after-after.ensures) c.if-left-eq0-2.false c.if-p-lt4.false c.if-e-i.false c.row_in-inner.ensures
    c.if-e-to.true c.may_end-then-e-to.ensures c.if-may_end.true

pub read_content-requires : goal.read_content-requires
read_content-requires t c =
    let head = (head c.loop-i.invariant c.loop-i-test.true c.requires.2 c.if-p-eq0.false
    c.is_short.ensures c.if-is_short.false c.record_kind-k.ensures.0 c.may_stand.ensures
    (ap not c.if-not-may_stand.false) c.record_length.ensures.0 c.row_after-after.ensures) in
    let good = turn-good head c.if-left-eq0-2.false c.if-p-lt4.false c.if-e-i.false c.row_in-inner.ensures in (
      omega (arith, c.decreases, c.loop-i.invariant.under, c.if-left-eq0-2.false),
      (
        good,
        head.after-head,
        omega (arith, head.inside, c.requires.2),
        omega (arith, head.inside, c.requires.3),
        c.requires.4,
      ),
    )

pub returns-in_err-read_content : goal.returns-in_err-read_content
returns-in_err-read_content t c =
    (let e : c.from_residual.result ≡ Err c.in_err-read_content.field-0.0 = search rules in e)
    ∙ turn-fault (head c.loop-i.invariant c.loop-i-test.true c.requires.2 c.if-p-eq0.false
    c.is_short.ensures c.if-is_short.false c.record_kind-k.ensures.0 c.may_stand.ensures
    (ap not c.if-not-may_stand.false) c.record_length.ensures.0 c.row_after-after.ensures) c.if-left-eq0-2.false c.if-p-lt4.false c.if-e-i.false c.row_in-inner.ensures
    c.in_err-read_content.ensures refl

pub loop-i-preserved : goal.loop-i-preserved
loop-i-preserved t c =
    turn-inner (head c.loop-i.invariant c.loop-i-test.true c.requires.2 c.if-p-eq0.false
    c.is_short.ensures c.if-is_short.false c.record_kind-k.ensures.0 c.may_stand.ensures
    (ap not c.if-not-may_stand.false) c.record_length.ensures.0 c.row_after-after.ensures) c.if-left-eq0-2.false c.if-p-lt4.false c.if-e-i.false c.row_in-inner.ensures
    c.in_ok-read_content.ensures refl

pub returns-then-may_end-2 : goal.returns-then-may_end-2
returns-then-may_end-2 t c = turn_end c.loop-i.invariant c.loop-i-test.false c.may_end-2.ensures c.if-may_end-2.true

pub returns : goal.returns
returns t c = turn-cut c.loop-i.invariant c.loop-i-test.false c.may_end-2.ensures c.if-may_end-2.false
