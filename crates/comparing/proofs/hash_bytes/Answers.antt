-- `comparing::hash_bytes` meets its contract: the turns that are left have the hash of all. Assumes nothing.
use mathlib.Core.Path.{◌∙◌}
use native.Mathlib.Omega.{arith}
use Rattle.comparing.proofs.Hashes.{hash-few, hash-start, hash-next, hash-last}
use Rattle.comparing.proofs.hash_bytes.Goals as goal

pub returns-then-n-lt4 : goal.returns-then-n-lt4
returns-then-n-lt4 c = (hash-few _ _ c.if-n-lt4.true c.hash_few.ensures.0, c.hash_few.ensures.1)

pub loop-i-init : goal.loop-i-init
loop-i-init c = (omega arith, hash-start _ c.if-n-lt4.false)

pub loop-i-preserved : goal.loop-i-preserved
loop-i-preserved c =
    let next = hash-next _ _ _ _ _ c.loop-i.invariant.1 c.loop-i-test.true c.four.ensures.0 in
    (c.mix-h.ensures.1, next ∙ rw c.mix-h.ensures.0)

pub returns : goal.returns
returns c =
    let last = hash-last _ _ _ _ _ c.loop-i.invariant.1 (omega (arith, c.loop-i-test.false)) c.four-2.ensures.0 in
    (c.mix.ensures.0 ∙ last, c.mix.ensures.1)
