-- `laying::lay_zeros` meets its contract, by the laws of laying. Assumes nothing.
use mathlib.Core.Path.{sym, ap, ◌∙◌}
use Prim.Native.Nat.{ℕ, ◌+◌, ◌≤◌}
use native.Mathlib.Omega.{arith}
use lib.ListN.{length, replicate}
use Rattle.laying.specs.Lays.{lay}
use Rattle.laying.proofs.Laws.{lay-past, lay-mid, lay-fill, part-length}
use Rattle.laying.proofs.lay_zeros.Goals as goal

pub returns-then-out-at : goal.returns-then-out-at
returns-then-out-at c = sym (lay-past _ _ _ c.if-out-at.true)

pub returns : goal.returns
returns c =
    let out = c.args.out.now in
    let at = c.args.at in
    let fits : at + c.min.result ≤ length out = omega (arith, c.min.ensures, c.if-out-at.false) in
    lay-mid out at c.min.result _ fits c.fill.ensures.len
    ∙ ap (lay out at) (c.fill.ensures.after (λ y e. e) ∙ ap (λ (m : ℕ). replicate m 0) (part-length out at c.min.result fits))
    ∙ lay-fill out at c.args.n c.min.result c.min.ensures
