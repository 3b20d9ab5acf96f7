-- `wire::same` meets its contract: eight bytes at a time, by the laws of Alike. Assumes nothing.
use Prim.Native.Nat.{◌+◌, ◌-◌, ◌*◌}
use mathlib.Core.Path.{◌≡◌}
use native.Mathlib.Omega.{arith}
use lib.ListN.{length}
use Rattle.wire.proofs.Alike.{other_length, alike-none, not_some, alike-some, alike-last}
use Rattle.wire.proofs.same.Goals as goal

pub returns-then-n-b : goal.returns-then-n-b
returns-then-n-b c = other_length c.args.a.now c.args.b.now c.if-n-b.true

pub loop-i-init : goal.loop-i-init
loop-i-init c = alike-none c.args.a.now c.args.b.now c.if-n-b.false

pub returns-then-eight : goal.returns-then-eight
returns-then-eight c = not_some 8 _ _ (8 * c.loop-i.i) _ _ c.eight.ensures c.eight-in-loop-i.ensures c.if-eight.true

pub loop-i-preserved : goal.loop-i-preserved
loop-i-preserved c =
    let e : 8 * (c.loop-i.i + 1) ≡ 8 * c.loop-i.i + 8 = omega arith in
    rw e (alike-some _ _ _ c.loop-i.invariant 8 (λ i. (c.type_inv.a i).fits) (λ i. (c.type_inv.b i).fits) _ _
    (omega arith) c.eight.ensures c.eight-in-loop-i.ensures c.if-eight.false)

pub returns : goal.returns
returns c =
    alike-last c.args.a.now c.args.b.now (8 * c.loop-i.i) c.loop-i.invariant 8 (λ i. (c.type_inv.a i).fits) (λ i. (c.type_inv.b i).fits) _ _
    (length c.args.a.now - 8) (omega arith) (omega arith) c.eight-2.ensures c.eight-3.ensures
