-- `wire::same_short` meets its contract: byte by byte, or the first four bytes and the last four, by the laws of Alike. Assumes nothing.
use Prim.Native.Nat.{ℕ, ◌-◌, ◌<◌}
use native.Mathlib.Omega.{arith}
use lib.ListN.{length, get_or}
use Rattle.wire.proofs.Alike.{alike-none, not_some, alike-some, alike-last}
use Rattle.wire.proofs.same_short.Goals as goal

pub returns-then-four : goal.returns-then-four
returns-then-four c = not_some 4 _ _ 0 _ _ c.four.ensures.0 c.four-2.ensures.0 c.if-four.true

pub returns : goal.returns
returns c =
    let a = c.args.a.now in
    let b = c.args.b.now in
    let bytes-a : (i : ℕ) → get_or a i 0 < 256 = λ i. (c.type_inv.a i).fits in
    let bytes-b : (i : ℕ) → get_or b i 0 < 256 = λ i. (c.type_inv.b i).fits in
    let first = alike-some a b 0 (alike-none a b c.requires.0) 4 bytes-a bytes-b _ _ (omega (arith, c.if-n-lt4.false))
    c.four.ensures.0 c.four-2.ensures.0 c.if-four.false in
    alike-last a b 4 first 4 bytes-a bytes-b _ _ (length a - 4) (omega (arith, c.requires.1)) (omega (arith, c.if-n-lt4.false)) c.four-3.ensures.0
    c.four-4.ensures.0
