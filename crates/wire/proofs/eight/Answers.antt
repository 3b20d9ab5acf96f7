-- `wire::eight` meets its contract, by a law of Alike. Assumes nothing.
use native.Mathlib.Omega.{arith}
use Rattle.wire.proofs.Alike.{eight_is}
use Rattle.wire.proofs.eight.Goals as goal

pub returns : goal.returns
returns c = let f = eight_is c.args.s.now c.args.at c.requires in omega arith
