-- `wire::four` meets its contract, by a law of Alike. Assumes nothing.
use native.Mathlib.Omega.{arith}
use Rattle.wire.proofs.Alike.{four_is}
use Rattle.wire.proofs.four.Goals as goal

pub returns : goal.returns
returns c = let f = four_is c.args.s.now c.args.at c.requires in (omega arith, c.from_le_bytes.type_inv)
