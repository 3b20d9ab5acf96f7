-- A card as the part of itself from its first byte on. Assumes nothing.
use mathlib.Core.Path.{◌≡◌, sym}
use native.Mathlib.Omega.{arith}
use lib.ListN.{length, take, drop}
use lib.Seq.{take_all}
use Rattle.wire.specs.Numbers.{Bytes}

pub all_of : (c : Bytes) → c ≡ take (length c) (drop 0 c)
all_of c = sym (take_all (length c) c (omega arith))
