-- A root and a card that are seen to be sound without a row for each kind. Assumes nothing: these are definitions.
use Rattle.std.specs.Prelude.{Bool, ◌&&◌, ◌+◌, length, drop, eqb, leb}
use Rattle.wire.specs.Numbers.{Bytes}
use Rattle.records.specs.Record.{length_of, kind_of}
use Rattle.records.specs.Kinds.{kinds, stands}

-- a root of one record that holds nothing: Global, Crate or Self
abbrev pub is_plain : Bytes → Bool
is_plain root = eqb (length root) 6 && eqb (length_of root) 2 && stands (kinds 0x10 0x12) (kind_of root)

-- a card that is an ExternMod and its name, and nothing more
abbrev pub is_extern : Bytes → Bool
is_extern card =
    let name : Bytes = drop 6 card in
    leb 12 (length card) && eqb (kind_of card) 0x61 && eqb (length_of card + 4) (length card) && eqb (length_of name + 10) (length card) && eqb (kind_of name) 0x01
