-- Where a declaration's own name stands in its bytes, whatever they are. Assumes nothing: these are definitions.
use Rattle.std.specs.Prelude.{◌&&◌, cond, ℕ, zero, suc, ◌+◌, length, drop, eqb, leb, ltb}
use Rattle.wire.specs.Numbers.{Bytes}
use Rattle.records.specs.Record.{length_of, kind_of, rest_of}

-- where record i of those that stand one after the other from the front of s on starts
unfoldable pub offset_of : ℕ → Bytes → ℕ
offset_of zero s = 0
offset_of (suc i) s = (4 + length_of s) + offset_of i (rest_of s)

-- VisitTraitName: where in c the Text of a trait's name starts, given where its type starts; 0 where it has none
unfoldable pub trait_name_at : ℕ → Bytes → ℕ
trait_name_at o c =
    let t : Bytes = drop o c in
    cond (eqb (kind_of t) 0x2C) (o + 6) (cond (eqb (kind_of t) 0x2E) (cond (eqb (kind_of (drop 6 t)) 0x2C) (o + 12) 0) 0)

-- VisitModDeclSingle: where in the content c of a declaration of kind k the Text of its own name starts; 0 where it has none
unfoldable pub name_at : ℕ → Bytes → ℕ
name_at k c =
    let it : Bytes = drop 6 c in
    cond (eqb k 0x62) (cond (eqb (kind_of c) 0x61) 6 (6 + offset_of 2 it))
    (cond (eqb k 0x68) (trait_name_at (6 + offset_of 3 it) c)
    (cond (eqb k 0x69) (12 + offset_of 3 it)
    (cond (leb 0x63 k && leb k 0x66) (6 + offset_of 2 it) 0)))

-- where the card has the Text of the name of the module at a place; 0 past its end
unfoldable pub name_place : Bytes → ℕ → ℕ
name_place card at = cond (ltb at (length card)) (at + name_at 0x62 (drop at card)) 0
