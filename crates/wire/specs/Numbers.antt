-- Numbers in bytes, the lowest byte first (01, Leaf 1). Assumes nothing: these are definitions.
use Rattle.std.specs.Prelude.{List, [], ◌∷◌, Bool, true, false, ◌&&◌, ℕ, zero, suc, ◌+◌, ◌*◌, ◌-◌, ◌/◌, ◌%◌, ◌<◌, take, drop, eqb}

abbrev pub Bytes : Type 0
Bytes = List ℕ

-- what is lent as bytes: each element is under 256
unfoldable pub AreBytes : Bytes → Type 0
AreBytes [] = Unit {0}
AreBytes (b ∷ s) = (b < 256) × AreBytes s

-- the bytes from one place to another
abbrev pub between : Bytes → ℕ → ℕ → Bytes
between s from to = take (to - from) (drop from s)

-- the lowest w bytes of n
unfoldable pub le : ℕ → ℕ → Bytes
le zero n = []
le (suc w) n = n % 256 ∷ le w (n / 256)

-- the number that bytes hold
unfoldable pub num : Bytes → ℕ
num [] = 0
num (b ∷ s) = b + 256 * num s

unfoldable pub same_bytes : Bytes → Bytes → Bool
same_bytes [] [] = true
same_bytes [] (b ∷ t) = false
same_bytes (a ∷ s) [] = false
same_bytes (a ∷ s) (b ∷ t) = eqb a b && same_bytes s t
