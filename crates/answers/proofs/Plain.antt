-- How large the number of an answer is, and when nothing of a place is lost as it is packed. Assumes nothing.
use Rattle.std.specs.Prelude.{Ok, Err}
use mathlib.Core.Path.{◌≡◌, refl}
use mathlib.Core.List.{[], ◌∷◌, map}
use Prim.Native.Nat.{◌+◌, ◌*◌, ◌≤◌, ◌<◌}
use native.Mathlib.Omega.{arith}
use Rattle.answers.specs.Answers.{number, value, packed}
use Rattle.answers.specs.Answers.{Answer}
use Rattle.answers.specs.declared.Refusal.{Refusal}
use Rattle.answers.specs.declared.Refusal.TheVariants.{ShortWork, LongCard, BadRoot, ShortRecord, WrongKind, TooDeep}
use Rattle.answers.specs.declared.Refusal.TheVariants.{LeftOver, FullTable, NoSpace, ShortList, NoName}

-- every number is one of 0 to 11
pub number_small : (a : Answer) → number a ≤ 11
number_small (Ok n) = omega arith
number_small (Err ShortWork) = omega arith
number_small (Err LongCard) = omega arith
number_small (Err BadRoot) = omega arith
number_small (Err (ShortRecord n)) = omega arith
number_small (Err (WrongKind n)) = omega arith
number_small (Err (TooDeep n)) = omega arith
number_small (Err (LeftOver n)) = omega arith
number_small (Err (FullTable n)) = omega arith
number_small (Err NoSpace) = omega arith
number_small (Err ShortList) = omega arith
number_small (Err (NoName n)) = omega arith

-- that of a refusal is not 0
pub refusal-numbered : (a : Refusal) → 1 ≤ number (Err a)
refusal-numbered ShortWork = omega arith
refusal-numbered LongCard = omega arith
refusal-numbered BadRoot = omega arith
refusal-numbered (ShortRecord n) = omega arith
refusal-numbered (WrongKind n) = omega arith
refusal-numbered (TooDeep n) = omega arith
refusal-numbered (LeftOver n) = omega arith
refusal-numbered (FullTable n) = omega arith
refusal-numbered NoSpace = omega arith
refusal-numbered ShortList = omega arith
refusal-numbered (NoName n) = omega arith

-- the answers in the order of the papers' table: no two have one number
pub numbers-are : map number
    (Ok 0 ∷ (Err ShortWork) ∷ (Err LongCard) ∷ (Err BadRoot) ∷ Err (ShortRecord 0) ∷ Err (WrongKind 0) ∷ Err (TooDeep 0) ∷ Err (LeftOver 0) ∷ Err (FullTable 0) ∷ (Err NoSpace) ∷ (Err ShortList) ∷ Err (NoName 0) ∷ [])
    ≡ 0 ∷ 1 ∷ 2 ∷ 3 ∷ 4 ∷ 5 ∷ 6 ∷ 7 ∷ 8 ∷ 9 ∷ 10 ∷ 11 ∷ []
numbers-are = refl

-- of a length or place under 2 ^ 32 nothing is lost
pub packed-plain : (a : Answer) → value a < 4294967296 → packed a ≡ number a * 4294967296 + value a
unfolding packed
packed-plain a h = omega arith
