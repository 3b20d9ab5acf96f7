-- 01, "The console's answers", and the answers that 02 adds: the number of each, its length or place, and both in one number. Assumes nothing: these are definitions.
use Rattle.std.specs.Prelude.{ℕ, ◌+◌, ◌*◌, ◌%◌, Result, Ok, Err}
use Rattle.answers.specs.declared.Refusal.{Refusal}
use Rattle.answers.specs.declared.Refusal.TheVariants.{ShortWork, LongCard, BadRoot, ShortRecord, WrongKind, TooDeep}
use Rattle.answers.specs.declared.Refusal.TheVariants.{LeftOver, FullTable, NoSpace, ShortList, NoName}

-- acceptance with the output's length, or a refusal
abbrev pub Answer : Type 0
Answer = Result ℕ Refusal

-- what reading says of bytes
abbrev pub Verdict : Type 0
Verdict = Result Unit Refusal

abbrev pub number : Answer → ℕ
number (Ok length) = 0
number (Err ShortWork) = 1
number (Err LongCard) = 2
number (Err BadRoot) = 3
number (Err (ShortRecord place)) = 4
number (Err (WrongKind place)) = 5
number (Err (TooDeep place)) = 6
number (Err (LeftOver place)) = 7
number (Err (FullTable place)) = 8
number (Err NoSpace) = 9
number (Err ShortList) = 10
number (Err (NoName place)) = 11

-- the output's length, or the place
abbrev pub value : Answer → ℕ
value (Ok length) = length
value (Err ShortWork) = 0
value (Err LongCard) = 0
value (Err BadRoot) = 0
value (Err (ShortRecord place)) = place
value (Err (WrongKind place)) = place
value (Err (TooDeep place)) = place
value (Err (LeftOver place)) = place
value (Err (FullTable place)) = place
value (Err NoSpace) = 0
value (Err ShortList) = 0
value (Err (NoName place)) = place

-- one number of 64 bits: the number times 2 ^ 32, plus the length or place, whose lower 32 bits alone count
unfoldable pub packed : Answer → ℕ
packed a = number a * 4294967296 + value a % 4294967296
