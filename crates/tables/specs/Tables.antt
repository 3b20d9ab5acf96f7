-- The table of a module, in words that may hold it already. It is settled, so that the words behind its pairs are free. Assumes nothing: these are
-- definitions.
use Rattle.std.specs.Prelude.{Bool, ◌&&◌, cond, List, ℕ, ◌-◌, ◌*◌, ◌/◌, length, drop, eqb, leb}
use Rattle.prefix.specs.Prefix.{Scope}
use Rattle.chains.specs.Chains.{room}
use Rattle.adding.specs.Adds.{Table}
use Rattle.adding.specs.Settles.{free_words, settled_table}
use Rattle.gathering.specs.Gathers.{gathered}

unfoldable pub table_of : Scope → (left at owner : ℕ) → Table → Table
table_of s left at owner t = cond (eqb owner at) t (settled_table (gathered s left at t.words))

-- whether the words behind a table's pairs have room for whatever so many bytes collect: a pair takes 18 bytes of a card or more
unfoldable pub has_room : Table → ℕ → Bool
has_room held n = leb (n / 18) (room (free_words held))

-- whether whatever so many bytes collect takes so few words that they can be put aside, and there are as many
unfoldable pub is_small : Table → ℕ → Bool
is_small held n = leb (n / 18) 64 && leb (4 * (n / 18)) (length held.words)

-- the last words, as many as that takes
unfoldable pub last_words : Table → ℕ → List ℕ
last_words held n = drop (length held.words - 4 * (n / 18)) held.words
