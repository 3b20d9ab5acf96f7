-- The chains of a table set anew over just the words that its pairs take, so that the words behind these are free. Assumes nothing: these are definitions.
use Rattle.std.specs.Prelude.{List, ◌++◌, cond, ℕ, zero, suc, ◌+◌, ◌*◌, take, drop, get_or, ltb}
use Rattle.chains.specs.Chains.{room, word_at}
use Rattle.adding.specs.Adds.{Table, table, started, put_pair}
use Rattle.adding.specs.Holds.{bucket_at}

-- the pair that i pairs stand ahead of, put again where it stands, and n pairs from it on
unfoldable pub put_again : List ℕ → ℕ → List ℕ
put_again words i = put_pair words i (bucket_at words i) (get_or words (4 * i) 0) (get_or words (4 * i + 1) 0) (word_at words i)

unfoldable pub put_again_from : List ℕ → ℕ → ℕ → List ℕ
put_again_from words i zero = words
put_again_from words i (suc n) = put_again_from (put_again words i) (suc i) n

-- words that are full of pairs, chained by as many buckets
unfoldable pub settled : List ℕ → List ℕ
settled words = put_again_from (started words) 0 (room words)

-- the words that a table's pairs take, and those behind them
abbrev pub own_words : Table → List ℕ
own_words t = take (4 * t.count) t.words

abbrev pub free_words : Table → List ℕ
free_words t = drop (4 * t.count) t.words

-- a full table is left
unfoldable pub settled_table : Table → Table
settled_table t = cond (ltb (room t.words) t.count) t (table t.count (settled (own_words t) ++ free_words t))
