-- What a table's words hold: a list of pairs, and chains that are whole. Assumes nothing: these are definitions.
use Rattle.std.specs.Prelude.{◌≡◌, List, [], ◌∷◌, Bool, cond, ℕ, zero, suc, ◌<◌, ◌≤◌, min, length, eqb}
use Rattle.prefix.specs.Prefix.{Scope}
use Rattle.comparing.specs.Compares.{number_of, place_in, base_word, base_at}
use Rattle.chains.specs.Chains.{room, name_at, number_at, word_at, bucket_of, head_of, next_of}
use Rattle.pairs.specs.Stored.{Stored, stored}
use Rattle.adding.specs.Adds.{Table}

-- the number of the newest of n pairs that a test holds of; 0 where it holds of none
unfoldable pub latest : (ℕ → Bool) → ℕ → ℕ
latest f zero = 0
latest f (suc n) = cond (f n) (suc n) (latest f n)

-- the bucket of the pair that i pairs stand ahead of, by the number of its name in its words, and whether it is in bucket b
abbrev pub bucket_at : List ℕ → ℕ → ℕ
bucket_at words i = bucket_of words (number_at words i)

abbrev pub is_in : List ℕ → ℕ → ℕ → Bool
is_in words b i = eqb (bucket_at words i) b

module _ (s : Scope) where
  -- the pair that i pairs stand ahead of, n pairs from it on, and the first n
  unfoldable pub pair_at : List ℕ → ℕ → Stored
  pair_at words i = stored (name_at s.card words i) (base_at s (place_in (word_at words i)))

  unfoldable pub pairs_from : List ℕ → ℕ → ℕ → List Stored
  pairs_from words i zero = []
  pairs_from words i (suc n) = pair_at words i ∷ pairs_from words (suc i) n

  abbrev pub pairs_in : List ℕ → ℕ → List Stored
  pairs_in words n = pairs_from words 0 n

  -- the chains of n pairs are whole: a bucket's head is its newest pair, a pair's link is the newest of its bucket ahead of it; and each base is a word,
  -- each name's number its own
  pub record Chained (words : List ℕ) (n : ℕ) : Type 0 where
    pub heads : (b : ℕ) → b < room words → head_of words b ≡ latest (is_in words b) n
    pub links : (i : ℕ) → i < n → next_of words (suc i) ≡ latest (is_in words (bucket_at words i)) i
    pub bases : (i : ℕ) → i < n → word_at words i ≡ base_word s.op s.card (place_in (word_at words i))
    pub numbers : (i : ℕ) → i < n → number_at words i ≡ number_of s.op (name_at s.card words i)

  -- a table has these pairs; where there is no room for all of them, its count is one more than there is room for
  pub record Has (t : Table) (ps : List Stored) : Type 0 where
    pub count : t.count ≡ min (length ps) (suc (room t.words))
    pub pairs : length ps ≤ room t.words → pairs_in t.words t.count ≡ ps
    pub chained : length ps ≤ room t.words → Chained t.words t.count
