-- Whether an output surely has room in the out buffer, and every table in the work words, before anything is written. Assumes nothing: these are definitions.
use Rattle.std.specs.Prelude.{Bool, true, false, ◌&&◌, cond, List, [], ◌∷◌, ℕ, zero, suc, ◌+◌, ◌*◌, ◌/◌, length, drop, get_or, eqb, leb, ltb}
use Rattle.wire.specs.Numbers.{Bytes}
use Rattle.records.specs.Record.{length_of, kind_of}
use Rattle.size.specs.Bound.{times}
use Rattle.operation.specs.declared.Shortening.{Shortening}
use Rattle.operation.specs.Operations.{operation_of}
use Rattle.prefix.specs.Prefix.{Scope}
use Rattle.comparing.specs.Compares.{place_in}
use Rattle.chains.specs.Chains.{room, word_at}
use Rattle.adding.specs.Adds.{Table}
use Rattle.adding.specs.Settles.{own_words}
use Rattle.rewriting.specs.Rewrites.{parts_of, body_of}

-- by the card's length alone: how many times as long an output can be, and a pair takes 18 bytes of a card
unfoldable pub surely_fits : Shortening → (card out : Bytes) → List ℕ → Bool
surely_fits op card out words = leb (times (operation_of op) * length card) (length out) && leb (length card / 18) (room words)

-- whether each declaration that holds a module is so small that no table of its modules has more pairs than this
unfoldable pub are_few : ℕ → List Bytes → Bool
are_few most [] = true
are_few most (d ∷ ds) = cond (eqb (kind_of d) 0x62 && ltb most (length d / 18)) false (are_few most ds)

unfoldable pub nested_few : Bytes → ℕ → Bool
nested_few card most = are_few most (parts_of (body_of card))

-- how long the use of the pair that i pairs stand ahead of can be at most: 31 bytes, its name, and its base by the length that the record states; a pair that
-- has the prefix for its base brings none
unfoldable pub use_most : Bytes → List ℕ → ℕ → ℕ
use_most card words i =
    let place : ℕ = place_in (word_at words i) in
    cond (eqb place 0) 0 (31 + get_or words (4 * i + 1) 0 + (4 + length_of (drop place card)))

-- and those of n pairs
unfoldable pub uses_most : Bytes → List ℕ → ℕ → ℕ
uses_most card words zero = 0
uses_most card words (suc n) = uses_most card words n + use_most card words n

-- by the outermost module's table, where so many bytes are lent: how long its uses can be, and what else can grow
unfoldable pub is_roomy : Scope → (lent grown : ℕ) → Table → Bool
is_roomy s lent grown mine =
    leb mine.count (room mine.words)
    && (leb (length s.card + grown + uses_most s.card (own_words mine) mine.count) lent
    && nested_few s.card (room mine.words))
