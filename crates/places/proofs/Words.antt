-- How many words entries take. Assumes nothing.
use mathlib.Core.Path.{◌≡◌, refl}
use mathlib.Core.List.{List, [], ◌∷◌}
use Prim.Native.Nat.{◌*◌}
use native.Mathlib.Omega.{arith}
use lib.ListN.{length}
use Rattle.places.specs.Places.{Entry, entry_words}

pub words-length : (es : List Entry) → length (entry_words es) ≡ 2 * length es
unfolding entry_words
words-length [] = refl
words-length (e ∷ es) = let i = words-length es in omega (arith, i)
