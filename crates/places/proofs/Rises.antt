-- The offsets of the changed points rise, and lie within the output. Assumes nothing.
use mathlib.Core.List.{List, [], ◌∷◌, ◌++◌}
use Prim.Native.Nat.{ℕ, ◌+◌, ◌≤◌}
use native.Mathlib.Omega.{arith}
use lib.ListN.{length, length-append}
use lib.Dec.{ltb}
use Rattle.records.specs.Record.{Record, Records, leaf, node, nil, ◌▸◌, encode, encode_all, count}
use Rattle.records.proofs.Tree.{record-length, encode-six}
use Rattle.rast.proofs.Tests.{by-test}
use Rattle.points.specs.Points.{Meeting, short_type, short_expr, module', elsewhere, meeting}
use Rattle.places.specs.Places.{Entry, listed, places_of, places_in}
use Rattle.places.specs.Spots.{Rising}

-- offsets from one on rise, and lie below another
unfoldable RisingTo : (from to : ℕ) → List Entry → Type 0
RisingTo from to [] = from ≤ to
RisingTo from to (e ∷ es) = (from ≤ e.offset) × RisingTo (e.offset + 1) to es

from-lower : (from lower to : ℕ) (es : List Entry) → lower ≤ from → RisingTo from to es → RisingTo lower to es
unfolding RisingTo
from-lower from lower to [] l h = omega (arith, l, h)
from-lower from lower to (e ∷ es) l h = (let a = h.0 in omega (arith, l, a), h.1)

one-behind : (from mid to : ℕ) (es fs : List Entry) → RisingTo from mid es → RisingTo mid to fs → RisingTo from to (es ++ fs)
unfolding RisingTo
one-behind from mid to [] fs a b = from-lower mid from to fs a b
one-behind from mid to (e ∷ es) fs a b = (a.0, one-behind (e.offset + 1) mid to es fs a.1 b)

listed-rises : (m : Meeting) (at to : ℕ) (es : List Entry) → at + 6 ≤ to → RisingTo (at + 6) to es → RisingTo at to (listed m at es)
unfolding RisingTo
listed-rises short_type at to es l h = (omega arith, omega (arith, l))
listed-rises short_expr at to es l h = (omega arith, omega (arith, l))
listed-rises module' at to es l h = from-lower (at + 6) at to es (omega arith) h
listed-rises elsewhere at to es l h = from-lower (at + 6) at to es (omega arith) h

-- one more put ahead
ahead-rises : (at : ℕ) (s : Record) (to : ℕ) (es : List Entry) → RisingTo (at + length (encode s)) to es → (at ≤ at) × RisingTo (at + 1) to es
ahead-rises at s to es h = (omega arith, from-lower (at + length (encode s)) (at + 1) to es (let l = encode-six s in omega (arith, l)) h)

mutual
  unfolding places_of encode RisingTo

  places-rise : (at to : ℕ) (this that : Record) → at + length (encode that) ≤ to → RisingTo at to (places_of at this that)
  places-rise at to (leaf k b) that l = omega (arith, l)
  places-rise at to (node k c) (leaf j d) l = omega (arith, l)
  places-rise at to (node k c) (node j d) l =
      let a = record-length j (encode_all d) in
      listed-rises (meeting k j) at to (places_in (at + 6) c d) (omega (arith, l, a)) (children-rise (at + 6) to c d (omega (arith, l, a)))

  children-rise : (at to : ℕ) (c d : Records) → at + length (encode_all d) ≤ to → RisingTo at to (places_in at c d)
  children-rise at to nil nil l = omega (arith, l)
  children-rise at to nil (s ▸ d) l =
      let a = length-append (encode s) (encode_all d) in
      ahead-rises at s to (places_in (at + length (encode s)) nil d) (children-rise (at + length (encode s)) to nil d (omega (arith, l, a)))
  children-rise at to (r ▸ c) nil l = omega (arith, l)
  children-rise at to (r ▸ c) (s ▸ d) l =
      let a = length-append (encode s) (encode_all d) in
      let next = at + length (encode s) in
      by-test (ltb (count c) (count d))
      (λ e. rw e (ahead-rises at s to (places_in next (r ▸ c) d) (children-rise next to (r ▸ c) d (omega (arith, l, a)))))
      (λ e. rw e (one-behind at next to (places_of at r s) (places_in next c d) (places-rise at next r s (omega arith))
      (children-rise next to c d (omega (arith, l, a)))))

-- THE LAW
pub rises : (at : ℕ) (this that : Record) → Rising at (places_of at this that)
unfolding RisingTo Rising
rises at this that = rising at (at + length (encode that)) (places_of at this that) (places-rise at (at + length (encode that)) this that (omega arith))
  where
    rising : (from to : ℕ) (es : List Entry) → RisingTo from to es → Rising from es
    rising from to [] h = tt
    rising from to (e ∷ es) h = (h.0, rising (e.offset + 1) to es h.1)
