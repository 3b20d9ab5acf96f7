-- Room beside a table, and few words for what is small, by the code's tests. Assumes nothing.
use mathlib.Core.Path.{◌≡◌, ap, sym, ◌∙◌}
use mathlib.Core.Bool.{Bool, false, ◌&&◌}
use mathlib.Core.List.{List}
use Prim.Native.Nat.{ℕ, ◌-◌, ◌*◌, ◌/◌, ◌<◌, ◌≤◌, min}
use native.Mathlib.Omega.{arith}
use lib.ListN.{length, take, drop, length-take, length-drop}
use lib.Seq.{take_all}
use lib.Dec.{eqb, leb}
use borrow.Author.Tests.{eq-eqb, ne_eqb, le-leb, lt-leb, leb-true, leb-false}
use Rattle.rast.proofs.Tests.{by-test}
use Rattle.chains.specs.Chains.{room}
use Rattle.adding.specs.Adds.{table}
use Rattle.tables.specs.Tables.{has_room, is_small}

-- beside another's table there is nothing
pub beside-not : (owner at : ℕ) (b : Bool) → (owner ≡ at → ⊥) → false ≡ (eqb owner at && b)
beside-not owner at b d = rw (ne_eqb owner at d)

module _ (owner at pairs n : ℕ) (words : List ℕ) where
  pub beside-is : owner ≡ at → (k r : ℕ) → k ≡ min (4 * pairs) (length words) → r ≡ room (take (length words - k) (drop k words))
      → leb (n / 18) r ≡ (eqb owner at && has_room (table pairs words) n)
  unfolding has_room
  beside-is e k r x y =
      let a = length-take (length words - k) (drop k words) in
      let b = length-drop k words in
      let c = length-drop (4 * pairs) words in
      let z : r ≡ room (drop (4 * pairs) words) = omega arith in
      rw (eq-eqb owner at e) (ap (leb (n / 18)) z)

  pub small-not : owner ≡ at → 64 < n / 18 → false ≡ (eqb owner at && is_small (table pairs words) n)
  unfolding is_small
  small-not e l = rw (eq-eqb owner at e, lt-leb (n / 18) 64 l)

  pub small_is : owner ≡ at → n / 18 ≤ 64 → leb (4 * (n / 18)) (length words) ≡ (eqb owner at && is_small (table pairs words) n)
  unfolding is_small
  small_is e l = rw (eq-eqb owner at e, le-leb (n / 18) 64 l)

-- the words that pairs take, as far as the words reach
pub own-taken : (words : List ℕ) (pairs k : ℕ) → k ≡ min (4 * pairs) (length words) → take k words ≡ take (4 * pairs) words
own-taken words pairs k e =
    by-test (leb (4 * pairs) (length words))
    (λ t. let l = leb-true (4 * pairs) (length words) t in let z : k ≡ 4 * pairs = omega arith in rw z)
    (λ t. let l = leb-false (4 * pairs) (length words) t in take_all k words (omega arith) ∙ sym (take_all (4 * pairs) words (omega arith)))
