-- Words that have room for as many pairs as 2048 words, or for all that a card can have, are full where 2048 are. Assumes nothing.
use mathlib.Core.Path.{◌≡◌, sym, ap, ◌∙◌}
use mathlib.Core.Option.{Option, none}
use Prim.Native.Nat.{ℕ, ◌/◌, ◌<◌, ◌≤◌, min}
use native.Mathlib.Omega.{arith}
use lib.Dec.{eqb}
use borrow.Author.Tests.{eqb-true, eqb-false}
use Rattle.wire.proofs.Less.{less}
use Rattle.rast.proofs.Tests.{by-test}

-- where f says which table has more than so many pairs, and none has more than a card of n bytes can have
pub enough : (f : ℕ → Option ℕ) (n : ℕ) → ((most : ℕ) → n / 18 ≤ most → f most ≡ none) → (r : ℕ) → min (n / 18) 512 ≤ r → r ≤ 512 → f r ≡ f 512
enough f n few r l m =
    by-test (eqb r 512) (λ t. ap f (eqb-true r 512 t))
    (λ t. let d = eqb-false r 512 t in
    let o : r < 512 = less r 512 m d in
    few r (omega arith) ∙ sym (few 512 (omega arith)))
