-- An empty table has no pairs: every bucket's head is none. Assumes nothing.
use mathlib.Core.Path.{◌≡◌, refl, ◌∙◌}
use mathlib.Core.List.{List, []}
use Prim.Native.Nat.{ℕ, zero, suc, ◌+◌, ◌*◌, ◌<◌, ◌≤◌}
use native.Mathlib.Omega.{arith}
use lib.ListN.{length, get_or, set, length-set}
use lib.Seq.{get_or-set_same, get_or-set_other, set_out}
use lib.Dec.{eqb, ltb}
use borrow.Author.Tests.{eqb-true, eqb-false, lt-ltb, ltb-true, ltb-false}
use Rattle.rast.proofs.Tests.{by-test}
use Rattle.prefix.specs.Prefix.{Scope}
use Rattle.chains.specs.Chains.{room, head_of}
use Rattle.adding.specs.Adds.{table, started_from, started}
use Rattle.adding.specs.Holds.{latest, pairs_from, is_in, Has}

started-from : (words : List ℕ) (i n : ℕ) → length (started_from words i n) ≡ length words
unfolding started_from
started-from words i zero = refl
started-from words i (suc n) = started-from (set words (4 * i + 3) 0) (suc i) n ∙ length-set words (4 * i + 3) 0

pub started-length : (words : List ℕ) → length (started words) ≡ length words
unfolding started
started-length words = started-from words 0 (room words)

-- a fourth word that is zero stays so, and those from pair i on become so
zero-kept : (words : List ℕ) (i n c : ℕ) → get_or words (4 * c + 3) 0 ≡ 0 → get_or (started_from words i n) (4 * c + 3) 0 ≡ 0
unfolding started_from
zero-kept words i zero c e = e
zero-kept words i (suc n) c e =
    zero-kept (set words (4 * i + 3) 0) (suc i) n c
    (by-test (eqb c i)
    (λ t. by-test (ltb (4 * c + 3) (length words))
    (λ u. rw (← eqb-true c i t) (get_or-set_same words (4 * c + 3) 0 0 (ltb-true (4 * c + 3) (length words) u)))
    (λ u. rw (← eqb-true c i t, set_out words (4 * c + 3) 0 (ltb-false (4 * c + 3) (length words) u)) e))
    (λ t. let d = eqb-false c i t in get_or-set_other words (4 * i + 3) (4 * c + 3) 0 0 (λ z. d (let y : c ≡ i = omega arith in y)) ∙ e))

zero-from : (words : List ℕ) (i n c : ℕ) → i ≤ c → c < i + n → 4 * (i + n) ≤ length words → get_or (started_from words i n) (4 * c + 3) 0 ≡ 0
unfolding started_from
zero-from words i zero c g h l = absurd (omega arith)
zero-from words i (suc n) c g h l =
    by-test (eqb i c)
    (λ t. zero-kept (set words (4 * i + 3) 0) (suc i) n c (rw (eqb-true i c t) (get_or-set_same words (4 * c + 3) 0 0 (omega arith))))
    (λ t. let d = eqb-false i c t in zero-from (set words (4 * i + 3) 0) (suc i) n c (omega (arith, d)) (omega arith) (simp length-set (omega arith)))

start-heads : (s : Scope) (words : List ℕ) (b : ℕ) → b < room (started words) → head_of (started words) b ≡ latest (is_in (started words) b) 0
unfolding head_of latest started
start-heads s words b h =
    let e : length (started_from words 0 (room words)) ≡ length words = started-length words in
    let z : get_or (started_from words 0 (room words)) (4 * b + 3) 0 ≡ 0 = zero-from words 0 (room words) b (omega arith) (omega arith) (omega arith) in
    rw (lt-ltb b (room (started_from words 0 (room words))) h, z)

pub start_has : (s : Scope) (words : List ℕ) → Has s (table 0 (started words)) []
unfolding pairs_from
start_has s words =
    record {
      count = omega arith;
      pairs = λ h. refl;
      chained = λ h. record {
        heads = start-heads s words;
        links = λ i l. absurd (omega arith);
        bases = λ i l. absurd (omega arith);
        numbers = λ i l. absurd (omega arith);
      };
    }
