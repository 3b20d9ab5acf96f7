-- THE CHAIN: in a table whose chains are whole, seeking finds the newest pair that a test holds of. Assumes nothing.
use mathlib.Core.Path.{◌≡◌, refl, sym, ap, ◌∙◌}
use mathlib.Core.List.{List}
use mathlib.Core.Bool.{Bool, true, false, cond, and-false, and-eq-true_iff, true≢false}
use Prim.Native.Nat.{ℕ, zero, suc, ◌-◌, ◌<◌, ◌≤◌}
use native.Mathlib.Omega.{arith}
use lib.Dec.{eqb}
use borrow.Author.Tests.{eqb-true, eqb-false, eq-eqb, ne_eqb, le-ltb}
use Rattle.wire.specs.Numbers.{Bytes}
use Rattle.rast.proofs.Tests.{by-test}
use Rattle.operation.specs.Operations.{operation_of}
use Rattle.prefix.specs.Prefix.{Scope}
use Rattle.comparing.specs.Compares.{number_of}
use Rattle.comparing.proofs.Operations.{number-name}
use Rattle.chains.specs.declared.Want.{Want}
use Rattle.chains.specs.Chains.{room, name_at, number_at, word_at, bucket_of, head_of, next_of, has_wanted, has_named, is_wanted, seek_from, seek}
use Rattle.chains.proofs.Tests.{bucket-inside}
use Rattle.adding.specs.Holds.{latest, bucket_at, is_in, Chained}

-- the newest is one of them, or none
pub latest-most : (f : ℕ → Bool) (n : ℕ) → latest f n ≤ n
unfolding latest
latest-most f zero = omega arith
latest-most f (suc n) = by-test (f n) (λ t. rw t (omega arith)) (λ t. rw t (let l = latest-most f n in omega arith))

-- the test holds of it
pub latest-true : (f : ℕ → Bool) (n : ℕ) → 0 < latest f n → f (latest f n - 1) ≡ true
unfolding latest
latest-true f zero h = absurd (omega arith)
latest-true f (suc n) h = by-test (f n) (λ t. rw t (let e : suc n - 1 ≡ n = omega arith in rw e t)) (λ t. rw t (latest-true f n (rw t at h)))

-- tests that say the same of each have the same newest
pub latest-same : (f g : ℕ → Bool) (n : ℕ) → ((i : ℕ) → i < n → f i ≡ g i) → latest f n ≡ latest g n
unfolding latest
latest-same f g zero h = refl
latest-same f g (suc n) h = rw (h n (omega arith), latest-same f g n (λ i l. h i (omega arith)))

-- one that holds of none has none
pub latest-none : (f : ℕ → Bool) (n : ℕ) → latest f n ≡ 0 → (i : ℕ) → i < n → f i ≡ false
unfolding latest
latest-none f zero e i l = absurd (omega arith)
latest-none f (suc n) e i l =
    by-test (f n) (λ t. absurd (let z = rw t at e in omega arith))
    (λ t. by-test (eqb i n) (λ q. rw (eqb-true i n q) t)
    (λ q. latest-none f n (rw t at e) i (let d = eqb-false i n q in omega (arith, d))))

module _ (s : Scope) (words : List ℕ) (n : ℕ) (c : Chained s words n) (f : ℕ → Bool) (b : ℕ) (inside : (i : ℕ) → f i ≡ true → bucket_at words i ≡ b) where
  -- from the newest of the first m pairs that is in the bucket on
  pub chain-latest : (m fuel : ℕ) → m ≤ n → latest (is_in words b) m ≤ fuel → seek_from f words fuel (latest (is_in words b) m) ≡ latest f m
  unfolding latest seek_from
  chain-latest zero zero h g = refl
  chain-latest zero (suc fuel) h g = refl
  chain-latest (suc m) fuel h g =
      by-test (eqb (bucket_at words m) b)
      (λ t. rw t (in-bucket m fuel h (rw t at g) (eqb-true (bucket_at words m) b t) (λ k. chain-latest m k (omega arith))))
      (λ t. rw (t, not_in m t) (chain-latest m fuel (omega arith) (rw t at g)))
    where
      not_in : (m : ℕ) → eqb (bucket_at words m) b ≡ false → f m ≡ false
      not_in m t =
          by-test (f m) (λ u. absurd (let z : ◌≡◌ {A = Bool} true false = sym (eq-eqb (bucket_at words m) b (inside m u)) ∙ t in true≢false z)) (λ u. u)

      in-bucket : (m fuel : ℕ) → suc m ≤ n → suc m ≤ fuel → bucket_at words m ≡ b
          → ((k : ℕ) → latest (is_in words b) m ≤ k → seek_from f words k (latest (is_in words b) m) ≡ latest f m)
          → seek_from f words fuel (suc m) ≡ cond (f m) (suc m) (latest f m)
      in-bucket m zero h g e go = absurd (omega arith)
      in-bucket m (suc fuel) h g e go =
          let l : next_of words (suc m) ≡ latest (is_in words b) m = c.links m (omega arith) ∙ ap (λ (x : ℕ). latest (is_in words x) m) e in
          let k : suc m - 1 ≡ m = omega arith in
          let most = latest-most (is_in words b) m in
          rw (eqb-zero m, k, l, go fuel (omega arith))
        where
          eqb-zero : (m : ℕ) → eqb (suc m) 0 ≡ false
          eqb-zero m = ne_eqb (suc m) 0 (λ z. omega arith)

module _ (s : Scope) (words : List ℕ) (n : ℕ) (r : n ≤ room words) (c : Chained s words n) (name : Bytes) where
  -- a pair that has a name has the name's number
  pub named-number : (want : Want) (i : ℕ) → i < n → has_named s words name want i ≡ true → number_at words i ≡ number_of s.op name
  unfolding has_named
  named-number want i l h =
      let own = name_at s.card words i in
      c.numbers i l
      ∙ number-name s.op own name ((and-eq-true_iff ((operation_of s.op).same_name own name) (has_wanted s want (word_at words i))).0 h).0

  module _ (number : ℕ) (e : number ≡ number_of s.op name) (want : Want) where
    abbrev Test : ℕ → Bool
    Test = is_wanted s words name number want

    abbrev Named : ℕ → Bool
    Named = has_named s words name want

    test-bucket : (i : ℕ) → Test i ≡ true → bucket_at words i ≡ bucket_of words number
    unfolding is_wanted
    test-bucket i h =
        ap (bucket_of words) (eqb-true (number_at words i) number ((and-eq-true_iff (eqb (number_at words i) number) (has_named s words name want i)).0 h).0)

    -- numbers never separate names that are the same
    test-named : (i : ℕ) → i < n → Test i ≡ Named i
    unfolding is_wanted
    test-named i l =
        by-test (Named i) (λ t. rw (t, eq-eqb (number_at words i) number (named-number want i l t ∙ sym e)))
        (λ t. rw (t, and-false (eqb (number_at words i) number)))

    -- THE LAW: from the head of a number's bucket, the newest of all
    pub seek-head : 0 < room words → seek Test words (head_of words (bucket_of words number)) ≡ latest Named n
    unfolding seek
    seek-head o =
        let b = bucket_of words number in
        let f : head_of words b ≡ latest (is_in words b) n = c.heads b (bucket-inside words number o) in
        let m = latest-most (is_in words b) n in
        rw (f, le-ltb (room words) (latest (is_in words b) n) (omega arith))
        (chain-latest s words n c Test b test-bucket n (latest (is_in words b) n) (omega arith) (omega arith) ∙ latest-same Test Named n test-named)

    -- and after a pair that has the number, the newest of those ahead of it
    pub seek-after : (i : ℕ) → i < n → number_at words i ≡ number → seek Test words (next_of words (suc i)) ≡ latest Named i
    unfolding seek
    seek-after i l q =
        let b = bucket_of words number in
        let f : next_of words (suc i) ≡ latest (is_in words b) i = c.links i l ∙ ap (λ (x : ℕ). latest (is_in words (bucket_of words x)) i) q in
        let m = latest-most (is_in words b) i in
        rw (f, le-ltb (room words) (latest (is_in words b) i) (omega arith))
        (chain-latest s words n c Test b test-bucket i (latest (is_in words b) i) (omega arith) (omega arith)
        ∙ latest-same Test Named i (λ j k. test-named j (omega arith)))
