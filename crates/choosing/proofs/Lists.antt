-- What the newest pair that a test holds of says of the list of pairs. Assumes nothing.
use mathlib.Core.Path.{◌≡◌, refl, sym, ap, ◌∙◌}
use mathlib.Core.List.{List, [], ◌∷◌, ◌++◌, append-nil}
use mathlib.Core.Bool.{Bool, ◌&&◌, ◌||◌, cond, and-true, or-true, or-false, or_assoc}
use mathlib.Core.Option.{some}
use Prim.Native.Nat.{ℕ, zero, suc, ◌+◌, ◌<◌, ◌≤◌}
use native.Mathlib.Omega.{arith}
use lib.ListN.{take}
use lib.Dec.{ltb}
use borrow.Author.Tests.{lt-ltb}
use Rattle.wire.specs.Numbers.{Bytes}
use Rattle.rast.specs.Final.{is_among}
use Rattle.rast.proofs.Tests.{by-test}
use Rattle.operation.specs.declared.Shortening.{Shortening}
use Rattle.operation.specs.Operations.{operation_of, same_paths}
use Rattle.prefix.specs.Prefix.{Scope}
use Rattle.comparing.specs.Compares.{place_in, base_at}
use Rattle.chains.specs.declared.Want.TheVariants.{Named}
use Rattle.chains.specs.Chains.{name_at, word_at, has_wanted, has_named}
use Rattle.pairs.specs.Stored.{Stored, stored}
use Rattle.pairs.specs.Choice.{pair_of, base_of, bases_named, named}
use Rattle.adding.specs.Holds.{latest, pair_at, pairs_from, pairs_in}

-- of lists one after the other
among-append : {A : Type 0} (same : A → A → Bool) (p : A) (a b : List A) → is_among same p (a ++ b) ≡ (is_among same p a || is_among same p b)
unfolding is_among
among-append same p [] b = refl
among-append same p (q ∷ a) b = rw (among-append same p a b) (sym (or_assoc (same p q) (is_among same p a) (is_among same p b)))

module _ (op : Shortening) (k : Bytes) where
  bases-append : (a b : List Stored) → bases_named op (a ++ b) k ≡ bases_named op a k ++ bases_named op b k
  unfolding bases_named
  bases-append [] b = refl
  bases-append (p ∷ a) b = by-test ((operation_of op).same_name p.name k) (λ t. rw (t, bases-append a b)) (λ t. rw (t, bases-append a b))

  named-append : (a b : List Stored) → named op (a ++ b) k ≡ (named op a k || named op b k)
  unfolding named
  named-append [] b = refl
  named-append (p ∷ a) b = rw (named-append a b) (sym (or_assoc ((operation_of op).same_name p.name k) (named op a k) (named op b k)))

-- whether a test holds of one of n pairs, or of one more
one_more : (f : ℕ → Bool) (n : ℕ) → (ltb 0 (latest f n) || f n) ≡ ltb 0 (latest f (suc n))
unfolding latest
one_more f n =
    by-test (f n) (λ t. rw (t, or-true (ltb 0 (latest f n)), lt-ltb 0 (suc n) (omega arith))) (λ t. rw (t, or-false (ltb 0 (latest f n))))

module _ (s : Scope) (words : List ℕ) where
  abbrev At : ℕ → Stored
  At i = pair_at s words i

  -- the base of the pair that i pairs stand ahead of
  abbrev pub Base : ℕ → Bytes
  Base i = base_at s (place_in (word_at words i))

  abbrev From : ℕ → ℕ → List Stored
  From i n = pairs_from s words i n

  abbrev All : ℕ → List Stored
  All n = pairs_in s words n

  from_last : (i n : ℕ) → From i (suc n) ≡ From i n ++ (At (i + n) ∷ [])
  unfolding pairs_from
  from_last i zero = ap (λ (j : ℕ). At j ∷ []) (let e : i ≡ i + 0 = omega arith in e)
  from_last i (suc n) =
      ap (λ (l : List Stored). At i ∷ l)
      (from_last (suc i) n ∙ ap (λ (j : ℕ). From (suc i) n ++ (At j ∷ [])) (let e : suc i + n ≡ i + suc n = omega arith in e))

  pairs-last : (n : ℕ) → All (suc n) ≡ All n ++ (At n ∷ [])
  pairs-last n = from_last 0 n ∙ ap (λ (j : ℕ). All n ++ (At j ∷ [])) (let e : 0 + n ≡ n = omega arith in e)

  from-pair : (i n j : ℕ) → j < n → pair_of (From i n) j ≡ some (At (i + j))
  unfolding pair_of pairs_from
  from-pair i zero j h = absurd (omega arith)
  from-pair i (suc n) zero h = ap (λ (x : ℕ). some (At x)) (let e : i ≡ i + 0 = omega arith in e)
  from-pair i (suc n) (suc j) h = from-pair (suc i) n j (omega arith) ∙ ap (λ (x : ℕ). some (At x)) (let e : suc i + j ≡ i + suc j = omega arith in e)

  pub pair-in : (n j : ℕ) → j < n → pair_of (All n) j ≡ some (stored (name_at s.card words j) (Base j))
  unfolding pair_at
  pair-in n j h = from-pair 0 n j h ∙ ap (λ (x : ℕ). some (At x)) (let e : 0 + j ≡ j = omega arith in e)

  pub base-in : (n j : ℕ) → j < n → base_of (All n) j ≡ some (Base j)
  base-in n j h = rw (pair-in n j h)

  from-take : (i n j : ℕ) → j ≤ n → take j (From i n) ≡ From i j
  unfolding pairs_from
  from-take i n zero h = refl
  from-take i zero (suc j) h = absurd (omega arith)
  from-take i (suc n) (suc j) h = ap (λ (l : List Stored). At i ∷ l) (from-take (suc i) n j (omega arith))

  module _ (name : Bytes) where
    abbrev pub IsNamed : ℕ → Bool
    IsNamed = has_named s words name Named

    abbrev pub Bases : ℕ → List Bytes
    Bases n = bases_named s.op (All n) name

    pub named-is : (i : ℕ) → IsNamed i ≡ (operation_of s.op).same_name (name_at s.card words i) name
    unfolding has_named has_wanted
    named-is i = and-true ((operation_of s.op).same_name (name_at s.card words i) name)

    bases-last : (n : ℕ) → Bases (suc n) ≡ cond (IsNamed n) (Bases n ++ (Base n ∷ [])) (Bases n)
    unfolding bases_named pair_at
    bases-last n =
        rw (pairs-last n, bases-append s.op name (All n) (At n ∷ []), named-is n)
        (by-test ((operation_of s.op).same_name (name_at s.card words n) name) (λ t. rw t) (λ t. rw (t, append-nil (Bases n))))

    -- where none has the name it has no bases; else the newest's is the last
    pub bases-none : (n : ℕ) → latest IsNamed n ≡ 0 → Bases n ≡ []
    unfolding latest bases_named pairs_from
    bases-none zero e = refl
    bases-none (suc n) e =
        by-test (IsNamed n) (λ t. absurd (let z = rw t at e in omega arith)) (λ t. bases-last n ∙ rw t (bases-none n (rw t at e)))

    pub bases-some : (n i : ℕ) → latest IsNamed n ≡ suc i → Bases n ≡ Bases i ++ (Base i ∷ [])
    unfolding latest
    bases-some zero i e = absurd (omega arith)
    bases-some (suc n) i e =
        by-test (IsNamed n)
        (λ t. bases-last n ∙ rw t (let d : suc n ≡ suc i = rw t at e in let z : n ≡ i = omega arith in rw z))
        (λ t. bases-last n ∙ rw t (bases-some n i (rw t at e)))

    named-last : (n : ℕ) → named s.op (All (suc n)) name ≡ (named s.op (All n) name || IsNamed n)
    unfolding named pair_at
    named-last n =
        rw (pairs-last n, named-append s.op name (All n) (At n ∷ []), named-is n)
        (ap (λ (b : Bool). named s.op (All n) name || b) (or-false ((operation_of s.op).same_name (name_at s.card words n) name)))

    named-all : (n : ℕ) → named s.op (All n) name ≡ ltb 0 (latest IsNamed n)
    unfolding latest named pairs_from
    named-all zero = refl
    named-all (suc n) = named-last n ∙ rw (named-all n) (one_more IsNamed n)

    -- whether a pair ahead has the name
    pub named-ahead : (n i : ℕ) → i ≤ n → named s.op (take i (All n)) name ≡ ltb 0 (latest IsNamed i)
    named-ahead n i h = rw (from-take 0 n i h) (named-all i)

    -- a base is among them if a pair has it
    pub among-bases : (p : Bytes) (f : ℕ → Bool) (n : ℕ) → ((i : ℕ) → i < n → f i ≡ (IsNamed i && same_paths s.op p (Base i)))
        → is_among (same_paths s.op) p (Bases n) ≡ ltb 0 (latest f n)
    unfolding latest is_among bases_named pairs_from
    among-bases p f zero h = refl
    among-bases p f (suc n) h =
        let e = h n (omega arith) in
        let go = among-bases p f n (λ i l. h i (omega arith)) in
        by-test (IsNamed n)
        (λ t. rw (bases-last n, t, among-append (same_paths s.op) p (Bases n) (Base n ∷ []), go, or-false (same_paths s.op p (Base n)))
        (let d : f n ≡ same_paths s.op p (Base n) = e ∙ rw t in rw (← d) (one_more f n)))
        (λ t. rw (bases-last n, t, e) (rw t go))
