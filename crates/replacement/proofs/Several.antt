-- A NAME WITH SEVERAL BASES: what is chosen among them is the prefix or dafny_runtime, so a path with any other base is not replaced. Assumes nothing.
use mathlib.Core.Path.{◌≡◌, refl, sym, ap, subst, ◌∙◌}
use mathlib.Core.List.{List}
use mathlib.Core.Bool.{Bool, true, false, not, ◌||◌, cond, and-eq-true_iff, true≢false}
use Prim.Native.Nat.{ℕ, zero, suc, ◌-◌, ◌<◌}
use native.Mathlib.Omega.{arith}
use lib.Dec.{eqb, ltb}
use borrow.Author.Tests.{eqb-false, ltb-true}
use Rattle.wire.specs.Numbers.{Bytes, same_bytes}
use Rattle.wire.proofs.Numbers.{same_bytes-self, same_bytes-true}
use Rattle.records.specs.Record.{encode, record_at}
use Rattle.rast.specs.Path.{dafny_runtime}
use Rattle.rast.proofs.Tests.{by-test}
use Rattle.operation.specs.declared.Shortening.{Shortening}
use Rattle.operation.specs.Operations.{operation_of, same_paths}
use Rattle.prefix.specs.Prefix.{Scope, prefix_in}
use Rattle.comparing.specs.Compares.{number_of, place_in, tag_in, base_at, same_base}
use Rattle.chains.specs.declared.Want.{Want}
use Rattle.chains.specs.declared.Want.TheVariants.{Based, Runtime}
use Rattle.chains.specs.Chains.{room, name_at, number_at, word_at, next_of, has_wanted, has_named, is_wanted, seek_from, seek}
use Rattle.choosing.specs.Chooses.{chosen_of_several, chosen_pair}
use Rattle.rewriting.specs.Replaces.{replaces}

-- the test holds of what is found
from-holds : (f : ℕ → Bool) (words : List ℕ) (n g : ℕ) → 0 < seek_from f words n g → f (seek_from f words n g - 1) ≡ true
unfolding seek_from
from-holds f words zero g h = absurd (omega arith)
from-holds f words (suc n) g h =
    by-test (eqb g 0) (λ z. absurd (let l = rw z at h in omega arith))
    (λ z. by-test (f (g - 1)) (λ t. rw (z, t) t) (λ t. rw (z, t) (from-holds f words n (next_of words g) (rw (z, t) at h))))

seek-holds : (f : ℕ → Bool) (words : List ℕ) (g : ℕ) → 0 < seek f words g → f (seek f words g - 1) ≡ true
unfolding seek
seek-holds f words g h =
    by-test (ltb (room words) g) (λ t. absurd (let l = rw t at h in omega arith)) (λ t. rw t (from-holds f words g g (rw t at h)))

-- a path that is the same as one is not the same as another
other_path : (op : Shortening) (a p base : Bytes) → same_paths op a p ≡ true → same_bytes base p ≡ false → same_paths op a base ≡ false
other_path op a p base e n =
    let z = same_bytes-true a p e in
    by-test (same_bytes a base)
    (λ t. absurd (true≢false (sym (same_bytes-self p) ∙ ap (λ (x : Bytes). same_bytes x p) (sym z ∙ same_bytes-true a base t) ∙ n)))
    (λ t. t)

same-paths : (op : Shortening) (a b : Bytes) → same_bytes a b ≡ true → same_paths op a b ≡ true
same-paths op a b e = e

either_way : (a b x : Bool) → cond (a || (true || b)) x false ≡ true → x ≡ true
either_way true b x h = h
either_way false b x h = h

not-true : (b : Bool) → not b ≡ true → b ≡ false
not-true true h = absurd (true≢false (sym h))
not-true false h = refl

module _ (s : Scope) (words : List ℕ) (name base : Bytes) (number : ℕ) where
  -- of the pair that i pairs stand ahead of, the base that was sought
  abbrev Base : ℕ → Bytes
  Base i = base_at s (place_in (word_at words i))

  wanted : (want : Want) (i : ℕ) → is_wanted s words name number want i ≡ true → has_wanted s want (word_at words i) ≡ true
  unfolding is_wanted has_named
  wanted want i e =
      ((and-eq-true_iff ((operation_of s.op).same_name (name_at s.card words i) name) (has_wanted s want (word_at words i))).0
      ((and-eq-true_iff (eqb (number_at words i) number) (has_named s words name want i)).0 e).1).1

  base-none : base_at s 0 ≡ prefix_in s
  unfolding base_at
  base-none = refl

  prefix-base : (i : ℕ) → is_wanted s words name number (Based 0) i ≡ true → same_paths s.op (Base i) (prefix_in s) ≡ true
  unfolding has_wanted same_base
  prefix-base i e =
      let w = word_at words i in
      ap (same_paths s.op (Base i)) (sym base-none) ∙ either_way (eqb (place_in w) 0) (eqb (tag_in w) 0) (same_paths s.op (Base i) (base_at s 0))
      (wanted (Based 0) i e)

  runtime-base : (i : ℕ) → is_wanted s words name number Runtime i ≡ true → same_paths s.op (Base i) (encode dafny_runtime) ≡ true
  unfolding has_wanted base_at
  runtime-base i e =
      let p = place_in (word_at words i) in
      let g = (and-eq-true_iff (not (eqb p 0)) (same_bytes (record_at s.card p) (encode dafny_runtime))).0 (wanted Runtime i e) in
      rw (not-true (eqb p 0) g.0) (same-paths s.op (record_at s.card p) (encode dafny_runtime) g.1)

  module _ (p : same_bytes base (prefix_in s) ≡ false) (r : same_bytes base (encode dafny_runtime) ≡ false) where
    -- what is chosen among several has another base
    several-other : (first : ℕ) → 0 < chosen_of_several s words name number first → same_paths s.op (Base (chosen_of_several s words name number first - 1)) base ≡ false
    unfolding chosen_of_several
    several-other first h =
        let f = is_wanted s words name number (Based 0) in
        let g = is_wanted s words name number Runtime in
        by-test (ltb 0 (seek f words first))
        (λ t. rw t (other_path s.op _ (prefix_in s) base
        (prefix-base (seek f words first - 1) (seek-holds f words first (ltb-true 0 (seek f words first) t))) p))
        (λ t. rw t (other_path s.op _ (encode dafny_runtime) base
        (runtime-base (seek g words first - 1) (seek-holds g words first (rw t at h))) r))

    -- THE LAW
    several-not : number ≡ number_of s.op name → (first : ℕ) → chosen_of_several s words name number first ≡ chosen_pair s words name number → false ≡ replaces s words name base
    unfolding replaces
    several-not d first e =
        rw (← d)
        (by-test (eqb (chosen_pair s words name number) 0) (λ t. rw t)
        (λ t. rw t
        (sym (subst (λ (g : ℕ). same_paths s.op (Base (g - 1)) base ≡ false) e
        (several-other first (let d = eqb-false (chosen_pair s words name number) 0 t in omega (arith, d, e)))))))

-- by the tests of the code
pub several-gives : (s : Scope) (words : List ℕ) (name base : Bytes) (b c : Bool) → b ≡ same_bytes base (prefix_in s) → not b ≡ true
    → c ≡ same_bytes base (encode dafny_runtime) → not c ≡ true → (number : ℕ) → number ≡ number_of s.op name
    → (first : ℕ) → chosen_of_several s words name number first ≡ chosen_pair s words name number → false ≡ replaces s words name base
several-gives s words name base b c x t y u number d first e =
    several-not s words name base number (sym x ∙ not-true b t) (sym y ∙ not-true c u) d first e
