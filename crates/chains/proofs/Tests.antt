-- What the functions over pairs and chains answer, test by test. Assumes nothing.
use mathlib.Core.Path.{◌≡◌, refl, sym, ap, ◌∙◌}
use mathlib.Core.List.{List}
use mathlib.Core.Bool.{Bool, true, false, not, ◌||◌, cond, and-false, true≢false}
use Prim.Native.Nat.{ℕ, zero, suc, ◌+◌, ◌-◌, ◌*◌, ◌/◌, ◌%◌, ◌^◌, ◌<◌, ◌≤◌}
use native.Mathlib.Nat.{mul-le-mul_right, add-mul, one-mul}
use native.Mathlib.Omega.{arith}
use lib.ListN.{take, drop, get_or}
use lib.Dec.{eqb, ltb}
use borrow.Author.Tests.{eq-eqb, ne_eqb, lt-ltb, le-ltb, ltb-true, eqb-false, not-true, not-false}
use Rattle.wire.specs.Numbers.{Bytes, same_bytes}
use Rattle.records.specs.Record.{encode, record_at}
use Rattle.rast.specs.Path.{dafny_runtime}
use Rattle.rast.proofs.Tests.{by-test}
use Rattle.operation.specs.Operations.{operation_of}
use Rattle.prefix.specs.Prefix.{Scope}
use Rattle.comparing.specs.Compares.{place_in, tag_in, same_base}
use Rattle.chains.specs.declared.Want.{Want}
use Rattle.chains.specs.declared.Want.TheVariants.{Named, Based, Runtime}
use Rattle.chains.specs.Chains.{room, name_at, number_at, word_at, link_at, bucket_of, head_of, next_of, has_wanted, is_other, has_named, is_wanted}
use Rattle.chains.specs.Chains.{may_be, may_have, seek_from, seek}

-- the bucket of a number
module _ (words : List ℕ) (number n : ℕ) (e : n ≡ room words) where
  pub bucket-fits : number % 65536 * n < 2 ^ 64
  bucket-fits = let m : number % 65536 * n ≤ 65536 * n = mul-le-mul_right n (omega arith) in omega arith

  pub bucket-is : number % 65536 * n / 65536 ≡ bucket_of words number
  unfolding bucket_of
  bucket-is = rw e

-- it is one of as many as there is room for
pub bucket-inside : (words : List ℕ) (number : ℕ) → 0 < room words → bucket_of words number < room words
unfolding bucket_of
bucket-inside words number o =
    let n = room words in
    let m : (number % 65536 + 1) * n ≤ 65536 * n = mul-le-mul_right n (omega arith) in
    let d : (number % 65536 + 1) * n ≡ number % 65536 * n + n = add-mul (number % 65536) 1 n ∙ rw (one-mul n) in
    omega arith

module _ (words : List ℕ) (b n : ℕ) (e : n ≡ room words) where
  pub head-some : b < n → (w : ℕ) → (w ≡ get_or words (4 * b + 3) 0) × (w < 2 ^ 32) → (w / 65536 ≡ head_of words b) × (w / 65536 < 65536)
  unfolding head_of
  head-some l w f = (rw (f.0, lt-ltb b (room words) (omega arith)), omega (arith, f.1))

  pub head-none : n ≤ b → (0 ≡ head_of words b) × (0 < 65536)
  unfolding head_of
  head-none l = (rw (le-ltb b (room words) (omega arith)), omega arith)

module _ (words : List ℕ) (g : ℕ) where
  pub next-zero : g ≡ 0 → 0 ≡ next_of words g
  unfolding next_of
  next-zero z = rw z

  module _ (z : g ≡ 0 → ⊥) (n : ℕ) (e : n ≡ room words) where
    pub next_past : n < g → 0 ≡ next_of words g
    unfolding next_of
    next_past l = rw (ne_eqb g 0 z, lt-ltb (room words) g (omega arith))

    -- by the fourth word of pair g, counted from the pair's first or from the words' start
    module _ (i : g ≤ n) (w : ℕ) (f : w ≡ get_or words (4 * (g - 1) + 3) 0) where
      pub link-falls : w % 65536 < g → w % 65536 ≡ next_of words g
      unfolding next_of
      link-falls l = rw (ne_eqb g 0 z, le-ltb (room words) g (omega arith), ← f, lt-ltb (w % 65536) g l)

      pub link-not : g ≤ w % 65536 → 0 ≡ next_of words g
      unfolding next_of
      link-not l = rw (ne_eqb g 0 z, le-ltb (room words) g (omega arith), ← f, le-ltb (w % 65536) g l)

    module _ (i : g ≤ n) (w : ℕ) (f : w ≡ get_or words (4 * g - 1) 0) where
      at : w ≡ get_or words (4 * (g - 1) + 3) 0
      at = f ∙ ap (λ (k : ℕ). get_or words k 0) (let o : 0 < g = omega (arith, z) in let k : 4 * g - 1 ≡ 4 * (g - 1) + 3 = omega arith in k)

      pub next-falls : w % 65536 < g → w % 65536 ≡ next_of words g
      next-falls l = link-falls i w at l

      pub next-not : g ≤ w % 65536 → 0 ≡ next_of words g
      next-not l = link-not i w at l

-- a chain's links fall
pub next-less : (words : List ℕ) (g : ℕ) → 0 < g → next_of words g < g
unfolding next_of
next-less words g h = go (eqb g 0 || ltb (room words) g) (link_at words (g - 1))
  where
    inner : (l : ℕ) (t : Bool) → ltb l g ≡ t → cond t l 0 < g
    inner l true e = ltb-true l g e
    inner l false e = h

    go : (t : Bool) (l : ℕ) → cond t 0 (cond (ltb l g) l 0) < g
    go true l = h
    go false l = inner l (ltb l g) refl

-- a base that is not the sought one by the words alone
pub other-unbased : (want : Want) (w : ℕ) → ((v : ℕ) → want ≡ Based v → ⊥) → false ≡ is_other want w
unfolding is_other
other-unbased Named w n = refl
other-unbased (Based v) w n = absurd (n v refl)
other-unbased Runtime w n = refl

module _ (want : Want) (w v : ℕ) (e : want ≡ Based v) where
  pub other-prefix : w % 65536 ≡ 0 → false ≡ is_other want w
  unfolding is_other
  other-prefix z = rw (e, eq-eqb (w % 65536) 0 z)

  module _ (n : w % 65536 ≡ 0 → ⊥) where
    pub other-sought-prefix : v % 65536 ≡ 0 → false ≡ is_other want w
    unfolding is_other
    other-sought-prefix z = rw (e, ne_eqb (w % 65536) 0 n, eq-eqb (v % 65536) 0 z)

    pub other-paths : (v % 65536 ≡ 0 → ⊥) → not (eqb (w / 65536) (v / 65536)) ≡ is_other want w
    unfolding is_other
    other-paths m = rw (e, ne_eqb (w % 65536) 0 n, ne_eqb (v % 65536) 0 m)

module _ (s : Scope) where
  -- what is not the sought base by the words alone is not the sought base
  pub other-not : (want : Want) (w : ℕ) → is_other want w ≡ true → has_wanted s want w ≡ false
  unfolding is_other has_wanted same_base
  other-not Named w e = sym e
  other-not (Based v) w e = rw (not-true (eqb (place_in w) 0 || (eqb (place_in v) 0 || eqb (tag_in w) (tag_in v))) e)
  other-not Runtime w e = cc

  pub wanted-passed : (words : List ℕ) (name : Bytes) (number : ℕ) (want : Want) (i w : ℕ) (t : Bool) → w ≡ word_at words i → t ≡ is_other want w → t ≡ true
      → false ≡ is_wanted s words name number want i
  unfolding is_wanted has_named
  wanted-passed words name number want i w t h e y =
      rw (← h, other-not want w (sym e ∙ y), and-false, and-false (eqb (number_at words i) number))

  module _ (want : Want) (w : ℕ) where
    pub wanted-named : want ≡ Named → true ≡ has_wanted s want w
    unfolding has_wanted
    wanted-named e = rw e

    pub wanted-based : (v : ℕ) → want ≡ Based v → (r : Bool) → r ≡ same_base s w v → r ≡ has_wanted s want w
    unfolding has_wanted
    wanted-based v e r f = f ∙ rw e

    module _ (e : want ≡ Runtime) where
      pub runtime-prefix : w % 65536 ≡ 0 → false ≡ has_wanted s want w
      unfolding has_wanted
      runtime-prefix z = rw (e, eq-eqb (w % 65536) 0 z)

      pub runtime-path : (w % 65536 ≡ 0 → ⊥) → (x : Bytes) (r : Bool) → x ≡ record_at s.card (w % 65536) → r ≡ same_bytes x (encode dafny_runtime)
          → r ≡ has_wanted s want w
      unfolding has_wanted
      runtime-path z x r f g = g ∙ rw (e, f, ne_eqb (w % 65536) 0 z)

  -- a pair by its first three words
  module _ (words : List ℕ) (name : Bytes) (n : ℕ) (want : Want) (i v : ℕ) (a : v ≡ get_or words (4 * i) 0) where
    pub wanted-number : (v / 65536 ≡ n → ⊥) → false ≡ is_wanted s words name n want i
    unfolding is_wanted
    wanted-number d = rw (← a, ne_eqb (v / 65536) n d)

    module _ (q : v / 65536 ≡ n) (len : ℕ) (own : Bytes) (t : Bool) (l : len ≡ get_or words (4 * i + 1) 0)
        (e : own ≡ take len (drop (v % 65536) s.card)) (f : t ≡ (operation_of s.op).same_name own name) where
      named : t ≡ (operation_of s.op).same_name (name_at s.card words i) name
      named = f ∙ ap (λ (x : Bytes). (operation_of s.op).same_name x name) (e ∙ rw (a, l))

      numbered : is_wanted s words name n want i ≡ has_named s words name want i
      unfolding is_wanted
      numbered = rw (eq-eqb (number_at words i) n (ap (λ (x : ℕ). x / 65536) (sym a) ∙ q))

      pub wanted-other : not t ≡ true → false ≡ is_wanted s words name n want i
      unfolding has_named
      wanted-other d = rw (numbered, ← named, not-true t d)

      pub wanted-same : not t ≡ false → (w : ℕ) (r : Bool) → w ≡ word_at words i → r ≡ has_wanted s want w → r ≡ is_wanted s words name n want i
      unfolding has_named
      wanted-same d w r h g = g ∙ rw (numbered, ← named, not-false t d, h)

-- a pair that a word leaves open, or passes
module _ (words : List ℕ) (field number i w : ℕ) (a : w ≡ get_or words (4 * i + field) 0) where
  pub may-number : w / 65536 ≡ number → true ≡ may_be words field number i
  unfolding may_be
  may-number e = rw (← a, eq-eqb (w / 65536) number e)

  module _ (n : w / 65536 ≡ number → ⊥) where
    pub may-placeless : w % 65536 ≡ 0 → true ≡ may_be words field number i
    unfolding may_be
    may-placeless z = rw (← a, ne_eqb (w / 65536) number n, eq-eqb (w % 65536) 0 z)

    pub may-not : (w % 65536 ≡ 0 → ⊥) → false ≡ may_be words field number i
    unfolding may_be
    may-not z = rw (← a, ne_eqb (w / 65536) number n, ne_eqb (w % 65536) 0 z)

-- the word by which pairs are passed
module _ (words : List ℕ) (number from r : ℕ) (want : Want) where
  pub skip-unbased : ((v : ℕ) → want ≡ Based v → ⊥) → r ≡ seek (may_be words 0 number) words from → r ≡ seek (may_have words number want) words from
  unfolding may_have
  skip-unbased n e = go want n
    where
      go : (w : Want) → ((v : ℕ) → w ≡ Based v → ⊥) → r ≡ seek (may_have words number w) words from
      go Named m = e
      go (Based v) m = absurd (m v refl)
      go Runtime m = e

  module _ (v : ℕ) (b : want ≡ Based v) where
    pub skip-prefix : v % 65536 ≡ 0 → r ≡ seek (may_be words 0 number) words from → r ≡ seek (may_have words number want) words from
    unfolding may_have
    skip-prefix z e = e ∙ rw (b, eq-eqb (v % 65536) 0 z)

    pub skip-path : (v % 65536 ≡ 0 → ⊥) → r ≡ seek (may_be words 2 (v / 65536)) words from → r ≡ seek (may_have words number want) words from
    unfolding may_have
    skip-path z e = e ∙ rw (b, ne_eqb (v % 65536) 0 z)

-- a pair that is passed is not sought
none_of : (a b : Bool) → a || b ≡ false → (a ≡ false) × (b ≡ false)
none_of true b e = absurd (true≢false e)
none_of false b e = (refl, e)

may-false : (words : List ℕ) (field number i : ℕ) → may_be words field number i ≡ false
    → (eqb (get_or words (4 * i + field) 0 / 65536) number ≡ false) × (eqb (get_or words (4 * i + field) 0 % 65536) 0 ≡ false)
unfolding may_be
may-false words field number i e = none_of (eqb (get_or words (4 * i + field) 0 / 65536) number) (eqb (get_or words (4 * i + field) 0 % 65536) 0) e

module _ (s : Scope) (words : List ℕ) (name : Bytes) (number i : ℕ) where
  number-not : (want : Want) → may_be words 0 number i ≡ false → is_wanted s words name number want i ≡ false
  number-not want e =
      let k : 4 * i + 0 ≡ 4 * i = omega arith in
      sym (wanted-number s words name number want i (get_or words (4 * i + 0) 0) (ap (λ (j : ℕ). get_or words j 0) k)
      (eqb-false (get_or words (4 * i + 0) 0 / 65536) number (may-false words 0 number i e).0))

  other : (v : ℕ) → eqb (place_in v) 0 ≡ false → may_be words 2 (tag_in v) i ≡ false → is_other (Based v) (word_at words i) ≡ true
  unfolding is_other
  other v z h = let d = may-false words 2 (tag_in v) i h in rw (d.1, z, d.0)

  pub may-wanted : (want : Want) → may_have words number want i ≡ false → is_wanted s words name number want i ≡ false
  unfolding may_have
  may-wanted Named e = number-not Named e
  may-wanted (Based v) e =
      by-test (eqb (place_in v) 0) (λ z. number-not (Based v) (rw z at e))
      (λ z. sym (wanted-passed s words name number (Based v) i (word_at words i) (is_other (Based v) (word_at words i)) refl refl (other v z (rw z at e))))
  may-wanted Runtime e = number-not Runtime e

-- seeking: what is left of a chain has what the whole has
module _ (f : ℕ → Bool) (words : List ℕ) where
  -- as many steps as the pair's number suffice
  pub seek-enough : (n m g : ℕ) → g ≤ n → g ≤ m → seek_from f words n g ≡ seek_from f words m g
  unfolding seek_from
  seek-enough zero zero g a b = refl
  seek-enough zero (suc m) g a b = rw (eq-eqb g 0 (omega arith))
  seek-enough (suc n) zero g a b = rw (eq-eqb g 0 (omega arith))
  seek-enough (suc n) (suc m) g a b =
      by-test (eqb g 0) (λ e. rw e)
      (λ e. let o : 0 < g = (let z = eqb-false g 0 e in omega (arith, z)) in
      let l = next-less words g o in
      rw (e, seek-enough n m (next_of words g) (omega arith) (omega arith)))

  pub record Seeking (from g : ℕ) : Type 0 where
    pub inside : g ≤ room words
    pub rest : seek f words from ≡ seek_from f words g g

  pub seek-past : (from n : ℕ) → n ≡ room words → n < from → 0 ≡ seek f words from
  unfolding seek
  seek-past from n e l = rw (lt-ltb (room words) from (omega arith))

  pub seek-zero : (from : ℕ) → from ≡ 0 → 0 ≡ seek f words from
  unfolding seek seek_from
  seek-zero from z = rw (z, le-ltb (room words) 0 (omega arith))

  pub seek-start : (from n : ℕ) → n ≡ room words → from ≤ n → Seeking from from
  unfolding seek
  seek-start from n e l = record { inside = omega arith; rest = rw (le-ltb (room words) from (omega arith)) }

  module _ (from g : ℕ) (k : Seeking from g) where
    pub seek-none : g ≤ 0 → 0 ≡ seek f words from
    unfolding seek_from
    seek-none z = sym (k.rest ∙ (let e : g ≡ 0 = omega arith in rw e))

    module _ (o : 0 < g) (t : Bool) (e : t ≡ f (g - 1)) where
      step : seek_from f words g g ≡ cond t g (seek_from f words (g - 1) (next_of words g))
      unfolding seek_from
      step =
          let n : g ≡ suc (g - 1) = omega arith in
          ap (λ (m : ℕ). seek_from f words m g) n ∙ rw (ne_eqb g 0 (λ z. omega arith), ← e)

      pub seek_found : t ≡ true → g ≡ seek f words from
      seek_found y = sym (k.rest ∙ step ∙ rw y)

      pub seek-next : t ≡ false → (m : ℕ) → m ≡ next_of words g → Seeking from m
      seek-next y m h =
          let l = next-less words g o in
          let i = k.inside in
          rw h (record {
            inside = omega arith;
            rest = k.rest ∙ step ∙ rw y (seek-enough (g - 1) (next_of words g) (next_of words g) (omega arith) (omega arith));
          })

-- passing pairs by a test that leaves open every pair that is sought
module _ (t f : ℕ → Bool) (k : (i : ℕ) → t i ≡ false → f i ≡ false) (words : List ℕ) where
  -- what is found stands no later
  pub seek-within : (n g : ℕ) → seek_from t words n g ≤ g
  unfolding seek_from
  seek-within zero g = omega arith
  seek-within (suc n) g =
      by-test (eqb g 0) (λ e. rw e (omega arith))
      (λ e. let o : 0 < g = (let z = eqb-false g 0 e in omega (arith, z)) in
      let l = next-less words g o in
      let m = seek-within n (next_of words g) in
      by-test (t (g - 1)) (λ y. rw (e, y) (omega arith)) (λ y. rw (e, y) (omega arith)))

  passed : (n g : ℕ) → g ≤ n → seek_from f words n g ≡ seek_from f words n (seek_from t words n g)
  unfolding seek_from
  passed zero g l = refl
  passed (suc n) g l =
      by-test (eqb g 0) (λ e. rw e)
      (λ e. let o : 0 < g = (let z = eqb-false g 0 e in omega (arith, z)) in
      let d = next-less words g o in
      let r = seek_from t words n (next_of words g) in
      let m = seek-within n (next_of words g) in
      by-test (t (g - 1)) (λ y. rw (e, y, e))
      (λ y. rw (e, y, k (g - 1) y) (passed n (next_of words g) (omega arith) ∙ seek-enough f words n (suc n) r (omega arith) (omega arith))))

  pub seek-passed : (from g m : ℕ) → Seeking f words from g → m ≡ seek t words g → Seeking f words from m × (m ≤ g)
  unfolding seek
  seek-passed from g m s e =
      let i = s.inside in
      let h : m ≡ seek_from t words g g = e ∙ rw (le-ltb (room words) g i) in
      let w : seek_from t words g g ≤ g = seek-within g g in
      let r : m ≤ g = omega arith in (
        record {
          inside = omega arith;
          rest = s.rest ∙ passed g g (omega arith) ∙ rw (← h) (seek-enough f words g m m (omega arith) (omega arith));
        },
        r,
      )

  pub seek-on : (from g : ℕ) → Seeking f words from g → 0 < g → (b : Bool) → b ≡ f (g - 1) → b ≡ false → (n : ℕ) → n ≡ next_of words g → (m : ℕ) → m ≡ seek t words n
      → Seeking f words from m × (m < g)
  seek-on from g s o b e y n h m d =
      let l = next-less words g o in
      let p = seek-passed from n m (seek-next f words from g s o b e y n h) d in
      let q = p.1 in
      (p.0, omega arith)
