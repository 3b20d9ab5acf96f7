-- Whether a pair is there: what is sought along a chain is one of the pairs that the words hold. Assumes nothing.
use mathlib.Core.Path.{◌≡◌, refl, sym, ap, ◌∙◌}
use mathlib.Core.List.{List}
use mathlib.Core.Bool.{Bool, true, false, ◌&&◌, ◌||◌, cond, or-true}
use Prim.Native.Nat.{ℕ, zero, suc, ◌+◌, ◌-◌, ◌*◌, ◌/◌, ◌<◌, ◌≤◌}
use native.Mathlib.Omega.{arith}
use lib.Dec.{eqb, ltb}
use borrow.Author.Tests.{eqb-true, eqb-false, eq-eqb, le-ltb, ltb-true, ltb-false}
use Rattle.wire.specs.Numbers.{Bytes}
use Rattle.records.specs.Record.{record_at}
use Rattle.rast.proofs.Tests.{by-test}
use Rattle.operation.specs.declared.Shortening.{Shortening}
use Rattle.operation.specs.Operations.{operation_of, same_paths}
use Rattle.prefix.specs.Prefix.{Scope}
use Rattle.comparing.specs.Compares.{number_of, place_in, tag_in, base_word, base_at, same_base}
use Rattle.comparing.proofs.Operations.{number-path}
use Rattle.comparing.proofs.Bases.{word-place}
use Rattle.chains.specs.declared.Want.TheVariants.{Based}
use Rattle.chains.specs.Chains.{room, name_at, word_at, head_of, has_wanted, has_named, seek_from, seek}
use Rattle.pairs.specs.Stored.{holds_pair}
use Rattle.adding.specs.Adds.{name_in, number_in, bucket_in, word_in, is_there}
use Rattle.adding.specs.Holds.{latest, pair_at, pairs_from, pairs_in, Chained}
use Rattle.adding.proofs.Chain.{latest-most, latest-true, latest-none, seek-head}

-- the number above a path's place is that of its record
word-tag : (op : Shortening) (card : Bytes) (p : ℕ) → p < 65536 → eqb p 0 ≡ false → tag_in (base_word op card p) ≡ number_of op (record_at card p)
unfolding base_word
word-tag op card p l t = rw t (above p (number_of op (record_at card p)) l)
  where
    above : (p h : ℕ) → p < 65536 → (p + 65536 * h) / 65536 ≡ h
    above p h l = omega arith

module _ (s : Scope) (p q : ℕ) where
  abbrev Number : ℕ → ℕ
  Number x = number_of s.op (record_at s.card x)

  -- different numbers, different paths
  told : eqb p 0 ≡ false → eqb q 0 ≡ false
      → cond (eqb (Number p) (Number q)) (same_paths s.op (base_at s p) (base_at s q)) false ≡ same_paths s.op (base_at s p) (base_at s q)
  unfolding base_at
  told t u =
      rw (t, u)
      (by-test (same_paths s.op (record_at s.card p) (record_at s.card q))
      (λ v. rw (v, eq-eqb (Number p) (Number q) (number-path s.op (record_at s.card p) (record_at s.card q) v)))
      (λ v. rw v (by-test (eqb (Number p) (Number q)) (λ w. rw w) (λ w. rw w))))

  -- numbers above places never separate bases that are the same
  pub same-words : p < 65536 → q < 65536
      → same_base s (base_word s.op s.card p) (base_word s.op s.card q) ≡ same_paths s.op (base_at s p) (base_at s q)
  unfolding same_base
  same-words lp lq =
      rw (word-place s.op s.card p lp, word-place s.op s.card q lq)
      (by-test (eqb p 0) (λ t. rw t)
      (λ t. by-test (eqb q 0) (λ u. rw (t, u))
      (λ u. rw (t, u, word-tag s.op s.card p lp t, word-tag s.op s.card q lq u) (told t u))))

module _ (s : Scope) (words : List ℕ) (k b : Bytes) where
  -- whether pair i has this name and this base
  abbrev Is : ℕ → Bool
  Is i = (operation_of s.op).same_name (name_at s.card words i) k && same_paths s.op (base_at s (place_in (word_at words i))) b

  holds-next : (i n : ℕ) → holds_pair s.op (pairs_from s words i (suc n)) k b ≡ (Is i || holds_pair s.op (pairs_from s words (suc i) n) k b)
  unfolding holds_pair pairs_from pair_at
  holds-next i n = refl

  pub holds-one : (i n j : ℕ) → i ≤ j → j < i + n → Is j ≡ true → holds_pair s.op (pairs_from s words i n) k b ≡ true
  holds-one i zero j g h e = absurd (omega arith)
  holds-one i (suc n) j g h e =
      holds-next i n
      ∙ by-test (eqb i j) (λ t. rw (eqb-true i j t, e))
      (λ t. rw (holds-one (suc i) n j (let d = eqb-false i j t in omega (arith, d)) (omega arith) e) (or-true (Is i)))

  pub holds-none : (i n : ℕ) → ((j : ℕ) → j < i + n → Is j ≡ false) → holds_pair s.op (pairs_from s words i n) k b ≡ false
  unfolding holds_pair pairs_from
  holds-none i zero h = refl
  holds-none i (suc n) h = holds-next i n ∙ rw (h i (omega arith)) (holds-none (suc i) n (λ j l. h j (omega arith)))

  -- the newest that a test holds of, where the test says whether a pair is this one
  pub holds-latest : (f : ℕ → Bool) (n : ℕ) → ((i : ℕ) → i < n → f i ≡ Is i) → ltb 0 (latest f n) ≡ holds_pair s.op (pairs_in s words n) k b
  holds-latest f n e =
      by-test (ltb 0 (latest f n))
      (λ t. let o = ltb-true 0 (latest f n) t in
      let m = latest-most f n in
      rw t (sym (holds-one 0 n (latest f n - 1) (omega arith) (omega arith) (sym (e (latest f n - 1) (omega arith)) ∙ latest-true f n o))))
      (λ t. let o = ltb-false 0 (latest f n) t in
      rw t (sym (holds-none 0 n (λ j l. sym (e j (omega arith)) ∙ latest-none f n (let z : latest f n ≡ 0 = omega arith in z) j (omega arith)))))

module _ (s : Scope) (words : List ℕ) (n : ℕ) (r : n ≤ room words) (c : Chained s words n) (at len base : ℕ) (l : base < 65536) where
  abbrev Name : Bytes
  Name = name_in s words at len base

  wanted-is : (i : ℕ) → i < n → has_named s words Name (Based (word_in s words at len base)) i ≡ Is s words Name (base_at s base) i
  unfolding has_named has_wanted
  wanted-is i h =
      ap (λ (x : Bool). (operation_of s.op).same_name (name_at s.card words i) Name && x)
      (ap (λ (w : ℕ). same_base s w (word_in s words at len base)) (c.bases i h)
      ∙ same-words s (place_in (word_at words i)) base (let z : place_in (word_at words i) < 65536 = omega arith in z) l)

  abbrev Holds : Bool
  Holds = holds_pair s.op (pairs_in s words n) Name (base_at s base)

  there-none : room words ≡ 0 → is_there s words at len base ≡ Holds
  unfolding is_there head_of seek seek_from holds_pair pairs_from
  there-none e =
      let z : n ≡ 0 = omega arith in
      rw (z, e, le-ltb (bucket_in s words at len base) 0 (omega arith))

  there-some : 0 < room words → is_there s words at len base ≡ Holds
  unfolding is_there
  there-some o =
      rw (seek-head s words n r c Name (number_in s words at len base) refl (Based (word_in s words at len base)) o)
      (holds-latest s words Name (base_at s base) (has_named s words Name (Based (word_in s words at len base))) n wanted-is)

  -- THE LAW: seeking finds a pair just where the words hold it
  pub there-holds : is_there s words at len base ≡ Holds
  there-holds =
      by-test (ltb 0 (room words))
      (λ t. there-some (ltb-true 0 (room words) t))
      (λ t. let o = ltb-false 0 (room words) t in there-none (let z : room words ≡ 0 = omega arith in z))
