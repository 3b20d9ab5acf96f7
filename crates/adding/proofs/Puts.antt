-- What putting a pair does to the words: the pair's own three, the head of its bucket and its link; the others stay. Assumes nothing.
use mathlib.Core.Path.{◌≡◌, ap, ◌∙◌}
use mathlib.Core.List.{List}
use mathlib.Core.Bool.{cond}
use Prim.Native.Nat.{ℕ, suc, ◌+◌, ◌-◌, ◌*◌, ◌/◌, ◌%◌, ◌<◌, ◌≤◌}
use native.Mathlib.Omega.{arith}
use lib.ListN.{length, get_or, set, length-set}
use lib.Seq.{get_or-set_same, get_or-set_other}
use lib.Dec.{eqb}
use borrow.Author.Tests.{eqb-true, eqb-false, ne_eqb, lt-ltb, le-ltb}
use Rattle.rast.proofs.Tests.{by-test}
use Rattle.chains.specs.Chains.{room, link_at, head_at, head_of, next_of}
use Rattle.adding.specs.Adds.{put_pair}

-- the halves of a word
upper : (a x : ℕ) → x < 65536 → (a * 65536 + x) / 65536 ≡ a
upper a x h = omega arith

lower : (a x : ℕ) → x < 65536 → (a * 65536 + x) % 65536 ≡ x
lower a x h = omega arith

low_small : (x : ℕ) → x % 65536 < 65536
low_small x = omega arith

module _ (words : List ℕ) (n b at len base : ℕ) where
  abbrev Three : List ℕ
  Three = set (set (set words (4 * n) at) (4 * n + 1) len) (4 * n + 2) base

  -- the fourth word of pair n, linked
  abbrev Linked : List ℕ
  Linked = set Three (4 * n + 3) (get_or Three (4 * n + 3) 0 / 65536 * 65536 + head_of words b)

  abbrev Put : List ℕ
  Put = put_pair words n b at len base

  pub put-length : length Put ≡ length words
  unfolding put_pair
  put-length = simp length-set

  -- fourth words that are not pair n's
  three-fourth : (i : ℕ) → get_or Three (4 * i + 3) 0 ≡ get_or words (4 * i + 3) 0
  three-fourth i =
      get_or-set_other (set (set words (4 * n) at) (4 * n + 1) len) (4 * n + 2) (4 * i + 3) base 0 (λ e. absurd (omega arith))
      ∙ get_or-set_other (set words (4 * n) at) (4 * n + 1) (4 * i + 3) len 0 (λ e. absurd (omega arith))
      ∙ get_or-set_other words (4 * n) (4 * i + 3) at 0 (λ e. absurd (omega arith))

  linked-other : (i : ℕ) → (i ≡ n → ⊥) → get_or Linked (4 * i + 3) 0 ≡ get_or words (4 * i + 3) 0
  linked-other i d =
      get_or-set_other Three (4 * n + 3) (4 * i + 3) _ 0 (λ e. d (let z : i ≡ n = omega arith in z)) ∙ three-fourth i

  put_other : (i : ℕ) → (i ≡ b → ⊥) → get_or Put (4 * i + 3) 0 ≡ get_or Linked (4 * i + 3) 0
  unfolding put_pair
  put_other i d = get_or-set_other Linked (4 * b + 3) (4 * i + 3) _ 0 (λ e. d (let z : i ≡ b = omega arith in z))

  -- the first three words of another pair stay: no fourth word is one of them
  pub put-others : (i k : ℕ) → (i ≡ n → ⊥) → k < 3 → get_or Put (4 * i + k) 0 ≡ get_or words (4 * i + k) 0
  unfolding put_pair
  put-others i k d l =
      get_or-set_other Linked (4 * b + 3) (4 * i + k) _ 0 (λ e. absurd (omega arith))
      ∙ get_or-set_other Three (4 * n + 3) (4 * i + k) _ 0 (λ e. absurd (omega arith))
      ∙ get_or-set_other (set (set words (4 * n) at) (4 * n + 1) len) (4 * n + 2) (4 * i + k) base 0 (λ e. d (let z : i ≡ n = omega arith in z))
      ∙ get_or-set_other (set words (4 * n) at) (4 * n + 1) (4 * i + k) len 0 (λ e. d (let z : i ≡ n = omega arith in z))
      ∙ get_or-set_other words (4 * n) (4 * i + k) at 0 (λ e. d (let z : i ≡ n = omega arith in z))

  pub put_first : (i k : ℕ) → i < n → k < 3 → get_or Put (4 * i + k) 0 ≡ get_or words (4 * i + k) 0
  put_first i k h l = put-others i k (λ e. absurd (omega arith)) l

  module _ (r : n < room words) where
    -- those of the new pair
    own : (k : ℕ) → k < 3 → get_or Put (4 * n + k) 0 ≡ get_or Three (4 * n + k) 0
    unfolding put_pair
    own k l =
        get_or-set_other Linked (4 * b + 3) (4 * n + k) _ 0 (λ e. absurd (omega arith))
        ∙ get_or-set_other Three (4 * n + 3) (4 * n + k) _ 0 (λ e. absurd (omega arith))

    pub put-at : get_or Put (4 * n) 0 ≡ at
    put-at =
        ap (λ (j : ℕ). get_or Put j 0) (let z : 4 * n ≡ 4 * n + 0 = omega arith in z) ∙ own 0 (omega arith)
        ∙ ap (λ (j : ℕ). get_or Three j 0) (let z : 4 * n + 0 ≡ 4 * n = omega arith in z)
        ∙ get_or-set_other (set (set words (4 * n) at) (4 * n + 1) len) (4 * n + 2) (4 * n) base 0 (λ e. absurd (omega arith))
        ∙ get_or-set_other (set words (4 * n) at) (4 * n + 1) (4 * n) len 0 (λ e. absurd (omega arith))
        ∙ get_or-set_same words (4 * n) at 0 (omega arith)

    pub put-len : get_or Put (4 * n + 1) 0 ≡ len
    put-len =
        own 1 (omega arith)
        ∙ get_or-set_other (set (set words (4 * n) at) (4 * n + 1) len) (4 * n + 2) (4 * n + 1) base 0 (λ e. absurd (omega arith))
        ∙ get_or-set_same (set words (4 * n) at) (4 * n + 1) len 0 (simp length-set (omega arith))

    pub put-base : get_or Put (4 * n + 2) 0 ≡ base
    put-base = own 2 (omega arith) ∙ get_or-set_same (set (set words (4 * n) at) (4 * n + 1) len) (4 * n + 2) base 0 (simp length-set (omega arith))

    linked-own : get_or Linked (4 * n + 3) 0 ≡ get_or words (4 * n + 3) 0 / 65536 * 65536 + head_of words b
    linked-own =
        get_or-set_same Three (4 * n + 3) _ 0 (simp length-set (omega arith))
        ∙ ap (λ (x : ℕ). x / 65536 * 65536 + head_of words b) (three-fourth n)

    module _ (q : b < room words) (small : head_of words b < 65536) where
      put-head : get_or Put (4 * b + 3) 0 ≡ (n + 1) * 65536 + get_or Linked (4 * b + 3) 0 % 65536
      unfolding put_pair
      put-head = get_or-set_same Linked (4 * b + 3) _ 0 (simp length-set (omega arith))

      -- a link writes the lower half of a word, and a head the upper half: they may be those of one word
      linked-head : (c : ℕ) → head_at Linked c ≡ head_at words c
      linked-head c =
          by-test (eqb c n)
          (λ t. rw (eqb-true c n t) (ap (λ (x : ℕ). x / 65536) linked-own ∙ upper (head_at words n) (head_of words b) small))
          (λ t. ap (λ (x : ℕ). x / 65536) (linked-other c (eqb-false c n t)))

      put-link : (i : ℕ) → link_at Put i ≡ link_at Linked i
      put-link i =
          by-test (eqb i b)
          (λ t. rw (eqb-true i b t) (ap (λ (x : ℕ). x % 65536) put-head ∙ lower (n + 1) (link_at Linked b) (low_small (get_or Linked (4 * b + 3) 0))))
          (λ t. ap (λ (x : ℕ). x % 65536) (put_other i (eqb-false i b t)))

      head-new : head_at Put b ≡ n + 1
      head-new = ap (λ (x : ℕ). x / 65536) put-head ∙ upper (n + 1) (link_at Linked b) (low_small (get_or Linked (4 * b + 3) 0))

      head-old : (c : ℕ) → (c ≡ b → ⊥) → head_at Put c ≡ head_at words c
      head-old c d = ap (λ (x : ℕ). x / 65536) (put_other c d) ∙ linked-head c

      link-new : link_at Put n ≡ head_of words b
      link-new = put-link n ∙ ap (λ (x : ℕ). x % 65536) linked-own ∙ lower (head_at words n) (head_of words b) small

      link-old : (i : ℕ) → (i ≡ n → ⊥) → link_at Put i ≡ link_at words i
      link-old i d = put-link i ∙ ap (λ (x : ℕ). x % 65536) (linked-other i d)

      -- THE HEADS: that of bucket b is the new pair
      pub put-heads : (c : ℕ) → head_of Put c ≡ cond (eqb c b) (suc n) (head_of words c)
      unfolding head_of
      put-heads c =
          by-test (eqb c b)
          (λ t. rw (t, put-length, eqb-true c b t, lt-ltb b (room words) q, head-new) (let z : n + 1 ≡ suc n = omega arith in z))
          (λ t. rw (t, put-length, head-old c (eqb-false c b t)))

      -- THE LINKS: the new pair's is the head that its bucket had
      pub put_next : head_of words b ≤ n → next_of Put (suc n) ≡ head_of words b
      unfolding next_of
      put_next h =
          let k : suc n - 1 ≡ n = omega arith in
          let l = lt-ltb (head_of words b) (suc n) (omega arith) in
          rw (put-length, ne_eqb (suc n) 0 (λ z. omega arith), le-ltb (room words) (suc n) (omega arith), k, link-new, l)

      pub put-nexts : (i : ℕ) → i < n → next_of Put (suc i) ≡ next_of words (suc i)
      unfolding next_of
      put-nexts i l = let k : suc i - 1 ≡ i = omega arith in rw (put-length, k, link-old i (λ z. absurd (omega arith)))
