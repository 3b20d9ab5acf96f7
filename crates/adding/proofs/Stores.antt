-- THE TABLE: words have a list of pairs, or it is too long for them; adding to the words is storing into the list. Assumes nothing.
use mathlib.Core.Path.{◌≡◌, ap, ◌∙◌}
use mathlib.Core.List.{List, [], ◌∷◌, ◌++◌}
use mathlib.Core.Bool.{true, false, ◌||◌}
use Prim.Native.Nat.{ℕ, suc, ◌+◌, ◌%◌, ◌<◌, ◌≤◌}
use native.Mathlib.Omega.{arith}
use native.Mathlib.Numerals.{add-one}
use lib.ListN.{length, take, drop, length-append}
use lib.Dec.{eqb, ltb}
use borrow.Author.Tests.{eqb-true, eqb-false, ltb-true, ltb-false}
use Rattle.wire.specs.Numbers.{Bytes}
use Rattle.wire.proofs.Less.{less}
use Rattle.rast.proofs.Tests.{by-test}
use Rattle.prefix.specs.Prefix.{Scope}
use Rattle.comparing.specs.Compares.{base_at}
use Rattle.chains.specs.Chains.{room}
use Rattle.pairs.specs.Stored.{Stored, stored, holds_pair, store}
use Rattle.adding.specs.Adds.{Table, table, put_pair, name_in, named_in, bucket_in, word_in, is_there, added}
use Rattle.adding.specs.Holds.{Has}
use Rattle.adding.proofs.Puts.{put-length}
use Rattle.adding.proofs.Keeps.{pairs-put, chained-put}
use Rattle.adding.proofs.There.{there-holds}

-- the count: at most one above the room, and that of the pairs where there is room for them
pub has-most : {s : Scope} {t : Table} {ps : List Stored} → Has s t ps → t.count ≤ suc (room t.words)
has-most h = let c = h.count in omega arith

pub has-count : {s : Scope} {t : Table} {ps : List Stored} → Has s t ps → length ps ≤ room t.words → t.count ≡ length ps
has-count h l = let c = h.count in omega arith

pub has-fits : {s : Scope} {t : Table} {ps : List Stored} → Has s t ps → t.count ≤ room t.words → length ps ≤ room t.words
has-fits h l = let c = h.count in omega arith

pub added-length : (s : Scope) (t : Table) (at len base : ℕ) → length (added s t at len base).words ≡ length t.words
unfolding added
added-length s t at len base =
    by-test (ltb (room t.words) t.count || is_there s t.words at len base) (λ e. rw e)
    (λ e. by-test (eqb t.count (room t.words)) (λ f. rw (e, f))
    (λ f. rw (e, f)
    (put-length t.words t.count (bucket_in s t.words at len base) (named_in s t.words at len base) len (word_in s t.words at len base))))

module _ (s : Scope) (t : Table) (at len base : ℕ) (ps : List Stored) (small : base < 65536) (h : Has s t ps) where
  abbrev n : ℕ
  n = t.count

  abbrev words : List ℕ
  words = t.words

  abbrev name : Bytes
  name = name_in s words at len base

  abbrev Stores : Table → Type 0
  Stores u = Has s u (store s.op ps name (base_at s base))

  one_more : length (ps ++ (stored name (base_at s base) ∷ [])) ≡ length ps + 1
  one_more = length-append ps (stored name (base_at s base) ∷ [])

  -- a full table stays full
  full : room words < n → Stores t
  unfolding store
  full f =
      let c = h.count in
      let l = one_more in
      by-test (holds_pair s.op ps name (base_at s base)) (λ e. rw e h)
      (λ e. rw e (record { count = omega arith; pairs = λ g. absurd (omega arith); chained = λ g. absurd (omega arith) }))

  -- a pair that is there
  old : holds_pair s.op ps name (base_at s base) ≡ true → Stores t
  unfolding store
  old e = rw e h

  module _ (r : n ≤ room words) where
    fits : length ps ≤ room words
    fits = has-fits h r

    there-is : is_there s words at len base ≡ holds_pair s.op ps name (base_at s base)
    there-is =
        there-holds s words n r (h.chained fits) at len base small
        ∙ ap (λ (x : List Stored). holds_pair s.op x name (base_at s base)) (h.pairs fits)

    module _ (e : holds_pair s.op ps name (base_at s base) ≡ false) where
      -- the last that there was room for
      last : n ≡ room words → Stores (table (n + 1) words)
      unfolding store
      last g =
          let c = h.count in
          let l = one_more in
          rw e (record { count = omega arith; pairs = λ o. absurd (omega arith); chained = λ o. absurd (omega arith) })

      new : n < room words
          → Stores (table (n + 1) (put_pair words n (bucket_in s words at len base) (named_in s words at len base) len (word_in s words at len base)))
      unfolding store
      new g =
          let c = h.count in
          let l = one_more in
          let w = put-length words n (bucket_in s words at len base) (named_in s words at len base) len (word_in s words at len base) in
          rw (e, add-one n)
          (record {
            count = omega arith;
            pairs = λ o. pairs-put s words n at len base small g (h.chained fits)
                ∙ ap (λ (x : List Stored). x ++ (stored name (base_at s base) ∷ [])) (h.pairs fits);
            chained = λ o. chained-put s words n at len base small g (h.chained fits);
          })

-- THE LAW: adding to words that have a list of pairs is storing into the list
pub add-has : (s : Scope) (t : Table) (at len base : ℕ) (ps : List Stored) → base < 65536 → Has s t ps
    → Has s (added s t at len base) (store s.op ps (take len (drop (at % 65536) s.card)) (base_at s base))
unfolding added
add-has s t at len base ps small h =
    by-test (ltb (room t.words) t.count)
    (λ f. rw f (full s t at len base ps small h (ltb-true (room t.words) t.count f)))
    (λ f. let r : t.count ≤ room t.words = ltb-false (room t.words) t.count f in
    rw (f, there-is s t at len base ps small h r)
    (by-test (holds_pair s.op ps (take len (drop (at % 65536) s.card)) (base_at s base))
    (λ e. rw e (old s t at len base ps small h e))
    (λ e. rw e
    (by-test (eqb t.count (room t.words))
    (λ g. rw g (last s t at len base ps small h r e (eqb-true t.count (room t.words) g)))
    (λ g. rw g (new s t at len base ps small h r e (less t.count (room t.words) r (eqb-false t.count (room t.words) g))))))))
