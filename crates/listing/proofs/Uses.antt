-- Words of entries, one after the other, and the loop over the uses put ahead. Assumes nothing.
use mathlib.Core.Path.{◌≡◌, refl, sym, ap, ◌∙◌}
use mathlib.Core.List.{List, [], ◌∷◌, ◌++◌}
use mathlib.Core.Bool.{false}
use Prim.Native.Nat.{ℕ, suc, ◌+◌, ◌*◌, ◌<◌, ◌≤◌}
use native.Mathlib.Omega.{arith}
use lib.ListN.{length, take, drop}
use lib.Seq.{take_at, drop_at}
use Rattle.wire.specs.Numbers.{Bytes}
use Rattle.records.specs.Reading.{short}
use Rattle.places.specs.Places.{Entry, entry, entry_words}
use Rattle.laying.specs.Lays.{lay}
use Rattle.laying.proofs.Laws.{lay-nil, lay-length, lay-behind}
use Rattle.rewriting.specs.Rewrites.{parts_of}
use Rattle.listing.specs.Lists.{uses_from, end_of}
use Rattle.listing.proofs.Passed.{tail, Next, Passed, passed_none, passed-more, passed-next}

pub words_append : (a b : List Entry) → entry_words (a ++ b) ≡ entry_words a ++ entry_words b
unfolding entry_words
words_append [] b = refl
words_append (e ∷ a) b = ap (λ (l : Bytes). e.offset ∷ (e.mark ∷ l)) (words_append a b)

pub words-length : (a : List Entry) → length (entry_words a) ≡ 2 * length a
unfolding entry_words
words-length [] = refl
words-length (e ∷ a) = let i = words-length a in omega arith

-- one entry more
pub lay-entry : (list₀ list after : Bytes) (n m : ℕ) (es : List Entry) (at mark : ℕ) → list ≡ lay list₀ (2 * n) (entry_words es) → m ≡ n + length es
    → after ≡ lay list (2 * m) (at ∷ (mark ∷ [])) → after ≡ lay list₀ (2 * n) (entry_words (es ++ (entry at mark ∷ [])))
unfolding entry_words
lay-entry list₀ list after n m es at mark e f g =
    let l = words-length es in
    let o : 2 * m ≡ 2 * n + length (entry_words es) = omega arith in
    g ∙ rw (e, o, words_append es (entry at mark ∷ [])) (lay-behind list₀ (2 * n) (entry_words es) (at ∷ (mark ∷ [])))

uses-snoc : (at : ℕ) (l : List Bytes) (r : Bytes) → uses_from at (l ++ (r ∷ [])) ≡ uses_from at l ++ (entry (end_of at l) 3 ∷ [])
unfolding uses_from end_of
uses-snoc at [] r = refl
uses-snoc at (u ∷ l) r = ap (λ (es : List Entry). entry at 3 ∷ es) (uses-snoc (at + length u) l r)

end_snoc : (at : ℕ) (l : List Bytes) (r : Bytes) → end_of at (l ++ (r ∷ [])) ≡ end_of at l + length r
unfolding end_of
end_snoc at [] r = refl
end_snoc at (u ∷ l) r = end_snoc (at + length u) l r

pub uses-length : (at : ℕ) (l : List Bytes) → length (uses_from at l) ≡ length l
unfolding uses_from
uses-length at [] = refl
uses-length at (u ∷ l) = ap suc (uses-length (at + length u) l)

-- j of m uses are put, up to place i of d
pub record Uses (d : Bytes) (m at : ℕ) (list₀ : Bytes) (n : ℕ) (list : Bytes) (i j : ℕ) : Type 0 where
  pub passed : Passed d i j
  pub most : j ≤ m
  pub ends : end_of at passed.done ≡ at + i
  pub words : list ≡ lay list₀ (2 * n) (entry_words (uses_from at passed.done))

module _ (d : Bytes) (m at : ℕ) (list₀ : Bytes) (n : ℕ) where
  pub uses-none : Uses d m at list₀ n list₀ 0 0
  unfolding end_of uses_from entry_words
  uses-none = record { passed = passed_none d; most = omega arith; ends = omega arith; words = sym (lay-nil list₀ (2 * n)) }

  module _ (list : Bytes) (i j : ℕ) (h : Uses d m at list₀ n list i j) where
    pub uses-long : length list ≡ length list₀
    uses-long = ap length h.words ∙ lay-length list₀ (2 * n) (entry_words (uses_from at h.passed.done))

    pub uses-more : m ≤ length (parts_of d) → j < m → short (tail d i) ≡ false
    uses-more g l = passed-more d i j h.passed (omega arith)

    pub uses-next : j < m → (x : ℕ) → Next d i x → (after : Bytes) → after ≡ lay list (2 * (n + j)) ((at + i) ∷ (3 ∷ []))
        → Uses d m at list₀ n after (i + (4 + x)) (j + 1)
    uses-next l x q after a =
        let done : List Bytes = h.passed.done in
        let r : Bytes = take (4 + x) (tail d i) in
        let f = q.long in
        let b = h.ends in
        let k = h.passed.many in
        let u = uses-length at done in
        record {
          passed = passed-next d i j h.passed x q;
          most = omega arith;
          ends = end_snoc at done r ∙ omega arith;
          words =
              lay-entry list₀ list after n (n + j) (uses_from at done) (at + i) 3 h.words (omega arith) a
              ∙ ap (λ (es : List Entry). lay list₀ (2 * n) (entry_words es))
              (ap (λ (o : ℕ). uses_from at done ++ (entry o 3 ∷ [])) (sym b) ∙ sym (uses-snoc at done r));
        }

    -- all are put
    module _ (l : m ≤ j) where
      all : length h.passed.done ≡ m
      all = omega (arith, h.passed.many, h.most)

      first-all : take m (parts_of d) ≡ h.passed.done
      first-all = ap (take m) (sym h.passed.parts) ∙ take_at h.passed.done (parts_of (drop i d)) m all

      pub uses-all : (m ≤ i) × (i ≤ length d) × (parts_of (drop i d) ≡ drop m (parts_of d)) × (at + i ≡ end_of at (take m (parts_of d)))
          × (list ≡ lay list₀ (2 * n) (entry_words (uses_from at (take m (parts_of d)))))
      uses-all = (
        omega (arith, h.passed.few),
        h.passed.inside,
        sym (ap (drop m) (sym h.passed.parts) ∙ drop_at h.passed.done (parts_of (drop i d)) m all),
        sym h.ends ∙ ap (end_of at) (sym first-all),
        h.words ∙ ap (λ (us : List Bytes). lay list₀ (2 * n) (entry_words (uses_from at us))) (sym first-all),
      )
