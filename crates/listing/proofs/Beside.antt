-- Entries put into the list behind others, and the loop over records side by side. Assumes nothing.
use mathlib.Core.Path.{◌≡◌, refl, sym, ap, ap₂, ◌∙◌}
use mathlib.Core.List.{List, [], ◌∷◌, ◌++◌, append-nil, append_assoc}
use Prim.Native.Nat.{ℕ, ◌+◌, ◌*◌, ◌≤◌}
use native.Mathlib.Nat.{add-zero}
use native.Mathlib.Omega.{arith}
use lib.ListN.{length, take, drop}
use Rattle.wire.specs.Numbers.{Bytes}
use Rattle.places.specs.Places.{Entry, entry, entry_words}
use Rattle.laying.specs.Lays.{lay, Laid}
use Rattle.laying.proofs.Laws.{lay-length, laid_none, laid_then}
use Rattle.rewriting.specs.Rewrites.{parts_of}
use Rattle.listing.specs.Lists.{besides}
use Rattle.listing.proofs.Passed.{tail, Next}
use Rattle.listing.proofs.Uses.{words_append}

-- the entries es are put from entry n on, entry e comes next, and they are no more than the bytes of s
abbrev pub Listed : (list₀ : Bytes) (n : ℕ) (es : List Entry) (s : Bytes) (e : ℕ) (list : Bytes) → Type 0
Listed list₀ n es s e list = (e ≤ n + length s) × Laid list₀ (2 * n) (entry_words es) (2 * e) list

-- entries behind others
pub laid-words : (list₀ : Bytes) (n : ℕ) (a b : List Entry) (m e : ℕ) (list₁ list₂ : Bytes)
    → Laid list₀ (2 * n) (entry_words a) (2 * m) list₁ → Laid list₁ (2 * m) (entry_words b) (2 * e) list₂ → Laid list₀ (2 * n) (entry_words (a ++ b)) (2 * e) list₂
laid-words list₀ n a b m e list₁ list₂ x y =
    rw (words_append a b) (laid_then list₀ (2 * n) (entry_words a) (2 * m) list₁ (entry_words b) (2 * e) list₂ x y)

module _ (list₀ : Bytes) (n : ℕ) (s : Bytes) where
  pub listed-none : (es : List Entry) → es ≡ [] → Listed list₀ n es s n list₀
  unfolding entry_words
  listed-none es h = (omega arith, rw h (laid_none list₀ (2 * n)))

  pub listed-one : (es : List Entry) (at mark : ℕ) → es ≡ entry at mark ∷ [] → 1 ≤ length s → (list : Bytes)
      → list ≡ lay list₀ (2 * n) (at ∷ (mark ∷ [])) → Listed list₀ n es s (n + 1) list
  unfolding entry_words
  listed-one es at mark h l list e = (omega arith, rw h (record { ends = omega arith; bytes = e }))

  -- the same entries, of fewer bytes
  pub listed-within : (es es' : List Entry) (s' : Bytes) (e : ℕ) (list : Bytes) → es ≡ es' → length s' ≤ length s
      → Listed list₀ n es' s' e list → Listed list₀ n es s e list
  listed-within es es' s' e list h l x = (omega (arith, x.0), rw h x.1)

-- of the entries for the records of c beside those of d, the ones for those ahead of places i and j are put, and entry m comes next
pub record Beside (f : ℕ → Bytes → Bytes → List Entry) (c d : Bytes) (at : ℕ) (list₀ : Bytes) (n : ℕ) (list : Bytes) (i j m : ℕ) : Type 0 where
  pub done : List Entry
  pub inside : j ≤ length d
  pub few : m ≤ n + j
  pub laid : Laid list₀ (2 * n) (entry_words done) (2 * m) list
  pub rest : done ++ besides f (at + j) (parts_of (drop i c)) (parts_of (drop j d)) ≡ besides f at (parts_of c) (parts_of d)

module _ (f : ℕ → Bytes → Bytes → List Entry) (c d : Bytes) (at : ℕ) (list₀ : Bytes) (n : ℕ) where
  pub beside_none : Beside f c d at list₀ n list₀ 0 0 n
  unfolding entry_words
  beside_none =
      record {
        done = [];
        inside = omega arith;
        few = omega arith;
        laid = laid_none list₀ (2 * n);
        rest = ap (λ (o : ℕ). besides f o (parts_of c) (parts_of d)) (add-zero at);
      }

  module _ (list : Bytes) (i j m : ℕ) (h : Beside f c d at list₀ n list i j m) where
    pub beside_long : length list ≡ length list₀
    beside_long = ap length h.laid.bytes ∙ lay-length list₀ (2 * n) (entry_words h.done)

    all-put : besides f (at + j) (parts_of (drop i c)) (parts_of (drop j d)) ≡ [] → Listed list₀ n (besides f at (parts_of c) (parts_of d)) d m list
    all-put e =
        let g = h.few in
        let k = h.inside in
        (omega arith, rw (sym h.rest ∙ ap (λ (es : List Entry). h.done ++ es) e ∙ append-nil h.done) h.laid)

    -- no record of the card follows, or none of the output
    pub beside_end : parts_of (drop i c) ≡ [] → Listed list₀ n (besides f at (parts_of c) (parts_of d)) d m list
    unfolding besides
    beside_end e = all-put (ap (λ (l : List Bytes). besides f (at + j) l (parts_of (drop j d))) e)

    pub beside-stop : parts_of (drop j d) ≡ [] → Listed list₀ n (besides f at (parts_of c) (parts_of d)) d m list
    unfolding besides
    beside-stop e = all-put (ap (besides f (at + j) (parts_of (drop i c))) e ∙ none (parts_of (drop i c)))
      where
        none : (l : List Bytes) → besides f (at + j) l [] ≡ []
        none [] = refl
        none (r ∷ l) = refl

    -- one of each follows
    module _ (x y : ℕ) (these : Next c i x) (those : Next d j y) where
      pub beside-next : (q : ℕ) (after : Bytes)
          → Listed list m (f (at + j) (take (4 + x) (tail c i)) (take (4 + y) (tail d j))) (take (4 + y) (tail d j)) q after
          → Beside f c d at list₀ n after (i + (4 + x)) (j + (4 + y)) q
      unfolding besides
      beside-next q after l =
          let r : Bytes = take (4 + x) (tail c i) in
          let s : Bytes = take (4 + y) (tail d j) in
          let o : at + j + length s ≡ at + (j + (4 + y)) = omega (arith, those.long) in
          record {
            done = h.done ++ f (at + j) r s;
            inside = those.inside;
            few = omega (arith, h.few, l.0, those.long);
            laid = laid-words list₀ n h.done (f (at + j) r s) m q list after h.laid l.1;
            rest =
                append_assoc h.done (f (at + j) r s) (besides f (at + (j + (4 + y))) (parts_of (drop (i + (4 + x)) c)) (parts_of (drop (j + (4 + y)) d)))
                ∙ ap (λ (es : List Entry). h.done ++ es)
                (ap (λ (p : ℕ). f (at + j) r s ++ besides f p (parts_of (drop (i + (4 + x)) c)) (parts_of (drop (j + (4 + y)) d))) (sym o)
                ∙ sym (ap₂ (besides f (at + j)) these.parts those.parts))
                ∙ h.rest;
          }
