-- The entries at a record, test by test, and at a Mod's body. Assumes nothing.
use mathlib.Core.Path.{◌≡◌, refl, sym, ap, ap₂, ◌∙◌}
use mathlib.Core.Bool.{Bool, true, false, ◌&&◌, cond}
use mathlib.Core.List.{List, [], ◌∷◌}
use Prim.Native.Nat.{ℕ, suc, ◌+◌, ◌-◌, ◌*◌, ◌^◌, ◌<◌, ◌≤◌}
use native.Mathlib.Omega.{arith}
use lib.ListN.{length, take, drop}
use lib.Seq.{length-take-le}
use lib.Dec.{eqb}
use borrow.Author.Tests.{ne_eqb, lt-ltb, le-ltb}
use Rattle.wire.specs.Numbers.{Bytes, num}
use Rattle.wire.proofs.Slices.{tail-is, tail-length}
use Rattle.records.specs.Record.{kind_of, content_of, rest_of}
use Rattle.places.specs.Places.{Entry, entry, entry_words}
use Rattle.laying.specs.Lays.{lay, Laid}
use Rattle.rewriting.specs.Rewrites.{parts_of, body_of}
use Rattle.rewriting.proofs.Lengths.{content-inside, rest-inside}
use Rattle.listing.specs.Lists.{uses_from, end_of, besides, besides_body, record_places, card_places}
use Rattle.listing.proofs.Passed.{tail}
use Rattle.listing.proofs.Uses.{words-length, uses-length}
use Rattle.listing.proofs.Beside.{Listed, laid-words, listed-one}

-- the mark of a record of kind k that became one of kind j
abbrev mark_of : ℕ → ℕ → ℕ
mark_of k j = cond (eqb k 0x2D && eqb j 0x37) 1 (cond (eqb k 0x5C && eqb j 0x42) 2 0)

marked : (a b : Bool) (at : ℕ) (rest : List Entry) (m : ℕ) → m ≡ cond a 1 (cond b 2 0) → 0 < m
    → cond a (entry at 1 ∷ []) (cond b (entry at 2 ∷ []) rest) ≡ entry at m ∷ []
marked true b at rest m g h = ap (λ (x : ℕ). entry at x ∷ []) (sym g)
marked false true at rest m g h = ap (λ (x : ℕ). entry at x ∷ []) (sym g)
marked false false at rest m g h = absurd (omega arith)

unmarked : (a b : Bool) (at : ℕ) (rest : List Entry) (m : ℕ) → m ≡ cond a 1 (cond b 2 0) → m ≤ 0
    → cond a (entry at 1 ∷ []) (cond b (entry at 2 ∷ []) rest) ≡ rest
unmarked true b at rest m g h = absurd (omega arith)
unmarked false true at rest m g h = absurd (omega arith)
unmarked false false at rest m g h = refl

-- no bytes have no mark
none-marked : (a b : Bool) → ◌≡◌ {A = ℕ} (cond (a && false) 1 (cond (b && false) 2 0)) 0
none-marked true true = refl
none-marked true false = refl
none-marked false true = refl
none-marked false false = refl

marked-long : (s : Bytes) (k j m : ℕ) → j ≡ kind_of s → m ≡ mark_of k j → 0 < m → 1 ≤ length s
unfolding num
marked-long [] k j m f g h =
    let e : m ≡ 0 = g ∙ ap (mark_of k) f ∙ none-marked (eqb k 0x2D) (eqb k 0x5C) in
    absurd (omega arith)
marked-long (b ∷ s) k j m f g h = omega arith

pub body-inside : (r c : Bytes) → c ≡ body_of r → length c ≤ length r
body-inside r x h =
    let l = ap length h in
    let a = content-inside r in
    let b = rest-inside (content_of r) in
    let c = rest-inside (rest_of (content_of r)) in
    let d = rest-inside (rest_of (rest_of (content_of r))) in
    let e = content-inside (rest_of (rest_of (rest_of (content_of r)))) in
    omega arith

module _ (at : ℕ) (r s : Bytes) where
  pub no-depth : (left : ℕ) → left ≡ 0 → record_places left at r s ≡ []
  unfolding record_places
  no-depth left e = rw e

  -- a record that may be looked into
  module _ (left : ℕ) (l : left ≡ 0 → ⊥) where
    deeper : left ≡ suc (left - 1)
    deeper = omega arith

    module _ (k : ℕ) (e : k ≡ kind_of r) where
      pub text-places : k ≡ 0x01 → record_places left at r s ≡ []
      unfolding record_places
      text-places h = ap (λ (d : ℕ). record_places d at r s) deeper ∙ rw (sym e ∙ h)

      pub kept-places : k ≡ 0x03 → record_places left at r s ≡ []
      unfolding record_places
      kept-places h = ap (λ (d : ℕ). record_places d at r s) deeper ∙ rw (sym e ∙ h)

      pub module-places : k ≡ 0x60 → record_places left at r s
          ≡ besides_body (record_places (left - 1)) (at + (length s - length (body_of s))) (parts_of (body_of r)) (parts_of (body_of s))
      unfolding record_places
      module-places h = ap (λ (d : ℕ). record_places d at r s) deeper ∙ rw (sym e ∙ h)

      module _ (j m : ℕ) (f : j ≡ kind_of s) (g : m ≡ mark_of k j) where
        mark-places : 0 < m → record_places left at r s ≡ entry at m ∷ []
        unfolding record_places
        mark-places h =
            ap (λ (d : ℕ). record_places d at r s) deeper ∙ rw (← e, ← f) (marked (eqb k 0x2D && eqb j 0x37) (eqb k 0x5C && eqb j 0x42) at _ m g h)

        pub marked-listed : 0 < m → (list₀ : Bytes) (n : ℕ) (list : Bytes) → list ≡ lay list₀ (2 * n) (at ∷ (m ∷ []))
            → Listed list₀ n (record_places left at r s) s (n + 1) list
        marked-listed h list₀ n list x =
            listed-one list₀ n s (record_places left at r s) at m (mark-places h) (marked-long s k j m f g h) list x

        pub other-places : m ≤ 0 → (k ≡ 0x01 → ⊥) → (k ≡ 0x03 → ⊥) → (k ≡ 0x60 → ⊥) → (c d : Bytes) → c ≡ content_of r → d ≡ content_of s
            → record_places left at r s ≡ besides (record_places (left - 1)) (at + 6) (parts_of c) (parts_of d)
        unfolding record_places
        other-places h a b o c d x y =
            ap (λ (n : ℕ). record_places n at r s) deeper
            ∙ rw (x, y, ← e, ← f, ne_eqb k 0x01 a, ne_eqb k 0x03 b, ne_eqb k 0x60 o)
            (unmarked (eqb k 0x2D && eqb j 0x37) (eqb k 0x5C && eqb j 0x42) at _ m g h)

-- a Mod, c and d its body and the output's: the uses, then the others
module _ (list₀ : Bytes) (left n at : ℕ) (r s c d : Bytes) (x : c ≡ body_of r) (y : d ≡ body_of s)
    (m : ℕ) (g : m ≡ length (parts_of d) - length (parts_of c)) where
  abbrev p : ℕ
  p = at + (length s - length d)

  pub module-listed : (e : ℕ) (list₁ : Bytes)
      → (m ≤ e) × (e ≤ length d) × (parts_of (drop e d) ≡ drop m (parts_of d)) × (p + e ≡ end_of p (take m (parts_of d)))
      × (list₁ ≡ lay list₀ (2 * n) (entry_words (uses_from p (take m (parts_of d)))))
      → (q : ℕ) (list₂ : Bytes) → Listed list₁ (n + m) (besides (record_places left) (p + e) (parts_of c) (parts_of (tail d e))) (tail d e) q list₂
      → Listed list₀ n (besides_body (record_places left) (at + (length s - length (body_of s))) (parts_of (body_of r)) (parts_of (body_of s))) s q list₂
  unfolding besides_body
  module-listed e list₁ u q list₂ l =
      let us : List Bytes = take m (parts_of d) in
      let others : List Entry = besides (record_places left) (end_of p us) (parts_of c) (drop m (parts_of d)) in
      let a = words-length (uses_from p us) in
      let b = uses-length p us in
      let k : length us ≡ m = length-take-le m (parts_of d) (omega arith) in
      let i : length d ≤ length s = body-inside s d y in
      let ahead : Laid list₀ (2 * n) (entry_words (uses_from p us)) (2 * (n + m)) list₁ = record { ends = omega arith; bytes = u.4 } in
      let behind : besides (record_places left) (p + e) (parts_of c) (parts_of (tail d e)) ≡ others =
      ap₂ (λ (o : ℕ) (those : List Bytes). besides (record_places left) o (parts_of c) those) u.3 (ap parts_of (tail-is d e) ∙ u.2) in (
        omega (arith, l.0, tail-length d e, u.0, u.1),
        rw (← x, ← y, ← g) (laid-words list₀ n (uses_from p us) others (n + m) q list₁ list₂ ahead (rw behind at l.1)),
      )

module _ (card out : Bytes) where
  pub card-long : 65536 < length card → card_places card out ≡ []
  unfolding card_places
  card-long h = rw (lt-ltb 65536 (length card) h)

  module _ (a : length card ≤ 65536) where
    pub out-long : 2 ^ 31 < length out → card_places card out ≡ []
    unfolding card_places
    out-long h = rw (le-ltb 65536 (length card) a, lt-ltb (2 ^ 31) (length out) h)

    pub card-places : length out ≤ 2 ^ 31 → card_places card out ≡ record_places 48 0 card out
    unfolding card_places
    card-places h = rw (le-ltb 65536 (length card) a, le-ltb (2 ^ 31) (length out) h)
