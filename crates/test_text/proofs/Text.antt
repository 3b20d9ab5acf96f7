-- The laws of the text of a case: digits one after the other. Assumes nothing.
use mathlib.Core.Path.{◌≡◌, refl, ap, sym, ◌∙◌}
use mathlib.Core.List.{[], ◌∷◌, ◌++◌}
use Prim.Native.Nat.{ℕ, suc, ◌+◌, ◌-◌, ◌*◌, ◌/◌, ◌≤◌, ◌<◌, min}
use native.Mathlib.Nat.{min-eq_left}
use native.Mathlib.Numerals.{add-one}
use native.Mathlib.Omega.{arith}
use lib.ListN.{length, take, drop, get_or, set, length-drop, length-set}
use lib.Seq.{drop-cons, drop-drop, take-suc, append_snoc, set_at, length-take-le}
use Rattle.wire.specs.Numbers.{Bytes}
use Rattle.wire.proofs.Slices.{tail-is}
use Rattle.test_text.specs.Text.{hex_value, hex_pair, hex_first, hex_onto, hex_bytes, Decoded, is_digit, is_value, decimal_of}
use Rattle.std.proofs.Common.{Option, None, Some, Bool, true, false, cond, leb, ltb}
use Rattle.std.proofs.lemmas.List.{at_drop_more, at_drop_all}

-- ---- decimal digits

-- what the digits from i on say after those that say n: where the next is a digit, where it is none, and at the end
pub decimal_digit : (s : Bytes) (n i d : ℕ) → i < length s → hex_value (get_or s i 0) ≡ Some d
    → decimal_of n (drop i s) ≡ cond (ltb d 10) (cond (leb 4294967296 n) n (decimal_of (n * 10 + d) (drop (i + 1) s))) n
unfolding decimal_of is_digit is_value
decimal_digit s n i d h e = rw (at_drop_more (decimal_of n) s i 0 h, e)

pub decimal_stop : (s : Bytes) (n i : ℕ) → i < length s → hex_value (get_or s i 0) ≡ None → decimal_of n (drop i s) ≡ n
unfolding decimal_of is_digit is_value
decimal_stop s n i h e = rw (at_drop_more (decimal_of n) s i 0 h, e)

-- the same by a byte's value where that is under 10, as decimal_value has it
digit_under : (b : Bool) (v d : ℕ) → ltb v 10 ≡ b → cond b (Some v) None ≡ Some d → (Some v ≡ Some d) × (ltb d 10 ≡ true)
digit_under false v d k e = absurd (cc)
digit_under true v d k e = let j : v ≡ d = cc in (e, rw j at k)

digit_over : (b : Bool) (v : ℕ) → cond b (Some v) None ≡ None → b ≡ false
digit_over false v e = refl
digit_over true v e = absurd (cc)

value_under : (v : Option ℕ) (d : ℕ) → cond (is_value 10 v) v None ≡ Some d → (v ≡ Some d) × (ltb d 10 ≡ true)
unfolding is_value
value_under None d e = absurd (cc)
value_under (Some v) d e = digit_under (ltb v 10) v d refl e

pub decimal_more : (s : Bytes) (n i d : ℕ) → i < length s → cond (is_digit 10 (get_or s i 0)) (hex_value (get_or s i 0)) None ≡ Some d
    → decimal_of n (drop i s) ≡ cond (leb 4294967296 n) n (decimal_of (n * 10 + d) (drop (i + 1) s))
unfolding is_digit
decimal_more s n i d h e = let u = value_under (hex_value (get_or s i 0)) d e in rw (decimal_digit s n i d h u.0, u.1)

over_by : (s : Bytes) (n i : ℕ) → i < length s → (v : Option ℕ) → hex_value (get_or s i 0) ≡ v → cond (is_value 10 v) v None ≡ None
    → decimal_of n (drop i s) ≡ n
unfolding is_value
over_by s n i h None k e = decimal_stop s n i h k
over_by s n i h (Some d) k e = rw (decimal_digit s n i d h k, digit_over (ltb d 10) d e)

pub decimal_over : (s : Bytes) (n i : ℕ) → i < length s → cond (is_digit 10 (get_or s i 0)) (hex_value (get_or s i 0)) None ≡ None
    → decimal_of n (drop i s) ≡ n
unfolding is_digit
decimal_over s n i h e = over_by s n i h (hex_value (get_or s i 0)) refl e

pub decimal_end : (s : Bytes) (n i : ℕ) → length s ≤ i → decimal_of n (drop i s) ≡ n
unfolding decimal_of
decimal_end s n i h = at_drop_all (decimal_of n) s i h

-- ---- hexadecimal digits

-- where the first two say a byte, it is followed by what the others say
first_said : (s : Bytes) (v : ℕ) → hex_first s ≡ Some v → hex_bytes s ≡ v ∷ hex_bytes (drop 2 s)
unfolding hex_first hex_bytes hex_onto
first_said [] v h = absurd (cc)
first_said (a ∷ []) v h = absurd (cc)
first_said (a ∷ b ∷ s) v h = rw h

-- where they say none, nothing is said
none_said : (s : Bytes) → hex_first s ≡ None → hex_bytes s ≡ []
unfolding hex_first hex_bytes hex_onto
none_said [] h = refl
none_said (a ∷ []) h = refl
none_said (a ∷ b ∷ s) h = rw h

length_onto : (v : Option ℕ) (l : Bytes) → length (hex_onto v l) ≤ suc (length l)
unfolding hex_onto
length_onto None l = omega arith
length_onto (Some v) l = omega arith

-- two digits say a byte
length_said : (s : Bytes) → length (hex_bytes s) * 2 ≤ length s
unfolding hex_bytes
length_said [] = omega arith
length_said (a ∷ []) = omega arith
length_said (a ∷ b ∷ s) = omega (arith, length_onto (hex_pair a b) (hex_bytes s), length_said s)

-- ---- a buffer that is filled

-- n bytes of what s says stand at the front of a buffer, and the digits ahead say the others
pub record Filled (s before : Bytes) (n : ℕ) (after : Bytes) : Type 0 where
  pub holds : after ≡ take n (hex_bytes s) ++ drop n before
  pub ahead : drop n (hex_bytes s) ≡ hex_bytes (drop (n * 2) s)
  pub said : n ≤ length (hex_bytes s)
  pub room : n ≤ length before
  pub same : length after ≡ length before

pub filled_none : (s before : Bytes) → Filled s before 0 before
filled_none s before = record { holds = refl; ahead = refl; said = omega arith; room = omega arith; same = refl }

module _ {s before : Bytes} {n : ℕ} {after : Bytes} (f : Filled s before n after) where
  -- what the part from n * 2 on says, as the code has it
  pub said_at : {v : Option ℕ} → v ≡ hex_first (take (length s - n * 2) (drop (n * 2) s)) → v ≡ hex_first (drop (n * 2) s)
  said_at e = e ∙ ap hex_first (tail-is s (n * 2))

  pub filled_more : (v : ℕ) → hex_first (drop (n * 2) s) ≡ Some v → n < length after → Filled s before (n + 1) (set after n v)
  filled_more v e h =
      let k : n * 2 + 2 ≡ (n + 1) * 2 = omega arith in
      let a : drop n (hex_bytes s) ≡ v ∷ hex_bytes (drop ((n + 1) * 2) s) =
      f.ahead ∙ first_said (drop (n * 2) s) v e ∙ rw (drop-drop 2 (n * 2) s, k) in
      let l : n < length (hex_bytes s) = omega (arith, simp length-drop at (ap length a)) in
      let d = drop-cons (hex_bytes s) n 0 l in
      let w : get_or (hex_bytes s) n 0 ≡ v = cc in
      let t : drop (suc n) (hex_bytes s) ≡ hex_bytes (drop ((n + 1) * 2) s) = cc in
      let r : n < length before = rw f.same at h in
      record {
        holds =
            rw (add-one n, f.holds, drop-cons before n 0 r, take-suc (hex_bytes s) n 0 l, w, append_snoc (take n (hex_bytes s)) v _)
            (set_at (take n (hex_bytes s)) _ _ v n (length-take-le n (hex_bytes s) (omega arith)));
        ahead = rw (← add-one n) at t;
        said = omega arith;
        room = omega arith;
        same = rw length-set f.same;
      }

  -- what is there is what was decoded, where all that is said is there or there is no more room
  decoded : n ≡ min (length (hex_bytes s)) (length before) → Decoded s before n after
  decoded m =
      record {
        count = m;
        holds = f.holds;
        fits = rw f.same f.room;
        front = sym (length-take-le n after (rw f.same f.room));
      }

  pub filled_end : hex_first (drop (n * 2) s) ≡ None → Decoded s before n after
  filled_end b =
      let e : drop n (hex_bytes s) ≡ [] = f.ahead ∙ none_said (drop (n * 2) s) b in
      let m : length (hex_bytes s) - n ≡ 0 = simp length-drop at (ap length e) in
      let l : n ≡ length (hex_bytes s) = omega (arith, f.said) in
      decoded (l ∙ sym (min-eq_left (rw l at f.room)))

  pub filled_most : n ≡ min (length before) (length s / 2) → Decoded s before n after
  filled_most h = decoded (omega (arith, f.said, f.room, length_said s))
