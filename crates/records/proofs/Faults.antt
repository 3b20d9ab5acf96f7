-- Reading refuses by 4 to 7 and 11 alone, at a place within the bytes. Assumes nothing.
use Rattle.std.specs.Prelude.{Ok, Err}
use mathlib.Core.Path.{◌≡◌, refl}
use mathlib.Core.Bool.{Bool, true, false, not, cond}
use mathlib.Core.List.{[], ◌∷◌}
use Prim.Native.Nat.{ℕ, zero, suc, ◌+◌, ◌≤◌}
use native.Mathlib.Omega.{arith}
use lib.ListN.{length}
use lib.Dec.{ltb}
use Rattle.answers.specs.Answers.{value}
use Rattle.answers.specs.declared.Refusal.{Refusal}
use Rattle.answers.specs.declared.Refusal.TheVariants.{ShortWork, LongCard, BadRoot, ShortRecord, WrongKind}
use Rattle.answers.specs.declared.Refusal.TheVariants.{TooDeep, LeftOver, FullTable, NoSpace, ShortList, NoName}
use Rattle.answers.specs.Answers.{Verdict}
use Rattle.wire.specs.Numbers.{Bytes}
use Rattle.records.specs.Record.{length_of, kind_of, content_of, rest_of}
use Rattle.records.specs.Kinds.{Place, stands, Content, these, content_at}
use Rattle.records.specs.Reading.{Next, done, left_over, record-at, next, short, nameless, and_then, step, read, reading}
use Rattle.records.proofs.Tree.{rest-length, content-length}

-- sound, or one of 4 to 7 and 11
abbrev pub fault : Refusal → Bool
fault ShortWork = false
fault LongCard = false
fault BadRoot = false
fault (ShortRecord n) = true
fault (WrongKind n) = true
fault (TooDeep n) = true
fault (LeftOver n) = true
fault (FullTable n) = false
fault NoSpace = false
fault ShortList = false
fault (NoName n) = true

abbrev pub fair : Verdict → Bool
fair (Ok _) = true
fair (Err a) = fault a

-- sound, or refused by one of 4 to 7 and 11 at a place that is not past m
unfoldable pub Within : ℕ → Verdict → Type 0
Within m (Ok _) = Unit {0}
Within m (Err a) = (fault a ≡ true) × (value (Err a) ≤ m)

module _ (m : ℕ) where
  both-within : (v w : Verdict) → Within m v → Within m w → Within m (and_then v w)
  unfolding Within
  both-within (Ok _) w p q = q
  both-within (Err a) w p q = p

  picked-within : (t : Bool) (v w : Verdict) → Within m v → (t ≡ false → Within m w) → Within m (cond t v w)
  picked-within true v w p q = p
  picked-within false v w p q = q refl

  step-within : (x : Next) (limit depth at : ℕ) (s : Bytes) (content rest : Content → Verdict) → at ≤ m
      → (short s ≡ false → (c : Content) → Within m (content c)) → (short s ≡ false → (c : Content) → Within m (rest c))
      → Within m (step x limit depth at s content rest)
  unfolding Within
  step-within done limit depth at s content rest h f g = tt
  step-within left_over limit depth at s content rest h f g = (refl, h)
  step-within (record-at p more) limit depth at s content rest h f g =
      picked-within (short s) _ _ (refl, h)
      (λ l. picked-within (not (stands p (kind_of s))) _ _ (refl, h)
      (λ t. picked-within (ltb limit depth) _ _ (refl, h)
      (λ t. picked-within (nameless p (kind_of s) (content_of s)) _ _ (refl, h)
      (λ t. both-within (content (content_at p (kind_of s))) (rest more) (f l _) (g l _)))))

within_more : (m n : ℕ) (v : Verdict) → m ≤ n → Within m v → Within n v
unfolding Within
within_more m n (Ok _) h w = tt
within_more m n (Err a) h w = (w.0, (let i = w.1 in omega arith))

sound-within : (m : ℕ) → Within m (Ok tt)
unfolding Within
sound-within m = tt

read-within : (limit n : ℕ) (c : Content) (depth at : ℕ) (s : Bytes) → Within (at + length s) (read limit n c depth at s)
unfolding read
read-within limit zero c depth at s = sound-within (at + length s)
read-within limit (suc n) c depth at s =
    step-within (at + length s) (next c s) limit depth at s _ _ (omega arith)
    (λ l inner.
    let e = rest-length s l in
    within_more (at + 6 + length (content_of s)) (at + length s) _ (omega arith)
    (read-within limit n inner (depth + 1) (at + 6) (content_of s)))
    (λ l more.
    let e = rest-length s l in
    let k = content-length s l in
    within_more (at + (4 + length_of s) + length (rest_of s)) (at + length s) _ (omega arith)
    (read-within limit n more depth (at + (4 + length_of s)) (rest_of s)))

pub reading-within : (limit : ℕ) (p : Place) (s : Bytes) → Within (length s) (reading limit p s)
unfolding reading
reading-within limit p s = within_more (0 + length s) (length s) _ (omega arith) (read-within limit (suc (length s)) (these (p ∷ [])) 1 0 s)

fair-of : (m : ℕ) (v : Verdict) → Within m v → fair v ≡ true
unfolding Within
fair-of m (Ok _) w = refl
fair-of m (Err a) w = w.0

pub reading-fair : (limit : ℕ) (p : Place) (s : Bytes) → fair (reading limit p s) ≡ true
reading-fair limit p s = fair-of (length s) (reading limit p s) (reading-within limit p s)
