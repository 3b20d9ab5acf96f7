-- How many records a reading may take does not matter, once it is more than there are bytes. Assumes nothing.
use Rattle.std.specs.Prelude.{Err}
use mathlib.Core.Path.{◌≡◌, refl, ap₂}
use mathlib.Core.Bool.{Bool, true, false, not, cond}
use Prim.Native.Nat.{ℕ, zero, suc, ◌+◌, ◌<◌}
use native.Mathlib.Omega.{arith}
use lib.ListN.{length}
use lib.Dec.{ltb}
use Rattle.answers.specs.declared.Refusal.TheVariants.{ShortRecord, WrongKind, TooDeep, NoName}
use Rattle.answers.specs.Answers.{Verdict}
use Rattle.wire.specs.Numbers.{Bytes}
use Rattle.records.specs.Record.{length_of, kind_of, content_of, rest_of}
use Rattle.records.specs.Kinds.{stands, Content, content_at}
use Rattle.records.specs.Reading.{Next, done, left_over, record-at, next, short, nameless, and_then, step, read}
use Rattle.records.proofs.Tree.{rest-length}

-- a step asks for the content and for what follows only where the record is all there
pub step_same : (x : Next) (limit depth at : ℕ) (s : Bytes) (content content' rest rest' : Content → Verdict)
    → (short s ≡ false → (c : Content) → content c ≡ content' c) → (short s ≡ false → (c : Content) → rest c ≡ rest' c)
    → step x limit depth at s content rest ≡ step x limit depth at s content' rest'
step_same done limit depth at s content content' rest rest' f g = refl
step_same left_over limit depth at s content content' rest rest' f g = refl
step_same (record-at p more) limit depth at s content content' rest rest' f g = go (short s) f g
  where
    further : Verdict → Verdict
    further v =
        cond (not (stands p (kind_of s))) (Err (WrongKind at))
        (cond (ltb limit depth) (Err (TooDeep at))
        (cond (nameless p (kind_of s) (content_of s)) (Err (NoName at)) v))

    go : (b : Bool) → (b ≡ false → (c : Content) → content c ≡ content' c) → (b ≡ false → (c : Content) → rest c ≡ rest' c)
        → cond b (Err (ShortRecord at)) (further (and_then (content (content_at p (kind_of s))) (rest more)))
        ≡ cond b (Err (ShortRecord at)) (further (and_then (content' (content_at p (kind_of s))) (rest' more)))
    go true f g = refl
    go false f g = ap₂ (λ (v w : Verdict). further (and_then v w)) (f refl (content_at p (kind_of s))) (g refl more)

-- two readings of the same bytes with more to spare than there are bytes are the same
pub read_same : (limit n m : ℕ) (c : Content) (depth at : ℕ) (s : Bytes) → length s < n → length s < m → read limit n c depth at s ≡ read limit m c depth at s
unfolding read
read_same limit zero m c depth at s h k = absurd (omega arith)
read_same limit (suc n) zero c depth at s h k = absurd (omega arith)
read_same limit (suc n) (suc m) c depth at s h k =
    step_same (next c s) limit depth at s _ _ _ _
    (λ l inner. let e = rest-length s l in read_same limit n m inner (depth + 1) (at + 6) (content_of s) (omega arith) (omega arith))
    (λ l more. let e = rest-length s l in read_same limit n m more depth (at + (4 + length_of s)) (rest_of s) (omega arith) (omega arith))
