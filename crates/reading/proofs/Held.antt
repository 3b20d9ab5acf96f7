-- What a sound record says of its bytes. Assumes nothing.
use Rattle.std.specs.Prelude.{Ok, Err}
use mathlib.Core.Path.{◌≡◌, refl, ap, ◌∙◌}
use mathlib.Core.Bool.{Bool, true, false, not, cond, false≢true}
use Prim.Native.Nat.{ℕ, zero, suc, ◌+◌, ◌-◌, ◌<◌}
use native.Mathlib.Omega.{arith}
use lib.ListN.{length}
use Rattle.answers.specs.declared.Refusal.{Refusal}
use Rattle.answers.specs.declared.Refusal.TheVariants.{ShortRecord, WrongKind, TooDeep, NoName}
use Rattle.answers.specs.Answers.{Verdict}
use Rattle.wire.specs.Numbers.{Bytes}
use Rattle.records.specs.Record.{is_leaf, kind_of, content_of, rest_of}
use Rattle.records.specs.Kinds.{Place, stands, of_bytes, content_at}
use Rattle.records.specs.Reading.{short, nameless}
use Rattle.records.proofs.Step.{content-leaf}
use Rattle.records.proofs.Tree.{rest-length}
use Rattle.reading.specs.Reads.{reads, reads_record}

-- a record that is sound, with what its content is
pub record Held (left : ℕ) (p : Place) (at : ℕ) (s : Bytes) : Type 0 where
  pub long : short s ≡ false
  pub standing : stands p (kind_of s) ≡ true
  pub deeper : 0 < left
  pub named : nameless p (kind_of s) (content_of s) ≡ false
  pub content-sound : reads (left - 1) (content_at p (kind_of s)) (at + 6) (content_of s) ≡ Ok tt
  pub leaves : of_bytes (content_at p (kind_of s)) ≡ is_leaf (kind_of s)
  pub inside : length (content_of s) + 6 + length (rest_of s) ≡ length s

refused : (a : Refusal) → ◌≡◌ {A = Verdict} (Err a) (Ok tt) → ⊥
refused a e = false≢true (ap sound e)
  where
    sound : Verdict → Bool
    sound (Ok _) = true
    sound (Err a) = false

tests : (a b : Bool) (x y : Refusal) (v : Verdict) → cond a (Err x) (cond (not b) (Err y) v) ≡ Ok tt → (a ≡ false) × (b ≡ true) × (v ≡ Ok tt)
tests true b x y v h = absurd (refused x h)
tests false false x y v h = absurd (refused y h)
tests false true x y v h = (refl, refl, h)

last : (a : Bool) (x : Refusal) (v : Verdict) → cond a (Err x) v ≡ Ok tt → (a ≡ false) × (v ≡ Ok tt)
last true x v h = absurd (refused x h)
last false x v h = (refl, h)

pub held : (left : ℕ) (p : Place) (at : ℕ) (s : Bytes) → reads_record left p at s ≡ Ok tt → Held left p at s
unfolding reads_record
held zero p at s h = absurd (refused (TooDeep at) (tests (short s) (stands p (kind_of s)) (ShortRecord at) (WrongKind at) (Err (TooDeep at)) h).2)
held (suc left) p at s h =
    let v : Verdict = reads left (content_at p (kind_of s)) (at + 6) (content_of s) in
    let t = tests (short s) (stands p (kind_of s)) (ShortRecord at) (WrongKind at) (cond (nameless p (kind_of s) (content_of s)) (Err (NoName at)) v) h in
    let n = last (nameless p (kind_of s) (content_of s)) (NoName at) v t.2 in
    record {
      long = t.0;
      standing = t.1;
      deeper = omega arith;
      named = n.0;
      content-sound = ap (λ (n : ℕ). reads n (content_at p (kind_of s)) (at + 6) (content_of s)) (let o : suc left - 1 ≡ left = omega arith in o) ∙ n.1;
      leaves = content-leaf p (kind_of s) t.1;
      inside = rest-length s t.0;
    }
