-- What a step of reading says, field by field, and what comes next in a content. Assumes nothing.
use Rattle.std.specs.Prelude.{Ok, Err}
use mathlib.Core.Path.{◌≡◌, refl, ap}
use mathlib.Core.List.{[], ◌∷◌}
use mathlib.Core.Bool.{Bool, true, false, not, cond}
use Prim.Native.Nat.{ℕ, zero, suc, ◌+◌, ◌≤◌}
use native.Mathlib.Omega.{arith}
use lib.Dec.{ltb}
use borrow.Author.Tests.{ltb-false, le-ltb, eqb-true}
use Rattle.answers.specs.declared.Refusal.{Refusal}
use Rattle.answers.specs.declared.Refusal.TheVariants.{ShortRecord, WrongKind, TooDeep, NoName}
use Rattle.answers.specs.Answers.{Verdict}
use Rattle.wire.specs.Numbers.{Bytes}
use Rattle.records.specs.Record.{is_leaf, length_of, kind_of, content_of, rest_of}
use Rattle.records.specs.Kinds.{Place, kinds, name, seq, option, stands, Content, bytes, these, any, at_most_one, of_bytes, content_at, row_of}
use Rattle.records.specs.Reading.{done, left_over, record-at, next, short, nameless, and_then, step, read}

-- two verdicts one after the other are sound if both are
pub and_then-sound : (v w : Verdict) → and_then v w ≡ Ok tt → (v ≡ Ok tt) × (w ≡ Ok tt)
and_then-sound (Ok _) w h = (refl, h)
and_then-sound (Err a) w h = (h, cc)

-- what a sound step at a record says: the record is all there, stands at its place, is not too deep and is not without a name, and its content and what
-- follows it are sound
pub record Stepped (p : Place) (more : Content) (limit depth : ℕ) (s : Bytes) (content rest : Content → Verdict) : Type 0 where
  pub long : short s ≡ false
  pub standing : stands p (kind_of s) ≡ true
  pub shallow : depth ≤ limit
  pub named : nameless p (kind_of s) (content_of s) ≡ false
  pub content-sound : content (content_at p (kind_of s)) ≡ Ok tt
  pub rest-sound : rest more ≡ Ok tt

passed : (a b c d : Bool) (x y z w : Refusal) (v : Verdict)
    → cond a (Err x) (cond (not b) (Err y) (cond c (Err z) (cond d (Err w) v))) ≡ Ok tt
    → (a ≡ false) × (b ≡ true) × (c ≡ false) × (d ≡ false) × (v ≡ Ok tt)
passed true b c d x y z w v h = (cc, cc, cc, cc, cc)
passed false false c d x y z w v h = (refl, cc, cc, cc, cc)
passed false true true d x y z w v h = (refl, refl, cc, cc, cc)
passed false true false true x y z w v h = (refl, refl, refl, cc, cc)
passed false true false false x y z w v h = (refl, refl, refl, refl, h)

-- a sound step at a record says all that
pub step-stepped : (p : Place) (more : Content) (limit depth at : ℕ) (s : Bytes) (content rest : Content → Verdict)
    → step (record-at p more) limit depth at s content rest ≡ Ok tt → Stepped p more limit depth s content rest
step-stepped p more limit depth at s content rest h =
    let g = passed (short s) (stands p (kind_of s)) (ltb limit depth) (nameless p (kind_of s) (content_of s)) (ShortRecord at) (WrongKind at) (TooDeep at) (NoName at)
    (and_then (content (content_at p (kind_of s))) (rest more)) h in
    let v = and_then-sound (content (content_at p (kind_of s))) (rest more) g.4 in
    record { long = g.0; standing = g.1; shallow = ltb-false limit depth g.2; named = g.3; content-sound = v.0; rest-sound = v.1 }

-- and what says all that is a sound step
pub stepped-step : (p : Place) (more : Content) (limit depth at : ℕ) (s : Bytes) (content rest : Content → Verdict)
    → Stepped p more limit depth s content rest → step (record-at p more) limit depth at s content rest ≡ Ok tt
stepped-step p more limit depth at s content rest h = rw (h.long, h.standing, le-ltb limit depth h.shallow, h.named, h.content-sound, h.rest-sound)

-- bytes that are left over are not sound
pub step-left_over : (limit depth at : ℕ) (s : Bytes) (content rest : Content → Verdict) → step left_over limit depth at s content rest ≡ Ok tt → ⊥
step-left_over limit depth at s content rest h = let z : ◌≡◌ {A = ℕ} 0 1 = cc in omega arith

-- a content that is bytes
pub of_bytes-true : (c : Content) → of_bytes c ≡ true → c ≡ bytes
of_bytes-true bytes h = refl
of_bytes-true (these ps) h = cc
of_bytes-true (any p) h = cc
of_bytes-true (at_most_one p) h = cc

-- what stands at a place holds bytes exactly if its kind is a leaf's
pub content-leaf : (p : Place) (k : ℕ) → stands p k ≡ true → of_bytes (content_at p k) ≡ is_leaf k
unfolding content_at
content-leaf (kinds from to) k h = go (is_leaf k)
  where
    go : (b : Bool) → of_bytes (cond b bytes (these (row_of k))) ≡ b
    go true = refl
    go false = refl
content-leaf name k h = rw (eqb-true k 1 h)
content-leaf (seq p) k h = rw (eqb-true k 2 h)
content-leaf (option p) k h = rw (eqb-true k 2 h)

-- where nothing comes next in a content of records, no bytes are left
pub next-done : (c : Content) (s : Bytes) → of_bytes c ≡ false → next c s ≡ done → s ≡ []
next-done bytes s r h = cc
next-done (these []) [] r h = refl
next-done (these []) (b ∷ s) r h = cc
next-done (these (p ∷ ps)) s r h = cc
next-done (any p) [] r h = refl
next-done (any p) (b ∷ s) r h = cc
next-done (at_most_one p) [] r h = refl
next-done (at_most_one p) (b ∷ s) r h = cc

-- what follows a record is a content of records
pub next_more : (c : Content) (s : Bytes) (p : Place) (more : Content) → next c s ≡ record-at p more → of_bytes more ≡ false
next_more bytes s p more h = cc
next_more (these []) [] p more h = cc
next_more (these []) (b ∷ s) p more h = cc
next_more (these (q ∷ qs)) s p more h = let e : more ≡ these qs = cc in ap of_bytes e
next_more (any q) [] p more h = cc
next_more (any q) (b ∷ s) p more h = let e : more ≡ any q = cc in ap of_bytes e
next_more (at_most_one q) [] p more h = cc
next_more (at_most_one q) (b ∷ s) p more h = let e : more ≡ these [] = cc in ap of_bytes e

-- a content of bytes reads sound
pub read-bytes : (limit n depth at : ℕ) (s : Bytes) → read limit n bytes depth at s ≡ Ok tt
unfolding read
read-bytes limit zero depth at s = refl
read-bytes limit (suc n) depth at s = refl

-- where nothing comes next, a content reads sound
pub read_done : (limit n : ℕ) (c : Content) (depth at : ℕ) (s : Bytes) → next c s ≡ done → read limit n c depth at s ≡ Ok tt
unfolding read
read_done limit zero c depth at s e = refl
read_done limit (suc n) c depth at s e = rw e

-- what is left over does not read sound
pub read-left_over : (limit n : ℕ) (c : Content) (depth at : ℕ) (s : Bytes) → next c s ≡ left_over → read limit (suc n) c depth at s ≡ Ok tt → ⊥
unfolding read
read-left_over limit n c depth at s e h = let g = rw e at h in let z : ◌≡◌ {A = ℕ} 0 1 = cc in omega arith

-- what a sound reading says of the record that comes next: its content and what follows it read sound
abbrev pub Next-sound : (limit n depth at : ℕ) → Bytes → Place → Content → Type 0
Next-sound limit n depth at s p more =
    Stepped p more limit depth s (λ inner. read limit n inner (depth + 1) (at + 6) (content_of s))
    (λ rest. read limit n rest depth (at + (4 + length_of s)) (rest_of s))

module _ (limit n depth at : ℕ) (s : Bytes) (c : Content) (p : Place) (more : Content) (e : next c s ≡ record-at p more) where
  -- a sound reading says so of the record that comes next
  pub read-stepped : read limit (suc n) c depth at s ≡ Ok tt → Next-sound limit n depth at s p more
  unfolding read
  read-stepped h = step-stepped p more limit depth at s _ _ (rw e at h)

  -- and where it is so of the record that comes next, the reading is sound
  pub stepped-read : Next-sound limit n depth at s p more → read limit (suc n) c depth at s ≡ Ok tt
  unfolding read
  stepped-read h = rw e (stepped-step p more limit depth at s _ _ h)
