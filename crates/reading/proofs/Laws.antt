-- The laws by which reading goes record by record, with the depth that is left. Assumes nothing.
use Rattle.std.specs.Prelude.{Ok, Err}
use mathlib.Core.Path.{◌≡◌, refl, ap, ap₂, ◌∙◌}
use mathlib.Core.List.{List, [], ◌∷◌}
use mathlib.Core.Bool.{Bool, true, false, not, cond}
use Prim.Native.Nat.{ℕ, zero, suc, ◌+◌, ◌<◌}
use native.Mathlib.Omega.{arith}
use mathlib.Core.Option.{none, some}
use lib.ListN.{length, drop}
use lib.Dec.{leb-suc-suc}
use borrow.Author.Tests.{le-ltb}
use Rattle.answers.specs.declared.Refusal.{Refusal}
use Rattle.answers.specs.declared.Refusal.TheVariants.{ShortRecord, WrongKind, TooDeep, LeftOver, NoName}
use Rattle.answers.specs.Answers.{Verdict}
use Rattle.wire.specs.Numbers.{Bytes}
use Rattle.records.specs.Record.{length_of, kind_of, content_of, rest_of}
use Rattle.records.specs.Kinds.{Place, stands, Content, bytes, these, any, at_most_one, content_at}
use Rattle.records.specs.Reading.{Next, done, left_over, record-at, next, short, nameless, and_then, step, read, reading}
use Rattle.records.proofs.Tree.{rest-length}
use Rattle.records.specs.Kinds.{of_bytes}
use Rattle.records.proofs.Fuel.{step_same, read_same}
use Rattle.reading.specs.Reads.{reads, reads_record, after, first_of, place_in}

-- one less deep and one less allowed is the same
shifted : (x : Next) (limit depth at : ℕ) (s : Bytes) (content rest : Content → Verdict)
    → step x (suc limit) (suc depth) at s content rest ≡ step x limit depth at s content rest
shifted done limit depth at s content rest = refl
shifted left_over limit depth at s content rest = refl
shifted (record-at p more) limit depth at s content rest = rw (leb-suc-suc (suc limit) depth)

pub read-shift : (limit n : ℕ) (c : Content) (depth at : ℕ) (s : Bytes) → read (suc limit) n c (suc depth) at s ≡ read limit n c depth at s
unfolding read
read-shift limit zero c depth at s = refl
read-shift limit (suc n) c depth at s =
    shifted (next c s) limit depth at s _ _
    ∙ step_same (next c s) limit depth at s _ _ _ _
    (λ l inner.
    ap (λ d. read (suc limit) n inner d (at + 6) (content_of s)) (let e : suc depth + 1 ≡ suc (depth + 1) = omega arith in e)
    ∙ read-shift limit n inner (depth + 1) (at + 6) (content_of s))
    (λ l more. read-shift limit n more depth (at + (4 + length_of s)) (rest_of s))

-- reading with one more than there are bytes, or with more
pub reads-enough : (left n : ℕ) (c : Content) (at : ℕ) (s : Bytes) → length s < n → read left n c 1 at s ≡ reads left c at s
unfolding reads
reads-enough left n c at s h = read_same left n (suc (length s)) c 1 at s h (omega arith)

refused : (a b : Bool) (x y z : Refusal) (v : Verdict)
    → cond a (Err x) (cond b (Err y) (Err z)) ≡ and_then (cond a (Err x) (cond b (Err y) (Err z))) v
refused true b x y z v = refl
refused false true x y z v = refl
refused false false x y z v = refl

passed : (a b c : Bool) (x y z : Refusal) (v w v' w' : Verdict) → (a ≡ false → v ≡ v') → (a ≡ false → w ≡ w')
    → cond a (Err x) (cond b (Err y) (cond c (Err z) (and_then v w)))
    ≡ and_then (cond a (Err x) (cond b (Err y) (cond c (Err z) v'))) w'
passed true b c x y z v w v' w' f g = refl
passed false true c x y z v w v' w' f g = refl
passed false false true x y z v w v' w' f g = refl
passed false false false x y z v w v' w' f g = ap₂ and_then (f refl) (g refl)

-- a record, and then what follows it
at-record : (left : ℕ) (at : ℕ) (s : Bytes) (p : Place) (more : Content) →
    step (record-at p more) left 1 at s (λ inner. read left (length s) inner 2 (at + 6) (content_of s))
    (λ more. read left (length s) more 1 (at + (4 + length_of s)) (rest_of s))
    ≡ and_then (reads_record left p at s) (reads left more (at + (4 + length_of s)) (rest_of s))
unfolding reads_record
at-record zero at s p more =
    refused (short s) (not (stands p (kind_of s))) (ShortRecord at) (WrongKind at) (TooDeep at) (reads 0 more (at + (4 + length_of s)) (rest_of s))
at-record (suc left) at s p more =
    rw (le-ltb (suc left) 1 (omega arith))
    (passed (short s) (not (stands p (kind_of s))) (nameless p (kind_of s) (content_of s)) (ShortRecord at) (WrongKind at) (NoName at) _ _ _ _
    (λ l.
    let e = rest-length s l in
    read-shift left (length s) (content_at p (kind_of s)) 1 (at + 6) (content_of s)
    ∙ reads-enough left (length s) (content_at p (kind_of s)) (at + 6) (content_of s) (omega arith))
    (λ l. let e = rest-length s l in reads-enough (suc left) (length s) more (at + (4 + length_of s)) (rest_of s) (omega arith)))

pub reads-record : (left : ℕ) (c : Content) (at : ℕ) (s : Bytes) (p : Place) (more : Content) → next c s ≡ record-at p more →
    reads left c at s ≡ and_then (reads_record left p at s) (reads left more (at + (4 + length_of s)) (rest_of s))
unfolding reads read
reads-record left c at s p more e = rw e (at-record left at s p more)

-- nothing more, and bytes that should not be there
pub reads-done : (left : ℕ) (c : Content) (at : ℕ) (s : Bytes) → next c s ≡ done → reads left c at s ≡ Ok tt
unfolding reads read
reads-done left c at s e = rw e

pub reads-left_over : (left : ℕ) (c : Content) (at : ℕ) (s : Bytes) → next c s ≡ left_over → reads left c at s ≡ Err (LeftOver at)
unfolding reads read
reads-left_over left c at s e = rw e

-- a record of no bytes is short
pub reads_none : (left : ℕ) (c : Content) (at : ℕ) (p : Place) (more : Content) → next c [] ≡ record-at p more → reads left c at [] ≡ Err (ShortRecord at)
unfolding reads_record
reads_none left c at p more e = reads-record left c at [] p more e ∙ go left
  where
    go : (left : ℕ) → and_then (reads_record left p at []) (reads left more (at + (4 + length_of [])) (rest_of [])) ≡ Err (ShortRecord at)
    go zero = refl
    go (suc left) = refl

-- what comes after j records
drop-none : (ps : List Place) (j : ℕ) → first_of (drop j ps) ≡ none → drop j ps ≡ []
drop-none [] zero h = refl
drop-none [] (suc j) h = refl
drop-none (p ∷ ps) zero h = absurd (let z : ◌≡◌ {A = ℕ} 0 1 = cc in omega arith)
drop-none (p ∷ ps) (suc j) h = drop-none ps j h

drop-some : (ps : List Place) (j : ℕ) (q : Place) → first_of (drop j ps) ≡ some q → drop j ps ≡ q ∷ drop (suc j) ps
drop-some [] zero q h = absurd (let z : ◌≡◌ {A = ℕ} 0 1 = cc in omega arith)
drop-some [] (suc j) q h = absurd (let z : ◌≡◌ {A = ℕ} 0 1 = cc in omega arith)
drop-some (p ∷ ps) zero q h = let e : p ≡ q = cc in ap (λ (x : Place). x ∷ ps) e
drop-some (p ∷ ps) (suc j) q h = drop-some ps j q h

pub next-left : (c : Content) (j : ℕ) (s : Bytes) → of_bytes c ≡ false → 0 < length s → place_in c j ≡ none → next (after c j) s ≡ left_over
next-left c j [] o h e = absurd (omega arith)
next-left bytes j (b ∷ t) o h e = absurd (let z : ◌≡◌ {A = ℕ} 0 1 = cc in omega arith)
next-left (these ps) j (b ∷ t) o h e = rw (drop-none ps j e)
next-left (any p) j (b ∷ t) o h e = absurd (let z : ◌≡◌ {A = ℕ} 0 1 = cc in omega arith)
next-left (at_most_one p) zero (b ∷ t) o h e = absurd (let z : ◌≡◌ {A = ℕ} 0 1 = cc in omega arith)
next-left (at_most_one p) (suc j) (b ∷ t) o h e = refl

pub next_more : (c : Content) (j : ℕ) (s : Bytes) (q : Place) → 0 < length s → place_in c j ≡ some q → next (after c j) s ≡ record-at q (after c (suc j))
next_more c j [] q h e = absurd (omega arith)
next_more bytes j (b ∷ t) q h e = absurd (let z : ◌≡◌ {A = ℕ} 0 1 = cc in omega arith)
next_more (these ps) j (b ∷ t) q h e = rw (drop-some ps j q e)
next_more (any p) j (b ∷ t) q h e = let g : p ≡ q = cc in ap (λ (x : Place). record-at x (any p)) g
next_more (at_most_one p) zero (b ∷ t) q h e = let g : p ≡ q = cc in ap (λ (x : Place). record-at x (these [])) g
next_more (at_most_one p) (suc j) (b ∷ t) q h e = absurd (let z : ◌≡◌ {A = ℕ} 0 1 = cc in omega arith)

-- the whole of a card's or a root's bytes: one record at a place, and nothing after it
pub reading-is : (limit : ℕ) (p : Place) (s : Bytes) → reading limit p s ≡ reads limit (these (p ∷ [])) 0 s
unfolding reading reads
reading-is limit p s = refl
