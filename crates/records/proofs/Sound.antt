-- The tree of what reads sound. Assumes nothing.
use Rattle.std.specs.Prelude.{Ok}
use mathlib.Core.Path.{◌≡◌, refl, sym, ap, ◌∙◌}
use mathlib.Core.List.{[], ◌∷◌, ◌++◌, append-nil}
use mathlib.Core.Bool.{Bool, true, false, cond}
use Prim.Native.Nat.{ℕ, zero, suc, ◌+◌, ◌^◌, ◌<◌, ◌≤◌}
use native.Mathlib.Omega.{arith}
use lib.ListN.{length}
use Rattle.wire.specs.Numbers.{Bytes, AreBytes}
use Rattle.records.specs.Record.{Record, Records, leaf, node, nil, ◌▸◌, is_leaf, encode, encode_all, length_of, kind_of, content_of}
use Rattle.records.specs.Record.{rest_of, parse, nth, tree, deep, deep_all}
use Rattle.records.specs.Kinds.{Place, stands, Content, bytes, these, any, at_most_one, content_at}
use Rattle.records.specs.Reading.{Next, done, left_over, record-at, next, short, nameless, read, reading}
use Rattle.records.proofs.Fits.{Stands, StandsAll, Fits, FitsAll}
use Rattle.records.specs.Canonical.{Canonical, CanonicalAll}
use Rattle.records.proofs.Tree.{long-enough, content-length, rest-length, content-bytes, rest-bytes, kind-small, length-small}
use Rattle.records.proofs.Tree.{record-split, parse-step, parse-nil}
use Rattle.records.proofs.Step.{of_bytes-true, content-leaf, next-done, next_more, Next-sound, read-stepped, read-left_over}
use Rattle.records.specs.Kinds.{of_bytes}

-- no records fit where nothing comes next
pub done-fits : (c : Content) (s : Bytes) → of_bytes c ≡ false → next c s ≡ done → FitsAll nil c
unfolding StandsAll
done-fits bytes s r h = absurd (let z : ◌≡◌ {A = ℕ} 0 1 = cc in omega arith)
done-fits (these []) s r h = tt
done-fits (these (p ∷ ps)) s r h = absurd (let z : ◌≡◌ {A = ℕ} 0 1 = cc in omega arith)
done-fits (any p) s r h = tt
done-fits (at_most_one p) s r h = tt

-- the record that comes next and those that follow it fit
pub next_fits : (c : Content) (s : Bytes) (p : Place) (more : Content) (r : Record) (d : Records) → next c s ≡ record-at p more → Fits r p
    → FitsAll d more → FitsAll (r ▸ d) c
unfolding StandsAll
next_fits bytes s p more r d e f g = absurd (let z : ◌≡◌ {A = ℕ} 0 1 = cc in omega arith)
next_fits (these []) [] p more r d e f g = absurd (let z : ◌≡◌ {A = ℕ} 0 1 = cc in omega arith)
next_fits (these []) (b ∷ s) p more r d e f g = absurd (let z : ◌≡◌ {A = ℕ} 0 1 = cc in omega arith)
next_fits (these (q ∷ qs)) s p more r d e f g = let a : p ≡ q = cc in let b : more ≡ these qs = cc in (rw a at f, rw b at g)
next_fits (any q) [] p more r d e f g = absurd (let z : ◌≡◌ {A = ℕ} 0 1 = cc in omega arith)
next_fits (any q) (b ∷ s) p more r d e f g = let a : p ≡ q = cc in let b : more ≡ any q = cc in (rw a at f, rw b at g)
next_fits (at_most_one q) [] p more r d e f g = absurd (let z : ◌≡◌ {A = ℕ} 0 1 = cc in omega arith)
next_fits (at_most_one q) (b ∷ s) p more r d e f g = let a : p ≡ q = cc in let b : more ≡ these [] = cc in (rw a at f, rw b at g)

-- the records that bytes are, at a content and a depth, at most limit deep
pub record Are (limit depth : ℕ) (c : Content) (s : Bytes) (d : Records) : Type 0 where
  pub encoded : encode_all d ≡ s
  pub fits : FitsAll d c
  pub canonical : CanonicalAll d
  pub shallow : depth + deep_all d ≤ limit + 1

-- the record that bytes begin with, at a place and a depth, at most limit deep
pub record Is (limit depth : ℕ) (p : Place) (s : Bytes) (r : Record) : Type 0 where
  pub encoded : encode r ++ rest_of s ≡ s
  pub fits : Fits r p
  pub canonical : Canonical r
  pub shallow : depth + deep r ≤ limit + 1

-- the record at the front, by what its content is
is-first : (limit depth m : ℕ) (p : Place) (s : Bytes) → AreBytes s → short s ≡ false → stands p (kind_of s) ≡ true → depth ≤ limit
    → nameless p (kind_of s) (content_of s) ≡ false
    → (of_bytes (content_at p (kind_of s)) ≡ false → Are limit (depth + 1) (content_at p (kind_of s)) (content_of s) (parse m (content_of s)))
    → Is limit depth p s (cond (is_leaf (kind_of s)) (leaf (kind_of s) (content_of s)) (node (kind_of s) (parse m (content_of s))))
unfolding encode Stands Canonical deep
is-first limit depth m p s h l st sh nm inner = go (is_leaf (kind_of s)) refl
  where
    bounded : 2 + length (content_of s) < 2 ^ 32
    bounded = let a = content-length s l in let b = length-small s h in omega arith

    go : (b : Bool) → is_leaf (kind_of s) ≡ b → Is limit depth p s (cond b (leaf (kind_of s) (content_of s)) (node (kind_of s) (parse m (content_of s))))
    go true e = record {
      encoded = sym (record-split s l h);
      fits = (st, of_bytes-true (content_at p (kind_of s)) (content-leaf p (kind_of s) st ∙ e), nm);
      canonical = (e, kind-small s h, bounded);
      shallow = omega arith;
    }
    go false e =
        let i = inner (content-leaf p (kind_of s) st ∙ e) in
        record {
          encoded = rw i.encoded (sym (record-split s l h));
          fits = (st, i.fits);
          canonical = (e, kind-small s h, rw i.encoded bounded, i.canonical);
          shallow = let j = i.shallow in omega arith;
        }

-- a record that comes next, and those that follow it
are-next : (limit depth : ℕ) (c : Content) (s : Bytes) (p : Place) (more : Content) (r : Record) (d : Records) → next c s ≡ record-at p more
    → Is limit depth p s r
    → Are limit depth more (rest_of s) d → Are limit depth c s (r ▸ d)
unfolding encode Canonical deep
are-next limit depth c s p more r d e f g = record {
  encoded = rw g.encoded f.encoded;
  fits = next_fits c s p more r d e f.fits g.fits;
  canonical = (f.canonical, g.canonical);
  shallow = let a = f.shallow in let b = g.shallow in omega arith;
}

-- no records
are-none : (limit depth : ℕ) (c : Content) (s : Bytes) → of_bytes c ≡ false → depth ≤ limit + 1 → next c s ≡ done → Are limit depth c s nil
unfolding encode Canonical deep
are-none limit depth c s r d e = record { encoded = sym (next-done c s r e); fits = done-fits c s r e; canonical = tt; shallow = omega arith }

-- what is to be shown of a reading with n to spare
abbrev Law : (limit n : ℕ) → Type 0
Law limit n = (m : ℕ) (c : Content) (depth at : ℕ) (s : Bytes) → AreBytes s → length s < n → length s ≤ m → of_bytes c ≡ false → depth ≤ limit + 1
    → read limit n c depth at s ≡ Ok tt → Are limit depth c s (parse m s)

read-record : (limit n : ℕ) → Law limit n → (m : ℕ) (c : Content) (depth at : ℕ) (s : Bytes) (p : Place) (more : Content) → AreBytes s
    → length s < suc n → length s ≤ m
    → next c s ≡ record-at p more → Next-sound limit n depth at s p more → Are limit depth c s (parse m s)
read-record limit n law zero c depth at s p more h l k q e = let a = long-enough s e.long in absurd (omega arith)
read-record limit n law (suc m) c depth at s p more h l k q e =
    let a = long-enough s e.long in
    let b = rest-length s e.long in
    rw (parse-step m s (omega arith))
    (are-next limit depth c s p more _ (parse m (rest_of s)) q
    (is-first limit depth m p s h e.long e.standing e.shallow e.named
    (λ r. law m (content_at p (kind_of s)) (depth + 1) (at + 6) (content_of s) (content-bytes s h) (omega arith) (omega arith) r (omega arith) e.content-sound))
    (law m more depth (at + (4 + length_of s)) (rest_of s) (rest-bytes s h) (omega arith) (omega arith) (next_more c s p more q) (omega arith) e.rest-sound))

read_next : (limit n : ℕ) → Law limit n → (m : ℕ) (c : Content) (depth at : ℕ) (s : Bytes) → AreBytes s → length s < suc n → length s ≤ m
    → of_bytes c ≡ false → depth ≤ limit + 1
    → (x : Next) → next c s ≡ x → read limit (suc n) c depth at s ≡ Ok tt → Are limit depth c s (parse m s)
read_next limit n law m c depth at s h l k r d done q e = rw (ap (parse m) (next-done c s r q) ∙ parse-nil m) (are-none limit depth c s r d q)
read_next limit n law m c depth at s h l k r d left_over q e = absurd (read-left_over limit n c depth at s q e)
read_next limit n law m c depth at s h l k r d (record-at p more) q e =
    read-record limit n law m c depth at s p more h l k q (read-stepped limit n depth at s c p more q e)

-- what reads sound is the bytes of the records that parse finds in it, and they fit, are canonical and at most limit deep
pub read-are : (limit n m : ℕ) (c : Content) (depth at : ℕ) (s : Bytes) → AreBytes s → length s < n → length s ≤ m → of_bytes c ≡ false → depth ≤ limit + 1
    → read limit n c depth at s ≡ Ok tt → Are limit depth c s (parse m s)
read-are limit zero m c depth at s h l k r d e = absurd (omega arith)
read-are limit (suc n) m c depth at s h l k r d e = read_next limit n (read-are limit n) m c depth at s h l k r d (next c s) refl e

-- bytes are those of one record that fits a place, is canonical and at most limit deep
pub record ReadsAs (limit : ℕ) (p : Place) (s : Bytes) (r : Record) : Type 0 where
  pub encoded : encode r ≡ s
  pub fits : Fits r p
  pub canonical : Canonical r
  pub shallow : deep r ≤ limit

are-one : (limit : ℕ) (p : Place) (s : Bytes) (d : Records) → Are limit 1 (these (p ∷ [])) s d → ReadsAs limit p s (nth 0 d)
unfolding StandsAll nth encode Canonical deep
are-one limit p s nil a = absurd a.fits
are-one limit p s (r ▸ nil) a =
    record {
      encoded = sym (append-nil (encode r)) ∙ a.encoded;
      fits = a.fits.0;
      canonical = a.canonical.0;
      shallow = let b = a.shallow in omega arith;
    }
are-one limit p s (r ▸ (q ▸ d)) a = absurd a.fits.1

-- bytes that read sound at a place are those of their tree
pub sound-reads : (limit : ℕ) (p : Place) (s : Bytes) → AreBytes s → reading limit p s ≡ Ok tt → ReadsAs limit p s (tree s)
unfolding reading tree
sound-reads limit p s h e =
    are-one limit p s (parse (length s) s)
    (read-are limit (suc (length s)) (length s) (these (p ∷ [])) 1 0 s h (omega arith) (omega arith) refl (omega arith) e)
