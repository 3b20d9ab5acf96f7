-- A tree that fits a place reads sound there. Assumes nothing.
use Rattle.std.specs.Prelude.{Ok}
use mathlib.Core.Path.{◌≡◌, refl, sym, ap, ◌∙◌, subst}
use mathlib.Core.List.{[], ◌∷◌, ◌++◌, append-nil}
use mathlib.Core.Bool.{true, false}
use Prim.Native.Nat.{ℕ, zero, suc, ◌+◌, ◌^◌, ◌<◌, ◌≤◌}
use native.Mathlib.Omega.{arith}
use lib.ListN.{length, length-append}
use Rattle.wire.specs.Numbers.{Bytes}
use Rattle.records.specs.Record.{Record, Records, leaf, node, nil, ◌▸◌, record_bytes, encode, encode_all, length_of, tree, deep, deep_all}
use Rattle.records.specs.Kinds.{Place, stands, Content, bytes, these, any, at_most_one, content_at}
use Rattle.records.specs.Reading.{done, record-at, next, nameless, read, reading}
use Rattle.records.proofs.Fits.{Stands, StandsAll, Fits, FitsAll}
use Rattle.records.specs.Canonical.{Canonical, CanonicalAll}
use Rattle.records.proofs.Tree.{record-length, front-kind, front-content, front_rest, front-short, tree-encode}
use Rattle.records.proofs.Step.{read-bytes, read_done, Next-sound, stepped-read}
use Rattle.records.proofs.Sound.{ReadsAs}
use Rattle.records.proofs.Leaves.{node-named}

-- where no records fit, nothing comes next in no bytes
pub fits-done : (c : Content) → FitsAll nil c → next c [] ≡ done
unfolding StandsAll
fits-done bytes f = absurd f
fits-done (these []) f = refl
fits-done (these (p ∷ ps)) f = absurd f
fits-done (any p) f = refl
fits-done (at_most_one p) f = refl

-- a record comes next in a content, at a place that it fits, and the others fit what follows it
pub record Comes (c : Content) (s : Bytes) (r : Record) (d : Records) : Type 0 where
  pub place : Place
  pub more : Content
  pub is : next c s ≡ record-at place more
  pub fits : Fits r place
  pub others : FitsAll d more

-- where records fit, the first comes next and the others follow it
pub fits_next : (c : Content) (s : Bytes) (r : Record) (d : Records) → 0 < length s → FitsAll (r ▸ d) c → Comes c s r d
unfolding StandsAll
fits_next bytes s r d l f = absurd f
fits_next (these []) s r d l f = absurd f
fits_next (these (p ∷ ps)) s r d l f = record { place = p; more = these ps; is = refl; fits = f.0; others = f.1 }
fits_next (any p) [] r d l f = absurd (omega arith)
fits_next (any p) (b ∷ s) r d l f = record { place = p; more = any p; is = refl; fits = f.0; others = f.1 }
fits_next (at_most_one p) [] r d l f = absurd (omega arith)
fits_next (at_most_one p) (b ∷ s) r d l f = record { place = p; more = these []; is = refl; fits = f.0; others = f.1 }

-- a record's bytes whose content reads sound and which what reads sound follows
pub front-sound : (limit n depth at k : ℕ) (content rest : Bytes) (p : Place) (more : Content) → k < 65536 → 2 + length content < 2 ^ 32
    → stands p k ≡ true → depth ≤ limit → nameless p k content ≡ false
    → ((at : ℕ) → read limit n (content_at p k) (depth + 1) at content ≡ Ok tt) → ((at : ℕ) → read limit n more depth at rest ≡ Ok tt)
    → Next-sound limit n depth at (record_bytes k content ++ rest) p more
front-sound limit n depth at k content rest p more small bounded st sh nm inner after = record {
  long = front-short k content rest small bounded;
  standing = rw (front-kind k content rest small bounded) st;
  shallow = sh;
  named = rw (front-kind k content rest small bounded, front-content k content rest small bounded) nm;
  content-sound = rw (front-kind k content rest small bounded, front-content k content rest small bounded) (inner (at + 6));
  rest-sound = rw (front_rest k content rest small bounded) (after (at + (4 + length_of (record_bytes k content ++ rest))));
}

-- a reading with nothing to spare
pub read-zero : (limit : ℕ) (c : Content) (depth at : ℕ) (s : Bytes) → read limit zero c depth at s ≡ Ok tt
unfolding read
read-zero limit c depth at s = refl

some_bytes : (k : ℕ) (content rest : Bytes) → 0 < length (record_bytes k content ++ rest)
some_bytes k content rest = let a = length-append (record_bytes k content) rest in let b = record-length k content in omega arith

-- records that fit a content, are canonical and at most limit deep read sound
pub fits_read : (limit n : ℕ) (c : Content) (depth at : ℕ) (d : Records) → FitsAll d c → CanonicalAll d → depth + deep_all d ≤ limit + 1
    → read limit n c depth at (encode_all d) ≡ Ok tt
unfolding encode Stands Canonical deep
fits_read limit zero c depth at d f g h = read-zero limit c depth at (encode_all d)
fits_read limit (suc n) c depth at nil f g h = read_done limit (suc n) c depth at [] (fits-done c f)
fits_read limit (suc n) c depth at (leaf k b ▸ d) f g h =
    let s = record_bytes k b ++ encode_all d in
    let x = fits_next c s (leaf k b) d (some_bytes k b (encode_all d)) f in
    stepped-read limit n depth at s c x.place x.more x.is
    (front-sound limit n depth at k b (encode_all d) x.place x.more g.0.1 g.0.2 x.fits.0 (omega arith) x.fits.2
    (λ at. rw x.fits.1 (read-bytes limit n (depth + 1) at b))
    (λ at. fits_read limit n x.more depth at d x.others g.1 (omega arith)))
fits_read limit (suc n) c depth at (node k e ▸ d) f g h =
    let s = record_bytes k (encode_all e) ++ encode_all d in
    let x = fits_next c s (node k e) d (some_bytes k (encode_all e) (encode_all d)) f in
    stepped-read limit n depth at s c x.place x.more x.is
    (front-sound limit n depth at k (encode_all e) (encode_all d) x.place x.more g.0.1 g.0.2 x.fits.0 (omega arith)
    (node-named x.place k e (encode_all e) x.fits.1)
    (λ at. fits_read limit n (content_at x.place k) (depth + 1) at e x.fits.1 g.0.3 (omega arith))
    (λ at. fits_read limit n x.more depth at d x.others g.1 (omega arith)))

-- a record that fits a place, is canonical and at most limit deep reads sound there
pub fits-sound : (limit : ℕ) (p : Place) (r : Record) → Fits r p → Canonical r → deep r ≤ limit → reading limit p (encode r) ≡ Ok tt
unfolding reading encode StandsAll Canonical deep
fits-sound limit p r f g h =
    subst (λ (s : Bytes). read limit (suc (length (encode r))) (these (p ∷ [])) 1 0 s ≡ Ok tt) (append-nil (encode r))
    (fits_read limit (suc (length (encode r))) (these (p ∷ [])) 1 0 (r ▸ nil) (f, tt) (g, tt) (omega arith))

-- bytes that are those of such a record read sound
pub reads-sound : (limit : ℕ) (p : Place) (s : Bytes) (r : Record) → ReadsAs limit p s r → reading limit p s ≡ Ok tt
reads-sound limit p s r x = subst (λ (t : Bytes). reading limit p t ≡ Ok tt) x.encoded (fits-sound limit p r x.fits x.canonical x.shallow)

-- and that record is their tree
pub reads-tree : (limit : ℕ) (p : Place) (s : Bytes) (r : Record) → ReadsAs limit p s r → tree s ≡ r
reads-tree limit p s r x = ap tree (sym x.encoded) ∙ tree-encode r x.canonical
