-- What passes the two tests reads sound. Assumes nothing.
use Rattle.std.specs.Prelude.{Ok}
use mathlib.Core.Path.{◌≡◌, refl}
use mathlib.Core.List.{[], ◌∷◌}
use mathlib.Core.Bool.{true}
use Prim.Native.Nat.{ℕ, zero, suc, ◌+◌, ◌-◌, ◌≤◌}
use native.Mathlib.Omega.{arith}
use lib.ListN.{length, drop, length-drop, drop_of_length-le}
use lib.Seq.{take_all}
use lib.Dec.{eqb, leb}
use borrow.Author.Tests.{le-leb, leb-true, eqb-true}
use Rattle.wire.specs.Numbers.{Bytes}
use Rattle.records.specs.Record.{length_of, kind_of, content_of, rest_of}
use Rattle.records.specs.Kinds.{kinds, stands, these, row_of, content_at, mod', path}
use Rattle.records.specs.Reading.{read, reading}
use Rattle.records.proofs.Run.{both, in-run, within, ◌⨾◌}
use Rattle.records.proofs.Tree.{enough-long}
use Rattle.records.proofs.Step.{read-bytes, read_done, stepped-read}
use Rattle.reading.specs.Reads.{root_then}
use Rattle.admission.specs.Plain.{is_plain, is_extern}

-- one record of a kind that stands there, with a content that reads sound, and nothing after it
alone : (limit depth at from to : ℕ) (s : Bytes) → depth ≤ limit → 2 ≤ length_of s → length_of s + 4 ≡ length s → stands (kinds from to) (kind_of s) ≡ true
    → ((n : ℕ) → read limit n (content_at (kinds from to) (kind_of s)) (depth + 1) (at + 6) (drop 6 s) ≡ Ok tt)
    → (n : ℕ) → read limit n (these (kinds from to ∷ [])) depth at s ≡ Ok tt
unfolding read
alone limit depth at from to s shallow two whole standing inner zero = refl
alone limit depth at from to s shallow two whole standing inner (suc n) =
    let l : length (drop 6 s) ≡ length s - 6 = length-drop 6 s in
    let c : content_of s ≡ drop 6 s = take_all (length_of s - 2) (drop 6 s) (omega arith) in
    let r : rest_of s ≡ [] = drop_of_length-le s {i = 4 + length_of s} (omega arith) in
    stepped-read limit n depth at s (these (kinds from to ∷ [])) (kinds from to) (these []) refl
    (record {
      long = enough-long s (record { six = omega arith; two = two; inside = omega arith });
      standing = standing;
      shallow = shallow;
      named = refl;
      content-sound = rw c (inner n);
      rest-sound = rw r (read_done limit n (these []) depth (at + (4 + length_of s)) [] refl);
    })

-- Global, Crate and Self hold nothing
path-holds : (k : ℕ) → stands (kinds 0x10 0x12) k ≡ true → content_at path k ≡ these []
unfolding content_at row_of
path-holds = in-run (λ k. content_at path k ≡ these []) 0x10 2 (refl ⨾ refl ⨾ refl)

plain-sound : (root : Bytes) → is_plain root ≡ true → reading 8 path root ≡ Ok tt
unfolding reading
plain-sound root h =
    let g = both _ (stands (kinds 0x10 0x12) (kind_of root)) h in
    let f = both (eqb (length root) 6) (eqb (length_of root) 2) g.0 in
    let six : length root ≡ 6 = eqb-true (length root) 6 f.0 in
    let two : length_of root ≡ 2 = eqb-true (length_of root) 2 f.1 in
    let w = within 0x10 0x12 (kind_of root) g.1 in
    let l : drop 6 root ≡ [] = drop_of_length-le root {i = 6} (omega arith) in
    alone 8 1 0 0x10 0x13 root (omega arith) (omega arith) (omega arith)
    (rw (le-leb 0x10 (kind_of root) w.0, le-leb (kind_of root) 0x13 (omega arith)))
    (λ n. rw (path-holds (kind_of root) g.1, l) (read_done 8 n (these []) 2 6 [] refl)) (suc (length root))

extern-sound : (card : Bytes) → is_extern card ≡ true → reading 48 mod' card ≡ Ok tt
unfolding reading content_at row_of
extern-sound card h =
    let a = both _ (eqb (kind_of (drop 6 card)) 0x01) h in
    let b = both _ (eqb (length_of (drop 6 card) + 10) (length card)) a.0 in
    let c = both _ (eqb (length_of card + 4) (length card)) b.0 in
    let d = both (leb 12 (length card)) (eqb (kind_of card) 0x61) c.0 in
    let twelve : 12 ≤ length card = leb-true 12 (length card) d.0 in
    let kind : kind_of card ≡ 0x61 = eqb-true (kind_of card) 0x61 d.1 in
    let whole : length_of card + 4 ≡ length card = eqb-true (length_of card + 4) (length card) c.1 in
    let inner : length_of (drop 6 card) + 10 ≡ length card = eqb-true (length_of (drop 6 card) + 10) (length card) b.1 in
    let name : kind_of (drop 6 card) ≡ 0x01 = eqb-true (kind_of (drop 6 card)) 0x01 a.1 in
    let l : length (drop 6 card) ≡ length card - 6 = length-drop 6 card in
    alone 48 1 0 0x60 0x61 card (omega arith) (omega arith) whole (rw kind refl)
    (λ n. rw kind (alone 48 2 6 0x01 0x01 (drop 6 card) (omega arith) (omega arith) (omega arith) (rw name refl)
    (λ m. rw name (read-bytes 48 m 3 12 (drop 6 (drop 6 card)))) n)) (suc (length card))

pub both-sound : (card root : Bytes) → is_plain root ≡ true → is_extern card ≡ true → (Ok tt) ≡ root_then (reading 8 path root) (reading 48 mod' card)
both-sound card root p x = rw (plain-sound root p, extern-sound card x)
