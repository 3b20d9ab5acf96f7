-- The records that stand one after the other in the bytes of canonical records, and where each of them starts. Assumes nothing.
use mathlib.Core.Path.{◌≡◌, refl, ap, sym, ◌∙◌}
use mathlib.Core.Bool.{false}
use mathlib.Core.List.{List, [], ◌∷◌, ◌++◌, append_assoc}
use Prim.Native.Nat.{ℕ, zero, suc, ◌+◌, ◌-◌, ◌≤◌}
use native.Mathlib.Omega.{arith}
use lib.ListN.{length, drop, length-append, length-drop}
use lib.Seq.{take_at, take-append_seam, drop-drop}
use Rattle.wire.specs.Numbers.{Bytes, between}
use Rattle.records.specs.Record.{Record, Records, node, nil, ◌▸◌, encode, encode_all, length_of, kind_of, content_of, rest_of, kind, skip, first_record}
use Rattle.records.specs.Canonical.{Canonical, CanonicalAll}
use Rattle.records.proofs.Tree.{encode-six}
use Rattle.records.proofs.Front.{inside, encode-inside, encode-kind, encode-content, encode-rest, encode-short, encode-length}
use Rattle.fields.specs.Fields.{offset_of}
use Rattle.records.specs.Reading.{short}
use Rattle.records.proofs.Starts.{Starts, AllStart, rest-start}
use Rattle.gathering.specs.Gathers.{Span, span, spans_in}
use Rattle.gathering.proofs.Spans.{none-short, none_in, first-in}

-- the record at the front of its bytes and the rest
pub encode-first : (r : Record) (rest : Bytes) → Canonical r → first_record (encode r ++ rest) ≡ encode r
encode-first r rest h = take_at (encode r) rest (4 + length_of (encode r ++ rest)) (sym (encode-length r rest h))

-- the bytes of records that start at a place are there
pub all_there : {s : Bytes} {o : ℕ} {c : Records} → AllStart s o c → between s o (o + length (encode_all c)) ≡ encode_all c
all_there {s} {o} {c} p =
    let e : o + length (encode_all c) - o ≡ length (encode_all c) = omega arith in
    rw (e, p.is) (take-append_seam (encode_all c) p.after)

-- where each of some records starts and ends that start at a place
unfoldable pub spans_of : ℕ → Records → List Span
spans_of from nil = []
spans_of from (r ▸ c) = span from (from + length (encode r)) ∷ spans_of (from + length (encode r)) c

pub spans-are : (card : Bytes) (from : ℕ) (c : Records) → CanonicalAll c → AllStart card from c
    → spans_in card from (from + length (encode_all c)) ≡ spans_of from c
unfolding spans_of CanonicalAll encode_all
spans-are card from nil h p = none_in card from (from + 0) (none-short card from (from + 0) (omega arith))
spans-are card from (r ▸ c) h p =
    let to = from + length (encode_all (r ▸ c)) in
    let there : between card from to ≡ encode r ++ encode_all c = all_there p in
    let short-not : short (between card from to) ≡ false = rw there (encode-short r (encode_all c) h.0) in
    let len : 4 + length_of (between card from to) ≡ length (encode r) = rw there (encode-length r (encode_all c) h.0) in
    let end : from + 4 + length_of (between card from to) ≡ from + length (encode r) = omega arith in
    let sum : to ≡ from + length (encode r) + length (encode_all c) = (let l = length-append (encode r) (encode_all c) in omega arith) in
    first-in card from to short-not ∙ rw (end, sum, spans-are card (from + length (encode r)) c h.1 (rest-start p))

module _ {s : Bytes} {o : ℕ} {r : Record} (p : Starts s o r) (h : Canonical r) where
  pub starts-kind : kind_of (drop o s) ≡ kind r
  starts-kind = ap kind_of p.is ∙ encode-kind r p.after h

  pub starts-content : content_of (drop o s) ≡ inside r
  starts-content = ap content_of p.is ∙ encode-content r p.after h

-- it starts within them
pub starts-within : {s : Bytes} {o : ℕ} {r : Record} → Starts s o r → o ≤ length s
starts-within {s} {o} {r} p =
    let a = length-drop o s in
    let b : length (drop o s) ≡ length (encode r ++ p.after) = ap length p.is in
    let c = length-append (encode r) p.after in
    let d = encode-six r in
    omega arith

pub starts-front : (r : Record) (c : Records) → Starts (encode_all (r ▸ c)) 0 r
unfolding encode_all
starts-front r c = record { after = encode_all c; is = refl }

-- the record that i others precede
field_at : (i : ℕ) (c : Records) (rest : Bytes) (r : Record) (d : Records) → CanonicalAll c → skip i c ≡ r ▸ d
    → drop (offset_of i (encode_all c ++ rest)) (encode_all c ++ rest) ≡ encode r ++ (encode_all d ++ rest)
unfolding skip offset_of encode_all CanonicalAll
field_at zero c rest r d h e = rw e (append_assoc (encode r) (encode_all d) rest)
field_at (suc i) nil rest r d h e = cc
field_at (suc i) (x ▸ c) rest r d h e =
    let s = encode x ++ (encode_all c ++ rest) in
    let a : rest_of s ≡ encode_all c ++ rest = encode-rest x (encode_all c ++ rest) h.0 in
    rw (append_assoc (encode x) (encode_all c) rest, a) (sym (drop-drop (offset_of i (encode_all c ++ rest)) (4 + length_of s) s) ∙ ap
    (drop (offset_of i (encode_all c ++ rest))) a ∙ field_at i c rest r d h.1 e)

module _ {s : Bytes} {o k : ℕ} {c : Records} (p : Starts s o (node k c)) where
  starts-inside : drop (o + 6) s ≡ encode_all c ++ p.after
  starts-inside = sym (drop-drop 6 o s) ∙ ap (drop 6) p.is ∙ encode-inside (node k c) p.after

  -- field i of a record, by what is left of its fields from there on
  pub starts-field : (i : ℕ) (r : Record) (d : Records) → CanonicalAll c → skip i c ≡ r ▸ d → Starts s ((o + 6) + offset_of i (drop (o + 6) s)) r
  starts-field i r d h e =
      record {
        after = encode_all d ++ p.after;
        is = sym (drop-drop (offset_of i (drop (o + 6) s)) (o + 6) s) ∙ rw starts-inside (field_at i c p.after r d h e);
      }

  -- its first
  pub starts_first : (r : Record) (d : Records) → c ≡ r ▸ d → Starts s (o + 6) r
  unfolding encode_all
  starts_first r d e = record { after = encode_all d ++ p.after; is = starts-inside ∙ rw e (append_assoc (encode r) (encode_all d) p.after) }
