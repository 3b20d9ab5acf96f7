-- A name's record laid, and a record wrapped in synonyms, from the outermost inwards. Assumes nothing.
use mathlib.Core.Path.{◌≡◌, refl, sym, ap, ◌∙◌}
use mathlib.Core.List.{[], ◌++◌, append-nil, append_assoc}
use Prim.Native.Nat.{ℕ, zero, suc, ◌+◌, ◌-◌, ◌*◌, ◌^◌, ◌<◌, ◌≤◌}
use native.Mathlib.Nat.{zero-mul, suc-mul, mul-le-mul}
use native.Mathlib.Omega.{arith}
use mathlib.Core.Bool.{Bool, true, ◌||◌}
use lib.ListN.{length, length-append}
use lib.Dec.{ltb}
use borrow.Author.Tests.{lt-ltb, le-ltb}
use Rattle.wire.specs.Numbers.{Bytes, le}
use Rattle.records.specs.Record.{record_bytes}
use Rattle.records.proofs.Tree.{record-length}
use Rattle.laying.specs.Lays.{lay, Laid}
use Rattle.laying.proofs.Laws.{lay-length, lay-behind, laid_none, laid_then}
use Rattle.heads.specs.Heads.{head_bytes}
use Rattle.heads.proofs.Laws.{lay-record}
use Rattle.rewriting.specs.Shorts.{synonym_bytes, unfit}
use Rattle.rewriting.proofs.Lengths.{synonyms-length}

pub named-laid : (out o₁ o₂ o₃ : Bytes) (at k : ℕ) (name : Bytes) → o₁ ≡ lay out at (head_bytes (length name + 8) k)
    → o₂ ≡ lay o₁ (at + 6) (head_bytes (length name + 2) 1) → o₃ ≡ lay o₂ (at + 12) name → o₃ ≡ lay out at (record_bytes k (record_bytes 0x01 name))
named-laid out o₁ o₂ o₃ at k name a b c =
    let twelve : at + 12 ≡ at + 6 + 6 = omega arith in
    let text : lay o₂ (at + 12) name ≡ lay o₁ (at + 6) (record_bytes 0x01 name)
    = rw (b, twelve) (lay-record o₁ (at + 6) 0x01 name (length name + 2) (omega arith)) in
    let whole : lay o₁ (at + 6) (record_bytes 0x01 name) ≡ lay out at (record_bytes k (record_bytes 0x01 name))
    = rw a (lay-record out at k (record_bytes 0x01 name) (length name + 8) (omega (arith, record-length 0x01 name))) in
    c ∙ text ∙ whole

-- what a synonym that says n holds ahead of its base, and all that it holds where i more are in it
abbrev front : Bytes → ℕ → Bytes
front name n = head_bytes n 0x37 ++ record_bytes 0x2C (record_bytes 0x01 name)

abbrev inside : Bytes → Bytes → ℕ → Bytes
inside name r i = record_bytes 0x2C (record_bytes 0x01 name) ++ synonym_bytes name i r

display-long : (name : Bytes) → length (record_bytes 0x2C (record_bytes 0x01 name)) ≡ length name + 12
display-long name = let a = record-length 0x01 name in let b = record-length 0x2C (record_bytes 0x01 name) in omega arith

front_long : (name : Bytes) (n : ℕ) → length (front name n) ≡ length name + 18
unfolding le
front_long name n = length-append (head_bytes n 0x37) (record_bytes 0x2C (record_bytes 0x01 name)) ∙ rw (display-long name) (omega arith)

synonym-front : (name r : Bytes) (i n : ℕ) → n ≡ 2 + length (inside name r i) → synonym_bytes name (suc i) r ≡ front name n ++ synonym_bytes name i r
unfolding synonym_bytes
synonym-front name r i n e =
    rw e
    (sym (append_assoc (le 4 (2 + length (inside name r i))) (le 2 0x37) (inside name r i))
    ∙ sym (append_assoc (head_bytes (2 + length (inside name r i)) 0x37) (record_bytes 0x2C (record_bytes 0x01 name)) (synonym_bytes name i r)))

synonym-long : (name r : Bytes) (i : ℕ) → length (synonym_bytes name (suc i) r) ≡ 6 + length (inside name r i)
unfolding synonym_bytes
synonym-long name r i = record-length 0x37 (inside name r i)

-- w - j synonyms are laid over out₀ and end at p; j are left, and with the record in them take so many bytes
pub record Wrapping (name r : Bytes) (w at unit : ℕ) (out₀ out : Bytes) (left p j : ℕ) : Type 0 where
  pub done : Bytes
  pub laid : Laid out₀ at done p out
  pub rest : done ++ synonym_bytes name j r ≡ synonym_bytes name w r
  pub unit-is : unit ≡ length name + 18
  pub bytes_left : left ≡ length (synonym_bytes name j r)

module _ (name r : Bytes) (w at unit : ℕ) (out₀ : Bytes) where
  pub wrapping-none : (left : ℕ) → unit ≡ length name + 18 → left ≡ w * unit + length r → Wrapping name r w at unit out₀ out₀ left at w
  wrapping-none left u l =
      record {
        done = [];
        laid = laid_none out₀ at;
        rest = refl;
        unit-is = u;
        bytes_left = l ∙ rw (u, ap (λ (n : ℕ). w * n + length r) turned) (sym (synonyms-length name w r));
      }
    where
      turned : length name + 18 ≡ 18 + length name
      turned = omega arith

  module _ (out : Bytes) (left p j : ℕ) (h : Wrapping name r w at unit out₀ out left p j) where
    pub wrapping-long : length out ≡ length out₀
    wrapping-long = ap length h.laid.bytes ∙ lay-length out₀ at h.done

    -- where what is left ends
    pub wrapping-end : p + left ≡ at + length (synonym_bytes name w r)
    wrapping-end =
        let a = ap length h.rest in
        let b = length-append h.done (synonym_bytes name j r) in
        omega (arith, h.laid.ends, h.bytes_left, a, b)

    -- the record, behind the last synonym
    pub wrapping-all : (j ≡ 0) → (after : Bytes) → after ≡ lay out p r → Laid out₀ at (synonym_bytes name w r) (p + length r) after
    unfolding synonym_bytes
    wrapping-all z after e = rw (sym none) at (laid_then out₀ at h.done p out r (p + length r) after h.laid (record { ends = refl; bytes = e }))
      where
        none : synonym_bytes name w r ≡ h.done ++ r
        none = sym h.rest ∙ rw z

    pub last-left : j ≡ 0 → left ≡ length r
    unfolding synonym_bytes
    last-left z = h.bytes_left ∙ ap (λ (n : ℕ). length (synonym_bytes name n r)) z

    pub same-long : (after : Bytes) → after ≡ lay out p r → length after ≡ length out₀
    same-long after e = ap length e ∙ lay-length out p r ∙ wrapping-long

    -- one more synonym: j is one more than i
    module _ (i : ℕ) (one : j ≡ suc i) where
      left_is : left ≡ 6 + length (inside name r i)
      left_is = h.bytes_left ∙ ap (λ (n : ℕ). length (synonym_bytes name n r)) one ∙ synonym-long name r i

      split : synonym_bytes name j r ≡ front name (left - 4) ++ synonym_bytes name i r
      split = ap (λ (n : ℕ). synonym_bytes name n r) one ∙ synonym-front name r i (left - 4) (omega (arith, left_is))

      pub wrapping-unit : unit + 4 ≤ left + 4
      wrapping-unit =
          let a = length-append (record_bytes 0x2C (record_bytes 0x01 name)) (synonym_bytes name i r) in
          omega (arith, left_is, h.unit-is, display-long name, a)

      pub wrapping-next : (o₁ o₂ : Bytes) → o₁ ≡ lay out p (head_bytes (left - 4) 0x37) → o₂ ≡ lay o₁ (p + 6) (record_bytes 0x2C (record_bytes 0x01 name))
          → Wrapping name r w at unit out₀ o₂ (left - unit) (p + unit) i
      unfolding le
      wrapping-next o₁ o₂ a b =
          record {
            done = h.done ++ front name (left - 4);
            laid = laid_then out₀ at h.done p out (front name (left - 4)) (p + unit) o₂ h.laid front-laid;
            rest = append_assoc h.done (front name (left - 4)) (synonym_bytes name i r) ∙ ap (λ (x : Bytes). h.done ++ x) (sym split) ∙ h.rest;
            unit-is = h.unit-is;
            bytes_left = less;
          }
        where
          front-laid : Laid out p (front name (left - 4)) (p + unit) o₂
          front-laid =
              record {
                ends = ap (λ (n : ℕ). p + n) (h.unit-is ∙ sym (front_long name (left - 4)));
                bytes = b ∙ rw a (lay-behind out p (head_bytes (left - 4) 0x37) (record_bytes 0x2C (record_bytes 0x01 name)));
              }

          less : left - unit ≡ length (synonym_bytes name i r)
          less =
              let a = length-append (front name (left - 4)) (synonym_bytes name i r) in
              let b = ap length split in
              omega (arith, h.bytes_left, h.unit-is, front_long name (left - 4), a, b)

-- w synonyms of a short name, and where they end
pub small_product : (w n : ℕ) → w ≤ 65536 → n ≤ 65536 → w * (n + 18) ≤ 4296146944
small_product w n a b = omega (arith, mul-le-mul {n₁ = w} {m₁ = n + 18} {n₂ = 65536} {m₂ = 65554} a (omega (arith, b)))

pub small-synonyms : (name r : Bytes) (w at : ℕ) → length name ≤ 65536 → length r ≤ 65536 → w ≤ 65536 → at ≤ 2 ^ 61 → at + length (synonym_bytes name w r) ≤ 2 ^
    62
small-synonyms name r w at a b c d =
    let e = synonyms-length name w r in
    let m = small_product w (length name) c a in
    let t = ap (λ (n : ℕ). w * n) (turned (length name)) in
    omega (arith, a, b, c, d, e, m, t)
  where
    turned : (n : ℕ) → 18 + n ≡ n + 18
    turned n = omega arith

pub before_last : (j : ℕ) → 0 < j → j ≡ suc (j - 1)
before_last j h = omega (arith, h)

-- whether something is unfit, test by test
pub unfit-place : (at w n : ℕ) → 2 ^ 61 < at → true ≡ unfit at w n
unfit-place at w n h = rw (lt-ltb (2 ^ 61) at h)

pub unfit-count : (at w n : ℕ) → (at ≤ 2 ^ 61) → 65536 < w → true ≡ unfit at w n
unfit-count at w n h k = rw (le-ltb (2 ^ 61) at h, lt-ltb 65536 w k)

pub unfit-length : (at w n : ℕ) (b : Bool) → (at ≤ 2 ^ 61) → w ≤ 65536 → b ≡ ltb 65536 n → b ≡ unfit at w n
unfit-length at w n b h k e = e ∙ rw (le-ltb (2 ^ 61) at h, le-ltb 65536 w k)
