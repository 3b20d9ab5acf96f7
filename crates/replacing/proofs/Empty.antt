-- A record that holds nothing is left as it is, whatever its kind. Assumes nothing.
use mathlib.Core.Path.{◌≡◌, refl, sym, ap, ◌∙◌}
use mathlib.Core.Bool.{Bool, false}
use mathlib.Core.List.{List, [], ◌++◌, append-nil}
use Prim.Native.Nat.{ℕ, zero, suc, ◌+◌, ◌-◌, ◌<◌}
use native.Mathlib.Omega.{arith}
use lib.ListN.{take, drop, get_or}
use lib.Seq.{take_at}
use lib.Dec.{eqb}
use Rattle.wire.specs.Numbers.{Bytes, AreBytes, le, num}
use Rattle.wire.proofs.Numbers.{drop-bytes, are-bytes}
use Rattle.records.specs.Record.{record_bytes, length_of, kind_of, content_of, rest_of}
use Rattle.records.specs.Reading.{short}
use Rattle.records.proofs.Tree.{record-length, front-kind, front-content, record-split, kind-small}
use Rattle.rast.proofs.Tests.{one_of}
use Rattle.factor_paths.specs.Walk.{Step, a_type, an_expr, a_fn, left, holds, step_of}
use Rattle.prefix.specs.Prefix.{Scope}
use Rattle.laying.specs.Lays.{lay, Laid}
use Rattle.heads.specs.Heads.{head_bytes}
use Rattle.rewriting.specs.Replaces.{replaces_type, replaces_expr}
use Rattle.rewriting.specs.Shorts.{type_bytes, expr_bytes}
use Rattle.rewriting.specs.Rewrites.{parts_of, each, counted, uncounted, stepped, rewrite}
use Rattle.rewriting.proofs.Parts.{parts-end}

-- the record of kind k that holds nothing
abbrev Empty : ℕ → Bytes
Empty k = record_bytes k []

module _ (k : ℕ) (small : k < 65536) where
  kind-is : kind_of (Empty k) ≡ k
  kind-is = ap kind_of (sym (append-nil (Empty k))) ∙ front-kind k [] [] small (omega arith)

  content-is : content_of (Empty k) ≡ []
  content-is = ap content_of (sym (append-nil (Empty k))) ∙ front-content k [] [] small (omega arith)

nothing : (f : Bytes → Bytes) → each f (parts_of []) ≡ []
unfolding each
nothing f = ap (each f) parts-end

none-counted : counted [] ≡ []
unfolding num
none-counted = refl

none_ahead : uncounted [] ≡ []
unfolding num
none_ahead = refl

module _ (s : Scope) (words : List ℕ) (w : ℕ) where
  -- what each step says is this
  whichever : (t : Step) (k : ℕ) (this r q fn : Bytes) → type_bytes s words w this ≡ this → expr_bytes s words this ≡ this → r ≡ this → q ≡ this → fn ≡ this
      → stepped s words t k w this r q fn ≡ this
  whichever a_type k this r q fn a b c d e = one_of (λ (x : Bytes). x ≡ this) (eqb k 0x2D) a c
  whichever an_expr k this r q fn a b c d e = one_of (λ (x : Bytes). x ≡ this) (eqb k 0x5C) b c
  whichever a_fn k this r q fn a b c d e = e
  whichever left k this r q fn a b c d e = refl
  whichever holds k this r q fn a b c d e = d

  module _ (k : ℕ) (small : k < 65536) where
    type-left : type_bytes s words w (Empty k) ≡ Empty k
    unfolding type_bytes replaces_type num
    type-left = rw (content-is k small)

    expr_left : expr_bytes s words (Empty k) ≡ Empty k
    unfolding expr_bytes replaces_expr num
    expr_left = rw (content-is k small)

    pub empty_left : (d : ℕ) (again : Bool) → rewrite s words d again w (Empty k) ≡ Empty k
    unfolding rewrite
    empty_left zero again = refl
    empty_left (suc d) again =
        whichever (step_of (kind_of (Empty k))) (kind_of (Empty k)) (Empty k) _ _ _ type-left expr_left
        (rw (kind-is k small, content-is k small, nothing)) (rw (kind-is k small, content-is k small, nothing))
        (rw (kind-is k small, content-is k small, none_ahead, none-counted, nothing, nothing))

-- bytes that start with such a record
pub empty-first : (x : Bytes) → AreBytes x → short x ≡ false → length_of x ≡ 2 → take 6 x ≡ Empty (kind_of x)
empty-first x b t e =
    let c : content_of x ≡ [] = ap (λ (n : ℕ). take (n - 2) (drop 6 x)) e in
    ap (take 6) (record-split x t b ∙ ap (λ (y : Bytes). record_bytes (kind_of x) y ++ rest_of x) c)
    ∙ take_at (Empty (kind_of x)) (rest_of x) 6 (record-length (kind_of x) [])

-- what is left of bytes is bytes
pub part_bytes : (c : Bytes) (i : ℕ) (x : Bytes) → x ≡ drop i c → ((j : ℕ) → get_or c j 0 < 256) → AreBytes x
part_bytes c i x e h = rw e (drop-bytes i c (are-bytes c h))

-- THE LAW: its head alone is laid
module _ (s : Scope) (words : List ℕ) (w d : ℕ) (again : Bool) (x : Bytes) (b : AreBytes x) (t : short x ≡ false) (n : ℕ) (e : n ≡ 4 + length_of x) (z : n ≡ 6)
    (k : ℕ) (f : k ≡ kind_of x) where
  made : rewrite s words d again w (take n x) ≡ head_bytes 2 k
  made =
      let l : length_of x ≡ 2 = omega arith in
      ap (λ (m : ℕ). rewrite s words d again w (take m x)) z ∙ ap (rewrite s words d again w) (empty-first x b t l)
      ∙ empty_left s words w (kind_of x) (kind-small x b) d again ∙ rw (f, append-nil)

  pub empty-laid : (out : Bytes) (p : ℕ) (after : Bytes) → after ≡ lay out p (head_bytes 2 k) → Laid out p (rewrite s words d again w (take n x)) (p + 6) after
  unfolding le
  empty-laid out p after y = rw made (record { ends = refl; bytes = y })
