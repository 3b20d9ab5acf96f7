-- The loop over the records of a content: what is laid, and what is left. Assumes nothing.
use mathlib.Core.Path.{◌≡◌, refl, sym, ap, ◌∙◌}
use mathlib.Core.Bool.{true, false}
use mathlib.Core.List.{[], ◌∷◌, ◌++◌, append-nil, append_assoc}
use Prim.Native.Nat.{ℕ, ◌+◌, ◌^◌, ◌<◌, ◌≤◌}
use native.Mathlib.Omega.{arith}
use lib.ListN.{length, take, drop, length-append, length-take, length-drop}
use lib.Seq.{drop-drop}
use Rattle.wire.specs.Numbers.{Bytes}
use Rattle.records.specs.Record.{length_of, first_record, rest_of}
use Rattle.records.specs.Reading.{short}
use Rattle.records.proofs.Tree.{long-enough}
use Rattle.laying.specs.Lays.{lay, Laid}
use Rattle.laying.proofs.Laws.{lay-length, laid_none, laid_then}
use Rattle.rewriting.specs.Rewrites.{parts_of, each}
use Rattle.rewriting.proofs.Parts.{parts_none, parts-step}

-- of what f makes of each record of c, that of those ahead of place i is laid over out₀ and ends at p
pub record Along (f : Bytes → Bytes) (c out₀ : Bytes) (at : ℕ) (out : Bytes) (i p : ℕ) : Type 0 where
  pub done : Bytes
  pub laid : Laid out₀ at done p out
  pub rest : done ++ each f (parts_of (drop i c)) ≡ each f (parts_of c)
  pub inside : i ≤ length c

module _ (f : Bytes → Bytes) (c out₀ : Bytes) (at : ℕ) where
  pub along-none : Along f c out₀ at out₀ 0 at
  along-none = record { done = []; laid = laid_none out₀ at; rest = refl; inside = omega arith }

  module _ (out : Bytes) (i p : ℕ) (h : Along f c out₀ at out i p) where
    pub along-long : length out ≡ length out₀
    along-long = ap length h.laid.bytes ∙ lay-length out₀ at h.done

    done_all : each f (parts_of (drop i c)) ≡ [] → h.done ≡ each f (parts_of c)
    done_all e = sym (append-nil h.done) ∙ ap (λ (b : Bytes). h.done ++ b) (sym e) ∙ h.rest

    all_laid : each f (parts_of (drop i c)) ≡ [] → Laid out₀ at (each f (parts_of c)) p out
    all_laid e = rw (done_all e) at h.laid

    -- no record follows
    pub along-stop : (s : Bytes) → s ≡ drop i c → short s ≡ true → Laid out₀ at (each f (parts_of c)) p out
    unfolding each
    along-stop s e t = all_laid (ap (each f) (parts_none (drop i c) (rw e at t)))

    pub along-end : length c ≤ i → Laid out₀ at (each f (parts_of c)) p out
    unfolding each
    along-end l = along-stop (drop i c) refl (none_left (drop i c) (omega (arith, length-drop i c, l)))
      where
        none_left : (s : Bytes) → length s ≤ 0 → short s ≡ true
        none_left [] g = refl
        none_left (b ∷ s) g = absurd (omega arith)

    -- a record follows, n bytes long
    module _ (s : Bytes) (e : s ≡ drop i c) (t : short s ≡ false) (n : ℕ) (k : n ≡ 4 + length_of s) (r : Bytes) (y : r ≡ take n (drop i c)) where
      first-is : each f (parts_of (drop i c)) ≡ f r ++ each f (parts_of (drop (i + n) c))
      unfolding each
      first-is =
          ap (each f) (parts-step (drop i c) (rw e at t))
          ∙ rw (y, k, e, drop-drop (4 + length_of (drop i c)) i c)

      pub along-room : at + length (each f (parts_of c)) < 2 ^ 61 → p + length (f r) < 2 ^ 61
      along-room l =
          let a = ap length (sym h.rest) in
          let b = length-append h.done (each f (parts_of (drop i c))) in
          let d = ap length first-is in
          let g = length-append (f r) (each f (parts_of (drop (i + n) c))) in
          omega (arith, h.laid.ends, l, a, b, d, g)

      pub along-inside : i + n ≤ length c
      along-inside =
          let a = long-enough (drop i c) (rw e at t) in
          let b = length-drop i c in
          let d = ap length_of e in
          omega arith

      pub along-small : length r ≤ length c
      along-small =
          let a = length-take n (drop i c) in
          let b = length-drop i c in
          let d = ap length y in
          omega arith

      pub along-next : (q : ℕ) (after : Bytes) → Laid out p (f r) q after → Along f c out₀ at after (i + n) q
      along-next q after x =
          record {
            done = h.done ++ f r;
            laid = laid_then out₀ at h.done p out (f r) q after h.laid x;
            rest = append_assoc h.done (f r) (each f (parts_of (drop (i + n) c))) ∙ ap (λ (b : Bytes). h.done ++ b) (sym first-is) ∙ h.rest;
            inside = along-inside;
          }
