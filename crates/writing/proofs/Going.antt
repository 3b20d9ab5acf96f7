-- The loop over the declarations of a body: what is written, whose table the words hold, and what is left. And a module, test by test. Assumes nothing.
use mathlib.Core.Path.{◌≡◌, refl, sym, ap, ap₂, ◌∙◌}
use mathlib.Core.Bool.{true, false}
use mathlib.Core.List.{List, [], ◌∷◌}
use Prim.Native.Nat.{ℕ, ◌+◌, ◌-◌, ◌*◌, ◌^◌, ◌≤◌, min}
use native.Mathlib.Nat.{zero-add}
use native.Mathlib.Omega.{arith}
use lib.ListN.{length, length-append}
use Rattle.wire.specs.Numbers.{Bytes, between}
use Rattle.records.specs.Record.{length_of}
use Rattle.records.specs.Reading.{short}
use Rattle.adding.specs.Adds.{Table, table}
use Rattle.gathering.specs.Gathers.{Span, span, spans_in}
use Rattle.gathering.proofs.Spans.{span_fits, none-short, none_in, first-in}
use Rattle.laying.proofs.Laws.{lay-nil, lay-length, lay-behind}
use Rattle.modules.specs.Modules.{Made, made, first_full, behind, each_made}
use Rattle.writing.specs.Wrote.{Wrote}
use Rattle.writing.proofs.Pieces.{lent, back, lent_back}

-- nothing is made yet
pub wrote_none : (out : Bytes) (words : List ℕ) (owner pairs : ℕ) → Wrote out out words 0 0 owner pairs (made [] 0 owner (table pairs words))
wrote_none out words owner pairs = record { length-is = refl; laid = sym (lay-nil out 0); full_is = refl; owner-is = refl; held-is = refl }

-- out is as long as it was
pub wrote-long : {out after : Bytes} {words : List ℕ} {len full owner pairs : ℕ} {m : Made} → Wrote out after words len full owner pairs m
    → length after ≡ length out
wrote-long {out = out} {m = m} w = ap length w.laid ∙ lay-length out 0 m.bytes

-- one piece behind another, in the part of out behind it
pub wrote-behind : (out₀ out : Bytes) (words : List ℕ) (p full owner pairs : ℕ) (m : Made) → Wrote out₀ out words p full owner pairs m
    → (q : ℕ) (part : Bytes) (words' : List ℕ) (len full' owner' pairs' : ℕ) (d : Made) → q ≡ min p (length out)
    → Wrote (lent out q) part words' len full' owner' pairs' d → (f : ℕ) → f ≡ first_full full full'
    → Wrote out₀ (back out q part) words' (p + len) f owner' pairs' (behind m d)
unfolding behind
wrote-behind out₀ out words p full owner pairs m w q part words' len full' owner' pairs' d e x f g =
    record {
      length-is = (let l = length-append m.bytes d.bytes in omega (arith, w.length-is, x.length-is, l));
      laid =
          lent_back out p q d.bytes part e x.laid
          ∙ rw (w.laid, w.length-is ∙ sym (zero-add (length m.bytes))) (lay-behind out₀ 0 m.bytes d.bytes);
      full_is = g ∙ ap₂ first_full w.full_is x.full_is;
      owner-is = x.owner-is;
      held-is = x.held-is;
    }

module _ (card : Bytes) (f : Span → ℕ → Table → Made) (out₀ : Bytes) (from to : ℕ) (m₀ : Made) where
  -- of what is made of the declarations from one place to another, that of those ahead of place i is written
  pub record Going (out : Bytes) (words : List ℕ) (i p full owner pairs : ℕ) : Type 0 where
    pub so_far : Made
    pub wrote : Wrote out₀ out words p full owner pairs so_far
    pub rest : each_made f (spans_in card i to) so_far ≡ each_made f (spans_in card from to) m₀
    pub on : from ≤ i
    pub bound : p ≤ (i - from) * 2 ^ 40
    pub inside : i ≤ from + to

  pub going-none : (words : List ℕ) (owner pairs : ℕ) → m₀ ≡ made [] 0 owner (table pairs words) → Going out₀ words from 0 0 owner pairs
  going-none words owner pairs e =
      record {
        so_far = m₀;
        wrote = rw e (wrote_none out₀ words owner pairs);
        rest = refl;
        on = omega arith;
        bound = omega arith;
        inside = omega arith;
      }

  module _ (out : Bytes) (words : List ℕ) (i p full owner pairs : ℕ) (g : Going out words i p full owner pairs) where
    pub going-long : length out ≡ length out₀
    going-long = wrote-long g.wrote

    stops : spans_in card i to ≡ [] → Wrote out₀ out words p full owner pairs (each_made f (spans_in card from to) m₀)
    unfolding each_made
    stops e = rw (ap (λ (rs : List Span). each_made f rs g.so_far) (sym e) ∙ g.rest) at g.wrote

    pub going-short : (s : Bytes) → s ≡ between card i to → short s ≡ true → Wrote out₀ out words p full owner pairs (each_made f (spans_in card from to) m₀)
    going-short s e t = stops (none_in card i to (rw e at t))

    pub going_end : to ≤ i → Wrote out₀ out words p full owner pairs (each_made f (spans_in card from to) m₀)
    going_end l = stops (none_in card i to (none-short card i to (omega (arith, l))))

    -- a declaration follows, up to next
    module _ (s : Bytes) (e : s ≡ between card i to) (t : short s ≡ false) (n : ℕ) (k : n ≡ length_of s) where
      pub next_fits : (i + 6 ≤ i + 4 + n) × (i + 4 + n ≤ to)
      next_fits = let h = span_fits card i to (rw e at t) in let l = ap length_of e in (omega (arith, h.0, k, l), omega (arith, h.1, k, l))

      first-is : spans_in card i to ≡ span i (i + 4 + n) ∷ spans_in card (i + 4 + n) to
      first-is = rw (k, e) (first-in card i to (rw e at t))

      pub going_next : (q : ℕ) (part : Bytes) (words' : List ℕ) (len full' owner' pairs' : ℕ) → q ≡ min p (length out)
          → Wrote (lent out q) part words' len full' owner' pairs' (f (span i (i + 4 + n)) owner (table pairs words))
          → ((o : ℕ) (h : Table) → length (f (span i (i + 4 + n)) o h).bytes ≤ (i + 4 + n - i) * 2 ^ 40) → (full'' : ℕ) → full'' ≡ first_full full full'
          → Going (back out q part) words' (i + 4 + n) (p + len) full'' owner' pairs'
      unfolding each_made
      going_next q part words' len full' owner' pairs' y x b full'' z =
          let h = next_fits in
          let c = b owner (table pairs words) in
          record {
            so_far = behind g.so_far (f (span i (i + 4 + n)) g.so_far.owner g.so_far.held);
            wrote = wrote-behind out₀ out words p full owner pairs g.so_far g.wrote q part words' len full' owner' pairs' _ y
                (rw (g.wrote.owner-is, g.wrote.held-is) at x) full'' z;
            rest = ap (λ (rs : List Span). each_made f rs g.so_far) (sym first-is) ∙ g.rest;
            on = omega (arith, g.on, h.0);
            bound = omega (arith, g.bound, g.on, h.0, c, x.length-is);
            inside = omega (arith, h.1, g.on);
          }
