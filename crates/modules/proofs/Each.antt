-- Declarations one behind the other, given what is made of each. Assumes nothing.
use mathlib.Core.Path.{◌≡◌, ap, sym, ◌∙◌}
use mathlib.Core.List.{List, ◌++◌, append_assoc, append-nil}
use mathlib.Core.Option.{none-ne-some}
use Prim.Native.Nat.{ℕ, ◌+◌, ◌<◌, ◌≤◌}
use native.Mathlib.Omega.{arith}
use lib.ListN.{length, length-append}
use Rattle.wire.specs.Numbers.{Bytes}
use Rattle.records.specs.Record.{Record, Records, nil, ◌▸◌, encode, encode_all, map_all, count}
use Rattle.records.specs.Canonical.{Canonical, CanonicalAll}
use Rattle.records.specs.Record.{deep, deep_all}
use Rattle.records.specs.Kinds.{kinds, any}
use Rattle.records.proofs.Fits.{StandsAll, Fits, FitsAll}
use Rattle.records.proofs.Starts.{Starts, AllStart, first-starts, rest-start}
use Rattle.rast.specs.Path.{Path}
use Rattle.rast.proofs.Tests.{by-option}
use Rattle.factor_paths.specs.Apply.{mappings}
use Rattle.outcome.specs.FullTable.{first_in}
use Rattle.places.proofs.Weighed.{weighed, weighed_all, weighed-beside, mapped-count}
use Rattle.operation.specs.declared.Shortening.{Shortening}
use Rattle.operation.specs.Operations.{operation_of, weight_bytes}
use Rattle.adding.specs.Adds.{Table}
use Rattle.gathering.specs.Gathers.{Span, span}
use Rattle.gathering.proofs.Parts.{spans_of}
use Rattle.modules.specs.Modules.{Made, first_full, behind, each_made}
use Rattle.modules.proofs.States.{found, first_found, first-none, first-first, Holds, holds_on, scope_at, in_decl, walked, Declared, Declares}

module _ (op : Shortening) (card root : Bytes) (most n : ℕ) (chain : List ℕ) (at : ℕ) (m : Record) (S : Path) (wide : ℕ) where
  abbrev State : (to owner : ℕ) → Table → Type 0
  State to owner held = Holds (scope_at op card root chain at) at to (mappings (operation_of op) m S) owner held

  -- what is made of one declaration, and then of others, is made of all
  one_more : (d : Record) (c : Records) (from : ℕ) (M D after : Made) → Declared op card root most n chain at m S wide d from D
      → Declares op card root most n chain at m S wide c (from + length (encode d)) (behind M D) after
      → Declares op card root most n chain at m S wide (d ▸ c) from M after
  unfolding behind first_in map_all encode_all count
  one_more d c from M D after e h =
      let o = in_decl op card root most n chain at m S d from in
      let next = from + length (encode d) in
      let p = first_in (in_decl op card root most n chain at m S) c next in
      let w = walked op card root most n chain at m S in
      let k = weight_bytes op in
      record {
        full =
            h.full ∙ first-first M.full D.full (found p)
            ∙ ap (first_full M.full) (ap (λ (x : ℕ). first_full x (found p)) e.full ∙ first_found o p);
        bytes = λ z.
            by-option o
            (λ t. h.bytes (rw t at z) ∙ append_assoc M.bytes D.bytes (weighed_all k c (map_all w c))
            ∙ ap (λ (x : Bytes). M.bytes ++ (x ++ weighed_all k c (map_all w c))) (e.bytes t)
            ∙ ap (λ (x : Bytes). M.bytes ++ x) (sym (weighed-beside k d c (w d) (map_all w c) (mapped-count w c))))
            (λ x t. absurd (none-ne-some x (sym (rw t at z))));
        words = h.words;
        holds = holds_on (from + length (encode d ++ encode_all c)) (let l = length-append (encode d) (encode_all c) in omega arith) h.holds;
      }

  module _ (depth : ℕ) (f : Span → ℕ → Table → Made) (each : (d : Record) (from : ℕ) → Fits d (kinds 0x62 0x6A) → Canonical d → Starts card from d
      → deep d ≤ depth → at < from → (owner : ℕ) (held : Table) → length held.words ≡ wide → State from owner held
      → Declared op card root most n chain at m S wide d from (f (span from (from + length (encode d))) owner held)) where
    pub all-declared : (c : Records) (from : ℕ) → FitsAll c (any (kinds 0x62 0x6A)) → CanonicalAll c → AllStart card from c → deep_all c ≤ depth → at < from
        → (M : Made) → length M.held.words ≡ wide → State from M.owner M.held
        → Declares op card root most n chain at m S wide c from M (each_made f (spans_of from c) M)
    unfolding each_made spans_of first_in map_all encode_all weighed StandsAll Canonical deep behind
    all-declared nil from g h st l b M w s = record {
      full = first-none M.full;
      bytes = λ z. sym (append-nil M.bytes);
      words = w;
      holds = holds_on (from + 0) (omega arith) s;
    }
    all-declared (d ▸ c) from g h st l b M w s =
        let next = from + length (encode d) in
        let D = f (span from next) M.owner M.held in
        let e = each d from g.0 h.0 (first-starts st) (omega arith) b M.owner M.held w s in
        one_more d c from M D _ e (all-declared c next g.1 h.1 (rest-start st) (omega arith) (omega arith) (behind M D) e.words e.holds)
