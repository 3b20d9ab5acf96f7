-- What a walk over sound bytes has in hand at each record, stated once over the place and the kind. Assumes nothing.
use Rattle.std.specs.Prelude.{Ok}
use mathlib.Core.Path.{◌≡◌, sym, ◌∙◌}
use mathlib.Core.Option.{some}
use Prim.Native.Nat.{ℕ, suc, ◌+◌, ◌<◌}
use lib.ListN.{length}
use Rattle.wire.specs.Numbers.{Bytes}
use Rattle.records.specs.Record.{◌▸◌, length_of, rest_of}
use Rattle.records.specs.Kinds.{Place, Content}
use Rattle.records.proofs.Step.{and_then-sound}
use Rattle.records.proofs.First.{records_of, record_of, tree-first}
use Rattle.reading.specs.Reads.{reads, reads_record, after, place_in}
use Rattle.reading.proofs.Held.{Held, held}
use Rattle.reading.proofs.Laws.{reads-record, next_more}

-- record j of a content, with the record at its place, and what follows it
pub record Walk (left : ℕ) (c : Content) (j at : ℕ) (s : Bytes) (q : Place) : Type 0 where
  pub first : Held left q at s
  pub rest-sound : reads left (after c (suc j)) (at + (4 + length_of s)) (rest_of s) ≡ Ok tt
  pub is-tree : records_of s ≡ record_of s ▸ records_of (rest_of s)

pub walk : (left : ℕ) (c : Content) (j at : ℕ) (s : Bytes) (q : Place) → reads left (after c j) at s ≡ Ok tt → 0 < length s → place_in c j ≡ some q
    → Walk left c j at s q
walk left c j at s q h l e =
    let v = and_then-sound (reads_record left q at s) (reads left (after c (suc j)) (at + (4 + length_of s)) (rest_of s))
    (sym (reads-record left (after c j) at s q (after c (suc j)) (next_more c j s q l e)) ∙ h) in
    let f : Held left q at s = held left q at s v.0 in
    record { first = f; rest-sound = v.1; is-tree = tree-first s f.long }
