-- `shortnames::lay_synonyms` meets its contract: synonym by synonym, by the laws of Wraps. Assumes nothing.
use Prim.Native.Nat.{◌+◌, ◌≤◌, ◌^◌}
use lib.ListN.{length}
use Rattle.rewriting.specs.Shorts.{synonym_bytes}
use Rattle.shortnames.proofs.Wraps.{Wrapping}
use Rattle.shortnames.proofs.lay_synonyms.Given as goal

abbrev pub invariant-loop-j : goal.invariant-loop-j
invariant-loop-j l = Wrapping l.name l.r l.w l.at l.unit l.initial.out l.out l.left l.p l.j × (l.at + length (synonym_bytes l.name l.w l.r) ≤ 2 ^ 62)

abbrev pub decreases-loop-j : goal.decreases-loop-j
decreases-loop-j l = l.j
