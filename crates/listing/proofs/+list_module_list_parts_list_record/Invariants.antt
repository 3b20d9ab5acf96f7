-- The ring of `listing` meets its contracts: the laws of Beside and Ring at each member. Assumes nothing.
use Prim.Native.Nat.{◌+◌, ◌*◌, ◌-◌}
use lib.ListN.{length}
use Rattle.listing.specs.Lists.{record_places}
use Rattle.listing.proofs.Beside.{Beside}
use Rattle.listing.proofs.+list_module_list_parts_list_record.Given as goal

abbrev pub decreases-list_module : goal.decreases-list_module
decreases-list_module l = 3 * l.left + 2

abbrev pub decreases-list_parts : goal.decreases-list_parts
decreases-list_parts l = 3 * l.left + 1

abbrev pub decreases-list_record : goal.decreases-list_record
decreases-list_record l = 3 * l.left

abbrev pub invariant-list_parts-loop-i : goal.invariant-list_parts-loop-i
invariant-list_parts-loop-i l = Beside (record_places l.left) l.c l.d l.at l.initial.list l.n l.list l.i l.j l.m

abbrev pub decreases-list_parts-loop-i : goal.decreases-list_parts-loop-i
decreases-list_parts-loop-i l = length l.c - l.i
