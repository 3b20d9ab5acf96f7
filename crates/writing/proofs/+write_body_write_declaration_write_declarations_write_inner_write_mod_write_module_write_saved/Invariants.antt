-- The ring of `writing` meets its contracts: the laws of Pieces, Going and Tests at each member. Assumes nothing.
use mathlib.Core.Path.{◌≡◌}
use mathlib.Core.List.{[]}
use Prim.Native.Nat.{◌+◌, ◌*◌, ◌-◌}
use lib.ListN.{length}
use Rattle.adding.specs.Adds.{table}
use Rattle.modules.specs.Modules.{made, declaration_made, module_made}
use Rattle.writing.specs.Wrote.{place_after}
use Rattle.writing.proofs.Going.{Going}
use Rattle.writing.proofs.+write_body_write_declaration_write_declarations_write_inner_write_mod_write_module_write_saved.Given as goal

abbrev pub decreases-write_body : goal.decreases-write_body
decreases-write_body l = 7 * l.left + 3

abbrev pub decreases-write_declaration : goal.decreases-write_declaration
decreases-write_declaration l = 7 * l.left + 1

abbrev pub decreases-write_declarations : goal.decreases-write_declarations
decreases-write_declarations l = 7 * l.left + 2

abbrev pub decreases-write_inner : goal.decreases-write_inner
decreases-write_inner l = 7 * l.left + 7

abbrev pub decreases-write_mod : goal.decreases-write_mod
decreases-write_mod l = 7 * l.left + 4

abbrev pub decreases-write_module : goal.decreases-write_module
decreases-write_module l = 7 * l.left + 5

abbrev pub decreases-write_saved : goal.decreases-write_saved
decreases-write_saved l = 7 * l.left + 6

abbrev pub invariant-write_declarations-loop-i : goal.invariant-write_declarations-loop-i
invariant-write_declarations-loop-i l =
    Going l.scope.card.now (declaration_made l.scope.op l.scope.card.now l.scope.root.now (module_made l.scope.op l.scope.card.now l.scope.root.now (l.left - 1)) l.left l.scope.chain.now l.at) l.initial.out l.from l.to (made [] 0 l.at (table l.pairs l.initial.work)) l.out l.work l.i l.p
    (place_after l.full) l.held.owner l.held.pairs
    × (length l.out ≡ length l.initial.out) × (length l.work ≡ length l.initial.work)

abbrev pub decreases-write_declarations-loop-i : goal.decreases-write_declarations-loop-i
decreases-write_declarations-loop-i l = l.to - l.i
