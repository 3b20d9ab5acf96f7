-- The ring of `replacing` meets its contracts: the laws of Ring and Along at each member. Assumes nothing.
use mathlib.Core.Path.{◌≡◌}
use Prim.Native.Nat.{◌+◌, ◌*◌, ◌-◌}
use lib.ListN.{length}
use Rattle.prefix.specs.Prefix.{scope_of}
use Rattle.rewriting.specs.Rewrites.{rewrite}
use Rattle.replacing.proofs.Along.{Along}
use Rattle.replacing.proofs.+replace_expr_replace_fn_replace_kept_replace_parts_replace_record_replace_type.Given as goal

abbrev pub decreases-replace_expr : goal.decreases-replace_expr
decreases-replace_expr l = 4 * l.left + 3

abbrev pub decreases-replace_fn : goal.decreases-replace_fn
decreases-replace_fn l = 4 * l.left + 2

abbrev pub decreases-replace_kept : goal.decreases-replace_kept
decreases-replace_kept l = 4 * l.left + 2

abbrev pub decreases-replace_parts : goal.decreases-replace_parts
decreases-replace_parts l = 4 * l.left + 1

abbrev pub decreases-replace_record : goal.decreases-replace_record
decreases-replace_record l = 4 * l.left

abbrev pub decreases-replace_type : goal.decreases-replace_type
decreases-replace_type l = 4 * l.left + 3

abbrev pub invariant-replace_parts-loop-i : goal.invariant-replace_parts-loop-i
invariant-replace_parts-loop-i l = Along (rewrite (scope_of l.scope) l.work l.left l.again l.w) l.c l.initial.out l.at
    l.out l.i l.p × (length l.out ≡ length l.initial.out)

abbrev pub decreases-replace_parts-loop-i : goal.decreases-replace_parts-loop-i
decreases-replace_parts-loop-i l = length l.c - l.i
