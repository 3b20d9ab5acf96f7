-- `importing::write_imports` meets its contract: those of the pairs so far are laid. Assumes nothing.
use Rattle.operation.specs.Operations.{weight_bytes}
use Rattle.prefix.specs.Prefix.{scope_of}
use Rattle.choosing.specs.Picks.{uses_of}
use Rattle.laying.specs.Lays.{Laid}
use Rattle.rewriting.specs.Imports.{weighed_uses}
use Rattle.importing.proofs.write_imports.Given as goal

abbrev pub invariant-loop-i : goal.invariant-loop-i
invariant-loop-i l = Laid l.initial.out 0 (weighed_uses (weight_bytes l.scope.op) (uses_of (scope_of l.scope) l.work 0 l.i)) l.p l.out
