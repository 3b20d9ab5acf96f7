-- `prefix::is_prefix` meets its contract: name by name, by the laws of Prefixes. Assumes nothing.
use Rattle.operation.specs.Operations.{operation_of}
use Rattle.prefix.proofs.Prefixes.{Left}
use Rattle.prefix.proofs.is_prefix.Given as goal

abbrev pub invariant-loop-i : goal.invariant-loop-i
invariant-loop-i l = Left (operation_of l.scope.op) l.path l.scope.card.now l.scope.root.now l.scope.chain.now l.from l.to l.i

abbrev pub decreases-loop-i : goal.decreases-loop-i
decreases-loop-i l = l.i
