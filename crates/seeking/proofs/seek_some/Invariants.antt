-- `seeking::seek_some` meets its contract: what is left of the chain has what the whole has, and no pair that is passed is sought. Assumes nothing.
use Rattle.prefix.specs.Prefix.{scope_of}
use Rattle.chains.specs.Chains.{is_wanted}
use Rattle.chains.proofs.Tests.{Seeking}
use Rattle.seeking.proofs.seek_some.Given as goal

abbrev pub invariant-loop-g : goal.invariant-loop-g
invariant-loop-g l = Seeking (is_wanted (scope_of l.scope) l.work l.name.bytes.now l.name.number l.want) l.work l.from l.g

abbrev pub decreases-loop-g : goal.decreases-loop-g
decreases-loop-g l = l.g
