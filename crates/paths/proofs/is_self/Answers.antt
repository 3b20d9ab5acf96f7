-- `paths::is_self` meets its contract: SELF is the record of Self. Assumes nothing.
use Rattle.wire.specs.Numbers.{le}
use Rattle.records.specs.Record.{encode}
use Rattle.paths.proofs.is_self.Goals as goal

pub returns : goal.returns
unfolding encode le
returns c = c.same.ensures
