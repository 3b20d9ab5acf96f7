-- `paths::is_runtime` meets its contract: RUNTIME is the record of ::dafny_runtime. Assumes nothing.
use Rattle.wire.specs.Numbers.{le}
use Rattle.records.specs.Record.{encode}
use Rattle.paths.proofs.is_runtime.Goals as goal

pub returns : goal.returns
unfolding encode le
returns c = c.same.ensures
