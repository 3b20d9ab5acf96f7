-- `chains::bucket` meets its contract. Assumes nothing.
use native.Mathlib.Omega.{arith}
use Rattle.chains.proofs.Tests.{bucket-fits, bucket-is}
use Rattle.chains.proofs.bucket.Goals as goal

pub overflow_mul-result : goal.overflow_mul-result
overflow_mul-result c = omega (arith, bucket-fits c.args.work.now c.args.number _ c.room.ensures)

pub returns : goal.returns
returns c = bucket-is _ _ _ c.room.ensures
