-- `growth::type_growth` meets its contract. Assumes nothing.
use native.Mathlib.Omega.{arith}
use Rattle.growth.proofs.Most.{type-fits, type-sum-fits, type-is}
use Rattle.growth.proofs.type_growth.Goals as goal

pub overflow_mul-result : goal.overflow_mul-result
overflow_mul-result c =
    omega (arith, type-fits c.args.charged c.args.w c.args.r.now _ c.requires.0 c.requires.1 c.name_in.ensures)

pub overflow_add-result-2 : goal.overflow_add-result-2
overflow_add-result-2 c =
    omega (
      arith,
      type-sum-fits c.args.charged c.args.w c.args.r.now _ c.requires.0 c.requires.1
          c.name_in.ensures c.use_of.result c.use_of.ensures,
    )

pub returns : goal.returns
returns c =
    type-is c.args.charged c.args.w c.args.r.now _ c.requires.0 c.requires.1
    c.name_in.ensures c.use_of.result c.use_of.ensures
