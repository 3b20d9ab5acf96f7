-- `fields::name_at` meets its contract, by the declaration's kind. Assumes nothing.
use native.Mathlib.Omega.{arith}
use Rattle.fields.proofs.Declared.{name-trait, name-fn, name-low, name-high, name-third, name-extern, name-mod}
use Rattle.fields.proofs.name_at.Goals as goal

pub returns-then-module-eq97 : goal.returns-then-module-eq97
returns-then-module-eq97 c = (
  name-extern _ _ _ c.part-it.ensures c.in-98.is _ c.record_kind-module.ensures c.if-module-eq97.true,
  omega arith,
)

pub returns-else-module-eq97 : goal.returns-else-module-eq97
returns-else-module-eq97 c = (
  name-mod _ _ _ c.part-it.ensures c.in-98.is _ c.record_kind-module.ensures _ c.if-module-eq97.false c.offset_of.ensures,
  omega (arith, c.offset_of.ensures.1),
)

pub returns-in-104 : goal.returns-in-104
returns-in-104 c = name-trait _ _ _ c.part-it.ensures _ _ c.in-104.is c.offset_of-in-104.ensures c.trait_name_at.ensures

pub returns-in-105 : goal.returns-in-105
returns-in-105 c = (
  name-fn _ _ _ c.part-it.ensures _ c.in-105.is c.offset_of-in-105.ensures,
  omega (arith, c.offset_of-in-105.ensures.1),
)

pub returns-in-99-to-102 : goal.returns-in-99-to-102
returns-in-99-to-102 c = (
  name-third _ _ _ c.part-it.ensures _ (omega arith) (omega arith) c.offset_of-in-99-to-102.ensures,
  omega (arith, c.offset_of-in-99-to-102.ensures.1),
)

pub returns-in_default : goal.returns-in_default
returns-in_default c = (name-low c.args.s.now _ c.args.k c.part-it.ensures (omega arith), omega arith)

pub returns-in_default-2 : goal.returns-in_default-2
returns-in_default-2 c = (name-high c.args.s.now _ c.args.k c.part-it.ensures (omega arith) (λ e. absurd (omega arith)) (λ e. absurd (omega arith)), omega arith)
