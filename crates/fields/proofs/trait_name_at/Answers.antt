-- `fields::trait_name_at` meets its contract, by the kind of the type. Assumes nothing.
use native.Mathlib.Omega.{arith}
use Rattle.fields.proofs.Declared.{trait-plain, trait-other, trait-applied, trait-applied-other}
use Rattle.fields.proofs.trait_name_at.Goals as goal

pub returns-in-44 : goal.returns-in-44
returns-in-44 c = (trait-plain _ _ _ _ c.part-t.ensures c.record_kind.ensures c.in-44.is, omega (arith, c.requires))

pub returns-then-base-eq44 : goal.returns-then-base-eq44
returns-then-base-eq44 c = (
  trait-applied _ _ _ _ c.part-t.ensures c.record_kind.ensures (λ e. absurd (omega arith)) _ _ c.in-46.is c.part.ensures c.record_kind-base.ensures
      c.if-base-eq44.true,
  omega (arith, c.requires),
)

pub returns-else-base-eq44 : goal.returns-else-base-eq44
returns-else-base-eq44 c = (
  trait-applied-other _ _ _ _ c.part-t.ensures c.record_kind.ensures (λ e. absurd (omega arith)) _ _ c.in-46.is c.part.ensures c.record_kind-base.ensures
      c.if-base-eq44.false,
  omega arith,
)

pub returns-in_default : goal.returns-in_default
returns-in_default c =
    (trait-other _ _ _ _ c.part-t.ensures c.record_kind.ensures (λ e. absurd (omega arith)) (λ e. absurd (omega arith)), omega arith)
