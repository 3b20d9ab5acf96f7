-- `rows::is_nameless` meets its contract. Assumes nothing.
use mathlib.Core.Path.{sym, ◌∙◌}
use native.Mathlib.Omega.{arith}
use borrow.Author.Tests.{eq-eqb}
use Rattle.rows.proofs.Names.{no-name-due, name-empty, name-one}
use Rattle.rows.proofs.is_nameless.Goals as goal

pub returns-in-3-eq1-empty : goal.returns-in-3-eq1-empty
returns-in-3-eq1-empty c = name-empty _ _ _ c.in-3-eq1-empty.is-0 c.in-3-eq1-empty.is-1 (omega (arith, c.in-3-eq1-empty.len_below))

pub returns-in-3-eq1-empty-2 : goal.returns-in-3-eq1-empty-2
returns-in-3-eq1-empty-2 c =
    sym (eq-eqb _ 33 (omega arith))
    ∙ name-one _ _ _ c.in-3-eq1-empty.is-0 c.in-3-eq1-empty.is-1 (omega (arith, c.in-3-eq1-empty.len_below)) (λ e. absurd (omega (arith, c.in-3-eq1-empty.len_at_least)))

pub returns-in_default-4 : goal.returns-in_default-4
returns-in_default-4 c = sym (no-name-due _ _ _ c.in_default.is-0.1)
