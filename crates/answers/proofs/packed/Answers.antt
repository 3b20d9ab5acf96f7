-- `answers::packed` meets its contract: a number is at most 9, so that it fits 64 bits. Assumes nothing.
use native.Mathlib.Omega.{arith}
use Rattle.answers.specs.Answers.{packed}
use Rattle.answers.proofs.Plain.{number_small}
use borrow.Author.Rules.{rules}
use Rattle.answers.proofs.packed.Goals as goal

pub overflow_mul-result : goal.overflow_mul-result
overflow_mul-result c = omega (arith, number_small c.args.a)

pub overflow_add-result : goal.overflow_add-result
overflow_add-result c = omega (arith, number_small c.args.a)

pub returns : goal.returns
unfolding packed
returns c = search rules
