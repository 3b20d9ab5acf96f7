-- `rows::place_of` meets its contract: each arm is a run, and so is each gap before and between them. Assumes nothing.
use mathlib.Core.Path.{refl}
use Prim.Native.Nat.{◌-◌}
use native.Mathlib.Omega.{arith}
use Rattle.rows.specs.Codes.{place_of}
use Rattle.rows.proofs.Runs.{run, run_past}
use Rattle.rows.proofs.place_of.Goals as goal

pub returns-in-16-to-19 : goal.returns-in-16-to-19
unfolding place_of
returns-in-16-to-19 c = run (λ k. 4) 4 0x10 refl c.args.k (omega arith) (omega arith)

pub returns-in-32-to-56 : goal.returns-in-32-to-56
unfolding place_of
returns-in-32-to-56 c = run (λ k. 5) 25 0x20 refl c.args.k (omega arith) (omega arith)

pub returns-in-64-to-94 : goal.returns-in-64-to-94
unfolding place_of
returns-in-64-to-94 c = run (λ k. 6) 31 0x40 refl c.args.k (omega arith) (omega arith)

pub returns-in-96-to-97 : goal.returns-in-96-to-97
unfolding place_of
returns-in-96-to-97 c = run (λ k. 7) 2 0x60 refl c.args.k (omega arith) (omega arith)

pub returns-in-98-to-106 : goal.returns-in-98-to-106
unfolding place_of
returns-in-98-to-106 c = run (λ k. 8) 9 0x62 refl c.args.k (omega arith) (omega arith)

pub returns-in-112-to-117 : goal.returns-in-112-to-117
unfolding place_of
returns-in-112-to-117 c = run (λ k. k - 0x67) 6 0x70 refl c.args.k (omega arith) (omega arith)

pub returns-in-118-to-121 : goal.returns-in-118-to-121
unfolding place_of
returns-in-118-to-121 c = run (λ k. k - 0x68) 4 0x76 refl c.args.k (omega arith) (omega arith)

pub returns-in-122-to-131 : goal.returns-in-122-to-131
unfolding place_of
returns-in-122-to-131 c = run (λ k. k - 0x69) 10 0x7A refl c.args.k (omega arith) (omega arith)

pub returns-in-132-to-134 : goal.returns-in-132-to-134
unfolding place_of
returns-in-132-to-134 c = run (λ k. 0x1A) 3 0x84 refl c.args.k (omega arith) (omega arith)

pub returns-in_default : goal.returns-in_default
unfolding place_of
returns-in_default c = run (λ k. 0) 16 0 refl c.args.k (omega arith) (omega arith)

pub returns-in_default-2 : goal.returns-in_default-2
unfolding place_of
returns-in_default-2 c = run (λ k. 0) 12 0x14 refl c.args.k (omega arith) (omega arith)

pub returns-in_default-3 : goal.returns-in_default-3
unfolding place_of
returns-in_default-3 c = run (λ k. 0) 7 0x39 refl c.args.k (omega arith) (omega arith)

pub returns-in_default-4 : goal.returns-in_default-4
unfolding place_of
returns-in_default-4 c = run (λ k. 0) 1 0x5F refl c.args.k (omega arith) (omega arith)

pub returns-in_default-5 : goal.returns-in_default-5
unfolding place_of
returns-in_default-5 c = run (λ k. 0) 5 0x6B refl c.args.k (omega arith) (omega arith)

pub returns-in_default-6 : goal.returns-in_default-6
returns-in_default-6 c = run_past c.args.k (omega arith)
