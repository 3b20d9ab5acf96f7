-- What comparing and hashing come to: in every operation names and paths are the same when their bytes are. Assumes nothing.
use mathlib.Core.Path.{◌≡◌, ap, ◌∙◌}
use mathlib.Core.Bool.{Bool, true}
use Prim.Native.Nat.{ℕ, ◌*◌, ◌/◌, ◌%◌, ◌<◌}
use native.Mathlib.Omega.{arith}
use Rattle.wire.specs.Numbers.{Bytes, same_bytes}
use Rattle.wire.proofs.Numbers.{same_bytes-true}
use Rattle.rast.proofs.Names.{Equivalence}
use Rattle.operation.specs.declared.Shortening.{Shortening}
use Rattle.operation.specs.Operations.{operation_of, same_paths}
use Rattle.operation.proofs.Lawful.{names_of}
use Rattle.comparing.specs.Compares.{hash_bytes, number_of}

pub name-bytes : (op : Shortening) (a b : Bytes) (r : Bool) → r ≡ same_bytes a b → r ≡ (operation_of op).same_name a b
name-bytes op a b r h = h

pub path_bytes : (op : Shortening) (a b : Bytes) (r : Bool) → r ≡ same_bytes a b → r ≡ same_paths op a b
path_bytes op a b r h = h

pub number_is : (op : Shortening) (s : Bytes) (h r : ℕ) → h ≡ hash_bytes s → r ≡ h * 1831565813 % 4294967296 / 65536 → (r ≡ number_of op s) × (r < 65536)
unfolding number_of
number_is op s h r e f = (f ∙ rw e, omega arith)

-- comparing bases is an equivalence
pub paths-of : (op : Shortening) → Equivalence (same_paths op)
paths-of op = names_of op

-- the number is the same for names, and for paths, that are the same
pub number-name : (op : Shortening) (a b : Bytes) → (operation_of op).same_name a b ≡ true → number_of op a ≡ number_of op b
number-name op a b h = ap (number_of op) (same_bytes-true a b h)

pub number-path : (op : Shortening) (a b : Bytes) → same_paths op a b ≡ true → number_of op a ≡ number_of op b
number-path op a b h = ap (number_of op) (same_bytes-true a b h)
