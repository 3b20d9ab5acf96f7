-- Paths compared by their bytes. Assumes nothing.
use mathlib.Core.Path.{◌≡◌}
use mathlib.Core.Bool.{Bool}
use Rattle.wire.specs.Numbers.{same_bytes}
use Rattle.wire.proofs.Numbers.{same_bytes-self, same_bytes-true}
use Rattle.records.specs.Record.{encode}
use Rattle.records.specs.Canonical.{Canonical}
use Rattle.rast.specs.Path.{Path}
use Rattle.rast.specs.Operation.{shortening}
use Rattle.rast.proofs.Tests.{both_ways}
use Rattle.factor_paths.specs.Mapping.{equal}
use Rattle.factor_paths.proofs.SameBytes.{same-bytes, bytes_same}

-- paths compare as their bytes do
pub paths-same : (again : Bool) (p q : Path) → Canonical p → Canonical q → same_bytes (encode p) (encode q) ≡ equal (shortening again) p q
paths-same again p q c d =
    both_ways (same_bytes (encode p) (encode q)) (equal (shortening again) p q)
    (λ h. bytes_same again p q c d (same_bytes-true (encode p) (encode q) h))
    (λ h. rw (same-bytes again p q h) (same_bytes-self (encode q)))
