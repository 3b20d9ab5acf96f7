-- 01, "Points and looking up": paths are the same when their records' bytes are. Assumes nothing.
use mathlib.Core.Path.{◌≡◌, ap, subst}
use mathlib.Core.Bool.{Bool, true}
use Rattle.records.specs.Record.{encode}
use Rattle.records.specs.Canonical.{Canonical}
use Rattle.records.proofs.Tree.{encode_injective}
use Rattle.rast.specs.Path.{Path}
use Rattle.rast.specs.Operation.{shortening}
use Rattle.rast.proofs.Names.{paths, shortening-names, same-equal}
use Rattle.factor_paths.specs.Mapping.{equal}

pub same-bytes : (again : Bool) (p q : Path) → equal (shortening again) p q ≡ true → encode p ≡ encode q
same-bytes again p q e = ap encode (same-equal p q e)

pub bytes_same : (again : Bool) (p q : Path) → Canonical p → Canonical q → encode p ≡ encode q → equal (shortening again) p q ≡ true
bytes_same again p q c d e = subst (λ (r : Path). equal (shortening again) p r ≡ true) (encode_injective p q c d e)
    ((paths (shortening-names again)).reflexive p)
