-- The records that stand one after the other in bytes: how many may be taken does not matter, and in the bytes of canonical records they are these. Assumes
-- nothing.
use mathlib.Core.Path.{◌≡◌, refl, ap, ap₂, ◌∙◌}
use mathlib.Core.Bool.{true, false}
use mathlib.Core.List.{List, [], ◌∷◌}
use Prim.Native.Nat.{ℕ, zero, suc, ◌-◌, ◌≤◌}
use native.Mathlib.Omega.{arith}
use lib.ListN.{length}
use Rattle.wire.specs.Numbers.{Bytes}
use Rattle.records.specs.Record.{Records, nil, ◌▸◌, encode, encode_all, rest_of, first_record}
use Rattle.records.specs.Reading.{short}
use Rattle.records.specs.Canonical.{CanonicalAll}
use Rattle.records.proofs.Tree.{rest-length}
use Rattle.records.proofs.Front.{encode-rest, encode-short}
use Rattle.rast.proofs.Tests.{by-test}
use Rattle.gathering.proofs.Parts.{encode-first}
use Rattle.rewriting.specs.Rewrites.{parts_up_to, parts_of}

-- no bytes are short of a record
none-short : (c : Bytes) → length c ≤ 0 → short c ≡ true
none-short [] h = refl
none-short (b ∷ c) h = absurd (omega arith)

up_to-same : (n m : ℕ) (c : Bytes) → length c ≤ n → length c ≤ m → parts_up_to n c ≡ parts_up_to m c
unfolding parts_up_to
up_to-same zero zero c h g = refl
up_to-same zero (suc m) c h g = rw (none-short c h)
up_to-same (suc n) zero c h g = rw (none-short c g)
up_to-same (suc n) (suc m) c h g =
    by-test (short c) (λ t. rw t)
    (λ t. let l = rest-length c t in rw (t, up_to-same n m (rest_of c) (omega arith) (omega arith)))

up_to-none : (n : ℕ) (c : Bytes) → short c ≡ true → parts_up_to n c ≡ []
unfolding parts_up_to
up_to-none zero c h = refl
up_to-none (suc n) c h = rw h

pub parts_none : (c : Bytes) → short c ≡ true → parts_of c ≡ []
unfolding parts_of
parts_none c h = up_to-none (length c) c h

pub parts-step : (c : Bytes) → short c ≡ false → parts_of c ≡ first_record c ∷ parts_of (rest_of c)
unfolding parts_of parts_up_to
parts-step c h =
    let l = rest-length c h in
    let e : length c ≡ suc (length c - 1) = omega arith in
    ap (λ (n : ℕ). parts_up_to n c) e ∙ rw (h, up_to-same (length c - 1) (length (rest_of c)) (rest_of c) (omega arith) (omega arith))

pub parts-end : parts_of [] ≡ []
parts-end = parts_none [] refl

-- the bytes of each of some records
unfoldable pub encode_each : Records → List Bytes
encode_each nil = []
encode_each (r ▸ c) = encode r ∷ encode_each c

-- THE LAW: the parts of canonical records' bytes
pub parts_all : (c : Records) → CanonicalAll c → parts_of (encode_all c) ≡ encode_each c
unfolding encode_all encode_each CanonicalAll
parts_all nil h = parts-end
parts_all (r ▸ c) h =
    parts-step (encode_all (r ▸ c)) (encode-short r (encode_all c) h.0)
    ∙ ap₂ (λ (x : Bytes) (y : List Bytes). x ∷ y) (encode-first r (encode_all c) h.0)
    (ap parts_of (encode-rest r (encode_all c) h.0) ∙ parts_all c h.1)
