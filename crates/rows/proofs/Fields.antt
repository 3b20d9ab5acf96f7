-- Each kind is allowed at each field exactly where document 01 allows it: `may_stand`, asked with the byte of a row that reading comes to at the
-- field, says what the definition's row says, and so it does in a List; where the row ends the byte is 0. Assumes nothing.
use mathlib.Core.Path.{◌≡◌, refl, ap, ◌∙◌}
use mathlib.Core.Bool.{true, false}
use mathlib.Core.List.{List, [], ◌∷◌, map}
use Prim.Native.Nat.{ℕ, zero, suc, ◌<◌, ◌≤◌}
use native.Mathlib.Nat.{not-suc-le-zero, le_of_suc-le-suc}
use native.Mathlib.Omega.{arith}
use native.Mathlib.Decide.{dec_le}
use lib.ListN.{length, get_or}
use borrow.Author.Tests.{le-leb, lt-leb}
use Rattle.wire.specs.Numbers.{num}
use Rattle.records.specs.Kinds.{Place, kinds, name, seq, option, one, stands, row_of}
use Rattle.rows.specs.Codes.{place_of, code_of, table}
use Rattle.rows.specs.Fields.{byte_of, inside, inside_of}
use Rattle.rows.proofs.Codes.{AllCoded, row-coded, code-first, code-rest, place-seq, place-option, one_at, place-is-one}
use Rattle.rows.proofs.Tables.{table_at}

byte-none : (i : ℕ) → byte_of i 0 ≡ 0
byte-none zero = refl
byte-none (suc i) = byte-none i

byte_small : (ps : List Place) → AllCoded ps → (i : ℕ) → byte_of i (num (map code_of ps)) < 96
unfolding AllCoded num
byte_small [] a i = let e = byte-none i in omega arith
byte_small (p ∷ ps) a zero = let e = code-first p (num (map code_of ps)) a.0 in let b = a.0.number.below in omega arith
byte_small (p ∷ ps) a (suc i) = rw (code-rest p (num (map code_of ps)) a.0) (byte_small ps a.1 i)

byte-place : (ps : List Place) → AllCoded ps → (i : ℕ) → place_of (byte_of i (num (map code_of ps))) ≡ get_or ps i (one 0)
unfolding AllCoded num place_of
byte-place [] a i = ap place_of (byte-none i)
byte-place (p ∷ ps) a zero = ap place_of (code-first p (num (map code_of ps)) a.0) ∙ a.0.is
byte-place (p ∷ ps) a (suc i) = rw (code-rest p (num (map code_of ps)) a.0) (byte-place ps a.1 i)

byte_past : (ps : List Place) → AllCoded ps → (i : ℕ) → length ps ≤ i → byte_of i (num (map code_of ps)) ≡ 0
unfolding AllCoded num
byte_past [] a i h = byte-none i
byte_past (p ∷ ps) a zero h = absurd (not-suc-le-zero h)
byte_past (p ∷ ps) a (suc i) h = rw (code-rest p (num (map code_of ps)) a.0) (byte_past ps a.1 i (le_of_suc-le-suc h))

-- kind k at field i of a record of kind j
pub allowed : (j i k : ℕ) → stands (place_of (byte_of i (get_or table j 0))) k ≡ stands (get_or (row_of j) i (one 0)) k
allowed j i k = rw (table_at j) (ap (λ (p : Place). stands p k) (byte-place (row_of j) (row-coded j) i))

-- kind k in the List at field i
inside-of : (c k : ℕ) → c < 96 → inside_of c k ≡ inside (place_of c) k
inside-of c k h =
    elim (dec_le 64 c) [
      | yes g ↦ rw (le-leb 64 c g, place-option c g h)
      | no g ↦ elim (dec_le 32 c) [
        | yes f ↦ rw (lt-leb 64 c (omega arith), le-leb 32 c f, place-seq c f (omega arith))
        | no f ↦ rw (lt-leb 64 c (omega arith), lt-leb 32 c (omega arith)) (go (place_of c) (place-is-one c (omega arith)))
      ]
    ]
  where
    go : (p : Place) → one_at c p ≡ true → false ≡ inside p k
    go (kinds from to) t = refl
    go name t = refl
    go (seq p) t = cc
    go (option p) t = cc

pub allowed-inside : (j i k : ℕ) → inside_of (byte_of i (get_or table j 0)) k ≡ inside (get_or (row_of j) i (one 0)) k
allowed-inside j i k =
    rw (table_at j)
    (inside-of (byte_of i (num (map code_of (row_of j)))) k (byte_small (row_of j) (row-coded j) i)
    ∙ ap (λ (p : Place). inside p k) (byte-place (row_of j) (row-coded j) i))

-- past the last field there is no place
pub ended : (j i : ℕ) → length (row_of j) ≤ i → byte_of i (get_or table j 0) ≡ 0
ended j i h = rw (table_at j) (byte_past (row_of j) (row-coded j) i h)
