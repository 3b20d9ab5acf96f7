-- THE TABLE AS A MAPPING: pairs as bytes mean a mapping, and storing a pair is adding it. Assumes nothing.
use mathlib.Core.Path.{◌≡◌, refl, ap, sym, ◌∙◌}
use mathlib.Core.List.{List, [], ◌∷◌, ◌++◌}
use lib.ListN.{length, length-map}
use Rattle.records.specs.Record.{encode}
use Rattle.records.specs.Canonical.{Canonical}
use Rattle.rast.specs.Path.{Name, Path}
use Rattle.rast.specs.Final.{is_among}
use Rattle.rast.proofs.Names.{turned, paths}
use Rattle.rast.proofs.Tests.{by-test}
use Rattle.factor_paths.specs.Mapping.{Mapping, no_mapping, ◌among◌, Add, pairs}
use Rattle.operation.specs.declared.Shortening.{Shortening}
use Rattle.operation.specs.Operations.{operation_of}
use Rattle.operation.proofs.Lawful.{names_of}
use Rattle.pairs.specs.Pairs.{Pair, pair, bases_of, put}
use Rattle.pairs.specs.Stored.{Stored, stored, bytes_of, holds_pair, store}
use Rattle.pairs.specs.Means.{bytes_of_all, Bases, Means}
use Rattle.pairs.proofs.Puts.{none_is, put_is}
use Rattle.pairs.proofs.Bytes.{bases-same}

bases-last : (ps : List Pair) (k : Name) (b : Path) → Canonical b → Bases ps → Bases (ps ++ (pair k b ∷ []))
unfolding Bases
bases-last [] k b c h = (c, tt)
bases-last (p ∷ ps) k b c h = (h.0, bases-last ps k b c h.1)

bytes-last : (ps : List Pair) (k : Name) (b : Path) → bytes_of_all ps ++ (stored k (encode b) ∷ []) ≡ bytes_of_all (ps ++ (pair k b ∷ []))
bytes-last [] k b = refl
bytes-last (p ∷ ps) k b = ap (λ (t : List Stored). bytes_of p ∷ t) (bytes-last ps k b)

module _ (op : Shortening) where
  pub means-none : Means op [] no_mapping
  unfolding Bases
  means-none = record { pairs = []; is = none_is (operation_of op) (names_of op); bytes = refl; canonical = tt }

  -- the count of answer 8
  pub means-count : (t : List Stored) (m : Mapping) → Means op t m → length t ≡ pairs m.provenance
  means-count t m s = ap length s.bytes ∙ length-map s.pairs bytes_of ∙ sym s.is.count

  -- a pair is there as bytes if its base is among those of its name
  holds-among : (ps : List Pair) (k : Name) (b : Path) → Canonical b → Bases ps
      → holds_pair op (bytes_of_all ps) k (encode b) ≡ ◌among◌ (operation_of op) b (bases_of (operation_of op) ps k)
  unfolding Bases holds_pair is_among bases_of
  holds-among [] k b c h = refl
  holds-among (p ∷ ps) k b c h =
      rw (holds-among ps k b c h.1, bases-same op p.base b h.0 c, turned (paths (names_of op)) p.base b)
      (by-test ((operation_of op).same_name p.name k) (λ t. rw t) (λ t. rw t))

  pub means-put : (t : List Stored) (m : Mapping) (k : Name) (b : Path) → Canonical b → Means op t m
      → Means op (store op t k (encode b)) (Add (operation_of op) m k b)
  unfolding store put
  means-put t m k b c s =
      let old = ◌among◌ (operation_of op) b (bases_of (operation_of op) s.pairs k) in
      let i = put_is (operation_of op) (names_of op) s.pairs m k b s.is in
      let e : holds_pair op t k (encode b) ≡ old =
      ap (λ (x : List Stored). holds_pair op x k (encode b)) s.bytes ∙ holds-among s.pairs k b c s.canonical in
      rw e
      (by-test old
      (λ a. rw a (record { pairs = s.pairs; is = rw a at i; bytes = s.bytes; canonical = s.canonical }))
      (λ a. rw a
      (record {
        pairs = s.pairs ++ (pair k b ∷ []);
        is = rw a at i;
        bytes = ap (λ (x : List Stored). x ++ (stored k (encode b) ∷ [])) s.bytes ∙ bytes-last s.pairs k b;
        canonical = bases-last s.pairs k b c s.canonical;
      })))
