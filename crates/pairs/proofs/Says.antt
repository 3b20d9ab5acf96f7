-- THE TABLE'S ANSWERS: what a table of pairs says of a mapping that it means is the text's final replacement, and its uses. Assumes nothing.
use mathlib.Core.Path.{◌≡◌, refl, ap, sym, subst, ◌∙◌}
use mathlib.Core.List.{List, [], ◌∷◌, ◌++◌, map, append_assoc}
use mathlib.Core.Bool.{true, false, cond}
use mathlib.Core.Option.{Option, none, some}
use Prim.Native.Nat.{ℕ, suc}
use native.Mathlib.Omega.{arith}
use lib.ListN.{length, take, length-append, length-map}
use Rattle.wire.specs.Numbers.{Bytes}
use Rattle.records.specs.Record.{Records, nil, ◌▸◌, encode}
use Rattle.records.specs.Canonical.{Canonical}
use Rattle.rast.specs.Path.{Name, Path, MSel, whether}
use Rattle.rast.specs.Operation.{Operation}
use Rattle.rast.proofs.Chosen.{Each}
use Rattle.rast.proofs.Tests.{by-test, by-option, one_of}
use Rattle.factor_paths.specs.Mapping.{Mapping, FinalReplacement, use_decl, equal, get, ToFinalReplacement, ToUseStatements}
use Rattle.factor_paths.proofs.Mappings.{Good}
use Rattle.operation.specs.declared.Shortening.{Shortening}
use Rattle.operation.specs.Operations.{operation_of, same_paths}
use Rattle.operation.proofs.Lawful.{names_of}
use Rattle.pairs.specs.Pairs.{Pair, pair, listed, bases_of, names_after}
use Rattle.pairs.specs.Stored.{Stored, stored, bytes_of}
use Rattle.pairs.specs.Choice.{bases_named, choice, pair_of, named, use_of, uses_from, uses}
use Rattle.pairs.specs.Means.{bytes_of_all, Bases, Means}
use Rattle.pairs.proofs.Puts.{chosen_is}
use Rattle.pairs.proofs.Bytes.{bytes_if, CanonicalIf, bases-same, choice-none, choice-bytes, choice-canonical}

-- the declarations of uses
unfoldable pub use_decls : List Pair → Records
use_decls [] = nil
use_decls (u ∷ us) = use_decl (MSel u.base u.name) ▸ use_decls us

-- names and bases as bytes are those of use declarations, in order
pub record Declares (us : List Stored) (c : Records) : Type 0 where
  pub pairs : List Pair
  pub canonical : Bases pairs
  pub bytes : us ≡ bytes_of_all pairs
  pub decls : c ≡ use_decls pairs

pair-at : (ahead : List Pair) (p : Pair) (rest : List Pair) → pair_of (bytes_of_all (ahead ++ (p ∷ rest))) (length ahead) ≡ some (bytes_of p)
unfolding pair_of
pair-at [] p rest = refl
pair-at (q ∷ ahead) p rest = pair-at ahead p rest

take-bytes : (ahead rest : List Pair) → take (length ahead) (bytes_of_all (ahead ++ rest)) ≡ bytes_of_all ahead
take-bytes [] rest = refl
take-bytes (q ∷ ahead) rest = ap (λ (s : List Stored). bytes_of q ∷ s) (take-bytes ahead rest)

module _ (op : Shortening) where
  abbrev Op : Operation
  Op = operation_of op

  bases-each : (ps : List Pair) (k : Name) → Bases ps → Each Canonical (bases_of Op ps k)
  unfolding Bases Each bases_of
  bases-each [] k h = tt
  bases-each (p ∷ ps) k h = one_of (Each Canonical) (Op.same_name p.name k) (h.0, bases-each ps k h.1) (bases-each ps k h.1)

  bases-bytes : (ps : List Pair) (k : Name) → bases_named op (bytes_of_all ps) k ≡ map encode (bases_of Op ps k)
  unfolding bases_named bases_of
  bases-bytes [] k = refl
  bases-bytes (p ∷ ps) k = rw (bases-bytes ps k) (by-test (Op.same_name p.name k) (λ t. rw t) (λ t. rw t))

  named-listed : (ps : List Pair) (k : Name) → named op (bytes_of_all ps) k ≡ whether (listed (bases_of Op ps k)) false (λ bs. true)
  unfolding named bases_of
  named-listed [] k = refl
  named-listed (p ∷ ps) k = by-test (Op.same_name p.name k) (λ t. rw t) (λ t. rw t (named-listed ps k))

  -- the use of one pair more, and the statement of its name, where a pair ahead has the name and where none has
  module _ (prefix : Bytes) (t : List Stored) (i n : ℕ) (p : Stored) (at : pair_of t i ≡ some p) where
    abbrev After : List Stored
    After = uses_from op prefix t (suc i) n

    use-again : named op (take i t) p.name ≡ true → uses_from op prefix t i (suc n) ≡ After
    unfolding uses_from use_of
    use-again h = rw (at, h)

    use-new : (o : Option Bytes) → named op (take i t) p.name ≡ false → choice op prefix (bases_named op t p.name) ≡ o
        → uses_from op prefix t i (suc n) ≡ whether (whether o none (λ b. cond (same_paths op b prefix) none (some b))) After (λ b. stored p.name b ∷ After)
    unfolding uses_from use_of
    use-new o h e = rw (at, h, e)

  module _ (r : FinalReplacement) (S : Path) (ahead : List Pair) (p : Pair) (rest : List Pair) where
    abbrev Others : Records
    Others = ToUseStatements Op (names_after Op (ahead ++ (p ∷ [])) rest) r S

    names-again : (bs : List Path) → listed (bases_of Op ahead p.name) ≡ some bs → ToUseStatements Op (names_after Op ahead (p ∷ rest)) r S ≡ Others
    unfolding names_after
    names-again bs e = rw e

    names-new : listed (bases_of Op ahead p.name) ≡ none → ToUseStatements Op (names_after Op ahead (p ∷ rest)) r S
        ≡ whether (get Op p.name r) Others (λ base. cond (equal Op base S) Others (use_decl (MSel base p.name) ▸ Others))
    unfolding names_after ToUseStatements
    names-new e = rw e

  module _ (S : Path) (canonical : Canonical S) where
    -- one name's use and its statement
    one-use : (k : Name) (others : List Stored) (c : Records) → Declares others c → (o : Option Path) → CanonicalIf o
        → Declares
        (whether (whether (bytes_if o) none (λ b. cond (same_paths op b (encode S)) none (some b))) others (λ b. stored k b ∷ others))
        (whether o c (λ base. cond (equal Op base S) c (use_decl (MSel base k) ▸ c)))
    unfolding use_decls Bases
    one-use k others c d none h = d
    one-use k others c d (some q) h =
        rw (bases-same op q S h canonical)
        (by-test (equal Op q S)
        (λ t. rw t d)
        (λ t. rw t
        (record {
          pairs = pair k q ∷ d.pairs;
          canonical = (h, d.canonical);
          bytes = ap (λ (s : List Stored). stored k (encode q) ∷ s) d.bytes;
          decls = ap (λ (x : Records). use_decl (MSel q k) ▸ x) d.decls;
        })))

    -- the uses that the rest of the pairs bring, where each name has in the table what it has in a final replacement
    module _ (r : FinalReplacement) (all : List Pair)
        (says : (k : Name) → choice op (encode S) (bases_named op (bytes_of_all all) k) ≡ bytes_if (get Op k r))
        (canonicals : (k : Name) → CanonicalIf (get Op k r)) where
      abbrev Rest : (ahead rest : List Pair) → ℕ → ℕ → Type 0
      Rest ahead rest i n = Declares (uses_from op (encode S) (bytes_of_all all) i n) (ToUseStatements Op (names_after Op ahead rest) r S)

      next : (ahead : List Pair) (p : Pair) (rest : List Pair) (n : ℕ) → all ≡ ahead ++ (p ∷ rest)
          → Rest (ahead ++ (p ∷ [])) rest (suc (length ahead)) n → Rest ahead (p ∷ rest) (length ahead) (suc n)
      next ahead p rest n e d =
          let f : pair_of (bytes_of_all all) (length ahead) ≡ some (bytes_of p) = rw e (pair-at ahead p rest) in
          let g : named op (take (length ahead) (bytes_of_all all)) p.name ≡ whether (listed (bases_of Op ahead p.name)) false (λ bs. true) =
          rw (e, take-bytes ahead (p ∷ rest)) (named-listed ahead p.name) in
          by-option (listed (bases_of Op ahead p.name))
          (λ o. rw (
            use-new (encode S) (bytes_of_all all) (length ahead) n (bytes_of p) f (bytes_if (get Op p.name r)) (rw o at g) (says p.name),
            names-new r
                S ahead p rest o,
          )
          (one-use p.name _ _ d (get Op p.name r) (canonicals p.name)))
          (λ bs o. rw (use-again (encode S) (bytes_of_all all) (length ahead) n (bytes_of p) f (rw o at g), names-again r S ahead p rest bs o) d)

      uses-from : (ahead rest : List Pair) → all ≡ ahead ++ rest → Rest ahead rest (length ahead) (length rest)
      unfolding uses_from ToUseStatements names_after use_decls Bases
      uses-from ahead [] e = record { pairs = []; canonical = tt; bytes = refl; decls = refl }
      uses-from ahead (p ∷ rest) e =
          let l : length (ahead ++ (p ∷ [])) ≡ suc (length ahead) = length-append ahead (p ∷ []) ∙ omega arith in
          next ahead p rest (length rest) e
          (subst (λ (i : ℕ). Rest (ahead ++ (p ∷ [])) rest i (length rest)) l
          (uses-from (ahead ++ (p ∷ [])) rest (e ∙ sym (append_assoc ahead (p ∷ []) rest))))

  module _ (t : List Stored) (m : Mapping) (means : Means op t m) (good : Good Op m) (S : Path) (canonical : Canonical S) where
    abbrev Final : FinalReplacement
    Final = ToFinalReplacement Op m.provenance S

    abbrev BasesOf : Name → List Path
    BasesOf n = bases_of Op means.pairs n

    final-is : (n : Name) → get Op n Final ≡ whether (listed (BasesOf n)) none (λ ps. Op.chosen_base S ps)
    final-is n = chosen_is Op (names_of op) means.pairs m S n means.is good

    -- no bases have none chosen, in the table and in the mapping
    listed-bytes : (bs : List Path) → Each Canonical bs → choice op (encode S) (map encode bs) ≡ bytes_if (whether (listed bs) none (λ ps. Op.chosen_base S ps))
    listed-bytes [] h = choice-none op (encode S)
    listed-bytes (b ∷ bs) h = choice-bytes op S canonical (b ∷ bs) h

    listed-canonical : (bs : List Path) → Each Canonical bs → CanonicalIf (whether (listed bs) none (λ ps. Op.chosen_base S ps))
    listed-canonical [] h = tt
    listed-canonical (b ∷ bs) h = choice-canonical op S canonical (b ∷ bs) h

    says-pairs : (n : Name) → choice op (encode S) (bases_named op (bytes_of_all means.pairs) n) ≡ bytes_if (get Op n Final)
    says-pairs n = rw (bases-bytes means.pairs n, final-is n) (listed-bytes (BasesOf n) (bases-each means.pairs n means.canonical))

    -- what it has is canonical
    pub final-canonical : (n : Name) → CanonicalIf (get Op n Final)
    final-canonical n = rw (final-is n) (listed-canonical (BasesOf n) (bases-each means.pairs n means.canonical))

    -- the base chosen for a name
    pub chosen-says : (n : Name) → choice op (encode S) (bases_named op t n) ≡ bytes_if (get Op n Final)
    chosen-says n = ap (λ (x : List Stored). choice op (encode S) (bases_named op x n)) means.bytes ∙ says-pairs n

    -- the uses
    pub uses-says : Declares (uses op (encode S) t) (ToUseStatements Op m.keys Final S)
    uses-says =
        let u = uses-from S canonical Final means.pairs says-pairs final-canonical [] means.pairs refl in
        rw (means.is.names, means.bytes, length-map means.pairs bytes_of) u
