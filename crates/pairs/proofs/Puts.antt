-- Putting a pair into the table is adding it to the mapping. Assumes nothing.
use mathlib.Core.Path.{◌≡◌, refl, ap, sym, subst, ◌∙◌}
use mathlib.Core.List.{List, [], ◌∷◌, ◌++◌, append-nil, append_assoc}
use mathlib.Core.Bool.{true, false, cond, false≢true}
use mathlib.Core.Option.{Option, none, some, some-injective}
use Prim.Native.Nat.{ℕ, ◌+◌}
use native.Mathlib.Omega.{arith}
use lib.ListN.{length, length-append}
use Rattle.rast.specs.Path.{Name, Path, whether}
use Rattle.rast.specs.Final.{is_among}
use Rattle.rast.specs.Operation.{Operation}
use Rattle.rast.proofs.Names.{Names, alike_right}
use Rattle.rast.proofs.Tests.{by-test, by-option}
use Rattle.factor_paths.specs.Mapping.{Entry, entry, Mapping, no_mapping, Provenance, get, set, ◌among◌, include, Add, ToFinalReplacement, pairs}
use Rattle.factor_paths.proofs.Final.{get-final}
use Rattle.factor_paths.proofs.Mappings.{Good, add-get, add-keys}
use Rattle.pairs.specs.Pairs.{Pair, pair, listed, bases_of, put, add_all, names_after, Is}

module _ (op : Operation) where
  -- setting what a name has changes nothing
  set-got : {A : Type 0} (k : Name) (a : A) (es : List (Entry A)) → get op k es ≡ some a → set op k a es ≡ es
  unfolding get set
  set-got k a [] h = absurd (let z : ◌≡◌ {A = ℕ} 0 1 = cc in omega arith)
  set-got k a (e ∷ es) h =
      by-test (op.same_name e.name k)
      (λ t. rw t (ap (λ (x : _). entry e.name x ∷ es) (sym (some-injective _ _ (rw t at h)))))
      (λ t. rw t (ap (λ (x : List (Entry _)). e ∷ x) (set-got k a es (rw t at h))))

  -- how many pairs there are after setting
  set_new : (k : Name) (a : List Path) (es : Provenance) → get op k es ≡ none → pairs (set op k a es) ≡ pairs es + length a
  unfolding get set pairs
  set_new k a [] h = omega arith
  set_new k a (e ∷ es) h =
      by-test (op.same_name e.name k)
      (λ t. absurd (let g = rw t at h in let z : ◌≡◌ {A = ℕ} 0 1 = cc in omega arith))
      (λ t. rw t (let g = set_new k a es (rw t at h) in omega arith))

  set-old : (k : Name) (a b : List Path) (es : Provenance) → get op k es ≡ some b → pairs (set op k a es) + length b ≡ pairs es + length a
  unfolding get set pairs
  set-old k a b [] h = absurd (let z : ◌≡◌ {A = ℕ} 0 1 = cc in omega arith)
  set-old k a b (e ∷ es) h =
      by-test (op.same_name e.name k)
      (λ t. rw t (let g : length e.held ≡ length b = ap length (some-injective _ _ (rw t at h)) in omega arith))
      (λ t. rw t (let g = set-old k a b es (rw t at h) in omega arith))

  -- adding one after the other
  add-last : (m : Mapping) (t : List Pair) (k : Name) (b : Path) → add_all op m (t ++ (pair k b ∷ [])) ≡ Add op (add_all op m t) k b
  unfolding add_all
  add-last m [] k b = refl
  add-last m (p ∷ t) k b = add-last (Add op m p.name p.base) t k b

  bases-last : (t : List Pair) (k : Name) (b : Path) (n : Name)
      → bases_of op (t ++ (pair k b ∷ [])) n ≡ cond (op.same_name k n) (bases_of op t n ++ (b ∷ [])) (bases_of op t n)
  unfolding bases_of
  bases-last [] k b n = refl
  bases-last (p ∷ t) k b n =
      by-test (op.same_name p.name n)
      (λ h. rw (h, bases-last t k b n) (by-test (op.same_name k n) (λ g. rw g) (λ g. rw g)))
      (λ h. rw (h, bases-last t k b n))

  names-last : (ahead t : List Pair) (k : Name) (b : Path)
      → names_after op ahead (t ++ (pair k b ∷ [])) ≡ names_after op ahead t ++ whether (listed (bases_of op (ahead ++ t) k)) (k ∷ []) (λ bs. [])
  unfolding names_after
  names-last ahead [] k b = rw (append-nil ahead)
  names-last ahead (p ∷ t) k b =
      rw (names-last (ahead ++ (p ∷ [])) t k b, append_assoc ahead (p ∷ []) t)
      (by-option (listed (bases_of op ahead p.name)) (λ e. rw e) (λ bs e. rw e))

  module _ (N : Names op) where
    bases-same : (t : List Pair) (k n : Name) → op.same_name k n ≡ true → bases_of op t k ≡ bases_of op t n
    unfolding bases_of
    bases-same [] k n h = refl
    bases-same (p ∷ t) k n h = rw (alike_right N k n p.name h, bases-same t k n h)

    pub none_is : Is op [] no_mapping
    unfolding add_all pairs get bases_of names_after
    none_is = record { added = refl; count = refl; names = refl; bases = λ n. refl }

    listed-some : (b : Path) (bs : List Path) → ◌among◌ op b bs ≡ true → listed bs ≡ some bs
    unfolding is_among
    listed-some b [] a = absurd (false≢true a)
    listed-some b (c ∷ bs) a = refl

    listed-last : (b : Path) (bs : List Path) → ◌among◌ op b bs ≡ false → some (whether (listed bs) (b ∷ []) (λ ps. include op b ps)) ≡ listed (bs ++ (b ∷ []))
    listed-last b [] a = refl
    listed-last b (c ∷ bs) a = rw a

    -- adding a pair that is there changes nothing
    again : (m : Mapping) (k : Name) (b : Path) (bs : List Path) → get op k m.provenance ≡ some bs → ◌among◌ op b bs ≡ true → Add op m k b ≡ m
    unfolding Add
    again m k b bs g a = rw (g, a, set-got k bs m.provenance g)

    -- adding another is one pair more
    one_more : (m : Mapping) (k : Name) (b : Path) (bs : List Path) → get op k m.provenance ≡ listed bs → ◌among◌ op b bs ≡ false
        → pairs (Add op m k b).provenance ≡ pairs m.provenance + 1
    unfolding Add
    one_more m k b [] g a = rw g (set_new k (b ∷ []) m.provenance g)
    one_more m k b (c ∷ bs) g a =
        rw (g, a) (let e = set-old k ((c ∷ bs) ++ (b ∷ [])) (c ∷ bs) m.provenance g in let l : length ((c ∷ bs) ++ (b ∷ [])) ≡ length (c ∷ bs) + 1 =
        length-append (c ∷ bs) (b ∷ []) in omega arith)

    -- a pair that is there
    old-is : (t : List Pair) (m : Mapping) (k : Name) (b : Path) → Is op t m → ◌among◌ op b (bases_of op t k) ≡ true → Is op t (Add op m k b)
    old-is t m k b i a = subst (Is op t) (sym (again m k b (bases_of op t k) (i.bases k ∙ listed-some b (bases_of op t k) a) a)) i

    -- a new one
    new_is : (t : List Pair) (m : Mapping) (k : Name) (b : Path) → Is op t m → ◌among◌ op b (bases_of op t k) ≡ false
        → Is op (t ++ (pair k b ∷ [])) (Add op m k b)
    new_is t m k b i a =
        record {
          added = add-last no_mapping t k b ∙ ap (λ (x : Mapping). Add op x k b) i.added;
          count = one_more m k b (bases_of op t k) (i.bases k) a ∙ ap (λ (n : ℕ). n + 1) i.count ∙ sym (length-append t (pair k b ∷ []));
          names =
              add-keys op N m k b ∙ rw (i.bases k, i.names, names-last [] t k b)
              (by-option (listed (bases_of op t k)) (λ e. rw e) (λ bs e. rw e (sym (append-nil (names_after op [] t)))));
          bases = λ n. add-get op N m k b n ∙ (by-test (op.same_name k n)
              (λ h. rw (h, i.bases k, bases-last t k b n, h, ← bases-same t k n h) (listed-last b (bases_of op t k) a))
              (λ h. rw (h, bases-last t k b n, h) (i.bases n)));
        }

    pub put_is : (t : List Pair) (m : Mapping) (k : Name) (b : Path) → Is op t m → Is op (put op t k b) (Add op m k b)
    unfolding put
    put_is t m k b i = by-test (◌among◌ op b (bases_of op t k)) (λ a. rw a (old-is t m k b i a)) (λ a. rw a (new_is t m k b i a))

    -- the base chosen for a name, by the bases that stand with it
    pub chosen_is : (t : List Pair) (m : Mapping) (S : Path) (n : Name) → Is op t m → Good op m
        → get op n (ToFinalReplacement op m.provenance S) ≡ whether (listed (bases_of op t n)) none (λ bs. op.chosen_base S bs)
    chosen_is t m S n i g =
        get-final op N n m.provenance S g.apart ∙ ap (λ (o : Option (List Path)). whether o none (λ bs. op.chosen_base S bs)) (i.bases n)
