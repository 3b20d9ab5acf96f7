-- The laws of maps from names and of sets of paths, where comparing names is an equivalence. Assumes nothing.
use mathlib.Core.Path.{◌≡◌, refl, sym, ◌∙◌}
use mathlib.Core.List.{List, [], ◌∷◌, ◌++◌, map}
use mathlib.Core.Bool.{true, ◌||◌, cond, or-false, or_assoc}
use mathlib.Core.Option.{none, some, some-injective}
use Prim.Native.Nat.{ℕ}
use native.Mathlib.Omega.{arith}
use Rattle.rast.specs.Path.{Name, Path, whether}
use Rattle.rast.specs.Final.{is_among}
use Rattle.rast.specs.Operation.{Operation}
use Rattle.rast.proofs.Names.{Names, turned, alike, alike_right, paths}
use Rattle.rast.proofs.Tests.{by-test, by-option, one_of}
use Rattle.factor_paths.specs.Mapping.{Entry, equal, get, set, ◌among◌, include}

-- the names of a map, in order
abbrev pub names_of : {A : Type 0} → List (Entry A) → List Name
names_of es = map (λ e. e.name) es

-- all that a map holds is so
unfoldable pub Held : {A : Type 0} → (A → Type 0) → List (Entry A) → Type 0
Held Q [] = Unit {0}
Held Q (e ∷ es) = Q e.held × Held Q es

-- the names of a map are pairwise different
unfoldable pub Apart : Operation → {A : Type 0} → List (Entry A) → Type 0
Apart op [] = Unit {0}
Apart op (e ∷ es) = (get op e.name es ≡ none) × Apart op es

module _ (op : Operation) {A : Type 0} (Q : A → Type 0) where
  -- setting what is so keeps all that a map holds so
  pub set-held : (k : Name) (a : A) (es : List (Entry A)) → Q a → Held Q es → Held Q (set op k a es)
  unfolding set Held
  set-held k a [] q h = (q, tt)
  set-held k a (e ∷ es) q h = one_of (Held Q) (op.same_name e.name k) (q, h.1) (h.0, set-held k a es q h.1)

  -- what is got from a map that holds only such is such
  pub get-held : (k : Name) (a : A) (es : List (Entry A)) → Held Q es → get op k es ≡ some a → Q a
  unfolding get Held
  get-held k a [] h g = absurd (let z : ◌≡◌ {A = ℕ} 0 1 = cc in omega arith)
  get-held k a (e ∷ es) h g =
      by-test (op.same_name e.name k) (λ t. rw (some-injective _ _ (rw t at g)) at h.0) (λ t. get-held k a es h.1 (rw t at g))

module _ (op : Operation) (N : Names op) where
  module _ {A : Type 0} where
    -- what is got depends on the name only up to same_name
    pub get-same : (k n : Name) (es : List (Entry A)) → op.same_name k n ≡ true → get op k es ≡ get op n es
    unfolding get
    get-same k n [] h = refl
    get-same k n (e ∷ es) h = rw (alike_right N k n e.name h, get-same k n es h)

    -- after setting a name, that name has what was set, and any other what it had
    pub get_set : (n k : Name) (a : A) (es : List (Entry A)) → get op n (set op k a es) ≡ cond (op.same_name k n) (some a) (get op n es)
    unfolding get set
    get_set n k a [] = refl
    get_set n k a (e ∷ es) =
        by-test (op.same_name e.name k)
        (λ h. rw (h, alike N e.name k n h) (by-test (op.same_name k n) (λ t. rw t) (λ t. rw t)))
        (λ h. rw (h, get_set n k a es)
        (by-test (op.same_name e.name n)
        (λ t. rw (t, ← alike_right N e.name n k t, turned N k e.name, h))
        (λ t. rw t)))

    -- setting a name that a map has keeps its names, and setting one that it does not have puts that name last
    pub set-names : (k : Name) (a : A) (es : List (Entry A)) → names_of (set op k a es) ≡ whether (get op k es) (names_of es ++ (k ∷ [])) (λ b. names_of es)
    unfolding get set
    set-names k a [] = refl
    set-names k a (e ∷ es) =
        by-test (op.same_name e.name k) (λ h. rw h)
        (λ h. rw (h, set-names k a es) (by-option (get op k es) (λ g. rw g) (λ b g. rw g)))

    -- setting keeps names pairwise different
    pub set_apart : (k : Name) (a : A) (es : List (Entry A)) → Apart op es → Apart op (set op k a es)
    unfolding get set Apart
    set_apart k a [] h = (refl, tt)
    set_apart k a (e ∷ es) h =
        by-test (op.same_name e.name k) (λ g. rw g h)
        (λ g. rw g (get_set e.name k a es ∙ rw (turned N k e.name, g) h.0, set_apart k a es h.1))

  -- the same path is among the same
  pub among_same : (p q : Path) (ps : List Path) → equal op p q ≡ true → ◌among◌ op p ps ≡ ◌among◌ op q ps
  unfolding is_among
  among_same p q [] h = refl
  among_same p q (r ∷ rs) h = rw (alike (paths N) p q r h, among_same p q rs h)

  among-last : (q p : Path) (ps : List Path) → ◌among◌ op q (ps ++ (p ∷ [])) ≡ (◌among◌ op q ps || equal op q p)
  unfolding is_among
  among-last q p [] = or-false (equal op q p)
  among-last q p (r ∷ rs) = rw (among-last q p rs) (sym (or_assoc (equal op q r) (◌among◌ op q rs) (equal op q p)))

  -- a path is among those with p included if it is p or was among them
  pub among-include : (q p : Path) (ps : List Path) → ◌among◌ op q (include op p ps) ≡ (◌among◌ op q ps || equal op q p)
  among-include q p ps =
      by-test (◌among◌ op p ps)
      (λ h. rw h (by-test (equal op q p) (λ e. rw (e, among_same q p ps e, h)) (λ e. rw e (sym (or-false (◌among◌ op q ps))))))
      (λ h. rw h (among-last q p ps))
