-- Comparing paths is an equivalence where comparing names is. Assumes nothing.
use mathlib.Core.Path.{◌≡◌, refl, sym, ap₂, ◌∙◌}
use mathlib.Core.Bool.{Bool, true, and-eq-true_iff, false≢true}
use lib.Dec.{eqb}
use borrow.Author.Tests.{eqb-true, eq-eqb}
use Rattle.wire.specs.Numbers.{same_bytes}
use Rattle.wire.proofs.Numbers.{same_bytes-self, same_bytes-true}
use Rattle.records.specs.Record.{Records, leaf, node, nil, ◌▸◌}
use Rattle.rast.specs.Path.{Name, Path, same_path, same_parts, MSel}
use Rattle.rast.specs.Operation.{Operation, shortening}
use Rattle.rast.proofs.Tests.{both_ways, both, both-twice}

-- a test is an equivalence
pub record Equivalence {A : Type 0} (same : A → A → Bool) : Type 0 where
  pub reflexive : (a : A) → same a a ≡ true
  pub symmetric : (a b : A) → same a b ≡ true → same b a ≡ true
  pub transitive : (a b c : A) → same a b ≡ true → same b c ≡ true → same a c ≡ true

-- comparing an operation's names is one
abbrev pub Names : Operation → Type 0
Names op = Equivalence op.same_name

module _ {A : Type 0} {same : A → A → Bool} (E : Equivalence same) where
  -- which of two stands first does not matter
  pub turned : (a b : A) → same a b ≡ same b a
  turned a b = both_ways (same a b) (same b a) (E.symmetric a b) (E.symmetric b a)

  -- what is the same compares alike on the left
  pub alike : (a b c : A) → same a b ≡ true → same a c ≡ same b c
  alike a b c h = both_ways (same a c) (same b c) (E.transitive b a c (E.symmetric a b h)) (E.transitive a b c h)

  -- and on the right
  pub alike_right : (a b c : A) → same a b ≡ true → same c a ≡ same c b
  alike_right a b c h = turned c a ∙ alike a b c h ∙ turned b c

-- comparing numbers is an equivalence
pub numbers : Equivalence eqb
numbers = record {
  reflexive = λ a. eq-eqb a a refl;
  symmetric = λ a b h. eq-eqb b a (sym (eqb-true a b h));
  transitive = λ a b c g h. eq-eqb a c (eqb-true a b g ∙ eqb-true b c h);
}

module _ {same : Name → Name → Bool} (E : Equivalence same) where
  mutual
    unfolding same_path

    path-self : (p : Path) → same_path same p p ≡ true
    path-self (leaf k b) = (and-eq-true_iff _ _).1 (numbers.reflexive k, E.reflexive b)
    path-self (node k c) = (and-eq-true_iff _ _).1 (numbers.reflexive k, parts_self c)

    parts_self : (c : Records) → same_parts same c c ≡ true
    parts_self nil = refl
    parts_self (r ▸ c) = (and-eq-true_iff _ _).1 (path-self r, parts_self c)

  mutual
    unfolding same_path

    path-back : (p q : Path) → same_path same p q ≡ true → same_path same q p ≡ true
    path-back (leaf k b) (leaf j d) = both _ _ (numbers.symmetric k j) (E.symmetric b d)
    path-back (leaf k b) (node j d) = λ h. h
    path-back (node k c) (leaf j d) = λ h. h
    path-back (node k c) (node j d) = both _ _ (numbers.symmetric k j) (parts-back c d)

    parts-back : (c d : Records) → same_parts same c d ≡ true → same_parts same d c ≡ true
    parts-back nil nil = λ h. h
    parts-back nil (s ▸ d) = λ h. h
    parts-back (r ▸ c) nil = λ h. h
    parts-back (r ▸ c) (s ▸ d) = both _ _ (path-back r s) (parts-back c d)

  mutual
    unfolding same_path

    path-on : (p q r : Path) → same_path same p q ≡ true → same_path same q r ≡ true → same_path same p r ≡ true
    path-on (leaf k b) (leaf j d) (leaf i e) = both-twice _ _ _ _ (numbers.transitive k j i) (E.transitive b d e)
    path-on (leaf k b) (leaf j d) (node i e) = λ g h. h
    path-on (leaf k b) (node j d) (leaf i e) = λ g h. cc
    path-on (leaf k b) (node j d) (node i e) = λ g h. g
    path-on (node k c) (leaf j d) (leaf i e) = λ g h. g
    path-on (node k c) (leaf j d) (node i e) = λ g h. cc
    path-on (node k c) (node j d) (leaf i e) = λ g h. h
    path-on (node k c) (node j d) (node i e) = both-twice _ _ _ _ (numbers.transitive k j i) (parts-on c d e)

    parts-on : (c d e : Records) → same_parts same c d ≡ true → same_parts same d e ≡ true → same_parts same c e ≡ true
    parts-on nil nil nil = λ g h. g
    parts-on nil nil (t ▸ e) = λ g h. h
    parts-on nil (s ▸ d) nil = λ g h. cc
    parts-on nil (s ▸ d) (t ▸ e) = λ g h. g
    parts-on (r ▸ c) nil nil = λ g h. g
    parts-on (r ▸ c) nil (t ▸ e) = λ g h. cc
    parts-on (r ▸ c) (s ▸ d) nil = λ g h. h
    parts-on (r ▸ c) (s ▸ d) (t ▸ e) = both-twice _ _ _ _ (path-on r s t) (parts-on c d e)

  -- comparing paths is an equivalence
  pub paths : Equivalence (same_path same)
  paths = record { reflexive = path-self; symmetric = path-back; transitive = path-on }

  -- the same name selected from the same path is the same path
  pub selected-same : (p q : Path) (m n : Name) → same_path same p q ≡ true → same m n ≡ true → same_path same (MSel p m) (MSel q n) ≡ true
  unfolding same_path
  selected-same p q m n g h = rw (g, h)

-- comparing the bytes of names is an equivalence
pub shortening-names : (again : Bool) → Names (shortening again)
shortening-names again = record {
  reflexive = same_bytes-self;
  symmetric = λ a b h. rw (same_bytes-true a b h) (same_bytes-self b);
  transitive = λ a b c g h. rw (same_bytes-true a b g) h;
}

mutual
  unfolding same_path

  -- paths whose names are the same bytes are equal
  pub same-equal : (p q : Path) → same_path same_bytes p q ≡ true → p ≡ q
  same-equal (leaf k b) (leaf j d) h = let i = (and-eq-true_iff _ _).0 h in ap₂ leaf (eqb-true k j i.0) (same_bytes-true b d i.1)
  same-equal (leaf k b) (node j d) h = absurd (false≢true h)
  same-equal (node k c) (leaf j d) h = absurd (false≢true h)
  same-equal (node k c) (node j d) h = let i = (and-eq-true_iff _ _).0 h in ap₂ node (eqb-true k j i.0) (same-parts c d i.1)

  same-parts : (c d : Records) → same_parts same_bytes c d ≡ true → c ≡ d
  same-parts nil nil h = refl
  same-parts nil (s ▸ d) h = absurd (false≢true h)
  same-parts (r ▸ c) nil h = absurd (false≢true h)
  same-parts (r ▸ c) (s ▸ d) h = let i = (and-eq-true_iff _ _).0 h in ap₂ ◌▸◌ (same-equal r s i.0) (same-parts c d i.1)
