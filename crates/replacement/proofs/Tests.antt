-- Whether a path is replaced, test by test. Assumes nothing.
use mathlib.Core.Path.{◌≡◌, sym, ap, ◌∙◌}
use mathlib.Core.List.{List}
use mathlib.Core.Bool.{Bool, true, false, not, ◌&&◌}
use Prim.Native.Nat.{ℕ, ◌+◌, ◌-◌, ◌*◌, ◌%◌}
use lib.ListN.{length, take, get_or}
use borrow.Author.Tests.{eq-eqb, ne_eqb, not-true, not-false}
use Rattle.wire.specs.Numbers.{Bytes}
use Rattle.records.specs.Record.{kind_of, content_of, rest_of, first_record}
use Rattle.factor_paths.specs.PathsVisitor.{marked, unmarked}
use Rattle.operation.specs.Operations.{same_paths}
use Rattle.prefix.specs.Prefix.{Scope}
use Rattle.comparing.specs.Compares.{number_of, place_in, base_at}
use Rattle.chains.specs.Chains.{word_at}
use Rattle.choosing.specs.Chooses.{chosen_pair}
use Rattle.rewriting.specs.Replaces.{name_in, base_in, replaces, replaces_type, replaces_expr}

-- parts of parts
pub name-is : (r c p t n : Bytes) → c ≡ content_of r → p ≡ content_of c → t ≡ rest_of p → n ≡ content_of t → n ≡ name_in r
name-is r c p t n e f g h = h ∙ ap content_of (g ∙ ap rest_of (f ∙ ap content_of e))

pub base-is : (r c p b : Bytes) → c ≡ content_of r → p ≡ content_of c → b ≡ first_record p → b ≡ base_in r
base-is r c p b e f g = g ∙ ap first_record (f ∙ ap content_of e)

module _ (s : Scope) (words : List ℕ) where
  module _ (name base : Bytes) (number : ℕ) (d : number ≡ number_of s.op name) (g : ℕ) (e : g ≡ chosen_pair s words name number) where
    pub replaces-none : g ≡ 0 → false ≡ replaces s words name base
    unfolding replaces
    replaces-none z = rw (← d, ← e, eq-eqb g 0 z)

    pub replaces-base : (g ≡ 0 → ⊥) → (r : Bool) → r ≡ same_paths s.op (base_at s (place_in (word_at words (g - 1)))) base → r ≡ replaces s words name base
    unfolding replaces
    replaces-base z r h = h ∙ rw (← d, ← e, ne_eqb g 0 z)

  -- a pair's base, by its word
  pub base-word-is : (base : Bytes) (i w : ℕ) → w ≡ get_or words (4 * i + 2) 0 → (r : Bool) → r ≡ same_paths s.op (base_at s (w % 65536)) base
      → r ≡ same_paths s.op (base_at s (place_in (word_at words i))) base
  base-word-is base i w f r h = h ∙ rw f

  module _ (r c : Bytes) (k : ℕ) (e : c ≡ content_of r) (f : k ≡ kind_of c) where
    kind-is : kind_of (content_of r) ≡ k
    kind-is = sym (f ∙ ap kind_of e)

    pub type-other : (k ≡ 0x13 → ⊥) → false ≡ replaces_type s words r
    unfolding replaces_type
    type-other n = rw (kind-is, ne_eqb k 0x13 n)

    pub expr-other : (k ≡ 0x13 → ⊥) → false ≡ replaces_expr s words r
    unfolding replaces_expr
    expr-other n = rw (kind-is, ne_eqb k 0x13 n)

    module _ (h : k ≡ 0x13) (name base : Bytes) (n : name ≡ name_in r) (b : base ≡ base_in r) (y : Bool) (g : y ≡ replaces s words name base) where
      whole : replaces s words (name_in r) (base_in r) ≡ y
      whole = sym (g ∙ rw (n, b))

      pub type-is : y ≡ replaces_type s words r
      unfolding replaces_type
      type-is = rw (kind-is, eq-eqb k 0x13 h, whole)

      -- the whole name
      pub expr-whole : y ≡ true → true ≡ replaces_expr s words r
      unfolding replaces_expr
      expr-whole t = rw (kind-is, eq-eqb k 0x13 h, whole, t)

      module _ (t : y ≡ false) where
        of-mark : replaces_expr s words r ≡ (marked name && replaces s words (unmarked name) base)
        unfolding replaces_expr
        of-mark = rw (kind-is, eq-eqb k 0x13 h, whole, t, n, b)

        module _ (t' : Bool) (v : t' ≡ marked name) where
          pub expr-plain : not t' ≡ true → false ≡ replaces_expr s words r
          expr-plain m = sym (of-mark ∙ rw (sym v ∙ not-true t' m))

          -- the name without its mark
          pub expr-marked : not t' ≡ false → (x : Bool) → x ≡ replaces s words (take (length name - 1) name) base → x ≡ replaces_expr s words r
          expr-marked m x q = q ∙ sym (of-mark ∙ rw (sym v ∙ not-false t' m))
