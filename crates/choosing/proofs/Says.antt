-- THE TABLE'S ANSWERS BY ITS CHAINS: the pair chosen for a name, and the use that a pair brings, have the base that the list of pairs says. Assumes nothing.
use mathlib.Core.Path.{◌≡◌, refl, sym, ap, subst, ◌∙◌}
use mathlib.Core.List.{List, ◌∷◌}
use mathlib.Core.Bool.{true, false, ◌||◌, cond}
use mathlib.Core.Option.{Option, none, some}
use Prim.Native.Nat.{ℕ, zero, suc, ◌+◌, ◌-◌, ◌<◌, ◌≤◌}
use native.Mathlib.Omega.{arith}
use lib.ListN.{length}
use lib.Dec.{eqb, ltb}
use borrow.Author.Tests.{ne_eqb, le-ltb}
use Rattle.wire.specs.Numbers.{Bytes}
use Rattle.rast.specs.Path.{whether}
use Rattle.rast.proofs.Tests.{by-test}
use Rattle.operation.specs.Operations.{same_paths}
use Rattle.operation.proofs.Lawful.{names_of}
use Rattle.prefix.specs.Prefix.{Scope, prefix_in}
use Rattle.comparing.specs.Compares.{number_of, place_in, base_at, same_base}
use Rattle.chains.specs.declared.Want.TheVariants.{Named}
use Rattle.chains.specs.Chains.{room, name_at, word_at, has_named}
use Rattle.pairs.specs.Stored.{Stored, stored}
use Rattle.pairs.specs.Choice.{choice, pair_of, base_of, bases_named, use_of, uses_from, uses}
use Rattle.adding.specs.Adds.{Table, table}
use Rattle.adding.specs.Holds.{latest, pairs_in, Chained, Has}
use Rattle.adding.proofs.Chain.{seek-after}
use Rattle.choosing.specs.Chooses.{chosen_pair, use_pair}
use Rattle.choosing.specs.Picks.{numbered, Picks, uses_of}
use Rattle.choosing.proofs.Lists.{Base, pair-in, base-in, named-ahead}
use Rattle.choosing.proofs.Choices.{prefix-brings, same-prefix, pick-none, prefix-among, chosen-picks}

module _ (s : Scope) (words : List ℕ) (n : ℕ) (r : n ≤ room words) (c : Chained s words n) where
  abbrev All : List Stored
  All = pairs_in s words n

  abbrev Pick : Bytes → Option Bytes → ℕ → Type 0
  Pick = Picks s (table n words) All

  -- the use of a pair
  module _ (i : ℕ) (l : i < n) where
    abbrev Own : Bytes
    Own = name_at s.card words i

    abbrev Use : Option Bytes
    Use = use_of s.op (prefix_in s) All i

    abbrev Choice : Option Bytes
    Choice = choice s.op (prefix_in s) (bases_named s.op All Own)

    abbrev Ahead : ℕ
    Ahead = latest (has_named s words Own Named) i

    use-list : Use ≡ cond (ltb 0 Ahead) none (whether Choice none (λ b. cond (same_paths s.op b (prefix_in s)) none (some b)))
    unfolding use_of
    use-list = rw (pair-in s words n i l, named-ahead s words Own n i (omega arith))

    abbrev Answer : ℕ → ℕ
    Answer g = cond (eqb g 0 || same_base s (word_at words (g - 1)) 0) 0 g

    use-words : use_pair s words (suc i)
        ≡ cond (eqb (place_in (word_at words i)) 0) 0 (cond (ltb 0 Ahead) 0 (Answer (chosen_pair s words Own (number_of s.op Own))))
    unfolding use_pair
    use-words =
        let k : suc i - 1 ≡ i = omega arith in
        rw (
          ne_eqb (suc i) 0 (λ z. omega arith),
          le-ltb (room words) (suc i) (omega arith),
          k,
          c.numbers i l,
          seek-after s words n r c Own (number_of s.op Own) refl Named i l (c.numbers i l),
        )

    -- where no pair ahead has the name
    use-chosen : (g : ℕ) → Pick Own Choice g → ltb 0 Ahead ≡ false → Pick Own Use (Answer g)
    use-chosen zero p t = pick-none (use-list ∙ rw (t, p.picked))
    use-chosen (suc j) p t =
        let k : suc j - 1 ≡ j = omega arith in
        let m : j < n = let o = p.inside in omega arith in
        let e : Use ≡ cond (same_paths s.op (Base s words j) (prefix_in s)) none (some (Base s words j)) =
        use-list ∙ rw (t, p.picked, base-in s words n j m) in
        rw (ne_eqb (suc j) 0 (λ z. omega arith), k, same-prefix s (word_at words j))
        (by-test (same_paths s.op (Base s words j) (prefix_in s))
        (λ u. rw u (pick-none (e ∙ rw u)))
        (λ u. rw u (record { inside = p.inside; picked = e ∙ rw u (sym (base-in s words n j m)); named = p.named })))

    -- where the pair has the prefix
    use-own : eqb (place_in (word_at words i)) 0 ≡ true → Use ≡ none
    use-own p =
        let b = prefix-brings s.op (prefix_in s) (bases_named s.op All Own)
        (prefix-among s words n r c Own i l ((names_of s.op).reflexive Own) p) in
        use-list ∙ rw b (by-test (ltb 0 Ahead) (λ t. rw t) (λ t. rw t))

    use-picks : Pick Own Use (use_pair s words (suc i))
    use-picks =
        rw use-words
        (by-test (eqb (place_in (word_at words i)) 0)
        (λ p. rw p (pick-none (use-own p)))
        (λ p. rw p (by-test (ltb 0 Ahead)
        (λ t. rw t (pick-none (use-list ∙ rw t)))
        (λ t. rw t (use-chosen (chosen_pair s words Own (number_of s.op Own)) (chosen-picks s words n r c Own) t)))))

    one-use : (others : List Stored) (g : ℕ) → Pick Own Use g → cond (eqb g 0) others (stored Own (Base s words (g - 1)) ∷ others)
        ≡ whether (pair_of All i) others (λ p. whether Use others (λ b. stored p.name b ∷ others))
    one-use others zero p = rw (pair-in s words n i l, p.picked)
    one-use others (suc j) p =
        let k : suc j - 1 ≡ j = omega arith in
        let m : j < n = let o = p.inside in omega arith in
        rw (pair-in s words n i l, p.picked, base-in s words n j m, ne_eqb (suc j) 0 (λ z. omega arith), k)

  uses-words : (m i : ℕ) → i + m ≤ n → uses_of s words i m ≡ uses_from s.op (prefix_in s) All i m
  unfolding uses_of uses_from
  uses-words zero i h = refl
  uses-words (suc m) i h =
      let l : i < n = omega arith in
      rw (uses-words m (suc i) (omega arith))
      (one-use i l (uses_from s.op (prefix_in s) All (suc i) m) (use_pair s words (suc i)) (use-picks i l))

module _ (s : Scope) (t : Table) (ps : List Stored) (h : Has s t ps) (fits : length ps ≤ room t.words) where
  count-is : t.count ≡ length ps
  count-is = let e = h.count in omega arith

  count_room : t.count ≤ room t.words
  count_room = let e = count-is in omega arith

  -- THE LAW: the pair chosen for a name has the base chosen for it
  pub chosen-has : (name : Bytes) → Picks s t ps name (choice s.op (prefix_in s) (bases_named s.op ps name)) (chosen_pair s t.words name (number_of s.op name))
  chosen-has name =
      subst (λ (q : List Stored). Picks s t q name (choice s.op (prefix_in s) (bases_named s.op q name)) (chosen_pair s t.words name (number_of s.op name))) (h.pairs fits)
      (chosen-picks s t.words t.count count_room (h.chained fits) name)

  -- and the pair of a pair's use the base of the use
  pub use-has : (i : ℕ) → i < t.count → Picks s t ps (name_at s.card t.words i) (use_of s.op (prefix_in s) ps i) (use_pair s t.words (suc i))
  use-has i l =
      subst (λ (q : List Stored). Picks s t q (name_at s.card t.words i) (use_of s.op (prefix_in s) q i) (use_pair s t.words (suc i))) (h.pairs fits)
      (use-picks s t.words t.count count_room (h.chained fits) i l)

  -- so the uses are those of the list
  pub uses-has : uses_of s t.words 0 t.count ≡ uses s.op (prefix_in s) ps
  uses-has =
      uses-words s t.words t.count count_room (h.chained fits) t.count 0 (omega arith)
      ∙ ap (λ (q : List Stored). uses_from s.op (prefix_in s) q 0 t.count) (h.pairs fits)
      ∙ ap (uses_from s.op (prefix_in s) ps 0) count-is

  -- the base that a number picks is that of its pair's words
  pub base-has : (i : ℕ) → i < t.count → numbered ps (suc i) ≡ some (base_at s (place_in (word_at t.words i)))
  base-has i l =
      subst (λ (q : List Stored). base_of q i ≡ some (base_at s (place_in (word_at t.words i)))) (h.pairs fits)
      (base-in s t.words t.count i l)
