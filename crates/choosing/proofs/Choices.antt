-- The pair chosen for a name has the base that is chosen for it among the list of pairs. Assumes nothing.
use mathlib.Core.Path.{◌≡◌, refl, sym, ap, subst, ◌∙◌}
use mathlib.Core.List.{List, [], ◌∷◌}
use mathlib.Core.Bool.{Bool, true, ◌&&◌, cond, or-true, or-false, and-eq-true_iff, true≢false}
use mathlib.Core.Option.{Option, none, some}
use Prim.Native.Nat.{ℕ, zero, suc, ◌-◌, ◌<◌, ◌≤◌}
use native.Mathlib.Omega.{arith}
use lib.ListN.{length, length-append}
use lib.Dec.{eqb, ltb}
use borrow.Author.Tests.{ne_eqb, eqb-true, eqb-false, lt-ltb}
use Rattle.wire.specs.Numbers.{Bytes, same_bytes}
use Rattle.wire.proofs.Numbers.{same_bytes-true}
use Rattle.records.specs.Record.{encode, record_at}
use Rattle.rast.specs.Path.{whether, dafny_runtime}
use Rattle.rast.specs.Final.{is_among, final_path}
use Rattle.rast.proofs.Tests.{by-test}
use Rattle.rast.proofs.Names.{turned}
use Rattle.operation.specs.declared.Shortening.{Shortening}
use Rattle.operation.specs.Operations.{operation_of, same_paths}
use Rattle.prefix.specs.Prefix.{Scope, prefix_in}
use Rattle.comparing.specs.Compares.{number_of, place_in, base_at, same_base}
use Rattle.comparing.proofs.Operations.{path_bytes, paths-of}
use Rattle.chains.specs.declared.Want.{Want}
use Rattle.chains.specs.declared.Want.TheVariants.{Named, Based, Runtime}
use Rattle.chains.specs.Chains.{room, name_at, word_at, bucket_of, head_of, next_of, has_wanted, has_named, is_wanted, seek}
use Rattle.pairs.specs.Stored.{Stored}
use Rattle.pairs.specs.Choice.{choice}
use Rattle.pairs.proofs.Bytes.{choice-none}
use Rattle.adding.specs.Adds.{Table, table}
use Rattle.adding.specs.Holds.{latest, pairs_in, Chained}
use Rattle.adding.proofs.Chain.{latest-most, latest-true, latest-none, named-number, seek-head, seek-after}
use Rattle.choosing.specs.Chooses.{chosen_of_several, chosen_pair}
use Rattle.choosing.specs.Picks.{Picks}
use Rattle.choosing.proofs.Tests.{seek-inside, several-prefix, several-runtime, chosen_none, chosen-only, chosen-several}
use Rattle.choosing.proofs.Lists.{Base, IsNamed, Bases, named-is, base-in, bases-none, bases-some, among-bases}

abbrev Run : Bytes
Run = encode dafny_runtime

-- the choice among bases
choice-one : (op : Shortening) (prefix b : Bytes) → choice op prefix (b ∷ []) ≡ some b
unfolding choice final_path
choice-one op prefix b = refl

choice-several : (op : Shortening) (prefix : Bytes) (bs : List Bytes) → 1 < length bs
    → choice op prefix bs ≡ cond (is_among (same_paths op) prefix bs) (some prefix) (cond (is_among (same_paths op) Run bs) (some Run) none)
unfolding choice final_path
choice-several op prefix bs h =
    rw (ne_eqb (length bs) 1 (λ e. omega arith))
    (by-test (is_among (same_paths op) prefix bs) (λ t. rw t) (λ t. rw t (by-test (is_among (same_paths op) Run bs) (λ u. rw u) (λ u. rw u))))

-- where the prefix is among them no use is brought
module _ (op : Shortening) (prefix : Bytes) where
  abbrev Brought : List Bytes → Option Bytes
  Brought bs = whether (choice op prefix bs) none (λ b. cond (same_paths op b prefix) none (some b))

  pub prefix-brings : (bs : List Bytes) → is_among (same_paths op) prefix bs ≡ true → Brought bs ≡ none
  unfolding is_among
  prefix-brings [] h = absurd (true≢false (sym h))
  prefix-brings (b ∷ []) h = rw (choice-one op prefix b, turned (paths-of op) b prefix, sym (or-false (same_paths op prefix b)) ∙ h)
  prefix-brings (b ∷ d ∷ ds) h = rw (choice-several op prefix (b ∷ d ∷ ds) (omega arith), h, (paths-of op).reflexive prefix)

-- bases that are the same are the same bytes
paths-equal : (op : Shortening) (a b : Bytes) → same_paths op a b ≡ true → a ≡ b
paths-equal op a b h = same_bytes-true a b h

-- compared with the prefix, a word's upper half does not matter
pub same-prefix : (s : Scope) (w : ℕ) → same_base s w 0 ≡ same_paths s.op (base_at s (place_in w)) (prefix_in s)
unfolding same_base base_at
same-prefix s w = rw (or-true (eqb (place_in w) 0))

-- 0 picks none
pub pick-none : {s : Scope} {t : Table} {ps : List Stored} {name : Bytes} {base : Option Bytes} → base ≡ none → Picks s t ps name base 0
pick-none e = record { inside = omega arith; picked = e; named = λ h. absurd (omega arith) }

by_number : {X : Type 0} (n : ℕ) → (n ≡ 0 → X) → ((i : ℕ) → n ≡ suc i → X) → X
by_number zero f g = f refl
by_number (suc i) f g = g i refl

-- a newest pair is one of them, and the test holds of it
latest-is : (f : ℕ → Bool) (n i : ℕ) → latest f n ≡ suc i → (i < n) × (f i ≡ true)
latest-is f n i e =
    let m = latest-most f n in
    let k : latest f n - 1 ≡ i = omega arith in
    (omega arith, sym (ap f k) ∙ latest-true f n (omega arith))

module _ (s : Scope) (words : List ℕ) (n : ℕ) (r : n ≤ room words) (c : Chained s words n) where
  abbrev All : List Stored
  All = pairs_in s words n

  module _ (name : Bytes) where
    abbrev Test : Want → ℕ → Bool
    Test = has_named s words name

    abbrev Pick : Option Bytes → ℕ → Type 0
    Pick o g = Picks s (table n words) All name o g

    abbrev Choice : Option Bytes
    Choice = choice s.op (prefix_in s) (Bases s words name n)

    abbrev Number : ℕ
    Number = number_of s.op name

    abbrev Head : ℕ
    Head = head_of words (bucket_of words Number)

    -- what is found, in a table with no room too
    from-head : (want : Want) → latest (Test want) n ≡ seek (is_wanted s words name Number want) words Head
    from-head want =
        by-test (eqb (room words) 0)
        (λ z. let i = seek-inside (is_wanted s words name Number want) words Head in
        let m = latest-most (Test want) n in
        let e = eqb-true (room words) 0 z in
        omega arith)
        (λ z. let d = eqb-false (room words) 0 z in sym (seek-head s words n r c name Number refl want (omega (arith, d))))

    wanted : (want : Want) (i : ℕ) → Test want i ≡ true
        → ((operation_of s.op).same_name (name_at s.card words i) name ≡ true) × (has_wanted s want (word_at words i) ≡ true)
    unfolding has_named
    wanted want i h = (and-eq-true_iff ((operation_of s.op).same_name (name_at s.card words i) name) (has_wanted s want (word_at words i))).0 h

    pick-pair : (o : Option Bytes) (want : Want) (i : ℕ) → latest (Test want) n ≡ suc i → o ≡ some (Base s words i) → Pick o (suc i)
    pick-pair o want i e f =
        let l = latest-is (Test want) n i e in
        record {
          inside = omega (arith, l.0);
          picked = f ∙ sym (base-in s words n i l.0);
          named = λ h. let k : suc i - 1 ≡ i = omega arith in rw k (wanted want i l.1).0;
        }

    -- no pair, or one
    no-choice : latest (Test Named) n ≡ 0 → Choice ≡ none
    no-choice e = rw (bases-none s words name n e) (choice-none s.op (prefix_in s))

    one_choice : (i : ℕ) → latest (Test Named) n ≡ suc i → latest (Test Named) i ≡ 0 → Choice ≡ some (Base s words i)
    one_choice i e f = rw (bases-some s words name n i e, bases-none s words name i f) (choice-one s.op (prefix_in s) (Base s words i))

    -- the pair after the newest
    after : (i : ℕ) → latest (Test Named) n ≡ suc i → latest (Test Named) i ≡ seek (is_wanted s words name Number Named) words (next_of words (suc i))
    after i e =
        let l = latest-is (Test Named) n i e in
        sym (seek-after s words n r c name Number refl Named i l.0 (named-number s words n r c name Named i l.0 l.1))

    -- the prefix and dafny_runtime among a name's bases
    prefix-test : (i : ℕ) → Test (Based 0) i ≡ (IsNamed s words name i && same_paths s.op (prefix_in s) (Base s words i))
    unfolding has_named has_wanted
    prefix-test i = rw (named-is s words name i, same-prefix s (word_at words i), turned (paths-of s.op) (Base s words i) (prefix_in s))

    prefix-true : (i : ℕ) → (operation_of s.op).same_name (name_at s.card words i) name ≡ true → eqb (place_in (word_at words i)) 0 ≡ true
        → Test (Based 0) i ≡ true
    unfolding base_at
    prefix-true i t p = prefix-test i ∙ rw (named-is s words name i, t, p) ((paths-of s.op).reflexive (prefix_in s))

    pub prefix-among : (i : ℕ) → i < n → (operation_of s.op).same_name (name_at s.card words i) name ≡ true → eqb (place_in (word_at words i)) 0 ≡ true
        → is_among (same_paths s.op) (prefix_in s) (Bases s words name n) ≡ true
    prefix-among i l t p =
        among-bases s words name (prefix_in s) (Test (Based 0)) n (λ k h. prefix-test k)
        ∙ by_number (latest (Test (Based 0)) n)
        (λ z. absurd (true≢false (sym (prefix-true i t p) ∙ latest-none (Test (Based 0)) n z i l)))
        (λ j q. rw q (lt-ltb 0 (suc j) (omega arith)))

    -- where no pair of the name has the prefix, those whose place is 0 need not be looked at
    runtime-test : latest (Test (Based 0)) n ≡ 0 → (i : ℕ) → i < n → Test Runtime i ≡ (IsNamed s words name i && same_paths s.op Run (Base s words i))
    unfolding has_named has_wanted base_at
    runtime-test z i l =
        rw (named-is s words name i)
        (by-test ((operation_of s.op).same_name (name_at s.card words i) name)
        (λ t. rw t
        (by-test (eqb (place_in (word_at words i)) 0)
        (λ p. absurd (true≢false (sym (prefix-true i t p) ∙ latest-none (Test (Based 0)) n z i l)))
        (λ p. rw p
        (let b : Bytes = record_at s.card (place_in (word_at words i)) in
        path_bytes s.op b Run (same_bytes b Run) refl ∙ turned (paths-of s.op) b Run))))
        (λ t. rw t))

    runtime-base : latest (Test (Based 0)) n ≡ 0 → (i : ℕ) → i < n → Test Runtime i ≡ true → Base s words i ≡ Run
    runtime-base z i l t =
        sym (paths-equal s.op Run (Base s words i)
        ((and-eq-true_iff (IsNamed s words name i) (same_paths s.op Run (Base s words i))).0 (sym (runtime-test z i l) ∙ t)).1)

    prefix-base : (i : ℕ) → Test (Based 0) i ≡ true → Base s words i ≡ prefix_in s
    unfolding has_wanted
    prefix-base i t = paths-equal s.op (Base s words i) (prefix_in s) (sym (same-prefix s (word_at words i)) ∙ (wanted (Based 0) i t).1)

    -- several pairs
    module _ (i j : ℕ) (e : latest (Test Named) n ≡ suc i) (f : latest (Test Named) i ≡ suc j) where
      several : Choice ≡ cond (ltb 0 (latest (Test (Based 0)) n)) (some (prefix_in s))
          (cond (is_among (same_paths s.op) Run (Bases s words name n)) (some Run) none)
      several =
          let l : 1 < length (Bases s words name n) = rw (bases-some s words name n i e, bases-some s words name i j f) (simp length-append (omega arith)) in
          choice-several s.op (prefix_in s) (Bases s words name n) l ∙ rw (among-bases s words name (prefix_in s) (Test (Based 0)) n (λ k h. prefix-test k))

      prefix-choice : (p : ℕ) → latest (Test (Based 0)) n ≡ suc p → Choice ≡ some (Base s words p)
      prefix-choice p q =
          several ∙ rw (q, lt-ltb 0 (suc p) (omega arith), prefix-base p (latest-is (Test (Based 0)) n p q).1)

      module _ (z : latest (Test (Based 0)) n ≡ 0) where
        others : Choice ≡ cond (ltb 0 (latest (Test Runtime) n)) (some Run) none
        others = several ∙ rw (z, among-bases s words name Run (Test Runtime) n (runtime-test z))

        runtime-none : latest (Test Runtime) n ≡ 0 → Choice ≡ none
        runtime-none y = others ∙ rw y

        runtime-choice : (q : ℕ) → latest (Test Runtime) n ≡ suc q → Choice ≡ some (Base s words q)
        runtime-choice q y =
            let l = latest-is (Test Runtime) n q y in
            others ∙ rw (y, lt-ltb 0 (suc q) (omega arith), runtime-base z q l.0 l.1)

      chosen_more : chosen_of_several s words name Number Head ≡ chosen_pair s words name Number
      chosen_more =
          chosen-several s words name Number _ Head (suc i) refl refl (sym e ∙ from-head Named) (λ z. omega arith)
          _ (suc j) refl (sym f ∙ after i e) (λ z. omega arith) _ refl

      pick-several : Pick Choice (chosen_pair s words name Number)
      pick-several =
          subst (λ (g : ℕ). Pick Choice g) chosen_more
          (by_number (latest (Test (Based 0)) n)
          (λ z. subst (λ (g : ℕ). Pick Choice g)
          (several-runtime s words name Number Head 0 (sym z ∙ from-head (Based 0)) (omega arith) (latest (Test Runtime) n) (from-head Runtime))
          (by_number (latest (Test Runtime) n)
          (λ y. rw y (pick-none (runtime-none z y)))
          (λ q y. rw y (pick-pair Choice Runtime q y (runtime-choice z q y)))))
          (λ p q. subst (λ (g : ℕ). Pick Choice g)
          (several-prefix s words name Number Head (suc p) (sym q ∙ from-head (Based 0)) (omega arith))
          (pick-pair Choice (Based 0) p q (prefix-choice p q))))

    pub chosen-picks : Pick Choice (chosen_pair s words name Number)
    chosen-picks =
        by_number (latest (Test Named) n)
        (λ e. subst (λ (g : ℕ). Pick Choice g)
        (chosen_none s words name Number _ Head (latest (Test Named) n) refl refl (from-head Named) e)
        (pick-none (no-choice e)))
        (λ i e. by_number (latest (Test Named) i)
        (λ f. subst (λ (g : ℕ). Pick Choice g)
        (chosen-only s words name Number _ Head (suc i) refl refl (sym e ∙ from-head Named) (λ z. omega arith) _ (latest (Test Named) i) refl (after i e) f)
        (pick-pair Choice Named i e (one_choice i e f)))
        (λ j f. pick-several i j e f))
