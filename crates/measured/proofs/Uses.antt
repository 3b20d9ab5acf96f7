-- HOW LONG THE OUTERMOST MODULE'S USES CAN BE, by its table's words: there are no more uses than pairs, each 31 bytes, a name and a base. Assumes nothing.
use mathlib.Core.Path.{◌≡◌, ap, sym, ◌∙◌}
use mathlib.Core.Bool.{true}
use mathlib.Core.List.{List, [], ◌∷◌}
use Prim.Native.Nat.{ℕ, zero, suc, ◌+◌, ◌*◌, ◌%◌, ◌≤◌}
use native.Mathlib.Omega.{arith}
use lib.ListN.{length, take, drop, get_or, length-take}
use lib.Seq.{length-take-le}
use lib.Dec.{eqb}
use Rattle.wire.specs.Numbers.{Bytes}
use Rattle.records.specs.Record.{encode, encode_all, length_of, record_at, tree}
use Rattle.records.specs.Canonical.{Canonical}
use Rattle.rast.specs.Path.{Name, Path}
use Rattle.rast.proofs.Names.{paths}
use Rattle.rast.proofs.Tests.{by-test}
use Rattle.factor_paths.specs.Mapping.{Mapping, no_mapping, equal, Add}
use Rattle.factor_paths.specs.Apply.{mappings, imports}
use Rattle.size.proofs.Sizes.{size, encode-size, encode_all-size}
use Rattle.size.proofs.Mapped.{use_size, uses_size, mapping_size, add-size, use-most, imports-most}
use Rattle.operation.specs.declared.Shortening.{Shortening}
use Rattle.operation.specs.Passes.{repeats}
use Rattle.operation.specs.Operations.{pass_of, operation_of, same_paths}
use Rattle.operation.proofs.Lawful.{names_of}
use Rattle.prefix.specs.Prefix.{Scope, prefix_in}
use Rattle.comparing.specs.Compares.{place_in, base_at}
use Rattle.chains.specs.Chains.{room, name_at, word_at}
use Rattle.pairs.specs.Pairs.{Pair, add_all}
use Rattle.pairs.specs.Stored.{Stored, bytes_of}
use Rattle.pairs.specs.Means.{bytes_of_all, Bases, Means}
use Rattle.pairs.proofs.Bytes.{bases-same}
use Rattle.adding.specs.Adds.{Table, table}
use Rattle.adding.specs.Holds.{pair_at, pairs_from}
use Rattle.adding.specs.Settles.{own_words}
use Rattle.adding.proofs.Stores.{has-fits}
use Rattle.fitting.specs.Fitting.{use_most, uses_most}
use Rattle.modules.proofs.States.{scope_at}
use Rattle.modules.proofs.Outermost.{Prefix, Own, Reads, outermost-stands}

module _ (op : Shortening) (S : Path) where
  -- as much as the uses of all pairs would take
  unfoldable pairs_size : List Pair → ℕ
  pairs_size [] = 0
  pairs_size (p ∷ ps) = use_size (operation_of op) S p.name p.base + pairs_size ps

  -- a mapping is no larger than the pairs that it is made of
  added-size : (m : Mapping) (ps : List Pair) → mapping_size (operation_of op) S (add_all (operation_of op) m ps) ≤ mapping_size (operation_of op) S m + pairs_size ps
  unfolding add_all pairs_size
  added-size m [] = omega arith
  added-size m (p ∷ ps) =
      let a = add-size (repeats (pass_of op)) S p.name p.base m in
      let b = added-size (Add (operation_of op) m p.name p.base) ps in
      omega arith

  -- SelfPath brings no use
  self-size : (n : Name) (p : Path) → Canonical p → Canonical S → encode p ≡ encode S → use_size (operation_of op) S n p ≡ 0
  unfolding use_size
  self-size n p c d e =
      let a = bases-same op p S c d in
      let b = bases-same op S S d d in
      let r = (paths (names_of op)).reflexive S in
      let t : equal (operation_of op) p S ≡ true = sym a ∙ ap (λ (x : Bytes). same_paths op x (encode S)) e ∙ b ∙ r in
      rw t

  module _ (s : Scope) (d : Canonical S) (prefix-is : prefix_in s ≡ encode S) (words : List ℕ) where
    abbrev Most : ℕ → ℕ
    Most i = 31 + get_or words (4 * i + 1) 0 + (4 + length_of (drop (place_in (word_at words i)) s.card))

    path-size : (i : ℕ) (n : Name) (b : Path) → length (name_at s.card words i) ≡ length n
        → length (record_at s.card (place_in (word_at words i))) ≡ size b → use_size (operation_of op) S n b ≤ Most i
    unfolding size
    path-size i n b e f =
        let u = use-most (operation_of op) S n b in
        let x = length-take (get_or words (4 * i + 1) 0) (drop (get_or words (4 * i) 0 % 65536) s.card) in
        let y = length-take (4 + length_of (drop (place_in (word_at words i)) s.card)) (drop (place_in (word_at words i)) s.card) in
        omega arith

    -- a pair's use is no longer than its words say
    pair_size : (i : ℕ) (p : Pair) → Canonical p.base → pair_at s words i ≡ bytes_of p
        → use_size (operation_of op) S p.name p.base ≤ use_most s.card words i
    unfolding pair_at base_at use_most
    pair_size i p c e =
        let b : base_at s (place_in (word_at words i)) ≡ encode p.base = ap (λ (x : Stored). x.base) e in
        let n : length (name_at s.card words i) ≡ length p.name = ap (λ (x : Stored). length x.name) e in
        by-test (eqb (place_in (word_at words i)) 0)
        (λ t. let z = self-size p.name p.base c d (sym (rw t at b) ∙ prefix-is) in rw t (omega arith))
        (λ t. rw t (path-size i p.name p.base n (ap length (rw t at b) ∙ encode-size p.base)))

    pairs-size : (n i to : ℕ) → i + n ≡ to → (ps : List Pair) → Bases ps → pairs_from s words i n ≡ bytes_of_all ps
        → pairs_size ps + uses_most s.card words i ≤ uses_most s.card words to
    unfolding Bases pairs_from pairs_size uses_most
    pairs-size zero i to f [] c e = let z : i ≡ to = omega arith in rw z (omega arith)
    pairs-size zero i to f (p ∷ ps) c e = absurd (let z : ◌≡◌ {A = ℕ} 0 1 = cc in omega arith)
    pairs-size (suc n) i to f [] c e = absurd (let z : ◌≡◌ {A = ℕ} 0 1 = cc in omega arith)
    pairs-size (suc n) i to f (p ∷ ps) c e =
        let a = pair_size i p c.0 (cc) in
        let b = pairs-size n (suc i) to (omega arith) ps c.1 (cc) in
        omega arith

    -- the mapping that a table means
    mapped-size : (n : ℕ) (ps : List Stored) (m : Mapping) → pairs_from s words 0 n ≡ ps → Means op ps m
        → mapping_size (operation_of op) S m ≤ uses_most s.card words n
    unfolding uses_size uses_most
    mapped-size n ps m e h =
        let a = added-size no_mapping h.pairs in
        let b = pairs-size n 0 n (omega arith) h.pairs h.canonical (e ∙ h.bytes) in
        rw (← h.is.added) (omega arith)

-- THE LAW: the uses that a table of its own brings, if it is not full
pub uses-fit : (op : Shortening) (card root : Bytes) (limit : ℕ) → Reads card root limit → (t : Table) → Own card root op t → t.count ≤ room t.words
    → length (encode_all (imports (operation_of op) (tree card) (Prefix card root))) ≤ uses_most card (own_words t) t.count
uses-fit op card root limit reads t own r =
    let s = scope_at op card root [] 0 in
    let S = Prefix card root in
    let here = outermost-stands card root op limit reads in
    let l = length-take-le (4 * t.count) t.words (omega arith) in
    let h = own.tabled r in
    let a = encode_all-size (imports (operation_of op) (tree card) S) in
    let b = imports-most (repeats (pass_of op)) (tree card) S in
    let c = mapped-size op S s here.prefixed here.prefix-is (own_words t) t.count h.pairs (mappings (operation_of op) (tree card) S)
    (h.has.pairs (has-fits h.has (omega arith))) h.means in
    omega arith
