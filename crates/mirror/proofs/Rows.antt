-- From the readings of what a record holds back to the record: laws for a row of places, for a seq and for an Option. Assumes nothing.
use mathlib.Core.Path.{◌≡◌, refl, sym, ap, ◌∙◌, subst}
use mathlib.Core.List.{List, [], ◌∷◌}
use mathlib.Core.Option.{Option, none, some}
use mathlib.Core.Bool.{true}
use Prim.Native.Nat.{ℕ, ◌+◌, ◌≤◌}
use native.Mathlib.Omega.{arith}
use lib.Dec.{T, leb, lit≤}
use borrow.Author.Tests.{eqb-true}
use Rattle.wire.specs.Numbers.{Bytes}
use Rattle.records.specs.Record.{Record, Records, leaf, node, nil, ◌▸◌, text, children}
use Rattle.records.proofs.ByRow.{no-leaf}
use Rattle.records.specs.Kinds.{Place, kinds, seq, option, name, one, stands, Content, bytes, these, any, at_most_one, row_of, content_at}
use Rattle.records.proofs.Fits.{Stands, StandsAll, Fits, FitsAll}
use Rattle.mirror.specs.Tree.{list, trees}
use Rattle.mirror.specs.Tree
use Rattle.mirror.proofs.Decode.{each, Kid, fold_all, kid, first, rest, gather, at_most, own, from, read, absent, seq_of, option_of}
use Rattle.records.proofs.Run.{Run, within, in-run}
use Rattle.records.proofs.Leaves.{leaf-right, one-kind}

-- one way of reading the records that a record holds, and what is known of them
pub record Layer : Type 1 where
  pub Kid : Type 0
  pub other : Kid
  pub kid : Record → Kid
  pub itself : Kid → Record
  pub itself-is : (r : Record) → itself (kid r) ≡ r
  pub Good : Record → Type 0

-- a way to write again what was read of a record, right for each good record that stands at a place
pub record Law (L : Layer) : Type 0 where
  pub place : Place
  pub again : L.Kid → Record
  pub right : (r : Record) → L.Good r → Fits r place → again (L.kid r) ≡ r

-- a datatype: where it stands, its tree and its reading, which undo one another
pub record Codec (A : Type 0) : Type 0 where
  pub place : Place
  pub tree : A → Record
  pub of : Record → A
  pub back : (a : A) → of (tree a) ≡ a
  pub right : (r : Record) → Fits r place → tree (of r) ≡ r

-- the layer of a fold
module _ {D : Type 0} (reading : ℕ → List (Kid D) → D) where
  pub folded : (c : Records) → fold_all reading c ≡ each (kid reading) c
  unfolding fold_all
  folded nil = refl
  folded (r ▸ c) = ap (λ (xs : List (Kid D)). kid reading r ∷ xs) (folded c)

  pub refold : {A : Type 0} (at : ℕ → List (Kid D) → A) (k : ℕ) (c : Records) → at k (fold_all reading c) ≡ at k (each (kid reading) c)
  refold at k c = ap (at k) (folded c)

  abbrev pub layer : Kid D → (Record → Type 0) → Layer
  layer other Good = record { Kid = Kid D; other = other; kid = kid reading; itself = λ x. x.own; itself-is = λ r. refl; Good = Good }

-- a record of other records of a kind from 4 on holds what its row says
row-of : (from to k : ℕ) → 4 ≤ k → content_at (kinds from to) k ≡ these (row_of k)
unfolding content_at
row-of from to k h = rw (no-leaf k h)

abbrev IsBytes : Content → Type 0
IsBytes bytes = Unit {0}
IsBytes (these ps) = ⊥
IsBytes (any p) = ⊥
IsBytes (at_most_one p) = ⊥

not-bytes : (x : Content) → x ≡ bytes → IsBytes x
not-bytes x e = subst IsBytes (sym e) tt

module _ (L : Layer) where
  abbrev pub GoodAll : Records → Type 0
  GoodAll nil = Unit {0}
  GoodAll (r ▸ c) = L.Good r × GoodAll c

  abbrev pub places : List (Law L) → List Place
  places [] = []
  places (l ∷ ls) = l.place ∷ places ls

  abbrev pub all_again : List (Law L) → List L.Kid → Records
  all_again [] xs = nil
  all_again (l ∷ ls) xs = l.again (first L.other xs) ▸ all_again ls (rest xs)

  pub row-right : (ls : List (Law L)) (c : Records) → GoodAll c → FitsAll c (these (places ls)) → all_again ls (each L.kid c) ≡ c
  unfolding StandsAll
  row-right [] nil g f = refl
  row-right [] (r ▸ c) g f = absurd f
  row-right (l ∷ ls) nil g f = absurd f
  row-right (l ∷ ls) (r ▸ c) g f = λ i. l.right r g.0 f.0 i ▸ row-right ls c g.1 f.1 i

  pub row : {k : ℕ} (ls : List (Law L)) (c : Records) → GoodAll c → FitsAll c (these (places ls)) → node k (all_again ls (each L.kid c)) ≡ node k c
  row {k} ls c g f = ap (node k) (row-right ls c g f)

  -- every record is good if each is whose own records are
  mutual
    pub all-good : ((r : Record) → GoodAll (children r) → L.Good r) → (r : Record) → L.Good r
    all-good h (leaf k b) = h (leaf k b) tt
    all-good h (node k c) = h (node k c) (all-good-all h c)

    pub all-good-all : ((r : Record) → GoodAll (children r) → L.Good r) → (c : Records) → GoodAll c
    all-good-all h nil = tt
    all-good-all h (r ▸ c) = (all-good h r, all-good-all h c)

  abbrev pub sure : {A : Type 0} → Codec A → Law L
  sure C = record { place = C.place; again = λ x. C.tree (C.of (L.itself x)); right = λ r g f. rw (L.itself-is r) (C.right r f) }

  -- a datatype with a constructor for each kind of a run
  module _ {A : Type 0} (tree : A → Record) (at : ℕ → List L.Kid → A) where
    abbrev pub Case : ℕ → Type 0
    Case k = (c : Records) → GoodAll c → FitsAll c (these (row_of k)) → tree (at k (each L.kid c)) ≡ node k c

    pub kinds-right : (from n : ℕ) → 4 ≤ from → Run Case from n → (of : Record → A) → ((k : ℕ) (c : Records) → of (node k c) ≡ at k (each L.kid c))
        → (r : Record) → GoodAll (children r) → Fits r (kinds from (from + n)) → tree (of r) ≡ r
    unfolding Stands
    kinds-right from n low cases of of_is (leaf k b) g f =
        let h = within from (from + n) k f.0 in
        absurd (not-bytes (these (row_of k)) (sym (row-of from (from + n) k (omega arith)) ∙ f.1))
    kinds-right from n low cases of of_is (node k c) g f =
        let h = within from (from + n) k f.0 in
        rw (of_is k c) (in-run Case from n cases k f.0 c g (subst (λ (x : Content). FitsAll c x) (row-of from (from + n) k (omega arith)) f.1))

  -- a seq and an Option, over a law for what they hold
  module _ (l : Law L) {A S : Type 0} (of : L.Kid → A) (empty : S) where
    module _ (more : A → S → S) (all : S → Records) (all-empty : all empty ≡ nil) (All-more : (x : L.Kid) (s : S) → all (more (of x) s) ≡ l.again x ▸ all s)
      where
        gather-right : (c : Records) → GoodAll c → FitsAll c (any l.place) → all (gather empty more of (each L.kid c)) ≡ c
        unfolding StandsAll
        gather-right nil g f = all-empty
        gather-right (r ▸ c) g f =
            All-more (L.kid r) (gather empty more of (each L.kid c)) ∙ (λ i. l.right r g.0 f.0 i ▸ gather-right c g.1 f.1 i)

        pub seq-right : (read : Record → S) → ((k : ℕ) (c : Records) → read (node k c) ≡ gather empty more of (each L.kid c)) → (r : Record)
            → GoodAll (children r) → Fits r (seq l.place) → list (all (read r)) ≡ r
        unfolding Stands content_at
        seq-right read read_is (leaf k b) g f = absurd (not-bytes (any l.place) f.1)
        seq-right read read_is (node k c) g f = rw (read_is k c) (ap list (gather-right c g f.1) ∙ ap (λ (k : ℕ). node k c) (sym (eqb-true k 0x02 f.0)))

    module _ (just : A → S) (tree : S → Record) (tree-empty : tree empty ≡ list nil) (tree-just : (x : L.Kid) → tree (just (of x)) ≡ list (l.again x ▸ nil))
      where
        at-most-right : (c : Records) → GoodAll c → FitsAll c (at_most_one l.place) → tree (at_most empty just of (each L.kid c)) ≡ list c
        unfolding StandsAll
        at-most-right nil g f = tree-empty
        at-most-right (r ▸ nil) g f = tree-just (L.kid r) ∙ (λ i. list (l.right r g.0 f.0 i ▸ nil))
        at-most-right (r ▸ s ▸ c) g f = absurd f.1

        pub option-right : (read : Record → S) → ((k : ℕ) (c : Records) → read (node k c) ≡ at_most empty just of (each L.kid c)) → (r : Record)
            → GoodAll (children r) → Fits r (option l.place) → tree (read r) ≡ r
        unfolding Stands content_at
        option-right read read_is (leaf k b) g f = absurd (not-bytes (at_most_one l.place) f.1)
        option-right read read_is (node k c) g f = rw (read_is k c) (at-most-right c g f.1 ∙ ap (λ (k : ℕ). node k c) (sym (eqb-true k 0x02 f.0)))

-- records read as they are
abbrev pub plain : Layer
plain = record { Kid = Record; other = absent; kid = own; itself = own; itself-is = λ r. refl; Good = λ r. Unit {0} }

pub plainly : (c : Records) → GoodAll plain c
plainly c = all-good-all plain (λ r g. tt) c

-- a datatype that does not hold itself
module _ {A : Type 0} (tree : A → Record) (at : ℕ → (ℕ → Record) → A) where
  abbrev pub Plain : ℕ → ℕ → Type 0
  Plain = Run (Case plain tree (from at))

  pub plain-right : (low n : ℕ) → 4 ≤ low → Plain low n → (r : Record) → Fits r (kinds low (low + n)) → tree (read at r) ≡ r
  plain-right low n h cases r f = kinds-right plain tree (from at) low n h cases (read at) (λ k c. refl) r (plainly (children r)) f

  abbrev pub plain_codec : (low n : ℕ) → T (leb 4 low) → ((a : A) → read at (tree a) ≡ a) → Plain low n → Codec A
  plain_codec low n h back cases = record { place = kinds low (low + n); tree = tree; of = read at; back = back; right = plain-right low n (lit≤ h) cases }

-- the seq and the Option of a datatype
module _ {A : Type 0} (C : Codec A) where
  pub seq_back : (xs : List A) → seq_of C.of (list (trees C.tree xs)) ≡ xs
  unfolding trees
  seq_back [] = refl
  seq_back (x ∷ xs) = λ i. C.back x i ∷ seq_back xs i

  pub seq_right : (r : Record) → Fits r (seq C.place) → list (trees C.tree (seq_of C.of r)) ≡ r
  unfolding trees
  seq_right r f = seq-right plain (sure plain C) C.of [] ◌∷◌ (trees C.tree) refl (λ x s. refl) (seq_of C.of) (λ k c. refl) r (plainly (children r)) f

  abbrev pub seq_codec : Codec (List A)
  seq_codec = record { place = seq C.place; tree = Tree.seq C.tree; of = seq_of C.of; back = seq_back; right = seq_right }

  pub option_back : (x : Option A) → option_of C.of (Tree.option C.tree x) ≡ x
  option_back none = refl
  option_back (some x) = ap some (C.back x)

  pub option_right : (r : Record) → Fits r (option C.place) → Tree.option C.tree (option_of C.of r) ≡ r
  option_right r f =
      option-right plain (sure plain C) C.of none some (Tree.option C.tree) refl (λ x. refl) (option_of C.of) (λ k c. refl) r (plainly (children r)) f

  abbrev pub option_codec : Codec (Option A)
  option_codec = record { place = option C.place; tree = Tree.option C.tree; of = option_of C.of; back = option_back; right = option_right }

-- bytes: a Text, a Kept, and the Text that a PMemberSelect holds
abbrev bytes_codec : (p : Place) (k₀ : ℕ) → ((k : ℕ) → stands p k ≡ true → k ≡ k₀) → content_at p k₀ ≡ bytes → Codec Bytes
bytes_codec p k₀ same holds = record { place = p; tree = leaf k₀; of = text; back = λ b. refl; right = leaf-right p k₀ same holds }

pub text-holds : content_at (one 0x01) 0x01 ≡ bytes
unfolding content_at
text-holds = refl

pub kept-holds : content_at (one 0x03) 0x03 ≡ bytes
unfolding content_at
kept-holds = refl

pub name-holds : content_at name 0x01 ≡ bytes
unfolding content_at
name-holds = refl

abbrev pub text_codec : Codec Bytes
text_codec = bytes_codec (one 0x01) 0x01 (one-kind 0x01) text-holds

abbrev pub kept_codec : Codec Bytes
kept_codec = bytes_codec (one 0x03) 0x03 (one-kind 0x03) kept-holds

abbrev pub name_codec : Codec Bytes
name_codec = bytes_codec name 0x01 (λ k e. eqb-true k 0x01 e) name-holds

-- a tree function that is undone tells its arguments apart
pub distinct : {A : Type 0} (C : Codec A) (a b : A) → C.tree a ≡ C.tree b → a ≡ b
distinct C a b e = sym (C.back a) ∙ (ap C.of e ∙ C.back b)

-- and reaches every tree that stands there
pub reached : {A : Type 0} (C : Codec A) (r : Record) → Fits r C.place → (a : A) × (C.tree a ≡ r)
reached C r f = (C.of r, C.right r f)
