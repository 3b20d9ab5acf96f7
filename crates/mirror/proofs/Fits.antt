-- A tree whose kinds stand at their places fits there if it has no nameless path: only a PMemberSelect holds a place for a name. Assumes nothing.
use mathlib.Core.Path.{◌≡◌, refl, sym, ap, subst, ◌∙◌}
use mathlib.Core.List.{List, [], ◌∷◌}
use mathlib.Core.Bool.{Bool, true, false, not, ◌&&◌, ◌||◌, cond, false≢true}
use Prim.Native.Nat.{ℕ}
use lib.Dec.{eqb, lit≤}
use borrow.Author.Tests.{eqb-true, not-true}
use Rattle.wire.specs.Numbers.{Bytes}
use Rattle.records.specs.Record.{Record, Records, leaf, node, nil, ◌▸◌, is_leaf, text, nth}
use Rattle.records.specs.Kinds.{Place, kinds, name, seq, option, stands, path, Row, rows, row_in, row_of, Content, bytes, these, any, at_most_one, content_at}
use Rattle.records.specs.Reading.{is_no_name, nameless}
use Rattle.records.specs.Named.{named, named_all}
use Rattle.records.proofs.Examples.{due}
use Rattle.records.proofs.Fits.{Stands, StandsAll, Fits, FitsAll}
use Rattle.records.proofs.ByRow.{row-content}
use Rattle.records.proofs.Run.{both}

-- as Fits, but any Text may stand where a name is due
abbrev pub Allowed : Record → Place → Type 0
Allowed = Stands (λ p k b. false)

abbrev pub AllowedAll : Records → Content → Type 0
AllowedAll = StandsAll (λ p k b. false)

-- no name is due at a place
abbrev pub no_name : Place → Bool
no_name p = not (due p)

abbrev pub no_names : List Place → Bool
no_names [] = true
no_names (p ∷ ps) = no_name p && no_names ps

abbrev no_name_in : Content → Bool
no_name_in bytes = true
no_name_in (these ps) = no_names ps
no_name_in (any p) = no_name p
no_name_in (at_most_one p) = no_name p

-- nor in the row of any kind but PMemberSelect
abbrev only_selects : List Row → Bool
only_selects [] = true
only_selects (r ∷ rs) = (eqb r.kind 0x13 || no_names r.places) && only_selects rs

at_row : (rs : List Row) → only_selects rs ≡ true → (k : ℕ) → eqb k 0x13 ≡ false → no_names (row_in rs k) ≡ true
at_row [] h k e = refl
at_row (r ∷ rs) h k e =
    let b = both (eqb r.kind 0x13 || no_names r.places) (only_selects rs) h in
    go (eqb k r.kind) refl b.0 (at_row rs b.1 k e)
  where
    here : (t : Bool) → t ≡ false → t || no_names r.places ≡ true → no_names r.places ≡ true
    here false u g = g
    here true u g = absurd (false≢true (sym u))

    go : (t : Bool) → eqb k r.kind ≡ t → eqb r.kind 0x13 || no_names r.places ≡ true → no_names (row_in rs k) ≡ true
        → no_names (cond t r.places (row_in rs k)) ≡ true
    go true u g others = here (eqb r.kind 0x13) (subst (λ (x : ℕ). eqb x 0x13 ≡ false) (eqb-true k r.kind u) e) g
    go false u g others = others

no-name-in : (p : Place) (k : ℕ) → no_name p ≡ true → eqb k 0x13 ≡ false → no_name_in (content_at p k) ≡ true
unfolding content_at row_of
no-name-in (kinds from to) k g e = go (is_leaf k)
  where
    go : (t : Bool) → no_name_in (cond t bytes (these (row_in rows k))) ≡ true
    go true = refl
    go false = at_row rows refl k e
no-name-in name k g e = refl
no-name-in (seq p) k g e = g
no-name-in (option p) k g e = g

-- where no name is due, none is missing
not-nameless : (p : Place) (k : ℕ) (b : Bytes) → no_name p ≡ true → nameless p k b ≡ false
not-nameless (kinds from to) k b g = refl
not-nameless name k b g = absurd (false≢true g)
not-nameless (seq p) k b g = refl
not-nameless (option p) k b g = refl

-- a Text that is a name fits where one is due
name-fits : (r : Record) → Allowed r name → is_no_name (text r) ≡ false → Fits r name
unfolding Stands content_at
name-fits (leaf k b) a n = (a.0, a.1, rw a.0 n)
name-fits (node k nil) a n = absurd a.1
name-fits (node k (r ▸ c)) a n = absurd a.1

-- the places of what a PMemberSelect holds
abbrev select : Content
select = these (path ∷ name ∷ [])

-- what a record holds fits if it does where no name is due, and as what a PMemberSelect holds
held-fit : (p : Place) (k : ℕ) (c : Records) → no_name p ≡ true → stands p k ≡ true → AllowedAll c (content_at p k)
    → not (eqb k 0x13 && is_no_name (text (nth 1 c))) ≡ true → ((t : Content) → no_name_in t ≡ true → AllowedAll c t → FitsAll c t)
    → (AllowedAll c select → is_no_name (text (nth 1 c)) ≡ false → FitsAll c select) → FitsAll c (content_at p k)
unfolding row_of
held-fit p k c g s a n plain selected = go (eqb k 0x13) refl n
  where
    go : (t : Bool) → eqb k 0x13 ≡ t → not (t && is_no_name (text (nth 1 c))) ≡ true → FitsAll c (content_at p k)
    go false e u = plain (content_at p k) (no-name-in p k g e) a
    go true e u =
        let is : k ≡ 0x13 = eqb-true k 0x13 e in
        let same : content_at p k ≡ select = ap (content_at p) is ∙ row-content p 0x13 (lit≤ tt) (rw is at s) in
        subst (λ (t : Content). FitsAll c t) (sym same) (selected (subst (λ (t : Content). AllowedAll c t) same a) (not-true _ u))

mutual
  unfolding Stands StandsAll named named_all nth

  -- THE LAW: a tree that is allowed at a place and has no nameless path fits there
  pub allowed-fits : (r : Record) (p : Place) → no_name p ≡ true → Allowed r p → named r ≡ true → Fits r p
  allowed-fits (leaf k b) p g a n = (a.0, a.1, not-nameless p k b g)
  allowed-fits (node k c) p g a n =
      let m = both _ _ n in
      (a.0, held-fit p k c g a.0 a.1 m.0 (λ t h b. allowed-fit c t h b m.1) (λ b h. select-fits c b m.1 h))

  select-fits : (c : Records) → AllowedAll c select → named_all c ≡ true → is_no_name (text (nth 1 c)) ≡ false → FitsAll c select
  select-fits nil a n h = absurd a
  select-fits (r ▸ nil) a n h = absurd a.1
  select-fits (r ▸ s ▸ nil) a n h = (allowed-fits r path refl a.0 (both _ _ n).0, (name-fits s a.1.0 h, tt))
  select-fits (r ▸ s ▸ t ▸ c) a n h = absurd a.1.1

  allowed-fit : (c : Records) (t : Content) → no_name_in t ≡ true → AllowedAll c t → named_all c ≡ true → FitsAll c t
  allowed-fit nil bytes g a n = a
  allowed-fit nil (these []) g a n = tt
  allowed-fit nil (these (p ∷ ps)) g a n = a
  allowed-fit nil (any p) g a n = tt
  allowed-fit nil (at_most_one p) g a n = tt
  allowed-fit (r ▸ c) bytes g a n = absurd a
  allowed-fit (r ▸ c) (these []) g a n = absurd a
  allowed-fit (r ▸ c) (these (p ∷ ps)) g a n =
      let b = both (no_name p) (no_names ps) g in
      let m = both (named r) (named_all c) n in
      (allowed-fits r p b.0 a.0 m.0, allowed-fit c (these ps) b.1 a.1 m.1)
  allowed-fit (r ▸ c) (any p) g a n =
      let m = both (named r) (named_all c) n in
      (allowed-fits r p g a.0 m.0, allowed-fit c (any p) g a.1 m.1)
  allowed-fit (r ▸ c) (at_most_one p) g a n =
      let m = both (named r) (named_all c) n in
      (allowed-fits r p g a.0 m.0, allowed-fit c (these []) refl a.1 m.1)
