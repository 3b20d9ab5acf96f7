-- THE MAPPING: what is collected from a module in the card means the definition's mapping of that module. Assumes nothing.
use mathlib.Core.Path.{◌≡◌, refl, ap, sym, subst, ◌∙◌}
use mathlib.Core.List.{List, [], ◌++◌}
use Prim.Native.Nat.{ℕ, ◌+◌, ◌%◌, ◌^◌, ◌<◌, ◌≤◌}
use native.Mathlib.Omega.{arith}
use lib.ListN.{length, drop, take, length-append}
use lib.Seq.{drop-drop}
use lib.Dec.{lit<, lit≤}
use borrow.Author.Tests.{le-ltb}
use Rattle.wire.specs.Numbers.{Bytes}
use Rattle.records.specs.Record.{Record, leaf, nil, ◌▸◌, encode, encode_all, length_of, deep, skip, nth, first_record, record_at}
use Rattle.records.specs.Kinds.{mod', row_of, content_at}
use Rattle.records.specs.Canonical.{Canonical}
use Rattle.records.proofs.Tree.{record-length}
use Rattle.records.proofs.Fits.{Fits}
use Rattle.records.proofs.Run.{◌⨾◌}
use Rattle.records.proofs.ByRow.{by-kinds}
use Rattle.records.proofs.Front.{encode-short, encode-length}
use Rattle.records.proofs.Starts.{Starts}
use Rattle.rast.specs.Path.{Name, Path, MSel}
use Rattle.rast.specs.Mod.{name_of}
use Rattle.factor_paths.specs.Mapping.{Mapping, no_mapping, Add}
use Rattle.factor_paths.specs.PathsVisitor.{PathsVisitor}
use Rattle.factor_paths.specs.Apply.{mappings}
use Rattle.factor_paths.proofs.Collects.{module-collects}
use Rattle.operation.specs.Operations.{operation_of}
use Rattle.prefix.specs.Prefix.{Scope, prefix_in}
use Rattle.comparing.specs.Compares.{base_at}
use Rattle.pairs.proofs.Means.{means-none, means-put}
use Rattle.adding.specs.Adds.{Table, added}
use Rattle.adding.proofs.Starts.{start_has}
use Rattle.adding.proofs.Stores.{add-has}
use Rattle.fields.specs.Fields.{offset_of, name_at}
use Rattle.gathering.specs.Gathers.{gather_module, gathered}
use Rattle.gathering.specs.Tabled.{Tabled}
use Rattle.gathering.proofs.Names.{is-text}
use Rattle.gathering.proofs.Parts.{starts-kind, starts_first, starts-field, encode-first}
use Rattle.gathering.proofs.Trees.{gather-walks}

-- a module's name stands where name_at says
abbrev NameIn : Bytes → Record → Type 0
NameIn s m = Starts s (name_at 0x62 s) (leaf 0x01 (name_of m)) × Canonical (leaf 0x01 (name_of m))

pub module-name : (s : Bytes) (m : Record) → Fits m mod' → Starts s 0 m → Canonical m → NameIn s m
unfolding row_of content_at nth skip Canonical name_at
module-name s =
    by-kinds (λ m. Starts s 0 m → Canonical m → NameIn s m) 0x60 1 (lit≤ tt)
    ((λ x hx y hy n hn b hb p h.
    let e = is-text n hn in
    rw (starts-kind p h) (
      subst (Starts s (6 + offset_of 2 (drop 6 s))) (sym e) (starts-field p 2 n (b ▸ nil) h.3 refl),
      subst Canonical (sym e)
          h.3.1.1.0,
    ))
    ⨾ (λ n hn p h.
    let e = is-text n hn in
    rw (starts-kind p h) (subst (Starts s 6) (sym e) (starts_first p n nil refl), subst Canonical (sym e) h.3.0)))

-- a name selected from a canonical path is a canonical path, if its length can be written
pub selected-canonical : (p : Path) (n : Name) → Canonical p → length (encode p) + length n + 14 < 2 ^ 32 → Canonical (MSel p n)
unfolding Canonical encode
selected-canonical p n c h =
    let a = length-append (encode p) (encode_all (leaf 0x01 n ▸ nil)) in
    let b = length-append (encode (leaf 0x01 n)) [] in
    let d = record-length 0x01 n in
    (refl, lit< tt, omega arith, (c, ((refl, lit< tt, omega arith), tt)))

module _ (card : Bytes) (at : ℕ) (m : Record) (starts : Starts card at m) (fits : Fits m mod') (canonical : Canonical m) where
  here : Starts (drop at card) 0 m
  here = record { after = starts.after; is = starts.is }

  -- the record of the module's name, by its place in the card
  pub name-record : record_at card (at + name_at 0x62 (drop at card)) ≡ encode (leaf 0x01 (name_of m))
  name-record =
      let n = module-name (drop at card) m fits here canonical in
      ap first_record (sym (drop-drop (name_at 0x62 (drop at card)) at card) ∙ n.0.is) ∙ encode-first (leaf 0x01 (name_of m)) n.0.after n.1

-- adding to a table that means a mapping is adding to the mapping
tabled-add : (s : Scope) (t : Table) (a : Mapping) (at len base : ℕ) (k : Name) (b : Path) → Canonical b → base < 65536
    → take len (drop (at % 65536) s.card) ≡ k
    → base_at s base ≡ encode b → Tabled s t a → Tabled s (added s t at len base) (Add (operation_of s.op) a k b)
tabled-add s t a at len base k b c l e f h =
    record {
      pairs = _;
      has = rw (e, f) at (add-has s t at len base h.pairs l h.has);
      means = means-put s.op h.pairs a k b c h.means;
    }

module _ (s : Scope) (at : ℕ) (m : Record) (starts : Starts s.card at m) (fits : Fits m mod') (canonical : Canonical m) where
  -- THE LAW: the table of a module means its mapping
  pub module-tabled : (left : ℕ) → deep m ≤ left → length s.card ≤ 65536 → (S : Path) → Canonical S → prefix_in s ≡ encode S → (words : List ℕ)
      → Tabled s (gathered s left at words) (mappings (operation_of s.op) m S)
  unfolding gather_module mappings
  module-tabled left d l S c e words =
      let end : at + 4 + length_of (encode m ++ starts.after) ≡ at + length (encode m) = (let n = encode-length m starts.after canonical in omega arith) in
      rw (
        le-ltb 65536 (length s.card) l,
        starts.is,
        encode-short m starts.after canonical,
        end,
        module-collects (PathsVisitor (operation_of s.op)) S
            no_mapping m fits,
      )
      (gather-walks s (added s) (Tabled s) (tabled-add s) S c e l left m fits canonical d at starts _ no_mapping
      (record { pairs = []; has = start_has s words; means = means-none s.op }))
