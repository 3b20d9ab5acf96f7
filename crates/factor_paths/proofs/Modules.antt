-- applyPrefix of a module, as the one walk has it: its uses, then its declarations walked. Assumes nothing.
use mathlib.Core.Path.{◌≡◌, refl, ap, ap₂, sym, subst, ◌∙◌}
use mathlib.Core.Bool.{true}
use Prim.Native.Nat.{ℕ, zero, suc}
use lib.Dec.{lit≤}
use Rattle.records.specs.Record.{Record, Records, node, nil, ◌▸◌, ◌▸▸◌, children, FoldLeft, map_all, set_nth, nth, update, put}
use Rattle.records.specs.Kinds.{kinds, one, any, row_of}
use Rattle.records.proofs.Fits.{Fits, FitsAll}
use Rattle.records.proofs.ByRow.{by-kinds, by-seq, seq_node}
use Rattle.rast.specs.Path.{Path}
use Rattle.rast.specs.Operation.{Operation}
use Rattle.rast.specs.Mod.{ExternMod?, Mod-as-Fold}
use Rattle.rast.specs.Replacer.{ReplaceModDecl, ReplaceMod}
use Rattle.factor_paths.specs.Mapping.{FinalReplacement}
use Rattle.factor_paths.specs.Apply.{PathSimplifier, paths_to_remove, imports, apply_prefix}
use Rattle.factor_paths.specs.Walk.{walk_decl}
use Rattle.factor_paths.proofs.Walks.{decl-walk}

-- records put one after another
pub append-nil : (c : Records) → c ▸▸ nil ≡ c
unfolding ◌▸▸◌
append-nil nil = refl
append-nil (r ▸ c) = ap (λ d. r ▸ d) (append-nil c)

pub append_assoc : (b c d : Records) → (b ▸▸ c) ▸▸ d ≡ b ▸▸ (c ▸▸ d)
unfolding ◌▸▸◌
append_assoc nil c d = refl
append_assoc (r ▸ b) c d = ap (λ e. r ▸ e) (append_assoc b c d)

-- to fold by adding at the end is to map
fold-snoc : (g : Record → Record) (c acc : Records) → FoldLeft (λ current d. current ▸▸ (g d ▸ nil)) acc c ≡ acc ▸▸ map_all g c
unfolding FoldLeft map_all ◌▸▸◌
fold-snoc g nil acc = sym (append-nil acc)
fold-snoc g (r ▸ c) acc = fold-snoc g c (acc ▸▸ (g r ▸ nil)) ∙ append_assoc acc (g r ▸ nil) (map_all g c)

module _ (op : Operation) (f : Record → Path → Record) where
  decls-walk : (rep : FinalReplacement) (SelfPath : Path) (c : Records) → FitsAll c (any (kinds 0x62 0x6A))
      → map_all (λ d. ReplaceModDecl op (PathSimplifier op f rep) d SelfPath) c ≡ map_all (walk_decl op rep f SelfPath) c
  unfolding map_all
  decls-walk rep SelfPath =
      by-seq (λ d. ReplaceModDecl op (PathSimplifier op f rep) d SelfPath ≡ walk_decl op rep f SelfPath d)
      (λ c. map_all (λ d. ReplaceModDecl op (PathSimplifier op f rep) d SelfPath) c ≡ map_all (walk_decl op rep f SelfPath) c)
      (kinds 0x62 0x6A) (decl-walk op rep f SelfPath) refl (λ r c h hs. ap₂ ◌▸◌ h hs)

  -- ReplaceMod of a Mod, by its fields
  mod-walk : (rep : FinalReplacement) (SelfPath : Path) (d a n : Record) (c : Records) → FitsAll c (any (kinds 0x62 0x6A)) →
      ReplaceMod op (PathSimplifier op f rep) (node 0x60 (d ▸ a ▸ n ▸ node 0x02 c ▸ nil)) SelfPath
      ≡ node 0x60 (d ▸ a ▸ n ▸ node 0x02 (map_all (walk_decl op rep f SelfPath) c) ▸ nil)
  unfolding ReplaceMod Mod-as-Fold set_nth nth ◌▸▸◌
  mod-walk rep SelfPath d a n c h =
      ap (λ b. node 0x60 (d ▸ a ▸ n ▸ node 0x02 b ▸ nil)) (fold-snoc (λ d. ReplaceModDecl op (PathSimplifier op f rep) d SelfPath) c nil ∙ decls-walk rep
      SelfPath c h)

-- a Mod by its fields: docString, attributes, name and the declarations of its body
pub record ModFields (m : Record) : Type 0 where
  pub doc : Record
  pub attributes : Record
  pub named : Record
  pub body : Records
  pub is-mod : m ≡ node 0x60 (doc ▸ attributes ▸ named ▸ node 0x02 body ▸ nil)
  pub doc-fits : Fits doc (one 0x01)
  pub attributes-fits : Fits attributes (one 0x03)
  pub named-fits : Fits named (one 0x01)
  pub body-fits : FitsAll body (any (kinds 0x62 0x6A))

pub mod-fields : (m : Record) → Fits m (one 0x60) → ModFields m
unfolding row_of
mod-fields =
    by-kinds ModFields 0x60 0 (lit≤ tt)
    (λ d hd a ha n hn b hb. let s = seq_node b (kinds 0x62 0x6A) hb in
    record {
      doc = d;
      attributes = a;
      named = n;
      body = s.0;
      is-mod = ap (λ q. node 0x60 (d ▸ a ▸ n ▸ q ▸ nil)) s.1;
      doc-fits = hd;
      attributes-fits = ha;
      named-fits = hn;
      body-fits = s.2;
    })

-- THE LAW: applyPrefix of a Mod is the Mod with its uses ahead of its declarations walked
pub module-walk : (op : Operation) (n : ℕ) (SelfPath : Path) (m : Record) (h : ModFields m) →
    apply_prefix op (suc n) m SelfPath
    ≡ node 0x60 (h.doc ▸ h.attributes ▸ h.named ▸ node 0x02 (imports op m SelfPath ▸▸ map_all
    (walk_decl op (paths_to_remove op m SelfPath) (apply_prefix op n) SelfPath) h.body) ▸ nil)
unfolding apply_prefix set_nth
module-walk op n SelfPath m h =
    subst (λ (q : Record). apply_prefix op (suc n) q SelfPath
    ≡ node 0x60 (h.doc ▸ h.attributes ▸ h.named ▸ node 0x02 (imports op q SelfPath ▸▸ map_all
    (walk_decl op (paths_to_remove op q SelfPath) (apply_prefix op n) SelfPath) h.body) ▸ nil))
    (sym h.is-mod)
    (ap (update 3 (λ body. put (imports op is SelfPath ▸▸ children body) body))
    (mod-walk op (apply_prefix op n) (paths_to_remove op is SelfPath) SelfPath h.doc h.attributes h.named h.body h.body-fits))
  where
    is : Record
    is = node 0x60 (h.doc ▸ h.attributes ▸ h.named ▸ node 0x02 h.body ▸ nil)

-- and of an ExternMod, the ExternMod
extern-left : (op : Operation) (n : ℕ) (SelfPath : Path) (m : Record) → ExternMod? m ≡ true → apply_prefix op n m SelfPath ≡ m
unfolding apply_prefix
extern-left op zero SelfPath m e = refl
extern-left op (suc n) SelfPath m e = rw e

pub extern-walk : (op : Operation) (n : ℕ) (SelfPath : Path) (m : Record) → Fits m (one 0x61) → apply_prefix op n m SelfPath ≡ m
unfolding row_of
extern-walk op n SelfPath = by-kinds (λ m. apply_prefix op n m SelfPath ≡ m) 0x61 0 (lit≤ tt) (λ t h. extern-left op n SelfPath (node 0x61 (t ▸ nil)) refl)
