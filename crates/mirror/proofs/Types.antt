-- Type and seq<Type>: their record trees are read back, and every record tree that stands at their places is one. Assumes nothing.
use mathlib.Core.Path.{◌≡◌, refl}
use mathlib.Core.List.{[], ◌∷◌}
use lib.Dec.{lit≤}
use Rattle.records.specs.Record.{Record, children}
use Rattle.records.specs.Kinds.{seq, type, row_of}
use Rattle.records.proofs.Fits.{Fits}
use Rattle.mirror.specs.Rast.{«Type», U8, U16, U32, U64, U128, I8, I16, I32, I64, I128, USIZE, Bool, TIdentifier, TypeFromPath, TypeApp, Borrowed}
use Rattle.mirror.specs.Rast.{BorrowedMut, ImplType, DynType, TupleType, FnType, IntersectionType, Array, TSynonym, TMetaData, Types, []ᵗ, ◌∷ᵗ◌}
use Rattle.mirror.specs.Tree.{Type_tree, Types_trees, list}
use Rattle.mirror.proofs.Decode.{fold, fold_all, Type_absent, Type_at, Types_from, Type_reading, Type_of, Types_of}
use Rattle.records.proofs.Run.{◌⨾◌}
use Rattle.mirror.proofs.Rows.{Layer, Law, Codec, GoodAll, refold, layer, row, all-good, sure, kinds-right, seq-right, text_codec, kept_codec}
use Rattle.mirror.proofs.Rows.{option_codec, option_back}
use Rattle.mirror.proofs.Paths.{Path_back, Path_codec}

mutual
  unfolding fold fold_all Type_at Type_tree Types_trees

  pub Type_back : (t : «Type») → Type_of (Type_tree t) ≡ t
  Type_back U8 = refl
  Type_back U16 = refl
  Type_back U32 = refl
  Type_back U64 = refl
  Type_back U128 = refl
  Type_back I8 = refl
  Type_back I16 = refl
  Type_back I32 = refl
  Type_back I64 = refl
  Type_back I128 = refl
  Type_back USIZE = refl
  Type_back Bool = refl
  Type_back (TIdentifier name) = refl
  Type_back (TypeFromPath path) = λ i. TypeFromPath (Path_back path i)
  Type_back (TypeApp baseName arguments) = λ i. TypeApp (Type_back baseName i) (Types_back arguments i)
  Type_back (Borrowed underlying) = λ i. Borrowed (Type_back underlying i)
  Type_back (BorrowedMut underlying) = λ i. BorrowedMut (Type_back underlying i)
  Type_back (ImplType underlying) = λ i. ImplType (Type_back underlying i)
  Type_back (DynType underlying) = λ i. DynType (Type_back underlying i)
  Type_back (TupleType arguments) = λ i. TupleType (Types_back arguments i)
  Type_back (FnType arguments returnType) = λ i. FnType (Types_back arguments i) (Type_back returnType i)
  Type_back (IntersectionType left right) = λ i. IntersectionType (Type_back left i) (Type_back right i)
  Type_back (Array underlying size) = λ i. Array (Type_back underlying i) (option_back text_codec size i)
  Type_back (TSynonym display base) = λ i. TSynonym (Type_back display i) (Type_back base i)
  Type_back (TMetaData display copySemantics overflow) = λ i. TMetaData (Type_back display i) copySemantics overflow

  pub Types_back : (ts : Types) → Types_of (list (Types_trees ts)) ≡ ts
  Types_back []ᵗ = refl
  Types_back (t ∷ᵗ ts) = λ i. Type_back t i ∷ᵗ Types_back ts i

pub record Good (r : Record) : Type 0 where
  pub type' : Fits r type → Type_tree (Type_of r) ≡ r
  pub types : Fits r (seq type) → list (Types_trees (Types_of r)) ≡ r

abbrev pub T : Layer
T = layer Type_reading Type_absent Good

abbrev a_type : Law T
a_type = record { place = type; again = λ x. Type_tree x.as'.type; right = λ r g. g.type' }

abbrev types : Law T
types = record { place = seq type; again = λ x. list (Types_trees x.as'.types); right = λ r g. g.types }

abbrev a_text : Law T
a_text = sure T text_codec

abbrev a_kept : Law T
a_kept = sure T kept_codec

Type_step : (r : Record) → GoodAll T (children r) → Fits r type → Type_tree (Type_of r) ≡ r
unfolding fold fold_all Type_tree Type_at row_of
Type_step =
    kinds-right T Type_tree Type_at 0x20 24 (lit≤ tt)
    (row T []
    ⨾ row T []
    ⨾ row T []
    ⨾ row T []
    ⨾ row T []
    ⨾ row T []
    ⨾ row T []
    ⨾ row T []
    ⨾ row T []
    ⨾ row T []
    ⨾ row T []
    ⨾ row T []
    ⨾ row T (a_text ∷ [])
    ⨾ row T (sure T Path_codec ∷ [])
    ⨾ row T (a_type ∷ types ∷ [])
    ⨾ row T (a_type ∷ [])
    ⨾ row T (a_type ∷ [])
    ⨾ row T (a_type ∷ [])
    ⨾ row T (a_type ∷ [])
    ⨾ row T (types ∷ [])
    ⨾ row T (types ∷ a_type ∷ [])
    ⨾ row T (a_type ∷ a_type ∷ [])
    ⨾ row T (a_type ∷ sure T (option_codec text_codec) ∷ [])
    ⨾ row T (a_type ∷ a_type ∷ [])
    ⨾ row T (a_type ∷ a_kept ∷ a_kept ∷ []))
    Type_of (refold Type_reading Type_at)

Types_step : (r : Record) → GoodAll T (children r) → Fits r (seq type) → list (Types_trees (Types_of r)) ≡ r
unfolding fold fold_all Types_trees
Types_step = seq-right T a_type (λ x. x.as'.type) []ᵗ ◌∷ᵗ◌ Types_trees refl (λ x s. refl) Types_of (refold Type_reading (λ k. Types_from))

pub good : (r : Record) → Good r
good = all-good T (λ r g. record { type' = Type_step r g; types = Types_step r g })

abbrev pub Type_codec : Codec «Type»
Type_codec = record { place = type; tree = Type_tree; of = Type_of; back = Type_back; right = λ r. (good r).type' }

abbrev pub Types_codec : Codec Types
Types_codec = record { place = seq type; tree = λ ts. list (Types_trees ts); of = Types_of; back = Types_back; right = λ r. (good r).types }
