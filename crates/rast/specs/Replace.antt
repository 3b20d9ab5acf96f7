-- Type.Replace and Expr.Replace of RAST, with Formal's, MatchCase's and AssignIdentifier's (01, Leaf 3 and Leaf 4). Assumes nothing: these are definitions.
use Rattle.records.specs.Record.{Record, Records, leaf, node, nil, ◌▸◌}
use Rattle.rast.specs.Fold.{Role, a_type, an_expr, holds, other, role}

module _ (f ft : Record → Record) where
  -- r is this with its parts replaced
  abbrev pub mapped : Role → (this r : Record) → Record
  mapped a_type this r = ft r
  mapped an_expr this r = f r
  mapped holds this r = r
  mapped other this r = this

  -- children first
  unfoldable mutual
    pub Replace : Record → Record
    Replace (leaf k b) = leaf k b
    Replace (node k c) = mapped (role k) (node k c) (node k (ReplaceParts c))

    pub ReplaceParts : Records → Records
    ReplaceParts nil = nil
    ReplaceParts (r ▸ c) = Replace r ▸ ReplaceParts c

abbrev pub Type_Replace : Record → (Record → Record) → Record
Type_Replace this mapping = Replace (λ e. e) mapping this

abbrev pub Formal_Replace : Record → (Record → Record) → Record
Formal_Replace this ft = Replace (λ e. e) ft this

abbrev pub Expr_Replace : Record → (Record → Record) → (Record → Record) → Record
Expr_Replace this f ft = Replace f ft this
