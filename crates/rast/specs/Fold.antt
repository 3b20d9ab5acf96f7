-- Type.Fold and Expr.Fold of RAST, with Formal's, MatchCase's and AssignIdentifier's (01, Leaf 3 and Leaf 4). Assumes nothing: these are definitions.
use Rattle.std.specs.Prelude.{Bool, true, false, ◌||◌, cond, ℕ, eqb}
use Rattle.records.specs.Record.{Record, Records, leaf, node, nil, ◌▸◌}
use Rattle.records.specs.Kinds.{stands, type, expr}

-- what Fold and Replace do at a record: a Type and an Expr are folded or replaced; a List (a seq or an Option), a Formal, a MatchCase and
-- an AssignIdentifier only hold such; nothing else is entered, a Path neither
pub data Role : Type 0 where
  a_type an_expr holds other : Role

abbrev pub role : ℕ → Role
role k =
    cond (stands type k) a_type
    (cond (stands expr k) an_expr
    (cond (eqb k 0x02 || eqb k 0x7E || eqb k 0x81 || eqb k 0x82) holds other))

abbrev pub unless : {T : Type 0} → Bool → T → (T → T) → T
unless true acc others = acc
unless false acc others = others acc

module _ {T : Type 0} (f ft : T → Record → T) where
  -- the node, then its parts
  abbrev pub visit : Role → T → Record → (T → T) → T
  visit a_type acc this parts = parts (ft acc this)
  visit an_expr acc this parts = parts (f acc this)
  visit holds acc this parts = parts acc
  visit other acc this parts = acc

  -- of TSynonym's parts, 37, only the first, the display, is entered
  unfoldable mutual
    pub Fold : T → Record → T
    Fold acc (leaf k b) = acc
    Fold acc (node k c) = visit (role k) acc (node k c) (λ acc. FoldParts (eqb k 0x37) acc c)

    pub FoldParts : Bool → T → Records → T
    FoldParts firstOnly acc nil = acc
    FoldParts firstOnly acc (r ▸ c) = unless firstOnly (Fold acc r) (λ acc. FoldParts false acc c)

module _ {T : Type 0} where
  abbrev pub Type_Fold : Record → T → (T → Record → T) → T
  Type_Fold this acc f = Fold (λ acc e. acc) f acc this

  abbrev pub Expr_Fold : Record → T → (T → Record → T) → (T → Record → T) → T
  Expr_Fold this acc f ft = Fold f ft acc this
