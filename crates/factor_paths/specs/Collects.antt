-- One walk over the records of a module that does what the visitor does: proofs/Collects shows it. Assumes nothing: these are definitions.
use Rattle.std.specs.Prelude.{Bool, not, ◌&&◌, ◌||◌, cond, ℕ, suc, eqb, leb}
use Rattle.records.specs.Record.{Record, Records, leaf, node, nil, ◌▸◌}
use Rattle.records.specs.Kinds.{stands, type, expr, kinds}
use Rattle.rast.specs.Path.{Path}
use Rattle.rast.specs.Visitor.{RASTTopDownVisitor}

-- what is visited itself, before its parts; what is none of these only holds others
pub data Visited : Type 0 where
  a_type an_expr a_decl holds : Visited

abbrev pub visited_as : ℕ → Visited
visited_as k = cond (stands type k) a_type (cond (stands expr k) an_expr (cond (stands (kinds 0x62 0x6A) k) a_decl holds))

-- whether field i of a record of kind k is entered: not the path of TypeFromPath and ExprFromPath, the module of ModDecl, the use of UseDecl,
-- the base of TSynonym, the fields of Struct, the type parameters of Impl
abbrev pub enters : ℕ → ℕ → Bool
enters k i =
    not (eqb k 0x2D || eqb k 0x5C || eqb k 0x62 || eqb k 0x6A
    || (eqb k 0x37 && leb 1 i) || (eqb k 0x70 && eqb i 4) || (eqb k 0x7A && eqb i 0))

module _ {T : Type 0} (this : RASTTopDownVisitor T) (SelfPath : Path) where
  abbrev pub single : Visited → T → Record → T
  single a_type acc r = this.VisitTypeSingle acc r
  single an_expr acc r = this.VisitExprSingle acc r
  single a_decl acc r = this.VisitModDeclSingle acc r SelfPath
  single holds acc r = acc

  unfoldable mutual
    pub collects : T → Record → T
    collects acc (leaf k b) = acc
    collects acc (node k c) = collects_all k 0 (single (visited_as k) acc (node k c)) c

    -- the fields of a record of kind k, from field i on
    pub collects_all : ℕ → ℕ → T → Records → T
    collects_all k i acc nil = acc
    collects_all k i acc (r ▸ c) = collects_all k (suc i) (cond (enters k i) (collects acc r) acc) c
