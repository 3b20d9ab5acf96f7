-- How much longer than its card an output can be, whatever its tables say: every path type grows by its synonyms, and every path in a nested module by a use.
-- The outermost module's uses are not counted: its table says them. Over a card's bytes, whatever they are. Assumes nothing: these are definitions.
use Rattle.std.specs.Prelude.{Bool, false, ◌||◌, cond, List, [], ◌∷◌, ℕ, zero, suc, ◌+◌, ◌*◌, length, eqb, ltb}
use Rattle.wire.specs.Numbers.{Bytes, between}
use Rattle.records.specs.Record.{is_leaf, length_of, kind_of, content_of}
use Rattle.records.specs.Kinds.{stands, path, type, expr}
use Rattle.factor_paths.specs.Walk.{deeper}
use Rattle.operation.specs.declared.Shortening.{Shortening}
use Rattle.operation.specs.Operations.{operation_of}
use Rattle.rewriting.specs.Replaces.{name_in}
use Rattle.rewriting.specs.Rewrites.{parts_of, counted, uncounted}

-- a Text, a Kept, a path, a use: nothing in it grows
abbrev pub is_fixed : ℕ → Bool
is_fixed k = is_leaf k || stands path k || eqb k 0x6A || eqb k 0x80

-- how often a path type is wrapped in a record of kind k
abbrev pub wraps_in : Bool → (w k : ℕ) → ℕ
wraps_in again w k = cond (stands type k || stands expr k) (deeper again w) w

-- the same for any count: one too large stays
abbrev pub wraps_at : Bool → (w k : ℕ) → ℕ
wraps_at again w k = cond (ltb 65536 w) w (wraps_in again w k)

-- a use is 13 bytes longer than a record that holds its path; where uses are charged, each such record is charged one
abbrev pub use_of : Bool → ℕ → ℕ
use_of charged n = cond charged (13 + n) 0

unfoldable pub sum : (Bytes → ℕ) → List Bytes → ℕ
sum f [] = 0
sum f (r ∷ rs) = f r + sum f rs

module _ (op : Shortening) where
  -- a record that goes at most so deep; w is how often a path type is wrapped
  unfoldable pub growth : ℕ → (charged again : Bool) → (w : ℕ) → Bytes → ℕ
  growth zero charged again w r = 0
  growth (suc depth) charged again w r =
      let k : ℕ = kind_of r in
      let c : Bytes = content_of r in
      cond (is_fixed k) 0
      (cond (eqb k 0x2D) (w * (18 + length (name_in r)) + use_of charged (length r))
      (cond (eqb k 0x5C) (use_of charged (length r))
      (cond (eqb k 0x7D)
      (sum (growth depth charged false 1) (parts_of (uncounted c)) + sum (growth depth charged (operation_of op).walks_again 1) (parts_of (counted c)))
      (sum (growth depth (charged || eqb k 0x62) again (wraps_in again w k)) (parts_of c)))))

  -- the records in some bytes
  unfoldable pub growth_all : ℕ → (charged again : Bool) → (w : ℕ) → Bytes → ℕ
  growth_all depth charged again w c = sum (growth depth charged again w) (parts_of c)

  -- those between two places of a card; nothing where these are not in it, where places do not fit a half word, or a count would be too large
  unfoldable pub part_growth : (card : Bytes) → (from to : ℕ) → (charged again : Bool) → (w left : ℕ) → ℕ
  part_growth card from to charged again w left =
      cond (ltb to from || ltb (length card) to || ltb 65536 (length card) || ltb 65536 (w + left)) 0
      (growth_all left charged again w (between card from to))

  -- a declaration of kind k, by its content
  unfoldable pub decl_growth : (left : ℕ) (again : Bool) (w k : ℕ) → Bytes → ℕ
  decl_growth left again w k c = cond (is_fixed k) 0 (growth_all left (eqb k 0x62) again w c)

  -- a card's first record, which is all of a sound card
  unfoldable pub card_growth : Bytes → ℕ
  card_growth card = part_growth card 0 (4 + length_of card) false false 1 48
