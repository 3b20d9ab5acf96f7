-- The walk of factor_paths over the bytes of a record, whatever they are: proofs/Walks shows that over a sound record's bytes it is `walk`. Assumes nothing:
-- these are definitions.
use Rattle.std.specs.Prelude.{List, [], ◌∷◌, ◌++◌, Bool, false, ◌||◌, cond, ℕ, zero, suc, ◌-◌, length, take, eqb, ltb}
use Rattle.wire.specs.Numbers.{Bytes}
use Rattle.records.specs.Record.{record_bytes, kind_of, content_of, rest_of, first_record}
use Rattle.records.specs.Reading.{short}
use Rattle.factor_paths.specs.Walk.{Step, a_type, an_expr, a_fn, left, holds, step_of, deeper}
use Rattle.operation.specs.Operations.{operation_of}
use Rattle.prefix.specs.Prefix.{Scope}
use Rattle.rewriting.specs.Shorts.{type_bytes, expr_bytes}

-- the records that stand one after the other in c, as bytes; n bounds how many, and as many as there are bytes suffice
unfoldable pub parts_up_to : ℕ → Bytes → List Bytes
parts_up_to zero c = []
parts_up_to (suc n) c = cond (short c) [] (first_record c ∷ parts_up_to n (rest_of c))

unfoldable pub parts_of : Bytes → List Bytes
parts_of c = parts_up_to (length c) c

-- the content of a Mod's body, its fourth field
abbrev pub body_of : Bytes → Bytes
body_of r = content_of (rest_of (rest_of (rest_of (content_of r))))

-- what f makes of each, one after the other
unfoldable pub each : (Bytes → Bytes) → List Bytes → Bytes
each f [] = []
each f (r ∷ rs) = f r ++ each f rs

-- a Fn's content from its third field on, and what stands ahead of that
abbrev pub counted : Bytes → Bytes
counted c = rest_of (rest_of c)

abbrev pub uncounted : Bytes → Bytes
uncounted c = take (length c - length (counted c)) c

module _ (s : Scope) (words : List ℕ) where
  -- this, or r which is this with its parts rewritten and one more counted, q with as many counted, fn with a Fn's parts rewritten
  abbrev pub stepped : Step → (k w : ℕ) → (this r q fn : Bytes) → Bytes
  stepped a_type k w this r q fn = cond (eqb k 0x2D) (type_bytes s words w this) r
  stepped an_expr k w this r q fn = cond (eqb k 0x5C) (expr_bytes s words this) r
  stepped a_fn k w this r q fn = fn
  stepped left k w this r q fn = this
  stepped holds k w this r q fn = q

  -- a record that goes at most so deep; w is how often a path type is wrapped
  unfoldable pub rewrite : ℕ → Bool → ℕ → Bytes → Bytes
  rewrite zero again w r = r
  rewrite (suc depth) again w r =
      let k : ℕ = kind_of r in
      let c : Bytes = content_of r in
      stepped (step_of k) k w r
      (record_bytes k (each (rewrite depth again (deeper again w)) (parts_of c)))
      (record_bytes k (each (rewrite depth again w) (parts_of c)))
      (record_bytes k (each (rewrite depth false 1) (parts_of (uncounted c)) ++ each (rewrite depth (operation_of s.op).walks_again 1) (parts_of (counted c))))

  -- the parts of a content, and a record with its parts rewritten
  unfoldable pub parts : ℕ → Bool → ℕ → Bytes → Bytes
  parts depth again w c = each (rewrite depth again w) (parts_of c)

  unfoldable pub kept : ℕ → Bool → ℕ → Bytes → Bytes
  kept depth again w r = record_bytes (kind_of r) (parts depth again w (content_of r))

  -- a Fn with its parts rewritten: what is around a type counts from its third field on
  unfoldable pub function : ℕ → Bytes → Bytes
  function depth r =
      let c : Bytes = content_of r in
      record_bytes (kind_of r) (parts depth false 1 (uncounted c) ++ parts depth (operation_of s.op).walks_again 1 (counted c))

  -- a declaration, in which nothing is counted yet; nothing where it is longer, or deeper, than any card's
  unfoldable pub declaration : ℕ → Bytes → Bytes
  declaration depth r = cond (ltb 65536 (length r) || ltb 48 depth) [] (rewrite depth false 1 r)
