-- The trees that stand at a place. Assumes nothing.
use mathlib.Core.Path.{◌≡◌}
use mathlib.Core.List.{[], ◌∷◌}
use mathlib.Core.Bool.{Bool, true, false}
use Prim.Native.Nat.{ℕ}
use Rattle.wire.specs.Numbers.{Bytes}
use Rattle.records.specs.Record.{Record, Records, leaf, node, nil, ◌▸◌}
use Rattle.records.specs.Kinds.{Place, stands, Content, bytes, these, any, at_most_one, content_at}
use Rattle.records.specs.Reading.{nameless}

-- a record stands at a place: its kind is allowed there, and what it holds is what that kind holds there; its bytes are not what is refused at the place
module _ (refused : Place → ℕ → Bytes → Bool) where
  unfoldable mutual
    pub Stands : Record → Place → Type 0
    Stands (leaf k b) p = (stands p k ≡ true) × (content_at p k ≡ bytes) × (refused p k b ≡ false)
    Stands (node k c) p = (stands p k ≡ true) × StandsAll c (content_at p k)

    pub StandsAll : Records → Content → Type 0
    StandsAll nil bytes = ⊥
    StandsAll nil (these []) = Unit {0}
    StandsAll nil (these (p ∷ ps)) = ⊥
    StandsAll nil (any p) = Unit {0}
    StandsAll nil (at_most_one p) = Unit {0}
    StandsAll (r ▸ c) bytes = ⊥
    StandsAll (r ▸ c) (these []) = ⊥
    StandsAll (r ▸ c) (these (p ∷ ps)) = Stands r p × StandsAll c (these ps)
    StandsAll (r ▸ c) (any p) = Stands r p × StandsAll c (any p)
    StandsAll (r ▸ c) (at_most_one p) = Stands r p × StandsAll c (these [])

-- where a name is due, its bytes are one: what a sound tree is
abbrev pub Fits : Record → Place → Type 0
Fits = Stands nameless

abbrev pub FitsAll : Records → Content → Type 0
FitsAll = StandsAll nameless
