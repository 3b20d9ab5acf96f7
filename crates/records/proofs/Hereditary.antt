-- What holds of a record and of all below it. Assumes nothing.
use mathlib.Core.List.{[]}
use Prim.Native.Nat.{ℕ, zero, suc}
use Rattle.records.specs.Record.{Record, Records, leaf, node, nil, ◌▸◌, children, nth, field}

-- S of a node gives SA of its records, SA splits into the first and the rest, and S holds of the field that is not there
pub record Hereditary (S : Record → Type 0) (SA : Records → Type 0) : Type 0 where
  pub below : {k : ℕ} {c : Records} → S (node k c) → SA c
  pub none : SA nil
  pub first : {r : Record} {c : Records} → SA (r ▸ c) → S r
  pub rest : {r : Record} {c : Records} → SA (r ▸ c) → SA c
  pub absent : S (leaf 0x01 [])

-- what always holds is hereditary
pub always : Hereditary (λ r. Unit {0}) (λ c. Unit {0})
always = record { below = λ h. tt; none = tt; first = λ h. tt; rest = λ h. tt; absent = tt }

module _ {S : Record → Type 0} {SA : Records → Type 0} (H : Hereditary S SA) where
  -- what is hereditary holds of the records that a record holds
  pub children-in : {r : Record} → S r → SA (children r)
  children-in {r = leaf k b} h = H.none
  children-in {r = node k c} h = H.below h

  -- of each of them
  pub nth_in : (i : ℕ) {c : Records} → SA c → S (nth i c)
  unfolding nth
  nth_in i {c = nil} h = H.absent
  nth_in zero {c = r ▸ c} h = H.first h
  nth_in (suc i) {c = r ▸ c} h = nth_in i (H.rest h)

  -- and so of its fields
  pub field_in : (i : ℕ) {r : Record} → S r → S (field i r)
  field_in i h = nth_in i (children-in h)
