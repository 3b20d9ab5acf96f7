-- THE OUTERMOST MODULE of a card that is admitted: what is written of it is the output, or the place of the first table that is full. Assumes nothing.
use Rattle.std.specs.Prelude.{Ok}
use mathlib.Core.Path.{◌≡◌, ap, sym, subst, ◌∙◌}
use mathlib.Core.List.{List, [], append-nil}
use mathlib.Core.Option.{none}
use Prim.Native.Nat.{ℕ, ◌+◌, ◌/◌, ◌<◌, ◌≤◌, min}
use native.Mathlib.Nat.{le_refl}
use native.Mathlib.Omega.{arith}
use lib.ListN.{length, get_or}
use Rattle.wire.specs.Numbers.{Bytes}
use Rattle.wire.proofs.Numbers.{are-bytes}
use Rattle.records.specs.Record.{encode, tree, deep}
use Rattle.records.specs.Kinds.{path, mod'}
use Rattle.records.proofs.Sound.{ReadsAs, sound-reads}
use Rattle.records.proofs.Starts.{Starts}
use Rattle.rast.specs.Path.{Path, MSel}
use Rattle.rast.specs.Mod.{name_of}
use Rattle.factor_paths.specs.Mapping.{Mapping}
use Rattle.factor_paths.specs.Apply.{mappings, apply}
use Rattle.outcome.specs.FullTable.{full_table}
use Rattle.outcome.specs.Outcome.{admitted}
use Rattle.outcome.proofs.Accepted.{admitted-sound}
use Rattle.operation.specs.declared.Shortening.{Shortening}
use Rattle.places.proofs.Weighed.{weighed}
use Rattle.operation.specs.Operations.{operation_of, weight_bytes}
use Rattle.prefix.specs.Prefix.{Scope}
use Rattle.prefix.proofs.Nested.{outermost-prefix}
use Rattle.chains.specs.Chains.{room}
use Rattle.adding.specs.Adds.{Table, table}
use Rattle.fields.specs.Fields.{name_place}
use Rattle.gathering.specs.Gathers.{span, gathered}
use Rattle.gathering.proofs.Mapped.{selected-canonical, module-tabled}
use Rattle.tables.specs.Tables.{table_of}
use Rattle.tables.proofs.Owner.{owner-has}
use Rattle.modules.specs.Modules.{Made, module_made}
use Rattle.modules.proofs.Inner.{name-there, name-small}
use Rattle.modules.proofs.States.{found, Ready, settled-ready, After, same, other, scope_at, Stands, Applied}
use Rattle.modules.proofs.Applies.{module-applies}

-- words that are the module's own, and ready, are so after it too
pub after-ready : (s : Scope) (at to : ℕ) (a : Mapping) (owner : ℕ) (held : Table) (M : Made) → (owner ≡ at → Ready s held a) → After s at to a owner held M
    → M.owner ≡ at → Ready s M.held a
after-ready s at to a owner held M t (same x y) e = rw y (t (sym x ∙ e))
after-ready s at to a owner held M t (other h) e = h.tabled e

module _ (card root : Bytes) where
  abbrev pub Prefix : Path
  Prefix = MSel (tree root) (name_of (tree card))

  -- words that hold the outermost module's table
  abbrev pub Own : Shortening → Table → Type 0
  Own op held = Ready (scope_at op card root [] 0) held (mappings (operation_of op) (tree card) Prefix)

  -- a card and a root that read sound, and no longer than their places can say
  pub record Reads (limit : ℕ) : Type 0 where
    pub small : length card ≤ 65536
    pub rooted : length root ≤ 65536
    pub is-card : ReadsAs 48 mod' card (tree card)
    pub is-root : ReadsAs limit path root (tree root)

  module _ (op : Shortening) (limit : ℕ) (r : Reads limit) where
    starts : Starts card 0 (tree card)
    starts = record { after = []; is = sym (append-nil (encode (tree card)) ∙ r.is-card.encoded) }

    pub outermost-stands : Stands op card root [] 0 (tree card) Prefix
    outermost-stands =
        let f = r.is-card.fits in
        let c = r.is-card.canonical in
        let a : length (encode (tree root)) ≡ length root = ap length r.is-root.encoded in
        let n = name-small card 0 (tree card) starts f c in
        let s = r.small in
        let t = r.rooted in
        record {
          starts = starts;
          fits = f;
          canonical = c;
          prefixed = selected-canonical (tree root) (name_of (tree card)) r.is-root.canonical (omega arith);
          prefix-is =
              outermost-prefix (operation_of op) card root (name_place card 0) (name_of (tree card)) (name-there card 0 (tree card) starts f c) (tree root)
              (sym r.is-root.encoded);
        }

    pub outermost-applies : (owner : ℕ) (held : Table) → (owner ≡ 0 → Own op held)
        → Applied op card root (room held.words) (deep (tree card)) [] 0 (tree card) Prefix owner held
        (module_made op card root 48 [] (span 0 (length card)) owner held)
    outermost-applies owner held t =
        let l : length (encode (tree card)) ≡ length card = ap length r.is-card.encoded in
        let e : 0 + length (encode (tree card)) ≡ length card = omega arith in
        subst (λ (to : ℕ). Applied op card root (room held.words) (deep (tree card)) [] 0 (tree card) Prefix owner held
        (module_made op card root 48 [] (span 0 to) owner held)) e
        (module-applies op card root r.small r.rooted 48 (deep (tree card)) [] (omega arith) 0 (tree card) Prefix outermost-stands
        r.is-card.shallow (le_refl (deep (tree card))) owner held t)

-- what a card and a root that are admitted are
pub admitted-reads : (op : Shortening) (card root : Bytes) (words : ℕ) → admitted (operation_of op) card root words ≡ Ok tt
    → ((i : ℕ) → get_or card i 0 < 256) → ((i : ℕ) → get_or root i 0 < 256) → Reads card root (operation_of op).root_depth
admitted-reads op card root words e bc br =
    let a = admitted-sound (operation_of op) card root words e in
    record {
      small = (let l = a.card-length in omega arith);
      rooted = (let l = a.root-length in omega arith);
      is-card = sound-reads 48 mod' card (are-bytes card bc) a.card-sound;
      is-root = sound-reads 8 path root (are-bytes root br) a.root-sound;
    }

-- what is made of the outermost module, where there may be so many pairs
pub record Outermost (op : Shortening) (card root : Bytes) (most : ℕ) (held : Table) (M : Made) : Type 0 where
  pub full : M.full ≡ found (full_table (operation_of op) most (deep (tree card)) (tree card) (Prefix card root) 0)
  pub bytes : full_table (operation_of op) most (deep (tree card)) (tree card) (Prefix card root) 0 ≡ none
      → M.bytes ≡ weighed (weight_bytes op) (tree card) (apply (operation_of op) (tree root) (tree card))
  pub long : length M.held.words ≡ length held.words
  pub own : M.owner ≡ 0 → Own card root op M.held

module _ (op : Shortening) (card root : Bytes) (words : ℕ) (sound : admitted (operation_of op) card root words ≡ Ok tt)
    (bc : (i : ℕ) → get_or card i 0 < 256) (br : (i : ℕ) → get_or root i 0 < 256) where
  -- THE LAW
  pub outermost-is : (owner : ℕ) (held : Table) → (owner ≡ 0 → Own card root op held)
      → Outermost op card root (room held.words) held (module_made op card root 48 [] (span 0 (length card)) owner held)
  unfolding apply
  outermost-is owner held t =
      let M = module_made op card root 48 [] (span 0 (length card)) owner held in
      let a = outermost-applies card root op (operation_of op).root_depth (admitted-reads op card root words sound bc br) owner held t in
      record {
        full = a.full;
        bytes = a.bytes;
        long = a.words;
        own = after-ready (scope_at op card root [] 0) 0 _ (mappings (operation_of op) (tree card) (Prefix card root)) owner held M t a.after;
      }

  -- and of it once more, by the words as they are then
  pub outermost-again : (held : Table) (M : Made) → Outermost op card root (room held.words) held M
      → Outermost op card root (room held.words) M.held (module_made op card root 48 [] (span 0 (length card)) M.owner M.held)
  outermost-again held M o =
      subst (λ (most : ℕ). Outermost op card root most M.held (module_made op card root 48 [] (span 0 (length card)) M.owner M.held))
      (ap (λ (x : ℕ). min (x / 4) 65535) o.long) (outermost-is M.owner M.held o.own)

  abbrev Mapped : Mapping
  Mapped = mappings (operation_of op) (tree card) (Prefix card root)

  here : Stands op card root [] 0 (tree card) (Prefix card root)
  here = outermost-stands card root op (operation_of op).root_depth (admitted-reads op card root words sound bc br)

  -- its table, collected beforehand
  abbrev pub Collected : List ℕ → Table
  Collected ws = table_of (scope_at op card root [] 0) 48 0 65537 (table 0 ws)

  pub collected-own : (ws : List ℕ) → Own card root op (Collected ws)
  collected-own ws =
      let r = admitted-reads op card root words sound bc br in
      owner-has (scope_at op card root [] 0) 48 0 65537 (table 0 ws) (λ (u : Table). Ready (scope_at op card root [] 0) u Mapped) (λ e. absurd (omega (arith, e)))
      (settled-ready (scope_at op card root [] 0) (gathered (scope_at op card root [] 0) 48 0 ws) Mapped
      (module-tabled (scope_at op card root [] 0) 0 (tree card) here.starts here.fits here.canonical 48 r.is-card.shallow r.small (Prefix card
      root)
      here.prefixed here.prefix-is ws))
