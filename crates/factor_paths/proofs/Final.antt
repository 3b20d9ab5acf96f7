-- The final replacement is, name by name, the operation's choice among the name's paths. Assumes nothing.
use mathlib.Core.Path.{◌≡◌, refl}
use mathlib.Core.List.{List, [], ◌∷◌}
use mathlib.Core.Bool.{true, false}
use mathlib.Core.Option.{none, some}
use Prim.Native.Nat.{ℕ}
use native.Mathlib.Omega.{arith}
use Rattle.rast.specs.Path.{Name, Path, whether}
use Rattle.rast.specs.Operation.{Operation}
use Rattle.rast.proofs.Names.{Names}
use Rattle.rast.proofs.Chosen.{Chooses}
use Rattle.rast.proofs.Tests.{by-test, by-option, there-is}
use Rattle.factor_paths.specs.Mapping.{Provenance, get, ◌among◌, ToFinalReplacement}
use Rattle.factor_paths.specs.Apply.{replaces}
use Rattle.factor_paths.proofs.Maps.{Apart, get-same}

module _ (op : Operation) where
  module _ (N : Names op) where
    -- a name has a final path if it has paths of which one is chosen, and then that one
    pub get-final : (n : Name) (es : Provenance) (S : Path) → Apart op es
        → get op n (ToFinalReplacement op es S) ≡ whether (get op n es) none (λ ps. op.chosen_base S ps)
    unfolding get ToFinalReplacement Apart
    get-final n [] S a = refl
    get-final n (e ∷ es) S a =
        by-option (op.chosen_base S e.held)
        (λ c. by-test (op.same_name e.name n)
        (λ t. rw (c, t, get-final n es S a.1, ← get-same op N e.name n es t, a.0, c))
        (λ t. rw (c, t, get-final n es S a.1)))
        (λ q c. by-test (op.same_name e.name n)
        (λ t. rw (c, t, c))
        (λ t. rw (c, t, get-final n es S a.1)))

    -- a name that has a final path has paths, and that path is the one chosen among them
    pub final-from : (n : Name) (q : Path) (es : Provenance) (S : Path) → Apart op es → get op n (ToFinalReplacement op es S) ≡ some q
        → (ps : List Path) × (get op n es ≡ some ps) × (op.chosen_base S ps ≡ some q)
    final-from n q es S a h =
        by-option (get op n es)
        (λ g. absurd (let i = rw (get-final n es S a, g) at h in let z : ◌≡◌ {A = ℕ} 0 1 = cc in omega arith))
        (λ ps g. (ps, g, rw (get-final n es S a, g) at h))

    -- a name that has SelfPath among its paths is replaced where it is selected from SelfPath
    pub final-self : Chooses op → (n : Name) (es : Provenance) (S : Path) → Apart op es → whether (get op n es) false (λ ps. ◌among◌ op S ps) ≡ true
        → replaces op (ToFinalReplacement op es S) n S ≡ true
    unfolding replaces
    final-self C n es S a h = let i = there-is (get op n es) _ h in rw (get-final n es S a, i.1) (C.self S i.0 i.2)
