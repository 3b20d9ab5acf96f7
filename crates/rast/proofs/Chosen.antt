-- What an operation's choice among a name's bases has to keep, and that shortening's keeps it. Assumes nothing.
use mathlib.Core.Path.{◌≡◌, refl, sym, ◌∙◌}
use mathlib.Core.List.{List, [], ◌∷◌, map}
use mathlib.Core.Bool.{Bool, true, false, or-false, false≢true}
use mathlib.Core.Option.{none, some, some-injective}
use Prim.Native.Nat.{ℕ, suc}
use native.Mathlib.Omega.{arith}
use lib.ListN.{length}
use lib.Dec.{eqb}
use borrow.Author.Tests.{ne_eqb}
use Rattle.rast.specs.Path.{Path, dafny_runtime, same_path, whether}
use Rattle.rast.specs.Final.{is_among, final_path}
use Rattle.wire.specs.Numbers.{same_bytes}
use Rattle.rast.specs.Operation.{Operation, shortening}
use Rattle.rast.proofs.Tests.{by-test}
use Rattle.rast.proofs.Names.{Equivalence, turned, paths, shortening-names}

-- something is so of each of some
unfoldable pub Each : {A : Type 0} → (A → Type 0) → List A → Type 0
Each Q [] = Unit {0}
Each Q (p ∷ ps) = Q p × Each Q ps

-- where SelfPath is among the paths one is chosen and is the same as it; what is chosen is among them; and it is one of them, SelfPath or dafny_runtime itself
pub record Chooses (op : Operation) : Type 1 where
  pub self : (S : Path) (ps : List Path) → is_among (same_path op.same_name) S ps ≡ true
      → whether (op.chosen_base S ps) false (λ q. same_path op.same_name q S) ≡ true
  pub inside : (S : Path) (ps : List Path) (q : Path) → op.chosen_base S ps ≡ some q → is_among (same_path op.same_name) q ps ≡ true
  pub kept : (Q : Path → Type 0) (S : Path) (ps : List Path) (q : Path) → Q S → Q dafny_runtime → Each Q ps → op.chosen_base S ps ≡ some q → Q q

module _ {A : Type 0} (same : A → A → Bool) (runtime S : A) where
  -- one path is chosen, and among several SelfPath or dafny_runtime, if it is among them
  several : (p q : A) (ps : List A) (Q : A → Type 0)
      → (is_among same S (p ∷ q ∷ ps) ≡ true → Q S) → (is_among same runtime (p ∷ q ∷ ps) ≡ true → Q runtime)
      → (r : A) → final_path same runtime S (p ∷ q ∷ ps) ≡ some r → Q r
  unfolding final_path
  several p q ps Q self run r h =
      let two = ne_eqb (suc (suc (length ps))) 1 (omega arith) in
      by-test (is_among same S (p ∷ q ∷ ps))
      (λ t. let i = rw (two, t) at h in rw (some-injective _ _ i) at (self t))
      (λ t. by-test (is_among same runtime (p ∷ q ∷ ps))
      (λ u. let i = rw (two, t, u) at h in rw (some-injective _ _ i) at (run u))
      (λ u. let i = rw (two, t, u) at h in absurd (let z : ◌≡◌ {A = ℕ} 0 1 = cc in omega arith)))

  pub final-kept : (Q : A → Type 0) (ps : List A) (r : A) → Q S → Q runtime → Each Q ps → final_path same runtime S ps ≡ some r → Q r
  unfolding final_path Each is_among
  final-kept Q [] r s d e h = absurd (let z : ◌≡◌ {A = ℕ} 0 1 = cc in omega arith)
  final-kept Q (p ∷ []) r s d e h = rw (some-injective _ _ h) at e.0
  final-kept Q (p ∷ q ∷ ps) r s d e h = several p q ps Q (λ t. s) (λ t. d) r h

  module _ (E : Equivalence same) where
    final-self : (ps : List A) → is_among same S ps ≡ true → whether (final_path same runtime S ps) false (λ q. same q S) ≡ true
    unfolding final_path is_among
    final-self [] h = h
    final-self (p ∷ []) h = turned E p S ∙ (sym (or-false (same S p)) ∙ h)
    final-self (p ∷ q ∷ ps) h = rw (ne_eqb (suc (suc (length ps))) 1 (omega arith), h) (E.reflexive S)

    final-inside : (ps : List A) (r : A) → final_path same runtime S ps ≡ some r → is_among same r ps ≡ true
    unfolding final_path is_among
    final-inside [] r h = absurd (let z : ◌≡◌ {A = ℕ} 0 1 = cc in omega arith)
    final-inside (p ∷ []) r h = rw (some-injective _ _ h, or-false (same r r)) (E.reflexive r)
    final-inside (p ∷ q ∷ ps) r h = several p q ps (λ x. is_among same x (p ∷ q ∷ ps) ≡ true) (λ t. t) (λ t. t) r h

-- the choice among what f makes of paths is what f makes of the choice, if f keeps whether two are the same
module _ {A B : Type 0} (same : A → A → Bool) (same' : B → B → Bool) (f : A → B) (Q : A → Type 0)
    (agree : (a b : A) → Q a → Q b → same' (f a) (f b) ≡ same a b) where
  pub among-map : (p : A) (ps : List A) → Q p → Each Q ps → is_among same' (f p) (map f ps) ≡ is_among same p ps
  unfolding is_among Each
  among-map p [] a e = refl
  among-map p (q ∷ ps) a e = rw (agree p q a e.0, among-map p ps a e.1)

  pub final-map : (runtime S : A) (ps : List A) → Q runtime → Q S → Each Q ps
      → final_path same' (f runtime) (f S) (map f ps) ≡ whether (final_path same runtime S ps) none (λ p. some (f p))
  unfolding final_path is_among
  final-map runtime S [] r s e = refl
  final-map runtime S (p ∷ []) r s e = refl
  final-map runtime S (p ∷ q ∷ ps) r s e =
      let one : eqb (suc (suc (length (map f ps)))) 1 ≡ false = ne_eqb (suc (suc (length (map f ps)))) 1 (omega arith) in
      let two : eqb (suc (suc (length ps))) 1 ≡ false = ne_eqb (suc (suc (length ps))) 1 (omega arith) in
      rw (one, two, among-map S (p ∷ q ∷ ps) s e, among-map runtime (p ∷ q ∷ ps) r e)
      (by-test (is_among same S (p ∷ q ∷ ps)) (λ t. rw t)
      (λ t. by-test (is_among same runtime (p ∷ q ∷ ps)) (λ u. rw (t, u)) (λ u. rw (t, u))))

pub shortening-chooses : (again : Bool) → Chooses (shortening again)
shortening-chooses again = record {
  self = λ S. final-self (same_path same_bytes) dafny_runtime S (paths (shortening-names again));
  inside = λ S. final-inside (same_path same_bytes) dafny_runtime S (paths (shortening-names again));
  kept = λ Q S ps q s r. final-kept (same_path same_bytes) dafny_runtime S Q ps q s r;
}
