-- Reasoning by the value of a test. Assumes nothing.
use mathlib.Core.Path.{◌≡◌, refl, sym}
use mathlib.Core.Bool.{Bool, true, false, ◌&&◌, cond, false≢true}
use mathlib.Core.Option.{Option, none, some}
use Rattle.rast.specs.Path.{whether}

-- what follows from either value of a test holds
pub by-test : {X : Type 0} (b : Bool) → (b ≡ true → X) → (b ≡ false → X) → X
by-test true f g = f refl
by-test false f g = g refl

-- what follows from either value of an Option holds
pub by-option : {X A : Type 0} (o : Option A) → (o ≡ none → X) → ((a : A) → o ≡ some a → X) → X
by-option none f g = f refl
by-option (some a) f g = g a refl

-- a test that holds of what there is, where there may be none: there is such
pub there-is : {A : Type 0} (o : Option A) (f : A → Bool) → whether o false f ≡ true → (a : A) × (o ≡ some a) × (f a ≡ true)
there-is none f h = absurd (false≢true h)
there-is (some a) f h = (a, refl, h)

-- two tests that imply each other are equal
pub both_ways : (x y : Bool) → (x ≡ true → y ≡ true) → (y ≡ true → x ≡ true) → x ≡ y
both_ways true y f g = sym (f refl)
both_ways false true f g = g refl
both_ways false false f g = refl

-- what follows from one test and from another follows from both
pub both : (a b : Bool) {c d : Bool} → (a ≡ true → c ≡ true) → (b ≡ true → d ≡ true) → (a && b) ≡ true → (c && d) ≡ true
both true b f g h = rw (f refl) (g h)
both false b f g h = cc

-- and twice over
pub both-twice : (a b c d : Bool) {e f : Bool} → (a ≡ true → c ≡ true → e ≡ true) → (b ≡ true → d ≡ true → f ≡ true) → (a && b) ≡ true → (c && d) ≡ true
    → (e && f) ≡ true
both-twice true b c d f g h i = both c d (f refl) (g h) i
both-twice false b c d f g h i = cc

-- what holds between the results of each branch holds between those of two ifs on one test
pub either : {A B : Type 0} (R : A → B → Type 0) (b : Bool) {x y : A} {z w : B} → R x z → R y w → R (cond b x y) (cond b z w)
either R true p q = p
either R false p q = q

-- what holds of the result of each branch holds of that of an if
pub one_of : {A : Type 0} (Q : A → Type 0) (b : Bool) {x y : A} → Q x → Q y → Q (cond b x y)
one_of Q b {x} {y} = either (λ x z. Q x) b {z = x} {w = y}

-- what holds of none's branch, and of some's for whatever there is, holds of a match on an Option
pub whichever : {A B : Type 0} (Q : B → Type 0) (o : Option A) {b : B} {f : A → B} → Q b → ((a : A) → Q (f a)) → Q (whether o b f)
whichever Q none p q = p
whichever Q (some a) p q = q a
