-- Pairs put again where they stand, one after the other. Assumes nothing.
use mathlib.Core.Path.{◌≡◌, refl, sym, ap, ◌∙◌}
use mathlib.Core.List.{List}
use Prim.Native.Nat.{ℕ, suc, ◌+◌, ◌-◌, ◌*◌, ◌/◌, ◌<◌, ◌≤◌}
use native.Mathlib.Omega.{arith}
use native.Mathlib.Numerals.{add-one}
use lib.ListN.{length, get_or}
use Rattle.chains.specs.Chains.{room, word_at, bucket_of}
use Rattle.chains.proofs.Tests.{bucket-inside}
use Rattle.adding.specs.Adds.{started, put_pair}
use Rattle.adding.specs.Settles.{put_again, put_again_from, settled}
use Rattle.adding.proofs.Starts.{started-length}
use Rattle.adding.proofs.Puts.{put-length}

-- one pair, by its first word
module _ (words : List ℕ) (i at : ℕ) (a : at ≡ get_or words (4 * i) 0) (b : ℕ) (f : b ≡ bucket_of words (at / 65536)) where
  pub again-inside : i < room words → (i < room words) × (b < room words)
  again-inside h = (h, rw f (bucket-inside words (at / 65536) (omega arith)))

  pub again-is : (words' : List ℕ) → words' ≡ put_pair words i b (get_or words (4 * i) 0) (get_or words (4 * i + 1) 0) (word_at words i) → words' ≡ put_again words i
  unfolding put_again
  again-is words' e = e ∙ rw (f, a)

pub again-length : (words : List ℕ) (i : ℕ) → length (put_again words i) ≡ length words
unfolding put_again
again-length words i = put-length words i _ _ _ _

-- settling: the pairs from pair i on are left
pub record Settling (words₀ words : List ℕ) (n i : ℕ) : Type 0 where
  pub inside : i ≤ n
  pub long : length words ≡ length words₀
  pub rest : put_again_from words₀ 0 n ≡ put_again_from words i (n - i)

pub settling : (words : List ℕ) (n : ℕ) → Settling words words n 0
settling words n =
    record { inside = omega arith; long = refl; rest = ap (put_again_from words 0) (let k : n ≡ n - 0 = omega arith in k) }

module _ (words₀ words : List ℕ) (n i : ℕ) (e : n ≡ room words₀) (k : Settling words₀ words n i) where
  pub settle-inside : i < n → i < room words
  settle-inside h = let l = k.long in omega arith

  pub settle-next : i < n → (words' : List ℕ) → words' ≡ put_again words i → Settling words₀ words' n (i + 1)
  unfolding put_again_from
  settle-next h words' f =
      rw f
      (record {
        inside = omega arith;
        long = again-length words i ∙ k.long;
        rest =
            k.rest ∙ ap (put_again_from words i) (let m : n - i ≡ suc (n - (i + 1)) = omega arith in m)
            ∙ ap (λ (j : ℕ). put_again_from (put_again words i) j (n - (i + 1))) (sym (add-one i));
      })

  pub settle-done : n ≤ i → (words₁ : List ℕ) → words₀ ≡ started words₁ → words ≡ settled words₁
  unfolding settled put_again_from
  settle-done h words₁ f =
      let l : length words₀ ≡ length words₁ = ap length f ∙ started-length words₁ in
      let r : n ≡ room words₁ = omega arith in
      sym (rw (← f, ← r) (k.rest ∙ ap (put_again_from words i) (let m : n - i ≡ 0 = omega arith in m)))
