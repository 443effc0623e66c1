-- The pair where paths join is the best for pairs that have the form. Of two sets it is the best pair if each pair is the best of its set.
use mathlib.Core.Path.{◌≡◌}
use mathlib.Core.Logic.{◌⊎◌, inl, inr}
use Prim.Native.Nat.{ℕ, ◌<◌}
use native.Mathlib.Omega.{arith}
use Rattle.word.specs.Word.{bit}
use Rattle.word.proofs.Bit.{bit_lt}
use Rattle.known_bits.specs.declared.Bits.{Bits}
use Rattle.known_bits.specs.Formula.{joined}
use Rattle.known_bits.specs.KnownBits.{Well, Mem, Best}
use Rattle.known_bits.specs.Pair.{top}
use Rattle.known_bits.proofs.Tight.{digit, tight_best, top_bit, mem_least, mem_top}
use Rattle.known_bits.proofs.JoinedSound.{mask_bit}
pub use Rattle.known_bits.proofs.JoinedSound.{InEither, joined_sound}

module _ (w : ℕ) (a b : Bits) where
  pub joined_best : Well w a → Well w b → Best w (InEither w a b) (joined a b)
  joined_best ga gb =
      let s = joined_sound w a b ga.value_fits ga.mask_fits gb.value_fits gb.mask_fits in
      tight_best w (InEither w a b) (joined a b)
      (record { well = s.well; sound = s.sound; some = (a.value, inl (mem_least w a ga)); differs = differs })
    where
      differs : (k : ℕ) → k < w → bit k (joined a b).mask ≡ 1
          → (x : ℕ) × (y : ℕ) × InEither w a b x × InEither w a b y × (¬ (bit k x ≡ bit k y))
      differs k l e =
          digit (bit k a.mask) (bit_lt k a.mask)
          (λ za. digit (bit k b.mask) (bit_lt k b.mask)
          (λ zb. (a.value, b.value, inl (mem_least w a ga), inr (mem_least w b gb), omega (arith, mask_bit a b k)))
          (λ ub. (b.value, top b, inr (mem_least w b gb), inr (mem_top w b gb), omega (arith, top_bit w b gb k))))
          (λ ua. (a.value, top a, inl (mem_least w a ga), inl (mem_top w a ga), omega (arith, top_bit w a ga k)))

  pub joined_best_of_both_sets : (S T : ℕ → Type 0) → Best w S a → Best w T b → Best w (λ x. S x ⊎ T x) (joined a b)
  joined_best_of_both_sets S T ha hb =
      record { well = j.well; sound = sound; least = λ q gq hq. j.least q gq (within q gq hq) }
    where
      j : Best w (InEither w a b) (joined a b)
      j = joined_best ha.well hb.well

      sound : (x : ℕ) → S x ⊎ T x → Mem w (joined a b) x
      sound x (inl s) = j.sound x (inl (ha.sound x s))
      sound x (inr t) = j.sound x (inr (hb.sound x t))

      within : (q : Bits) → Well w q → ((x : ℕ) → S x ⊎ T x → Mem w q x) → (x : ℕ) → InEither w a b x → Mem w q x
      within q gq hq x (inl m) = ha.least q gq (λ y s. hq y (inl s)) x m
      within q gq hq x (inr m) = hb.least q gq (λ y t. hq y (inr t)) x m
