-- What JSET not taken and a meet of two pairs leave: the answer has exactly the numbers that are left, so it is the best.
use mathlib.Core.Path.{◌≡◌, refl, sym, ap, ◌∙◌}
use mathlib.Core.Bool.{Bool, true, false, not}
use Prim.Native.Nat.{ℕ, ◌-◌, ◌^◌, ◌≤◌, ◌<◌, min, max}
use native.Mathlib.Omega.{arith}
use lib.Bits.{bit_and, bit_or, bit_xor, and_lt, or_lt, xor_lt}
use lib.Dec.{eqb}
use lib.Pow.{pow_pos}
use borrow.Author.Tests.{eqb-true, eqb-false, eq-eqb}
use Rattle.std.specs.Prelude.{Some, None}
use Rattle.word.specs.Word.{bit, compare}
use Rattle.word.specs.declared.Comparison.TheVariants as comparison
use Rattle.word.proofs.Bit.{bit_lt, bit_zero, bit_and_lem, bit_or_lem, bit_xor_lem, ext}
use Rattle.word.proofs.Cut.{cut_64}
use Rattle.known_bits.specs.declared.Bits.{Bits}
use Rattle.known_bits.specs.Formula.{cleared, meet, met}
use Rattle.known_bits.specs.KnownBits.{Well, Mem, Both, Apart}
use Rattle.known_bits.specs.Learn.{Learns}
use Rattle.known_bits.proofs.Base.{by_cases, same_numbers_is_best}
use Rattle.known_bits.proofs.Meet.{Agree, meet_well, meet_has, meet_within_both}
use Rattle.known_bits.proofs.Tight.{digit, apart_bit, mem_low, mem_least}

-- ---- JSET
shares : (x s : ℕ) → x < 2 ^ 64 → s < 2 ^ 64 → compare 64 comparison.Set x s ≡ not (eqb (bit_and x s) 0)
unfolding compare
shares x s hx hs = simp (cut_64 {x = x} hx, cut_64 {x = s} hs)

not-false : (b : Bool) → not b ≡ false → b ≡ true
not-false true e = refl
not-false false e = sym e

module _ (a : Bits) (s : ℕ) (hs : s < 2 ^ 64) (ga : Well 64 a) where
  no_shared_bit : (x : ℕ) → Apart a s x → bit_and x s ≡ 0
  no_shared_bit x (h, e) = eqb-true (bit_and x s) 0 (not-false _ (sym (shares x s h.fits hs) ∙ e))

  no_shared_digit : (x : ℕ) → bit_and x s ≡ 0 → (k : ℕ) → min (bit k x) (bit k s) ≡ 0
  no_shared_digit x z k = sym (bit_and_lem k x s) ∙ ap (bit k) z ∙ bit_zero k

  -- what shares no bit with s shares none with fewer
  pub fewer_apart : (t : ℕ) → t < 2 ^ 64 → ((k : ℕ) → k < 64 → bit k t ≤ bit k s) → (x : ℕ) → Apart a s x → compare 64 comparison.Set x t ≡ false
  fewer_apart t ht fewer x i =
      shares x t i.0.fits ht
      ∙ ap not (eq-eqb (bit_and x t) 0 (ext 64 (bit_and x t) 0 (and_lt 64 x t i.0.fits ht) (pow_pos 64)
      (λ k l. omega (arith, bit_zero k, bit_and_lem k x t, fewer k l, no_shared_digit x (no_shared_bit x i) k))))

  a_shared_known_bit_leaves_nothing : (bit_and a.value s ≡ 0 → ⊥) → Learns (Apart a s) None
  a_shared_known_bit_leaves_nothing n =
      record {
        answer = λ x i. n (ext 64 (bit_and a.value s) 0 (and_lt 64 a.value s ga.value_fits hs) (pow_pos 64)
            (λ k l. omega (
              arith,
              bit_zero k,
              bit_and_lem k a.value s,
              mem_low 64 a ga x i.0 k l,
              no_shared_digit x (no_shared_bit x i) k,
            )));
      }

  module _ (z : bit_and a.value s ≡ 0) where
    abbrev left : ℕ
    left = bit_xor (bit_or a.mask s) s

    left_bit : (k : ℕ) → bit k left ≡ bit k a.mask - bit k s
    left_bit k = omega (arith, bit_xor_lem k (bit_or a.mask s) s, bit_or_lem k a.mask s, bit_lt k a.mask, bit_lt k s)

    left_fits : left < 2 ^ 64
    left_fits = xor_lt 64 _ s (or_lt 64 a.mask s ga.mask_fits hs) hs

    abbrev rest : Bits
    rest = record { value = a.value; mask = left }

    rest_is_well : Well 64 rest
    rest_is_well =
        record {
          value_fits = ga.value_fits;
          mask_fits = left_fits;
          apart = ext 64 (bit_and a.value left) 0 (and_lt 64 a.value left ga.value_fits left_fits) (pow_pos 64)
              (λ k l. omega (arith, bit_zero k, bit_and_lem k a.value left, left_bit k, apart_bit 64 a ga k));
        }

    there : (x : ℕ) → Apart a s x → Mem 64 rest x
    there x i =
        record {
          fits = i.0.fits;
          agrees = λ k l e. digit (bit k a.mask) (bit_lt k a.mask) (i.0.agrees k l)
              (λ u. omega (arith, left_bit k, bit_lt k s, no_shared_digit x (no_shared_bit x i) k, no_shared_digit a.value z k));
        }

    back : (x : ℕ) → Mem 64 rest x → Apart a s x
    back x h = (
      record { fits = h.fits; agrees = λ k l e. h.agrees k l (omega (arith, left_bit k)) },
      shares x s h.fits hs
          ∙ ap not (eq-eqb (bit_and x s) 0 (ext 64 (bit_and x s) 0 (and_lt 64 x s h.fits hs) (pow_pos 64)
          (λ k l. digit (bit k s) (bit_lt k s) (λ e. omega (arith, bit_zero k, bit_and_lem k x s))
          (λ e. omega (
            arith,
            bit_zero k,
            bit_and_lem k x s,
            h.agrees k l (omega (arith, left_bit k, bit_lt k a.mask)),
            no_shared_digit a.value z k,
          ))))),
    )

    jset_not_taken_clears : Learns (Apart a s) (Some (record { value = a.value; mask = bit_xor (bit_or a.mask s) s }))
    jset_not_taken_clears =
        record {
          answer = (
            same_numbers_is_best 64 (Apart a s) rest rest_is_well there back,
            (a.value, back a.value (mem_least 64 rest rest_is_well)),
          );
        }

  pub cleared_learns : Learns (Apart a s) (cleared a s)
  unfolding cleared
  cleared_learns =
      by_cases (Learns (Apart a s)) (eqb (bit_and a.value s) 0) (λ e. jset_not_taken_clears (eqb-true _ _ e))
      (λ e. a_shared_known_bit_leaves_nothing (eqb-false _ _ e))

-- ---- two pairs for one number
module _ (a b : Bits) (ga : Well 64 a) (gb : Well 64 b) where
  abbrev unknown : ℕ
  unknown = bit_or a.mask b.mask

  unknown_bit : (k : ℕ) → bit k unknown ≡ max (bit k a.mask) (bit k b.mask)
  unknown_bit k = bit_or_lem k a.mask b.mask

  unknown_fits : unknown < 2 ^ 64
  unknown_fits = or_lt 64 a.mask b.mask ga.mask_fits gb.mask_fits

  a_difference_in_known_bits_leaves_nothing : (bit_or a.value (bit_or a.mask b.mask) ≡ bit_or b.value (bit_or a.mask b.mask) → ⊥)
      → Learns (Both a b) None
  a_difference_in_known_bits_leaves_nothing n =
      record {
        answer = λ x i. n (ext 64 _ _ (or_lt 64 a.value unknown ga.value_fits unknown_fits) (or_lt 64 b.value unknown gb.value_fits unknown_fits)
            (λ k l. bit_or_lem k a.value unknown ∙ same x i.0 i.1 k l ∙ sym (bit_or_lem k b.value unknown)));
      }
    where
      same : (x : ℕ) → Mem 64 a x → Mem 64 b x → (k : ℕ) → k < 64 → max (bit k a.value) (bit k unknown) ≡ max (bit k b.value) (bit k unknown)
      same x ha hb k l =
          digit (bit k unknown) (bit_lt k unknown)
          (λ z. omega (
            arith,
            ha.agrees k l (omega (arith, unknown_bit k)),
            hb.agrees k l (omega (arith, unknown_bit k)),
          ))
          (λ z. omega (arith, bit_lt k a.value, bit_lt k b.value))

  module _ (e : bit_or a.value (bit_or a.mask b.mask) ≡ bit_or b.value (bit_or a.mask b.mask)) where
    same_value : Agree 64 a b
    same_value k l p q =
        let u : bit k unknown ≡ 0 = omega (arith, unknown_bit k) in
        let f : max (bit k a.value) (bit k unknown) ≡ max (bit k b.value) (bit k unknown) =
        sym (bit_or_lem k a.value unknown) ∙ ap (bit k) e ∙ bit_or_lem k b.value unknown in
        omega arith

    meet_keeps_both : Learns (Both a b) (Some (meet a b))
    meet_keeps_both =
        let g = meet_well 64 a b ga gb in
        let out = meet_within_both 64 a b ga gb same_value in
        record {
          answer = (
            same_numbers_is_best 64 (Both a b) (meet a b) g (λ x i. meet_has 64 a b ga gb x i.0 i.1) out,
            ((meet a b).value, out (meet a b).value (mem_least 64 (meet a b) g)),
          );
        }

  pub met_learns : Learns (Both a b) (met a b)
  unfolding met
  met_learns =
      by_cases (Learns (Both a b)) (eqb (bit_or a.value (bit_or a.mask b.mask)) (bit_or b.value (bit_or a.mask b.mask)))
      (λ e. meet_keeps_both (eqb-true _ _ e)) (λ e. a_difference_in_known_bits_leaves_nothing (eqb-false _ _ e))
