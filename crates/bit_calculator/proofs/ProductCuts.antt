-- Products as the code takes them: the low bits of the exact one, of the three views, or of the mask alone.
use mathlib.Core.Path.{◌≡◌, sym, ap, ap₂, ◌∙◌}
use Prim.Native.Nat.{ℕ, ◌-◌, ◌%◌, ◌^◌, ◌<◌}
use native.Mathlib.Nat.{zero-mod}
use lib.Bits.{bit_and, bit_or, and_mask, and_mod, or_mod, or_zero_l}
use borrow.Author.Tests.{eq-eqb, ne_eqb}
use Rattle.word.specs.Word.{alu, cut}
use Rattle.word.specs.declared.Operation.TheVariants.{Mul}
use Rattle.known_bits.specs.declared.Bits.{Bits}
use Rattle.known_bits.specs.Formula.{low, up_to, among, product_mask, shift_and_add, known, product}
use Rattle.known_bits.specs.Pair.{top, exactly}
use Rattle.known_bits.proofs.Exact.{both_known}
use Rattle.known_bits.proofs.Covering.{ones_of}
use Rattle.known_bits.proofs.PlainProducts.{plain_product_is_the_mask}

-- the low w bits, as the code takes them
pub kept : (all w : ℕ) → all ≡ 2 ^ w - 1 → (x : ℕ) → bit_and x all ≡ cut w x
unfolding cut
kept all w e x = ap (bit_and x) e ∙ and_mask x w

module _ (a b : Bits) (w : ℕ) where
  pub known_product_cut : bit_or a.mask b.mask ≡ 0 → exactly (cut w (alu 64 Mul a.value b.value)) ≡ low w (product a b)
  unfolding product known low cut
  known_product_cut z = simp (eq-eqb _ _ z) (λ i. record { value = cut w (alu 64 Mul a.value b.value); mask = sym (zero-mod (2 ^ w)) i })

  pub three_views_cut : ¬ (bit_or a.mask b.mask ≡ 0) → (p q : Bits) → low w p ≡ low w (shift_and_add 64 a b) → low w q ≡ low w (shift_and_add 64 b a)
      → record { value = cut w (bit_or p.value q.value); mask = cut w (bit_and (product_mask (top a) (top b)) (bit_and p.mask q.mask)) } ≡ low w (product a b)
  unfolding product known low among cut
  three_views_cut z p q hp hq =
      simp (ne_eqb _ _ z) (λ i. record { value = values i; mask = masks i })
    where
      s : Bits
      s = shift_and_add 64 a b

      t : Bits
      t = shift_and_add 64 b a

      m : ℕ
      m = product_mask (top a) (top b)

      values : bit_or p.value q.value % 2 ^ w ≡ bit_or 0 (bit_or s.value t.value) % 2 ^ w
      values =
          or_mod p.value q.value w ∙ ap₂ bit_or (ap (λ (r : Bits). r.value) hp) (ap (λ (r : Bits). r.value) hq)
          ∙ sym (or_mod s.value t.value w) ∙ ap (λ (n : ℕ). n % 2 ^ w) (sym (or_zero_l (bit_or s.value t.value)))

      masks : bit_and m (bit_and p.mask q.mask) % 2 ^ w ≡ bit_and m (bit_and s.mask t.mask) % 2 ^ w
      masks =
          and_mod m (bit_and p.mask q.mask) w
          ∙ ap (bit_and (m % 2 ^ w))
          (and_mod p.mask q.mask w ∙ ap₂ bit_and (ap (λ (r : Bits). r.mask) hp) (ap (λ (r : Bits). r.mask) hq) ∙ sym (and_mod s.mask t.mask w))
          ∙ sym (and_mod m (bit_and s.mask t.mask) w)

-- factors of which nothing but a length is known, as the code tests it
pub plain_product_cut : (a b : Bits) (w : ℕ) → a.mask < 2 ^ 64 → b.mask < 2 ^ 64 → bit_or a.value b.value ≡ 0
    → up_to a.mask ≡ a.mask → up_to b.mask ≡ b.mask → among (cut w (product_mask (top a) (top b))) ≡ low w (product a b)
unfolding low cut among up_to
plain_product_cut a b w fa fb z pa pb =
    let v = both_known a.value b.value z in
    let s = ones_of a.mask fa in
    let t = ones_of b.mask fb in
    (λ i. record { value = sym (zero-mod (2 ^ w)) i; mask = cut w (product_mask (top a) (top b)) })
    ∙ ap (low w) (sym (plain_product_is_the_mask a b s.0 t.0 (record { none = v.0; all = sym pa ∙ s.1; fits = fa }) (record { none = v.1; all = sym pb ∙ t.1; fits = fb })))
