-- The pairs of a request have the form.
use mathlib.Core.Bool.{Bool, true, false, cond, ◌&&◌}
use mathlib.Core.List.{List}
use mathlib.Core.Path.{◌≡◌, refl}
use Prim.Native.Nat.{ℕ, ◌^◌, ◌<◌}
use lib.Bits.{bit_and}
use lib.Dec.{ltb, eqb}
use lib.ListN.{length}
use borrow.Author.Tests.{ltb-true, eqb-true}
use Rattle.std.specs.Prelude.{Option, Some, None}
use Rattle.known_bits.specs.declared.Bits.{Bits}
use Rattle.known_bits.specs.KnownBits.{Well}
use Rattle.text.specs.Number.{digits, value, number_from, number}
use Rattle.text.specs.Pair.{joined, pair}
use Rattle.text.specs.Scan.{other}
use Rattle.console.specs.declared.bits.Task.{Task}
use Rattle.machine.specs.declared.instruction.Width.{Width}
use Rattle.console.specs.declared.bits.Asked.{Asked}
use Rattle.console.specs.Request.{after, blank}
use Rattle.console.specs.Bits.{apart, bits_of, gathered, asked_of}

abbrev Below : Option ℕ → Type 0
Below (Some n) = n < 2 ^ 64
Below None = Unit {0}

abbrev Belows : Option (ℕ × ℕ) → Type 0
Belows (Some (v, m)) = (v < 2 ^ 64) × (m < 2 ^ 64)
Belows None = Unit {0}

abbrev Formed : Option Bits → Type 0
Formed (Some a) = Well 64 a
Formed None = Unit {0}

abbrev pub Forms : Option Asked → Type 0
Forms (Some asked) = Well 64 asked.a × Well 64 asked.b
Forms None = Unit {0}

below_if : (d l : Bool) (v : ℕ) → ltb v (2 ^ 64) ≡ l → Below (cond (d && l) (Some v) None)
below_if true true v e = ltb-true v (2 ^ 64) e
below_if true false v e = tt
below_if false l v e = tt

below_or_not : (b : Bool) (x : Option ℕ) → Below x → Below (cond b None x)
below_or_not true x h = tt
below_or_not false x h = h

number_below : (base : ℕ) (s : List ℕ) → Below (number base s)
unfolding number number_from
number_below base s =
    below_or_not (eqb (length s) 0) (number_from base 0 s) (below_if (digits base s) (ltb (value base 0 s) (2 ^ 64)) (value base 0 s) refl)

joined_below : (a b : Option ℕ) → Below a → Below b → Belows (joined a b)
unfolding joined
joined_below None b p q = tt
joined_below (Some a) None p q = tt
joined_below (Some a) (Some b) p q = (p, q)

belows_or_not : (b : Bool) (x : Option (ℕ × ℕ)) → Belows x → Belows (cond b x None)
belows_or_not true x h = h
belows_or_not false x h = tt

pair_below : (s : List ℕ) → Belows (pair s)
unfolding pair
pair_below s =
    belows_or_not (ltb (other 47 s) (length s)) _ (joined_below _ _ (number_below 16 _) (number_below 16 _))

formed_if : (b : Bool) (v m : ℕ) → eqb (bit_and v m) 0 ≡ b → v < 2 ^ 64 → m < 2 ^ 64 → Formed (cond b (Some (record { value = v; mask = m })) None)
formed_if true v m e p q = record { value_fits = p; mask_fits = q; apart = eqb-true (bit_and v m) 0 e }
formed_if false v m e p q = tt

formed_apart : (p : Option (ℕ × ℕ)) → Belows p → Formed (apart p)
unfolding apart
formed_apart None h = tt
formed_apart (Some (v, m)) h = formed_if (eqb (bit_and v m) 0) v m refl h.0 h.1

bits_formed : (s : List ℕ) → Formed (bits_of s)
unfolding bits_of
bits_formed s = formed_apart (pair s) (pair_below s)

gathered_formed : (t : Option Task) (w : Option Width) (a b : Option Bits) → Formed a → Formed b → Forms (gathered t w a b)
unfolding gathered
gathered_formed None w a b p q = tt
gathered_formed (Some t) None a b p q = tt
gathered_formed (Some t) (Some w) None b p q = tt
gathered_formed (Some t) (Some w) (Some a) None p q = tt
gathered_formed (Some t) (Some w) (Some a) (Some b) p q = (p, q)

forms_or_not : (b : Bool) (x : Option Asked) → Forms x → Forms (cond b x None)
forms_or_not true x h = h
forms_or_not false x h = tt

pub asked_formed : (s : List ℕ) → Forms (asked_of s)
unfolding asked_of
asked_formed s =
    forms_or_not (blank (after (after (after (after s))))) _ (gathered_formed _ _ _ _ (bits_formed _) (bits_formed _))
