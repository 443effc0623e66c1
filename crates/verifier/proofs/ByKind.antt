-- What may not be done with values, by their kinds.
use Rattle.std.proofs.Common.{◌≡◌, ℕ, Bool, true, false, cond, ◌||◌, refl}
use Rattle.word.specs.declared.Comparison.{Comparison}
use Rattle.machine.specs.declared.instruction.Width.{Width}
use Rattle.machine.specs.declared.instruction.Operand.{Operand}
use Rattle.number.specs.declared.Number.{Number}
use Rattle.analysis.specs.declared.Reason.TheVariants.{ReadsUnset, LeaksAddress}
use Rattle.analysis.specs.declared.Value.{Value}
use Rattle.analysis.specs.declared.Value.TheVariants.{Unusable, Plain, Address}
use Rattle.analysis.specs.declared.Gone.TheVariants.{Never, Mixed}
use Rattle.analysis.specs.declared.Effect.{Effect}
use Rattle.analysis.specs.declared.Effect.TheVariants.{Refuse}
use Rattle.analysis.specs.Effects.{is_never, is_mixed, reading, reading_both, fork}
use Rattle.waiting.specs.declared.value.Kind.{Kind}
use Rattle.waiting.specs.declared.value.Kind.TheVariants as kind
use Rattle.waiting.specs.declared.value.Held.{Held}
use Rattle.waiting.specs.State.{of_kind, held_in}
use Rattle.verifier.specs.Outcome.{is_unset, unusable}

never_is_unset : (k : Kind) (a : Number) → is_never (of_kind k a) ≡ is_unset k
unfolding is_never of_kind is_unset
never_is_unset kind.Unset a = refl
never_is_unset kind.Mixed a = refl
never_is_unset kind.Plain a = refl
never_is_unset kind.Record a = refl
never_is_unset kind.Stack a = refl

-- where two values may not be used, unset comes before address
refused_either_way : (u v : Kind) (a b : Number) (e : Effect) → e ≡ Refuse LeaksAddress
    → reading_both (of_kind u a) (of_kind v b) e ≡ Refuse (unusable u v)
unfolding reading_both unusable
refused_either_way u v a b e is =
    rw (never_is_unset u a, never_is_unset v b, is) (go (is_unset u || is_unset v) (is_mixed (of_kind u a) || is_mixed (of_kind v b)))
  where
    go : (p q : Bool) → cond p (Refuse ReadsUnset) (cond q (Refuse LeaksAddress) (Refuse LeaksAddress)) ≡ Refuse (cond p ReadsUnset LeaksAddress)
    go true q = refl
    go false true = refl
    go false false = refl

pub one_value_read_as_two : (v : Value) (e : Effect) → reading v e ≡ reading_both v v e
unfolding reading reading_both is_never is_mixed
one_value_read_as_two (Unusable Never) e = refl
one_value_read_as_two (Unusable Mixed) e = refl
one_value_read_as_two (Plain a) e = refl
one_value_read_as_two (Address p a) e = refl

-- two values are two numbers, or not
abbrev NoNumbers : Kind → Kind → Type 0
NoNumbers u v = u ≡ kind.Plain → v ≡ kind.Plain → ⊥

module _ (w : Width) (c : Comparison) (d : ℕ) (s : Operand) (target : ℕ) (a b : Number) where
  tells : (u v : Kind) → NoNumbers u v → fork w c d s target (of_kind u a) (of_kind v b) ≡ Refuse LeaksAddress
  unfolding fork of_kind
  tells kind.Unset v apart = refl
  tells kind.Mixed v apart = refl
  tells kind.Record v apart = refl
  tells kind.Stack v apart = refl
  tells kind.Plain kind.Unset apart = refl
  tells kind.Plain kind.Mixed apart = refl
  tells kind.Plain kind.Record apart = refl
  tells kind.Plain kind.Stack apart = refl
  tells kind.Plain kind.Plain apart = absurd (apart refl refl)

pub they_may_not_be_compared : (u v : Held) (w : Width) (c : Comparison) (d : ℕ) (s : Operand) (target : ℕ) → NoNumbers u.kind v.kind
    → reading_both (held_in u) (held_in v) (fork w c d s target (held_in u) (held_in v)) ≡ Refuse (unusable u.kind v.kind)
unfolding held_in
they_may_not_be_compared u v w c d s target apart =
    refused_either_way u.kind v.kind u.number v.number _ (tells w c d s target u.number v.number u.kind v.kind apart)
