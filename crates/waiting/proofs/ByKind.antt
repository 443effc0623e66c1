-- Values by their kinds, and what covers two.
use Rattle.std.proofs.Common.{◌≡◌, ◌⊎◌, refl, ap, ◌∙◌, inl, inr}
use Rattle.number.specs.declared.Number.{Number}
use Rattle.number.specs.Sharpen.{joined_number}
use Rattle.analysis.specs.Values.{joined_value, joined_gone, same_region}
use Rattle.waiting.specs.declared.value.Kind.{Kind}
use Rattle.waiting.specs.declared.value.Kind.TheVariants as kind
use Rattle.waiting.specs.State.{kind_of, word_of, of_kind, joined_kind}

-- a kind is told by its word
pub kind_of_its_word : (k : Kind) → kind_of (word_of k) ≡ k
unfolding kind_of word_of
kind_of_its_word kind.Unset = refl
kind_of_its_word kind.Mixed = refl
kind_of_its_word kind.Plain = refl
kind_of_its_word kind.Record = refl
kind_of_its_word kind.Stack = refl

-- what covers two values
pub kinds_are_joined : (x y : Kind) (a b : Number) → of_kind (joined_kind x y) (joined_number a b) ≡ joined_value (of_kind x a) (of_kind y b)
unfolding of_kind joined_kind joined_value joined_gone same_region
kinds_are_joined kind.Unset kind.Unset a b = refl
kinds_are_joined kind.Unset kind.Mixed a b = refl
kinds_are_joined kind.Unset kind.Plain a b = refl
kinds_are_joined kind.Unset kind.Record a b = refl
kinds_are_joined kind.Unset kind.Stack a b = refl
kinds_are_joined kind.Mixed kind.Unset a b = refl
kinds_are_joined kind.Mixed kind.Mixed a b = refl
kinds_are_joined kind.Mixed kind.Plain a b = refl
kinds_are_joined kind.Mixed kind.Record a b = refl
kinds_are_joined kind.Mixed kind.Stack a b = refl
kinds_are_joined kind.Plain kind.Unset a b = refl
kinds_are_joined kind.Plain kind.Mixed a b = refl
kinds_are_joined kind.Plain kind.Plain a b = refl
kinds_are_joined kind.Plain kind.Record a b = refl
kinds_are_joined kind.Plain kind.Stack a b = refl
kinds_are_joined kind.Record kind.Unset a b = refl
kinds_are_joined kind.Record kind.Mixed a b = refl
kinds_are_joined kind.Record kind.Plain a b = refl
kinds_are_joined kind.Record kind.Record a b = refl
kinds_are_joined kind.Record kind.Stack a b = refl
kinds_are_joined kind.Stack kind.Unset a b = refl
kinds_are_joined kind.Stack kind.Mixed a b = refl
kinds_are_joined kind.Stack kind.Plain a b = refl
kinds_are_joined kind.Stack kind.Record a b = refl
kinds_are_joined kind.Stack kind.Stack a b = refl

-- where nothing may be used, the number says nothing
no_number_is_held : (k : Kind) (a b : Number) → (k ≡ kind.Unset) ⊎ (k ≡ kind.Mixed) → of_kind k a ≡ of_kind k b
unfolding of_kind
no_number_is_held k a b (inl e) = rw e
no_number_is_held k a b (inr e) = rw e

pub joined_with_no_number : (k x y : Kind) (n a b : Number) → k ≡ joined_kind x y → (k ≡ kind.Unset) ⊎ (k ≡ kind.Mixed)
    → of_kind k n ≡ joined_value (of_kind x a) (of_kind y b)
joined_with_no_number k x y n a b e none =
    no_number_is_held k n (joined_number a b) none ∙ ap (λ j. of_kind j (joined_number a b)) e ∙ kinds_are_joined x y a b
