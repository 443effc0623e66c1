-- What is known of a register at an index, as text.
use Rattle.std.specs.Prelude.{List, ◌≡◌, ℕ, ◌≤◌, length, Option, Some, None}
use Rattle.text.specs.declared.page.Page.{Page}
use Rattle.text.specs.Buffer.{chars}
use Rattle.text.specs.Page.{Wrote}
use Rattle.listing.specs.ValueText.{value_text}
use Rattle.analysis.specs.declared.Value.{Value}
use Rattle.analysis.specs.Values.{Facts}
use Rattle.verifier.specs.Inspect.{known_of}
use Rattle.waiting.specs.Layout.{words}
use Rattle.waiting.specs.Store.{waiting_in}

unfoldable pub told_text : Option Value → List ℕ
told_text None = chars "not reached"
told_text (Some v) = value_text v

-- of register r, by the facts that wait
unfoldable pub known_text : Option Facts → ℕ → List ℕ
known_text waiting r = told_text (known_of waiting r)

-- the page q is p with what is known of register r at index i of n: in scratch memory m with words for n indices what waits there
-- tells, and in less something
pub record Tells (n : ℕ) (m : List ℕ) (i r : ℕ) (p q : Page) : Type 0 where
  pub known : Option Value
  pub text : Wrote p (told_text known) q
  pub waits : words n ≤ length m → known ≡ known_of (waiting_in n m i) r
