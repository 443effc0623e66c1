-- `take` cuts the word between the places that it finds.
use Rattle.std.proofs.Common.{◌∙◌}
use Rattle.text.proofs.Words.{place_or_length, place_of_other_or_length}
use Rattle.console.proofs.Wording.{word_cut, after_left}
use Rattle.console.proofs.request.Words.take.Goals as goal

pub returns-clause-word : goal.returns-clause-word
returns-clause-word c = word_cut _ _ _ (c.unwrap_or-start.ensures ∙ rw c.place_of_other.ensures (place_of_other_or_length 32 _)) (c.unwrap_or-end.ensures ∙ rw c.place_of.ensures (place_or_length 32 _))

pub returns-clause-rest : goal.returns-clause-rest
returns-clause-rest c = after_left _ _ _ (c.unwrap_or-start.ensures ∙ rw c.place_of_other.ensures (place_of_other_or_length 32 _)) (c.unwrap_or-end.ensures ∙ rw c.place_of.ensures (place_or_length 32 _))
