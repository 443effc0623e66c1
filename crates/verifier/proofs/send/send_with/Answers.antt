-- The register is changed, and its words are put back.
use Rattle.std.proofs.Common.{refl}
use Rattle.verifier.proofs.Steps.{a_changed_state_is_sent}
use Rattle.verifier.proofs.send.send_with.Goals as goal

pub returns : goal.returns
returns c =
    let is = c.state_of-state.ensures in
    a_changed_state_is_sent (λ a. a) _ _ _ _ _ _ _ _ _ _ _ _ _ c.requires.0 refl (rw (c.state_at.ensures.0, c.state_at.ensures.1) at c.words_of_register-words.ensures)
    (rw is at c.put_register.ensures.changed) (rw is at c.put_words_back.ensures) c.send-step.ensures
