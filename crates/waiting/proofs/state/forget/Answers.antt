-- `forget`: words that are 0 hold values that are unset.
use Rattle.std.proofs.Common.{◌≡◌, ℕ, replicate, ap, ◌∙◌}
use Rattle.waiting.specs.Layout.{state_words}
use Rattle.waiting.proofs.Parts.{a_middle_is_replaced, length_of_a_middle}
use Rattle.waiting.proofs.States.{nothing_is_known_of_zeros}
use Rattle.waiting.proofs.state.forget.Goals as goal

pub returns : goal.returns
returns c =
    let m = c.args.m.now in
    let at = c.args.at in
    let l = length_of_a_middle m at state_words c.requires in
    let zeros : c.fill.new.self ≡ replicate state_words 0 = c.fill.ensures.after (λ y h. h) ∙ ap (λ (n : ℕ). replicate n 0) l in
    nothing_is_known_of_zeros m _ c.fill.new.self at zeros (a_middle_is_replaced m c.fill.new.self at state_words (c.fill.ensures.len ∙ l) c.requires)
