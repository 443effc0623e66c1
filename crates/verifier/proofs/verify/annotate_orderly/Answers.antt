-- Each answer is a law of its own; a good length leaves no product and no sum to wrap.
use Rattle.std.proofs.Common.{sym, ◌∙◌, arith}
use Rattle.analysis.proofs.Paths.{unconnected_dead}
use Rattle.verifier.proofs.Answers.{dead_code, too_little_memory, the_values_were_followed, a_good_length}
use Rattle.verifier.proofs.verify.annotate_orderly.Goals as goal

pub overflow_mul-n : goal.overflow_mul-n
overflow_mul-n c = omega (arith, a_good_length _ c.requires.0)

pub overflow_mul-result : goal.overflow_mul-result
overflow_mul-result c = omega (arith, a_good_length _ c.requires.0)

pub returns-then-scratch-n : goal.returns-then-scratch-n
returns-then-scratch-n c = too_little_memory _ _ _ _ c.requires.0 c.requires.1 c.requires.2 c.requires.3 c.if-scratch-n.true

pub connected-requires : goal.connected-requires
connected-requires c = (rw c.requires.2 (a_good_length _ c.requires.0).1, c.requires.2, c.requires.3)

pub overflow_add-result : goal.overflow_add-result
overflow_add-result c = omega (arith, (unconnected_dead _ _ _ (sym c.connected.ensures ∙ c.in-Refused.is)).1.inside, a_good_length _ c.requires.0)

pub overflow_add-result-in-Refused : goal.overflow_add-result-in-Refused
overflow_add-result-in-Refused c = omega (arith, (unconnected_dead _ _ _ (sym c.connected.ensures ∙ c.in-Refused.is)).1.inside, a_good_length _ c.requires.0)

pub follow-requires : goal.follow-requires
follow-requires c = let q = a_good_length _ c.requires.0 in (omega (arith, q), omega (arith, q), c.requires.2, c.if-scratch-n.false)

pub returns-in-Refused : goal.returns-in-Refused
returns-in-Refused c = dead_code _ _ _ _ c.requires.0 c.requires.1 c.requires.2 c.requires.3 _ c.if-scratch-n.false c.connected.ensures _ _ c.in-Refused.is

pub returns : goal.returns
returns c = the_values_were_followed _ _ _ _ c.requires.0 c.requires.1 c.requires.2 c.requires.3 _ c.if-scratch-n.false c.connected.ensures _ _ c.in_default.is c.follow.ensures
