-- `change`: the mask has dst set already, so writing its number is `put`.
use Rattle.std.proofs.Common.{refl, rules, arith, length-set}
use Rattle.dispatch.proofs.Registers.{put_is}
use Rattle.dispatch.proofs.Answers.{leads_go}
use Rattle.dispatch.proofs.arithmetic.change.Goals as goal

pub returns : goal.returns
returns c = λ m. leads_go _ _ _ _ _ (simp length-set (search rules)) _ _ _ _ c.args.at.kept.mask_low (put_is _ _ _ _ _ (omega (arith, c.requires.no_r10)) (search rules) c.requires.was_set (λ r other. refl) m _)
