-- `keep`: dst is set in the mask, and writing its number is `put`.
use Rattle.std.proofs.Common.{◌≤◌, rules, arith, length-set}
use Rattle.dispatch.proofs.Registers.{one_shifted, narrow_after, set_after, others_as_before, put_is}
use Rattle.dispatch.proofs.Answers.{leads_go}
use Rattle.dispatch.proofs.arithmetic.keep.Goals as goal

pub returns : goal.returns
returns c = let low : c.args.dst ≤ 10 = omega (arith, c.requires) in λ m. rw (one_shifted c.args.dst low) (leads_go _ _ _ _ _ (simp length-set (search rules)) _ _ _ _ (narrow_after c.args.at.live c.args.dst c.args.at.kept.mask_low low) (put_is _ _ _ _ _ low (search rules) (set_after c.args.at.live c.args.dst) (others_as_before c.args.at.live c.args.dst) m _))
