-- `go`: the index is the target where the jump is taken, else the next one.
use Rattle.dispatch.proofs.Answers.{leads_go, jump_is}
use Rattle.dispatch.proofs.jumps.go.Goals as goal

pub returns-then-taken : goal.returns-then-taken
returns-then-taken c = λ g m e. leads_go _ _ _ _ _ e _ _ _ _ c.args.at.kept.mask_low (jump_is _ g m _ _ _ _ (simp c.if-taken.true (rw c.extend.ensures)))

pub returns : goal.returns
returns c = λ g m e. leads_go _ _ _ _ _ e _ _ _ _ c.args.at.kept.mask_low (jump_is _ g m _ _ _ _ (simp c.if-taken.false))
