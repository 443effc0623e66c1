-- `store_at`: the store that was made, or a bad access with the stack as it was.
use Rattle.std.proofs.Common.{sym, refl, ◌∙◌}
use Rattle.machine.specs.Machine.{address}
use Rattle.dispatch.proofs.Answers.{leads_to, leads_fault, leads_go, store_made, store_barred}
use Rattle.dispatch.proofs.memory.store_at.Goals as goal

pub returns-then-store : goal.returns-then-store
unfolding address
returns-then-store c rec P g e =
    leads_to
    (store_made _ g _ _ _ _ _ _
    (rw (← c.extend.ensures) (sym c.store.ensures.allowed ∙ c.if-store.true))
    _
    (rw (← c.extend.ensures) (simp c.if-store.true at c.store.ensures.made)))
    (leads_go _ _ _ _ _ e _ _ _ _ c.args.at.kept.mask_low refl)

pub returns : goal.returns
unfolding address
returns c rec P g e =
    leads_to
    (store_barred _ g _ _ _ _ _ _ (rw (← c.extend.ensures) (sym c.store.ensures.allowed ∙ c.if-store.false)))
    (rw (simp c.if-store.false at c.store.ensures.made) (leads_fault _ _ _ _ _ e _))
