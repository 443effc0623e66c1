-- `reply_to` replies by the verb.
use Rattle.std.proofs.Common.{rules}
use Rattle.console.proofs.Replies.{replied_long, replied_by}
use Rattle.console.proofs.answer.reply_to.Goals as goal

pub returns-then-line-gt-LONGEST : goal.returns-then-line-gt-LONGEST
returns-then-line-gt-LONGEST c = replied_long _ _ _ _ _ c.if-line-gt-LONGEST.true

pub returns-in_err-named : goal.returns-in_err-named
returns-in_err-named c = replied_by _ _ _ _ _ c.if-line-gt-LONGEST.false _ (rw c.take.ensures.word at c.named.ensures) _ (rw c.in_err-named.was (search rules))

pub returns-in-Bits : goal.returns-in-Bits
returns-in-Bits c = replied_by _ _ _ _ _ c.if-line-gt-LONGEST.false _ (rw c.take.ensures.word at c.named.ensures) _ (rw (c.in_ok-named.was, c.in-Bits.is) (rw c.take.ensures.rest at c.bits.ensures))

pub returns-in-Run : goal.returns-in-Run
returns-in-Run c = replied_by _ _ _ _ _ c.if-line-gt-LONGEST.false _ (rw c.take.ensures.word at c.named.ensures) _ (rw (c.in_ok-named.was, c.in-Run.is) (rw c.take.ensures.rest at c.run.ensures))

pub returns-in-Verify : goal.returns-in-Verify
returns-in-Verify c = replied_by _ _ _ _ _ c.if-line-gt-LONGEST.false _ (rw c.take.ensures.word at c.named.ensures) _ (rw (c.in_ok-named.was, c.in-Verify.is) (rw c.take.ensures.rest at c.verify.ensures))
