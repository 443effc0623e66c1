-- `respond` puts the text of the reply that `reply_to` ensures.
use Rattle.console.proofs.answer.respond.Goals as goal

pub returns : goal.returns
returns c = record { reply = c.reply_to-reply.result; replied = c.reply_to-reply.ensures; put = c.put_answer.ensures }
