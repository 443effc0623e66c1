-- Four texts, one after the other.
use Rattle.text.proofs.Pages.{wrote_both}
use Rattle.reports.proofs.answer.write_refusal.Goals as goal

pub returns : goal.returns
returns c = rw (← c.reason_number.ensures, ← c.sentence_of.ensures) (wrote_both (wrote_both (wrote_both c.number.ensures.text c.number-2.ensures.text) c.text.ensures.text) c.letter.ensures.text)
