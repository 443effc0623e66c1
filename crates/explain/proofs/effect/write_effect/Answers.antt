-- A register gets a value.
use Rattle.text.proofs.Pages.{longer_wrote}
use Rattle.explain.proofs.Longer.{longer_both}
use Rattle.explain.proofs.effect.write_effect.Goals as goal

pub returns-in-Put : goal.returns-in-Put
returns-in-Put c =
    longer_both c.args.page.now c.number.new.self c.write_value.new.page
    (longer_both c.args.page.now c.text.new.self c.number.new.self c.text.ensures.longer c.number.ensures.longer)
    (longer_wrote c.write_value.ensures)
