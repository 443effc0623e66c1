-- The register, and what is known of it.
use Rattle.text.proofs.Pages.{longer_wrote}
use Rattle.explain.proofs.Longer.{longer_both}
use Rattle.explain.proofs.registers.write_register.Goals as goal

pub returns : goal.returns
returns c = longer_both c.args.page.now c.number.new.self c.write_known.new.page c.number.ensures.longer (longer_wrote c.write_known.ensures.text)
