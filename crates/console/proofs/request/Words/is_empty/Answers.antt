-- `is_empty` finds no place of another character than a space.
use Rattle.std.proofs.Common.{sym, ap, not, ◌∙◌}
use Rattle.std.proofs.Math.Bool.{not-not}
use Rattle.text.proofs.Words.{no_place_of_other}
use Rattle.console.specs.Request.{blank}
use Rattle.console.proofs.request.Words.is_empty.Goals as goal

pub returns : goal.returns
unfolding blank
returns c = sym (not-not _) ∙ ap not (sym c.is_none.ensures) ∙ rw c.place_of_other.ensures (no_place_of_other 32 _)
