-- Two pieces of text, one after the other, leave a page that is no shorter.
use mathlib.Core.Path.{◌∙◌}
use native.Mathlib.Omega.{arith}
use Rattle.text.specs.declared.page.Page.{Page}
use Rattle.text.specs.Page.{Longer}

pub longer_both : (p q r : Page) → Longer p q → Longer q r → Longer p r
longer_both p q r a b = (b.0 ∙ a.0, (omega arith, omega arith))
