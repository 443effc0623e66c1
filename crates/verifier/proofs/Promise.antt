-- What the verifier's answer promises, by the theorem about the analysis.
use mathlib.Core.Path.{◌≡◌, sym, subst}
use mathlib.Core.Bool.{Bool, true, false, cond, ◌&&◌}
use mathlib.Core.List.{List}
use Prim.Native.Nat.{ℕ, ◌/◌}
use lib.ListN.{length}
use Rattle.std.specs.Prelude.{Ok, Err}
use lib.Dec.{ltb}
use Rattle.analysis.specs.Judged.{judged}
use Rattle.analysis.proofs.Promised.{judged_promised}
use Rattle.analysis.specs.Answer.{Answer}
use Rattle.waiting.specs.Layout.{words}
use Rattle.verifier.specs.Answered.{is_orderly, answered, Promises}

pub the_answer_promises : (program : List ℕ) (R size : ℕ) (r : Answer) → r ≡ answered program R size → Promises program R r
unfolding answered
the_answer_promises program R size r e =
    subst (Promises program R) (sym e) (go (is_orderly program R && ltb size (words (length program / 8))))
  where
    go : (b : Bool) → Promises program R (cond b (Err (record { words = words (length program / 8) })) (Ok (judged program R)))
    go true = tt
    go false = judged_promised program R
