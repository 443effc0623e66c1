-- An answer has at most 50 characters, its line end among them.
use mathlib.Core.List.{List, ◌++◌}
use Prim.Native.Nat.{ℕ, ◌≤◌}
use native.Mathlib.Omega.{arith}
use lib.ListN.{length, length-append}
use Rattle.machine.specs.declared.outcome.Outcome.TheVariants.{Verdict, Fault, Budget, Refused}
use Rattle.std.specs.Prelude.{Option, Some, None}
use Rattle.analysis.specs.Judged.{pair}
use Rattle.text.specs.Buffer.{chars, decimal}
use Rattle.text.proofs.Decimals.{decimal_short}
use Rattle.text.proofs.Hexadecimals.{hexadecimal_short}
use Rattle.console.specs.declared.answer.Reply.{Reply}
use Rattle.console.specs.declared.answer.Reply.TheVariants.{Ran, Pair, Found}
use Rattle.reasons.specs.Numbers.{fault_number}
use Rattle.console.specs.Answer.{outcome_text, finding_text, reply_text, answer_text}

pair_short : (w : List ℕ) (a b : ℕ) → length w ≤ 8 → length (w ++ decimal a ++ chars " " ++ decimal b) ≤ 49
pair_short w a b h = simp length-append (omega (arith, decimal_short a, decimal_short b))

reply_short : (r : Option Reply) → length (reply_text r) ≤ 49
unfolding reply_text outcome_text finding_text
reply_short (Some (Ran (Verdict value steps))) = pair_short (chars "verdict ") value steps (omega arith)
reply_short (Some (Ran (Fault cause at steps))) = pair_short (chars "fault ") (fault_number cause) steps (omega arith)
reply_short (Some (Ran (Budget steps))) = simp length-append (omega (arith, decimal_short steps))
reply_short (Some (Ran Refused)) = omega arith
reply_short (Some (Pair p)) = simp length-append (omega (arith, hexadecimal_short p.value, hexadecimal_short p.mask))
reply_short (Some (Found f)) = pair_short (chars "") (pair f).0 (pair f).1 (omega arith)
reply_short None = omega arith

pub answer_short : (r : Option Reply) → length (answer_text r) ≤ 50
unfolding answer_text
answer_short r = simp length-append (omega (arith, reply_short r))
