-- What a request line is answered with.
use Rattle.std.specs.Prelude.{Bool, true, false, cond, ◌&&◌, List, ◌++◌, ◌≡◌, ℕ, length, leb, eqb, Option, Some, None, Ok, Err}
use Rattle.machine.specs.declared.outcome.Outcome.{Outcome}
use Rattle.machine.specs.declared.outcome.Outcome.TheVariants.{Verdict, Fault, Budget, Refused}
use Rattle.machine.specs.Machine.{interpreted}
use Rattle.analysis.specs.declared.Finding.{Finding}
use Rattle.analysis.specs.Judged.{pair}
use Rattle.analysis.specs.Answer.{Answer}
use Rattle.verifier.specs.Answered.{answered}
use Rattle.reasons.specs.Numbers.{fault_number}
use Rattle.text.specs.Scan.{equal}
use Rattle.text.specs.Number.{number}
use Rattle.text.specs.Hex.{spelled, bytes_of}
use Rattle.text.specs.Buffer.{Put, chars, decimal, hexadecimal}
use Rattle.console.specs.declared.request.Numbers.{Numbers}
use Rattle.known_bits.specs.declared.Bits.{Bits}
use Rattle.known_bits.specs.KnownBits.{Sound, Best}
use Rattle.console.specs.declared.bits.Asked.{Asked}
use Rattle.console.specs.declared.answer.Reply.{Reply}
use Rattle.console.specs.declared.answer.Reply.TheVariants.{Ran, Pair, Found}
use Rattle.console.specs.Request.{word, after, blank, numbers_of, sizes_of}
use Rattle.console.specs.Bits.{asked_of, places, Wanted, BestWanted}

-- what a run comes to: a record of another length than R is refused before the machine sees it
unfoldable pub outcome_of : Numbers → List ℕ → List ℕ → List ℕ → Outcome
outcome_of numbers program rec stack =
    cond (eqb numbers.size (length rec)) (interpreted program rec numbers.p numbers.s stack numbers.budget).outcome Refused

-- the reply to a run by what was read of it, and none where some of it is not
unfoldable pub due : Option Numbers → Option (ℕ × ℕ) → List ℕ → List ℕ → List ℕ → Option Reply
due None b program rec stack = None
due (Some numbers) None program rec stack = None
due (Some numbers) (Some sizes) program rec stack = Some (Ran (outcome_of numbers program rec stack))

-- R P S BUDGET PROGRAM RECORD at the start of s, with room for a program of n bytes and a record of k
unfoldable pub run_reply : List ℕ → ℕ → ℕ → List ℕ → Option Reply
run_reply s n k stack =
    let t : List ℕ = after (after (after (after s))) in
    due (numbers_of s) (sizes_of t n k) (bytes_of (word t)) (bytes_of (word (after t))) stack

-- the reply that the verifier's answer makes: none where scratch memory is too small. That of the batch program, 229,376 words, is
-- enough for every program that passes the tests on form
unfoldable pub found_by : Answer → Option Reply
found_by (Ok j) = Some (Found j.finding)
found_by (Err e) = None

-- the reply to a verify by what was read of it: none where some of it is not, and elsewhere by what the verifier answers
unfoldable pub due_finding : Option ℕ → Option ℕ → List ℕ → ℕ → Option Reply
due_finding None b program size = None
due_finding (Some R) None program size = None
due_finding (Some R) (Some n) program size = found_by (answered program R size)

-- R PROGRAM at the start of s, and no word after them, with room for a program of n bytes and scratch memory of size words
unfoldable pub verify_reply : List ℕ → ℕ → ℕ → Option Reply
verify_reply s n size =
    let t : List ℕ = after s in
    cond (blank (after t)) (due_finding (number 10 (word s)) (spelled (word t) n) (bytes_of (word t)) size) None

-- the line has at most 70,000 characters, and this verb
unfoldable pub has_verb : List ℕ → List ℕ → Bool
has_verb verb line = leb (length line) 70000 && equal (word line) verb

-- the reply to a line, with room for a program of n bytes and a record of k, this stack, and scratch memory of size words: none where it is
-- neither a run nor a verify
unfoldable pub reply_to : List ℕ → ℕ → ℕ → List ℕ → ℕ → Option Reply
reply_to line n k stack size =
    cond (has_verb (chars "run") line) (run_reply (after line) n k stack)
    (cond (has_verb (chars "verify") line) (verify_reply (after line) n size) None)

-- r is a reply to what is asked: none where it says nothing, and elsewhere a pair that has all the numbers that the task is about, the best
-- one where that is demanded
abbrev pub Told : Option Asked → Option Reply → Type 0
Told None r = r ≡ None
Told (Some q) r =
    (p : Bits) × (r ≡ Some (Pair p)) × Sound 64 (Wanted q.task (places q.width) q.a q.b) p × (BestWanted q.task (places q.width) q.b → Best 64 (Wanted q.task (places q.width) q.a q.b) p)

-- r is a reply to the line: about known bits, one to what is asked; to any other line, the reply that is defined above
pub record Replied (line : List ℕ) (n k : ℕ) (stack : List ℕ) (size : ℕ) (r : Option Reply) : Type 0 where
  pub other : has_verb (chars "kb") line ≡ false → r ≡ reply_to line n k stack size
  pub bits : has_verb (chars "kb") line ≡ true → Told (asked_of (after line)) r

-- ---- what is written

unfoldable pub outcome_text : Outcome → List ℕ
outcome_text (Verdict value steps) = chars "verdict " ++ decimal value ++ chars " " ++ decimal steps
outcome_text (Fault cause at steps) = chars "fault " ++ decimal (fault_number cause) ++ chars " " ++ decimal steps
outcome_text (Budget steps) = chars "budget " ++ decimal steps
outcome_text Refused = chars "refused"

-- reason and place, 0 and 0 where the program is accepted
unfoldable pub finding_text : Finding → List ℕ
finding_text f = decimal (pair f).0 ++ chars " " ++ decimal (pair f).1

unfoldable pub reply_text : Option Reply → List ℕ
reply_text (Some (Ran o)) = outcome_text o
reply_text (Some (Pair p)) = hexadecimal p.value ++ chars "/" ++ hexadecimal p.mask
reply_text (Some (Found f)) = finding_text f
reply_text None = chars "error"

-- the answer, with its line end
unfoldable pub answer_text : Option Reply → List ℕ
answer_text r = reply_text r ++ chars "\n"

-- the text of a reply to the line is put into out from the index at on
pub record Responded (line : List ℕ) (n k : ℕ) (stack : List ℕ) (size : ℕ) (out : List ℕ) (at : ℕ) (out' : List ℕ) (r : ℕ) : Type 0 where
  pub reply : Option Reply
  pub replied : Replied line n k stack size reply
  pub put : Put out at (answer_text reply) out' r
