-- What the command says of the verifier's answer on a program of n instructions: a line, and the digit of the exit status.
use Rattle.std.specs.Prelude.{List, [], ◌∷◌, ◌++◌, ℕ, Ok, Err}
use Rattle.text.specs.Buffer.{chars, decimal}
use Rattle.analysis.specs.declared.Reason.{Reason}
use Rattle.analysis.specs.declared.Finding.{Finding}
use Rattle.analysis.specs.declared.Finding.TheVariants.{Accepted, Refused}
use Rattle.analysis.specs.Answer.{Answer}
use Rattle.analysis.specs.Judged.{reason_number}
use Rattle.reasons.specs.Sentence.{sentence_of}

abbrev pub refusal_text : Reason → ℕ → List ℕ
refusal_text reason place =
    (chars "refused: reason " ++ decimal (reason_number reason) ++ chars " at instruction ")
    ++ (chars "" ++ decimal place ++ chars ": ") ++ sentence_of reason ++ (10 ∷ [])

abbrev pub finding_text : Finding → ℕ → List ℕ
finding_text Accepted n = chars "accepted: at most " ++ decimal n ++ chars " steps\n"
finding_text (Refused reason place) n = refusal_text reason place

abbrev pub answer_text : Answer → ℕ → List ℕ
answer_text (Ok j) n = finding_text j.finding n
answer_text (Err e) n = chars "not verified: this takes " ++ decimal e.words ++ chars " words of scratch memory\n"

-- 0 yes, 1 no, 2 where nothing was answered
abbrev pub finding_status : Finding → ℕ
finding_status Accepted = 48
finding_status (Refused reason place) = 49

abbrev pub answer_status : Answer → ℕ
answer_status (Ok j) = finding_status j.finding
answer_status (Err e) = 50
