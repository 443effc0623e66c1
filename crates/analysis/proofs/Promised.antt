-- What is judged is what is promised.
use mathlib.Core.List.{List}
use Prim.Native.Nat.{ℕ}
use Rattle.analysis.specs.Judged.{judged}
use Rattle.analysis.specs.Promise.{Promise}
use Rattle.analysis.proofs.Judgement.{answers_1, answers_2, answers_tests, answers_12}
use Rattle.analysis.proofs.Sentences.{sentences_told}
use Rattle.analysis.proofs.Theorem.{accepted_safe}
use Rattle.analysis.proofs.Whole.{judged_whole}
use Rattle.analysis.proofs.Work.{work_linear}

pub judged_promised : (program : List ℕ) (R : ℕ) → Promise program R (judged program R)
judged_promised program R =
    record {
      yes_is_safe = accepted_safe program R;
      form = record { bad_length = answers_1 program R; long_record = answers_2 program R; test_fails = answers_tests program R; dead_code = answers_12 program R };
      whole = judged_whole program R;
      tells = sentences_told;
      work_is_linear = work_linear program R;
    }
