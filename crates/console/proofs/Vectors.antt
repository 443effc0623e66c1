-- The protocol's definition computed on lines: what is asked, and what is answered.
use mathlib.Core.List.{List, [], ◌∷◌}
use mathlib.Core.Path.{◌≡◌, refl}
use Prim.Native.Nat.{ℕ}
use lib.ListN.{replicate}
use Rattle.std.specs.Prelude.{Some, None}
use Rattle.machine.specs.Machine.{runs, start, bad_program, bad_record, bad_stack, bad_address, overlap, refused, interpreted}
use Rattle.analysis.specs.declared.Reason.TheVariants.{Outside}
use Rattle.analysis.specs.declared.Finding.TheVariants as finding
use Rattle.analysis.specs.Judged.{reason_number, pair}
use Rattle.verifier.specs.Answered.{answered}
use Rattle.text.specs.Scan.{other, leading, equal}
use Rattle.text.specs.Digit.{among, digit}
use Rattle.text.specs.Number.{digits, value, number_from, number, marked, numeral}
use Rattle.text.specs.Hex.{fitting, paired, dash, spelled, bytes_of}
use Rattle.text.specs.Buffer.{chars, last_digits, decimal, glyph, last_sixteens, hexadecimal}
use Rattle.text.specs.Pair.{joined, pair as pair_of}
use Rattle.word.specs.declared.Operation.TheVariants.{Arsh}
use Rattle.console.specs.declared.bits.Task.TheVariants.{Alu, Join}
use Rattle.machine.specs.declared.instruction.Width.TheVariants.{Long, Short}
use Rattle.console.specs.declared.answer.Reply.TheVariants.{Ran, Pair, Found}
use Rattle.machine.specs.declared.outcome.Outcome.TheVariants.{Verdict, Refused}
use Rattle.console.specs.Request.{ink, word, after, blank, four, numbers_of, two, sizes_of}
use Rattle.console.specs.Bits.{later_task, task_named, width_named, apart, bits_of, gathered, asked_of}
use Rattle.console.specs.Answer.{outcome_of, due, run_reply, found_by, due_finding, verify_reply, has_verb, reply_to, outcome_text, finding_text, reply_text, answer_text}

a_verdict : answer_text (Some (Ran (Verdict 202050057 5))) ≡ chars "verdict 202050057 5\n"
unfolding answer_text reply_text outcome_text decimal last_digits
a_verdict = refl

-- R is 1, and the record is empty
other_length : reply_to (chars "run 1 65536 131072 100 9500000000000000 -") 35000 35000 (replicate 512 0) 229376 ≡ Some (Ran Refused)
unfolding reply_to has_verb run_reply due outcome_of numbers_of four sizes_of two blank ink word after other leading equal among digit digits value number_from number marked numeral fitting paired dash spelled bytes_of
other_length = refl

more_words : reply_to (chars "run 0 65536 131072 100 9500000000000000 - 0") 35000 35000 (replicate 512 0) 229376 ≡ None
unfolding reply_to has_verb run_reply due outcome_of numbers_of four sizes_of two blank ink word after other leading equal among digit digits value number_from number marked numeral fitting paired dash spelled bytes_of
more_words = refl

-- what is run, on which record, at which addresses, with which budget
what_is_run : (stack : List ℕ) → reply_to (chars "run 1 65536 0x20000 100 9500000000000000 0a") 35000 35000 stack 229376 ≡ Some (Ran (interpreted (149 ∷ 0 ∷ 0 ∷ 0 ∷ 0 ∷ 0 ∷ 0 ∷ 0 ∷ []) (10 ∷ []) 65536 131072 stack 100).outcome)
unfolding reply_to has_verb run_reply due outcome_of numbers_of four sizes_of two blank ink word after other leading equal among digit digits value number_from number marked numeral fitting paired dash spelled bytes_of
what_is_run stack = refl

no_budget : answer_text (reply_to (chars "run 0 65536 0x20000 0 9500000000000000 -") 35000 35000 (replicate 512 0) 229376) ≡ chars "budget 0\n"
unfolding reply_to has_verb run_reply due outcome_of numbers_of four sizes_of two blank ink word after other leading equal among digit digits value number_from number marked numeral fitting paired dash spelled bytes_of interpreted refused bad_program bad_record bad_stack bad_address overlap runs start answer_text reply_text outcome_text decimal last_digits
no_budget = refl

-- what is verified, for which length of a record
what_is_verified : (k : ℕ) (stack : List ℕ) (size : ℕ) → reply_to (chars "verify 72  95000000000000fF ") 8 k stack size ≡ found_by (answered (149 ∷ 0 ∷ 0 ∷ 0 ∷ 0 ∷ 0 ∷ 0 ∷ 255 ∷ []) 72 size)
unfolding reply_to has_verb verify_reply due_finding blank ink word after other leading equal among digit digits value number_from number fitting paired dash spelled bytes_of
what_is_verified k stack size = refl

nothing_verified : (n k : ℕ) (stack : List ℕ) (size : ℕ) → reply_to (chars "verify 0 -") n k stack size ≡ found_by (answered [] 0 size)
unfolding reply_to has_verb verify_reply due_finding blank ink word after other leading equal among digit digits value number_from number fitting paired dash spelled bytes_of
nothing_verified n k stack size = refl

-- a word after the program, a program that has no room, an odd number of digits, 2 ^ 64
bad_to_verify : (k : ℕ) (stack : List ℕ) (size : ℕ) → (reply_to (chars "verify 0 9500000000000000 -") 35000 k stack size ≡ None) × (reply_to (chars "verify 0 9500000000000000") 7 k stack size ≡ None) × (reply_to (chars "verify 0 950000000000000") 35000 k stack size ≡ None) × (reply_to (chars "verify 18446744073709551616 -") 35000 k stack size ≡ None)
unfolding reply_to has_verb verify_reply due_finding blank ink word after other leading equal among digit digits value number_from number fitting paired dash spelled bytes_of
bad_to_verify k stack size = (refl, refl, refl, refl)

finding_answer : (answer_text (Some (Found (finding.Refused Outside 3))) ≡ chars "8 3\n") × (answer_text (Some (Found finding.Accepted)) ≡ chars "0 0\n")
unfolding answer_text reply_text finding_text pair reason_number decimal last_digits
finding_answer = (refl, refl)

pair_answer : answer_text (Some (Pair (record { value = 240; mask = 18446744073709551375 }))) ≡ chars "f0/ffffffffffffff0f\n"
unfolding answer_text reply_text hexadecimal last_sixteens glyph
pair_answer = refl

what_is_shifted : asked_of (chars " ARSH 32 80000000/3 01/0 ") ≡ Some (record { task = Alu Arsh; width = Short; a = record { value = 2147483648; mask = 3 }; b = record { value = 1; mask = 0 } })
unfolding asked_of gathered task_named later_task width_named bits_of apart pair_of joined blank ink word after other leading equal among digit digits value number_from number
what_is_shifted = refl

what_is_joined : asked_of (chars "JOIN 64 A/0 c/1") ≡ Some (record { task = Join; width = Long; a = record { value = 10; mask = 0 }; b = record { value = 12; mask = 1 } })
unfolding asked_of gathered task_named later_task width_named bits_of apart pair_of joined blank ink word after other leading equal among digit digits value number_from number
what_is_joined = refl

one_bit_in_both : asked_of (chars "JOIN 64 4/0 6/2") ≡ None
unfolding asked_of gathered task_named later_task width_named bits_of apart pair_of joined blank ink word after other leading equal among digit digits value number_from number
one_bit_in_both = refl

no_such_width : asked_of (chars "JOIN 16 4/0 6/0") ≡ None
unfolding asked_of gathered task_named later_task width_named bits_of apart pair_of joined blank ink word after other leading equal among digit digits value number_from number
no_such_width = refl

one_word_more : asked_of (chars "JOIN 64 4/0 6/0 0/0") ≡ None
unfolding asked_of gathered task_named later_task width_named bits_of apart pair_of joined blank ink word after other leading equal among digit digits value number_from number
one_word_more = refl

no_mask : asked_of (chars "JOIN 64 4 6/0") ≡ None
unfolding asked_of gathered task_named later_task width_named bits_of apart pair_of joined blank ink word after other leading equal among digit digits value number_from number
no_mask = refl
