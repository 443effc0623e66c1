-- The reply to a line by its verb; it needs no more of the stack than the length.
use mathlib.Core.Bool.{Bool, true, false, cond, true≢false}
use mathlib.Core.List.{List}
use mathlib.Core.Path.{◌≡◌, refl, sym, ◌∙◌}
use Prim.Native.Nat.{ℕ, ◌≤◌, ◌<◌}
use lib.ListN.{length}
use borrow.Author.Tests.{le-leb, lt-leb}
use Rattle.std.specs.Prelude.{Option, Some, None}
use Rattle.machine.specs.Machine.{World, Done, runs, start, refused, interpreted}
use Rattle.machine.specs.declared.outcome.Outcome.TheVariants.{Refused}
use Rattle.text.specs.Scan.{equal}
use Rattle.text.specs.Buffer.{chars}
use Rattle.console.specs.declared.request.Numbers.{Numbers}
use Rattle.console.specs.declared.answer.Reply.{Reply}
use Rattle.console.specs.declared.answer.Verb.{Verb}
use Rattle.console.specs.declared.answer.Verb.TheVariants.{Bits, Run, Verify}
use Rattle.console.specs.Request.{word, after}
use Rattle.console.specs.Answer.{outcome_of, due, run_reply, verify_reply, has_verb, reply_to, Told, Replied}
use Rattle.console.specs.Bits.{asked_of}

module _ (line : List ℕ) (n k : ℕ) (stack : List ℕ) (size : ℕ) where
  reply_none : has_verb (chars "run") line ≡ false → has_verb (chars "verify") line ≡ false → None ≡ reply_to line n k stack size
  unfolding reply_to
  reply_none e f = simp (e, f)

  reply_run : has_verb (chars "run") line ≡ true → run_reply (after line) n k stack ≡ reply_to line n k stack size
  unfolding reply_to
  reply_run e = simp e

  reply_verify : has_verb (chars "run") line ≡ false → has_verb (chars "verify") line ≡ true → verify_reply (after line) n size ≡ reply_to line n k stack size
  unfolding reply_to
  reply_verify e f = simp (e, f)

  replied_other : has_verb (chars "kb") line ≡ false → (r : Option Reply) → r ≡ reply_to line n k stack size → Replied line n k stack size r
  replied_other h r d = record { other = λ f. d; bits = λ f. absurd (true≢false (sym f ∙ h)) }

  replied_bits : has_verb (chars "kb") line ≡ true → (r : Option Reply) → Told (asked_of (after line)) r → Replied line n k stack size r
  replied_bits h r d = record { other = λ f. absurd (true≢false (sym h ∙ f)); bits = λ f. d }

  no_verb : (verb : List ℕ) → 70000 < length line → has_verb verb line ≡ false
  unfolding has_verb
  no_verb verb h = simp (lt-leb (length line) 70000 h)

  pub replied_long : 70000 < length line → Replied line n k stack size None
  replied_long h = replied_other (no_verb (chars "kb") h) None (reply_none (no_verb (chars "run") h) (no_verb (chars "verify") h))

  -- r is what the verb's function replies
  abbrev pub By : Option Verb → Option Reply → Type 0
  By (Some Bits) r = Told (asked_of (after line)) r
  By (Some Run) r = r ≡ run_reply (after line) n k stack
  By (Some Verify) r = r ≡ verify_reply (after line) n size
  By None r = r ≡ None

  by_tests : (a b c : Bool) → has_verb (chars "kb") line ≡ a → has_verb (chars "run") line ≡ b → has_verb (chars "verify") line ≡ c
      → (r : Option Reply) → By (cond a (Some Bits) (cond b (Some Run) (cond c (Some Verify) None))) r → Replied line n k stack size r
  by_tests true b c e f g r h = replied_bits e r h
  by_tests false true c e f g r h = replied_other e r (h ∙ reply_run f)
  by_tests false false true e f g r h = replied_other e r (h ∙ reply_verify f g)
  by_tests false false false e f g r h = replied_other e r (h ∙ reply_none f g)

  is_verb : (verb : List ℕ) → length line ≤ 70000 → has_verb verb line ≡ equal (word line) verb
  unfolding has_verb
  is_verb verb l = simp (le-leb (length line) 70000 l)

  pub replied_by : length line ≤ 70000 → (v : Option Verb) → v ≡ cond (equal (word line) (chars "kb")) (Some Bits) (cond (equal (word line) (chars "run")) (Some Run) (cond (equal (word line) (chars "verify")) (Some Verify) None))
      → (r : Option Reply) → By v r → Replied line n k stack size r
  replied_by l v e r h = by_tests _ _ _ (is_verb _ l) (is_verb _ l) (is_verb _ l) r (rw e at h)

-- ---- of the stack a reply needs the length alone

refusal_alone : (b : Bool) (s t : List ℕ) (d : Done) → (cond b (record { outcome = Refused; stack = s }) d).outcome ≡ (cond b (record { outcome = Refused; stack = t }) d).outcome
refusal_alone true s t d = refl
refusal_alone false s t d = refl

module _ (s t : List ℕ) (e : length s ≡ length t) where
  same_interpreted : (program rec : List ℕ) (P S budget : ℕ) → (interpreted program rec P S s budget).outcome ≡ (interpreted program rec P S t budget).outcome
  unfolding interpreted
  same_interpreted program rec P S budget =
      let w : World = record { rec = rec; P = P; S = S } in
      rw e (refusal_alone (refused (length program) (length rec) (length t) P S) s t (runs program w budget 0 (start w)))

  same_outcome : (numbers : Numbers) (program rec : List ℕ) → outcome_of numbers program rec s ≡ outcome_of numbers program rec t
  unfolding outcome_of
  same_outcome numbers program rec = rw (same_interpreted program rec numbers.p numbers.s numbers.budget)

  same_due : (a : Option Numbers) (b : Option (ℕ × ℕ)) (program rec : List ℕ) → due a b program rec s ≡ due a b program rec t
  unfolding due
  same_due None b program rec = refl
  same_due (Some numbers) None program rec = refl
  same_due (Some numbers) (Some sizes) program rec = rw (same_outcome numbers program rec)

  pub same_reply : (line : List ℕ) (n k size : ℕ) → reply_to line n k s size ≡ reply_to line n k t size
  unfolding reply_to run_reply
  same_reply line n k size = simp same_due

  pub same_replied : (line : List ℕ) (n k size : ℕ) (r : Option Reply) → Replied line n k s size r → Replied line n k t size r
  same_replied line n k size r g = record { other = λ f. g.other f ∙ same_reply line n k size; bits = g.bits }
