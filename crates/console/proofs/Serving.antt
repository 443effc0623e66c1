-- The pairs that serve a task, by what the operations on pairs promise, and the reply that they make.
use mathlib.Core.List.{List}
use mathlib.Core.Logic.{inl, inr}
use mathlib.Core.Path.{◌≡◌, refl}
use Prim.Native.Nat.{ℕ}
use Rattle.std.specs.Prelude.{Option, Some, None}
use Rattle.word.specs.declared.Operation.{Operation}
use Rattle.known_bits.specs.declared.Bits.{Bits}
use Rattle.known_bits.specs.KnownBits.{Well, Mem, Sound, Best, Cuts, Either}
use Rattle.known_bits.specs.Computed.{Computed}
use Rattle.known_bits.proofs.Laws.{best_sound}
use Rattle.console.specs.declared.bits.Task.TheVariants.{Alu, Join, Cut}
use Rattle.console.specs.declared.bits.Asked.{Asked}
use Rattle.console.specs.declared.answer.Reply.TheVariants.{Pair}
use Rattle.console.specs.Bits.{asked_of, places, Wanted, Serves}
use Rattle.console.specs.Answer.{Told}
use Rattle.console.proofs.Asking.{Forms, asked_formed}

module _ (a b r : Bits) where
  pub serves_alu : (op : Operation) (w : ℕ) → Computed w op a b r → Serves (Alu op) w a b r
  serves_alu op w f = record { sound = f.sound; best = f.best }

  pub serves_cut : (w : ℕ) → (Well 64 a → Best 64 (Cuts w a) r) → Serves Cut w a b r
  serves_cut w f = record { sound = λ p q. best_sound 64 (Cuts w a) r (f p); best = λ d p q. f p }

-- x and y are the best for the low bits of a and b, and r for the numbers of either
module _ (w : ℕ) (a b x y r : Bits) (g : Sound 64 (Either x y) r) where
  in_cuts : Best 64 (Cuts w a) x → Best 64 (Cuts w b) y → (z : ℕ) → Wanted Join w a b z → Mem 64 r z
  in_cuts e f z (inl s) = g.sound z (inl (e.sound z s))
  in_cuts e f z (inr s) = g.sound z (inr (f.sound z s))

  within : Best 64 (Cuts w a) x → Best 64 (Cuts w b) y → (q : Bits) → Well 64 q → ((z : ℕ) → Wanted Join w a b z → Mem 64 q z) → (z : ℕ) → Either x y z → Mem 64 q z
  within e f q gq hq z (inl m) = e.least q gq (λ u k. hq u (inl k)) z m
  within e f q gq hq z (inr m) = f.least q gq (λ u k. hq u (inr k)) z m

  pub serves_both : (Well 64 x → Well 64 y → Best 64 (Either x y) r) → (Well 64 a → Best 64 (Cuts w a) x) → (Well 64 b → Best 64 (Cuts w b) y)
      → Serves Join w a b r
  serves_both h e f =
      record {
        sound = λ p q. record { well = g.well; sound = in_cuts (e p) (f q) };
        best = λ d p q.
            record {
              well = g.well;
              sound = in_cuts (e p) (f q);
              least = λ s gs hs. (h (e p).well (f q).well).least s gs (within (e p) (f q) s gs hs);
            };
      }

-- x is what was read of the request at the start of s
module _ (s : List ℕ) (x : Option Asked) (e : x ≡ asked_of s) where
  pub told_bad : x ≡ None → Told (asked_of s) None
  told_bad h = rw (← e, h) refl

  pub told_pair : (asked : Asked) → x ≡ Some asked → (p : Bits) → Serves asked.task (places asked.width) asked.a asked.b p → Told (asked_of s) (Some (Pair p))
  told_pair asked h p g =
      let f : Forms (Some asked) = rw (← e, h) at (asked_formed s) in
      rw (← e, h) (p, refl, g.sound f.0 f.1, λ d. g.best d f.0 f.1)
