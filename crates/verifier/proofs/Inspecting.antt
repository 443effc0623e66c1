-- What is told of an index that no path reaches, and of one that a path reaches.
use Prim.Native.Nat.{ℕ, ◌+◌, ◌*◌, ◌/◌, ◌≤◌, ◌<◌}
use mathlib.Core.Path.{◌≡◌, refl, sym, ap, ◌∙◌}
use mathlib.Core.List.{List}
use mathlib.Core.Bool.{cond}
use lib.ListN.{length, get_or}
use lib.Dec.{leb}
use borrow.Author.Tests.{le-ltb}
use Rattle.std.specs.Prelude.{Some, None}
use Rattle.machine.specs.declared.instruction.Instruction.{Instruction}
use Rattle.machine.specs.declared.instruction.Instruction.TheVariants.{NoInstruction}
use Rattle.machine.specs.Instruction.{decode}
use Rattle.analysis.specs.declared.Value.{Value}
use Rattle.analysis.specs.declared.Effect.{Effect}
use Rattle.analysis.specs.Values.{value_of}
use Rattle.analysis.specs.Effects.{effect}
use Rattle.analysis.specs.Form.{instruction}
use Rattle.verifier.specs.Inspect.{known_of, deed_of}
use Rattle.waiting.specs.State.{facts_at}
use Rattle.waiting.specs.Store.{waiting_in}
use Rattle.verifier.specs.Sending.{shortened}
use Rattle.verifier.proofs.Tests.{an_instruction_is_decoded}
use Rattle.waiting.specs.Layout.{block_words, state_of}
use Rattle.waiting.proofs.Blocks.{a_marked_block_waits, nothing_waits_in_an_unmarked_block}

nothing_waits_outside : (n : ℕ) (m : List ℕ) (i : ℕ) → n ≤ i → waiting_in n m i ≡ None
unfolding waiting_in
nothing_waits_outside n m i l = rw (le-ltb i n l)

pub outside_nothing_is_known : (n : ℕ) (m : List ℕ) (i r : ℕ) → n ≤ i → None ≡ known_of (waiting_in n m i) r
unfolding known_of
outside_nothing_is_known n m i r l = rw (nothing_waits_outside n m i l)

pub unmarked_nothing_is_known : (n : ℕ) (m : List ℕ) (i r : ℕ) → (get_or m (block_words * i) 0 ≡ 1 → ⊥) → None ≡ known_of (waiting_in n m i) r
unfolding known_of
unmarked_nothing_is_known n m i r ne = rw (nothing_waits_in_an_unmarked_block n m i ne)

pub marked_a_register_is_known : (n : ℕ) (m : List ℕ) (i r : ℕ) (v : Value) → i < n → get_or m (block_words * i) 0 ≡ 1 → v ≡ value_of (facts_at m (state_of i)) r
    → Some v ≡ known_of (waiting_in n m i) r
unfolding known_of
marked_a_register_is_known n m i r v l mark e = rw (a_marked_block_waits n m i l mark) (ap Some e)

module _ (n R : ℕ) (m : List ℕ) (i : ℕ) (ins : Instruction) where
  pub outside_nothing_is_done : n ≤ i → None ≡ deed_of R i (waiting_in n m i) ins
  unfolding deed_of
  outside_nothing_is_done l = rw (nothing_waits_outside n m i l)

  pub unmarked_nothing_is_done : (get_or m (block_words * i) 0 ≡ 1 → ⊥) → None ≡ deed_of R i (waiting_in n m i) ins
  unfolding deed_of
  unmarked_nothing_is_done ne = rw (nothing_waits_in_an_unmarked_block n m i ne)

pub marked_an_effect_is_done : (program : List ℕ) (R : ℕ) (m : List ℕ) (i : ℕ) (ins : Instruction) (e : Effect)
    → ins ≡ cond (leb (i * 8 + 8) (length program)) (decode program (i * 8)) NoInstruction
    → e ≡ effect R i (facts_at m (state_of i)) (shortened (length program / 8) ins) → i < length program / 8 → get_or m (block_words * i) 0 ≡ 1
    → Some e ≡ deed_of R i (waiting_in (length program / 8) m i) (shortened (length program / 8) (instruction program i))
unfolding deed_of
marked_an_effect_is_done program R m i ins e is does l mark =
    rw (a_marked_block_waits (length program / 8) m i l mark, sym (is ∙ an_instruction_is_decoded program (length program / 8) i refl l)) (ap Some does)
