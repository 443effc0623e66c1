-- That Safe says something: memory can be laid for every record, and programs that fault, compare or report addresses are not safe.
use Rattle.std.proofs.Common.{ℕ, None, Some}
use mathlib.Core.Path.{◌≡◌, refl, sym, ap, ◌∙◌, subst}
use mathlib.Core.Bool.{Bool, true, false, cond}
use mathlib.Core.Logic.{◌⊎◌, inl, inr, ⊎_elim}
use mathlib.Core.List.{List, [], ◌∷◌}
use Prim.Native.Nat.{ℕ, zero, suc, ◌+◌, ◌-◌, ◌%◌, ◌^◌, ◌≤◌, ◌<◌}
use native.Mathlib.Omega.{arith}
use lib.ListN.{length, get_or, replicate, length-replicate}
use lib.Dec.{leb}
use borrow.Author.Tests.{le-ltb}
use Rattle.word.specs.Word.{cut, extend, shift_signed, alu, moved, compare, read_bytes, write_bytes}
use Rattle.machine.specs.declared.instruction.Size.{Size}
use Rattle.machine.specs.declared.instruction.Size.TheVariants.{One, Four, Eight}
use Rattle.machine.specs.declared.outcome.Cause.{Cause}
use Rattle.machine.specs.declared.outcome.Outcome.{Outcome}
use Rattle.machine.specs.declared.outcome.Outcome.TheVariants.{Verdict, Fault, Budget, Refused}
use Rattle.machine.specs.declared.outcome.Cause.TheVariants.{Unset, BadAccess}
use Rattle.machine.specs.Instruction.{fields, only, lookup, with_operand, operations, arithmetic, comparisons, jump, loads, stores_of_imm, stores_of_src, load, store_of_imm, store_of_src, by_class, meaning, decode, reads_operand, reads_dst, reads, writes}
use Rattle.machine.specs.Machine as machine
use Rattle.machine.specs.Machine.{World, State, Content, Holds, Done, content, held, value, operand_value, put, jumped, bits, bytes, address, within, loaded, after_load, after_store, effect, is_no_instruction, names10, is_unset, any_unset, obey, step, next, runs, start, bad_program, bad_record, bad_stack, bad_address, overlap, refused, interpreted}
use Rattle.analysis.specs.Safe.{Laid, Bytes, Safe}
use Rattle.analysis.specs.declared.Finding.TheVariants.{Accepted}
use Rattle.analysis.specs.Judged.{judged}
use Rattle.analysis.proofs.Simulation.{within_yes, within_no}
use Rattle.analysis.proofs.Theorem.{laid_not_refused, accepted_safe}
use Rattle.analysis.proofs.Programs.{eight, program, X1, X2, X3, K1, low_half_jump, stores_r1, signed_15, low_half_program}

record_good : (R : ℕ) → R ≤ 1024 → bad_record R ≡ false
unfolding bad_record
record_good R l = le-ltb 1024 R l

-- ---- memory can be laid, for every length of the record

-- the record above the stack
pub above : (R p : ℕ) → p ≤ 2 ^ 30 → Laid R
above R p l =
    record {
      P = 2 ^ 20 + p;
      S = 2 ^ 16;
      before = replicate 512 0;
      record_low = omega arith;
      record_high = omega arith;
      stack_low = omega arith;
      stack_high = omega arith;
      apart = inr (inr (omega arith));
      stack_size = refl;
    }

-- the record below it
pub below : (R : ℕ) → R ≤ 1024 → Laid R
below R l =
    record {
      P = 2 ^ 16;
      S = 2 ^ 20;
      before = replicate 512 0;
      record_low = omega arith;
      record_high = omega arith;
      stack_low = omega arith;
      stack_high = omega arith;
      apart = inr (inl (omega arith));
      stack_size = refl;
    }

-- ---- what Safe promises of two layouts, and of one run

abbrev Faults : Outcome → Type 0
Faults (Verdict v k) = ⊥
Faults (Fault c i k) = Unit {0}
Faults (Budget k) = ⊥
Faults Refused = ⊥

module _ (program : List ℕ) (R : ℕ) (safe : Safe program R) (rec : List ℕ) (size : length rec ≡ R) (bytes_only : Bytes rec) where
  -- the outcome and the stack are the same wherever memory lies
  same_everywhere : (v w : Laid (length rec)) (b : ℕ)
      → interpreted program rec v.P v.S v.before b ≡ interpreted program rec w.P w.S w.before b
  unfolding Safe
  same_everywhere v w b = let a = safe rec size bytes_only in a.everywhere v b ∙ sym (a.everywhere w b)

  never_faults : (w : Laid (length rec)) (b : ℕ) → Faults (interpreted program rec w.P w.S w.before b).outcome → ⊥
  unfolding Safe
  never_faults w b h = let a = safe rec size bytes_only in go (leb a.steps b) (subst (λ (d : Done). Faults d.outcome) (a.everywhere w b) h)
    where
      go : (t : Bool) → Faults (cond t (Verdict (safe rec size bytes_only).verdict (safe rec size bytes_only).steps) (Budget b)) → ⊥
      go true f = f
      go false f = f

-- ---- a record of R zeros

blank : ℕ → List ℕ
blank R = replicate R 0

blank_size : (R : ℕ) → length (blank R) ≡ R
unfolding blank
blank_size R = length-replicate R 0

blank_bytes : (R : ℕ) → Bytes (blank R)
unfolding blank
blank_bytes zero i = omega arith
blank_bytes (suc R) zero = omega arith
blank_bytes (suc R) (suc i) = blank_bytes R i

-- the run of a program of good length
module _ (ns rec : List ℕ) (small : length rec ≤ 1024) (good : bad_program (length (program ns)) ≡ false) (w : Laid (length rec)) where
  there : World
  there = record { rec = rec; P = w.P; S = w.S }

  run_there : (b : ℕ) → interpreted (program ns) rec w.P w.S w.before b ≡ runs (program ns) there b 0 (start there)
  unfolding interpreted there
  run_there b = rw (laid_not_refused (program ns) rec good (record_good (length rec) small) w) refl

-- two layouts that a program tells from each other on a record of zeros refute its safety
module _ (ns : List ℕ) (R : ℕ) (small : R ≤ 1024) (good : bad_program (length (program ns)) ≡ false) (safe : Safe (program ns) R) where
  blank_small : length (blank R) ≤ 1024
  blank_small = rw (blank_size R) small

  runs_alike : (v w : Laid (length (blank R))) (b : ℕ)
      → runs (program ns) (there ns (blank R) blank_small good v) b 0 (start (there ns (blank R) blank_small good v))
      ≡ runs (program ns) (there ns (blank R) blank_small good w) b 0 (start (there ns (blank R) blank_small good w))
  runs_alike v w b =
      sym (run_there ns (blank R) blank_small good v b)
      ∙ same_everywhere (program ns) R safe (blank R) (blank_size R) (blank_bytes R) v w b
      ∙ run_there ns (blank R) blank_small good w b

-- memory as `above` lays it, with the record at its lowest
at_2^20 : List ℕ → World
at_2^20 rec = record { rec = rec; P = 2 ^ 20 + 0; S = 2 ^ 16 }

-- a record on which a program faults refutes it too
module _ (ns rec : List ℕ) (small : length rec ≤ 1024) (good : bad_program (length (program ns)) ≡ false) (bytes_only : Bytes rec) where
  faults_not_safe : (b : ℕ) (c : Cause) (i k : ℕ)
      → (runs (program ns) (at_2^20 rec) b 0 (start (at_2^20 rec))).outcome ≡ Fault c i k → Safe (program ns) (length rec) → ⊥
  unfolding there above at_2^20
  faults_not_safe b c i k e safe =
      never_faults (program ns) (length rec) safe rec refl bytes_only (above (length rec) 0 (omega arith)) b
      (subst Faults (sym (ap (λ d. d.outcome) (run_there ns rec small good (above (length rec) 0 (omega arith)) b) ∙ e)) tt)

abbrev verdict_in : Outcome → ℕ
verdict_in (Verdict v k) = v
verdict_in (Fault c i k) = 0
verdict_in (Budget k) = 0
verdict_in Refused = 0

-- ---- X1 answers where the record lies

x1_runs : (R p : ℕ) → let w : World = record { rec = blank R; P = 2 ^ 20 + p; S = 2 ^ 16 } in
    verdict_in (runs (program X1) w 2 0 (start w)).outcome ≡ (2 ^ 20 + p) % 2 ^ 64
unfolding X1 eight program cut extend shift_signed alu moved compare read_bytes write_bytes fields only lookup with_operand operations arithmetic comparisons jump loads stores_of_imm stores_of_src load store_of_imm store_of_src by_class meaning decode reads_operand reads_dst reads writes content held value operand_value put jumped bits bytes address within loaded after_load after_store effect is_no_instruction names10 is_unset any_unset obey step next runs start
x1_runs R p = refl

pub x1_not_safe : (R : ℕ) → R ≤ 1024 → Safe (program X1) R → ⊥
unfolding there above X1 eight program bad_program
x1_not_safe R small safe =
    let e = runs_alike X1 R small refl safe (above (length (blank R)) 0 (omega arith)) (above (length (blank R)) 1 (omega arith)) 2 in
    let h : (2 ^ 20 + 0) % 2 ^ 64 ≡ (2 ^ 20 + 1) % 2 ^ 64 = sym (x1_runs R 0) ∙ ap (λ d. verdict_in d.outcome) e ∙ x1_runs R 1 in
    omega arith

-- ---- X2 answers which of the two lies lower

x2_above : (R : ℕ) → let w : World = record { rec = blank R; P = 2 ^ 20 + 0; S = 2 ^ 16 } in verdict_in (runs (program X2) w 4 0 (start w)).outcome ≡ 0
unfolding X2 eight program cut extend shift_signed alu moved compare read_bytes write_bytes fields only lookup with_operand operations arithmetic comparisons jump loads stores_of_imm stores_of_src load store_of_imm store_of_src by_class meaning decode reads_operand reads_dst reads writes content held value operand_value put jumped bits bytes address within loaded after_load after_store effect is_no_instruction names10 is_unset any_unset obey step next runs start
x2_above R = refl

x2_below : (R : ℕ) → let w : World = record { rec = blank R; P = 2 ^ 16; S = 2 ^ 20 } in verdict_in (runs (program X2) w 4 0 (start w)).outcome ≡ 1
unfolding X2 eight program cut extend shift_signed alu moved compare read_bytes write_bytes fields only lookup with_operand operations arithmetic comparisons jump loads stores_of_imm stores_of_src load store_of_imm store_of_src by_class meaning decode reads_operand reads_dst reads writes content held value operand_value put jumped bits bytes address within loaded after_load after_store effect is_no_instruction names10 is_unset any_unset obey step next runs start
x2_below R = refl

pub x2_not_safe : (R : ℕ) → R ≤ 1024 → Safe (program X2) R → ⊥
unfolding there above below X2 eight program bad_program
x2_not_safe R small safe =
    let e = runs_alike X2 R small refl safe (above (length (blank R)) 0 (omega arith)) (below (length (blank R)) (rw (blank_size R) small)) 4 in
    let h : ◌≡◌ {A = ℕ} 0 1 = sym (x2_above R) ∙ ap (λ d. verdict_in d.outcome) e ∙ x2_below R in
    omega arith

-- ---- a probe that stores r1 answers 0, and leaves the address in the stack

stores_r1_leaves : (R p : ℕ) → p < 256 → let w : World = record { rec = blank R; P = 2 ^ 20 + p; S = 2 ^ 16 } in
    get_or (runs (program stores_r1) w 3 0 (start w)).stack 504 0 ≡ (2 ^ 20 + p) % 256
unfolding stores_r1 eight program cut extend shift_signed alu moved compare read_bytes write_bytes fields only lookup with_operand operations arithmetic comparisons jump loads stores_of_imm stores_of_src load store_of_imm store_of_src by_class meaning decode reads_operand reads_dst reads writes content held value operand_value put jumped bits bytes address within loaded after_load after_store effect is_no_instruction names10 is_unset any_unset obey step next runs start
stores_r1_leaves R p l = refl

pub stores_r1_not_safe : (R : ℕ) → R ≤ 1024 → Safe (program stores_r1) R → ⊥
unfolding there above stores_r1 eight program bad_program
stores_r1_not_safe R small safe =
    let e = runs_alike stores_r1 R small refl safe (above (length (blank R)) 0 (omega arith)) (above (length (blank R)) 1 (omega arith)) 3 in
    let h : (2 ^ 20 + 0) % 256 ≡ (2 ^ 20 + 1) % 256 = sym (stores_r1_leaves R 0 (omega arith)) ∙ ap (λ d. get_or d.stack 504 0) e ∙ stores_r1_leaves R 1 (omega arith) in
    omega arith

-- ---- X3 faults, whatever the record

x3_faults : (R : ℕ) → let w : World = record { rec = blank R; P = 2 ^ 20 + 0; S = 2 ^ 16 } in (runs (program X3) w 1 0 (start w)).outcome ≡ Fault Unset 0 0
unfolding X3 eight program cut extend shift_signed alu moved compare read_bytes write_bytes fields only lookup with_operand operations arithmetic comparisons jump loads stores_of_imm stores_of_src load store_of_imm store_of_src by_class meaning decode reads_operand reads_dst reads writes content held value operand_value put jumped bits bytes address within loaded after_load after_store effect is_no_instruction names10 is_unset any_unset obey step next runs start
x3_faults R = refl

pub x3_not_safe : (R : ℕ) → R ≤ 1024 → Safe (program X3) R → ⊥
unfolding at_2^20 X3 eight program bad_program
x3_not_safe R small safe =
    faults_not_safe X3 (blank R) (rw (blank_size R) small) refl (blank_bytes R) 1 Unset 0 0 (x3_faults R)
    (subst (Safe (program X3)) (sym (blank_size R)) safe)

-- ---- K1 with a record of 71 bytes faults if byte 0 is 255

full_byte : List ℕ
full_byte = 255 ∷ blank 70

full_byte_bytes : Bytes full_byte
unfolding full_byte
full_byte_bytes zero = omega arith
full_byte_bytes (suc i) = blank_bytes 70 i

full_byte_size : length full_byte ≡ 71
unfolding full_byte blank
full_byte_size = refl

k1_faults : let w = above (length full_byte) 0 (omega arith) in
    (interpreted (program K1) full_byte w.P w.S w.before 9).outcome ≡ Fault BadAccess 3 3
unfolding above full_byte blank K1 eight program cut extend shift_signed alu moved compare read_bytes write_bytes fields only lookup with_operand operations arithmetic comparisons jump loads stores_of_imm stores_of_src load store_of_imm store_of_src by_class meaning decode reads_operand reads_dst reads writes content held value operand_value put jumped bits bytes address within loaded after_load after_store effect is_no_instruction names10 is_unset any_unset obey step next runs start bad_program bad_record bad_stack bad_address overlap refused interpreted
k1_faults = refl

pub k1_not_safe_with_71 : Safe (program K1) 71 → ⊥
k1_not_safe_with_71 safe =
    never_faults (program K1) 71 safe full_byte full_byte_size full_byte_bytes (above (length full_byte) 0 (omega arith)) 9 (subst Faults (sym k1_faults) tt)

-- ---- loads from a record at 2 ^ 20 with the stack at 2 ^ 16, whatever the record's length

at_first : (rec : List ℕ) (z : Size) → bytes z ≤ length rec → loaded (at_2^20 rec) (replicate 512 0) (2 ^ 20) z ≡ Some (read_bytes (bytes z) rec 0)
unfolding loaded at_2^20
at_first rec z l = rw (within_yes (at_2^20 rec) (2 ^ 20 + 0) (length rec) (2 ^ 20) (bytes z) (omega arith) (omega arith)) refl

nowhere : (rec : List ℕ) (a : ℕ) → length rec ≤ 1024 → 2 ^ 16 + 512 ≤ a → (a < 2 ^ 20) ⊎ (2 ^ 20 + 1024 ≤ a)
    → loaded (at_2^20 rec) (replicate 512 0) a One ≡ None
unfolding loaded bytes at_2^20
nowhere rec a l h o =
    rw (within_no (at_2^20 rec) (2 ^ 20 + 0) (length rec) a 1 (⊎_elim (λ p. inl (omega arith)) (λ p. inr (omega arith)) o))
    (rw (within_no (at_2^20 rec) (2 ^ 16) 512 a 1 (inr (omega arith))) refl)

-- the state before the instruction at index i, with what r1, r2 and r3 have
before_index : ℕ → ℕ → ℕ → Content → State
before_index i x y c =
    record {
      registers = machine.Unset ∷ Holds x ∷ Holds y ∷ c ∷ machine.Unset ∷ machine.Unset ∷ machine.Unset ∷ machine.Unset ∷ machine.Unset
          ∷ machine.Unset ∷ Holds (2 ^ 16 + 512) ∷ [];
      stack = replicate 512 0;
      index = i;
    }

-- ---- a record whose first 8 bytes are 2 ^ 32, and one whose first 4 are -2

upper_bit : ℕ → List ℕ
upper_bit k = 0 ∷ 0 ∷ 0 ∷ 0 ∷ 1 ∷ 0 ∷ 0 ∷ 0 ∷ blank k

upper_bit_bytes : (k : ℕ) → Bytes (upper_bit k)
unfolding upper_bit
upper_bit_bytes k zero = omega arith
upper_bit_bytes k (suc zero) = omega arith
upper_bit_bytes k (suc (suc zero)) = omega arith
upper_bit_bytes k (suc (suc (suc zero))) = omega arith
upper_bit_bytes k (suc (suc (suc (suc zero)))) = omega arith
upper_bit_bytes k (suc (suc (suc (suc (suc zero))))) = omega arith
upper_bit_bytes k (suc (suc (suc (suc (suc (suc zero)))))) = omega arith
upper_bit_bytes k (suc (suc (suc (suc (suc (suc (suc zero))))))) = omega arith
upper_bit_bytes k (suc (suc (suc (suc (suc (suc (suc (suc i)))))))) = blank_bytes k i

upper_bit_size : (k : ℕ) → length (upper_bit k) ≡ 8 + k
unfolding upper_bit
upper_bit_size k = omega (arith, blank_size k)

negative : ℕ → List ℕ
negative k = 254 ∷ 255 ∷ 255 ∷ 255 ∷ blank k

negative_bytes : (k : ℕ) → Bytes (negative k)
unfolding negative
negative_bytes k zero = omega arith
negative_bytes k (suc zero) = omega arith
negative_bytes k (suc (suc zero)) = omega arith
negative_bytes k (suc (suc (suc zero))) = omega arith
negative_bytes k (suc (suc (suc (suc i)))) = blank_bytes k i

negative_size : (k : ℕ) → length (negative k) ≡ 4 + k
unfolding negative
negative_size k = omega (arith, blank_size k)

-- ---- probes that test less than they use fault with every record that they can read

low_half_faults : (k : ℕ) → 8 + k ≤ 1024
    → let w = at_2^20 (upper_bit k) in (runs (program low_half_program) w 5 0 (start w)).outcome ≡ Fault BadAccess 4 4
unfolding at_2^20 before_index upper_bit low_half_program eight program cut extend shift_signed alu moved compare read_bytes fields only lookup with_operand operations arithmetic comparisons jump loads stores_of_imm stores_of_src load store_of_imm store_of_src by_class meaning decode reads_operand reads_dst reads writes content held value operand_value put jumped bits bytes address after_load effect is_no_instruction names10 is_unset any_unset obey step next runs start
low_half_faults k small =
    let w = at_2^20 (upper_bit k) in
    let t = before_index 4 (2 ^ 32 + 2 ^ 20) (2 ^ 32) (Holds 0) in
    ap (λ l. (next (runs (program low_half_program) w 4) 0 (start w) (after_load (start w) 2 l)).outcome)
    (at_first (upper_bit k) Eight (omega (arith, upper_bit_size k)))
    ∙ ap (λ l. (next (runs (program low_half_program) w 0) 4 t (after_load t 0 l)).outcome)
    (nowhere (upper_bit k) (2 ^ 32 + 2 ^ 20 + 1) (omega (arith, upper_bit_size k)) (omega arith) (inr (omega arith)))

low_half_jump_faults : (k : ℕ) → 8 + k ≤ 1024
    → let w = at_2^20 (upper_bit k) in (runs (program low_half_jump) w 4 0 (start w)).outcome ≡ Fault BadAccess 3 3
unfolding at_2^20 before_index upper_bit low_half_jump eight program cut extend shift_signed alu moved compare read_bytes fields only lookup with_operand operations arithmetic comparisons jump loads stores_of_imm stores_of_src load store_of_imm store_of_src by_class meaning decode reads_operand reads_dst reads writes content held value operand_value put jumped bits bytes address after_load effect is_no_instruction names10 is_unset any_unset obey step next runs start
low_half_jump_faults k small =
    let w = at_2^20 (upper_bit k) in
    let t = before_index 3 (2 ^ 32 + 2 ^ 20) (2 ^ 32) machine.Unset in
    ap (λ l. (next (runs (program low_half_jump) w 3) 0 (start w) (after_load (start w) 2 l)).outcome)
    (at_first (upper_bit k) Eight (omega (arith, upper_bit_size k)))
    ∙ ap (λ l. (next (runs (program low_half_jump) w 0) 3 t (after_load t 0 l)).outcome)
    (nowhere (upper_bit k) (2 ^ 32 + 2 ^ 20 + 1) (omega (arith, upper_bit_size k)) (omega arith) (inr (omega arith)))

signed_15_faults : (k : ℕ) → 4 + k ≤ 1024
    → let w = at_2^20 (negative k) in (runs (program signed_15) w 6 0 (start w)).outcome ≡ Fault BadAccess 5 5
unfolding at_2^20 before_index negative signed_15 eight program cut extend shift_signed alu moved compare read_bytes fields only lookup with_operand operations arithmetic comparisons jump loads stores_of_imm stores_of_src load store_of_imm store_of_src by_class meaning decode reads_operand reads_dst reads writes content held value operand_value put jumped bits bytes address after_load effect is_no_instruction names10 is_unset any_unset obey step next runs start
signed_15_faults k small =
    let w = at_2^20 (negative k) in
    let t = before_index 5 (2 ^ 20 - 2) (2 ^ 64 - 2) machine.Unset in
    ap (λ l. (next (runs (program signed_15) w 5) 0 (start w) (after_load (start w) 2 l)).outcome)
    (at_first (negative k) Four (omega (arith, negative_size k)))
    ∙ ap (λ l. (next (runs (program signed_15) w 0) 5 t (after_load t 0 l)).outcome)
    (nowhere (negative k) (2 ^ 20 - 1) (omega (arith, negative_size k)) (omega arith) (inl (omega arith)))

pub low_half_not_safe : (R : ℕ) → 8 ≤ R → R ≤ 1024 → Safe (program low_half_program) R → ⊥
unfolding at_2^20 low_half_program eight program bad_program
low_half_not_safe R long small safe =
    let k = R - 8 in
    let e : length (upper_bit k) ≡ R = upper_bit_size k ∙ omega arith in
    faults_not_safe low_half_program (upper_bit k) (rw e small) refl (upper_bit_bytes k) 5 BadAccess 4 4
    (low_half_faults k (omega arith)) (rw e safe)

pub low_half_refused : (R : ℕ) → 8 ≤ R → R ≤ 1024 → (judged (program low_half_program) R).finding ≡ Accepted → ⊥
low_half_refused R long small e = low_half_not_safe R long small (accepted_safe (program low_half_program) R e)

pub low_half_jump_not_safe : (R : ℕ) → 8 ≤ R → R ≤ 1024 → Safe (program low_half_jump) R → ⊥
unfolding at_2^20 low_half_jump eight program bad_program
low_half_jump_not_safe R long small safe =
    let k = R - 8 in
    let e : length (upper_bit k) ≡ R = upper_bit_size k ∙ omega arith in
    faults_not_safe low_half_jump (upper_bit k) (rw e small) refl (upper_bit_bytes k) 4 BadAccess 3 3
    (low_half_jump_faults k (omega arith)) (rw e safe)

pub low_half_jump_refused : (R : ℕ) → 8 ≤ R → R ≤ 1024 → (judged (program low_half_jump) R).finding ≡ Accepted → ⊥
low_half_jump_refused R long small e = low_half_jump_not_safe R long small (accepted_safe (program low_half_jump) R e)

pub signed_15_not_safe : (R : ℕ) → 4 ≤ R → R ≤ 1024 → Safe (program signed_15) R → ⊥
unfolding at_2^20 signed_15 eight program bad_program
signed_15_not_safe R long small safe =
    let k = R - 4 in
    let e : length (negative k) ≡ R = negative_size k ∙ omega arith in
    faults_not_safe signed_15 (negative k) (rw e small) refl (negative_bytes k) 6 BadAccess 5 5
    (signed_15_faults k (omega arith)) (rw e safe)

pub signed_15_refused : (R : ℕ) → 4 ≤ R → R ≤ 1024 → (judged (program signed_15) R).finding ≡ Accepted → ⊥
signed_15_refused R long small e = signed_15_not_safe R long small (accepted_safe (program signed_15) R e)
