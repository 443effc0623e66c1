-- Eight bytes and the instruction that they are: encode and decode undo one another, and what is decoded is proper.
use mathlib.Core.Path.{◌≡◌, refl, sym, ap, ap₂, ◌∙◌}
use mathlib.Core.Bool.{false}
use mathlib.Core.List.{List, [], ◌∷◌}
use Prim.Native.Nat.{ℕ, zero, suc, ◌+◌, ◌*◌, ◌/◌, ◌%◌, ◌^◌, ◌≤◌, ◌<◌}
use native.Mathlib.Omega.{arith}
use lib.ListN.{length, get_or, drop}
use lib.Seq.{drop-cons, drop-length}
use Rattle.word.specs.Word.{cut, read_bytes}
use Rattle.machine.specs.declared.instruction.Size.{Size}
use Rattle.machine.specs.declared.instruction.Size.TheVariants.{One, Two, Four, Eight}
use Rattle.machine.specs.declared.instruction.Operand.{Operand}
use Rattle.machine.specs.declared.instruction.Operand.TheVariants.{Immediate, Register}
use Rattle.machine.specs.declared.instruction.Instruction.{Instruction}
use Rattle.machine.specs.declared.instruction.Instruction.TheVariants.{Alu, Neg, Jump, Always, Exit, Load, Store, NoInstruction}
use Rattle.machine.specs.declared.instruction.Fields.{Fields}
use Rattle.machine.specs.Instruction.{fields, meaning, decode}
use Rattle.machine.specs.Machine.{is_no_instruction}
use Rattle.machine.proofs.Proper.{size_code, imm_of, unmeaning, fields_equal, Proper}
use Rattle.machine.proofs.Meaning.{unmeaning_meaning, meaning_proper}
use Rattle.machine.proofs.Unmeaning.{operation_found, comparison_found, src_of_small, is_register_small, class_small, jump_class_small, meaning_unmeaning}

-- ---- fields and their eight bytes

unfoldable pub spell : Fields → List ℕ
spell f =
    f.opcode ∷ (f.dst + 16 * f.src) ∷ f.off % 256 ∷ f.off / 256 ∷ f.imm % 256 ∷ f.imm / 256 % 256 ∷ f.imm / 256 ^ 2 % 256 ∷ f.imm / 256 ^ 3 ∷ []

unfoldable pub encode : Instruction → List ℕ
encode i = spell (unmeaning i)

-- eight bytes: each is below 256
pub record Eight-bytes (b : List ℕ) : Type 0 where
  pub size : length b ≡ 8
  pub small : (i : ℕ) → i < 8 → get_or b i 0 < 256

-- ---- eight bytes come back from their fields

-- the n entries of b from i on
abbrev entries : ℕ → ℕ → List ℕ → List ℕ
entries zero i b = []
entries (suc n) i b = get_or b i 0 ∷ entries n (suc i) b

drop_entries : (n i : ℕ) (b : List ℕ) → length b ≡ i + n → drop i b ≡ entries n i b
drop_entries zero i b e = rw (← end) (drop-length b)
  where
    end : length b ≡ i
    end = omega arith
drop_entries (suc n) i b e = drop-cons b i 0 (omega arith) ∙ ap (◌∷◌ (get_or b i 0)) (drop_entries n (suc i) b (omega arith))

cons_equal : {a c : ℕ} {k l : List ℕ} → a ≡ c → k ≡ l → a ∷ k ≡ c ∷ l
cons_equal e f = ap₂ ◌∷◌ e f

module _ (b : List ℕ) (h : Eight-bytes b) where
  off_small : (fields b 0).off < 2 ^ 16
  unfolding fields read_bytes
  off_small = omega (arith, h.small 2 (omega arith), h.small 3 (omega arith))

  imm_small : (fields b 0).imm < 2 ^ 32
  unfolding fields read_bytes
  imm_small = omega (arith, h.small 4 (omega arith), h.small 5 (omega arith), h.small 6 (omega arith), h.small 7 (omega arith))

  spell_fields : spell (fields b 0) ≡ b
  unfolding spell fields read_bytes
  spell_fields =
      let h2 = h.small 2 (omega arith) in
      let h3 = h.small 3 (omega arith) in
      let h4 = h.small 4 (omega arith) in
      let h5 = h.small 5 (omega arith) in
      let h6 = h.small 6 (omega arith) in
      let h7 = h.small 7 (omega arith) in
      cons_equal refl (cons_equal (omega arith) (cons_equal (omega arith) (cons_equal (omega arith) (cons_equal (omega arith) (cons_equal (omega arith) (cons_equal (omega arith) (cons_equal (omega arith) refl)))))))
      ∙ sym (drop_entries 8 0 b h.size)

-- ---- the fields of a proper instruction fit the bytes, and come back from them

size_code_small : (z : Size) → size_code z < 128
unfolding size_code
size_code_small One = omega arith
size_code_small Two = omega arith
size_code_small Four = omega arith
size_code_small Eight = omega arith

imm_of_small : (s : Operand) → imm_of s < 2 ^ 32
unfolding imm_of cut
imm_of_small (Immediate n) = omega arith
imm_of_small (Register r) = omega arith

record Fits (f : Fields) : Type 0 where
  opcode : f.opcode < 256
  dst : f.dst ≤ 10
  src : f.src ≤ 10
  off : f.off < 2 ^ 16
  imm : f.imm < 2 ^ 32

unmeaning_fits : (i : Instruction) → Proper i → Fits (unmeaning i)
unfolding unmeaning cut
unmeaning_fits (Alu w op d s) p =
    omega (arith, (operation_found op (λ _. NoInstruction) p.0).1, is_register_small s, class_small w, src_of_small s p.2, imm_of_small s)
unmeaning_fits (Neg w d) p = omega (arith, class_small w)
unmeaning_fits (Jump w c d s off) p =
    omega (arith, (comparison_found c (λ _. NoInstruction)).2, is_register_small s, jump_class_small w, src_of_small s p.1, imm_of_small s)
unmeaning_fits (Always off) p = omega arith
unmeaning_fits Exit p = omega arith
unmeaning_fits (Load z d s off) p = omega (arith, size_code_small z)
unmeaning_fits (Store z d off s) p = omega (arith, size_code_small z, is_register_small s, src_of_small s p.1, imm_of_small s)
unmeaning_fits NoInstruction p = absurd p

abbrev Bytes : List ℕ → Type 0
Bytes [] = Unit {0}
Bytes (x ∷ xs) = (x < 256) × Bytes xs

bytes_small : (b : List ℕ) → Bytes b → (i : ℕ) → get_or b i 0 < 256
bytes_small [] h i = omega arith
bytes_small (x ∷ xs) h zero = h.0
bytes_small (x ∷ xs) h (suc i) = bytes_small xs h.1 i

spell_eight : (f : Fields) → Fits f → Eight-bytes (spell f)
unfolding spell
spell_eight f h = record { size = refl; small = λ i _. bytes_small (spell f) (omega arith) i }

fields_spell : (f : Fields) → Fits f → fields (spell f) 0 ≡ f
unfolding fields spell read_bytes
fields_spell f h = fields_equal _ f refl (omega arith) (omega arith) (omega arith) (omega arith)

-- ---- the theorems

-- a field that an instruction doesn't use is 0: nothing of the eight bytes is lost in the instruction that they are
pub encode_decode : (b : List ℕ) → Eight-bytes b → is_no_instruction (decode b 0) ≡ false → encode (decode b 0) ≡ b
unfolding encode decode
encode_decode b h t = ap spell (unmeaning_meaning (fields b 0) t (off_small b h) (imm_small b h)) ∙ spell_fields b h

-- this holds of any bytes
pub decode_proper : (b : List ℕ) → is_no_instruction (decode b 0) ≡ false → Proper (decode b 0)
unfolding decode
decode_proper b t = meaning_proper (fields b 0) t

module _ (i : Instruction) (p : Proper i) where
  pub decode_encode : decode (encode i) 0 ≡ i
  unfolding encode decode
  decode_encode = ap meaning (fields_spell (unmeaning i) (unmeaning_fits i p)) ∙ meaning_unmeaning i p

  pub encode_eight : Eight-bytes (encode i)
  unfolding encode
  encode_eight = spell_eight (unmeaning i) (unmeaning_fits i p)
