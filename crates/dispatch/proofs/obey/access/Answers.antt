-- `access`: an arm is its format's law at its opcode, and what the opcode means computes. Printed by tools/obey.
use Rattle.std.proofs.Common.{ℕ, Bool, ◌++◌, refl, rules, arith}
use Rattle.machine.specs.declared.instruction.Size.TheVariants.{One, Two, Four, Eight}
use Rattle.word.specs.Word.{cut, extend}
use Rattle.machine.specs.Instruction.{reads_dst, only, lookup, with_operand, operations, arithmetic, by_class, comparisons, jump, loads, stores_of_imm, stores_of_src, load, store_of_imm, store_of_src, meaning}
use Rattle.machine.specs.Machine.{bits, is_no_instruction}
use Rattle.machine.proofs.Opcodes.{fields_of_opcode}
use Rattle.dispatch.specs.Opcodes.{of_obey, of_calculate, of_calculate_more, of_access}
use Rattle.dispatch.proofs.Arms.{loading, storing_immediate, storing_register, no_arm}
use Rattle.dispatch.proofs.Table.{no_key, default_holds}
use Rattle.dispatch.proofs.obey.access.Goals as goal

-- the opcode alone is no instruction
undecoded : ℕ → Bool
unfolding cut extend bits reads_dst only lookup with_operand operations arithmetic by_class comparisons jump loads stores_of_imm stores_of_src load store_of_imm store_of_src meaning fields_of_opcode is_no_instruction
undecoded k = is_no_instruction (meaning (fields_of_opcode k))

pub returns-in-97 : goal.returns-in-97
unfolding only lookup loads stores_of_imm stores_of_src load store_of_imm store_of_src by_class
returns-in-97 c =
    let a = c.args in
    loading (record { rec = a.ground.rec.now; P = a.ground.p; S = a.ground.s }) a.regs.now a.at.live a.stack.now a.at.pc a.f.opcode a.f.dst a.f.src a.f.off a.f.imm a.at.kept.mask_low
    _ Four c.in-97.is refl c.load_into.ensures

pub returns-in-105 : goal.returns-in-105
unfolding only lookup loads stores_of_imm stores_of_src load store_of_imm store_of_src by_class
returns-in-105 c =
    let a = c.args in
    loading (record { rec = a.ground.rec.now; P = a.ground.p; S = a.ground.s }) a.regs.now a.at.live a.stack.now a.at.pc a.f.opcode a.f.dst a.f.src a.f.off a.f.imm a.at.kept.mask_low
    _ Two c.in-105.is refl c.load_into-in-105.ensures

pub returns-in-113 : goal.returns-in-113
unfolding only lookup loads stores_of_imm stores_of_src load store_of_imm store_of_src by_class
returns-in-113 c =
    let a = c.args in
    loading (record { rec = a.ground.rec.now; P = a.ground.p; S = a.ground.s }) a.regs.now a.at.live a.stack.now a.at.pc a.f.opcode a.f.dst a.f.src a.f.off a.f.imm a.at.kept.mask_low
    _ One c.in-113.is refl c.load_into-in-113.ensures

pub returns-in-121 : goal.returns-in-121
unfolding only lookup loads stores_of_imm stores_of_src load store_of_imm store_of_src by_class
returns-in-121 c =
    let a = c.args in
    loading (record { rec = a.ground.rec.now; P = a.ground.p; S = a.ground.s }) a.regs.now a.at.live a.stack.now a.at.pc a.f.opcode a.f.dst a.f.src a.f.off a.f.imm a.at.kept.mask_low
    _ Eight c.in-121.is refl c.load_into-in-121.ensures

pub returns-in-98 : goal.returns-in-98
unfolding only lookup loads stores_of_imm stores_of_src load store_of_imm store_of_src by_class
returns-in-98 c =
    let a = c.args in
    storing_immediate (record { rec = a.ground.rec.now; P = a.ground.p; S = a.ground.s }) a.regs.now a.at.live a.stack.now a.at.pc a.f.opcode a.f.dst a.f.src a.f.off a.f.imm a.at.kept.mask_low
    _ Four _ c.in-98.is refl c.extend-x.ensures (c.store_immediate.ensures _ _ a.regs.now (search rules))

pub returns-in-106 : goal.returns-in-106
unfolding only lookup loads stores_of_imm stores_of_src load store_of_imm store_of_src by_class
returns-in-106 c =
    let a = c.args in
    storing_immediate (record { rec = a.ground.rec.now; P = a.ground.p; S = a.ground.s }) a.regs.now a.at.live a.stack.now a.at.pc a.f.opcode a.f.dst a.f.src a.f.off a.f.imm a.at.kept.mask_low
    _ Two _ c.in-106.is refl c.extend-x.ensures (c.store_immediate-in-106.ensures _ _ a.regs.now (search rules))

pub returns-in-114 : goal.returns-in-114
unfolding only lookup loads stores_of_imm stores_of_src load store_of_imm store_of_src by_class
returns-in-114 c =
    let a = c.args in
    storing_immediate (record { rec = a.ground.rec.now; P = a.ground.p; S = a.ground.s }) a.regs.now a.at.live a.stack.now a.at.pc a.f.opcode a.f.dst a.f.src a.f.off a.f.imm a.at.kept.mask_low
    _ One _ c.in-114.is refl c.extend-x.ensures (c.store_immediate-in-114.ensures _ _ a.regs.now (search rules))

pub returns-in-122 : goal.returns-in-122
unfolding only lookup loads stores_of_imm stores_of_src load store_of_imm store_of_src by_class
returns-in-122 c =
    let a = c.args in
    storing_immediate (record { rec = a.ground.rec.now; P = a.ground.p; S = a.ground.s }) a.regs.now a.at.live a.stack.now a.at.pc a.f.opcode a.f.dst a.f.src a.f.off a.f.imm a.at.kept.mask_low
    _ Eight _ c.in-122.is refl c.extend-x.ensures (c.store_immediate-in-122.ensures _ _ a.regs.now (search rules))

pub returns-in-99 : goal.returns-in-99
unfolding only lookup loads stores_of_imm stores_of_src load store_of_imm store_of_src by_class
returns-in-99 c =
    let a = c.args in
    storing_register (record { rec = a.ground.rec.now; P = a.ground.p; S = a.ground.s }) a.regs.now a.at.live a.stack.now a.at.pc a.f.opcode a.f.dst a.f.src a.f.off a.f.imm a.at.kept.mask_low
    _ Four c.in-99.is refl (c.store_register.ensures _ _ a.regs.now (search rules))

pub returns-in-107 : goal.returns-in-107
unfolding only lookup loads stores_of_imm stores_of_src load store_of_imm store_of_src by_class
returns-in-107 c =
    let a = c.args in
    storing_register (record { rec = a.ground.rec.now; P = a.ground.p; S = a.ground.s }) a.regs.now a.at.live a.stack.now a.at.pc a.f.opcode a.f.dst a.f.src a.f.off a.f.imm a.at.kept.mask_low
    _ Two c.in-107.is refl (c.store_register-in-107.ensures _ _ a.regs.now (search rules))

pub returns-in-115 : goal.returns-in-115
unfolding only lookup loads stores_of_imm stores_of_src load store_of_imm store_of_src by_class
returns-in-115 c =
    let a = c.args in
    storing_register (record { rec = a.ground.rec.now; P = a.ground.p; S = a.ground.s }) a.regs.now a.at.live a.stack.now a.at.pc a.f.opcode a.f.dst a.f.src a.f.off a.f.imm a.at.kept.mask_low
    _ One c.in-115.is refl (c.store_register-in-115.ensures _ _ a.regs.now (search rules))

pub returns-in-123 : goal.returns-in-123
unfolding only lookup loads stores_of_imm stores_of_src load store_of_imm store_of_src by_class
returns-in-123 c =
    let a = c.args in
    storing_register (record { rec = a.ground.rec.now; P = a.ground.p; S = a.ground.s }) a.regs.now a.at.live a.stack.now a.at.pc a.f.opcode a.f.dst a.f.src a.f.off a.f.imm a.at.kept.mask_low
    _ Eight c.in-123.is refl (c.store_register-in-123.ensures _ _ a.regs.now (search rules))

pub returns-in_default : goal.returns-in_default
unfolding of_access of_calculate_more of_calculate of_obey undecoded
returns-in_default c =
    no_arm _ _ _ _ _ c.args.f.opcode c.args.f.dst c.args.f.src c.args.f.off c.args.f.imm (search rules)
    (default_holds undecoded 256 (of_access ++ of_calculate_more ++ of_calculate ++ of_obey) refl c.args.f.opcode (omega arith)
    (no_key (Unit {0}) of_access (of_calculate_more ++ of_calculate ++ of_obey) c.args.f.opcode (search rules) c.requires.others.none))
