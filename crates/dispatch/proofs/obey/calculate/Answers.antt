-- `calculate`: an arm is its format's law at its opcode, and what the opcode means computes. Printed by tools/obey.
use Rattle.std.proofs.Common.{refl, rules}
use Rattle.word.specs.declared.Operation.TheVariants.{Add, Sub, Mul, Div, Or, And}
use Rattle.machine.specs.declared.instruction.Width.TheVariants.{Long, Short}
use Rattle.machine.specs.Instruction.{reads_dst, only, lookup, with_operand, operations, arithmetic, by_class}
use Rattle.machine.specs.Machine.{bits}
use Rattle.dispatch.specs.Opcodes.{of_obey, of_calculate}
use Rattle.dispatch.proofs.Arms.{alu_immediate, alu_register}
use Rattle.dispatch.proofs.Table.{no_key}
use Rattle.dispatch.proofs.obey.calculate.Goals as goal

pub returns-in-4 : goal.returns-in-4
unfolding bits reads_dst only lookup with_operand operations arithmetic by_class
returns-in-4 c =
    let a = c.args in
    alu_immediate (record { rec = a.ground.rec.now; P = a.ground.p; S = a.ground.s }) a.regs.now a.at.live a.stack.now a.at.pc a.f.opcode a.f.dst a.f.src a.f.off a.f.imm a.at.kept.mask_low
    _ Short Add _ _ c.in-4.is refl refl c.extend-x.ensures c.add.ensures (c.put_immediate.ensures a.stack.now)

pub returns-in-7 : goal.returns-in-7
unfolding bits reads_dst only lookup with_operand operations arithmetic by_class
returns-in-7 c =
    let a = c.args in
    alu_immediate (record { rec = a.ground.rec.now; P = a.ground.p; S = a.ground.s }) a.regs.now a.at.live a.stack.now a.at.pc a.f.opcode a.f.dst a.f.src a.f.off a.f.imm a.at.kept.mask_low
    _ Long Add _ _ c.in-7.is refl refl c.extend-x.ensures c.add-in-7.ensures (c.put_immediate-in-7.ensures a.stack.now)

pub returns-in-12 : goal.returns-in-12
unfolding bits reads_dst only lookup with_operand operations arithmetic by_class
returns-in-12 c =
    let a = c.args in
    alu_register (record { rec = a.ground.rec.now; P = a.ground.p; S = a.ground.s }) a.regs.now a.at.live a.stack.now a.at.pc a.f.opcode a.f.dst a.f.src a.f.off a.f.imm a.at.kept.mask_low
    _ Short Add _ c.in-12.is refl refl c.add-in-12.ensures (c.put_register.ensures a.stack.now)

pub returns-in-15 : goal.returns-in-15
unfolding bits reads_dst only lookup with_operand operations arithmetic by_class
returns-in-15 c =
    let a = c.args in
    alu_register (record { rec = a.ground.rec.now; P = a.ground.p; S = a.ground.s }) a.regs.now a.at.live a.stack.now a.at.pc a.f.opcode a.f.dst a.f.src a.f.off a.f.imm a.at.kept.mask_low
    _ Long Add _ c.in-15.is refl refl c.add-in-15.ensures (c.put_register-in-15.ensures a.stack.now)

pub returns-in-20 : goal.returns-in-20
unfolding bits reads_dst only lookup with_operand operations arithmetic by_class
returns-in-20 c =
    let a = c.args in
    alu_immediate (record { rec = a.ground.rec.now; P = a.ground.p; S = a.ground.s }) a.regs.now a.at.live a.stack.now a.at.pc a.f.opcode a.f.dst a.f.src a.f.off a.f.imm a.at.kept.mask_low
    _ Short Sub _ _ c.in-20.is refl refl c.extend-x.ensures c.sub.ensures (c.put_immediate-in-20.ensures a.stack.now)

pub returns-in-23 : goal.returns-in-23
unfolding bits reads_dst only lookup with_operand operations arithmetic by_class
returns-in-23 c =
    let a = c.args in
    alu_immediate (record { rec = a.ground.rec.now; P = a.ground.p; S = a.ground.s }) a.regs.now a.at.live a.stack.now a.at.pc a.f.opcode a.f.dst a.f.src a.f.off a.f.imm a.at.kept.mask_low
    _ Long Sub _ _ c.in-23.is refl refl c.extend-x.ensures c.sub-in-23.ensures (c.put_immediate-in-23.ensures a.stack.now)

pub returns-in-28 : goal.returns-in-28
unfolding bits reads_dst only lookup with_operand operations arithmetic by_class
returns-in-28 c =
    let a = c.args in
    alu_register (record { rec = a.ground.rec.now; P = a.ground.p; S = a.ground.s }) a.regs.now a.at.live a.stack.now a.at.pc a.f.opcode a.f.dst a.f.src a.f.off a.f.imm a.at.kept.mask_low
    _ Short Sub _ c.in-28.is refl refl c.sub-in-28.ensures (c.put_register-in-28.ensures a.stack.now)

pub returns-in-31 : goal.returns-in-31
unfolding bits reads_dst only lookup with_operand operations arithmetic by_class
returns-in-31 c =
    let a = c.args in
    alu_register (record { rec = a.ground.rec.now; P = a.ground.p; S = a.ground.s }) a.regs.now a.at.live a.stack.now a.at.pc a.f.opcode a.f.dst a.f.src a.f.off a.f.imm a.at.kept.mask_low
    _ Long Sub _ c.in-31.is refl refl c.sub-in-31.ensures (c.put_register-in-31.ensures a.stack.now)

pub returns-in-36 : goal.returns-in-36
unfolding bits reads_dst only lookup with_operand operations arithmetic by_class
returns-in-36 c =
    let a = c.args in
    alu_immediate (record { rec = a.ground.rec.now; P = a.ground.p; S = a.ground.s }) a.regs.now a.at.live a.stack.now a.at.pc a.f.opcode a.f.dst a.f.src a.f.off a.f.imm a.at.kept.mask_low
    _ Short Mul _ _ c.in-36.is refl refl c.extend-x.ensures c.mul.ensures (c.put_immediate-in-36.ensures a.stack.now)

pub returns-in-39 : goal.returns-in-39
unfolding bits reads_dst only lookup with_operand operations arithmetic by_class
returns-in-39 c =
    let a = c.args in
    alu_immediate (record { rec = a.ground.rec.now; P = a.ground.p; S = a.ground.s }) a.regs.now a.at.live a.stack.now a.at.pc a.f.opcode a.f.dst a.f.src a.f.off a.f.imm a.at.kept.mask_low
    _ Long Mul _ _ c.in-39.is refl refl c.extend-x.ensures c.mul-in-39.ensures (c.put_immediate-in-39.ensures a.stack.now)

pub returns-in-44 : goal.returns-in-44
unfolding bits reads_dst only lookup with_operand operations arithmetic by_class
returns-in-44 c =
    let a = c.args in
    alu_register (record { rec = a.ground.rec.now; P = a.ground.p; S = a.ground.s }) a.regs.now a.at.live a.stack.now a.at.pc a.f.opcode a.f.dst a.f.src a.f.off a.f.imm a.at.kept.mask_low
    _ Short Mul _ c.in-44.is refl refl c.mul-in-44.ensures (c.put_register-in-44.ensures a.stack.now)

pub returns-in-47 : goal.returns-in-47
unfolding bits reads_dst only lookup with_operand operations arithmetic by_class
returns-in-47 c =
    let a = c.args in
    alu_register (record { rec = a.ground.rec.now; P = a.ground.p; S = a.ground.s }) a.regs.now a.at.live a.stack.now a.at.pc a.f.opcode a.f.dst a.f.src a.f.off a.f.imm a.at.kept.mask_low
    _ Long Mul _ c.in-47.is refl refl c.mul-in-47.ensures (c.put_register-in-47.ensures a.stack.now)

pub returns-in-52 : goal.returns-in-52
unfolding bits reads_dst only lookup with_operand operations arithmetic by_class
returns-in-52 c =
    let a = c.args in
    alu_immediate (record { rec = a.ground.rec.now; P = a.ground.p; S = a.ground.s }) a.regs.now a.at.live a.stack.now a.at.pc a.f.opcode a.f.dst a.f.src a.f.off a.f.imm a.at.kept.mask_low
    _ Short Div _ _ c.in-52.is refl refl c.extend-x.ensures c.div.ensures (c.put_immediate-in-52.ensures a.stack.now)

pub returns-in-55 : goal.returns-in-55
unfolding bits reads_dst only lookup with_operand operations arithmetic by_class
returns-in-55 c =
    let a = c.args in
    alu_immediate (record { rec = a.ground.rec.now; P = a.ground.p; S = a.ground.s }) a.regs.now a.at.live a.stack.now a.at.pc a.f.opcode a.f.dst a.f.src a.f.off a.f.imm a.at.kept.mask_low
    _ Long Div _ _ c.in-55.is refl refl c.extend-x.ensures c.div-in-55.ensures (c.put_immediate-in-55.ensures a.stack.now)

pub returns-in-60 : goal.returns-in-60
unfolding bits reads_dst only lookup with_operand operations arithmetic by_class
returns-in-60 c =
    let a = c.args in
    alu_register (record { rec = a.ground.rec.now; P = a.ground.p; S = a.ground.s }) a.regs.now a.at.live a.stack.now a.at.pc a.f.opcode a.f.dst a.f.src a.f.off a.f.imm a.at.kept.mask_low
    _ Short Div _ c.in-60.is refl refl c.div-in-60.ensures (c.put_register-in-60.ensures a.stack.now)

pub returns-in-63 : goal.returns-in-63
unfolding bits reads_dst only lookup with_operand operations arithmetic by_class
returns-in-63 c =
    let a = c.args in
    alu_register (record { rec = a.ground.rec.now; P = a.ground.p; S = a.ground.s }) a.regs.now a.at.live a.stack.now a.at.pc a.f.opcode a.f.dst a.f.src a.f.off a.f.imm a.at.kept.mask_low
    _ Long Div _ c.in-63.is refl refl c.div-in-63.ensures (c.put_register-in-63.ensures a.stack.now)

pub returns-in-68 : goal.returns-in-68
unfolding bits reads_dst only lookup with_operand operations arithmetic by_class
returns-in-68 c =
    let a = c.args in
    alu_immediate (record { rec = a.ground.rec.now; P = a.ground.p; S = a.ground.s }) a.regs.now a.at.live a.stack.now a.at.pc a.f.opcode a.f.dst a.f.src a.f.off a.f.imm a.at.kept.mask_low
    _ Short Or _ _ c.in-68.is refl refl c.extend-x.ensures c.or.ensures (c.put_immediate-in-68.ensures a.stack.now)

pub returns-in-71 : goal.returns-in-71
unfolding bits reads_dst only lookup with_operand operations arithmetic by_class
returns-in-71 c =
    let a = c.args in
    alu_immediate (record { rec = a.ground.rec.now; P = a.ground.p; S = a.ground.s }) a.regs.now a.at.live a.stack.now a.at.pc a.f.opcode a.f.dst a.f.src a.f.off a.f.imm a.at.kept.mask_low
    _ Long Or _ _ c.in-71.is refl refl c.extend-x.ensures c.or-in-71.ensures (c.put_immediate-in-71.ensures a.stack.now)

pub returns-in-76 : goal.returns-in-76
unfolding bits reads_dst only lookup with_operand operations arithmetic by_class
returns-in-76 c =
    let a = c.args in
    alu_register (record { rec = a.ground.rec.now; P = a.ground.p; S = a.ground.s }) a.regs.now a.at.live a.stack.now a.at.pc a.f.opcode a.f.dst a.f.src a.f.off a.f.imm a.at.kept.mask_low
    _ Short Or _ c.in-76.is refl refl c.or-in-76.ensures (c.put_register-in-76.ensures a.stack.now)

pub returns-in-79 : goal.returns-in-79
unfolding bits reads_dst only lookup with_operand operations arithmetic by_class
returns-in-79 c =
    let a = c.args in
    alu_register (record { rec = a.ground.rec.now; P = a.ground.p; S = a.ground.s }) a.regs.now a.at.live a.stack.now a.at.pc a.f.opcode a.f.dst a.f.src a.f.off a.f.imm a.at.kept.mask_low
    _ Long Or _ c.in-79.is refl refl c.or-in-79.ensures (c.put_register-in-79.ensures a.stack.now)

pub returns-in-84 : goal.returns-in-84
unfolding bits reads_dst only lookup with_operand operations arithmetic by_class
returns-in-84 c =
    let a = c.args in
    alu_immediate (record { rec = a.ground.rec.now; P = a.ground.p; S = a.ground.s }) a.regs.now a.at.live a.stack.now a.at.pc a.f.opcode a.f.dst a.f.src a.f.off a.f.imm a.at.kept.mask_low
    _ Short And _ _ c.in-84.is refl refl c.extend-x.ensures c.and.ensures (c.put_immediate-in-84.ensures a.stack.now)

pub returns-in-87 : goal.returns-in-87
unfolding bits reads_dst only lookup with_operand operations arithmetic by_class
returns-in-87 c =
    let a = c.args in
    alu_immediate (record { rec = a.ground.rec.now; P = a.ground.p; S = a.ground.s }) a.regs.now a.at.live a.stack.now a.at.pc a.f.opcode a.f.dst a.f.src a.f.off a.f.imm a.at.kept.mask_low
    _ Long And _ _ c.in-87.is refl refl c.extend-x.ensures c.and-in-87.ensures (c.put_immediate-in-87.ensures a.stack.now)

pub returns-in-92 : goal.returns-in-92
unfolding bits reads_dst only lookup with_operand operations arithmetic by_class
returns-in-92 c =
    let a = c.args in
    alu_register (record { rec = a.ground.rec.now; P = a.ground.p; S = a.ground.s }) a.regs.now a.at.live a.stack.now a.at.pc a.f.opcode a.f.dst a.f.src a.f.off a.f.imm a.at.kept.mask_low
    _ Short And _ c.in-92.is refl refl c.and-in-92.ensures (c.put_register-in-92.ensures a.stack.now)

pub returns-in-95 : goal.returns-in-95
unfolding bits reads_dst only lookup with_operand operations arithmetic by_class
returns-in-95 c =
    let a = c.args in
    alu_register (record { rec = a.ground.rec.now; P = a.ground.p; S = a.ground.s }) a.regs.now a.at.live a.stack.now a.at.pc a.f.opcode a.f.dst a.f.src a.f.off a.f.imm a.at.kept.mask_low
    _ Long And _ c.in-95.is refl refl c.and-in-95.ensures (c.put_register-in-95.ensures a.stack.now)

pub calculate_more-requires-clause-others : goal.calculate_more-requires-clause-others
unfolding of_calculate
calculate_more-requires-clause-others c =
    record { none = no_key (Unit {0}) of_calculate (of_obey) c.args.f.opcode (search rules) c.requires.others.none }
