-- `obey`: an arm is its format's law at its opcode, and what the opcode means computes. Printed by tools/obey.
use Rattle.std.proofs.Common.{[], refl, rules}
use Rattle.word.specs.declared.Comparison.TheVariants.{Eq, Gt, Ge, Set, Ne, Sgt, Sge, Lt, Le, Slt, Sle}
use Rattle.machine.specs.declared.instruction.Width.TheVariants.{Long, Short}
use Rattle.machine.specs.Instruction.{only, lookup, with_operand, by_class, comparisons, jump}
use Rattle.machine.specs.Machine.{bits}
use Rattle.dispatch.specs.Opcodes.{of_obey}
use Rattle.dispatch.proofs.Arms.{always, ending, jump_immediate, jump_register}
use Rattle.dispatch.proofs.Table.{no_key}
use Rattle.dispatch.proofs.obey.obey.Goals as goal

pub returns-in-5 : goal.returns-in-5
unfolding bits only lookup with_operand comparisons jump by_class
returns-in-5 c =
    let a = c.args in
    always (record { rec = a.ground.rec.now; P = a.ground.p; S = a.ground.s }) a.regs.now a.at.live a.stack.now a.at.pc a.f.opcode a.f.dst a.f.src a.f.off a.f.imm a.at.kept.mask_low
    _ c.in-5.is refl (c.jump_always.ensures a.regs.now a.stack.now (search rules))

pub returns-in-149 : goal.returns-in-149
unfolding bits only lookup with_operand comparisons jump by_class
returns-in-149 c =
    let a = c.args in
    ending (record { rec = a.ground.rec.now; P = a.ground.p; S = a.ground.s }) a.regs.now a.at.live a.stack.now a.at.pc a.f.opcode a.f.dst a.f.src a.f.off a.f.imm a.at.kept.mask_low
    _ c.in-149.is refl (c.exit.ensures _ a.regs.now a.stack.now (search rules))

pub returns-in-21 : goal.returns-in-21
unfolding bits only lookup with_operand comparisons jump by_class
returns-in-21 c =
    let a = c.args in
    jump_immediate (record { rec = a.ground.rec.now; P = a.ground.p; S = a.ground.s }) a.regs.now a.at.live a.stack.now a.at.pc a.f.opcode a.f.dst a.f.src a.f.off a.f.imm a.at.kept.mask_low
    _ Long Eq _ _ c.in-21.is refl c.extend-x.ensures c.eq.ensures (c.jump_immediate.ensures a.regs.now a.stack.now (search rules))

pub returns-in-22 : goal.returns-in-22
unfolding bits only lookup with_operand comparisons jump by_class
returns-in-22 c =
    let a = c.args in
    jump_immediate (record { rec = a.ground.rec.now; P = a.ground.p; S = a.ground.s }) a.regs.now a.at.live a.stack.now a.at.pc a.f.opcode a.f.dst a.f.src a.f.off a.f.imm a.at.kept.mask_low
    _ Short Eq _ _ c.in-22.is refl c.extend-x.ensures c.eq-in-22.ensures (c.jump_immediate-in-22.ensures a.regs.now a.stack.now (search rules))

pub returns-in-29 : goal.returns-in-29
unfolding bits only lookup with_operand comparisons jump by_class
returns-in-29 c =
    let a = c.args in
    jump_register (record { rec = a.ground.rec.now; P = a.ground.p; S = a.ground.s }) a.regs.now a.at.live a.stack.now a.at.pc a.f.opcode a.f.dst a.f.src a.f.off a.f.imm a.at.kept.mask_low
    _ Long Eq _ c.in-29.is refl c.eq-in-29.ensures (c.jump_register.ensures a.regs.now a.stack.now (search rules))

pub returns-in-30 : goal.returns-in-30
unfolding bits only lookup with_operand comparisons jump by_class
returns-in-30 c =
    let a = c.args in
    jump_register (record { rec = a.ground.rec.now; P = a.ground.p; S = a.ground.s }) a.regs.now a.at.live a.stack.now a.at.pc a.f.opcode a.f.dst a.f.src a.f.off a.f.imm a.at.kept.mask_low
    _ Short Eq _ c.in-30.is refl c.eq-in-30.ensures (c.jump_register-in-30.ensures a.regs.now a.stack.now (search rules))

pub returns-in-37 : goal.returns-in-37
unfolding bits only lookup with_operand comparisons jump by_class
returns-in-37 c =
    let a = c.args in
    jump_immediate (record { rec = a.ground.rec.now; P = a.ground.p; S = a.ground.s }) a.regs.now a.at.live a.stack.now a.at.pc a.f.opcode a.f.dst a.f.src a.f.off a.f.imm a.at.kept.mask_low
    _ Long Gt _ _ c.in-37.is refl c.extend-x.ensures c.gt.ensures (c.jump_immediate-in-37.ensures a.regs.now a.stack.now (search rules))

pub returns-in-38 : goal.returns-in-38
unfolding bits only lookup with_operand comparisons jump by_class
returns-in-38 c =
    let a = c.args in
    jump_immediate (record { rec = a.ground.rec.now; P = a.ground.p; S = a.ground.s }) a.regs.now a.at.live a.stack.now a.at.pc a.f.opcode a.f.dst a.f.src a.f.off a.f.imm a.at.kept.mask_low
    _ Short Gt _ _ c.in-38.is refl c.extend-x.ensures c.gt-in-38.ensures (c.jump_immediate-in-38.ensures a.regs.now a.stack.now (search rules))

pub returns-in-45 : goal.returns-in-45
unfolding bits only lookup with_operand comparisons jump by_class
returns-in-45 c =
    let a = c.args in
    jump_register (record { rec = a.ground.rec.now; P = a.ground.p; S = a.ground.s }) a.regs.now a.at.live a.stack.now a.at.pc a.f.opcode a.f.dst a.f.src a.f.off a.f.imm a.at.kept.mask_low
    _ Long Gt _ c.in-45.is refl c.gt-in-45.ensures (c.jump_register-in-45.ensures a.regs.now a.stack.now (search rules))

pub returns-in-46 : goal.returns-in-46
unfolding bits only lookup with_operand comparisons jump by_class
returns-in-46 c =
    let a = c.args in
    jump_register (record { rec = a.ground.rec.now; P = a.ground.p; S = a.ground.s }) a.regs.now a.at.live a.stack.now a.at.pc a.f.opcode a.f.dst a.f.src a.f.off a.f.imm a.at.kept.mask_low
    _ Short Gt _ c.in-46.is refl c.gt-in-46.ensures (c.jump_register-in-46.ensures a.regs.now a.stack.now (search rules))

pub returns-in-53 : goal.returns-in-53
unfolding bits only lookup with_operand comparisons jump by_class
returns-in-53 c =
    let a = c.args in
    jump_immediate (record { rec = a.ground.rec.now; P = a.ground.p; S = a.ground.s }) a.regs.now a.at.live a.stack.now a.at.pc a.f.opcode a.f.dst a.f.src a.f.off a.f.imm a.at.kept.mask_low
    _ Long Ge _ _ c.in-53.is refl c.extend-x.ensures c.ge.ensures (c.jump_immediate-in-53.ensures a.regs.now a.stack.now (search rules))

pub returns-in-54 : goal.returns-in-54
unfolding bits only lookup with_operand comparisons jump by_class
returns-in-54 c =
    let a = c.args in
    jump_immediate (record { rec = a.ground.rec.now; P = a.ground.p; S = a.ground.s }) a.regs.now a.at.live a.stack.now a.at.pc a.f.opcode a.f.dst a.f.src a.f.off a.f.imm a.at.kept.mask_low
    _ Short Ge _ _ c.in-54.is refl c.extend-x.ensures c.ge-in-54.ensures (c.jump_immediate-in-54.ensures a.regs.now a.stack.now (search rules))

pub returns-in-61 : goal.returns-in-61
unfolding bits only lookup with_operand comparisons jump by_class
returns-in-61 c =
    let a = c.args in
    jump_register (record { rec = a.ground.rec.now; P = a.ground.p; S = a.ground.s }) a.regs.now a.at.live a.stack.now a.at.pc a.f.opcode a.f.dst a.f.src a.f.off a.f.imm a.at.kept.mask_low
    _ Long Ge _ c.in-61.is refl c.ge-in-61.ensures (c.jump_register-in-61.ensures a.regs.now a.stack.now (search rules))

pub returns-in-62 : goal.returns-in-62
unfolding bits only lookup with_operand comparisons jump by_class
returns-in-62 c =
    let a = c.args in
    jump_register (record { rec = a.ground.rec.now; P = a.ground.p; S = a.ground.s }) a.regs.now a.at.live a.stack.now a.at.pc a.f.opcode a.f.dst a.f.src a.f.off a.f.imm a.at.kept.mask_low
    _ Short Ge _ c.in-62.is refl c.ge-in-62.ensures (c.jump_register-in-62.ensures a.regs.now a.stack.now (search rules))

pub returns-in-69 : goal.returns-in-69
unfolding bits only lookup with_operand comparisons jump by_class
returns-in-69 c =
    let a = c.args in
    jump_immediate (record { rec = a.ground.rec.now; P = a.ground.p; S = a.ground.s }) a.regs.now a.at.live a.stack.now a.at.pc a.f.opcode a.f.dst a.f.src a.f.off a.f.imm a.at.kept.mask_low
    _ Long Set _ _ c.in-69.is refl c.extend-x.ensures c.set.ensures (c.jump_immediate-in-69.ensures a.regs.now a.stack.now (search rules))

pub returns-in-70 : goal.returns-in-70
unfolding bits only lookup with_operand comparisons jump by_class
returns-in-70 c =
    let a = c.args in
    jump_immediate (record { rec = a.ground.rec.now; P = a.ground.p; S = a.ground.s }) a.regs.now a.at.live a.stack.now a.at.pc a.f.opcode a.f.dst a.f.src a.f.off a.f.imm a.at.kept.mask_low
    _ Short Set _ _ c.in-70.is refl c.extend-x.ensures c.set-in-70.ensures (c.jump_immediate-in-70.ensures a.regs.now a.stack.now (search rules))

pub returns-in-77 : goal.returns-in-77
unfolding bits only lookup with_operand comparisons jump by_class
returns-in-77 c =
    let a = c.args in
    jump_register (record { rec = a.ground.rec.now; P = a.ground.p; S = a.ground.s }) a.regs.now a.at.live a.stack.now a.at.pc a.f.opcode a.f.dst a.f.src a.f.off a.f.imm a.at.kept.mask_low
    _ Long Set _ c.in-77.is refl c.set-in-77.ensures (c.jump_register-in-77.ensures a.regs.now a.stack.now (search rules))

pub returns-in-78 : goal.returns-in-78
unfolding bits only lookup with_operand comparisons jump by_class
returns-in-78 c =
    let a = c.args in
    jump_register (record { rec = a.ground.rec.now; P = a.ground.p; S = a.ground.s }) a.regs.now a.at.live a.stack.now a.at.pc a.f.opcode a.f.dst a.f.src a.f.off a.f.imm a.at.kept.mask_low
    _ Short Set _ c.in-78.is refl c.set-in-78.ensures (c.jump_register-in-78.ensures a.regs.now a.stack.now (search rules))

pub returns-in-85 : goal.returns-in-85
unfolding bits only lookup with_operand comparisons jump by_class
returns-in-85 c =
    let a = c.args in
    jump_immediate (record { rec = a.ground.rec.now; P = a.ground.p; S = a.ground.s }) a.regs.now a.at.live a.stack.now a.at.pc a.f.opcode a.f.dst a.f.src a.f.off a.f.imm a.at.kept.mask_low
    _ Long Ne _ _ c.in-85.is refl c.extend-x.ensures c.ne.ensures (c.jump_immediate-in-85.ensures a.regs.now a.stack.now (search rules))

pub returns-in-86 : goal.returns-in-86
unfolding bits only lookup with_operand comparisons jump by_class
returns-in-86 c =
    let a = c.args in
    jump_immediate (record { rec = a.ground.rec.now; P = a.ground.p; S = a.ground.s }) a.regs.now a.at.live a.stack.now a.at.pc a.f.opcode a.f.dst a.f.src a.f.off a.f.imm a.at.kept.mask_low
    _ Short Ne _ _ c.in-86.is refl c.extend-x.ensures c.ne-in-86.ensures (c.jump_immediate-in-86.ensures a.regs.now a.stack.now (search rules))

pub returns-in-93 : goal.returns-in-93
unfolding bits only lookup with_operand comparisons jump by_class
returns-in-93 c =
    let a = c.args in
    jump_register (record { rec = a.ground.rec.now; P = a.ground.p; S = a.ground.s }) a.regs.now a.at.live a.stack.now a.at.pc a.f.opcode a.f.dst a.f.src a.f.off a.f.imm a.at.kept.mask_low
    _ Long Ne _ c.in-93.is refl c.ne-in-93.ensures (c.jump_register-in-93.ensures a.regs.now a.stack.now (search rules))

pub returns-in-94 : goal.returns-in-94
unfolding bits only lookup with_operand comparisons jump by_class
returns-in-94 c =
    let a = c.args in
    jump_register (record { rec = a.ground.rec.now; P = a.ground.p; S = a.ground.s }) a.regs.now a.at.live a.stack.now a.at.pc a.f.opcode a.f.dst a.f.src a.f.off a.f.imm a.at.kept.mask_low
    _ Short Ne _ c.in-94.is refl c.ne-in-94.ensures (c.jump_register-in-94.ensures a.regs.now a.stack.now (search rules))

pub returns-in-101 : goal.returns-in-101
unfolding bits only lookup with_operand comparisons jump by_class
returns-in-101 c =
    let a = c.args in
    jump_immediate (record { rec = a.ground.rec.now; P = a.ground.p; S = a.ground.s }) a.regs.now a.at.live a.stack.now a.at.pc a.f.opcode a.f.dst a.f.src a.f.off a.f.imm a.at.kept.mask_low
    _ Long Sgt _ _ c.in-101.is refl c.extend-x.ensures c.sgt.ensures (c.jump_immediate-in-101.ensures a.regs.now a.stack.now (search rules))

pub returns-in-102 : goal.returns-in-102
unfolding bits only lookup with_operand comparisons jump by_class
returns-in-102 c =
    let a = c.args in
    jump_immediate (record { rec = a.ground.rec.now; P = a.ground.p; S = a.ground.s }) a.regs.now a.at.live a.stack.now a.at.pc a.f.opcode a.f.dst a.f.src a.f.off a.f.imm a.at.kept.mask_low
    _ Short Sgt _ _ c.in-102.is refl c.extend-x.ensures c.sgt-in-102.ensures (c.jump_immediate-in-102.ensures a.regs.now a.stack.now (search rules))

pub returns-in-109 : goal.returns-in-109
unfolding bits only lookup with_operand comparisons jump by_class
returns-in-109 c =
    let a = c.args in
    jump_register (record { rec = a.ground.rec.now; P = a.ground.p; S = a.ground.s }) a.regs.now a.at.live a.stack.now a.at.pc a.f.opcode a.f.dst a.f.src a.f.off a.f.imm a.at.kept.mask_low
    _ Long Sgt _ c.in-109.is refl c.sgt-in-109.ensures (c.jump_register-in-109.ensures a.regs.now a.stack.now (search rules))

pub returns-in-110 : goal.returns-in-110
unfolding bits only lookup with_operand comparisons jump by_class
returns-in-110 c =
    let a = c.args in
    jump_register (record { rec = a.ground.rec.now; P = a.ground.p; S = a.ground.s }) a.regs.now a.at.live a.stack.now a.at.pc a.f.opcode a.f.dst a.f.src a.f.off a.f.imm a.at.kept.mask_low
    _ Short Sgt _ c.in-110.is refl c.sgt-in-110.ensures (c.jump_register-in-110.ensures a.regs.now a.stack.now (search rules))

pub returns-in-117 : goal.returns-in-117
unfolding bits only lookup with_operand comparisons jump by_class
returns-in-117 c =
    let a = c.args in
    jump_immediate (record { rec = a.ground.rec.now; P = a.ground.p; S = a.ground.s }) a.regs.now a.at.live a.stack.now a.at.pc a.f.opcode a.f.dst a.f.src a.f.off a.f.imm a.at.kept.mask_low
    _ Long Sge _ _ c.in-117.is refl c.extend-x.ensures c.sge.ensures (c.jump_immediate-in-117.ensures a.regs.now a.stack.now (search rules))

pub returns-in-118 : goal.returns-in-118
unfolding bits only lookup with_operand comparisons jump by_class
returns-in-118 c =
    let a = c.args in
    jump_immediate (record { rec = a.ground.rec.now; P = a.ground.p; S = a.ground.s }) a.regs.now a.at.live a.stack.now a.at.pc a.f.opcode a.f.dst a.f.src a.f.off a.f.imm a.at.kept.mask_low
    _ Short Sge _ _ c.in-118.is refl c.extend-x.ensures c.sge-in-118.ensures (c.jump_immediate-in-118.ensures a.regs.now a.stack.now (search rules))

pub returns-in-125 : goal.returns-in-125
unfolding bits only lookup with_operand comparisons jump by_class
returns-in-125 c =
    let a = c.args in
    jump_register (record { rec = a.ground.rec.now; P = a.ground.p; S = a.ground.s }) a.regs.now a.at.live a.stack.now a.at.pc a.f.opcode a.f.dst a.f.src a.f.off a.f.imm a.at.kept.mask_low
    _ Long Sge _ c.in-125.is refl c.sge-in-125.ensures (c.jump_register-in-125.ensures a.regs.now a.stack.now (search rules))

pub returns-in-126 : goal.returns-in-126
unfolding bits only lookup with_operand comparisons jump by_class
returns-in-126 c =
    let a = c.args in
    jump_register (record { rec = a.ground.rec.now; P = a.ground.p; S = a.ground.s }) a.regs.now a.at.live a.stack.now a.at.pc a.f.opcode a.f.dst a.f.src a.f.off a.f.imm a.at.kept.mask_low
    _ Short Sge _ c.in-126.is refl c.sge-in-126.ensures (c.jump_register-in-126.ensures a.regs.now a.stack.now (search rules))

pub returns-in-165 : goal.returns-in-165
unfolding bits only lookup with_operand comparisons jump by_class
returns-in-165 c =
    let a = c.args in
    jump_immediate (record { rec = a.ground.rec.now; P = a.ground.p; S = a.ground.s }) a.regs.now a.at.live a.stack.now a.at.pc a.f.opcode a.f.dst a.f.src a.f.off a.f.imm a.at.kept.mask_low
    _ Long Lt _ _ c.in-165.is refl c.extend-x.ensures c.lt.ensures (c.jump_immediate-in-165.ensures a.regs.now a.stack.now (search rules))

pub returns-in-166 : goal.returns-in-166
unfolding bits only lookup with_operand comparisons jump by_class
returns-in-166 c =
    let a = c.args in
    jump_immediate (record { rec = a.ground.rec.now; P = a.ground.p; S = a.ground.s }) a.regs.now a.at.live a.stack.now a.at.pc a.f.opcode a.f.dst a.f.src a.f.off a.f.imm a.at.kept.mask_low
    _ Short Lt _ _ c.in-166.is refl c.extend-x.ensures c.lt-in-166.ensures (c.jump_immediate-in-166.ensures a.regs.now a.stack.now (search rules))

pub returns-in-173 : goal.returns-in-173
unfolding bits only lookup with_operand comparisons jump by_class
returns-in-173 c =
    let a = c.args in
    jump_register (record { rec = a.ground.rec.now; P = a.ground.p; S = a.ground.s }) a.regs.now a.at.live a.stack.now a.at.pc a.f.opcode a.f.dst a.f.src a.f.off a.f.imm a.at.kept.mask_low
    _ Long Lt _ c.in-173.is refl c.lt-in-173.ensures (c.jump_register-in-173.ensures a.regs.now a.stack.now (search rules))

pub returns-in-174 : goal.returns-in-174
unfolding bits only lookup with_operand comparisons jump by_class
returns-in-174 c =
    let a = c.args in
    jump_register (record { rec = a.ground.rec.now; P = a.ground.p; S = a.ground.s }) a.regs.now a.at.live a.stack.now a.at.pc a.f.opcode a.f.dst a.f.src a.f.off a.f.imm a.at.kept.mask_low
    _ Short Lt _ c.in-174.is refl c.lt-in-174.ensures (c.jump_register-in-174.ensures a.regs.now a.stack.now (search rules))

pub returns-in-181 : goal.returns-in-181
unfolding bits only lookup with_operand comparisons jump by_class
returns-in-181 c =
    let a = c.args in
    jump_immediate (record { rec = a.ground.rec.now; P = a.ground.p; S = a.ground.s }) a.regs.now a.at.live a.stack.now a.at.pc a.f.opcode a.f.dst a.f.src a.f.off a.f.imm a.at.kept.mask_low
    _ Long Le _ _ c.in-181.is refl c.extend-x.ensures c.le.ensures (c.jump_immediate-in-181.ensures a.regs.now a.stack.now (search rules))

pub returns-in-182 : goal.returns-in-182
unfolding bits only lookup with_operand comparisons jump by_class
returns-in-182 c =
    let a = c.args in
    jump_immediate (record { rec = a.ground.rec.now; P = a.ground.p; S = a.ground.s }) a.regs.now a.at.live a.stack.now a.at.pc a.f.opcode a.f.dst a.f.src a.f.off a.f.imm a.at.kept.mask_low
    _ Short Le _ _ c.in-182.is refl c.extend-x.ensures c.le-in-182.ensures (c.jump_immediate-in-182.ensures a.regs.now a.stack.now (search rules))

pub returns-in-189 : goal.returns-in-189
unfolding bits only lookup with_operand comparisons jump by_class
returns-in-189 c =
    let a = c.args in
    jump_register (record { rec = a.ground.rec.now; P = a.ground.p; S = a.ground.s }) a.regs.now a.at.live a.stack.now a.at.pc a.f.opcode a.f.dst a.f.src a.f.off a.f.imm a.at.kept.mask_low
    _ Long Le _ c.in-189.is refl c.le-in-189.ensures (c.jump_register-in-189.ensures a.regs.now a.stack.now (search rules))

pub returns-in-190 : goal.returns-in-190
unfolding bits only lookup with_operand comparisons jump by_class
returns-in-190 c =
    let a = c.args in
    jump_register (record { rec = a.ground.rec.now; P = a.ground.p; S = a.ground.s }) a.regs.now a.at.live a.stack.now a.at.pc a.f.opcode a.f.dst a.f.src a.f.off a.f.imm a.at.kept.mask_low
    _ Short Le _ c.in-190.is refl c.le-in-190.ensures (c.jump_register-in-190.ensures a.regs.now a.stack.now (search rules))

pub returns-in-197 : goal.returns-in-197
unfolding bits only lookup with_operand comparisons jump by_class
returns-in-197 c =
    let a = c.args in
    jump_immediate (record { rec = a.ground.rec.now; P = a.ground.p; S = a.ground.s }) a.regs.now a.at.live a.stack.now a.at.pc a.f.opcode a.f.dst a.f.src a.f.off a.f.imm a.at.kept.mask_low
    _ Long Slt _ _ c.in-197.is refl c.extend-x.ensures c.slt.ensures (c.jump_immediate-in-197.ensures a.regs.now a.stack.now (search rules))

pub returns-in-198 : goal.returns-in-198
unfolding bits only lookup with_operand comparisons jump by_class
returns-in-198 c =
    let a = c.args in
    jump_immediate (record { rec = a.ground.rec.now; P = a.ground.p; S = a.ground.s }) a.regs.now a.at.live a.stack.now a.at.pc a.f.opcode a.f.dst a.f.src a.f.off a.f.imm a.at.kept.mask_low
    _ Short Slt _ _ c.in-198.is refl c.extend-x.ensures c.slt-in-198.ensures (c.jump_immediate-in-198.ensures a.regs.now a.stack.now (search rules))

pub returns-in-205 : goal.returns-in-205
unfolding bits only lookup with_operand comparisons jump by_class
returns-in-205 c =
    let a = c.args in
    jump_register (record { rec = a.ground.rec.now; P = a.ground.p; S = a.ground.s }) a.regs.now a.at.live a.stack.now a.at.pc a.f.opcode a.f.dst a.f.src a.f.off a.f.imm a.at.kept.mask_low
    _ Long Slt _ c.in-205.is refl c.slt-in-205.ensures (c.jump_register-in-205.ensures a.regs.now a.stack.now (search rules))

pub returns-in-206 : goal.returns-in-206
unfolding bits only lookup with_operand comparisons jump by_class
returns-in-206 c =
    let a = c.args in
    jump_register (record { rec = a.ground.rec.now; P = a.ground.p; S = a.ground.s }) a.regs.now a.at.live a.stack.now a.at.pc a.f.opcode a.f.dst a.f.src a.f.off a.f.imm a.at.kept.mask_low
    _ Short Slt _ c.in-206.is refl c.slt-in-206.ensures (c.jump_register-in-206.ensures a.regs.now a.stack.now (search rules))

pub returns-in-213 : goal.returns-in-213
unfolding bits only lookup with_operand comparisons jump by_class
returns-in-213 c =
    let a = c.args in
    jump_immediate (record { rec = a.ground.rec.now; P = a.ground.p; S = a.ground.s }) a.regs.now a.at.live a.stack.now a.at.pc a.f.opcode a.f.dst a.f.src a.f.off a.f.imm a.at.kept.mask_low
    _ Long Sle _ _ c.in-213.is refl c.extend-x.ensures c.sle.ensures (c.jump_immediate-in-213.ensures a.regs.now a.stack.now (search rules))

pub returns-in-214 : goal.returns-in-214
unfolding bits only lookup with_operand comparisons jump by_class
returns-in-214 c =
    let a = c.args in
    jump_immediate (record { rec = a.ground.rec.now; P = a.ground.p; S = a.ground.s }) a.regs.now a.at.live a.stack.now a.at.pc a.f.opcode a.f.dst a.f.src a.f.off a.f.imm a.at.kept.mask_low
    _ Short Sle _ _ c.in-214.is refl c.extend-x.ensures c.sle-in-214.ensures (c.jump_immediate-in-214.ensures a.regs.now a.stack.now (search rules))

pub returns-in-221 : goal.returns-in-221
unfolding bits only lookup with_operand comparisons jump by_class
returns-in-221 c =
    let a = c.args in
    jump_register (record { rec = a.ground.rec.now; P = a.ground.p; S = a.ground.s }) a.regs.now a.at.live a.stack.now a.at.pc a.f.opcode a.f.dst a.f.src a.f.off a.f.imm a.at.kept.mask_low
    _ Long Sle _ c.in-221.is refl c.sle-in-221.ensures (c.jump_register-in-221.ensures a.regs.now a.stack.now (search rules))

pub returns-in-222 : goal.returns-in-222
unfolding bits only lookup with_operand comparisons jump by_class
returns-in-222 c =
    let a = c.args in
    jump_register (record { rec = a.ground.rec.now; P = a.ground.p; S = a.ground.s }) a.regs.now a.at.live a.stack.now a.at.pc a.f.opcode a.f.dst a.f.src a.f.off a.f.imm a.at.kept.mask_low
    _ Short Sle _ c.in-222.is refl c.sle-in-222.ensures (c.jump_register-in-222.ensures a.regs.now a.stack.now (search rules))

pub calculate-requires-clause-others : goal.calculate-requires-clause-others
unfolding of_obey
calculate-requires-clause-others c =
    record { none = no_key (Unit {0}) of_obey [] c.args.f.opcode (search rules) refl }
