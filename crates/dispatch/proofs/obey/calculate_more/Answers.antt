-- `calculate_more`: an arm is its format's law at its opcode, and what the opcode means computes. Printed by tools/obey.
use Rattle.std.proofs.Common.{◌++◌, refl, rules}
use Rattle.word.specs.declared.Operation.TheVariants.{Lsh, Rsh, Mod, Xor, Arsh}
use Rattle.machine.specs.declared.instruction.Width.TheVariants.{Long, Short}
use Rattle.machine.specs.Instruction.{reads_dst, only, lookup, with_operand, operations, arithmetic, by_class}
use Rattle.machine.specs.Machine.{bits}
use Rattle.dispatch.specs.Opcodes.{of_obey, of_calculate, of_calculate_more}
use Rattle.dispatch.proofs.Arms.{alu_immediate, alu_register, move_immediate, move_register, negation}
use Rattle.dispatch.proofs.Table.{no_key}
use Rattle.dispatch.proofs.obey.calculate_more.Goals as goal

pub returns-in-100 : goal.returns-in-100
unfolding bits reads_dst only lookup with_operand operations arithmetic by_class
returns-in-100 c =
    let a = c.args in
    alu_immediate (record { rec = a.ground.rec.now; P = a.ground.p; S = a.ground.s }) a.regs.now a.at.live a.stack.now a.at.pc a.f.opcode a.f.dst a.f.src a.f.off a.f.imm a.at.kept.mask_low
    _ Short Lsh _ _ c.in-100.is refl refl c.extend-x.ensures c.lsh.ensures (c.put_immediate.ensures a.stack.now)

pub returns-in-103 : goal.returns-in-103
unfolding bits reads_dst only lookup with_operand operations arithmetic by_class
returns-in-103 c =
    let a = c.args in
    alu_immediate (record { rec = a.ground.rec.now; P = a.ground.p; S = a.ground.s }) a.regs.now a.at.live a.stack.now a.at.pc a.f.opcode a.f.dst a.f.src a.f.off a.f.imm a.at.kept.mask_low
    _ Long Lsh _ _ c.in-103.is refl refl c.extend-x.ensures c.lsh-in-103.ensures (c.put_immediate-in-103.ensures a.stack.now)

pub returns-in-108 : goal.returns-in-108
unfolding bits reads_dst only lookup with_operand operations arithmetic by_class
returns-in-108 c =
    let a = c.args in
    alu_register (record { rec = a.ground.rec.now; P = a.ground.p; S = a.ground.s }) a.regs.now a.at.live a.stack.now a.at.pc a.f.opcode a.f.dst a.f.src a.f.off a.f.imm a.at.kept.mask_low
    _ Short Lsh _ c.in-108.is refl refl c.lsh-in-108.ensures (c.put_register.ensures a.stack.now)

pub returns-in-111 : goal.returns-in-111
unfolding bits reads_dst only lookup with_operand operations arithmetic by_class
returns-in-111 c =
    let a = c.args in
    alu_register (record { rec = a.ground.rec.now; P = a.ground.p; S = a.ground.s }) a.regs.now a.at.live a.stack.now a.at.pc a.f.opcode a.f.dst a.f.src a.f.off a.f.imm a.at.kept.mask_low
    _ Long Lsh _ c.in-111.is refl refl c.lsh-in-111.ensures (c.put_register-in-111.ensures a.stack.now)

pub returns-in-116 : goal.returns-in-116
unfolding bits reads_dst only lookup with_operand operations arithmetic by_class
returns-in-116 c =
    let a = c.args in
    alu_immediate (record { rec = a.ground.rec.now; P = a.ground.p; S = a.ground.s }) a.regs.now a.at.live a.stack.now a.at.pc a.f.opcode a.f.dst a.f.src a.f.off a.f.imm a.at.kept.mask_low
    _ Short Rsh _ _ c.in-116.is refl refl c.extend-x.ensures c.rsh.ensures (c.put_immediate-in-116.ensures a.stack.now)

pub returns-in-119 : goal.returns-in-119
unfolding bits reads_dst only lookup with_operand operations arithmetic by_class
returns-in-119 c =
    let a = c.args in
    alu_immediate (record { rec = a.ground.rec.now; P = a.ground.p; S = a.ground.s }) a.regs.now a.at.live a.stack.now a.at.pc a.f.opcode a.f.dst a.f.src a.f.off a.f.imm a.at.kept.mask_low
    _ Long Rsh _ _ c.in-119.is refl refl c.extend-x.ensures c.rsh-in-119.ensures (c.put_immediate-in-119.ensures a.stack.now)

pub returns-in-124 : goal.returns-in-124
unfolding bits reads_dst only lookup with_operand operations arithmetic by_class
returns-in-124 c =
    let a = c.args in
    alu_register (record { rec = a.ground.rec.now; P = a.ground.p; S = a.ground.s }) a.regs.now a.at.live a.stack.now a.at.pc a.f.opcode a.f.dst a.f.src a.f.off a.f.imm a.at.kept.mask_low
    _ Short Rsh _ c.in-124.is refl refl c.rsh-in-124.ensures (c.put_register-in-124.ensures a.stack.now)

pub returns-in-127 : goal.returns-in-127
unfolding bits reads_dst only lookup with_operand operations arithmetic by_class
returns-in-127 c =
    let a = c.args in
    alu_register (record { rec = a.ground.rec.now; P = a.ground.p; S = a.ground.s }) a.regs.now a.at.live a.stack.now a.at.pc a.f.opcode a.f.dst a.f.src a.f.off a.f.imm a.at.kept.mask_low
    _ Long Rsh _ c.in-127.is refl refl c.rsh-in-127.ensures (c.put_register-in-127.ensures a.stack.now)

pub returns-in-132 : goal.returns-in-132
unfolding bits reads_dst only lookup with_operand operations arithmetic by_class
returns-in-132 c =
    let a = c.args in
    negation (record { rec = a.ground.rec.now; P = a.ground.p; S = a.ground.s }) a.regs.now a.at.live a.stack.now a.at.pc a.f.opcode a.f.dst a.f.src a.f.off a.f.imm a.at.kept.mask_low
    _ Short _ c.in-132.is refl c.neg.ensures (c.negate.ensures a.stack.now)

pub returns-in-135 : goal.returns-in-135
unfolding bits reads_dst only lookup with_operand operations arithmetic by_class
returns-in-135 c =
    let a = c.args in
    negation (record { rec = a.ground.rec.now; P = a.ground.p; S = a.ground.s }) a.regs.now a.at.live a.stack.now a.at.pc a.f.opcode a.f.dst a.f.src a.f.off a.f.imm a.at.kept.mask_low
    _ Long _ c.in-135.is refl c.neg-in-135.ensures (c.negate-in-135.ensures a.stack.now)

pub returns-in-148 : goal.returns-in-148
unfolding bits reads_dst only lookup with_operand operations arithmetic by_class
returns-in-148 c =
    let a = c.args in
    alu_immediate (record { rec = a.ground.rec.now; P = a.ground.p; S = a.ground.s }) a.regs.now a.at.live a.stack.now a.at.pc a.f.opcode a.f.dst a.f.src a.f.off a.f.imm a.at.kept.mask_low
    _ Short Mod _ _ c.in-148.is refl refl c.extend-x.ensures c.modulo.ensures (c.put_immediate-in-148.ensures a.stack.now)

pub returns-in-151 : goal.returns-in-151
unfolding bits reads_dst only lookup with_operand operations arithmetic by_class
returns-in-151 c =
    let a = c.args in
    alu_immediate (record { rec = a.ground.rec.now; P = a.ground.p; S = a.ground.s }) a.regs.now a.at.live a.stack.now a.at.pc a.f.opcode a.f.dst a.f.src a.f.off a.f.imm a.at.kept.mask_low
    _ Long Mod _ _ c.in-151.is refl refl c.extend-x.ensures c.modulo-in-151.ensures (c.put_immediate-in-151.ensures a.stack.now)

pub returns-in-156 : goal.returns-in-156
unfolding bits reads_dst only lookup with_operand operations arithmetic by_class
returns-in-156 c =
    let a = c.args in
    alu_register (record { rec = a.ground.rec.now; P = a.ground.p; S = a.ground.s }) a.regs.now a.at.live a.stack.now a.at.pc a.f.opcode a.f.dst a.f.src a.f.off a.f.imm a.at.kept.mask_low
    _ Short Mod _ c.in-156.is refl refl c.modulo-in-156.ensures (c.put_register-in-156.ensures a.stack.now)

pub returns-in-159 : goal.returns-in-159
unfolding bits reads_dst only lookup with_operand operations arithmetic by_class
returns-in-159 c =
    let a = c.args in
    alu_register (record { rec = a.ground.rec.now; P = a.ground.p; S = a.ground.s }) a.regs.now a.at.live a.stack.now a.at.pc a.f.opcode a.f.dst a.f.src a.f.off a.f.imm a.at.kept.mask_low
    _ Long Mod _ c.in-159.is refl refl c.modulo-in-159.ensures (c.put_register-in-159.ensures a.stack.now)

pub returns-in-164 : goal.returns-in-164
unfolding bits reads_dst only lookup with_operand operations arithmetic by_class
returns-in-164 c =
    let a = c.args in
    alu_immediate (record { rec = a.ground.rec.now; P = a.ground.p; S = a.ground.s }) a.regs.now a.at.live a.stack.now a.at.pc a.f.opcode a.f.dst a.f.src a.f.off a.f.imm a.at.kept.mask_low
    _ Short Xor _ _ c.in-164.is refl refl c.extend-x.ensures c.xor.ensures (c.put_immediate-in-164.ensures a.stack.now)

pub returns-in-167 : goal.returns-in-167
unfolding bits reads_dst only lookup with_operand operations arithmetic by_class
returns-in-167 c =
    let a = c.args in
    alu_immediate (record { rec = a.ground.rec.now; P = a.ground.p; S = a.ground.s }) a.regs.now a.at.live a.stack.now a.at.pc a.f.opcode a.f.dst a.f.src a.f.off a.f.imm a.at.kept.mask_low
    _ Long Xor _ _ c.in-167.is refl refl c.extend-x.ensures c.xor-in-167.ensures (c.put_immediate-in-167.ensures a.stack.now)

pub returns-in-172 : goal.returns-in-172
unfolding bits reads_dst only lookup with_operand operations arithmetic by_class
returns-in-172 c =
    let a = c.args in
    alu_register (record { rec = a.ground.rec.now; P = a.ground.p; S = a.ground.s }) a.regs.now a.at.live a.stack.now a.at.pc a.f.opcode a.f.dst a.f.src a.f.off a.f.imm a.at.kept.mask_low
    _ Short Xor _ c.in-172.is refl refl c.xor-in-172.ensures (c.put_register-in-172.ensures a.stack.now)

pub returns-in-175 : goal.returns-in-175
unfolding bits reads_dst only lookup with_operand operations arithmetic by_class
returns-in-175 c =
    let a = c.args in
    alu_register (record { rec = a.ground.rec.now; P = a.ground.p; S = a.ground.s }) a.regs.now a.at.live a.stack.now a.at.pc a.f.opcode a.f.dst a.f.src a.f.off a.f.imm a.at.kept.mask_low
    _ Long Xor _ c.in-175.is refl refl c.xor-in-175.ensures (c.put_register-in-175.ensures a.stack.now)

pub returns-in-180 : goal.returns-in-180
unfolding bits reads_dst only lookup with_operand operations arithmetic by_class
returns-in-180 c =
    let a = c.args in
    move_immediate (record { rec = a.ground.rec.now; P = a.ground.p; S = a.ground.s }) a.regs.now a.at.live a.stack.now a.at.pc a.f.opcode a.f.dst a.f.src a.f.off a.f.imm a.at.kept.mask_low
    _ Short _ _ c.in-180.is refl c.extend-x.ensures c.mov.ensures (c.move_immediate.ensures a.stack.now)

pub returns-in-183 : goal.returns-in-183
unfolding bits reads_dst only lookup with_operand operations arithmetic by_class
returns-in-183 c =
    let a = c.args in
    move_immediate (record { rec = a.ground.rec.now; P = a.ground.p; S = a.ground.s }) a.regs.now a.at.live a.stack.now a.at.pc a.f.opcode a.f.dst a.f.src a.f.off a.f.imm a.at.kept.mask_low
    _ Long _ _ c.in-183.is refl c.extend-x.ensures c.mov-in-183.ensures (c.move_immediate-in-183.ensures a.stack.now)

pub returns-in-188 : goal.returns-in-188
unfolding bits reads_dst only lookup with_operand operations arithmetic by_class
returns-in-188 c =
    let a = c.args in
    move_register (record { rec = a.ground.rec.now; P = a.ground.p; S = a.ground.s }) a.regs.now a.at.live a.stack.now a.at.pc a.f.opcode a.f.dst a.f.src a.f.off a.f.imm a.at.kept.mask_low
    _ Short _ c.in-188.is refl c.mov-in-188.ensures (c.move_register.ensures a.stack.now)

pub returns-in-191 : goal.returns-in-191
unfolding bits reads_dst only lookup with_operand operations arithmetic by_class
returns-in-191 c =
    let a = c.args in
    move_register (record { rec = a.ground.rec.now; P = a.ground.p; S = a.ground.s }) a.regs.now a.at.live a.stack.now a.at.pc a.f.opcode a.f.dst a.f.src a.f.off a.f.imm a.at.kept.mask_low
    _ Long _ c.in-191.is refl c.mov-in-191.ensures (c.move_register-in-191.ensures a.stack.now)

pub returns-in-196 : goal.returns-in-196
unfolding bits reads_dst only lookup with_operand operations arithmetic by_class
returns-in-196 c =
    let a = c.args in
    alu_immediate (record { rec = a.ground.rec.now; P = a.ground.p; S = a.ground.s }) a.regs.now a.at.live a.stack.now a.at.pc a.f.opcode a.f.dst a.f.src a.f.off a.f.imm a.at.kept.mask_low
    _ Short Arsh _ _ c.in-196.is refl refl c.extend-x.ensures c.arsh.ensures (c.put_immediate-in-196.ensures a.stack.now)

pub returns-in-199 : goal.returns-in-199
unfolding bits reads_dst only lookup with_operand operations arithmetic by_class
returns-in-199 c =
    let a = c.args in
    alu_immediate (record { rec = a.ground.rec.now; P = a.ground.p; S = a.ground.s }) a.regs.now a.at.live a.stack.now a.at.pc a.f.opcode a.f.dst a.f.src a.f.off a.f.imm a.at.kept.mask_low
    _ Long Arsh _ _ c.in-199.is refl refl c.extend-x.ensures c.arsh-in-199.ensures (c.put_immediate-in-199.ensures a.stack.now)

pub returns-in-204 : goal.returns-in-204
unfolding bits reads_dst only lookup with_operand operations arithmetic by_class
returns-in-204 c =
    let a = c.args in
    alu_register (record { rec = a.ground.rec.now; P = a.ground.p; S = a.ground.s }) a.regs.now a.at.live a.stack.now a.at.pc a.f.opcode a.f.dst a.f.src a.f.off a.f.imm a.at.kept.mask_low
    _ Short Arsh _ c.in-204.is refl refl c.arsh-in-204.ensures (c.put_register-in-204.ensures a.stack.now)

pub returns-in-207 : goal.returns-in-207
unfolding bits reads_dst only lookup with_operand operations arithmetic by_class
returns-in-207 c =
    let a = c.args in
    alu_register (record { rec = a.ground.rec.now; P = a.ground.p; S = a.ground.s }) a.regs.now a.at.live a.stack.now a.at.pc a.f.opcode a.f.dst a.f.src a.f.off a.f.imm a.at.kept.mask_low
    _ Long Arsh _ c.in-207.is refl refl c.arsh-in-207.ensures (c.put_register-in-207.ensures a.stack.now)

pub access-requires-clause-others : goal.access-requires-clause-others
unfolding of_calculate_more
access-requires-clause-others c =
    record { none = no_key (Unit {0}) of_calculate_more (of_calculate ++ of_obey) c.args.f.opcode (search rules) c.requires.others.none }
