-- What each reason of a refusal is, as a clause.
use Rattle.std.specs.Prelude.{List, ℕ}
use Rattle.text.specs.Buffer.{chars}
use Rattle.analysis.specs.declared.Reason.{Reason}
use Rattle.analysis.specs.declared.Reason.TheVariants.{BadLength, LongRecord, NoCode, WritesR10, JumpsBack, JumpsOut, ReadsUnset, Outside, LeaksAddress, DeadCode}

unfoldable pub sentence_of : Reason → List ℕ
sentence_of BadLength = chars "the program is not 1 to 4096 instructions of 8 bytes"
sentence_of LongRecord = chars "the record is longer than 1024 bytes"
sentence_of NoCode = chars "these bytes are no instruction"
sentence_of WritesR10 = chars "an instruction writes r10"
sentence_of JumpsBack = chars "a jump goes back"
sentence_of JumpsOut = chars "a path leads out of the program"
sentence_of ReadsUnset = chars "a register is read that might be unset"
sentence_of Outside = chars "a load or store might lie outside the record and the stack"
sentence_of LeaksAddress = chars "an address is used where only a number may be"
sentence_of DeadCode = chars "no path leads to this instruction"
