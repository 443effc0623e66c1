-- The record and the addresses that a run is given, as the world of the machine's definition.
use Rattle.machine.specs.declared.memory.Ground.{Ground}
use Rattle.machine.specs.Machine.{World}

abbrev pub world_of : Ground → World
world_of g = record { rec = g.rec.now; P = g.p; S = g.s }
