-- What was said of pieces of the arguments makes an order that names such pieces.
use Rattle.std.proofs.Common.{List, ℕ}
use Rattle.orders.specs.declared.Task.{Task}
use Rattle.orders.specs.declared.Task.TheVariants.{Verify, Explain, Run, Show}
use Rattle.orders.specs.declared.Order.{Order}
use Rattle.orders.specs.declared.said.Said.{Said}
use Rattle.orders.specs.Orders.{Pieces, Records, Sane, Says, SaysTask}

said_records : (args : List ℕ) (s : Said) (t : Task) → Sane args s → SaysTask s t → Records args t
said_records args s (Verify n) g h = tt
said_records args s (Explain n) g h = tt
said_records args s (Run start) g h = rw h at g.record_file
said_records args s Show g h = tt

pub said_pieces : (args : List ℕ) (s : Said) (o : Order) → Sane args s → Says s o → Pieces args o
said_pieces args s o g h = record {
  file = rw h.file at g.file;
  section = rw h.section g.section;
  task = said_records args s o.task g h.task;
}
