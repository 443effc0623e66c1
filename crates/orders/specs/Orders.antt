-- When the pieces of an answer stand in the arguments.
use Rattle.std.specs.Prelude.{◌≡◌, List, ℕ, IfSome, Some}
use Rattle.text.specs.Part.{Part}
use Rattle.orders.specs.declared.Task.{Task}
use Rattle.orders.specs.declared.Task.TheVariants.{Verify, Explain, Run, Show}
use Rattle.orders.specs.declared.Order.{Order}
use Rattle.orders.specs.declared.Request.{Request}
use Rattle.orders.specs.declared.Request.TheVariants.{Do, HelpOn}
use Rattle.orders.specs.declared.said.Said.{Said}

-- the file of a task with a record
abbrev pub Records : List ℕ → Task → Type 0
Records args (Verify n) = Unit {0}
Records args (Explain n) = Unit {0}
Records args (Run start) = Part args start.record_file.now
Records args Show = Unit {0}

-- the pieces of an order
pub record Pieces (args : List ℕ) (o : Order) : Type 0 where
  pub file : Part args o.file.now
  pub section : IfSome o.section (λ name. Part args name.now)
  pub task : Records args o.task

abbrev pub Placed : List ℕ → Request → Type 0
Placed args (Do o) = Pieces args o
Placed args (HelpOn t) = Unit {0}

-- those of the words so far
pub record Sane (args : List ℕ) (s : Said) : Type 0 where
  pub file : IfSome s.file (λ name. Part args name.now)
  pub section : IfSome s.section (λ name. Part args name.now)
  pub record_file : IfSome s.record_file (λ name. Part args name.now)

-- the record's file of a task is the one that was said
abbrev pub SaysTask : Said → Task → Type 0
SaysTask s (Verify n) = Unit {0}
SaysTask s (Explain n) = Unit {0}
SaysTask s (Run start) = s.record_file ≡ Some start.record_file
SaysTask s Show = Unit {0}

-- an order's pieces are those that were said
pub record Says (s : Said) (o : Order) : Type 0 where
  pub file : s.file ≡ Some o.file
  pub section : o.section ≡ s.section
  pub task : SaysTask s o.task

-- the same pieces
pub record SamePieces (old new : Said) : Type 0 where
  pub file : new.file ≡ old.file
  pub section : new.section ≡ old.section
  pub record_file : new.record_file ≡ old.record_file
