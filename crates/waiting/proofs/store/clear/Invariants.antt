use Rattle.std.proofs.Common.{◌≡◌, ℕ, ◌*◌, ◌<◌, get_or}
use Rattle.waiting.specs.Layout.{block_words}
use Rattle.waiting.proofs.store.clear.Given as goal

abbrev pub invariant-loop-j : goal.invariant-loop-j
invariant-loop-j l = (x : ℕ) → x < l.j → get_or l.m (block_words * x) 0 ≡ 0
