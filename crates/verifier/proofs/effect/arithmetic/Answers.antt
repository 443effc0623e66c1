-- Two known numbers are calculated with as words.
use Rattle.std.proofs.Common.{rules}
use Rattle.verifier.proofs.Singles.{both_are_told, what_words_make}
use Rattle.verifier.proofs.effect.arithmetic.Goals as goal

pub returns-in-Some : goal.returns-in-Some
returns-in-Some c =
    let known = both_are_told _ _ c.in-Some.is c.singles.ensures in
    what_words_make _ _ _ (search rules) (search rules) _ _ _ _ _ _ _ _ known.0 known.1 c.word_of.ensures c.exactly.ensures c.plain.ensures c.put.ensures
