use Rattle.std.proofs.Common.{◌≡◌, length}
use Rattle.declarator_rules.specs.Words.{has_word}
use Rattle.declarator_rules.proofs.specifiers.has.Given as goal

abbrev pub invariant-loop-words : goal.invariant-loop-words
invariant-loop-words l = has_word l.word l.words ≡ has_word l.word l.initial.words

abbrev pub decreases-loop-words : goal.decreases-loop-words
decreases-loop-words l = length l.words
