use Rattle.slot_headers.proofs.Words.{words_law}
use Rattle.slot_headers.proofs.word.law_words.Goals as goal

pub returns : goal.returns
returns c = words_law
