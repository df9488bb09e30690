use Rattle.effs_words.proofs.Places.{watches_placed}
use Rattle.effs_words.proofs.laws.law_watches.Goals as goal

pub returns : goal.returns
returns c = watches_placed
