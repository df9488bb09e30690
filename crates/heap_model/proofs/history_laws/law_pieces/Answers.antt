use Rattle.heap_model.proofs.history_laws.law_pieces.Goals as goal
use Rattle.heap_model.proofs.Pieces as pieces

pub returns : goal.returns
returns c = pieces.pieces_law
