use Rattle.heap_model.proofs.history_laws.law_replies.Goals as goal
use Rattle.heap_model.proofs.Replies as replies

pub returns : goal.returns
returns c = replies.replies_law
