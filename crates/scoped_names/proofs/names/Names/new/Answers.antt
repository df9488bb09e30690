use Rattle.scoped_names.proofs.TableLemmas.{kept_none}
use Rattle.scoped_names.proofs.names.Names.new.Goals as goal

pub invariant_of-result : goal.invariant_of-result
invariant_of-result c = rw (c.new.ensures.items, c.new-2.ensures.items) kept_none
