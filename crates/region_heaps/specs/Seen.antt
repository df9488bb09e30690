-- What contracts see of the heaps of the regions.
use Rattle.std.specs.Prelude.{List}
use Rattle.c_types.specs.Table.{Types}
use Rattle.heap_model.specs.declared.calls.Entry.{Entry}

-- the types of the table that calls are answered from, and the list of the history
pub record Heaps : Type 0 where
  pub types : Types
  pub entries : List Entry
