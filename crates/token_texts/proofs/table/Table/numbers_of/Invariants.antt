use Rattle.std.proofs.Common.{◌≡◌, length, take, Some}
use Rattle.std.specs.Prelude.{map, fold, slice_get}
use Rattle.token_texts.specs.Texts.{with_one}
use Rattle.token_texts.proofs.table.Table.numbers_of.Given as goal

abbrev pub invariant-loop-name : goal.invariant-loop-name
invariant-loop-name l =
    record {
      table : l.self ≡ fold with_one l.fn.self (take l.name-index l.given);
      numbers : map (slice_get l.self) l.numbers.items ≡ map (λ name. Some name) (take l.name-index l.given);
    }
