-- The arguments of `printf` that were read.
use Rattle.std.specs.Prelude.{ℕ, [], ◌∷◌, ◌++◌, List, map}
use Rattle.static_rules.specs.Calls.{values_of}
use Rattle.static_rules.specs.Expressions.{promoted_all}
use Rattle.static_rules.specs.declared.judged.Operand.{Operand}
use Rattle.call_steps.specs.declared.printing.PrintArguments.{PrintArguments}

abbrev pub kinds_of : List Operand → List ℕ
kinds_of xs = map (λ x. x.kind) xs

-- each promoted, in the order of reading
unfoldable pub print_arguments : ℕ → List Operand → PrintArguments
print_arguments line xs = record { values = values_of (promoted_all line xs); kinds = kinds_of (promoted_all line xs) }

-- one more, which was promoted
abbrev pub with_printed : PrintArguments → Operand → PrintArguments
with_printed read x = record { values = read.values ++ x.value ∷ []; kinds = read.kinds ++ x.kind ∷ [] }
