-- Where there is no specifier, there is no type.
use Rattle.std.specs.Prelude.{nat_lt}
use Rattle.std.proofs.Common.{◌≡◌, Bool, true, List, [], length, refl, arith}
use Rattle.std.proofs.lemmas.Bool.Decides.{nat_tests}
use Rattle.std.proofs.lemmas.List.Sums.{AllPass-from_list_all}
use Rattle.std.proofs.lemmas.List.Elements.{All-contains}
use Rattle.std.proofs.lemmas.List.Sorted.{length_permutation}
use Rattle.c_grammar.specs.declared.words.BasicWord.{BasicWord}
use Rattle.c_grammar.specs.declared.words.BasicType.{BasicType}
use Rattle.c_grammar.specs.Words.{spellings, Spells, HoldsOneType, spelled, by_itself}

abbrev has_words : (List BasicWord × BasicType) → Bool
has_words row = nat_lt 0 (length row.0)

no_spelling : {type : BasicType} → Spells [] type → ⊥
no_spelling {type} s =
    let none = length_permutation s.row [] s.is in
    let some : nat_lt 0 (length s.row) ≡ true =
    All-contains (λ row. has_words row ≡ true) spellings (s.row, type) (AllPass-from_list_all has_words spellings refl) s.stands in
    grind (arith, nat_tests)

pub no_type_of_none : HoldsOneType [] → ⊥
no_type_of_none (spelled s none) = no_spelling s
no_type_of_none (by_itself none one) = absurd (omega arith)
