-- What stands around a name, gone through from the outside: the last that is met is the innermost.
use Rattle.std.proofs.Common.{◌≡◌, refl, ◌∙◌, ap, List, [], ◌∷◌, ◌++◌, Option, None}
use Rattle.std.specs.Prelude.{reverse}
use Rattle.std.proofs.lemmas.List.{reverse-append}
use Rattle.declaration_rules.specs.Parts.{list_of, own_list}
use Rattle.declaration_rules.specs.declared.parts.ParameterList.{ParameterList}
use Rattle.declaration_rules.specs.declared.parts.Part.{Part}

abbrev pub list_of_last : List Part → Option ParameterList
list_of_last [] = None
list_of_last (only ∷ []) = list_of only
list_of_last (first ∷ next ∷ rest) = list_of_last (next ∷ rest)

last-is : (outer : List Part) (inner : Part) → list_of_last (outer ++ inner ∷ []) ≡ list_of inner
last-is [] inner = refl
last-is (one ∷ []) inner = refl
last-is (one ∷ two ∷ rest) inner = last-is (two ∷ rest) inner

-- the list of parameters directly behind the name is that of the last one
pub own_list-last : (parts : List Part) → list_of_last (reverse parts) ≡ own_list parts
own_list-last [] = refl
own_list-last (first ∷ rest) = ap list_of_last (reverse-append (first ∷ []) rest) ∙ last-is (reverse rest) first
