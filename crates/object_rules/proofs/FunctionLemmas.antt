-- A function that a name was declared as before, by its type.
use Rattle.std.proofs.Common.{◌≡◌, ◌∙◌, refl, sym, ap, ℕ, ◌==◌, Bool, true, false, ◌&&◌, ◌||◌, not, List, [], ◌∷◌, Option, Some, None, Ok}
use Rattle.std.specs.Option.{option_map, is_some}
use Rattle.std.specs.Str.{bytes_eq}
use Rattle.declaration_rules.specs.Agreement.{first_function, function, function_by, function_named, global_named, only_function, same_kinds}
use Rattle.declaration_rules.specs.declared.declarations.Introduced.{Introduced}
use Rattle.object_rules.specs.Types.{again}
use Rattle.static_rules.specs.Answers.{Answer, ◌>>=◌, fault, fault_if}
use Rattle.static_rules.specs.Predefined.{is_given}
use Rattle.static_rules.specs.Source.{Source}
use Rattle.static_rules.specs.States.{symbol_here}
use Rattle.static_rules.specs.declared.faults.CheckKind.TheVariants as why
use Rattle.static_rules.specs.declared.states.DeclaredFunction.{DeclaredFunction}
use Rattle.static_rules.specs.declared.states.State.{State}
use Rattle.static_rules.specs.declared.states.Where.{Where}
use Rattle.well_typed.specs.declared.signatures.Signature.{Signature}

-- lists of types are one where they are equal
pub same_kinds_is : (kinds others : List ℕ) → same_kinds kinds others ≡ bytes_eq kinds others
same_kinds_is [] [] = refl
same_kinds_is [] (other ∷ others) = refl
same_kinds_is (kind ∷ kinds) [] = refl
same_kinds_is (kind ∷ kinds) (other ∷ others) = ap (λ b. (kind == other) && b) (same_kinds_is kinds others)

module _ (source : Source) (defined : List ℕ) (s : State) (d : Introduced) (type : Answer (Signature × State)) where
  abbrev pub by_signature : Option (ℕ × Signature) → Answer (ℕ × State)
  by_signature (Some (number, earlier)) = again source defined d number earlier type
  by_signature None = function_by source defined s d type None

  by_signature-is : (found : Option (ℕ × DeclaredFunction)) →
      function_by source defined s d type found ≡ by_signature (option_map (λ f. (f.0, f.1.signature)) found)
  by_signature-is (Some (number, earlier)) = refl
  by_signature-is None = refl

  -- a name that may be one of a function declares it anew, or once more
  pub function_is : (w : Where) (found : Option (ℕ × Signature)) →
      (is_given source d.name || not (only_function (symbol_here w s d.name))) ≡ false →
      found ≡ option_map (λ f. (f.0, f.1.signature)) (function_named s d.name) →
      function source defined w s d type ≡ by_signature found
  unfolding function
  function_is w found free is =
      ap (λ taken. fault_if taken why.Redefined d.here >>= λ fine. function_by source defined s d type (function_named s d.name)) free
      ∙ by_signature-is (function_named s d.name) ∙ ap by_signature (sym is)

  -- one of another meaning does not
  pub refused_is : (w : Where) → (is_given source d.name || not (only_function (symbol_here w s d.name))) ≡ true →
      function source defined w s d type ≡ fault why.Redefined d.here
  unfolding function
  refused_is w taken =
      ap (λ t. fault_if t why.Redefined d.here >>= λ fine. function_by source defined s d type (function_named s d.name)) taken

  -- one that no declaration before names, by its steps
  pub anew_by_steps : (signature : Signature) (s1 new : State) (number : ℕ) → is_some (global_named s d.name) ≡ false →
      type ≡ Ok (signature, s1) → first_function source defined d (signature, s1) ≡ (number, new) →
      function_by source defined s d type None ≡ Ok (number, new)
  anew_by_steps signature s1 new number free type_is first =
      ap (λ taken. fault_if taken why.Redefined d.here >>= λ fine. type >>= λ found. Ok (first_function source defined d found)) free
      ∙ ap (λ t. t >>= λ found. Ok (first_function source defined d found)) type_is ∙ ap (λ r. Ok r) first
