-- The names of found declarators are in the table of names.
use Rattle.std.proofs.Common.{◌≡◌, ℕ, ◌<◌, List, Option, Some, None, Result, Ok, Err, refl, sym, ap, subst}
use Rattle.std.specs.Prelude.{IfSome, length, option_map}
use Rattle.token_texts.specs.Texts.{Texts}
use Rattle.c_grammar.specs.Scope.{first_of}
use Rattle.token_reader.specs.declared.error.ParseError.{ParseError}
use Rattle.token_reader.specs.declared.error.ParseError.TheVariants.{Memory, Syntax}
use Rattle.token_reader.specs.declared.found.FoundDeclarator.{FoundDeclarator}
use Rattle.token_reader.specs.declared.parameter_names.DeclaredName.{DeclaredName}
use Rattle.token_reader.specs.Found.{spelled_found, HasSpelling}
use Rattle.token_reader.specs.Refused.{IsSameButToken}
use Rattle.token_reader.specs.Scoping.{spelled, AreSpelled}
use Rattle.declarator_parser.specs.Parts.{names_of_first}

-- the same table
pub in_texts : (texts others : Texts) (f : FoundDeclarator) → HasSpelling others f → others ≡ texts → HasSpelling texts f
in_texts texts others f h e = subst (λ (t : Texts). HasSpelling t f) e h

renamed : (texts : Texts) (f g : FoundDeclarator) → HasSpelling texts f → g.name ≡ f.name → g.own ≡ f.own → HasSpelling texts g
renamed texts f g h name own = record {
  name = subst (λ (o : Option ℕ). IfSome o (λ n. n < length texts.names)) (sym name) h.name;
  own = subst (λ (o : Option (List DeclaredName)). IfSome o (AreSpelled texts)) (sym own) h.own;
}

-- the same names, where another node stands
pub same_names : (texts others : Texts) (f g : FoundDeclarator) → HasSpelling others f → others ≡ texts → g.name ≡ f.name → g.own ≡ f.own → HasSpelling texts g
same_names texts others f g h e name own = renamed texts f g (in_texts texts others f h e) name own

first_low : (texts : Texts) (own : Option (List DeclaredName)) (declared : List DeclaredName) → IfSome own (AreSpelled texts) → AreSpelled texts declared →
    AreSpelled texts (names_of_first own declared)
first_low texts (Some own) declared h k = h
first_low texts None declared h k = k

pub names_with_first : (texts others : Texts) (f g : FoundDeclarator) (declared : List DeclaredName) → HasSpelling texts f → AreSpelled others declared →
    others ≡ texts → g.name ≡ f.name → g.own ≡ Some (names_of_first f.own declared) → HasSpelling texts g
names_with_first texts others f g declared h k e name own = record {
  name = subst (λ (o : Option ℕ). IfSome o (λ n. n < length texts.names)) (sym name) h.name;
  own = subst (λ (o : Option (List DeclaredName)). IfSome o (AreSpelled texts)) (sym own)
      (first_low texts f.own declared h.own (subst (λ (t : Texts). AreSpelled t declared) e k));
}

pub first_spelled : (texts : Texts) (own : Option (List DeclaredName)) (declared : List DeclaredName) →
    first_of (option_map (spelled texts) own) (spelled texts declared) ≡ Some (spelled texts (names_of_first own declared))
first_spelled texts (Some own) declared = refl
first_spelled texts None declared = refl

pub same_spelled : (texts : Texts) (r s : Result FoundDeclarator ParseError) → IsSameButToken r s → IsSameButToken (spelled_found texts r) (spelled_found texts s)
same_spelled texts (Ok x) s e = ap (spelled_found texts) e
same_spelled texts (Err (Memory m)) s e = ap (spelled_found texts) e
same_spelled texts (Err (Syntax n)) s e = (e.0, ap (spelled_found texts) e.1)
