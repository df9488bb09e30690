-- States of a reader, and a few more words on its tests.
use Rattle.std.proofs.Common.{◌≡◌, ℕ, Bool, true, false, ◌&&◌, ◌||◌, List, [], ◌∷◌, ◌++◌, Option, Some, refl, ap, ◌∙◌, append_assoc}
use Rattle.c_tokens.specs.declared.kind.Kind.{Kind}
use Rattle.c_tokens.specs.declared.token.Token.{Token}
use Rattle.c_tokens.specs.Names.{Name}
use Rattle.c_grammar.specs.declared.phrases.Declarator.{Declarator}
use Rattle.c_grammar.specs.Tokens.{kind_at}
use Rattle.c_grammar.specs.Scope.{Scope}
use Rattle.grammar_descent.specs.Reading.{State, FoundDeclarator, sees}
use Rattle.grammar_descent.specs.Exact.{IsFound}
use Rattle.grammar_descent.proofs.Seen.{not_here}

abbrev pub state : ℕ → Scope → State
state at scope = record { at = at; scope = scope }

-- a kind that a test tells apart from the one there does not stand there
pub apart_by : (ts : List Token) (at : ℕ) (kind : Kind) (test : Option Kind → Bool) → test (kind_at ts at) ≡ true → test (Some kind) ≡ false → sees ts at kind ≡ false
apart_by ts at kind test one other = not_here ts at kind (λ is. let e = ap test is in cc)

pub neither : (a b : Bool) → (a || b) ≡ false → (a ≡ false) × (b ≡ false)
neither false false h = (refl, refl)
neither false true h = absurd cc
neither true b h = absurd cc

pub not_both : (a b : Bool) → (a && b) ≡ false → a ≡ true → b ≡ false
not_both true b h is = h
not_both false b h is = absurd cc

pub added : {A : Type 0} (found : List A) (one : A) (rest : List A) → (found ++ one ∷ []) ++ rest ≡ found ++ one ∷ rest
added found one rest = append_assoc found (one ∷ []) rest

-- what is found with the rest of a list is found with the item before it
pub rest_found : {A : Type 0} {answer : Option ((List A × ℕ) × State)} {d : ℕ} {after : State} (found : List A) (one : A) (rest : List A) →
    IsFound answer d (λ height. ((found ++ one ∷ []) ++ rest, height)) after → IsFound answer d (λ height. (found ++ one ∷ rest, height)) after
rest_found {after} found one rest f = record {
  height = f.height;
  low = f.low;
  is = f.is ∙ ap (λ l. Some ((l, f.height), after)) (added found one rest);
}

abbrev pub as_found : Declarator → Option Name → Option Scope → ℕ → FoundDeclarator
as_found node name own height = record { node = node; name = name; own = own; height = height }
