-- Lists of what stands between commas, or one after another, have no more items than there are tokens.
use Rattle.std.proofs.Common.{ℕ, ◌+◌, ◌≤◌, List, length, arith}
use Rattle.c_tokens.specs.declared.token.Token.{Token}
use Rattle.c_grammar.specs.declared.words.Qualifier.{Qualifier}
use Rattle.c_grammar.specs.declared.phrases.Declarator.{Declarator}
use Rattle.c_grammar.specs.declared.phrases.Parameter.{Parameter}
use Rattle.c_grammar.specs.Scope.{Scope}
use Rattle.c_grammar.specs.Phrases.{AreQualifiers, AreDeclarators, AreSomeParameters}
use Rattle.c_grammar.specs.Phrases as p
use Rattle.grammar_descent.proofs.Seen.{stands_within}
use Rattle.grammar_descent.proofs.Moves.{declarator_moves, parameter_moves}

module _ (text : List ℕ) (ts : List Token) where
  pub qualifiers_counted : {from to : ℕ} {all : List Qualifier} → AreQualifiers ts from to all → from ≤ length ts → from + length all ≤ length ts
  qualifiers_counted p.none within = omega arith
  qualifiers_counted (p.const {from} is rest) within = let h = stands_within ts from _ is in let i = qualifiers_counted rest (omega arith) in omega arith
  qualifiers_counted (p.restrict {from} is rest) within = let h = stands_within ts from _ is in let i = qualifiers_counted rest (omega arith) in omega arith

  pub parameters_counted : {depth from to : ℕ} {scope after : Scope} {all : List Parameter} → AreSomeParameters text ts depth scope after from to all →
      from + length all ≤ to + 1
  parameters_counted (p.last_parameter a) = let i = parameter_moves text ts a in omega arith
  parameters_counted (p.more_parameters a is rest) = let i = parameter_moves text ts a in let j = parameters_counted rest in omega arith

  pub declarators_counted : {depth from to : ℕ} {scope after : Scope} {all : List Declarator} → AreDeclarators text ts depth scope after from to all →
      from + length all ≤ to + 1
  declarators_counted (p.last_declarator a) = let i = declarator_moves text ts a in omega arith
  declarators_counted (p.more_declarators a is rest) = let i = declarator_moves text ts a in let j = declarators_counted rest in omega arith
