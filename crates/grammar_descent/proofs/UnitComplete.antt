-- What is a unit, or the name of a type alone, is read.
use Rattle.std.proofs.Common.{◌≡◌, ◌≢◌, ℕ, zero, suc, ◌+◌, ◌<◌, ◌≤◌, List, [], ◌∷◌, ◌++◌, length, Option, Some, None, true, inl, inr, refl, sym, ap, ◌∙◌, arith, append_assoc, append-nil, eq-eqb}
use Rattle.std.proofs.lemmas.Bool.{ne_eqb}
use Rattle.std.proofs.lemmas.Option.{slice_get_past}
use Rattle.c_tokens.specs.declared.token.Token.{Token}
use Rattle.c_tokens.specs.declared.kind.Kind.TheVariants as k
use Rattle.c_tokens.specs.declared.kind.Mark.TheVariants as mark
use Rattle.c_grammar.specs.declared.words.Naming.TheVariants as naming
use Rattle.c_grammar.specs.declared.phrases.Specs.{Specs}
use Rattle.c_grammar.specs.declared.phrases.Declarator.{Declarator}
use Rattle.c_grammar.specs.declared.phrases.TypePhrase.{TypePhrase}
use Rattle.c_grammar.specs.declared.units.TypeName.{TypeName}
use Rattle.c_grammar.specs.declared.statements.Block.{Block}
use Rattle.c_grammar.specs.declared.statements.InitDeclarator.{InitDeclarator}
use Rattle.c_grammar.specs.declared.statements.Declaration.{Declaration}
use Rattle.c_grammar.specs.declared.units.Function.{Function}
use Rattle.c_grammar.specs.declared.units.External.{External}
use Rattle.c_grammar.specs.declared.units.External.TheVariants as x
use Rattle.c_grammar.specs.declared.units.Unit.{Unit as Whole}
use Rattle.c_tokens.specs.Names.{Name}
use Rattle.c_grammar.specs.Tokens.{kind_at, kind_of, place_at, IsMark}
use Rattle.c_grammar.specs.Words.{Role}
use Rattle.c_grammar.specs.Scope.{Scope, declared_kind, types, start, with_parameters}
use Rattle.c_grammar.specs.Phrases.{IsTypeName, type_name}
use Rattle.c_grammar.specs.Initialisers.{IsDeclaration, of_no_name, of_names}
use Rattle.c_grammar.specs.Units as g
use Rattle.c_grammar.specs.Limits.{max_depth}
use Rattle.c_grammar.specs.Units.{IsFunction, AreExternals, Derives, DerivesTypeName}
use Rattle.grammar_descent.specs.Reading.{State, Readers}
use Rattle.grammar_descent.specs.Follow.{ends_specs, ends_declarator}
use Rattle.grammar_descent.specs.Exact.{Exact}
use Rattle.grammar_descent.specs.InitialiserSteps.{NamedDeclarator, declare, named_declarator}
use Rattle.grammar_descent.specs.StatementSteps.{block}
use Rattle.grammar_descent.specs.UnitSteps as step
use Rattle.grammar_descent.specs.UnitSteps.{in_function}
use Rattle.grammar_descent.proofs.States.{as_found}
use Rattle.grammar_descent.proofs.Seen.{here, not_here}
use Rattle.grammar_descent.proofs.Moves.{specs_move, declarator_moves}
use Rattle.grammar_descent.proofs.Starts.{declarator_begins, specs_end, specs_end-by, no_semicolon}
use Rattle.grammar_descent.proofs.InitialiserComplete.{state, declaration_moves, AreRead, with_name_found, names_begin, finds_specs, finds_declarator, finds_init_declarators}
use Rattle.grammar_descent.proofs.StatementComplete.{block_moves, block_opens, finds_block}

module _ {text : List ℕ} {ts : List Token} where
  function_moves : {scope after : Scope} {from to : ℕ} {f : Function} → IsFunction text ts scope after from to f → from < to
  function_moves (g.function is named body) = let i = specs_move text ts is in let j = declarator_moves text ts named in let l = block_moves body in omega arith

  pub externals_move : {scope : Scope} {from to : ℕ} {all : List External} → AreExternals text ts scope from to all → from + length all ≤ to
  externals_move g.none = omega arith
  externals_move (g.declaration is rest) = let i = declaration_moves is in let j = externals_move rest in omega arith
  externals_move (g.function is rest) = let i = function_moves is in let j = externals_move rest in omega arith

past_all : (ts : List Token) → kind_at ts (length ts) ≡ None
unfolding kind_at
past_all ts = ap kind_of (slice_get_past ts (length ts) (omega arith))

module _ (text : List ℕ) (ts : List Token) (phrases : ℕ → Readers) where
  external-alone : (height from at : ℕ) (scope after : Scope) (specs : Specs) (roles : List Role) →
      (phrases max_depth).specs (state from scope) ≡ Some ((specs, roles, height), state at after) → IsMark ts at mark.Semicolon →
      step.external text ts phrases (state from scope)
      ≡ Some (x.Declaration (record { place = place_at ts from; specs = specs; declarators = [] }), state (at + 1) after)
  unfolding step.external
  external-alone height from at scope after specs roles found end = rw (found, here ts at _ end) refl

  external-names : (height from at : ℕ) (scope between : Scope) (specs : Specs) (roles : List Role) (all : List InitDeclarator) (t : State) →
      (phrases max_depth).specs (state from scope) ≡ Some ((specs, roles, height), state at between) → kind_at ts at ≢ Some (k.Mark mark.Semicolon) →
      AreRead ts phrases max_depth (declared_kind roles) (state at between) all t →
      step.external text ts phrases (state from scope)
      ≡ Some (x.Declaration (record { place = place_at ts from; specs = specs; declarators = all }), t)
  unfolding step.external step.external_after Rattle.grammar_descent.specs.InitialiserSteps.declaration_of_names
  external-names height from at scope between specs roles all t found other r = rw (found, not_here ts at _ other, r.is, not_here ts r.first.1.at _ r.no_body, r.rest) refl

  external-function : (height from at : ℕ) (scope between : Scope) (specs : Specs) (roles : List Role) (f : NamedDeclarator × State) (body : Block) (t : State) →
      (phrases max_depth).specs (state from scope) ≡ Some ((specs, roles, height), state at between) → kind_at ts at ≢ Some (k.Mark mark.Semicolon) →
      named_declarator ts phrases max_depth (state at between) ≡ Some f → IsMark ts f.1.at mark.LeftBrace →
      block text ts phrases max_depth (in_function f (declared_kind roles)) ≡ Some (body, t) →
      step.external text ts phrases (state from scope)
      ≡ Some (x.Function (record { place = place_at ts from; specs = specs; declarator = f.0.node; body = body }), state t.at ((f.0.name, declared_kind roles) ∷ f.1.scope))
  unfolding step.external step.external_after step.function_with_body
  external-function height from at scope between specs roles f body t found other named opens inside = rw (found, not_here ts at _ other, named, here ts f.1.at _ opens, inside) refl

  externals_end : (n : ℕ) (found : List External) (at : ℕ) (scope : Scope) → at ≡ length ts →
      step.externals text ts phrases (suc n) found (state at scope) ≡ Some found
  unfolding step.externals
  externals_end n found at scope end = rw (eq-eqb at (length ts) end) refl

  externals_more : (n : ℕ) (found : List External) (from : ℕ) (scope : Scope) (next : External) (t : State) → from < length ts →
      step.external text ts phrases (state from scope) ≡ Some (next, t) →
      step.externals text ts phrases (suc n) found (state from scope) ≡ step.externals text ts phrases n (found ++ next ∷ []) t
  unfolding step.externals
  externals_more n found from scope next t low is = rw (ne_eqb from (length ts) (omega arith), is) refl

module _ (text : List ℕ) (ts : List Token) (phrases : ℕ → Readers) (exact : (d : ℕ) → Exact text ts d (phrases d)) where
  finds_declaration : {from to : ℕ} {scope after : Scope} {found : Declaration} → IsDeclaration text ts max_depth scope after from to found →
      step.external text ts phrases (state from scope) ≡ Some (x.Declaration found, state to after)
  finds_declaration (of_no_name {from} {at} {scope} {after} {roles} {specs} is end) =
      let (height, f) = finds_specs text ts phrases exact is max_depth (omega arith) (rw end refl) in
      external-alone text ts phrases height from at scope after specs roles f end
  finds_declaration (of_names {from} {at} {to} {scope} {between} {after} {roles} {specs} {declarators} is all end) =
      let b = names_begin all in
      let (height, f) = finds_specs text ts phrases exact is max_depth (omega arith) b.0 in
      external-names text ts phrases height from at scope between specs roles declarators (state (to + 1) after) f b.1
      (finds_init_declarators text ts phrases exact all max_depth (omega arith) end)

  finds_function : {from to : ℕ} {scope after : Scope} {found : Function} → IsFunction text ts scope after from to found →
      step.external text ts phrases (state from scope) ≡ Some (x.Function found, state to after)
  finds_function (g.function {from} {at} {middle} {to} {scope} {between} {after} {roles} {name} {own} {specs} {declarator = named} {body} is is_named inside) =
      let (height, f) = finds_specs text ts phrases exact is max_depth (omega arith) (specs_end is_named) in
      let opens = block_opens inside in
      external-function text ts phrases height from at scope between specs roles (with_name_found named name own, state middle after) body
      (state to (with_parameters own ((name, declared_kind roles) ∷ after))) f (no_semicolon is_named)
      (finds_declarator text ts phrases exact is_named max_depth (omega arith) (rw opens refl)) opens
      (finds_block text ts phrases exact inside max_depth (omega arith))

  finds_externals : {from to : ℕ} {scope : Scope} {all : List External} → AreExternals text ts scope from to all → (n : ℕ) (found : List External) →
      length all + 1 ≤ n → to ≡ length ts → step.externals text ts phrases n found (state from scope) ≡ Some (found ++ all)
  finds_externals is zero found room end = absurd (omega arith)
  finds_externals (g.none {scope} {at}) (suc n) found room end = externals_end text ts phrases n found at scope end ∙ ap (λ l. Some l) (sym (append-nil found))
  finds_externals (g.declaration {scope} {between} {from} {at} {to} {first} {rest = list} is rest) (suc n) found room end =
      let i = declaration_moves is in
      let j = externals_move rest in
      externals_more text ts phrases n found from scope (x.Declaration first) (state at between) (omega arith) (finds_declaration is)
      ∙ finds_externals rest n (found ++ x.Declaration first ∷ []) (omega arith) end ∙ ap (λ l. Some l) (append_assoc found (x.Declaration first ∷ []) list)
  finds_externals (g.function {scope} {between} {from} {at} {to} {first} {rest = list} is rest) (suc n) found room end =
      let i = function_moves is in
      let j = externals_move rest in
      externals_more text ts phrases n found from scope (x.Function first) (state at between) (omega arith) (finds_function is)
      ∙ finds_externals rest n (found ++ x.Function first ∷ []) (omega arith) end ∙ ap (λ l. Some l) (append_assoc found (x.Function first ∷ []) list)

  -- A unit that the tokens derive is the one that is read.
  pub finds_unit : (unit : Whole) → Derives text ts unit → step.unit text ts phrases ≡ Some unit.items
  unfolding step.unit
  finds_unit unit is = let room = externals_move is.items in finds_externals is.items (length ts + 1) [] (omega arith) refl

  -- ---- names of types

  type_name_is : (depth high height from at : ℕ) (scope between : Scope) (specs : Specs) (roles : List Role) (found : Declarator) (name : Option Name) (own : Option Scope) (t : State) →
      (phrases depth).specs (state from scope) ≡ Some ((specs, roles, high), state at between) →
      (phrases depth).declarator naming.NotNamed (state at between) ≡ Some (as_found found name own height, t) →
      step.type_phrase_alone text ts phrases depth (state from scope) ≡ Some (record { place = place_at ts from; specs = specs; declarator = found }, t)
  unfolding step.type_phrase_alone
  type_name_is depth high height from at scope between specs roles found name own t first second = rw (first, second) refl

  pub finds_type_name : {d from to : ℕ} {scope after : Scope} {type : TypePhrase} → IsTypeName text ts d scope after from to type → (depth : ℕ) → d ≤ depth →
      ends_specs (kind_at ts to) ≡ true → ends_declarator (kind_at ts to) ≡ true →
      step.type_phrase_alone text ts phrases depth (state from scope) ≡ Some (type, state to after)
  finds_type_name (type_name {depth = d} {from} {at} {to} {scope} {between} {after} {roles} {specs} {declarator = found} {own} is unnamed) depth low ended closed =
      let after_specs : ends_specs (kind_at ts at) ≡ true = elim (declarator_begins unnamed) [ inl same ↦ rw same ended | inr some ↦ specs_end-by _ some ] in
      let (high, f) = finds_specs text ts phrases exact is depth low after_specs in
      let r = (exact depth).declarator_complete naming.NotNamed d (state at between) (state to after) found None own low unnamed closed in
      type_name_is depth high r.height from at scope between specs roles found None own (state to after) f r.is

  lone_type_is : (typedefs : List Name) (type : TypePhrase) (after : Scope) →
      step.type_phrase_alone text ts phrases max_depth (state 0 (types typedefs ++ start)) ≡ Some (type, state (length ts) after) →
      step.lone_type text ts phrases typedefs ≡ Some type
  unfolding step.lone_type
  lone_type_is typedefs type after found = rw (found, eq-eqb (length ts) (length ts) refl) refl

  -- A name of a type that the tokens derive is the one that is read.
  pub finds_lone_type : (typedefs : List Name) (type : TypeName) → DerivesTypeName text ts typedefs type → step.lone_type text ts phrases typedefs ≡ Some type.phrase
  finds_lone_type typedefs type d =
      let none = past_all ts in
      lone_type_is typedefs type.phrase d.after (finds_type_name d.phrase max_depth (omega arith) (rw none refl) (rw none refl))
