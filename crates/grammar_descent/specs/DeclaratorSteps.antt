-- Declarators, read by descent (C11 6.7.6 and 6.7.7). `inner` reads what is nested in them.
use Rattle.std.specs.Prelude.{ℕ, zero, suc, ◌+◌, ◌-◌, max, Bool, true, false, ◌&&◌, ◌||◌, List, [], ◌∷◌, ◌++◌, length, take, Option, Some, None, nat_lt, if◌then◌else◌}
use Rattle.c_tokens.specs.declared.kind.Keyword.TheVariants as word
use Rattle.c_tokens.specs.declared.kind.Mark.TheVariants as mark
use Rattle.c_tokens.specs.declared.kind.Kind.TheVariants as k
use Rattle.c_tokens.specs.declared.token.Token.{Token}
use Rattle.c_grammar.specs.declared.words.Qualifier.{Qualifier}
use Rattle.c_grammar.specs.declared.words.Qualifier.TheVariants as q
use Rattle.c_grammar.specs.declared.phrases.Declarator.{Declarator}
use Rattle.c_grammar.specs.declared.phrases.Declarator.TheVariants as d
use Rattle.c_grammar.specs.declared.phrases.Parameter.{Parameter}
use Rattle.c_grammar.specs.Tokens.{place_at}
use Rattle.c_grammar.specs.Scope.{Scope, first_of}
use Rattle.c_tokens.specs.Names.{Name}
use Rattle.token_texts.specs.Names.{name_at}
use Rattle.c_grammar.specs.declared.words.Level.TheVariants as of
use Rattle.c_grammar.specs.declared.words.NameKind.TheVariants as declares
use Rattle.c_grammar.specs.declared.words.Naming.{Naming}
use Rattle.c_grammar.specs.declared.words.Naming.TheVariants as naming
use Rattle.c_grammar.specs.Operators.{tightness}
use Rattle.grammar_descent.specs.Reading.{State, Reading, ◌>>=◌, sees, when, mark_at, word_at, past, FoundDeclarator, Readers}
use Rattle.grammar_descent.specs.Types.{begins_specs}

-- what is in scope after a list of parameters and was not before
abbrev pub new_since : Scope → Scope → Scope
new_since before after = take (length after - length before) after

-- the name of a parameter is in scope after it, and is no type
abbrev pub with_parameter : Option Name → State → State
with_parameter (Some name) s = record { at = s.at; scope = (name, declares.Ordinary) ∷ s.scope }
with_parameter None s = s

-- `const` and `restrict` after a `*`, and the state after them
unfoldable pub qualifiers : List Token → ℕ → List Qualifier → State → List Qualifier × State
qualifiers ts zero found s = (found, s)
qualifiers ts (suc n) found s =
    if word_at ts s.at word.Const then qualifiers ts n (found ++ q.Const ∷ []) (past s 1)
    else if word_at ts s.at word.Restrict then qualifiers ts n (found ++ q.Restrict ∷ []) (past s 1)
    else (found, s)

-- a node whose highest part has this height, if it is not nested too deep
abbrev pub declarator_within : ℕ → Declarator → Option Name → Option Scope → ℕ → State → Option (FoundDeclarator × State)
declarator_within depth node name own high s = if nat_lt high depth then Some (record { node = node; name = name; own = own; height = high + 1 }, s) else None

abbrev pub may_leave_out : Naming → Bool
may_leave_out naming.Named = false
may_leave_out naming.NamedOrNot = true
may_leave_out naming.NotNamed = true

-- the name that is left out, where it may be
abbrev pub no_name : Naming → Reading FoundDeclarator
no_name how s = if may_leave_out how then Some (record { node = d.Unnamed; name = None; own = None; height = 0 }, s) else None

module _ (text : List ℕ) (ts : List Token) where
  abbrev pub name_here : ℕ → Reading FoundDeclarator
  name_here depth s = declarator_within depth (d.Name (place_at ts s.at)) (Some (name_at text ts s.at)) None 0 (past s 1)

  -- at a name, which is the declarator's unless it has none
  abbrev pub name_or_nothing : ℕ → Naming → Reading FoundDeclarator
  name_or_nothing depth naming.Named s = name_here depth s
  name_or_nothing depth naming.NamedOrNot s = name_here depth s
  name_or_nothing depth naming.NotNamed s = no_name naming.NotNamed s

  -- Whether `(` begins a list of parameters after a name that is left out: `)` or specifiers stand after it.
  abbrev pub opens_parameters : Naming → State → Bool
  opens_parameters how s = may_leave_out how && (mark_at ts (s.at + 1) mark.RightParen || begins_specs text ts s.scope (s.at + 1))

module _ (text : List ℕ) (ts : List Token) (inner : Readers) where
  unfoldable pub parameter_at : Reading (Parameter × ℕ)
  parameter_at s = inner.specs s >>= λ p. inner.declarator naming.NamedOrNot p.1 >>= λ f.
      Some ((record { place = place_at ts s.at; specs = p.0.0; declarator = f.0.node }, max p.0.2 f.0.height), with_parameter f.0.name f.1)

  -- parameters with commas between them
  unfoldable pub some_parameters : ℕ → List Parameter → ℕ → Reading (List Parameter × ℕ)
  some_parameters zero found high s = None
  some_parameters (suc n) found high s = parameter_at s >>= λ p.
      if mark_at ts p.1.at mark.Comma then some_parameters n (found ++ p.0.0 ∷ []) (max high p.0.1) (past p.1 1)
      else Some ((found ++ p.0.0 ∷ [], max high p.0.1), p.1)

  -- up to the closing parenthesis
  unfoldable pub parameters_at : Reading (List Parameter × ℕ)
  parameters_at s =
      if mark_at ts s.at mark.RightParen then Some (([], 0), s)
      else if word_at ts s.at word.Void && mark_at ts (s.at + 1) mark.RightParen then Some (([], 0), past s 1)
      else some_parameters (length ts) [] 0 s

  -- `[ ]` or `[ size ]` after the declarator that begins at `start`
  unfoldable pub array_after : ℕ → ℕ → FoundDeclarator → Reading FoundDeclarator
  array_after depth start f s =
      if mark_at ts (s.at + 1) mark.RightBracket then declarator_within depth (d.Array (place_at ts start) f.node None) f.name f.own f.height (past s 2)
      else (inner.expression (tightness of.Conditional) (past s 1) >>= λ size. when ts size.1.at (k.Mark mark.RightBracket)
      (declarator_within depth (d.Array (place_at ts start) f.node (Some size.0.0)) f.name f.own (max f.height size.0.1) (past size.1 1)))

  -- `( parameters )` after it, with whose end their scope ends
  unfoldable pub function_after : ℕ → ℕ → FoundDeclarator → Reading FoundDeclarator
  function_after depth start f s = parameters_at (past s 1) >>= λ p. when ts p.1.at (k.Mark mark.RightParen)
      (declarator_within depth (d.Function (place_at ts start) f.node p.0.0) f.name (first_of f.own (new_since s.scope p.1.scope)) (max f.height p.0.1)
      (record { at = p.1.at + 1; scope = s.scope }))

  -- all brackets and parameters after it
  unfoldable pub parts_after : ℕ → ℕ → ℕ → FoundDeclarator → Reading FoundDeclarator
  parts_after depth start zero f s = Some (f, s)
  parts_after depth start (suc n) f s =
      if mark_at ts s.at mark.LeftBracket then (array_after depth start f s >>= λ g. parts_after depth start n g.0 g.1)
      else if mark_at ts s.at mark.LeftParen then (function_after depth start f s >>= λ g. parts_after depth start n g.0 g.1)
      else Some (f, s)

  unfoldable pub parentheses_here : Naming → Reading FoundDeclarator
  parentheses_here how s = inner.declarator how (past s 1) >>= λ f. when ts f.1.at (k.Mark mark.RightParen)
      (Some (record { node = d.Parentheses (place_at ts s.at) f.0.node; name = f.0.name; own = f.0.own; height = f.0.height + 1 }, past f.1 1))

  -- what brackets and parameters may follow
  unfoldable pub innermost : ℕ → Naming → Reading FoundDeclarator
  innermost depth how s =
      if sees ts s.at k.Name then name_or_nothing text ts depth how s
      else if mark_at ts s.at mark.LeftParen then (if opens_parameters text ts how s then no_name how s else parentheses_here how s)
      else no_name how s

  -- `*` with qualifiers, and all the rest
  unfoldable pub pointer_here : Naming → Reading FoundDeclarator
  pointer_here how s = inner.declarator how (qualifiers ts (length ts) [] (past s 1)).1 >>= λ f.
      Some (
        record {
          node = d.Pointer (place_at ts s.at) (qualifiers ts (length ts) [] (past s 1)).0 f.0.node;
          name = f.0.name;
          own = f.0.own;
          height = f.0.height + 1;
        },
        f.1,
      )

  -- A declarator that is nested no deeper than `depth`, where `inner` reads what is nested less deep.
  unfoldable pub declarator : ℕ → Naming → Reading FoundDeclarator
  declarator depth how s =
      if mark_at ts s.at mark.Star then pointer_here how s
      else (innermost depth how s >>= λ f. parts_after depth s.at depth f.0 f.1)
