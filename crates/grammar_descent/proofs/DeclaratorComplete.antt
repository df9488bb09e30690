-- What is derived as a declarator is read.
use Rattle.std.proofs.Common.{◌≡◌, ℕ, zero, suc, ◌+◌, ◌-◌, ◌<◌, ◌≤◌, max, Bool, true, false, ◌&&◌, ◌||◌, List, [], ◌∷◌, ◌++◌, length, Option, Some, None, refl, sym, ap, ◌∙◌, arith, append-nil, inl, inr}
use Rattle.std.proofs.Common.{length-append}
use Rattle.std.proofs.Math.Seq.{take-append_seam}
use Rattle.std.proofs.lemmas.Bool.{lt-ltb, cases_Bool}
use Rattle.c_tokens.specs.declared.kind.Keyword.TheVariants as word
use Rattle.c_tokens.specs.declared.kind.Mark.TheVariants as mark
use Rattle.c_tokens.specs.declared.kind.Kind.TheVariants as k
use Rattle.c_tokens.specs.declared.token.Token.{Token}
use Rattle.c_grammar.specs.declared.words.Naming.{Naming}
use Rattle.c_grammar.specs.declared.words.Naming.TheVariants as naming
use Rattle.c_grammar.specs.declared.words.Level.TheVariants as of
use Rattle.c_grammar.specs.declared.words.Qualifier.{Qualifier}
use Rattle.c_grammar.specs.declared.words.Qualifier.TheVariants as q
use Rattle.c_grammar.specs.declared.phrases.Expression.{Expression}
use Rattle.c_grammar.specs.declared.phrases.Declarator.{Declarator}
use Rattle.c_grammar.specs.declared.phrases.Declarator.TheVariants as made
use Rattle.c_grammar.specs.declared.phrases.Parameter.{Parameter}
use Rattle.c_tokens.specs.Names.{Name}
use Rattle.token_texts.specs.Names.{name_at}
use Rattle.c_grammar.specs.Tokens.{kind_at, place_at, IsMark, IsName}
use Rattle.c_grammar.specs.Scope.{Scope, first_of}
use Rattle.c_grammar.specs.Operators.{tightness}
use Rattle.c_grammar.specs.Phrases.{DeclaratorKind, whole, direct, MayEnclose, AreQualifiers, IsExpression, IsSpecs, IsDeclarator, AreParameters, AreSomeParameters, IsParameter}
use Rattle.c_grammar.specs.Phrases as p
use Rattle.grammar_descent.specs.Reading.{State, ◌>>=◌, sees, mark_at, word_at, FoundDeclarator, Readers}
use Rattle.grammar_descent.specs.Follow.{ends_specs, ends_declarator}
use Rattle.grammar_descent.specs.Exact.{IsFound, CompleteDeclarator}
use Rattle.grammar_descent.specs.Types.{begins_specs}
use Rattle.grammar_descent.specs.DeclaratorSteps as step
use Rattle.grammar_descent.specs.DeclaratorSteps.{declarator_within, no_name, may_leave_out, opens_parameters, new_since}
use Rattle.grammar_descent.proofs.Types.{specs_begin}
use Rattle.grammar_descent.proofs.Seen.{here, not_here, instead, stands, stands_within}
use Rattle.grammar_descent.proofs.States.{state, rest_found, apart_by, added, as_found}
use Rattle.grammar_descent.proofs.Counts.{qualifiers_counted, parameters_counted}
use Rattle.grammar_descent.proofs.FirstTokens.{closes_none, begins_no_mark, void_begins, declarator_begins, ends_before, begins_no_star, begins_no_word, encloses, BeginsDeclarator}
use Rattle.grammar_descent.proofs.Nested.{Complete}

-- what a list of parameters declares
pub own_is : (own scope : Scope) → new_since scope (own ++ scope) ≡ own
own_is own scope =
    let e : length (own ++ scope) - length scope ≡ length own = omega (arith, length-append own scope) in
    rw e (take-append_seam own scope)

module _ (ts : List Token) where
  pub qualifiers_found : {from to : ℕ} {all : List Qualifier} → AreQualifiers ts from to all → (scope : Scope) (n : ℕ) (found : List Qualifier) → length all ≤ n →
      word_at ts to word.Const ≡ false → word_at ts to word.Restrict ≡ false →
      step.qualifiers ts n found (state from scope) ≡ (found ++ all, state to scope)
  unfolding step.qualifiers
  qualifiers_found (p.none {at}) scope zero found room a b = ap (λ l. (l, state at scope)) (sym (append-nil found))
  qualifiers_found (p.none {at}) scope (suc n) found room a b = rw (a, b) (ap (λ l. (l, state at scope)) (sym (append-nil found)))
  qualifiers_found (p.const is rest) scope zero found room a b = absurd (omega arith)
  qualifiers_found (p.const {from} {to} {rest = others} is rest) scope (suc n) found room a b =
      rw (here ts from (k.Word word.Const) is)
      (qualifiers_found rest scope n (found ++ q.Const ∷ []) (omega arith) a b ∙ ap (λ l. (l, state to scope)) (added found q.Const others))
  qualifiers_found (p.restrict is rest) scope zero found room a b = absurd (omega arith)
  qualifiers_found (p.restrict {from} {to} {rest = others} is rest) scope (suc n) found room a b =
      rw (instead ts from (k.Word word.Const) _ is (λ h. cc), here ts from (k.Word word.Restrict) is)
      (qualifiers_found rest scope n (found ++ q.Restrict ∷ []) (omega arith) a b ∙ ap (λ l. (l, state to scope)) (added found q.Restrict others))

module _ (text : List ℕ) (ts : List Token) (depth : ℕ) (inner : Readers) (complete : Complete text ts depth inner) where
  -- ---- parameters

  parameter_found : {d from to : ℕ} {scope after : Scope} {node : Parameter} → IsParameter text ts d scope after from to node → d < depth →
      ends_declarator (kind_at ts to) ≡ true → ends_specs (kind_at ts to) ≡ true →
      IsFound (step.parameter_at text ts inner (state from scope)) d (λ height. (node, height)) (state to after)
  unfolding step.parameter_at
  parameter_found (p.with_name {depth = d} {from} {at} {to} {scope} {between} {after} {roles} {name} {own} {specs} {declarator} a b) low ends also =
      let f = complete.specs d (state from scope) (state at between) specs roles low a (ends_before ts (declarator_begins ts text b) also) in
      let g = complete.declarator naming.NamedOrNot d (state at between) (state to after) declarator (Some name) own low b ends in
      let small = f.low in
      let small_too = g.low in
      record { height = max f.height g.height; low = omega arith; is = rw (f.is, g.is) refl }
  parameter_found (p.without_name {depth = d} {from} {at} {to} {scope} {between} {after} {roles} {own} {specs} {declarator} a b) low ends also =
      let f = complete.specs d (state from scope) (state at between) specs roles low a (ends_before ts (declarator_begins ts text b) also) in
      let g = complete.declarator naming.NamedOrNot d (state at between) (state to after) declarator None own low b ends in
      let small = f.low in
      let small_too = g.low in
      record { height = max f.height g.height; low = omega arith; is = rw (f.is, g.is) refl }

  some_parameters_found : {d from to : ℕ} {scope after : Scope} {all : List Parameter} → AreSomeParameters text ts d scope after from to all → d < depth →
      IsMark ts to mark.RightParen → (n : ℕ) (found : List Parameter) (high : ℕ) → length all ≤ n → high ≤ d →
      IsFound (step.some_parameters text ts inner n found high (state from scope)) d (λ height. (found ++ all, height)) (state to after)
  unfolding step.some_parameters
  some_parameters_found (p.last_parameter a) low closes zero found high room small = absurd (omega arith)
  some_parameters_found (p.last_parameter {depth = d} {from} {to} {scope} {after} {only} a) low closes (suc n) found high room small =
      let f = parameter_found a low (rw closes refl) (rw closes refl) in
      let small_too = f.low in
      record { height = max high f.height; low = omega arith; is = rw (f.is, instead ts to (k.Mark mark.Comma) _ closes (λ h. cc)) refl }
  some_parameters_found (p.more_parameters a is rest) low closes zero found high room small = absurd (omega arith)
  some_parameters_found (p.more_parameters {depth = d} {from} {at} {to} {scope} {between} {after} {first} {rest = others} a is rest) low closes (suc n) found high room small =
      let f = parameter_found a low (rw is refl) (rw is refl) in
      let small_too = f.low in
      let g = rest_found found first others (some_parameters_found rest low closes n (found ++ first ∷ []) (max high f.height) (omega arith) (omega arith)) in
      record {
        height = g.height;
        low = g.low;
        is = rw (f.is, here ts at (k.Mark mark.Comma) is) g.is;
      }

  parameter_begins : {d from to : ℕ} {scope after : Scope} {all : List Parameter} → AreSomeParameters text ts d scope after from to all →
      begins_specs text ts scope from ≡ true
  parameter_begins (p.last_parameter (p.with_name a b)) = specs_begin text ts a
  parameter_begins (p.last_parameter (p.without_name a b)) = specs_begin text ts a
  parameter_begins (p.more_parameters (p.with_name a b) is rest) = specs_begin text ts a
  parameter_begins (p.more_parameters (p.without_name a b) is rest) = specs_begin text ts a

  no_void_alone : (at : ℕ) → (kind_at ts at ≡ Some (k.Word word.Void) → IsMark ts (at + 1) mark.RightParen → ⊥) →
      (word_at ts at word.Void && mark_at ts (at + 1) mark.RightParen) ≡ false
  no_void_alone at other = by_test (word_at ts at word.Void) refl
    where
      by_test : (b : Bool) → word_at ts at word.Void ≡ b → (b && mark_at ts (at + 1) mark.RightParen) ≡ false
      by_test true is = not_here ts (at + 1) (k.Mark mark.RightParen) (other (stands ts at (k.Word word.Void) is))
      by_test false is = refl

  pub parameters_found : {d from to : ℕ} {scope own : Scope} {all : List Parameter} → AreParameters text ts d scope own from to all → d < depth →
      IsMark ts to mark.RightParen → IsFound (step.parameters_at text ts inner (state from scope)) d (λ height. (all, height)) (state to (own ++ scope))
  unfolding step.parameters_at
  parameters_found (p.no_parameters {at}) low closes =
      record { height = 0; low = omega arith; is = rw (here ts at (k.Mark mark.RightParen) closes) refl }
  parameters_found (p.only_void {at} is also) low closes =
      record {
        height = 0;
        low = omega arith;
        is =
            rw (
              instead ts at (k.Mark mark.RightParen) _ is (λ h. cc),
              here ts at (k.Word word.Void) is,
              here ts (at + 1) (k.Mark mark.RightParen) also,
            ) refl;
      }
  parameters_found (p.parameters {depth = d} {from} {to} {scope} {own} {all} other each) low closes =
      let within = stands_within ts to _ closes in
      let long = parameters_counted text ts each in
      let f = some_parameters_found each low closes (length ts) [] 0 (omega arith) (omega arith) in
      record {
        height = f.height;
        low = f.low;
        is = rw (begins_no_mark text ts scope from mark.RightParen (parameter_begins each), no_void_alone from other) f.is;
      }

  -- a list of parameters begins so
  parameters_begin : {d from to : ℕ} {scope own : Scope} {all : List Parameter} → AreParameters text ts d scope own from to all → IsMark ts to mark.RightParen →
      (mark_at ts from mark.RightParen || begins_specs text ts scope from) ≡ true
  parameters_begin (p.no_parameters {at}) closes = rw (here ts at (k.Mark mark.RightParen) closes) refl
  parameters_begin (p.only_void {at} {scope} is also) closes =
      rw (instead ts at (k.Mark mark.RightParen) _ is (λ h. cc), void_begins text ts scope at is) refl
  parameters_begin (p.parameters {from} {scope} other each) closes =
      rw (begins_no_mark text ts scope from mark.RightParen (parameter_begins each), parameter_begins each) refl

  -- ---- what stands after a name

  -- Such a token stands there that a name that is left out before it is seen to be left out.
  record IsUnread (how : Naming) (s : State) : Type 0 where
    no_name : sees ts s.at k.Name ≡ false
    opens : mark_at ts s.at mark.LeftParen ≡ true → may_leave_out how ≡ true → opens_parameters text ts how s ≡ true

  bracket_unread : (how : Naming) (at : ℕ) (scope : Scope) → IsMark ts at mark.LeftBracket → IsUnread how (state at scope)
  bracket_unread how at scope is = record {
    no_name = instead ts at k.Name _ is (λ h. cc);
    opens = λ opened. absurd (let other = instead ts at (k.Mark mark.LeftParen) _ is (λ h. cc) in cc);
  }

  parameters_unread : (how : Naming) (at : ℕ) (scope : Scope) → IsMark ts at mark.LeftParen →
      (mark_at ts (at + 1) mark.RightParen || begins_specs text ts scope (at + 1)) ≡ true → IsUnread how (state at scope)
  parameters_unread how at scope is begins = record {
    no_name = instead ts at k.Name _ is (λ h. cc);
    opens = λ opened out. rw (out, begins) refl;
  }

  ended_unread : (how : Naming) (at : ℕ) (scope : Scope) → ends_declarator (kind_at ts at) ≡ true → IsUnread how (state at scope)
  ended_unread how at scope ends = record {
    no_name = apart_by ts at k.Name ends_declarator ends refl;
    opens = λ opened. absurd (let other = apart_by ts at (k.Mark mark.LeftParen) ends_declarator ends refl in cc);
  }

  -- the run of the loop at the end of which the declarator stands, with turns left for all that may follow
  record Reaches (how : Naming) (d : ℕ) (s t : State) (node : Declarator) (name : Option Name) (own : Option Scope) : Type 0 where
    turns : ℕ
    height : ℕ
    low : height ≤ d
    enough : depth ≤ turns + height
    comes : (step.innermost text ts inner depth how s >>= λ f. step.parts_after text ts inner depth s.at depth f.0 f.1)
        ≡ step.parts_after text ts inner depth s.at turns (as_found node name own height) t

  first : (how : Naming) (d : ℕ) (s t : State) (node : Declarator) (name : Option Name) (own : Option Scope) (height : ℕ) → height ≤ d →
      step.innermost text ts inner depth how s ≡ Some (as_found node name own height, t) → Reaches how d s t node name own
  first how d s t node name own height low is = record { turns = depth; height = height; low = low; enough = omega arith; comes = rw is refl }

  array_next : (start n : ℕ) (f g : FoundDeclarator) (s t : State) → IsMark ts s.at mark.LeftBracket →
      step.array_after text ts inner depth start f s ≡ Some (g, t) →
      step.parts_after text ts inner depth start (suc n) f s ≡ step.parts_after text ts inner depth start n g t
  unfolding step.parts_after
  array_next start n f g s t is found = rw (here ts s.at (k.Mark mark.LeftBracket) is, found) refl

  function_next : (start n : ℕ) (f g : FoundDeclarator) (s t : State) → IsMark ts s.at mark.LeftParen →
      step.function_after text ts inner depth start f s ≡ Some (g, t) →
      step.parts_after text ts inner depth start (suc n) f s ≡ step.parts_after text ts inner depth start n g t
  unfolding step.parts_after
  function_next start n f g s t is found =
      rw (instead ts s.at (k.Mark mark.LeftBracket) _ is (λ h. cc), here ts s.at (k.Mark mark.LeftParen) is, found) refl

  no_next : (start n : ℕ) (f : FoundDeclarator) (s : State) → ends_declarator (kind_at ts s.at) ≡ true →
      step.parts_after text ts inner depth start n f s ≡ Some (f, s)
  unfolding step.parts_after
  no_next start zero f s ends = refl
  no_next start (suc n) f s ends =
      rw (
        apart_by ts s.at (k.Mark mark.LeftBracket) ends_declarator ends refl,
        apart_by ts s.at (k.Mark mark.LeftParen) ends_declarator ends refl,
      ) refl

  -- one part more
  grows : (how : Naming) (d high : ℕ) (s t u : State) (inside node : Declarator) (name : Option Name) (before own : Option Scope)
      (l : Reaches how d s t inside name before) → d < depth → l.height ≤ high → high ≤ d →
      ((n : ℕ) → step.parts_after text ts inner depth s.at (suc n) (as_found inside name before l.height) t
      ≡ step.parts_after text ts inner depth s.at n (as_found node name own (high + 1)) u) →
      Reaches how (suc d) s u node name own
  grows how d high s t u inside node name before own l deep tall small turn =
      let low = l.low in
      let enough = l.enough in
      let more : l.turns ≡ suc (l.turns - 1) = omega arith in
      record {
        turns = l.turns - 1;
        height = high + 1;
        low = omega arith;
        enough = omega arith;
        comes = l.comes ∙ ap (λ n. step.parts_after text ts inner depth s.at n (as_found inside name before l.height) t) more ∙ turn (l.turns - 1);
      }

  -- ---- how it begins

  nameless_found : (how : Naming) (s : State) → may_leave_out how ≡ true → IsUnread how s →
      step.innermost text ts inner depth how s ≡ Some (as_found made.Unnamed None None 0, s)
  unfolding step.innermost
  nameless_found how s out unread = elim (cases_Bool (mark_at ts s.at mark.LeftParen)) [
    | inl opened ↦ rw (unread.no_name, opened, unread.opens opened out, out) refl
    | inr other ↦ rw (unread.no_name, other, out) refl
  ]

  in_parentheses_found : {how : Naming} {d from to : ℕ} {scope after : Scope} {name : Option Name} {own : Option Scope} {inside : Declarator} →
      IsMark ts from mark.LeftParen → MayEnclose text ts how scope (from + 1) →
      IsDeclarator text ts how whole d scope after (from + 1) to name own inside → from + 1 < to → IsMark ts to mark.RightParen → d < depth →
      Reaches how (suc d) (state from scope) (state (to + 1) after) (made.Parentheses (place_at ts from) inside) name own
  unfolding step.innermost step.parentheses_here
  in_parentheses_found {how} {d} {from} {to} {scope} {after} {name} {own} {inside} opens may a some closes deep =
      let f = complete.declarator how d (state (from + 1) scope) (state to after) inside name own deep a (rw closes refl) in
      let low = f.low in
      first how (suc d) (state from scope) (state (to + 1) after) (made.Parentheses (place_at ts from) inside) name own (f.height + 1) (omega arith)
      (rw (
        instead ts from k.Name _ opens (λ h. cc),
        here ts from (k.Mark mark.LeftParen) opens,
        not_parameters how may (declarator_begins ts text a),
        f.is,
        here ts to (k.Mark mark.RightParen) closes,
      ) refl)
    where
      not_parameters : (how : Naming) → MayEnclose text ts how scope (from + 1) → BeginsDeclarator ts how whole (from + 1) to →
          opens_parameters text ts how (state from scope) ≡ false
      not_parameters naming.Named may begins = refl
      not_parameters naming.NamedOrNot may begins = encloses ts text scope begins refl may some
      not_parameters naming.NotNamed may begins = encloses ts text scope begins refl may some

  declared_found : (d from : ℕ) (scope : Scope) → IsName ts from → d < depth →
      Reaches naming.Named (suc d) (state from scope) (state (from + 1) scope) (made.Name (place_at ts from)) (Some (name_at text ts from)) None
  unfolding step.innermost
  declared_found d from scope is deep =
      first naming.Named (suc d) (state from scope) (state (from + 1) scope) (made.Name (place_at ts from)) (Some (name_at text ts from)) None 1 (omega arith)
      (rw (here ts from k.Name is, lt-ltb 0 depth (omega arith)) refl)

  parameter_name_found : (d from : ℕ) (scope : Scope) → IsName ts from → d < depth →
      Reaches naming.NamedOrNot (suc d) (state from scope) (state (from + 1) scope) (made.Name (place_at ts from)) (Some (name_at text ts from)) None
  unfolding step.innermost
  parameter_name_found d from scope is deep =
      first naming.NamedOrNot (suc d) (state from scope) (state (from + 1) scope) (made.Name (place_at ts from)) (Some (name_at text ts from)) None 1 (omega arith)
      (rw (here ts from k.Name is, lt-ltb 0 depth (omega arith)) refl)

  -- ---- the whole

  open_array_found : (start height : ℕ) (at : ℕ) (scope : Scope) (inside : Declarator) (name : Option Name) (own : Option Scope) → IsMark ts (at + 1) mark.RightBracket →
      height < depth →
      step.array_after text ts inner depth start (as_found inside name own height) (state at scope)
      ≡ Some (as_found (made.Array (place_at ts start) inside None) name own (height + 1), state (at + 2) scope)
  unfolding step.array_after
  open_array_found start height at scope inside name own closes low = rw (here ts (at + 1) (k.Mark mark.RightBracket) closes, lt-ltb height depth low) refl

  array_found : (start height high d at to : ℕ) (between after : Scope) (inside : Declarator) (name : Option Name) (own : Option Scope) (size : Expression) →
      IsExpression text ts d (tightness of.Conditional) between after (at + 1) to size → inner.expression (tightness of.Conditional) (state (at + 1) between) ≡ Some ((size, high), state to after) →
      IsMark ts to mark.RightBracket → max height high < depth →
      step.array_after text ts inner depth start (as_found inside name own height) (state at between)
      ≡ Some (as_found (made.Array (place_at ts start) inside (Some size)) name own (max height high + 1), state (to + 1) after)
  unfolding step.array_after
  array_found start height high d at to between after inside name own size b found closes low =
      rw (
        not_here ts (at + 1) (k.Mark mark.RightBracket) (closes_none text ts b),
        found,
        here ts to (k.Mark mark.RightBracket) closes,
        lt-ltb (max height high) depth low,
      ) refl

  function_found : (start height high at to : ℕ) (after parameters : Scope) (inside : Declarator) (name : Option Name) (own : Option Scope) (all : List Parameter) →
      step.parameters_at text ts inner (state (at + 1) after) ≡ Some ((all, high), state to (parameters ++ after)) →
      IsMark ts to mark.RightParen → max height high < depth →
      step.function_after text ts inner depth start (as_found inside name own height) (state at after)
      ≡ Some (as_found (made.Function (place_at ts start) inside all) name (first_of own parameters) (max height high + 1), state (to + 1) after)
  unfolding step.function_after
  function_found start height high at to after parameters inside name own all found closes low =
      rw (found, here ts to (k.Mark mark.RightParen) closes, lt-ltb (max height high) depth low, own_is parameters after) refl

  reaches : {how : Naming} {d from to : ℕ} {scope after : Scope} {name : Option Name} {own : Option Scope} {node : Declarator} →
      IsDeclarator text ts how direct d scope after from to name own node → d ≤ depth → IsUnread how (state to after) →
      Reaches how d (state from scope) (state to after) node name own
  reaches (p.declared_name {depth = d} {from} {scope} is) deep unread = declared_found d from scope is (omega arith)
  reaches (p.parameter_name {depth = d} {from} {scope} is) deep unread = parameter_name_found d from scope is (omega arith)
  reaches (p.no_name {depth = d} {at} {scope}) deep unread =
      first naming.NotNamed d (state at scope) (state at scope) made.Unnamed None None 0 (omega arith) (nameless_found naming.NotNamed (state at scope) refl unread)
  reaches (p.no_parameter_name {depth = d} {at} {scope}) deep unread =
      first naming.NamedOrNot d (state at scope) (state at scope) made.Unnamed None None 0 (omega arith)
      (nameless_found naming.NamedOrNot (state at scope) refl unread)
  reaches (p.in_parentheses opens may a some closes) deep unread = in_parentheses_found opens may a some closes (omega arith)
  reaches {how} (p.open_array {depth = d} {from} {at} {scope} {after} {name} {own} {inner = inside} a opens closes) deep unread =
      let l = reaches a (omega arith) (bracket_unread how at after opens) in
      let low = l.low in
      grows how d l.height (state from scope) (state at after) (state (at + 2) after) inside (made.Array (place_at ts from) inside None) name own own l (omega arith) (omega arith) low
      (λ n. array_next from n (as_found inside name own l.height) (as_found (made.Array (place_at ts from) inside None) name own (l.height + 1)) (state at after) (state (at + 2) after) opens
      (open_array_found from l.height at after inside name own closes (omega arith)))
  reaches {how} (p.array {depth = d} {from} {at} {to} {scope} {between} {after} {name} {own} {inner = inside} {size} a opens b closes) deep unread =
      let l = reaches a (omega arith) (bracket_unread how at between opens) in
      let f = complete.expression (tightness of.Conditional) d (state (at + 1) between) (state to after) size (omega arith) b (rw closes refl) in
      let low = l.low in
      let low_too = f.low in
      let small : max l.height f.height < depth = omega arith in
      grows how d (max l.height f.height) (state from scope) (state at between) (state (to + 1) after) inside (made.Array (place_at ts from) inside (Some size)) name own own l
      (omega arith) (omega arith) (omega arith)
      (λ n. array_next from n (as_found inside name own l.height) (as_found (made.Array (place_at ts from) inside (Some size)) name own (max l.height f.height + 1)) (state at between)
      (state (to + 1) after) opens (array_found from l.height f.height d at to between after inside name own size b f.is closes small))
  reaches {how} (p.function {depth = d} {from} {at} {to} {scope} {after} {parameters} {name} {own} {inner = inside} {all} a opens list closes) deep unread =
      let l = reaches a (omega arith) (parameters_unread how at after opens (parameters_begin list closes)) in
      let f = parameters_found list (omega arith) closes in
      let low = l.low in
      let low_too = f.low in
      let small : max l.height f.height < depth = omega arith in
      grows how d (max l.height f.height) (state from scope) (state at after) (state (to + 1) after) inside (made.Function (place_at ts from) inside all) name own
      (first_of own parameters) l (omega arith) (omega arith) (omega arith)
      (λ n. function_next from n (as_found inside name own l.height) (as_found (made.Function (place_at ts from) inside all) name (first_of own parameters) (max l.height f.height + 1))
      (state at after) (state (to + 1) after) opens (function_found from l.height f.height at to after parameters inside name own all f.is closes small))

  -- what begins with no `*`
  direct_found : {how : Naming} {d from to : ℕ} {scope after : Scope} {name : Option Name} {own : Option Scope} {node : Declarator} →
      IsDeclarator text ts how direct d scope after from to name own node → d ≤ depth → ends_declarator (kind_at ts to) ≡ true →
      IsFound (step.declarator text ts inner depth how (state from scope)) d (λ height. as_found node name own height) (state to after)
  unfolding step.declarator
  direct_found {how} {d} {from} {to} {scope} {after} {name} {own} {node} is deep ends =
      let r = reaches is deep (ended_unread how to after ends) in
      record {
        height = r.height;
        low = r.low;
        is = rw (begins_no_star ts (declarator_begins ts text is) ends) (r.comes ∙ no_next from r.turns (as_found node name own r.height) (state to after) ends);
      }

  pointer_found : (from : ℕ) {how : Naming} {d at to : ℕ} {scope after : Scope} {name : Option Name} {own : Option Scope} {all : List Qualifier} {node : Declarator} →
      IsMark ts from mark.Star → AreQualifiers ts (from + 1) at all → IsDeclarator text ts how whole d scope after at to name own node →
      d < depth → ends_declarator (kind_at ts to) ≡ true →
      IsFound (step.declarator text ts inner depth how (state from scope)) (suc d) (λ height. as_found (made.Pointer (place_at ts from) all node) name own height) (state to after)
  unfolding step.declarator step.pointer_here
  pointer_found from {how} {d} {at} {to} {scope} {after} {name} {own} {all} {node} is each a deep ends =
      let begins = declarator_begins ts text a in
      let within = stands_within ts from _ is in
      let room : length all ≤ length ts = (let h = qualifiers_counted text ts each (omega arith) in omega arith) in
      let e = qualifiers_found ts each scope (length ts) [] room (begins_no_word ts word.Const refl begins ends) (begins_no_word ts word.Restrict refl begins ends) in
      let f = complete.declarator how d (state at scope) (state to after) node name own deep a ends in
      let low = f.low in
      record { height = f.height + 1; low = omega arith; is = rw (here ts from (k.Mark mark.Star) is, e, f.is) refl }

  pub declarator_found : {how : Naming} {d from to : ℕ} {scope after : Scope} {name : Option Name} {own : Option Scope} {node : Declarator} →
      IsDeclarator text ts how whole d scope after from to name own node → d ≤ depth → ends_declarator (kind_at ts to) ≡ true →
      IsFound (step.declarator text ts inner depth how (state from scope)) d (λ height. as_found node name own height) (state to after)
  declarator_found (p.declared_name is) deep ends = direct_found (p.declared_name is) deep ends
  declarator_found (p.parameter_name is) deep ends = direct_found (p.parameter_name is) deep ends
  declarator_found p.no_name deep ends = direct_found p.no_name deep ends
  declarator_found p.no_parameter_name deep ends = direct_found p.no_parameter_name deep ends
  declarator_found (p.pointer {from} is all a) deep ends = pointer_found from is all a (omega arith) ends
  declarator_found (p.in_parentheses opens may a some closes) deep ends = direct_found (p.in_parentheses opens may a some closes) deep ends
  declarator_found (p.open_array a opens closes) deep ends = direct_found (p.open_array a opens closes) deep ends
  declarator_found (p.array a opens b closes) deep ends = direct_found (p.array a opens b closes) deep ends
  declarator_found (p.function a opens all closes) deep ends = direct_found (p.function a opens all closes) deep ends

  pub complete_declarator : CompleteDeclarator text ts depth (step.declarator text ts inner depth)
  complete_declarator how d s t found name own deep is ends = declarator_found is deep ends
