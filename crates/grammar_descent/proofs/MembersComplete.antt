-- What is derived as members or as enumeration constants is read.
use Rattle.std.proofs.Common.{◌≡◌, ℕ, zero, suc, ◌+◌, ◌<◌, ◌≤◌, max, true, false, ◌&&◌, List, [], ◌∷◌, ◌++◌, length, Option, Some, refl, arith}
use Rattle.c_tokens.specs.declared.kind.Mark.TheVariants as mark
use Rattle.c_tokens.specs.declared.kind.Kind.TheVariants as k
use Rattle.c_tokens.specs.declared.token.Token.{Token}
use Rattle.c_grammar.specs.declared.words.Naming.TheVariants as naming
use Rattle.c_grammar.specs.declared.words.Level.TheVariants as of
use Rattle.c_grammar.specs.declared.phrases.Expression.{Expression}
use Rattle.c_grammar.specs.declared.words.Aggregate.{Aggregate}
use Rattle.c_grammar.specs.declared.phrases.Specifier.TheVariants as made
use Rattle.c_grammar.specs.declared.phrases.Member.{Member}
use Rattle.c_grammar.specs.declared.phrases.Enumerator.{Enumerator}
use Rattle.c_grammar.specs.declared.phrases.Declarator.{Declarator}
use Rattle.c_grammar.specs.Tokens.{kind_at, place_at, IsMark, IsName, IsOptionalName, absent, present, ClosesList, brace, comma_and_brace}
use Rattle.c_grammar.specs.Words.{is_type}
use Rattle.c_grammar.specs.Scope.{Scope}
use Rattle.c_grammar.specs.Operators.{tightness}
use Rattle.c_grammar.specs.Phrases.{IsSpecs, AreMembers, IsMember, AreDeclarators, AreEnumerators, IsEnumerator}
use Rattle.c_grammar.specs.Phrases as p
use Rattle.grammar_descent.specs.Reading.{Reading, sees, mark_at, Readers}
use Rattle.grammar_descent.specs.Follow.{ends, ends_specs}
use Rattle.grammar_descent.specs.Exact.{IsFound, CompleteExpression}
use Rattle.grammar_descent.specs.Types.{begins_specs}
use Rattle.grammar_descent.specs.SpecifierSteps as step
use Rattle.grammar_descent.proofs.Types.{specs_begin}
use Rattle.grammar_descent.proofs.Seen.{here, instead, stands_within}
use Rattle.grammar_descent.proofs.States.{state, rest_found}
use Rattle.grammar_descent.proofs.Moves.{enumerators_move, members_move}
use Rattle.grammar_descent.proofs.Counts.{declarators_counted}
use Rattle.grammar_descent.proofs.FirstTokens.{begins_no_mark, declarator_begins, ends_before}
use Rattle.grammar_descent.proofs.Nested.{Complete}

module _ (text : List ℕ) (ts : List Token) where
  pub optional_name_found : {from at : ℕ} {tag : Option ℕ} → IsOptionalName ts from at tag → IsMark ts at mark.LeftBrace →
      step.optional_name text ts from ≡ (tag, at)
  unfolding step.optional_name
  optional_name_found (absent {at}) opens = rw (instead ts at k.Name _ opens (λ h. cc)) refl
  optional_name_found (present {at} is) opens = rw (here ts at k.Name is) refl

  pub closing_found : {at to : ℕ} → ClosesList ts at to → step.closing_at text ts at ≡ Some to
  unfolding step.closing_at
  closing_found (brace {at} is) = rw (here ts at (k.Mark mark.RightBrace) is) refl
  closing_found (comma_and_brace {at} is closes) =
      rw (
        instead ts at (k.Mark mark.RightBrace) _ is (λ h. cc),
        here ts at (k.Mark mark.Comma) is,
        here ts (at + 1) (k.Mark mark.RightBrace) closes,
      ) refl

  closes_within : {at to : ℕ} → ClosesList ts at to → at < length ts
  closes_within (brace {at} is) = stands_within ts at _ is
  closes_within (comma_and_brace {at} is closes) = stands_within ts at _ is

  -- the list goes on where a name stands after the comma
  list_stops : {at to : ℕ} → ClosesList ts at to → (mark_at ts at mark.Comma && sees ts (at + 1) k.Name) ≡ false
  list_stops (brace {at} is) = rw (instead ts at (k.Mark mark.Comma) _ is (λ h. cc)) refl
  list_stops (comma_and_brace {at} is closes) =
      rw (here ts at (k.Mark mark.Comma) is, instead ts (at + 1) k.Name _ closes (λ h. cc)) refl

  member_begins : {d from to : ℕ} {scope after : Scope} {all : List Member} → AreMembers text ts d scope after from to all →
      begins_specs text ts scope from ≡ true
  member_begins (p.last_member (p.member a all ends)) = specs_begin text ts a
  member_begins (p.more_members (p.member a all ends) rest) = specs_begin text ts a

  declarators_begin : {d from to : ℕ} {scope after : Scope} {all : List Declarator} → AreDeclarators text ts d scope after from to all →
      IsMark ts to mark.Semicolon → ends_specs (kind_at ts from) ≡ true
  declarators_begin (p.last_declarator a) closes = ends_before ts (declarator_begins ts text a) (rw closes refl)
  declarators_begin (p.more_declarators a is rest) closes = ends_before ts (declarator_begins ts text a) (rw is refl)

  enumerator_named : {d from to : ℕ} {scope after : Scope} {all : List Enumerator} → AreEnumerators text ts d scope after from to all → IsName ts from
  enumerator_named (p.last_enumerator (p.without_value is)) = is
  enumerator_named (p.last_enumerator (p.with_value is sets value)) = is
  enumerator_named (p.more_enumerators (p.without_value is) goes rest) = is
  enumerator_named (p.more_enumerators (p.with_value is sets value) goes rest) = is

module _ (text : List ℕ) (ts : List Token) (depth : ℕ) (inner : Readers) (complete : Complete text ts depth inner) where
  declarators_found : {d from to : ℕ} {scope after : Scope} {all : List Declarator} → AreDeclarators text ts d scope after from to all → d < depth →
      IsMark ts to mark.Semicolon → (n : ℕ) (found : List Declarator) (high : ℕ) → length all ≤ n → high ≤ d →
      IsFound (step.declarators text ts inner n found high (state from scope)) d (λ height. (found ++ all, height)) (state to after)
  unfolding step.declarators
  declarators_found (p.last_declarator a) low closes zero found high room small = absurd (omega arith)
  declarators_found (p.last_declarator {depth = d} {from} {to} {scope} {after} {name} {own} {only} a) low closes (suc n) found high room small =
      let f = complete.declarator naming.Named d (state from scope) (state to after) only (Some name) own low a (rw closes refl) in
      let small_too = f.low in
      record { height = max high f.height; low = omega arith; is = rw (f.is, instead ts to (k.Mark mark.Comma) _ closes (λ h. cc)) refl }
  declarators_found (p.more_declarators a is rest) low closes zero found high room small = absurd (omega arith)
  declarators_found (p.more_declarators {depth = d} {from} {at} {to} {scope} {between} {after} {name} {own} {first} {rest = others} a is rest) low closes (suc n) found high room small =
      let f = complete.declarator naming.Named d (state from scope) (state at between) first (Some name) own low a (rw is refl) in
      let small_too = f.low in
      let g = rest_found found first others (declarators_found rest low closes n (found ++ first ∷ []) (max high f.height) (omega arith) (omega arith)) in
      record {
        height = g.height;
        low = g.low;
        is = rw (f.is, here ts at (k.Mark mark.Comma) is) g.is;
      }

  member_found : {d from to : ℕ} {scope after : Scope} {node : Member} → IsMember text ts d scope after from to node → d < depth →
      IsFound (step.member_at text ts inner (state from scope)) d (λ height. (node, height)) (state to after)
  unfolding step.member_at
  member_found (p.member {depth = d} {from} {at} {to} {scope} {between} {after} {roles} {specs} a all closes) low =
      let within = stands_within ts to _ closes in
      let long = declarators_counted text ts all in
      let f = complete.specs d (state from scope) (state at between) specs roles low a (declarators_begin text ts all closes) in
      let g = declarators_found all low closes (length ts) [] 0 (omega arith) (omega arith) in
      let small = f.low in
      let small_too = g.low in
      record { height = max f.height g.height; low = omega arith; is = rw (f.is, g.is, here ts to (k.Mark mark.Semicolon) closes) refl }

  pub members_found : {d from to : ℕ} {scope after : Scope} {all : List Member} → AreMembers text ts d scope after from to all → d < depth →
      IsMark ts to mark.RightBrace → (n : ℕ) (found : List Member) (high : ℕ) → length all ≤ n → high ≤ d →
      IsFound (step.members text ts inner n found high (state from scope)) d (λ height. (found ++ all, height)) (state to after)
  unfolding step.members
  members_found (p.last_member a) low closes zero found high room small = absurd (omega arith)
  members_found (p.last_member {depth = d} {from} {to} {scope} {after} {only} a) low closes (suc n) found high room small =
      let f = member_found a low in
      let small_too = f.low in
      record { height = max high f.height; low = omega arith; is = rw (f.is, here ts to (k.Mark mark.RightBrace) closes) refl }
  members_found (p.more_members a rest) low closes zero found high room small = absurd (omega arith)
  members_found (p.more_members {depth = d} {from} {at} {to} {scope} {between} {after} {first} {rest = others} a rest) low closes (suc n) found high room small =
      let f = member_found a low in
      let small_too = f.low in
      let g = rest_found found first others (members_found rest low closes n (found ++ first ∷ []) (max high f.height) (omega arith) (omega arith)) in
      record {
        height = g.height;
        low = g.low;
        is = rw (f.is, begins_no_mark text ts between at mark.RightBrace (member_begins text ts rest)) g.is;
      }

  pub members_after_found : {d from to : ℕ} {scope after : Scope} {all : List Member} → AreMembers text ts d scope after from to all → d < depth →
      IsMark ts to mark.RightBrace → (which : Aggregate) (tag : Option ℕ) (start : ℕ) →
      IsFound (step.members_after text ts inner which tag start (state from scope)) (suc d)
      (λ height. (made.Members (place_at ts start) which tag all, is_type, height)) (state (to + 1) after)
  unfolding step.members_after
  members_after_found {to} all low closes which tag start =
      let within = stands_within ts to _ closes in
      let long = members_move text ts all in
      let f = members_found all low closes (length ts) [] 0 (omega arith) (omega arith) in
      let small = f.low in
      record { height = f.height + 1; low = omega arith; is = rw (f.is, here ts to (k.Mark mark.RightBrace) closes) refl }

module _ (text : List ℕ) (ts : List Token) (depth : ℕ) (expression : ℕ → Reading (Expression × ℕ)) (complete : CompleteExpression text ts depth expression) where
  enumerator_found : {d from to : ℕ} {scope after : Scope} {node : Enumerator} → IsEnumerator text ts d scope after from to node → d ≤ depth →
      mark_at ts to mark.Equal ≡ false → ends (tightness of.Conditional) (kind_at ts to) ≡ true →
      IsFound (step.enumerator_at text ts expression (state from scope)) d (λ height. (node, height)) (state to after)
  unfolding step.enumerator_at
  enumerator_found (p.without_value {from} is) low other stops =
      record { height = 0; low = omega arith; is = rw (here ts from k.Name is, other) refl }
  enumerator_found (p.with_value {depth = d} {from} {to} {scope} {after} {value} is sets a) low other stops =
      let f = complete (tightness of.Conditional) d (state (from + 2) scope) (state to after) value low a stops in
      record { height = f.height; low = f.low; is = rw (here ts from k.Name is, here ts (from + 1) (k.Mark mark.Equal) sets, f.is) refl }

  ends_value : {at to : ℕ} → ClosesList ts at to → (mark_at ts at mark.Equal ≡ false) × (ends (tightness of.Conditional) (kind_at ts at) ≡ true)
  ends_value (brace {at} is) = (instead ts at (k.Mark mark.Equal) _ is (λ h. cc), rw is refl)
  ends_value (comma_and_brace {at} is closes) = (instead ts at (k.Mark mark.Equal) _ is (λ h. cc), rw is refl)

  enumerators_found : {d from at to : ℕ} {scope after : Scope} {all : List Enumerator} → AreEnumerators text ts d scope after from at all → d ≤ depth →
      ClosesList ts at to → (n : ℕ) (found : List Enumerator) (high : ℕ) → length all ≤ n → high ≤ d →
      IsFound (step.enumerators text ts expression n found high (state from scope)) d (λ height. (found ++ all, height)) (state at after)
  unfolding step.enumerators
  enumerators_found (p.last_enumerator a) low closes zero found high room small = absurd (omega arith)
  enumerators_found (p.last_enumerator {depth = d} {from} {to} {scope} {after} {only} a) low closes (suc n) found high room small =
      let (other, stops) = ends_value closes in
      let f = enumerator_found a low other stops in
      let small_too = f.low in
      record { height = max high f.height; low = omega arith; is = rw (f.is, list_stops text ts closes) refl }
  enumerators_found (p.more_enumerators a is rest) low closes zero found high room small = absurd (omega arith)
  enumerators_found (p.more_enumerators {depth = d} {from} {at} {to} {scope} {between} {after} {first} {rest = others} a is rest) low closes (suc n) found high room small =
      let f = enumerator_found a low (instead ts at (k.Mark mark.Equal) _ is (λ h. cc)) (rw is refl) in
      let small_too = f.low in
      let g = rest_found found first others (enumerators_found rest low closes n (found ++ first ∷ []) (max high f.height) (omega arith) (omega arith)) in
      record {
        height = g.height;
        low = g.low;
        is = rw (f.is, here ts at (k.Mark mark.Comma) is, here ts (at + 1) k.Name (enumerator_named text ts rest)) g.is;
      }

  -- from after the brace on, with what closes the list
  pub enumerators_after_found : {d from at to : ℕ} {scope after : Scope} {all : List Enumerator} → AreEnumerators text ts d scope after from at all → d ≤ depth →
      ClosesList ts at to → (tag : Option ℕ) (start : ℕ) →
      IsFound (step.enumerators_after text ts expression tag start (state from scope)) d (λ height. (made.Enumerators (place_at ts start) tag all, is_type, height))
      (state to after)
  unfolding step.enumerators_after
  enumerators_after_found all low closes tag start =
      let within = closes_within text ts closes in
      let long = enumerators_move text ts all in
      let f = enumerators_found all low closes (length ts) [] 0 (omega arith) (omega arith) in
      record { height = f.height; low = f.low; is = rw (f.is, closing_found text ts closes) refl }
