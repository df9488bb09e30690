-- What is derived as specifiers is read.
use Rattle.std.proofs.Common.{◌≡◌, ℕ, zero, suc, ◌+◌, ◌<◌, ◌≤◌, max, Bool, true, false, not, ◌&&◌, List, [], ◌∷◌, ◌++◌, length, Option, Some, None, refl, sym, ap, ◌∙◌, arith, append-nil}
use Rattle.c_tokens.specs.declared.kind.Keyword.{Keyword}
use Rattle.c_tokens.specs.declared.kind.Keyword.TheVariants as word
use Rattle.c_tokens.specs.declared.kind.Mark.TheVariants as mark
use Rattle.c_tokens.specs.declared.kind.Kind.{Kind}
use Rattle.c_tokens.specs.declared.kind.Kind.TheVariants as k
use Rattle.c_tokens.specs.declared.token.Token.{Token}
use Rattle.c_grammar.specs.declared.words.Storage.{Storage}
use Rattle.c_grammar.specs.declared.words.Storage.TheVariants as st
use Rattle.c_grammar.specs.declared.words.Qualifier.{Qualifier}
use Rattle.c_grammar.specs.declared.words.Qualifier.TheVariants as q
use Rattle.c_grammar.specs.declared.words.BasicWord.{BasicWord}
use Rattle.c_grammar.specs.declared.words.BasicWord.TheVariants as b
use Rattle.c_grammar.specs.declared.words.Aggregate.{Aggregate}
use Rattle.c_grammar.specs.declared.words.Aggregate.TheVariants as ag
use Rattle.c_grammar.specs.declared.phrases.Expression.{Expression}
use Rattle.c_grammar.specs.declared.phrases.Specs.{Specs}
use Rattle.c_grammar.specs.declared.phrases.Member.{Member}
use Rattle.c_grammar.specs.declared.phrases.Enumerator.{Enumerator}
use Rattle.c_grammar.specs.declared.phrases.Specifier.{Specifier}
use Rattle.c_grammar.specs.declared.phrases.Specifier.TheVariants as made
use Rattle.token_texts.specs.Names.{name_at}
use Rattle.c_grammar.specs.Tokens.{kind_at, place_at, IsMark, IsWord, IsName, IsOptionalName, ClosesList, brace, comma_and_brace}
use Rattle.c_grammar.specs.Words.{storage_word, qualifier_word, basic_word, aggregate_word, Role, is_type, HoldsNoType, HoldsOneType}
use Rattle.c_grammar.specs.Scope.{Scope, IsType}
use Rattle.c_grammar.specs.Phrases.{IsSpecs, AreSpecifiers, IsSpecifier, AreMembers, AreEnumerators}
use Rattle.c_grammar.specs.Phrases as p
use Rattle.grammar_descent.specs.Reading.{State, Reading, mark_at, Readers}
use Rattle.grammar_descent.specs.Follow.{ends_specs, is_specifier_word}
use Rattle.grammar_descent.specs.Exact.{IsFound, CompleteExpression, CompleteSpecs}
use Rattle.grammar_descent.specs.SpecifierSteps as step
use Rattle.grammar_descent.specs.SpecifierSteps.{Lead, word_lead, lead_by, lead_or, FoundSpecifier}
use Rattle.grammar_descent.proofs.Types.{specifier_begins, type_found}
use Rattle.grammar_descent.proofs.Seen.{here, stands_within}
use Rattle.grammar_descent.proofs.States.{state, added, apart_by}
use Rattle.grammar_descent.proofs.Moves.{specifier_moves}
use Rattle.grammar_descent.proofs.FirstTokens.{begins_no_mark}
use Rattle.grammar_descent.proofs.Nested.{Complete}
use Rattle.grammar_descent.proofs.WordCounts.{one_type_found, no_type_found, not_none}
use Rattle.grammar_descent.proofs.MembersComplete.{optional_name_found, members_after_found, enumerators_after_found}

-- ---- what begins a specifier

storage_leads : (which : Storage) → word_lead (storage_word which) ≡ Some (step.storage_word which)
storage_leads st.Typedef = refl
storage_leads st.Extern = refl
storage_leads st.Static = refl
storage_leads st.Register = refl
storage_leads st.Auto = refl

qualifier_leads : (which : Qualifier) → word_lead (qualifier_word which) ≡ Some (step.qualifier_word which)
qualifier_leads q.Const = refl
qualifier_leads q.Restrict = refl
qualifier_leads q.Inline = refl

basic_leads : (which : BasicWord) → word_lead (basic_word which) ≡ Some (step.basic_word which)
basic_leads b.Void = refl
basic_leads b.Char = refl
basic_leads b.Short = refl
basic_leads b.Int = refl
basic_leads b.Long = refl
basic_leads b.Signed = refl
basic_leads b.Unsigned = refl

aggregate_leads : (which : Aggregate) → word_lead (aggregate_word which) ≡ Some (step.aggregate_word which)
aggregate_leads ag.Struct = refl
aggregate_leads ag.Union = refl

no_word_leads : (w : Keyword) → not (is_specifier_word w) ≡ true → word_lead w ≡ None
no_word_leads word.Typedef h = absurd cc
no_word_leads word.Extern h = absurd cc
no_word_leads word.Static h = absurd cc
no_word_leads word.Register h = absurd cc
no_word_leads word.Auto h = absurd cc
no_word_leads word.Const h = absurd cc
no_word_leads word.Restrict h = absurd cc
no_word_leads word.Inline h = absurd cc
no_word_leads word.Void h = absurd cc
no_word_leads word.Char h = absurd cc
no_word_leads word.Short h = absurd cc
no_word_leads word.Int h = absurd cc
no_word_leads word.Long h = absurd cc
no_word_leads word.Signed h = absurd cc
no_word_leads word.Unsigned h = absurd cc
no_word_leads word.Struct h = absurd cc
no_word_leads word.Union h = absurd cc
no_word_leads word.Enum h = absurd cc
no_word_leads _ h = refl

nothing_leads : (kind : Option Kind) (free : Bool) → free ≡ false → ends_specs kind ≡ true → lead_by kind free ≡ None
nothing_leads None free taken h = refl
nothing_leads (Some (k.Word w)) free taken h = no_word_leads w h
nothing_leads (Some k.Name) free taken h = rw taken refl
nothing_leads (Some (k.Number n t)) free taken h = refl
nothing_leads (Some (k.Char c)) free taken h = refl
nothing_leads (Some k.Str) free taken h = refl
nothing_leads (Some (k.Mark m)) free taken h = refl

and_false : (a b : Bool) → b ≡ false → (a && b) ≡ false
and_false true b h = h
and_false false b h = refl

module _ (text : List ℕ) (ts : List Token) where
  word_leads : (earlier : List Role) (at : ℕ) (scope : Scope) (w : Keyword) (lead : Lead) → IsWord ts at w → word_lead w ≡ Some lead →
      step.lead_at text ts earlier (state at scope) ≡ Some lead
  unfolding step.lead_at
  word_leads earlier at scope w lead is leads = rw (is, leads) refl

  type_leads : (earlier : List Role) (at : ℕ) (scope : Scope) → IsName ts at → IsType scope (name_at text ts at) → HoldsNoType earlier →
      step.lead_at text ts earlier (state at scope) ≡ Some step.typedef_name
  unfolding step.lead_at
  type_leads earlier at scope is known none = rw (is, type_found known, no_type_found none) refl

  specs_end : (roles : List Role) (at : ℕ) (scope : Scope) → HoldsOneType roles → ends_specs (kind_at ts at) ≡ true →
      step.lead_at text ts roles (state at scope) ≡ None
  unfolding step.lead_at
  specs_end roles at scope one ends = nothing_leads (kind_at ts at) _ (and_false _ _ (not_none one)) ends

  -- ---- how many

  closing_fits : {at to : ℕ} → ClosesList ts at to → to ≤ length ts
  closing_fits (brace {at} is) = let h = stands_within ts at _ is in omega arith
  closing_fits (comma_and_brace {at} is closes) = let h = stands_within ts (at + 1) _ closes in omega arith

  specifier_fits : {d from to : ℕ} {scope after : Scope} {earlier : List Role} {role : Role} {node : Specifier} →
      IsSpecifier text ts d scope after earlier role from to node → to ≤ length ts
  specifier_fits (p.storage {from} which is) = let h = stands_within ts from _ is in omega arith
  specifier_fits (p.qualifier {from} which is) = let h = stands_within ts from _ is in omega arith
  specifier_fits (p.basic {from} which is) = let h = stands_within ts from _ is in omega arith
  specifier_fits (p.members {to} which is named opens all closes) = let h = stands_within ts to _ closes in omega arith
  specifier_fits (p.tag {from} which is named) = let h = stands_within ts (from + 1) _ named in omega arith
  specifier_fits (p.enumerators is named opens all closes) = closing_fits closes
  specifier_fits (p.enum_tag {from} is named) = let h = stands_within ts (from + 1) _ named in omega arith
  specifier_fits (p.named_type {from} is known none) = let h = stands_within ts from _ is in omega arith

  counted_from : {d from to : ℕ} {scope after : Scope} {earlier roles : List Role} {all : List Specifier} →
      AreSpecifiers text ts d scope after earlier roles from to all → from ≤ length ts → from + length all ≤ length ts
  counted_from p.no_specifiers within = omega arith
  counted_from (p.more_specifiers a rest) within =
      let i = specifier_moves text ts a in
      let j = counted_from rest (specifier_fits a) in
      omega arith

  specifiers_counted : {d from to : ℕ} {scope after : Scope} {earlier roles : List Role} {all : List Specifier} →
      AreSpecifiers text ts d scope after earlier roles from to all → length all ≤ length ts
  specifiers_counted p.no_specifiers = omega arith
  specifiers_counted (p.more_specifiers a rest) =
      let i = specifier_moves text ts a in
      let j = counted_from rest (specifier_fits a) in
      omega arith

  -- no list begins after a tag
  no_brace : {d from to : ℕ} {scope after : Scope} {earlier roles : List Role} {all : List Specifier} →
      AreSpecifiers text ts d scope after earlier roles from to all → ends_specs (kind_at ts to) ≡ true → mark_at ts from mark.LeftBrace ≡ false
  no_brace (p.no_specifiers {at}) ends = apart_by ts at (k.Mark mark.LeftBrace) ends_specs ends refl
  no_brace (p.more_specifiers {from} {scope} a rest) ends = begins_no_mark text ts scope from mark.LeftBrace (specifier_begins text ts a)

  tag_found : (from : ℕ) → IsName ts (from + 1) → step.optional_name text ts (from + 1) ≡ (Some (from + 1), from + 2)
  unfolding step.optional_name
  tag_found from named =
      let e : (from + 1) + 1 ≡ from + 2 = omega arith in
      rw (here ts (from + 1) k.Name named, e) refl

module _ (text : List ℕ) (ts : List Token) (depth : ℕ) (expression : ℕ → Reading (Expression × ℕ)) (expressions : CompleteExpression text ts depth expression)
    (inner : Readers) (complete : Complete text ts depth inner) where
  record SpecifierFound (d : ℕ) (earlier : List Role) (role : Role) (s t : State) (node : Specifier) : Type 0 where
    lead : Lead
    leads : step.lead_at text ts earlier s ≡ Some lead
    found : IsFound (step.one_specifier text ts expression inner lead s) d (λ height. (node, role, height)) t

  members_here : (from : ℕ) {d at to : ℕ} {scope after : Scope} {tag : Option ℕ} {all : List Member} (which : Aggregate) → IsOptionalName ts (from + 1) at tag →
      IsMark ts at mark.LeftBrace → AreMembers text ts d scope after (at + 1) to all → IsMark ts to mark.RightBrace → d < depth →
      IsFound (step.aggregate_here text ts inner which (state from scope)) (suc d) (λ height. (made.Members (place_at ts from) which tag all, is_type, height))
      (state (to + 1) after)
  unfolding step.aggregate_here
  members_here from {d} {at} {to} {scope} {after} {tag} {all} which named opens list closes low =
      let f = members_after_found text ts depth inner complete list low closes which tag from in
      record { height = f.height; low = f.low; is = rw (optional_name_found text ts named opens, here ts at (k.Mark mark.LeftBrace) opens) f.is }

  tag_here : (which : Aggregate) (from : ℕ) (scope : Scope) → IsName ts (from + 1) → mark_at ts (from + 2) mark.LeftBrace ≡ false →
      step.aggregate_here text ts inner which (state from scope)
      ≡ Some ((made.Tag (place_at ts from) which (from + 1), is_type, 0), state (from + 2) scope)
  unfolding step.aggregate_here
  tag_here which from scope named other = rw (tag_found text ts from named, other) refl

  enumerators_here : (from : ℕ) {d at middle to : ℕ} {scope after : Scope} {tag : Option ℕ} {all : List Enumerator} → IsOptionalName ts (from + 1) at tag →
      IsMark ts at mark.LeftBrace → AreEnumerators text ts d scope after (at + 1) middle all → ClosesList ts middle to → d ≤ depth →
      IsFound (step.enumeration_here text ts expression (state from scope)) d (λ height. (made.Enumerators (place_at ts from) tag all, is_type, height))
      (state to after)
  unfolding step.enumeration_here
  enumerators_here from {d} {at} {middle} {to} {scope} {after} {tag} {all} named opens list closes low =
      let f = enumerators_after_found text ts depth expression expressions list low closes tag from in
      record { height = f.height; low = f.low; is = rw (optional_name_found text ts named opens, here ts at (k.Mark mark.LeftBrace) opens) f.is }

  enum_tag_here : (from : ℕ) (scope : Scope) → IsName ts (from + 1) → mark_at ts (from + 2) mark.LeftBrace ≡ false →
      step.enumeration_here text ts expression (state from scope)
      ≡ Some ((made.EnumTag (place_at ts from) (from + 1), is_type, 0), state (from + 2) scope)
  unfolding step.enumeration_here
  enum_tag_here from scope named other = rw (tag_found text ts from named, other) refl

  specifier_found : {d from to : ℕ} {scope after : Scope} {earlier : List Role} {role : Role} {node : Specifier} →
      IsSpecifier text ts d scope after earlier role from to node → d ≤ depth → mark_at ts to mark.LeftBrace ≡ false →
      SpecifierFound d earlier role (state from scope) (state to after) node
  specifier_found (p.storage {from} {scope} {earlier} which is) low other =
      record {
        lead = step.storage_word which;
        leads = word_leads text ts earlier from scope (storage_word which) (step.storage_word which) is (storage_leads which);
        found = record { height = 0; low = omega arith; is = refl };
      }
  specifier_found (p.qualifier {from} {scope} {earlier} which is) low other =
      record {
        lead = step.qualifier_word which;
        leads = word_leads text ts earlier from scope (qualifier_word which) (step.qualifier_word which) is (qualifier_leads which);
        found = record { height = 0; low = omega arith; is = refl };
      }
  specifier_found (p.basic {from} {scope} {earlier} which is) low other =
      record {
        lead = step.basic_word which;
        leads = word_leads text ts earlier from scope (basic_word which) (step.basic_word which) is (basic_leads which);
        found = record { height = 0; low = omega arith; is = refl };
      }
  specifier_found (p.members {from} {scope} {earlier} which is named opens all closes) low other =
      record {
        lead = step.aggregate_word which;
        leads = word_leads text ts earlier from scope (aggregate_word which) (step.aggregate_word which) is (aggregate_leads which);
        found = members_here from which named opens all closes (omega arith);
      }
  specifier_found (p.tag {from} {scope} {earlier} which is named) low other =
      record {
        lead = step.aggregate_word which;
        leads = word_leads text ts earlier from scope (aggregate_word which) (step.aggregate_word which) is (aggregate_leads which);
        found = record { height = 0; low = omega arith; is = tag_here which from scope named other };
      }
  specifier_found (p.enumerators {from} {scope} {earlier} is named opens all closes) low other =
      record {
        lead = step.enum_word;
        leads = word_leads text ts earlier from scope word.Enum step.enum_word is refl;
        found = enumerators_here from named opens all closes low;
      }
  specifier_found (p.enum_tag {from} {scope} {earlier} is named) low other =
      record {
        lead = step.enum_word;
        leads = word_leads text ts earlier from scope word.Enum step.enum_word is refl;
        found = record { height = 0; low = omega arith; is = enum_tag_here from scope named other };
      }
  specifier_found (p.named_type {from} {scope} {earlier} is known none) low other =
      record {
        lead = step.typedef_name;
        leads = type_leads text ts earlier from scope is known none;
        found = record { height = 0; low = omega arith; is = refl };
      }

  specifiers_found : {d from to : ℕ} {scope after : Scope} {earlier roles : List Role} {all : List Specifier} →
      AreSpecifiers text ts d scope after earlier roles from to all → d ≤ depth → HoldsOneType roles → ends_specs (kind_at ts to) ≡ true →
      (n : ℕ) (found : List Specifier) (high : ℕ) → length all ≤ n → high ≤ d →
      IsFound (step.specifiers text ts expression inner n earlier found high (state from scope)) d (λ height. (found ++ all, roles, height)) (state to after)
  unfolding step.specifiers
  specifiers_found (p.no_specifiers {at} {scope} {roles}) low one ends zero found high room small =
      record { height = high; low = small; is = ap (λ l. Some ((l, roles, high), state at scope)) (sym (append-nil found)) }
  specifiers_found (p.no_specifiers {at} {scope} {roles}) low one ends (suc n) found high room small =
      record {
        height = high;
        low = small;
        is = rw (specs_end text ts roles at scope one ends) (ap (λ l. Some ((l, roles, high), state at scope)) (sym (append-nil found)));
      }
  specifiers_found (p.more_specifiers a rest) low one ends zero found high room small = absurd (omega arith)
  specifiers_found (p.more_specifiers {depth = d} {from} {at} {to} {scope} {between} {after} {earlier} {roles} {role} {first} {rest = others} a rest) low one ends (suc n) found high room small =
      let f = specifier_found a low (no_brace text ts rest ends) in
      let small_too = f.found.low in
      let g = specifiers_found rest low one ends n (found ++ first ∷ []) (max high f.found.height) (omega arith) (omega arith) in
      record {
        height = g.height;
        low = g.low;
        is = rw (f.leads, f.found.is) (g.is ∙ ap (λ l. Some ((l, roles, g.height), state to after)) (added found first others));
      }

  pub specs_found : {d from to : ℕ} {scope after : Scope} {roles : List Role} {node : Specs} → IsSpecs text ts d scope after roles from to node → d ≤ depth →
      ends_specs (kind_at ts to) ≡ true → IsFound (step.specs text ts expression inner (state from scope)) d (λ height. (node, roles, height)) (state to after)
  unfolding step.specs
  specs_found (p.specs all one) low ends =
      let f = specifiers_found all low one ends (length ts) [] 0 (specifiers_counted text ts all) (omega arith) in
      record { height = f.height; low = f.low; is = rw (f.is, one_type_found one) refl }

  pub complete_specs : CompleteSpecs text ts depth (step.specs text ts expression inner)
  complete_specs d s t found roles low is ends = specs_found is low ends
