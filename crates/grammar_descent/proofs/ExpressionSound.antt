-- What is read as an expression is derived.
use Rattle.std.proofs.Common.{◌≡◌, ℕ, zero, suc, ◌+◌, ◌≤◌, max, Bool, true, false, ◌&&◌, cond, List, [], ◌∷◌, ◌++◌, length, Option, Some, None, refl, sym, ap, subst, ◌∙◌, arith, inl, inr, append_assoc, nat_le}
use Rattle.c_tokens.specs.declared.kind.Keyword.TheVariants as word
use Rattle.c_tokens.specs.declared.kind.Mark.{Mark}
use Rattle.c_tokens.specs.declared.kind.Mark.TheVariants as mark
use Rattle.c_tokens.specs.declared.kind.Kind.{Kind}
use Rattle.c_tokens.specs.declared.kind.Kind.TheVariants as k
use Rattle.c_tokens.specs.declared.token.Token.{Token}
use Rattle.c_grammar.specs.declared.words.Naming.TheVariants as naming
use Rattle.c_grammar.specs.declared.words.Level.TheVariants as of
use Rattle.c_grammar.specs.declared.words.Binary.{Binary}
use Rattle.c_grammar.specs.declared.words.Assignment.{Assignment}
use Rattle.c_grammar.specs.declared.words.Prefix.{Prefix}
use Rattle.c_grammar.specs.declared.words.Postfix.{Postfix}
use Rattle.c_grammar.specs.declared.words.Selection.{Selection}
use Rattle.c_grammar.specs.declared.phrases.Expression.{Expression}
use Rattle.c_grammar.specs.declared.phrases.Expression.TheVariants as e
use Rattle.c_grammar.specs.declared.phrases.TypePhrase.{TypePhrase}
use Rattle.c_tokens.specs.Names.{Name}
use Rattle.token_texts.specs.Names.{name_at}
use Rattle.c_grammar.specs.Tokens.{kind_at, place_at, IsMark, IsWord, IsName, IsString}
use Rattle.c_grammar.specs.Operators.{rank, operand_level, binary_mark, assignment_mark, prefix_mark, postfix_mark, selection_mark, tightness}
use Rattle.c_grammar.specs.Phrases as p
use Rattle.c_grammar.specs.Phrases.{IsExpression, AreExpressions, IsTypeName, IsDeclarator, whole}
use Rattle.grammar_descent.specs.declared.growing.Growth.{Growth}
use Rattle.grammar_descent.specs.declared.growing.Growth.TheVariants as growth
use Rattle.grammar_descent.specs.Reading.{State, ◌>>=◌, mark_at, past, FoundDeclarator, Readers}
use Rattle.grammar_descent.specs.Exact.{Exact, Grows, SoundExpression}
use Rattle.grammar_descent.specs.Types.{names_a_type, begins_specs}
use Rattle.grammar_descent.specs.ExpressionSteps.{prefix_of, growth_by, growth_level, least_operand, growth_within, FoundExpression, answer, node_within, more_expressions, expressions, arguments, type_phrase, name, strings, parentheses, cast_to, prefix_expression, prefix_by, size_of_type, size_of, sizeof_expression, cast_or_parentheses, head, head_by, index_after, call_after, member_after, postfix_after, binary_after, conditional_after, assignment_after, comma_after, growth_after, climb_by, climb, from_head, expression, no_expression}
use Rattle.grammar_descent.proofs.Seen as by
use Rattle.grammar_descent.proofs.Seen.{stands, bind_some, seen, both, le_from}
use Rattle.grammar_descent.proofs.Types.{no_type_sound}
use Rattle.grammar_descent.proofs.ExpressionBegins.{declares_none}
use Rattle.grammar_descent.proofs.ExpressionEquations.{node_found}
use Rattle.grammar_descent.proofs.ExpressionLaws.{grows-refl, grows-trans, mark_of, growth_mark, prefixes_by, mark_prefixes, lower, strings_read}

module _ (text : List ℕ) (ts : List Token) (depth : ℕ) (inner : Readers) (exact : Exact text ts depth inner) where
  -- ---- parts

  part : (level : ℕ) (s : State) (f : (Expression × ℕ) × State) → inner.expression level s ≡ Some f → (d : ℕ) → f.0.1 ≤ d →
      IsExpression text ts d level s.scope f.1.scope s.at f.1.at f.0.0
  part level s f h d fits = exact.expression_sound.derived level d s f.1 f.0.0 f.0.1 h fits

  part_low : (level : ℕ) (s : State) (f : (Expression × ℕ) × State) → inner.expression level s ≡ Some f → f.0.1 ≤ depth
  part_low level s f h = exact.expression_sound.low level s f.1 f.0.0 f.0.1 h

  part_grows : (level : ℕ) (s : State) (f : (Expression × ℕ) × State) → inner.expression level s ≡ Some f → Grows s.scope f.1.scope
  part_grows level s f h = exact.expression_sound.grows level s f.1 f.0.0 f.0.1 h

  -- some expressions, after those that were found before
  record AreRead (s : State) (found : List Expression) (high : ℕ) (r : (List Expression × ℕ) × State) : Type 0 where
    rest : List Expression
    all : r.0.0 ≡ found ++ rest
    low : r.0.1 ≤ depth
    higher : high ≤ r.0.1
    derived : (d : ℕ) → r.0.1 ≤ d → AreExpressions text ts d s.scope r.1.scope s.at r.1.at rest
    grows : Grows s.scope r.1.scope

  before_more : (s : State) (found : List Expression) (high : ℕ) (f : (Expression × ℕ) × State) (r : (List Expression × ℕ) × State) →
      inner.expression (tightness of.Assignment) s ≡ Some f → IsMark ts f.1.at mark.Comma → AreRead (past f.1 1) (found ++ f.0.0 ∷ []) (max high f.0.1) r → AreRead s found high r
  before_more s found high f r one comma later =
      let higher = later.higher in
      record {
        rest = f.0.0 ∷ later.rest;
        all = later.all ∙ append_assoc found (f.0.0 ∷ []) later.rest;
        low = later.low;
        higher = omega arith;
        derived = λ d fits. p.more_expressions (part (tightness of.Assignment) s f one d (omega arith)) comma (later.derived d fits);
        grows = grows-trans s.scope f.1.scope r.1.scope (part_grows (tightness of.Assignment) s f one) later.grows;
      }

  last_read : (s : State) (found : List Expression) (high : ℕ) (f : (Expression × ℕ) × State) → high ≤ depth → inner.expression (tightness of.Assignment) s ≡ Some f →
      AreRead s found high ((found ++ f.0.0 ∷ [], max high f.0.1), f.1)
  last_read s found high f low one =
      let small = part_low (tightness of.Assignment) s f one in
      record {
        rest = f.0.0 ∷ [];
        all = refl;
        low = omega arith;
        higher = omega arith;
        derived = λ d fits. p.last_expression (part (tightness of.Assignment) s f one d (omega arith));
        grows = part_grows (tightness of.Assignment) s f one;
      }

  more_expressions_sound : (n : ℕ) (found : List Expression) (high : ℕ) (s : State) (r : (List Expression × ℕ) × State) → high ≤ depth →
      more_expressions text ts depth inner n found high s ≡ Some r → AreRead s found high r
  unfolding more_expressions
  more_expressions_sound zero found high s r low h = absurd cc
  more_expressions_sound (suc n) found high s r low h =
      let (f, one, h1) = bind_some (inner.expression (tightness of.Assignment) s) _ r h in
      let small = part_low (tightness of.Assignment) s f one in
      elim (by.chosen (mark_at ts f.1.at mark.Comma) _ (Some ((found ++ f.0.0 ∷ [], max high f.0.1), f.1)) (Some r) h1) [
        | inl c ↦ before_more s found high f r one (stands ts f.1.at (k.Mark mark.Comma) c.0)
            (more_expressions_sound n (found ++ f.0.0 ∷ []) (max high f.0.1) (past f.1 1) r (omega arith) c.1)
        | inr c ↦ (
            let same : ◌≡◌ {A = (List Expression × ℕ) × State} ((found ++ f.0.0 ∷ [], max high f.0.1), f.1) r = (let i = c.1 in cc) in
            subst (λ (r : (List Expression × ℕ) × State). AreRead s found high r) same (last_read s found high f low one))
      ]

  expressions_sound : (s : State) (r : (List Expression × ℕ) × State) → expressions text ts depth inner s ≡ Some r → AreRead s [] 0 r
  unfolding expressions
  expressions_sound s r h = more_expressions_sound (length ts) [] 0 s r (omega arith) h

  expressions_derived : (s : State) (r : (List Expression × ℕ) × State) → AreRead s [] 0 r → (d : ℕ) → r.0.1 ≤ d →
      AreExpressions text ts d s.scope r.1.scope s.at r.1.at r.0.0
  expressions_derived s r is d fits = subst (λ (l : List Expression). AreExpressions text ts d s.scope r.1.scope s.at r.1.at l) (sym is.all) (is.derived d fits)

  -- the name of a type
  record IsNamed (s : State) (n : (TypePhrase × ℕ) × State) : Type 0 where
    low : n.0.1 ≤ depth
    derived : (d : ℕ) → n.0.1 ≤ d → IsTypeName text ts d s.scope n.1.scope s.at n.1.at n.0.0
    grows : Grows s.scope n.1.scope

  without_name : (s : State) (q : FoundDeclarator × State) → inner.declarator naming.NotNamed s ≡ Some q → (d : ℕ) → q.0.height ≤ d →
      IsDeclarator text ts naming.NotNamed whole d s.scope q.1.scope s.at q.1.at None q.0.own q.0.node
  without_name s q h d fits =
      let is : IsDeclarator text ts naming.NotNamed whole d s.scope q.1.scope s.at q.1.at q.0.name q.0.own q.0.node =
      exact.declarator_sound.derived naming.NotNamed d s q.1 q.0 h fits in
      subst (λ (named : Option Name). IsDeclarator text ts naming.NotNamed whole d s.scope q.1.scope s.at q.1.at named q.0.own q.0.node) (declares_none text ts is refl) is

  type_name_sound : (s : State) (n : (TypePhrase × ℕ) × State) → type_phrase text ts depth inner s ≡ Some n → IsNamed s n
  unfolding type_phrase
  type_name_sound s n h =
      let (held, one, h1) = bind_some (inner.specs s) _ n h in
      let (declarator, two, h2) = bind_some (inner.declarator naming.NotNamed held.1) _ n h1 in
      let low = exact.specs_sound.low s held.1 held.0.0 held.0.1 held.0.2 one in
      let small = exact.declarator_sound.low naming.NotNamed held.1 declarator.1 declarator.0 two in
      let same : ◌≡◌ {A = (TypePhrase × ℕ) × State}
      ((record { place = place_at ts s.at; specs = held.0.0; declarator = declarator.0.node }, max held.0.2 declarator.0.height), declarator.1) n = cc in
      subst (λ (n : (TypePhrase × ℕ) × State). IsNamed s n) same (record {
        low = omega arith;
        derived = λ d fits. p.type_name (exact.specs_sound.derived d s held.1 held.0.0 held.0.1 held.0.2 one (omega arith))
            (without_name held.1 declarator two d (omega arith));
        grows = grows-trans s.scope held.1.scope declarator.1.scope (exact.specs_sound.grows s held.1 held.0.0 held.0.1 held.0.2 one)
            (exact.declarator_sound.grows naming.NotNamed held.1 declarator.1 declarator.0 two);
      })

  -- ---- nodes

  -- an expression that was read from the state on, at its own level
  record IsRead (start : State) (level : ℕ) (f : FoundExpression) : Type 0 where
    low : f.height ≤ suc depth
    own : f.level ≡ level
    derived : (d : ℕ) → f.height ≤ d → IsExpression text ts d level start.scope f.after.scope start.at f.after.at f.node
    grows : Grows start.scope f.after.scope

  deeper : (P : ℕ → Type 0) (high : ℕ) → ((d : ℕ) → high ≤ d → P (suc d)) → (d : ℕ) → high + 1 ≤ d → P d
  deeper P high h zero fits = absurd (omega arith)
  deeper P high h (suc d) fits = h d (omega arith)

  is_made : (start : State) (node : Expression) (high level : ℕ) (after : State) (g : FoundExpression) → node_within depth node high level after ≡ Some g →
      ((d : ℕ) → high ≤ d → IsExpression text ts (suc d) level start.scope after.scope start.at after.at node) → Grows start.scope after.scope →
      IsRead start level g
  is_made start node high level after g h derived grew =
      elim (by.chosen (nat_le high depth) (Some (node_found node (high + 1) level after)) None (Some g) h) [
        | inl c ↦ (
            let same : node_found node (high + 1) level after ≡ g = (let i = c.1 in cc) in
            let low = le_from high depth c.0 in
            subst (λ (g : FoundExpression). IsRead start level g) same (record {
              low = omega arith;
              own = refl;
              derived = deeper (λ d. IsExpression text ts d level start.scope after.scope start.at after.at node) high derived;
              grows = grew;
            }))
        | inr c ↦ absurd (let i = c.1 in cc)
      ]

  -- ---- what begins an expression

  name_sound : (s : State) (g : FoundExpression) → IsName ts s.at → name text ts depth inner s ≡ Some g → IsRead s (tightness of.Primary) g
  unfolding name
  name_sound s g is h = elim (by.chosen (names_a_type s.scope (name_at text ts s.at)) None _ (Some g) h) [
    | inl c ↦ absurd (let i = c.1 in cc)
    | inr c ↦ is_made s _ 0 (tightness of.Primary) (past s 1) g c.1 (λ d fits. p.name (omega arith) is (no_type_sound s.scope (name_at text ts s.at) c.0)) (grows-refl s.scope)
  ]

  strings_sound : (s : State) (g : FoundExpression) → IsString ts s.at → strings text ts depth inner s ≡ Some g → IsRead s (tightness of.Primary) g
  unfolding strings
  strings_sound s g is h = is_made s _ 0 (tightness of.Primary) _ g h (λ d fits. p.strings (omega arith) (strings_read text ts (length ts) s.at is)) (grows-refl s.scope)

  parentheses_sound : (s : State) (g : FoundExpression) → IsMark ts s.at mark.LeftParen → parentheses text ts depth inner s ≡ Some g → IsRead s (tightness of.Primary) g
  unfolding parentheses
  parentheses_sound s g is h =
      let (f, found, h1) = bind_some (inner.expression (tightness of.Comma) (past s 1)) _ g h in
      let (closes, h2) = seen ts f.1.at (k.Mark mark.RightParen) _ g h1 in
      is_made s _ f.0.1 (tightness of.Primary) (past f.1 1) g h2 (λ d fits. p.parentheses (omega arith) is (part (tightness of.Comma) (past s 1) f found d fits) closes)
      (part_grows (tightness of.Comma) (past s 1) f found)

  cast_sound : (s : State) (g : FoundExpression) → IsMark ts s.at mark.LeftParen → cast_to text ts depth inner s ≡ Some g → IsRead s (tightness of.Cast) g
  unfolding cast_to
  cast_sound s g is h =
      let (n, named, h1) = bind_some (type_phrase text ts depth inner (past s 1)) _ g h in
      let (closes, h2) = seen ts n.1.at (k.Mark mark.RightParen) _ g h1 in
      let (f, found, h3) = bind_some (inner.expression (tightness of.Cast) (past n.1 1)) _ g h2 in
      let type = type_name_sound (past s 1) n named in
      is_made s _ (max n.0.1 f.0.1) (tightness of.Cast) f.1 g h3
      (λ d fits. p.cast_to (omega arith) is (type.derived d (omega arith)) closes (part (tightness of.Cast) (past n.1 1) f found d (omega arith)))
      (grows-trans s.scope n.1.scope f.1.scope type.grows (part_grows (tightness of.Cast) (past n.1 1) f found))

  prefix_sound : (s : State) (op : Prefix) (g : FoundExpression) → IsMark ts s.at (prefix_mark op) → prefix_expression text ts depth inner op s ≡ Some g → IsRead s (tightness of.Unary) g
  unfolding prefix_expression
  prefix_sound s op g is h =
      let (f, found, h1) = bind_some (inner.expression (tightness (operand_level op)) (past s 1)) _ g h in
      is_made s _ f.0.1 (tightness of.Unary) f.1 g h1 (λ d fits. p.prefix op (omega arith) is (part (tightness (operand_level op)) (past s 1) f found d fits))
      (part_grows (tightness (operand_level op)) (past s 1) f found)

  size_of_type_sound : (s : State) (g : FoundExpression) → IsWord ts s.at word.Sizeof → IsMark ts (s.at + 1) mark.LeftParen → size_of_type text ts depth inner s ≡ Some g →
      IsRead s (tightness of.Unary) g
  unfolding size_of_type
  size_of_type_sound s g is opens h =
      let (n, named, h1) = bind_some (type_phrase text ts depth inner (past s 2)) _ g h in
      let (closes, h2) = seen ts n.1.at (k.Mark mark.RightParen) _ g h1 in
      let type = type_name_sound (past s 2) n named in
      is_made s _ n.0.1 (tightness of.Unary) (past n.1 1) g h2 (λ d fits. p.size_of_type (omega arith) is opens (type.derived d fits) closes) type.grows

  size_of_sound : (s : State) (g : FoundExpression) → IsWord ts s.at word.Sizeof → size_of text ts depth inner s ≡ Some g → IsRead s (tightness of.Unary) g
  unfolding size_of
  size_of_sound s g is h =
      let (f, found, h1) = bind_some (inner.expression (tightness of.Unary) (past s 1)) _ g h in
      is_made s _ f.0.1 (tightness of.Unary) f.1 g h1 (λ d fits. p.size_of (omega arith) is (part (tightness of.Unary) (past s 1) f found d fits)) (part_grows (tightness of.Unary) (past s 1) f found)

  size_sound : (s : State) (g : FoundExpression) → IsWord ts s.at word.Sizeof → sizeof_expression text ts depth inner s ≡ Some g → IsRead s (tightness of.Unary) g
  unfolding sizeof_expression
  size_sound s g is h = elim (by.chosen (mark_at ts (s.at + 1) mark.LeftParen && begins_specs text ts s.scope (s.at + 2)) _ _ (Some g) h) [
    | inl c ↦ (
        let (opens, known) = both (mark_at ts (s.at + 1) mark.LeftParen) (begins_specs text ts s.scope (s.at + 2)) c.0 in
        size_of_type_sound s g is (stands ts (s.at + 1) (k.Mark mark.LeftParen) opens) c.1)
    | inr c ↦ size_of_sound s g is c.1
  ]

  -- an expression that was read, at whatever level is its own
  record IsHead (s : State) (g : FoundExpression) : Type 0 where
    level : ℕ
    is : IsRead s level g

  cast_or_parentheses_sound : (s : State) (g : FoundExpression) → IsMark ts s.at mark.LeftParen → cast_or_parentheses text ts depth inner s ≡ Some g → IsHead s g
  unfolding cast_or_parentheses
  cast_or_parentheses_sound s g is h = elim (by.chosen (begins_specs text ts s.scope (s.at + 1)) _ _ (Some g) h) [
    | inl c ↦ record { level = tightness of.Cast; is = cast_sound s g is c.1 }
    | inr c ↦ record { level = tightness of.Primary; is = parentheses_sound s g is c.1 }
  ]

  prefix_by_sound : (s : State) (g : FoundExpression) (m : Mark) (op : Option Prefix) → IsMark ts s.at m → prefixes_by m op → prefix_by text ts depth inner op s ≡ Some g → IsHead s g
  prefix_by_sound s g m (Some op) is same h =
      record { level = tightness of.Unary; is = prefix_sound s op g (is ∙ ap (λ m. Some (k.Mark m)) same) h }
  prefix_by_sound s g m None is same h = absurd cc

  head_by_sound : (s : State) (g : FoundExpression) (kind : Option Kind) → kind_at ts s.at ≡ kind → head_by text ts depth inner kind s ≡ Some g → IsHead s g
  head_by_sound s g (Some k.Name) is h = record { level = tightness of.Primary; is = name_sound s g is h }
  head_by_sound s g (Some (k.Number value type)) is h =
      record { level = tightness of.Primary; is = is_made s _ 0 (tightness of.Primary) (past s 1) g h (λ d fits. p.number (omega arith) is) (grows-refl s.scope) }
  head_by_sound s g (Some (k.Char value)) is h =
      record { level = tightness of.Primary; is = is_made s _ 0 (tightness of.Primary) (past s 1) g h (λ d fits. p.character (omega arith) is) (grows-refl s.scope) }
  head_by_sound s g (Some k.Str) is h = record { level = tightness of.Primary; is = strings_sound s g is h }
  head_by_sound s g (Some (k.Word word.Sizeof)) is h = record { level = tightness of.Unary; is = size_sound s g is h }
  head_by_sound s g (Some (k.Word _)) is h = absurd cc
  head_by_sound s g (Some (k.Mark mark.LeftParen)) is h = cast_or_parentheses_sound s g is h
  head_by_sound s g (Some (k.Mark m)) is h = prefix_by_sound s g m (prefix_of m) is (mark_prefixes m) h
  head_by_sound s g None is h = absurd cc

  head_sound : (s : State) (g : FoundExpression) → head text ts depth inner s ≡ Some g → IsHead s g
  unfolding head
  head_sound s g h = head_by_sound s g (kind_at ts s.at) refl h

  -- ---- how it grows

  -- the first part, at the level that the whole asks for
  left_part : (start : State) (level least : ℕ) (f : FoundExpression) → IsRead start level f → least ≤ level → (d : ℕ) → f.height ≤ d →
      IsExpression text ts d least start.scope f.after.scope start.at f.after.at f.node
  left_part start level least f is under d fits = lower text ts (is.derived d fits) least under

  module _ (start : State) (level : ℕ) (f g : FoundExpression) (left : IsRead start level f) where
    index_sound : tightness of.Postfix ≤ level → IsMark ts f.after.at mark.LeftBracket → index_after text ts depth inner start.at f ≡ Some g → IsRead start (tightness of.Postfix) g
    unfolding index_after
    index_sound under is h =
        let (i, found, h1) = bind_some (inner.expression (tightness of.Comma) (past f.after 1)) _ g h in
        let (closes, h2) = seen ts i.1.at (k.Mark mark.RightBracket) _ g h1 in
        is_made start _ (max f.height i.0.1) (tightness of.Postfix) (past i.1 1) g h2
        (λ d fits. p.index (omega arith) (left_part start level (tightness of.Postfix) f left under d (omega arith)) is (part (tightness of.Comma) (past f.after 1) i found d (omega arith)) closes)
        (grows-trans start.scope f.after.scope i.1.scope left.grows (part_grows (tightness of.Comma) (past f.after 1) i found))

    call_without : tightness of.Postfix ≤ level → IsMark ts f.after.at mark.LeftParen → IsMark ts (f.after.at + 1) mark.RightParen →
        node_within depth (e.Call (place_at ts start.at) f.node []) (max f.height 0) (tightness of.Postfix) (past (past f.after 1) 1) ≡ Some g → IsRead start (tightness of.Postfix) g
    call_without under is closes h =
        let two_on : f.after.at + 2 ≡ f.after.at + 1 + 1 = omega arith in
        is_made start (e.Call (place_at ts start.at) f.node []) (max f.height 0) (tightness of.Postfix) (past (past f.after 1) 1) g h
        (λ d fits. subst (λ n. IsExpression text ts (suc d) (tightness of.Postfix) start.scope f.after.scope start.at n (e.Call (place_at ts start.at) f.node [])) two_on
        (p.call_without (omega arith) (left_part start level (tightness of.Postfix) f left under d (omega arith)) is closes))
        left.grows

    call_sound : tightness of.Postfix ≤ level → IsMark ts f.after.at mark.LeftParen → call_after text ts depth inner start.at f ≡ Some g → IsRead start (tightness of.Postfix) g
    unfolding call_after arguments
    call_sound under is h =
        let (a, found, h1) = bind_some (arguments text ts depth inner (past f.after 1)) _ g h in
        let (closes, h2) = seen ts a.1.at (k.Mark mark.RightParen) _ g h1 in
        elim (by.chosen (mark_at ts (f.after.at + 1) mark.RightParen) (Some (([], 0), past f.after 1)) (expressions text ts depth inner (past f.after 1)) (Some a) found) [
          | inl c ↦ (
              let same : ◌≡◌ {A = (List Expression × ℕ) × State} (([], 0), past f.after 1) a = (let i = c.1 in cc) in
              subst (λ (a : (List Expression × ℕ) × State).
              node_within depth (e.Call (place_at ts start.at) f.node a.0.0) (max f.height a.0.1) (tightness of.Postfix) (past a.1 1) ≡ Some g → IsRead start (tightness of.Postfix) g) same
              (call_without under is (stands ts (f.after.at + 1) (k.Mark mark.RightParen) c.0)) h2)
          | inr c ↦ (
              let all = expressions_sound (past f.after 1) a c.1 in
              is_made start _ (max f.height a.0.1) (tightness of.Postfix) (past a.1 1) g h2
              (λ d fits. p.call (omega arith) (left_part start level (tightness of.Postfix) f left under d (omega arith)) is
              (expressions_derived (past f.after 1) a all d (omega arith)) closes)
              (grows-trans start.scope f.after.scope a.1.scope left.grows all.grows))
        ]

    member_sound : (how : Selection) → tightness of.Postfix ≤ level → IsMark ts f.after.at (selection_mark how) → member_after text ts depth inner how start.at f ≡ Some g → IsRead start (tightness of.Postfix) g
    unfolding member_after
    member_sound how under is h =
        let (named, h1) = seen ts (f.after.at + 1) k.Name _ g h in
        is_made start _ f.height (tightness of.Postfix) (past f.after 2) g h1
        (λ d fits. p.select how (omega arith) (left_part start level (tightness of.Postfix) f left under d fits) is named) left.grows

    postfix_sound : (op : Postfix) → tightness of.Postfix ≤ level → IsMark ts f.after.at (postfix_mark op) → postfix_after text ts depth inner op start.at f ≡ Some g → IsRead start (tightness of.Postfix) g
    unfolding postfix_after
    postfix_sound op under is h =
        is_made start _ f.height (tightness of.Postfix) (past f.after 1) g h (λ d fits. p.postfix op (omega arith) (left_part start level (tightness of.Postfix) f left under d fits) is) left.grows

    binary_sound : (op : Binary) → rank op ≤ level → IsMark ts f.after.at (binary_mark op) → binary_after text ts depth inner op start.at f ≡ Some g → IsRead start (rank op) g
    unfolding binary_after
    binary_sound op under is h =
        let (r, found, h1) = bind_some (inner.expression (rank op + 1) (past f.after 1)) _ g h in
        is_made start _ (max f.height r.0.1) (rank op) r.1 g h1
        (λ d fits. p.binary op (omega arith) (left_part start level (rank op) f left under d (omega arith)) is
        (part (rank op + 1) (past f.after 1) r found d (omega arith)))
        (grows-trans start.scope f.after.scope r.1.scope left.grows (part_grows (rank op + 1) (past f.after 1) r found))

    conditional_sound : tightness of.LogicalOr ≤ level → IsMark ts f.after.at mark.Question → conditional_after text ts depth inner start.at f ≡ Some g → IsRead start (tightness of.Conditional) g
    unfolding conditional_after
    conditional_sound under is h =
        let (a, first, h1) = bind_some (inner.expression (tightness of.Comma) (past f.after 1)) _ g h in
        let (colon, h2) = seen ts a.1.at (k.Mark mark.Colon) _ g h1 in
        let (b, second, h3) = bind_some (inner.expression (tightness of.Conditional) (past a.1 1)) _ g h2 in
        is_made start _ (max f.height (max a.0.1 b.0.1)) (tightness of.Conditional) b.1 g h3
        (λ d fits. p.conditional (omega arith) (left_part start level (tightness of.LogicalOr) f left under d (omega arith)) is
        (part (tightness of.Comma) (past f.after 1) a first d (omega arith)) colon (part (tightness of.Conditional) (past a.1 1) b second d (omega arith)))
        (grows-trans start.scope f.after.scope b.1.scope left.grows
        (grows-trans f.after.scope a.1.scope b.1.scope (part_grows (tightness of.Comma) (past f.after 1) a first) (part_grows (tightness of.Conditional) (past a.1 1) b second)))

    assignment_sound : (op : Assignment) → tightness of.Unary ≤ level → IsMark ts f.after.at (assignment_mark op) → assignment_after text ts depth inner op start.at f ≡ Some g → IsRead start (tightness of.Assignment) g
    unfolding assignment_after
    assignment_sound op under is h =
        let (r, found, h1) = bind_some (inner.expression (tightness of.Assignment) (past f.after 1)) _ g h in
        is_made start _ (max f.height r.0.1) (tightness of.Assignment) r.1 g h1
        (λ d fits. p.assignment op (omega arith) (left_part start level (tightness of.Unary) f left under d (omega arith)) is
        (part (tightness of.Assignment) (past f.after 1) r found d (omega arith)))
        (grows-trans start.scope f.after.scope r.1.scope left.grows (part_grows (tightness of.Assignment) (past f.after 1) r found))

    comma_sound : tightness of.Assignment ≤ level → IsMark ts f.after.at mark.Comma → comma_after text ts depth inner start.at f ≡ Some g → IsRead start (tightness of.Comma) g
    unfolding comma_after
    comma_sound under is h =
        let (r, found, h1) = bind_some (expressions text ts depth inner (past f.after 1)) _ g h in
        let all = expressions_sound (past f.after 1) r found in
        is_made start _ (max f.height r.0.1) (tightness of.Comma) r.1 g h1
        (λ d fits. p.comma (omega arith) (left_part start level (tightness of.Assignment) f left under d (omega arith)) is
        (expressions_derived (past f.after 1) r all d (omega arith)))
        (grows-trans start.scope f.after.scope r.1.scope left.grows all.grows)

    growth_sound : (by : Growth) → least_operand by ≤ level → IsMark ts f.after.at (mark_of by) → growth_after text ts depth inner by start.at f ≡ Some g → IsRead start (growth_level by) g
    growth_sound growth.Index under is h = index_sound under is h
    growth_sound growth.Call under is h = call_sound under is h
    growth_sound (growth.Select how) under is h = member_sound how under is h
    growth_sound (growth.Postfix op) under is h = postfix_sound op under is h
    growth_sound (growth.Binary op) under is h = binary_sound op under is h
    growth_sound growth.Conditional under is h = conditional_sound under is h
    growth_sound (growth.Assign op) under is h = assignment_sound op under is h
    growth_sound growth.Comma under is h = comma_sound under is h

  -- ---- turns

  -- an expression that was read from the state on, at this level or a tighter one
  record IsKept (start : State) (least : ℕ) (f : FoundExpression) : Type 0 where
    own : ℕ
    is : IsRead start own f
    high : least ≤ own

  climb_sound : (least : ℕ) (start : State) (n : ℕ) (f g : FoundExpression) → IsKept start least f → climb text ts depth inner least start.at n f ≡ Some g → IsKept start least g
  unfolding climb
  climb_sound least start zero f g l h = absurd cc
  climb_sound least start (suc n) f g l h =
      by_growth (growth_by (kind_at ts f.after.at)) refl (λ m kept_m rest. climb_sound least start n m g kept_m rest) h
    where
      by_growth : (o : Option Growth) → growth_by (kind_at ts f.after.at) ≡ o →
          ((m : FoundExpression) → IsKept start least m → climb text ts depth inner least start.at n m ≡ Some g → IsKept start least g) →
          climb_by text ts depth inner (climb text ts depth inner least start.at n) start.at f (growth_within least f.level o) ≡ Some g → IsKept start least g
      by_growth None is again h = let same : f ≡ g = cc in subst (IsKept start least) same l
      by_growth (Some by) is again h = by_test (nat_le least (growth_level by) && nat_le (least_operand by) f.level) refl h
        where
          by_test : (b : Bool) → (nat_le least (growth_level by) && nat_le (least_operand by) f.level) ≡ b →
              climb_by text ts depth inner (climb text ts depth inner least start.at n) start.at f (cond b (Some by) None) ≡ Some g → IsKept start least g
          by_test true goes h =
              let (m, made_m, rest) = bind_some (growth_after text ts depth inner by start.at f) _ g h in
              let (low, high) = both (nat_le least (growth_level by)) (nat_le (least_operand by) f.level) goes in
              let under = le_from (least_operand by) f.level high in
              let own = l.is.own in
              again m (record {
                own = growth_level by;
                is = growth_sound start l.own f m l.is by (omega arith) (growth_mark (kind_at ts f.after.at) by is) made_m;
                high = le_from least (growth_level by) low;
              }) rest
          by_test false goes h = let same : f ≡ g = cc in subst (IsKept start least) same l

  -- ---- a whole expression

  record IsAnswer (level : ℕ) (s : State) (r : (Expression × ℕ) × State) : Type 0 where
    low : r.0.1 ≤ suc depth
    derived : (d : ℕ) → r.0.1 ≤ d → IsExpression text ts d level s.scope r.1.scope s.at r.1.at r.0.0
    grows : Grows s.scope r.1.scope

  from_kept : (level : ℕ) (s : State) (f : FoundExpression) → IsKept s level f → IsAnswer level s (answer f)
  from_kept level s f l = record { low = l.is.low; derived = left_part s l.own level f l.is l.high; grows = l.is.grows }

  answer_sound : (level : ℕ) (s : State) (r : (Expression × ℕ) × State) → expression text ts depth inner level s ≡ Some r → IsAnswer level s r
  unfolding expression
  answer_sound level s r h =
      let (g, climbed, h1) = bind_some (head text ts depth inner s >>= from_head text ts depth inner level s.at) _ r h in
      let (f, begun, h2) = bind_some (head text ts depth inner s) _ g climbed in
      let same : ◌≡◌ {A = (Expression × ℕ) × State} (answer g) r = cc in
      let begins = head_sound s f begun in
      elim (by.chosen (nat_le level f.level) (climb text ts depth inner level s.at (suc depth) f) None (Some g) h2) [
        | inl c ↦ (
            let high = le_from level f.level c.0 in
            let own = begins.is.own in
            let kept_f : IsKept s level f = record { own = begins.level; is = begins.is; high = omega arith } in
            subst (IsAnswer level s) same (from_kept level s g (climb_sound level s (suc depth) f g kept_f c.1)))
        | inr c ↦ absurd (let i = c.1 in cc)
      ]

  -- what is read one level deeper is derived
  pub sound : SoundExpression text ts (suc depth) (expression text ts depth inner)
  sound = record {
    low = λ level s t node height h. (answer_sound level s ((node, height), t) h).low;
    derived = λ level d s t node height h fits. (answer_sound level s ((node, height), t) h).derived d fits;
    grows = λ level s t node height h. (answer_sound level s ((node, height), t) h).grows;
  }

pub none_sound : (text : List ℕ) (ts : List Token) → SoundExpression text ts 0 no_expression
unfolding no_expression
none_sound text ts = record {
  low = λ level s t node height h. absurd cc;
  derived = λ level d s t node height h fits. absurd cc;
  grows = λ level s t node height h. absurd cc;
}
