-- Expressions (C11 6.5): each level of the syntax tree, over what the levels below it are. Parts are read from the left, and a node
-- after its parts, so that the first fault of a text is the one that is answered.
use Rattle.std.specs.Prelude.{ℕ, zero, suc, Bool, true, false, ℤ, pos, List, [], ◌∷◌, ◌++◌, Option, Some, None, Ok, if◌then◌else◌, slice_get}
use Rattle.c_grammar.specs.declared.words.Assignment.{Assignment}
use Rattle.c_grammar.specs.declared.words.Binary.{Binary}
use Rattle.c_grammar.specs.declared.words.Postfix.{Postfix}
use Rattle.c_grammar.specs.declared.words.Postfix.TheVariants as postfix
use Rattle.c_grammar.specs.declared.words.Prefix.{Prefix}
use Rattle.c_grammar.specs.declared.words.Prefix.TheVariants as prefix
use Rattle.c_grammar.specs.declared.words.Selection.{Selection}
use Rattle.c_grammar.specs.declared.words.Selection.TheVariants as selection
use Rattle.c_grammar.specs.declared.phrases.Declarator.TheOpen.{Expression-F}
use Rattle.c_grammar.specs.declared.phrases.Expression.{Expression, out-Expression}
use Rattle.c_grammar.specs.declared.phrases.TypePhrase.{TypePhrase}
use Rattle.c_tree.specs.declared.operators.Fixity.TheVariants as fixity
use Rattle.c_tree.specs.declared.operators.Operator.{Operator}
use Rattle.c_tree.specs.declared.operators.Step.{Step}
use Rattle.c_tree.specs.declared.operators.Step.TheVariants as step
use Rattle.c_tree.specs.declared.operators.UnaryOperator.{UnaryOperator}
use Rattle.c_tree.specs.declared.operators.UnaryOperator.TheVariants as sign
use Rattle.c_tree.specs.declared.values.Value.{Value}
use Rattle.c_tree.specs.declared.values.Value.TheVariants as v
use Rattle.scoped_meanings.specs.Meanings.{declared_at}
use Rattle.static_rules.specs.declared.faults.CheckKind.TheVariants as why
use Rattle.static_rules.specs.declared.faults.Feature.TheVariants as feature
use Rattle.static_rules.specs.declared.judged.Arguments.{Arguments}
use Rattle.static_rules.specs.declared.judged.Judged.{Judged}
use Rattle.static_rules.specs.declared.judged.Known.TheVariants as known
use Rattle.static_rules.specs.declared.judged.Operand.{Operand}
use Rattle.static_rules.specs.declared.symbols.BuiltIn.{BuiltIn}
use Rattle.static_rules.specs.declared.symbols.BuiltIn.TheVariants as given
use Rattle.well_typed.specs.Surroundings.{at}
use Rattle.static_rules.specs.Answers.{Answer, ◌>>=◌, fault, or_fault, or_mismatch, each}
use Rattle.static_rules.specs.Calls.{Taken, Kind, kind_taken, no_more, before, answered, taken_by, given_node, result_type, promoted_argument, printed, fetch_added}
use Rattle.static_rules.specs.Casts.{cast}
use Rattle.static_rules.specs.Changes.{assigned, updated, stepped}
use Rattle.static_rules.specs.Layers.{ExpressionLayer}
use Rattle.static_rules.specs.Lines.{line_of}
use Rattle.static_rules.specs.Operands.{unknown, value, pointer_to, in_table, valued, converted}
use Rattle.static_rules.specs.Operators.{sized, unary, negated, conditional}
use Rattle.static_rules.specs.Places.{dereferenced, indexed, selected, through, address}
use Rattle.static_rules.specs.Plans.{joined}
use Rattle.static_rules.specs.Primaries.{constant_type, constant, named, string_type, string}
use Rattle.static_rules.specs.Sorts.{operator_of, sort_of}
use Rattle.static_rules.specs.Source.{Source, name_at, spelled, strings_between}
use Rattle.static_rules.specs.States.{symbol_of}
use Rattle.static_rules.specs.declared.states.State.{State}
use Rattle.static_rules.specs.declared.states.DeclaredFunction.{DeclaredFunction}
use Rattle.static_rules.specs.declared.states.Made.{Made}
use Rattle.static_rules.specs.declared.states.Symbol.TheVariants as means
use Rattle.static_rules.specs.declared.states.Symbol.{Symbol}
use Rattle.static_rules.specs.declared.states.Where.{Where}

abbrev pub as_value : Operand × State → Judged × State
as_value r = (value r.0, r.1)

abbrev pub beside : {A : Type 0} → State → A → Answer (A × State)
beside s x = Ok (x, s)

abbrev pub last_type : ℕ → List Operand → ℕ
last_type kind [] = kind
last_type kind (x ∷ xs) = last_type x.kind xs

abbrev pub all_values : List Operand → List Value
all_values [] = []
all_values (x ∷ xs) = x.value ∷ all_values xs

-- `first, .., last` (C11 6.5.17)
abbrev pub comma : ℕ → List Operand → Operand
comma line xs = unknown (v.Comma (at line (last_type 1 xs)) (all_values xs)) (last_type 1 xs)

-- the arguments of `printf`
abbrev pub promoted_all : ℕ → List Operand → List Operand
promoted_all line [] = []
promoted_all line (x ∷ xs) = promoted_argument line x ∷ promoted_all line xs

module _ (source : Source) where
  -- the bytes of an expression that is string literals alone
  abbrev pub literal_at : ExpressionLayer → Option (List ℕ)
  literal_at (Expression-F.Strings place end) = Some (strings_between source place.token end)
  literal_at _ = None

  unfoldable pub literal_of : Expression → Option (List ℕ)
  literal_of e = literal_at (out-Expression e)

  module _ (type_phrase : Where → State → TypePhrase → Answer (Made × State))
      (inner : Where → State → Expression → Answer (Judged × State))
    where
      -- the value of a part
      unfoldable pub operand_of : Where → State → Expression → Answer (Operand × State)
      operand_of w s e = inner w s e >>= λ r. Ok (valued w.line r.1 r.0)

      -- ---- operators

      abbrev pub binary_node : Where → ℕ → State → Binary → Expression → Expression → Answer (Judged × State)
      binary_node w here s operator left right =
          operand_of w s left >>= λ a. operand_of w a.1 right >>= λ b.
          or_mismatch here (joined b.1.types w.line (sort_of operator) a.0 b.0) >>= λ x. Ok (value x, b.1)

      abbrev pub unary_node : Where → ℕ → State → UnaryOperator → Expression → Answer (Judged × State)
      unary_node w here s operator e =
          operand_of w s e >>= λ a. or_mismatch here (unary w.line operator a.0) >>= λ x. Ok (value x, a.1)

      abbrev pub not_node : Where → ℕ → State → Expression → Answer (Judged × State)
      not_node w here s e =
          operand_of w s e >>= λ a. or_mismatch here (negated a.1.types w.line a.0) >>= λ x. Ok (value x, a.1)

      abbrev pub address_node : Where → ℕ → State → Expression → Answer (Judged × State)
      address_node w here s e = inner w s e >>= λ a. address w.line here a.1 a.0 >>= λ x. Ok (as_value x)

      abbrev pub dereference_node : Where → ℕ → State → Expression → Answer (Judged × State)
      dereference_node w here s e =
          operand_of w s e >>= λ a. or_mismatch here (dereferenced a.1.types w.line a.0) >>= beside a.1

      abbrev pub index_node : Where → ℕ → State → Expression → Expression → Answer (Judged × State)
      index_node w here s left right =
          operand_of w s left >>= λ a. operand_of w a.1 right >>= λ b.
          or_mismatch here (indexed b.1.types w.line a.0 b.0) >>= beside b.1

      abbrev pub select_node : Where → ℕ → State → Selection → Expression → ℕ → Answer (Judged × State)
      select_node w here s selection.Direct e name =
          inner w s e >>= λ a. selected a.1.types w.line here a.0 (spelled source name) >>= beside a.1
      select_node w here s selection.ThroughPointer e name =
          operand_of w s e >>= λ a. through a.1.types w.line here a.0 (spelled source name) >>= beside a.1

      abbrev pub step_node : Where → ℕ → State → Step → Expression → Answer (Judged × State)
      step_node w here s which e = inner w s e >>= λ a. stepped w here which fixity.Prefix a.1 a.0 >>= λ x. Ok (as_value x)

      abbrev pub prefix_node : Where → ℕ → State → Prefix → Expression → Answer (Judged × State)
      prefix_node w here s prefix.Increment e = step_node w here s step.Increment e
      prefix_node w here s prefix.Decrement e = step_node w here s step.Decrement e
      prefix_node w here s prefix.Address e = address_node w here s e
      prefix_node w here s prefix.Dereference e = dereference_node w here s e
      prefix_node w here s prefix.Plus e = unary_node w here s sign.Plus e
      prefix_node w here s prefix.Minus e = unary_node w here s sign.Minus e
      prefix_node w here s prefix.Complement e = unary_node w here s sign.Complement e
      prefix_node w here s prefix.Not e = not_node w here s e

      abbrev pub step_behind : Postfix → Step
      step_behind postfix.Increment = step.Increment
      step_behind postfix.Decrement = step.Decrement

      abbrev pub postfix_node : Where → ℕ → State → Postfix → Expression → Answer (Judged × State)
      postfix_node w here s operator e =
          inner w s e >>= λ a. stepped w here (step_behind operator) fixity.Postfix a.1 a.0 >>= λ x. Ok (as_value x)

      abbrev pub conditional_node : Where → ℕ → State → Expression → Expression → Expression → Answer (Judged × State)
      conditional_node w here s test first second =
          operand_of w s test >>= λ t. operand_of w t.1 first >>= λ a. operand_of w a.1 second >>= λ b.
          conditional w.line here b.1.types t.0 a.0 b.0 >>= λ x. Ok (value x, b.1)

      abbrev pub comma_node : Where → State → List Expression → Answer (Judged × State)
      comma_node w s parts = each (operand_of w) s parts >>= λ r. Ok (value (comma w.line r.0), r.1)

      -- ---- assignments

      abbrev pub assign_by : Where → ℕ → Judged → Judged × State → Option Operator → Answer (Operand × State)
      assign_by w here left r None = assigned w here r.1 left r.0
      assign_by w here left r (Some operator) = updated w here operator left (valued w.line r.1 r.0)

      abbrev pub assign_node : Where → ℕ → State → Assignment → Expression → Expression → Answer (Judged × State)
      assign_node w here s which left right =
          inner w s left >>= λ a. inner w a.1 right >>= λ b. assign_by w here a.0 b (operator_of which) >>= λ x. Ok (as_value x)

      -- ---- types

      abbrev pub cast_node : Where → ℕ → State → TypePhrase → Expression → Answer (Judged × State)
      cast_node w here s name e =
          type_phrase w s name >>= λ t. let to = in_table t.1 t.0 in
          operand_of w to.1 e >>= λ x. cast x.1.types w.line here to.0 x.0 >>= λ y. Ok (value y, x.1)

      -- Nothing is evaluated there, and what is declared and added stays.
      abbrev pub size_node : Where → ℕ → State → Expression → Answer (Judged × State)
      size_node w here s e = inner (record w { unevaluated = true }) s e >>= λ a. sized w.line here a.1 a.0.kind

      abbrev pub type_size_node : Where → ℕ → State → TypePhrase → Answer (Judged × State)
      type_size_node w here s name =
          type_phrase (record w { unevaluated = true }) s name >>= λ t. let of = in_table t.1 t.0 in sized w.line here of.1 of.0

      -- ---- calls

      -- arguments before parameters: each is converted behind its value
      abbrev pub arguments : Where → State → List Taken → List Expression → Answer (Arguments × State)
      arguments w s [] [] = Ok (no_more true, s)
      arguments w s (taken ∷ rest) [] = Ok (no_more false, s)
      arguments w s [] (e ∷ es) = operand_of w s e >>= λ a. arguments w a.1 [] es >>= λ r. Ok (record r.0 { as_many = false }, r.1)
      arguments w s (taken ∷ rest) (e ∷ es) =
          operand_of w s e >>= λ a. let to = kind_taken a.1 taken in arguments w to.1 rest es >>= λ r.
          Ok (before (converted to.1.types w.line to.0 a.0) r.0, r.1)

      abbrev pub of_types : List ℕ → List Taken
      of_types [] = []
      of_types (kind ∷ kinds) = Kind kind ∷ of_types kinds

      -- a function of the text, which it defines somewhere: if not, its name is unknown
      abbrev pub call_of : Where → ℕ → ℕ → State → Option DeclaredFunction → Option ℕ → List Expression → Answer (Operand × State)
      call_of w here named_at s (Some f) (Some n) es =
          arguments w s (of_types f.signature.parameters) es >>= λ r. answered w here r.1 r.0 >>= λ xs.
          Ok (unknown (v.Call (at w.line f.signature.result) n xs) f.signature.result, r.1)
      call_of w here named_at s f n es = fault why.Unknown named_at

      abbrev pub number_by : Option DeclaredFunction → Option ℕ
      number_by (Some f) = f.number
      number_by None = None

      -- `printf`: the first argument is the format, a string literal that makes no object
      abbrev pub print_of : Where → ℕ → (format_line : ℕ) → State → List ℕ → List Expression → Answer (Operand × State)
      print_of w here format_line s bytes es =
          string_type format_line s bytes >>= λ t. each (operand_of w) (pointer_to t.1 2).1 es >>= λ r.
          printed w here r.1 (promoted_all w.line r.0) (source.format bytes)

      -- anything else there is read for its own faults
      abbrev pub print_by : Where → ℕ → State → Expression → Option (List ℕ) → List Expression → Answer (Operand × State)
      print_by w here s e (Some bytes) es = print_of w here (line_of e) s bytes es
      print_by w here s e None es = operand_of w s e >>= λ a. fault (why.LeftOut feature.FormatNotLiteral) (line_of e)

      abbrev pub print_node : Where → ℕ → State → List Expression → Answer (Operand × State)
      print_node w here s [] = answered w here s (no_more false) >>= λ xs. fault why.BadCall here
      print_node w here s (e ∷ es) = print_by w here s e (literal_of e) es

      abbrev pub given_call : Where → ℕ → State → BuiltIn → List Expression → Answer (Operand × State)
      given_call w here s given.Printf es = print_node w here s es
      given_call w here s given.AtomicFetchAdd es = each (operand_of w) s es >>= λ r. fetch_added w here r.1 r.0
      given_call w here s which es =
          arguments w s (taken_by which) es >>= λ r. answered w here r.1 r.0 >>= λ xs.
          given_node w here which xs (result_type r.1 which)

      -- a call of what is no function (C11 6.5.2.2p1): all that stands there is read first
      abbrev pub call_of_other : Where → ℕ → State → List Expression → Answer (Operand × State)
      call_of_other w here s es =
          each (operand_of w) s es >>= λ r. if w.constant then fault why.TypeMismatch here else fault why.BadCall here

      -- The name that is called, through parentheses, with its line, where a name is called.
      abbrev pub call_by : Where → ℕ → State → Expression → ℕ → List Expression → Option Symbol → Answer (Operand × State)
      call_by w here s callee named_at es (Some (means.Function n)) =
          call_of w here named_at s (declared_at s.functions n) (number_by (declared_at s.functions n)) es
      call_by w here s callee named_at es (Some (means.Given which)) = given_call w here s which es
      call_by w here s callee named_at es _ = inner w s callee >>= λ f. call_of_other w here f.1 es

      abbrev pub call_node : Where → ℕ → State → Expression → Option (ℕ × ℕ) → List Expression → Answer (Judged × State)
      call_node w here s callee (Some called) es = call_by w here s callee called.1 es (symbol_of s called.0) >>= λ x. Ok (as_value x)
      call_node w here s callee None es = call_by w here s callee here es None >>= λ x. Ok (as_value x)

      -- ---- one level

      abbrev pub judged_at : (called : Expression → Option (ℕ × ℕ)) → Where → State → ExpressionLayer → Answer (Judged × State)
      judged_at called w s (Expression-F.Expression::Name place) = named w.line place.line s (name_at source place.token)
      judged_at called w s (Expression-F.Number place n kind) = Ok (constant w.line (constant_type kind) (pos n), s)
      judged_at called w s (Expression-F.Character place n) = Ok (constant w.line 6 n, s)
      judged_at called w s (Expression-F.Strings place end) = string w place.line s (strings_between source place.token end)
      judged_at called w s (Expression-F.Expression::Parentheses place within) = inner w s within
      judged_at called w s (Expression-F.Index place left right) = index_node w place.line s left right
      judged_at called w s (Expression-F.Call place function es) = call_node w place.line s function (called function) es
      judged_at called w s (Expression-F.Select place how e token) = select_node w place.line s how e (name_at source token)
      judged_at called w s (Expression-F.Postfix place operator e) = postfix_node w place.line s operator e
      judged_at called w s (Expression-F.Prefix place operator e) = prefix_node w place.line s operator e
      judged_at called w s (Expression-F.SizeOf place e) = size_node w place.line s e
      judged_at called w s (Expression-F.SizeOfType place name) = type_size_node w place.line s name
      judged_at called w s (Expression-F.Cast place name e) = cast_node w place.line s name e
      judged_at called w s (Expression-F.Binary place operator left right) = binary_node w place.line s operator left right
      judged_at called w s (Expression-F.Conditional place test first second) = conditional_node w place.line s test first second
      judged_at called w s (Expression-F.Assign place which left right) = assign_node w place.line s which left right
      judged_at called w s (Expression-F.Comma place parts) = comma_node w s parts

      -- whose parts are read so
      unfoldable pub judged_by : (called : Expression → Option (ℕ × ℕ)) → Where → State → Expression → Answer (Judged × State)
      judged_by called w s e = judged_at called w s (out-Expression e)

  -- ---- the name that is called

  abbrev pub called_at : (Expression → Option (ℕ × ℕ)) → ExpressionLayer → Option (ℕ × ℕ)
  called_at inner (Expression-F.Expression::Name place) = Some (name_at source place.token, place.line)
  called_at inner (Expression-F.Expression::Parentheses place within) = inner within
  called_at inner _ = None

  -- a name, perhaps in parentheses, which nest so deep at most
  unfoldable pub called : ℕ → Expression → Option (ℕ × ℕ)
  called zero e = None
  called (suc depth) e = called_at (called depth) (out-Expression e)
