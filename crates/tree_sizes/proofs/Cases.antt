-- Trees whose nodes were counted by hand.
use Rattle.std.proofs.Common.{◌≡◌, ℕ, List, [], ◌∷◌, Some, None, refl}
use Rattle.c_tokens.specs.declared.kind.NumType.TheVariants as n
use Rattle.c_grammar.specs.declared.words.Place.{Place}
use Rattle.c_grammar.specs.declared.words.Qualifier.TheVariants as q
use Rattle.c_grammar.specs.declared.words.BasicWord.TheVariants as b
use Rattle.c_grammar.specs.declared.words.Aggregate.TheVariants as aggregate
use Rattle.c_grammar.specs.declared.words.Binary.TheVariants as binary
use Rattle.c_grammar.specs.declared.phrases.Specs.{Specs}
use Rattle.c_grammar.specs.declared.phrases.TypePhrase.{TypePhrase}
use Rattle.c_grammar.specs.declared.phrases.Expression.TheVariants as e
use Rattle.c_grammar.specs.declared.phrases.Specifier.TheVariants as s
use Rattle.c_grammar.specs.declared.phrases.Declarator.TheVariants as d
use Rattle.c_grammar.specs.declared.statements.Initialiser.TheVariants as i
use Rattle.c_grammar.specs.declared.statements.Declaration.{Declaration}
use Rattle.c_grammar.specs.declared.statements.ForStart.TheVariants as begin
use Rattle.c_grammar.specs.declared.statements.BlockItem.TheVariants as item
use Rattle.c_grammar.specs.declared.statements.Statement.TheVariants as st
use Rattle.token_texts.specs.Texts.{Texts}
use Rattle.c_grammar.specs.declared.units.External.{External}
use Rattle.c_grammar.specs.declared.units.External.TheVariants as x
use Rattle.c_grammar.specs.declared.units.Unit.{Unit as Whole}
use Rattle.tree_sizes.specs.Sizes.{nodes_of_declarator, nodes_of_specifier, nodes_of_type_phrase, nodes_of_initialiser, nodes_of_init_declarator, nodes_of_declaration, nodes_of_for_start, nodes_of_statement, nodes_of_function, nodes_of_external, nodes_of_unit}
use Rattle.tree_sizes.specs.Depths.{depth_of_specifier, depth_of_initialiser, depth_of_function, depth_of_external, depth_of_unit}
use Rattle.tree_sizes.proofs.PhraseDepthEquations as deep
use Rattle.tree_sizes.proofs.StatementDepthEquations as deeper
use Rattle.tree_sizes.proofs.PhraseEquations.{declarator_name, declarator_unnamed, declarator_pointer, declarator_function, expression_name, expression_number, expression_index, expression_size_of_type, expression_binary, specifier_basic, specifier_members, specifier_enumerators, enumerator_without_value, enumerator_with_value, member_nodes, parameter_nodes, specs_nodes, type_phrase_nodes}
use Rattle.tree_sizes.proofs.StatementEquations.{initialiser_value, initialiser_braces, item_statement, block_nodes, statement_empty, statement_for, statement_return}

abbrev place : ℕ → Place
place at = record { token = at; line = 1 }

abbrev int_at : ℕ → Specs
int_at at = record { place = place at; words = s.Basic (place at) b.Int ∷ [] }

abbrev pub no_texts : Texts
no_texts = record { names = []; strings = []; numbers = [] }

abbrev unit : List External → Whole
unit items = record { items = items; texts = no_texts }

-- no text
nothing : nodes_of_unit (unit []) ≡ 1
unfolding nodes_of_unit
nothing = refl

-- `int;`: the unit, what stands outside all functions, a declaration, specifiers, one of them
abbrev pub no_name_unit : Whole
no_name_unit = unit (x.Declaration (record { place = place 0; specs = int_at 0; declarators = [] }) ∷ [])

pub no_name : nodes_of_unit no_name_unit ≡ 5
unfolding nodes_of_unit nodes_of_external nodes_of_declaration
no_name = simp (specs_nodes, specifier_basic)

-- `int a;`: a declarator with its initialiser, and the declarator, are two more
abbrev an_int : Declaration
an_int = record {
  place = place 0;
  specs = int_at 0;
  declarators = (record { place = place 1; declarator = d.Name (place 1); value = None }) ∷ [];
}

one_name : nodes_of_unit (unit (x.Declaration an_int ∷ [])) ≡ 7
unfolding nodes_of_unit nodes_of_external nodes_of_declaration nodes_of_init_declarator
one_name = simp (specs_nodes, specifier_basic, declarator_name)

-- `int`
abbrev pub int_phrase : TypePhrase
int_phrase = record { place = place 0; specs = int_at 0; declarator = d.Unnamed }

pub an_int_phrase : nodes_of_type_phrase int_phrase ≡ 4
an_int_phrase = simp (type_phrase_nodes, specs_nodes, specifier_basic, declarator_unnamed)

-- `*const restrict p`
a_pointer : nodes_of_declarator (d.Pointer (place 0) (q.Const ∷ q.Restrict ∷ []) (d.Name (place 3))) ≡ 4
a_pointer = simp (declarator_pointer, declarator_name)

-- `struct { int a, b; }`
members : nodes_of_specifier
    (s.Members (place 0) aggregate.Struct None
    ((record { place = place 2; specs = int_at 2; declarators = d.Name (place 3) ∷ d.Name (place 5) ∷ [] }) ∷ []))
    ≡ 6
members = simp (specifier_members, member_nodes, specs_nodes, specifier_basic, declarator_name)

-- `enum { A, B = 1 }`
enumerators : nodes_of_specifier
    (s.Enumerators (place 0) None
    ((record { place = place 2; value = None })
    ∷ (record { place = place 4; value = Some (e.Number (place 6) 1 n.Int) }) ∷ []))
    ≡ 4
enumerators = simp (specifier_enumerators, enumerator_without_value, enumerator_with_value, expression_number)

-- `{1, {2}}`
lists : nodes_of_initialiser
    (i.Braces (place 0)
    (i.Value (e.Number (place 1) 1 n.Int) ∷ i.Braces (place 3) (i.Value (e.Number (place 4) 2 n.Int) ∷ []) ∷ []))
    ≡ 6
lists = simp (initialiser_braces, initialiser_value, expression_number)

-- `for (int a; a; ) ;`: the statement, what it begins with, a declaration of five, the test, and the empty statement
a_loop : nodes_of_statement
    (st.For (place 0) (begin.Declaration an_int) (Some (e.Name (place 5))) None (st.Empty (place 8)))
    ≡ 9
unfolding nodes_of_for_start nodes_of_declaration nodes_of_init_declarator
a_loop = simp (statement_for, specs_nodes, specifier_basic, declarator_name, expression_name, statement_empty)

-- `int f(int) { return sizeof(int) + a[0]; }`
abbrev f_unit : Whole
f_unit =
    unit
    (x.Function (record {
      place = place 0;
      specs = int_at 0;
      declarator = d.Function (place 1) (d.Name (place 1)) ((record { place = place 3; specs = int_at 3; declarator = d.Unnamed }) ∷ []);
      body =
          record {
            place = place 5;
            items =
                item.Statement (st.Return (place 6)
                (Some (e.Binary (place 7) binary.Add
                (e.SizeOfType (place 7) (record { place = place 9; specs = int_at 9; declarator = d.Unnamed }))
                (e.Index (place 12) (e.Name (place 12)) (e.Number (place 14) 0 n.Int)))))
                ∷ [];
          };
    })
    ∷ [])

a_function : nodes_of_unit f_unit ≡ 23
unfolding nodes_of_unit nodes_of_external nodes_of_function
a_function =
    simp (
      specs_nodes,
      specifier_basic,
      declarator_function,
      declarator_name,
      parameter_nodes,
      declarator_unnamed,
      block_nodes,
      item_statement,
      statement_return,
      expression_binary,
      expression_size_of_type,
      type_phrase_nodes,
      expression_index,
      expression_name,
      expression_number,
    )

-- its depth: the block, the statement, the sum, and `a[0]` with its parts
depth_of_a_function : depth_of_unit f_unit ≡ 5
unfolding depth_of_unit depth_of_external depth_of_function
depth_of_a_function =
    simp (
      deep.specs_depth,
      deep.specifier_basic,
      deep.declarator_function,
      deep.declarator_name,
      deep.parameter_depth,
      deep.declarator_unnamed,
      deeper.block_depth,
      deeper.item_statement,
      deeper.statement_return,
      deep.expression_binary,
      deep.expression_size_of_type,
      deep.type_phrase_depth,
      deep.expression_index,
      deep.expression_name,
      deep.expression_number,
    )

-- `{1, {2}}`: two lists and a number
depth_of_lists : depth_of_initialiser
    (i.Braces (place 0)
    (i.Value (e.Number (place 1) 1 n.Int) ∷ i.Braces (place 3) (i.Value (e.Number (place 4) 2 n.Int) ∷ []) ∷ []))
    ≡ 3
depth_of_lists = simp (deeper.initialiser_braces, deeper.initialiser_value, deep.expression_number)

-- `struct { int *a; }`: the list of members, and a declarator with its name
depth_of_members : depth_of_specifier
    (s.Members (place 0) aggregate.Struct None
    ((record { place = place 2; specs = int_at 2; declarators = d.Pointer (place 3) [] (d.Name (place 4)) ∷ [] }) ∷ []))
    ≡ 3
depth_of_members = simp (deep.specifier_members, deep.member_depth, deep.specs_depth, deep.specifier_basic, deep.declarator_pointer, deep.declarator_name)
