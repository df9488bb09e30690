-- Declarations, statements and units have at most two nodes for each of their tokens; the unit itself is one more.
use Rattle.std.proofs.Common.{ℕ, ◌+◌, ◌*◌, ◌≤◌, List, length, map, Option, arith}
use Rattle.c_tokens.specs.declared.token.Token.{Token}
use Rattle.c_grammar.specs.declared.phrases.Expression.{Expression}
use Rattle.c_grammar.specs.declared.units.TypeName.{TypeName}
use Rattle.c_grammar.specs.declared.statements.Initialiser.{Initialiser}
use Rattle.c_grammar.specs.declared.statements.InitDeclarator.{InitDeclarator}
use Rattle.c_grammar.specs.declared.statements.Declaration.{Declaration}
use Rattle.c_grammar.specs.declared.statements.ForStart.{ForStart}
use Rattle.c_grammar.specs.declared.statements.BlockItem.{BlockItem}
use Rattle.c_grammar.specs.declared.statements.Statement.{Statement}
use Rattle.c_grammar.specs.declared.statements.Block.{Block}
use Rattle.c_grammar.specs.declared.units.Function.{Function}
use Rattle.c_grammar.specs.declared.units.External.{External}
use Rattle.c_grammar.specs.declared.units.Unit.{Unit as Whole}
use Rattle.c_tokens.specs.Names.{Name}
use Rattle.c_grammar.specs.declared.words.NameKind.{NameKind}
use Rattle.c_grammar.specs.Scope.{Scope}
use Rattle.c_grammar.specs.Initialisers as d
use Rattle.c_grammar.specs.Initialisers.{IsInitialiser, AreInitialisers, IsInitDeclarator, AreInitDeclarators, IsDeclaration}
use Rattle.c_grammar.specs.Statements as s
use Rattle.c_grammar.specs.Statements.{IsOptional, IsForStart, IsBlock, AreItems, IsStatement}
use Rattle.c_grammar.specs.Units as u
use Rattle.c_grammar.specs.Units.{IsFunction, AreExternals, Derives, DerivesTypeName}
use Rattle.tree_sizes.specs.Sizes.{total, nodes_of_type_phrase, nodes_of_initialiser, nodes_of_init_declarator, nodes_of_declaration, nodes_of_optional, nodes_of_for_start, nodes_of_block_item, nodes_of_statement, nodes_of_block, nodes_of_function, nodes_of_external, nodes_of_unit}
use Rattle.tree_sizes.proofs.StatementEquations.{initialiser_value, initialiser_braces, item_declaration, item_statement, block_nodes, statement_block, statement_empty, statement_expression, statement_if, statement_if_else, statement_while, statement_do, statement_for, statement_switch, statement_case, statement_default, statement_break, statement_continue, statement_return}
use Rattle.tree_sizes.proofs.PhraseSizes.{closing_moves, expression_small, type_phrase_small, specs_small, declarator_small}

module _ (text : List ℕ) (ts : List Token) where
  -- ---- declarations

  mutual
    initialiser_small : {depth from to : ℕ} {scope after : Scope} {found : Initialiser} → IsInitialiser text ts depth scope after from to found →
        nodes_of_initialiser found + 2 * from ≤ 2 * to
    initialiser_small (d.value a) = let i = expression_small text ts a in rw initialiser_value (omega arith)
    initialiser_small (d.braces opens all closes) = let i = initialisers_small all in let j = closing_moves ts closes in rw initialiser_braces (omega arith)

    initialisers_small : {depth from to : ℕ} {scope after : Scope} {all : List Initialiser} → AreInitialisers text ts depth scope after from to all →
        total (map nodes_of_initialiser all) + 2 * from ≤ 2 * to
    initialisers_small (d.last_initialiser a) = let i = initialiser_small a in omega arith
    initialisers_small (d.more_initialisers a is rest) = let i = initialiser_small a in let j = initialisers_small rest in omega arith

  init_declarator_small : {depth from to : ℕ} {kind : NameKind} {scope after : Scope} {found : InitDeclarator} →
      IsInitDeclarator text ts depth kind scope after from to found → nodes_of_init_declarator found + 2 * from ≤ 2 * to
  unfolding nodes_of_init_declarator
  init_declarator_small (d.without_value a) = let i = declarator_small text ts a in omega arith
  init_declarator_small (d.with_value a is b) = let i = declarator_small text ts a in let j = initialiser_small b in omega arith

  init_declarators_small : {depth from to : ℕ} {kind : NameKind} {scope after : Scope} {all : List InitDeclarator} →
      AreInitDeclarators text ts depth kind scope after from to all → total (map nodes_of_init_declarator all) + 2 * from ≤ 2 * to
  init_declarators_small (d.last a) = let i = init_declarator_small a in omega arith
  init_declarators_small (d.more a is rest) = let i = init_declarator_small a in let j = init_declarators_small rest in omega arith

  declaration_small : {depth from to : ℕ} {scope after : Scope} {found : Declaration} → IsDeclaration text ts depth scope after from to found →
      nodes_of_declaration found + 1 + 2 * from ≤ 2 * to
  unfolding nodes_of_declaration
  declaration_small (d.of_no_name held closes) = let i = specs_small text ts held in omega arith
  declaration_small (d.of_names held all closes) = let i = specs_small text ts held in let j = init_declarators_small all in omega arith

  -- ---- statements

  optional_small : {depth from to : ℕ} {scope after : Scope} {found : Option Expression} → IsOptional text ts depth scope after from to found →
      nodes_of_optional found + 2 * from ≤ 2 * to
  optional_small s.absent = omega arith
  optional_small (s.present a) = let i = expression_small text ts a in omega arith

  for_start_small : {depth from to : ℕ} {scope after : Scope} {found : ForStart} → IsForStart text ts depth scope after from to found →
      nodes_of_for_start found + 2 * from ≤ 2 * to
  unfolding nodes_of_for_start
  for_start_small (s.declaration a) = let i = declaration_small a in omega arith
  for_start_small (s.expression a closes) = let i = optional_small a in omega arith

  mutual
    block_small : {depth from to : ℕ} {scope : Scope} {found : Block} → IsBlock text ts depth scope from to found → nodes_of_block found + 3 + 2 * from ≤ 2 * to
    block_small (s.block opens all closes) = let i = items_small all in rw block_nodes (omega arith)

    items_small : {depth from to : ℕ} {scope : Scope} {all : List BlockItem} → AreItems text ts depth scope from to all →
        total (map nodes_of_block_item all) + 2 * from ≤ 2 * to
    items_small s.no_items = omega arith
    items_small (s.declaration_first a rest) = let i = declaration_small a in let j = items_small rest in rw item_declaration (omega arith)
    items_small (s.statement_first a rest) = let i = statement_small a in let j = items_small rest in rw item_statement (omega arith)

    statement_small : {depth from to : ℕ} {scope after : Scope} {found : Statement} → IsStatement text ts depth scope after from to found →
        nodes_of_statement found + 1 + 2 * from ≤ 2 * to
    statement_small (s.of_block b) = let i = block_small b in rw statement_block (omega arith)
    statement_small (s.empty is) = rw statement_empty (omega arith)
    statement_small (s.expression a is) = let i = expression_small text ts a in rw statement_expression (omega arith)
    statement_small (s.if_alone is opens a closes b alone) =
        let i = expression_small text ts a in let j = statement_small b in rw statement_if (omega arith)
    statement_small (s.if_else is opens a closes b also c) =
        let i = expression_small text ts a in let j = statement_small b in let l = statement_small c in rw statement_if_else (omega arith)
    statement_small (s.while is opens a closes b) = let i = expression_small text ts a in let j = statement_small b in rw statement_while (omega arith)
    statement_small (s.do_while is b also opens a closes ends) =
        let i = expression_small text ts a in let j = statement_small b in rw statement_do (omega arith)
    statement_small (s.for is opens start test also step closes b) =
        let i = for_start_small start in let j = optional_small test in let l = optional_small step in let m = statement_small b in
        rw statement_for (omega arith)
    statement_small (s.switch is opens a closes b) = let i = expression_small text ts a in let j = block_small b in rw statement_switch (omega arith)
    statement_small (s.case is a closes) = let i = expression_small text ts a in rw statement_case (omega arith)
    statement_small (s.default is closes) = rw statement_default (omega arith)
    statement_small (s.break is closes) = rw statement_break (omega arith)
    statement_small (s.continue is closes) = rw statement_continue (omega arith)
    statement_small (s.return is a closes) = let i = optional_small a in rw statement_return (omega arith)

  -- ---- units

  function_small : {from to : ℕ} {scope after : Scope} {found : Function} → IsFunction text ts scope after from to found →
      nodes_of_function found + 1 + 2 * from ≤ 2 * to
  unfolding nodes_of_function
  function_small (u.function held a b) = let i = specs_small text ts held in let j = declarator_small text ts a in let l = block_small b in omega arith

  externals_small : {from to : ℕ} {scope : Scope} {all : List External} → AreExternals text ts scope from to all →
      total (map nodes_of_external all) + 2 * from ≤ 2 * to
  unfolding nodes_of_external
  externals_small u.none = omega arith
  externals_small (u.declaration a rest) = let i = declaration_small a in let j = externals_small rest in omega arith
  externals_small (u.function a rest) = let i = function_small a in let j = externals_small rest in omega arith

  pub unit_small : (unit : Whole) → Derives text ts unit → nodes_of_unit unit ≤ 2 * length ts + 1
  unfolding nodes_of_unit
  unit_small unit derived = let i = externals_small derived.items in omega arith

  pub type_name_small : (typedefs : List Name) (type : TypeName) → DerivesTypeName text ts typedefs type →
      nodes_of_type_phrase type.phrase ≤ 2 * length ts + 2
  type_name_small typedefs type derived = let i = type_phrase_small text ts derived.phrase in omega arith
