-- Declarations, statements and units are no deeper than the grammar derives them.
use Rattle.std.proofs.Common.{ℕ, ◌≤◌, List, map, Option, arith}
use Rattle.c_tokens.specs.declared.token.Token.{Token}
use Rattle.c_grammar.specs.declared.phrases.Expression.{Expression}
use Rattle.c_grammar.specs.declared.units.TypeName.{TypeName}
use Rattle.c_grammar.specs.declared.statements.Initialiser.{Initialiser}
use Rattle.c_grammar.specs.declared.statements.InitDeclarator.{InitDeclarator}
use Rattle.c_grammar.specs.declared.statements.Declaration.{Declaration}
use Rattle.c_grammar.specs.declared.statements.ForStart.{ForStart}
use Rattle.c_grammar.specs.declared.statements.BlockItem.{BlockItem}
use Rattle.c_grammar.specs.declared.statements.Statement.{Statement}
use Rattle.c_grammar.specs.declared.statements.Block.{Block}
use Rattle.c_grammar.specs.declared.units.Function.{Function}
use Rattle.c_grammar.specs.declared.units.External.{External}
use Rattle.c_grammar.specs.declared.units.Unit.{Unit as Whole}
use Rattle.c_tokens.specs.Names.{Name}
use Rattle.c_grammar.specs.declared.words.NameKind.{NameKind}
use Rattle.c_grammar.specs.Limits.{max_depth}
use Rattle.c_grammar.specs.Scope.{Scope}
use Rattle.c_grammar.specs.Initialisers as d
use Rattle.c_grammar.specs.Initialisers.{IsInitialiser, AreInitialisers, IsInitDeclarator, AreInitDeclarators, IsDeclaration}
use Rattle.c_grammar.specs.Statements as s
use Rattle.c_grammar.specs.Statements.{IsOptional, IsForStart, IsBlock, AreItems, IsStatement}
use Rattle.c_grammar.specs.Units as u
use Rattle.c_grammar.specs.Units.{IsFunction, AreExternals, Derives, DerivesTypeName}
use Rattle.tree_sizes.specs.Depths.{deepest, depth_of_type_phrase, depth_of_initialiser, depth_of_init_declarator, depth_of_declaration, depth_of_optional, depth_of_for_start, depth_of_block_item, depth_of_statement, depth_of_block, depth_of_function, depth_of_external, depth_of_unit}
use Rattle.tree_sizes.proofs.StatementDepthEquations.{initialiser_value, initialiser_braces, item_declaration, item_statement, block_depth, statement_block, statement_empty, statement_expression, statement_if, statement_if_else, statement_while, statement_do, statement_for, statement_switch, statement_case, statement_default, statement_break, statement_continue, statement_return}
use Rattle.tree_sizes.proofs.PhraseDepths.{expression_shallow, specs_shallow, declarator_shallow, type_phrase_shallow}

module _ (text : List ℕ) (ts : List Token) where
  -- ---- declarations

  mutual
    initialiser_shallow : {depth from to : ℕ} {scope after : Scope} {found : Initialiser} → IsInitialiser text ts depth scope after from to found →
        depth_of_initialiser found ≤ depth
    initialiser_shallow (d.value a) = let i = expression_shallow text ts a in rw initialiser_value (omega arith)
    initialiser_shallow (d.braces opens all closes) = let i = initialisers_shallow all in rw initialiser_braces (omega arith)

    initialisers_shallow : {depth from to : ℕ} {scope after : Scope} {all : List Initialiser} → AreInitialisers text ts depth scope after from to all →
        deepest (map depth_of_initialiser all) ≤ depth
    initialisers_shallow (d.last_initialiser a) = let i = initialiser_shallow a in omega arith
    initialisers_shallow (d.more_initialisers a is rest) = let i = initialiser_shallow a in let j = initialisers_shallow rest in omega arith

  init_declarator_shallow : {depth from to : ℕ} {kind : NameKind} {scope after : Scope} {found : InitDeclarator} →
      IsInitDeclarator text ts depth kind scope after from to found → depth_of_init_declarator found ≤ depth
  unfolding depth_of_init_declarator
  init_declarator_shallow (d.without_value a) = let i = declarator_shallow text ts a in omega arith
  init_declarator_shallow (d.with_value a is b) = let i = declarator_shallow text ts a in let j = initialiser_shallow b in omega arith

  init_declarators_shallow : {depth from to : ℕ} {kind : NameKind} {scope after : Scope} {all : List InitDeclarator} →
      AreInitDeclarators text ts depth kind scope after from to all → deepest (map depth_of_init_declarator all) ≤ depth
  init_declarators_shallow (d.last a) = let i = init_declarator_shallow a in omega arith
  init_declarators_shallow (d.more a is rest) = let i = init_declarator_shallow a in let j = init_declarators_shallow rest in omega arith

  declaration_shallow : {depth from to : ℕ} {scope after : Scope} {found : Declaration} → IsDeclaration text ts depth scope after from to found →
      depth_of_declaration found ≤ depth
  unfolding depth_of_declaration
  declaration_shallow (d.of_no_name held closes) = let i = specs_shallow text ts held in omega arith
  declaration_shallow (d.of_names held all closes) = let i = specs_shallow text ts held in let j = init_declarators_shallow all in omega arith

  -- ---- statements

  optional_shallow : {depth from to : ℕ} {scope after : Scope} {found : Option Expression} → IsOptional text ts depth scope after from to found →
      depth_of_optional found ≤ depth
  optional_shallow s.absent = omega arith
  optional_shallow (s.present a) = let i = expression_shallow text ts a in omega arith

  for_start_shallow : {depth from to : ℕ} {scope after : Scope} {found : ForStart} → IsForStart text ts depth scope after from to found →
      depth_of_for_start found ≤ depth
  unfolding depth_of_for_start
  for_start_shallow (s.declaration a) = let i = declaration_shallow a in omega arith
  for_start_shallow (s.expression a closes) = let i = optional_shallow a in omega arith

  mutual
    block_shallow : {depth from to : ℕ} {scope : Scope} {found : Block} → IsBlock text ts depth scope from to found → depth_of_block found ≤ depth
    block_shallow (s.block opens all closes) = let i = items_shallow all in rw block_depth (omega arith)

    items_shallow : {depth from to : ℕ} {scope : Scope} {all : List BlockItem} → AreItems text ts depth scope from to all →
        deepest (map depth_of_block_item all) ≤ depth
    items_shallow s.no_items = omega arith
    items_shallow (s.declaration_first a rest) = let i = declaration_shallow a in let j = items_shallow rest in rw item_declaration (omega arith)
    items_shallow (s.statement_first a rest) = let i = statement_shallow a in let j = items_shallow rest in rw item_statement (omega arith)

    statement_shallow : {depth from to : ℕ} {scope after : Scope} {found : Statement} → IsStatement text ts depth scope after from to found →
        depth_of_statement found ≤ depth
    statement_shallow (s.of_block b) = let i = block_shallow b in rw statement_block (omega arith)
    statement_shallow (s.empty is) = rw statement_empty (omega arith)
    statement_shallow (s.expression a is) = let i = expression_shallow text ts a in rw statement_expression (omega arith)
    statement_shallow (s.if_alone is opens a closes b alone) =
        let i = expression_shallow text ts a in let j = statement_shallow b in rw statement_if (omega arith)
    statement_shallow (s.if_else is opens a closes b also c) =
        let i = expression_shallow text ts a in let j = statement_shallow b in let l = statement_shallow c in rw statement_if_else (omega arith)
    statement_shallow (s.while is opens a closes b) = let i = expression_shallow text ts a in let j = statement_shallow b in rw statement_while (omega arith)
    statement_shallow (s.do_while is b also opens a closes ends) =
        let i = expression_shallow text ts a in let j = statement_shallow b in rw statement_do (omega arith)
    statement_shallow (s.for is opens start test also step closes b) =
        let i = for_start_shallow start in let j = optional_shallow test in let l = optional_shallow step in let m = statement_shallow b in
        rw statement_for (omega arith)
    statement_shallow (s.switch is opens a closes b) = let i = expression_shallow text ts a in let j = block_shallow b in rw statement_switch (omega arith)
    statement_shallow (s.case is a closes) = let i = expression_shallow text ts a in rw statement_case (omega arith)
    statement_shallow (s.default is closes) = rw statement_default (omega arith)
    statement_shallow (s.break is closes) = rw statement_break (omega arith)
    statement_shallow (s.continue is closes) = rw statement_continue (omega arith)
    statement_shallow (s.return is a closes) = let i = optional_shallow a in rw statement_return (omega arith)

  -- ---- units

  function_shallow : {from to : ℕ} {scope after : Scope} {found : Function} → IsFunction text ts scope after from to found →
      depth_of_function found ≤ max_depth
  unfolding depth_of_function
  function_shallow (u.function held a b) = let i = specs_shallow text ts held in let j = declarator_shallow text ts a in let l = block_shallow b in omega arith

  externals_shallow : {from to : ℕ} {scope : Scope} {all : List External} → AreExternals text ts scope from to all →
      deepest (map depth_of_external all) ≤ max_depth
  unfolding depth_of_external
  externals_shallow u.none = omega arith
  externals_shallow (u.declaration a rest) = let i = declaration_shallow a in let j = externals_shallow rest in omega arith
  externals_shallow (u.function a rest) = let i = function_shallow a in let j = externals_shallow rest in omega arith

  pub unit_shallow : (unit : Whole) → Derives text ts unit → depth_of_unit unit ≤ max_depth
  unfolding depth_of_unit
  unit_shallow unit derived = let i = externals_shallow derived.items in omega arith

  pub type_name_shallow : (typedefs : List Name) (type : TypeName) → DerivesTypeName text ts typedefs type →
      depth_of_type_phrase type.phrase ≤ max_depth
  type_name_shallow typedefs type derived = let i = type_phrase_shallow text ts derived.phrase in omega arith
