-- How deep an initialiser, a statement or a block is from how deep its parts are: an equation for each variant.
use Rattle.std.proofs.Common.{◌≡◌, ℕ, ◌+◌, max, List, map, Option, sym, ap, ◌∙◌}
use Rattle.c_grammar.specs.declared.words.Place.{Place}
use Rattle.c_grammar.specs.declared.phrases.Expression.{Expression}
use Rattle.c_grammar.specs.declared.statements.Initialiser.{Initialiser, Initialiser-F, fold-roll-Initialiser}
use Rattle.c_grammar.specs.declared.statements.Initialiser.TheVariants as i
use Rattle.c_grammar.specs.declared.statements.Declaration.{Declaration}
use Rattle.c_grammar.specs.declared.statements.ForStart.{ForStart}
use Rattle.c_grammar.specs.declared.statements.BlockItem.{BlockItem, BlockItem-F, fold-roll-BlockItem}
use Rattle.c_grammar.specs.declared.statements.BlockItem.TheVariants as item
use Rattle.c_grammar.specs.declared.statements.Statement.{Statement, Statement-F, roll-Statement, map-Statement, fold-roll-Statement}
use Rattle.c_grammar.specs.declared.statements.Statement.TheVariants as s
use Rattle.c_grammar.specs.declared.statements.Block.{Block, fold_out-Block}
use Rattle.tree_sizes.specs.Depths.{deepest, depth_of_expression, depth_of_optional, depth_of_declaration, depth_of_for_start, initialiser_step, depth_of_initialiser, item_step, statement_step, block_step, depth_of_block_item, depth_of_statement, depth_of_block}

pub initialiser_value : (e : Expression) → depth_of_initialiser (i.Value e) ≡ depth_of_expression e
unfolding depth_of_initialiser
initialiser_value e = ap depth_of_initialiser (sym (i.rolls-Value e)) ∙ fold-roll-Initialiser ℕ initialiser_step (Initialiser-F.Value e)

pub initialiser_braces : (place : Place) (all : List Initialiser) → depth_of_initialiser (i.Braces place all) ≡ 1 + deepest (map depth_of_initialiser all)
unfolding depth_of_initialiser
initialiser_braces place all =
    ap depth_of_initialiser (sym (i.rolls-Braces place all)) ∙ fold-roll-Initialiser ℕ initialiser_step (Initialiser-F.Braces place all)

pub item_declaration : (one : Declaration) → depth_of_block_item (item.Declaration one) ≡ depth_of_declaration one
unfolding depth_of_block_item
item_declaration one =
    ap depth_of_block_item (sym (item.rolls-Declaration one)) ∙ fold-roll-BlockItem ℕ ℕ ℕ item_step statement_step block_step (BlockItem-F.Declaration one)

pub item_statement : (one : Statement) → depth_of_block_item (item.Statement one) ≡ depth_of_statement one
unfolding depth_of_block_item depth_of_statement
item_statement one =
    ap depth_of_block_item (sym (item.rolls-Statement one)) ∙ fold-roll-BlockItem ℕ ℕ ℕ item_step statement_step block_step (BlockItem-F.Statement one)

pub block_depth : (one : Block) → depth_of_block one ≡ 1 + deepest (map depth_of_block_item one.items)
unfolding depth_of_block depth_of_block_item
block_depth = fold_out-Block ℕ ℕ ℕ item_step statement_step block_step

-- any layer
statement : (x : Statement-F BlockItem Statement Block) (one : Statement) → roll-Statement x ≡ one →
    depth_of_statement one ≡ statement_step (map-Statement BlockItem Statement Block ℕ ℕ ℕ depth_of_block_item depth_of_statement depth_of_block x)
unfolding depth_of_block_item depth_of_statement depth_of_block
statement x one is = ap depth_of_statement (sym is) ∙ fold-roll-Statement ℕ ℕ ℕ item_step statement_step block_step x

pub statement_block : (one : Block) → depth_of_statement (s.Block one) ≡ depth_of_block one
statement_block one = statement _ _ (s.rolls-Block one)

pub statement_empty : (place : Place) → depth_of_statement (s.Empty place) ≡ 1
statement_empty place = statement _ _ (s.rolls-Empty place)

pub statement_expression : (place : Place) (a : Expression) → depth_of_statement (s.Expression place a) ≡ 1 + depth_of_expression a
statement_expression place a = statement _ _ (s.rolls-Expression place a)

pub statement_if : (place : Place) (a : Expression) (b : Statement) → depth_of_statement (s.If place a b) ≡ 1 + max (depth_of_expression a) (depth_of_statement b)
statement_if place a b = statement _ _ (s.rolls-If place a b)

pub statement_if_else : (place : Place) (a : Expression) (b c : Statement) →
    depth_of_statement (s.IfElse place a b c) ≡ 1 + max (depth_of_expression a) (max (depth_of_statement b) (depth_of_statement c))
statement_if_else place a b c = statement _ _ (s.rolls-IfElse place a b c)

pub statement_while : (place : Place) (a : Expression) (b : Statement) →
    depth_of_statement (s.While place a b) ≡ 1 + max (depth_of_expression a) (depth_of_statement b)
statement_while place a b = statement _ _ (s.rolls-While place a b)

pub statement_do : (place : Place) (b : Statement) (a : Expression) →
    depth_of_statement (s.Do place b a) ≡ 1 + max (depth_of_statement b) (depth_of_expression a)
statement_do place b a = statement _ _ (s.rolls-Do place b a)

pub statement_for : (place : Place) (start : ForStart) (test step : Option Expression) (b : Statement) →
    depth_of_statement (s.For place start test step b)
    ≡ 1 + max (depth_of_for_start start) (max (depth_of_optional test) (max (depth_of_optional step) (depth_of_statement b)))
statement_for place start test step b = statement _ _ (s.rolls-For place start test step b)

pub statement_switch : (place : Place) (a : Expression) (b : Block) →
    depth_of_statement (s.Switch place a b) ≡ 1 + max (depth_of_expression a) (depth_of_block b)
statement_switch place a b = statement _ _ (s.rolls-Switch place a b)

pub statement_case : (place : Place) (a : Expression) → depth_of_statement (s.Case place a) ≡ 1 + depth_of_expression a
statement_case place a = statement _ _ (s.rolls-Case place a)

pub statement_default : (place : Place) → depth_of_statement (s.Default place) ≡ 1
statement_default place = statement _ _ (s.rolls-Default place)

pub statement_break : (place : Place) → depth_of_statement (s.Break place) ≡ 1
statement_break place = statement _ _ (s.rolls-Break place)

pub statement_continue : (place : Place) → depth_of_statement (s.Continue place) ≡ 1
statement_continue place = statement _ _ (s.rolls-Continue place)

pub statement_return : (place : Place) (a : Option Expression) → depth_of_statement (s.Return place a) ≡ 1 + depth_of_optional a
statement_return place a = statement _ _ (s.rolls-Return place a)
