-- The nodes of a statement or a block are those of its parts: an equation for each variant.
use Rattle.std.proofs.Common.{◌≡◌, ℕ, ℤ, ◌+◌, List, Option, sym, ap, ◌∙◌}
use Rattle.std.proofs.lemmas.List.Sums.{sum-map}
use Rattle.c_tree.specs.declared.values.Value.{Value}
use Rattle.c_tree.specs.declared.statements.Initial.{Initial}
use Rattle.c_tree.specs.declared.statements.ForStart.{ForStart}
use Rattle.c_tree.specs.declared.statements.Statement.{Statement, Statement-F, roll-Statement, map-Statement, fold-roll-Statement}
use Rattle.c_tree.specs.declared.statements.Statement.TheVariants as s
use Rattle.c_tree.specs.declared.statements.Block.{Block, fold_out-Block}
use Rattle.c_tree.specs.Counts.{nodes_of_value, nodes_of_optional, nodes_of_initials, nodes_of_for_start, block_step, statement_step, count_of_block, count_of_statement, nodes_of_block, nodes_of_statement, nodes_of_statements}

-- any layer
statement_is : (x : Statement-F Statement Block) (one : Statement) → roll-Statement x ≡ one →
    nodes_of_statement one ≡ statement_step 0 (map-Statement Statement Block ℕ ℕ nodes_of_statement nodes_of_block x)
unfolding count_of_statement count_of_block
statement_is x one is = ap nodes_of_statement (sym is) ∙ fold-roll-Statement ℕ ℕ (statement_step 0) (block_step 0) x

pub block_nodes : (block : Block) → nodes_of_block block ≡ 0 + nodes_of_statements block.items
unfolding count_of_statement count_of_block
block_nodes block =
    fold_out-Block ℕ ℕ (statement_step 0) (block_step 0) block
    ∙ ap (λ n. 0 + n) (sum-map nodes_of_statement block.items)

pub statement_declaration : (line : ℕ) (stores : List Initial) →
    nodes_of_statement (s.Declaration line stores) ≡ 0 + nodes_of_initials stores
statement_declaration line stores = statement_is _ _ (s.rolls-Declaration line stores)

pub statement_block : (block : Block) → nodes_of_statement (s.Block block) ≡ 0 + nodes_of_block block
statement_block block = statement_is _ _ (s.rolls-Block block)

pub statement_empty : (line : ℕ) → nodes_of_statement (s.Empty line) ≡ 0
statement_empty line = statement_is _ _ (s.rolls-Empty line)

pub statement_value : (line : ℕ) (value : Value) → nodes_of_statement (s.Value line value) ≡ 0 + nodes_of_value value
statement_value line value = statement_is _ _ (s.rolls-Value line value)

pub statement_if : (line : ℕ) (test : Value) (body : Statement) →
    nodes_of_statement (s.If line test body) ≡ 0 + nodes_of_value test + nodes_of_statement body
statement_if line test body = statement_is _ _ (s.rolls-If line test body)

pub statement_if_else : (line : ℕ) (test : Value) (first : Statement) (second : Statement) →
    nodes_of_statement (s.IfElse line test first second)
    ≡ 0 + nodes_of_value test + nodes_of_statement first + nodes_of_statement second
statement_if_else line test first second = statement_is _ _ (s.rolls-IfElse line test first second)

pub statement_while : (line : ℕ) (test : Value) (body : Statement) →
    nodes_of_statement (s.While line test body) ≡ 0 + nodes_of_value test + nodes_of_statement body
statement_while line test body = statement_is _ _ (s.rolls-While line test body)

pub statement_do : (line : ℕ) (body : Statement) (test : Value) →
    nodes_of_statement (s.Do line body test) ≡ 0 + nodes_of_statement body + nodes_of_value test
statement_do line body test = statement_is _ _ (s.rolls-Do line body test)

pub statement_for : (line : ℕ) (start : ForStart) (test : Option Value) (step : Option Value) (body : Statement) →
    nodes_of_statement (s.For line start test step body)
    ≡ 0 + nodes_of_for_start start + nodes_of_optional test + nodes_of_optional step + nodes_of_statement body
statement_for line start test step body = statement_is _ _ (s.rolls-For line start test step body)

pub statement_switch : (line : ℕ) (value : Value) (block : Block) →
    nodes_of_statement (s.Switch line value block) ≡ 0 + nodes_of_value value + nodes_of_block block
statement_switch line value block = statement_is _ _ (s.rolls-Switch line value block)

pub statement_case : (line : ℕ) (value : ℤ) → nodes_of_statement (s.Case line value) ≡ 0
statement_case line value = statement_is _ _ (s.rolls-Case line value)

pub statement_default : (line : ℕ) → nodes_of_statement (s.Default line) ≡ 0
statement_default line = statement_is _ _ (s.rolls-Default line)

pub statement_break : (line : ℕ) → nodes_of_statement (s.Break line) ≡ 0
statement_break line = statement_is _ _ (s.rolls-Break line)

pub statement_continue : (line : ℕ) → nodes_of_statement (s.Continue line) ≡ 0
statement_continue line = statement_is _ _ (s.rolls-Continue line)

pub statement_return : (line : ℕ) (value : Option Value) →
    nodes_of_statement (s.Return line value) ≡ 0 + nodes_of_optional value
statement_return line value = statement_is _ _ (s.rolls-Return line value)
