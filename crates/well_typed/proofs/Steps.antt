-- What the folds over a tree say of one layer of it: its parts have become what the fold gives for them.
use Rattle.std.proofs.Common.{◌≡◌, ℕ, Bool, List, ap, ◌∙◌}
use Rattle.std.specs.Prelude.{◌++◌, map}
use Rattle.c_tree.specs.declared.values.Place.{Place, out-Place, map-Place, fold-Place, fold_out-Place}
use Rattle.c_tree.specs.declared.values.Value.{Value, out-Value, map-Value, fold_out-Value}
use Rattle.c_tree.specs.declared.statements.Statement.{Statement, out-Statement, map-Statement, fold_out-Statement}
use Rattle.c_tree.specs.declared.statements.Block.{Block, fold_out-Block}
use Rattle.well_typed.specs.Constants.{Constant, constant, constant_step, no_constant}
use Rattle.well_typed.specs.Effects.{acts_in_place, acts_in_value, place_acts, value_acts}
use Rattle.well_typed.specs.Surroundings.{PlaceLayer, ValueLayer}
use Rattle.well_typed.specs.Statements.{StatementLayer, all_of, variables_in_statement, variables_in_block, statement_variables, block_variables}

pub constant_in_place : Place → Unit {0}
constant_in_place = fold-Place (Unit {0}) Constant no_constant constant_step

abbrev pub constant_of : ValueLayer → Constant
constant_of layer = constant_step (map-Value Place Value (Unit {0}) Constant constant_in_place constant layer)

pub constant_is : (x : Value) {layer : ValueLayer} → out-Value x ≡ layer → constant x ≡ constant_of layer
unfolding constant constant_in_place
constant_is x opens = fold_out-Value (Unit {0}) Constant no_constant constant_step x ∙ ap constant_of opens

abbrev pub place_acts_of : PlaceLayer → Bool
place_acts_of layer = place_acts (map-Place Place Value Bool Bool acts_in_place acts_in_value layer)

pub place_acts_is : (q : Place) {layer : PlaceLayer} → out-Place q ≡ layer → acts_in_place q ≡ place_acts_of layer
unfolding acts_in_place acts_in_value
place_acts_is q opens = fold_out-Place Bool Bool place_acts value_acts q ∙ ap place_acts_of opens

abbrev pub value_acts_of : ValueLayer → Bool
value_acts_of layer = value_acts (map-Value Place Value Bool Bool acts_in_place acts_in_value layer)

pub value_acts_is : (x : Value) {layer : ValueLayer} → out-Value x ≡ layer → acts_in_value x ≡ value_acts_of layer
unfolding acts_in_place acts_in_value
value_acts_is x opens = fold_out-Value Bool Bool place_acts value_acts x ∙ ap value_acts_of opens

abbrev pub variables_of : StatementLayer → List ℕ
variables_of layer = statement_variables
    (map-Statement Statement Block (List ℕ) (List ℕ) variables_in_statement variables_in_block layer)

pub variables_is : (s : Statement) {layer : StatementLayer} → out-Statement s ≡ layer →
    variables_in_statement s ≡ variables_of layer
unfolding variables_in_statement variables_in_block
variables_is s opens =
    fold_out-Statement (List ℕ) (List ℕ) statement_variables block_variables s ∙ ap variables_of opens

pub block_lists : (b : Block) → variables_in_block b ≡ b.variables ++ all_of (map variables_in_statement b.items)
unfolding variables_in_statement variables_in_block
block_lists b = fold_out-Block (List ℕ) (List ℕ) statement_variables block_variables b
