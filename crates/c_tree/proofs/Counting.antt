-- What the counting functions use: an equation for each variant, and counts that stand still.
use Rattle.std.proofs.Common.{◌≡◌, ℕ, ◌+◌, arith}
use Rattle.c_tree.proofs.ValueEquations.{place_variable, place_global, place_literal, place_dereference, place_index, place_index_first, place_member, place_arrow, place_element, value_number, value_null, value_load, value_decay, value_address, value_mention, value_convert, value_null_pointer, value_keep_pointer, value_check_pointer, value_discard, value_unary, value_binary, value_compare, value_compare_pointers, value_advance, value_advance_first, value_retreat, value_difference, value_not, value_logical, value_conditional, value_comma, value_assign, value_copy, value_update, value_update_pointer, value_single_step, value_step_pointer, value_call, value_allocate, value_allocate_many, value_allocated, value_free, value_copy_bytes, value_fill_bytes, value_string_length, value_print_line, value_print_byte, value_fetch_add, value_print}
use Rattle.c_tree.proofs.StatementEquations.{block_nodes, statement_declaration, statement_block, statement_empty, statement_value, statement_if, statement_if_else, statement_while, statement_do, statement_for, statement_switch, statement_case, statement_default, statement_break, statement_continue, statement_return}
use Rattle.c_tree.specs.Counts.{capped}

pub capped_capped : (a b : ℕ) → capped (capped a + b) ≡ capped (a + b)
capped_capped a b = omega arith

pub ruleset place_nodes = (capped_capped, place_variable, place_global, place_literal, place_dereference, place_index, place_index_first, place_member, place_arrow, place_element)

pub ruleset value_nodes = (capped_capped, value_number, value_null, value_load, value_decay, value_address, value_mention, value_convert, value_null_pointer, value_keep_pointer, value_check_pointer, value_discard, value_unary, value_binary, value_compare, value_compare_pointers, value_advance, value_advance_first, value_retreat, value_difference, value_not, value_logical, value_conditional, value_comma, value_assign, value_copy, value_update, value_update_pointer, value_single_step, value_step_pointer, value_call, value_allocate, value_allocate_many, value_allocated, value_free, value_copy_bytes, value_fill_bytes, value_string_length, value_print_line, value_print_byte, value_fetch_add, value_print)

pub ruleset statement_nodes = (capped_capped, block_nodes, statement_declaration, statement_block, statement_empty, statement_value, statement_if, statement_if_else, statement_while, statement_do, statement_for, statement_switch, statement_case, statement_default, statement_break, statement_continue, statement_return)
