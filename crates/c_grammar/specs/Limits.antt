-- How large a tree may be.
use Rattle.std.specs.Prelude.{ℕ}
use Rattle.c_grammar.specs.declared.limits.TheConstants.{MAX_DEPTH, MAX_NODES}

-- how deep statements, expressions, declarators, lists of members and initialisers in braces may nest, each of them counted
abbrev pub max_depth : ℕ
max_depth = MAX_DEPTH

-- the most nodes that a tree may have
abbrev pub max_nodes : ℕ
max_nodes = MAX_NODES
