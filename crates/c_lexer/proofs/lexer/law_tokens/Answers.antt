use Rattle.std.proofs.Common.{true, length, le_refl}
use Rattle.c_lexer.specs.Joined.{joined_bytes, joined_origins}
use Rattle.c_tokens.specs.Limits.{max_tokens}
use Rattle.c_lexer.proofs.Readings.{lexes_one, not_both, refuses_one, reading}
use Rattle.c_lexer.proofs.lexer.law_tokens.Goals as goal

pub returns-clause-one_list : goal.returns-clause-one_list
returns-clause-one_list c text ts us a b = lexes_one (joined_origins text) a b

pub returns-clause-not_both : goal.returns-clause-not_both
returns-clause-not_both c text ts e a b = not_both (joined_origins text) a b

pub returns-clause-one_reason : goal.returns-clause-one_reason
returns-clause-one_reason c text d e a b = refuses_one (joined_origins text) a b

pub returns-clause-one_of_both : goal.returns-clause-one_of_both
returns-clause-one_of_both c text = reading (joined_origins text) (length (joined_bytes text)) max_tokens 0 true (joined_bytes text) (le_refl (length (joined_bytes text)))
