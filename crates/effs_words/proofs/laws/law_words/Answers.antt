use Rattle.effs_words.proofs.OneAnswer.{apart, either, one_command, one_refusal}
use Rattle.effs_words.proofs.NoMemory.{no_memory}
use Rattle.effs_words.proofs.laws.law_words.Goals as goal

pub returns-clause-apart : goal.returns-clause-apart
returns-clause-apart c = apart

pub returns-clause-every : goal.returns-clause-every
returns-clause-every c = either

pub returns-clause-one_command : goal.returns-clause-one_command
returns-clause-one_command c = one_command

pub returns-clause-one_refusal : goal.returns-clause-one_refusal
returns-clause-one_refusal c = one_refusal

pub returns-clause-no_memory : goal.returns-clause-no_memory
returns-clause-no_memory c = no_memory
