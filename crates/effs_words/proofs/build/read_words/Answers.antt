use Rattle.std.proofs.Common.{map}
use Rattle.std.specs.Prelude.{string_bytes}
use Rattle.effs_words.proofs.Answering.{is_found, is_refused, is_only, is_only_refused}
use Rattle.effs_words.proofs.build.read_words.Goals as goal

pub returns-clause-found : goal.returns-clause-found
returns-clause-found c = is_found (map string_bytes c.args.words.now) c.answer_words.result c.answer_words.ensures

pub returns-clause-refused : goal.returns-clause-refused
returns-clause-refused c = is_refused (map string_bytes c.args.words.now) c.answer_words.result c.answer_words.ensures

pub returns-clause-only : goal.returns-clause-only
returns-clause-only c = is_only (map string_bytes c.args.words.now) c.answer_words.result c.answer_words.ensures

pub returns-clause-only_refused : goal.returns-clause-only_refused
returns-clause-only_refused c = is_only_refused (map string_bytes c.args.words.now) c.answer_words.result c.answer_words.ensures
