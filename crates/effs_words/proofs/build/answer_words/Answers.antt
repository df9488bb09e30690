use Rattle.std.proofs.Common.{arith, inl, ◌≡◌, None}
use Rattle.std.specs.Prelude.{string_bytes}
use Rattle.std.proofs.lemmas.Grind.{common_steps}
use Rattle.effs_words.specs.Words.{command_of}
use Rattle.effs_words.proofs.Shapes.{no_word, no_such_command}
use Rattle.effs_words.proofs.build.answer_words.Goals as goal

pub returns-then-is_empty : goal.returns-then-is_empty
returns-then-is_empty c = inl (no_word string_bytes c.args.words.now (grind (arith, common_steps)))

pub returns-in-None : goal.returns-in-None
returns-in-None c =
    let other : None ≡ command_of (string_bytes c.index-words-0.result) = grind (arith, common_steps) in
    inl (no_such_command string_bytes c.args.words.now c.index-words-0.result (grind (arith, common_steps)) c.index-words-0.is other)
