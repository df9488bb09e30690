use Rattle.std.proofs.Common.{arith, inl, ◌≡◌, Some, None}
use Rattle.std.specs.Prelude.{string_bytes}
use Rattle.std.proofs.lemmas.Grind.{common_steps}
use Rattle.effs_words.specs.Words.{scale_of}
use Rattle.effs_words.proofs.Shapes.{big_missing, big_bad, big_good, big_more}
use Rattle.effs_words.proofs.build.read_big.Goals as goal

pub returns-then-is_empty : goal.returns-then-is_empty
returns-then-is_empty c = λ word named. inl (big_missing string_bytes word c.args.words.now (grind (arith, common_steps)) named)

pub returns-in_default : goal.returns-in_default
returns-in_default c =
    let no_number : None ≡ scale_of (string_bytes c.index-words-0.result) = grind (arith, common_steps) in
    λ word named. inl (big_bad string_bytes word c.args.words.now c.index-words-0.result (grind (arith, common_steps)) c.index-words-0.is no_number named)

pub returns-then-words-gt1 : goal.returns-then-words-gt1
returns-then-words-gt1 c =
    let number : Some c.in-Some.scale ≡ scale_of (string_bytes c.index-words-0.result) = grind (arith, common_steps) in
    λ word named. inl (big_more string_bytes word c.args.words.now c.index-words-0.result c.in-Some.scale (omega arith) c.index-words-0.is number named)

pub returns : goal.returns
returns c =
    let number : Some c.in-Some.scale ≡ scale_of (string_bytes c.index-words-0.result) = grind (arith, common_steps) in
    λ word named. big_good string_bytes word c.args.words.now c.index-words-0.result c.in-Some.scale (grind (arith, common_steps)) c.index-words-0.is number named
