use Rattle.std.proofs.Common.{◌≡◌, ◌++◌, [], sym, subst, ◌∙◌, ap, rules, arith}
use Rattle.std.specs.Prelude.{map, fold, slice_get}
use Rattle.std.proofs.lemmas.Grind.{common_steps}
use Rattle.std.proofs.lemmas.List.Sums.{fold-append}
use Rattle.token_texts.specs.Names.{names_of, predefined}
use Rattle.token_texts.specs.Texts.{with_one, distinct, AreTextsWith}
use Rattle.token_texts.proofs.Distinct.{Keeps, keeps-fold, numbers_kept}
use Rattle.token_texts.proofs.gathering.texts_with_typedefs.Goals as goal

pub returns-clause-typedefs : goal.returns-clause-typedefs
returns-clause-typedefs c =
    let first : c.numbers_of.new.self ≡ distinct (predefined ++ c.args.typedefs.now) =
    c.in_ok-typedefs.ensures.table ∙ ap (λ l. fold with_one l c.args.typedefs.now) c.in_ok-names.ensures ∙ sym (fold-append with_one (distinct []) predefined c.args.typedefs.now) in
    let texts : AreTextsWith c.args.typedefs.now c.args.text.now c.args.tokens.now c.in_ok-texts.texts = c.in_ok-texts.ensures (predefined ++ c.args.typedefs.now) first in
    let more = names_of c.args.text.now c.args.tokens.now in
    let grown : c.in_ok-texts.texts.names ≡ fold with_one c.numbers_of.new.self more =
    texts.names ∙ fold-append with_one (distinct []) (predefined ++ c.args.typedefs.now) more ∙ ap (λ l. fold with_one l more) (sym first) in
    numbers_kept (subst (Keeps c.numbers_of.new.self) (sym grown) (keeps-fold more c.numbers_of.new.self)) c.in_ok-typedefs.typedefs.items c.args.typedefs.now c.in_ok-typedefs.ensures.numbers
