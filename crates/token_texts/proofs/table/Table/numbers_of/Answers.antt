use Rattle.std.proofs.Common.{◌≡◌, ◌+◌, ◌++◌, ◌∷◌, [], Some, take, ap, refl, sym, subst, ◌∙◌, rules, arith}
use Rattle.std.specs.Prelude.{slice_get, map, fold}
use Rattle.std.proofs.lemmas.Grind.{common_steps}
use Rattle.std.proofs.lemmas.List.{take_more}
use Rattle.std.proofs.lemmas.List.Sums.{fold-append}
use Rattle.token_texts.specs.Texts.{with_one}
use Rattle.token_texts.proofs.Distinct.{Keeps, keeps-with_one, numbers_more}
use Rattle.token_texts.proofs.table.Table.numbers_of.Goals as goal

pub loop-name-preserved : goal.loop-name-preserved
loop-name-preserved c =
    let name : c.bytes.result.now ≡ c.name-item.result = first_of (search rules, grind (arith, common_steps)) in
    let next : take (c.loop-name.name-index + 1) c.args.given.now ≡ take c.loop-name.name-index c.args.given.now ++ c.bytes.result.now ∷ [] =
    take_more c.args.given.now c.loop-name.name-index c.name-item.result c.loop-name-test.true
    ∙ ap (λ x. take c.loop-name.name-index c.args.given.now ++ x ∷ []) (sym c.name-item.is ∙ sym name) in
    let grown : c.number_of.new.self ≡ with_one c.loop-name.self c.bytes.result.now = first_of (search rules, grind (arith, common_steps)) in
    let kept : Keeps c.loop-name.self c.number_of.new.self = subst (Keeps c.loop-name.self) (sym grown) (keeps-with_one c.loop-name.self c.bytes.result.now) in
    let pushed : c.push.new.self.items ≡ c.loop-name.numbers.items ++ c.in_ok-number.number ∷ [] = first_of (search rules, grind (arith, common_steps)) in
    record {
      table = rw (grown, next, fold-append with_one c.args.self.now (take c.loop-name.name-index c.args.given.now) (c.bytes.result.now ∷ []), c.loop-name.invariant.table) refl;
      numbers = rw (pushed, next)
          (numbers_more kept c.loop-name.numbers.items (take c.loop-name.name-index c.args.given.now) c.in_ok-number.number c.bytes.result.now c.loop-name.invariant.numbers c.in_ok-number.ensures.number);
    }
