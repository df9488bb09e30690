use Rattle.std.proofs.Common.{◌≡◌, length, refl, ap, subst, sym, ◌∙◌, rules, arith}
use Rattle.std.proofs.lemmas.Grind.{common_steps}
use Rattle.token_texts.specs.Gains.{IsKnown}
use Rattle.token_texts.proofs.Steps.{known_gains}
use Rattle.token_texts.proofs.numbering.Numbering.next_number.Goals as goal

pub returns-in-Some-clause-gains : goal.returns-in-Some-clause-gains
returns-in-Some-clause-gains c = λ given before.
    let numbers : c.as_slice-2.result.now ≡ c.args.self.now.numbers = first_of (search rules, grind (arith, common_steps)) in
    let known : IsKnown c.args.tokens.now c.args.self.now.numbers c.args.token c.in-Some.number =
    subst (λ l. IsKnown c.args.tokens.now l c.args.token c.in-Some.number) numbers c.in-Some.ensures in
    known_gains given c.args.text.now c.args.tokens.now (length c.args.self.now.numbers) c.args.token c.args.self.now c.in-Some.number refl before known
