use Rattle.std.proofs.Common.{◌≡◌, ◌++◌, ◌∷◌, ◌<◌, [], length, ap, rules, arith}
use Rattle.std.proofs.lemmas.Grind.{common_steps}
use Rattle.token_texts.specs.Texts.{Texts}
use Rattle.token_texts.proofs.Lists.{get-get_or}
use Rattle.token_texts.proofs.Steps.{next_texts}
use Rattle.token_texts.proofs.numbering.Numbering.add_next.Goals as goal

pub returns-clause-texts : goal.returns-clause-texts
returns-clause-texts c = λ given before.
    let at : c.len-at.result ≡ length c.args.self.now.numbers = first_of (search rules, grind (arith, common_steps)) in
    let low : c.len-at.result < length c.args.tokens.now = first_of (search rules, grind (arith, common_steps)) in
    let numbers : c.push.new.self.items ≡ c.args.self.now.numbers ++ c.in_ok-number.number ∷ [] = first_of (search rules, grind (arith, common_steps)) in
    next_texts given c.args.text.now c.args.tokens.now c.len-at.result _ c.args.self.now _ c.next_number.new.self.names c.next_number.new.self.strings c.in_ok-number.number at
    (get-get_or c.args.tokens.now c.len-at.result _ low) before (c.in_ok-number.ensures.gains given before)
    (ap (λ (t : Texts). t.names) c.self-2.view_is) (ap (λ (t : Texts). t.strings) c.self-2.view_is) numbers
