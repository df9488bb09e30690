use Rattle.std.proofs.Common.{◌≡◌, ◌∙◌, ap, ℤ, List, [], ◌∷◌, ◌++◌, rules, arith}
use Rattle.std.specs.Prelude.{reverse}
use Rattle.std.proofs.lemmas.Grind.{common_steps}
use Rattle.declaration_rules.specs.Statements.{Labels, with_case}
use Rattle.statement_steps.proofs.CaseLemmas.{reverse_push}
use Rattle.statement_steps.proofs.labels.Labels.add_case.Goals as goal

pub returns : goal.returns
returns c =
    let before = c.self.inside.cases.items in
    let of_cases : List ℤ → Labels = λ cases. record { cases = cases; default = c.self.inside.default } in
    let items : c.push-stored.new.self.items ≡ before ++ c.args.value ∷ [] =
    first_of (search rules, grind (arith, common_steps)) in
    ap of_cases (ap (λ (l : List ℤ). reverse l) items ∙ reverse_push before c.args.value)
    ∙ ap (with_case c.args.value) c.self.view_is
