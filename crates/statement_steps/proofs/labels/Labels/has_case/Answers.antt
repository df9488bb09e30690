use Rattle.std.proofs.Common.{◌≡◌, ◌∙◌, ap, ℤ}
use Rattle.std.specs.BTreeSet.{contains}
use Rattle.std.specs.Ordering.{int_cmp}
use Rattle.std.proofs.lemmas.Int.{to_z-of_z}
use Rattle.declaration_rules.specs.Statements.{Labels, is_case}
use Rattle.statement_steps.proofs.labels.Labels.has_case.Goals as goal

-- the value is read from its bits
pub returns : goal.returns
returns c =
    let read = to_z-of_z _ c.args.value c.ranges.value in
    c.contains.ensures ∙ ap (λ (n : ℤ). contains int_cmp c.self.inside.values n) read ∙ c.self.invariant c.args.value
    ∙ ap (λ (l : Labels). is_case c.args.value l.cases) c.self.view_is
