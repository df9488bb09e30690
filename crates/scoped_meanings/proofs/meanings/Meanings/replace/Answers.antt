use Rattle.std.proofs.Common.{◌≡◌, ◌∙◌, sym, ap, subst, ℕ, List, Some, slice_get, slice_set, rules, arith}
use Rattle.std.proofs.lemmas.Grind.{common_steps}
use Rattle.std.proofs.lemmas.Option.{gets}
use Rattle.scoped_meanings.specs.Meanings.{names_of, put_at, meaning_by, declared_at}
use Rattle.scoped_meanings.proofs.EntryLemmas.{names_of-set, put_at-is}
use Rattle.scoped_meanings.proofs.meanings.Meanings.replace.Goals as goal

-- the name that stands there is one of the entries
pub invariant_of-self : goal.invariant_of-self
invariant_of-self g c =
    let name = c.name-name.result in
    let entries = c.self.inside.entries.items in
    let here = subst (λ l. slice_get l c.args.place ≡ Some name) c.self.invariant c.name-name.ensures in
    c.self.invariant ∙ sym (names_of-set entries c.args.place name c.args.meaning here)
    ∙ ap (λ e. names_of (slice_set entries c.args.place e)) (sym c.replace-before.ensures.after)

pub returns-clause-before : goal.returns-clause-before
returns-clause-before g c =
    let stands : slice_get c.args.self.now c.args.place ≡ Some c.replace-before.result =
    first_of (search rules, grind (arith, common_steps, gets)) in
    ap meaning_by stands

pub returns-clause-after : goal.returns-clause-after
returns-clause-after g c =
    let name = c.name-name.result in
    let entries = c.self.inside.entries.items in
    let here = subst (λ l. slice_get l c.args.place ≡ Some name) c.self.invariant c.name-name.ensures in
    ap (λ e. slice_set entries c.args.place e) c.replace-before.ensures.after
    ∙ put_at-is entries c.args.place name c.args.meaning here ∙ ap (λ l. put_at l c.args.place c.args.meaning) c.self.view_is
