use Rattle.std.proofs.Common.{◌≡◌, ◌∙◌, sym, ap, ℕ, List, take}
use Rattle.std.proofs.lemmas.List.{take-map}
use Rattle.scoped_meanings.specs.Meanings.{names_of}
use Rattle.scoped_meanings.proofs.meanings.Meanings.close.Goals as goal

pub invariant_of-self : goal.invariant_of-self
invariant_of-self g c =
    c.close.ensures ∙ ap (λ (names : List ℕ). take c.args.start names) c.self.invariant
    ∙ take-map _ c.args.start c.self.inside.entries.items ∙ sym (ap names_of c.truncate.ensures.items)
