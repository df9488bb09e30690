use Rattle.std.proofs.Common.{◌≡◌, ◌∙◌, sym, ap, ℕ, List, take}
use Rattle.std.proofs.lemmas.List.{take-map}
use Rattle.scoped_meanings.specs.Meanings.{names_of}
use Rattle.scoped_meanings.proofs.meanings.Meanings.split_off.Goals as goal

pub invariant_of-self-2 : goal.invariant_of-self-2
invariant_of-self-2 g c =
    c.close.ensures ∙ ap (λ (names : List ℕ). take c.min-start.result names) c.self.invariant
    ∙ take-map _ c.min-start.result c.self.inside.entries.items ∙ sym (ap names_of c.in_ok-taken.ensures.items)
