use Rattle.std.proofs.Common.{subst}
use Rattle.scoped_names.specs.Scoping.{IsKept}
use Rattle.scoped_names.proofs.TableLemmas.{kept_pop, changes, last_within}
use Rattle.scoped_names.proofs.names.Names.end_last.Goals as goal

pub set_place-requires : goal.set_place-requires
set_place-requires c =
    let kept = subst (λ l. IsKept c.self.inside.places.items l) c.in-Some.ensures.items c.self.invariant in
    last_within c.self.inside.places.items c.pop.new.self.items c.in-Some.field-0 kept

pub invariant_of-self-2 : goal.invariant_of-self-2
invariant_of-self-2 c =
    let old = c.self.inside.places.items in
    let kept = subst (λ l. IsKept old l) c.in-Some.ensures.items c.self.invariant in
    let within = last_within old c.pop.new.self.items c.in-Some.field-0 kept in
    rw c.set_place.ensures
    (kept_pop old _ c.pop.new.self.items c.in-Some.field-0 kept (changes old c.in-Some.field-0.name c.in-Some.field-0.hides within))
