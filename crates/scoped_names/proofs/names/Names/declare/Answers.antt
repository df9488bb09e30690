use Rattle.std.proofs.Common.{◌≡◌, ◌++◌, ◌∷◌, [], Some, length, sym, ap, ◌∙◌, rules, arith}
use Rattle.std.proofs.lemmas.Grind.{common_steps}
use Rattle.scoped_names.specs.Places.{place_of}
use Rattle.scoped_names.proofs.TableLemmas.{kept_same, kept_push, changes}
use Rattle.scoped_names.proofs.names.Names.declare.Goals as goal

pub invariant_of-self-2 : goal.invariant_of-self-2
invariant_of-self-2 c =
    let old = c.self.inside.places.items in
    let room = c.make_room.new.places.items in
    let declared = c.self.inside.declared.items in
    let kept = kept_same old room declared c.self.invariant c.in_ok-make_room.ensures.same in
    let change = changes room c.args.name (Some c.len-place.result) c.in_ok-make_room.ensures.room in
    let place : c.len-place.result ≡ length declared = first_of (search rules, grind (arith, common_steps)) in
    let hides : c.place_in-hides.result ≡ place_of room c.args.name =
    c.place_in-hides.ensures ∙ ap (λ l. place_of l c.args.name) c.as_slice.ensures.value ∙ sym (c.in_ok-make_room.ensures.same c.args.name) in
    let items : c.push-stored.new.self.items ≡ declared ++ record { name = c.args.name; hides = c.place_in-hides.result } ∷ [] = first_of (search rules, grind (arith, common_steps)) in
    rw (items, c.set_place.ensures)
    (kept_push room _ declared (record { name = c.args.name; hides = c.place_in-hides.result }) kept (rw (← place) change) hides)
