use Rattle.std.proofs.Common.{◌≡◌, None, refl, inr, sym, ap, ◌∙◌, arith, rules}
use Rattle.std.proofs.lemmas.Grind.{common_steps}
use Rattle.std.proofs.lemmas.Option.{slice_get-get_or}
use Rattle.std.specs.Prelude.{slice_get, slice_set}
use Rattle.c_pp.specs.Marked.{held}
use Rattle.c_pp.proofs.Obeying.{set_none}
use Rattle.c_pp.proofs.table.change.Goals as goal

pub returns-then-number-len-clause-changed : goal.returns-then-number-len-clause-changed
returns-then-number-len-clause-changed c = rw c.in-Some.is (λ low. absurd (let over = c.if-number-len.true in let len = c.len.ensures in omega arith))

pub returns-then-is_none-2-clause-changed : goal.returns-then-is_none-2-clause-changed
returns-then-is_none-2-clause-changed c = rw c.in-Some.is (λ low.
    let none : c.args.body ≡ None = first_of (search rules, grind (arith, common_steps)) in
    let gone : c.index.result.now ≡ None = first_of (search rules, grind (arith, common_steps)) in
    let before : held (slice_get c.args.table.now.bodies.items c.in-Some.number) ≡ None =
    ap held (slice_get-get_or c.args.table.now.bodies.items c.in-Some.number c.index.result.now low) ∙ sym c.index.ensures ∙ gone in
    record {
      bodies = set_none c.args.table.now.bodies.items c.in-Some.number low before ∙ ap (slice_set c.args.table.now.bodies.items c.in-Some.number) (sym none);
      marks = inr (record { marks = refl; met = refl; apart = inr (before, none) });
    })
