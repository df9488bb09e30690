use Rattle.std.proofs.Common.{◌≡◌, true, false, Vec, Global, ℕ, rules, arith}
use Rattle.std.specs.BTreeSet.{contains}
use Rattle.std.specs.Cmp.Lexicographic.{slice_cmp}
use Rattle.std.specs.Ordering.{nat_cmp}
use Rattle.std.proofs.lemmas.Grind.{common_steps}
use Rattle.c_types.proofs.Names.{two_found, one_seen}
use Rattle.c_types.proofs.fields.has_two_of_a_name.Goals as goal

pub returns-then-not-branch : goal.returns-then-not-branch
returns-then-not-branch c =
    let copied : c.in_ok-name.name.items ≡ c.field-item.result.name = first_of (search rules, grind (arith, common_steps)) in
    let there : contains (λ (x y : Vec ℕ Global). slice_cmp nat_cmp x.items y.items) c.loop-field.names c.in_ok-name.name ≡ true =
    first_of (search rules, grind (arith, common_steps)) in
    two_found c.loop-field.names c.args.fields.now c.loop-field.field-index c.field-item.result c.loop-field-test.true c.field-item.is
    c.loop-field.invariant c.in_ok-name.name copied there

pub loop-field-preserved : goal.loop-field-preserved
loop-field-preserved c =
    let copied : c.in_ok-name.name.items ≡ c.field-item.result.name = first_of (search rules, grind (arith, common_steps)) in
    let absent : contains (λ (x y : Vec ℕ Global). slice_cmp nat_cmp x.items y.items) c.loop-field.names c.in_ok-name.name ≡ false =
    first_of (search rules, grind (arith, common_steps)) in
    one_seen c.loop-field.names c.args.fields.now c.loop-field.field-index c.field-item.result c.loop-field-test.true c.field-item.is
    c.loop-field.invariant c.in_ok-name.name copied c.insert.new.self absent c.in_ok-insert.ensures.updates
