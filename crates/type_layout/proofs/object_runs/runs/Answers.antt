use Rattle.std.proofs.Common.{◌≡◌, ◌∙◌, sym, ap, true, false, ◌-◌, ◌/◌, ◌++◌, ℕ, map, arith, Bool, refl}
use Rattle.std.specs.Prelude.{nat_le, if◌then◌else◌}
use Rattle.std.specs.Int.{from_bool}
use Rattle.std.specs.Option.{option_map}
use Rattle.std.proofs.lemmas.Bool.Decides.{nat_tests}
use Rattle.std.proofs.lemmas.List.{append-nil}
use Rattle.c_types.specs.Table.{shape_of}
use Rattle.type_layout.specs.Runs.{runs_of}
use Rattle.type_layout.specs.Search.{run_in}
use Rattle.type_layout.specs.declared.object_runs.Tail.{Tail}
use Rattle.type_layout.proofs.Objects.{without_tail, with_tail}
use Rattle.type_layout.proofs.object_runs.runs.Goals as goal

one_or_none : (b : Bool) → from_bool b ≡ (if b then 1 else 0)
one_or_none true = refl
one_or_none false = refl

pub returns-in_default : goal.returns-in_default
returns-in_default c =
    without_tail c.args.types.now c.args.elem c.args.size c.list_run.new.runs.items c.new-runs.result.items
    c.new-runs.ensures.items c.size_in-width.result
    (ap (option_map (λ (tail : Tail). (tail.offset, shape_of c.args.types.now tail.of))) (sym c.in_default.is) ∙
    c.tail_of.ensures.tail)
    c.size_in-width.ensures c.in_ok-list_run.ensures

pub returns-then-tail-size : goal.returns-then-tail-size
returns-then-tail-size c =
    let past : nat_le c.in-Some.tail.offset c.args.size ≡ false =
    (let h = c.if-tail-size.true in grind (arith, nat_tests)) in
    with_tail c.args.types.now c.args.elem c.args.size c.list_run-2.new.runs.items c.new-runs.result.items
    c.new-runs.ensures.items c.in-Some.tail.offset
    c.in-Some.tail.of
    (ap (option_map (λ (tail : Tail). (tail.offset, shape_of c.args.types.now tail.of))) (sym c.in-Some.is) ∙
    c.tail_of.ensures.tail)
    c.size_in-width.result c.from.result c.list_run-2.new.runs.items false c.size_in-width.ensures (c.from.ensures ∙
    one_or_none (nat_le c.size_in-width.result c.args.size)) c.in_ok-list_run-2.ensures past
    (sym (append-nil (map (run_in c.args.types.now) c.list_run-2.new.runs.items)))

pub returns : goal.returns
returns c =
    let within : nat_le c.in-Some.tail.offset c.args.size ≡ true =
    (let h = c.if-tail-size.false in grind (arith, nat_tests)) in
    with_tail c.args.types.now c.args.elem c.args.size c.list_run-3.new.runs.items c.new-runs.result.items
    c.new-runs.ensures.items c.in-Some.tail.offset
    c.in-Some.tail.of
    (ap (option_map (λ (tail : Tail). (tail.offset, shape_of c.args.types.now tail.of))) (sym c.in-Some.is) ∙
    c.tail_of.ensures.tail)
    c.size_in-width.result c.from.result c.list_run-2.new.runs.items true c.size_in-width.ensures (c.from.ensures ∙
    one_or_none (nat_le c.size_in-width.result c.args.size)) c.in_ok-list_run-2.ensures within
    (c.in_ok-list_run-3.ensures ∙
    ap
    (λ (s : ℕ). map (run_in c.args.types.now) c.list_run-2.new.runs.items ++
    runs_of (shape_of c.args.types.now c.in-Some.tail.of) c.in-Some.tail.offset
    ((c.args.size - c.in-Some.tail.offset) / s))
    c.size_in.ensures)
