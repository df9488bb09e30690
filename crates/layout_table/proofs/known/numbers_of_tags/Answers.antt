use Rattle.std.proofs.Common.{arith, ap, length, refl, sym, subst, ◌<◌, ◌≤◌, ◌+◌, ◌∙◌, ℕ}
use Rattle.c_types.specs.declared.kinds.CType.TheVariants.{Void}
use Rattle.layout_table.specs.Known.{put_by, tag_of_kind}
use Rattle.layout_table.proofs.Counted.{written_back}
use Rattle.layout_table.proofs.Copies.{AreNumbersTo, numbers_more, numbers_all, tag_fits}
use Rattle.std.proofs.Common.{get_or}
use Rattle.layout_table.proofs.known.numbers_of_tags.Goals as goal

pub put_number-requires : goal.put_number-requires
put_number-requires c = λ tag e.
    subst (λ ns. tag < length ns) (sym c.deref_mut.ensures.value)
    (tag_fits c.args.types.now c.law_table.ensures c.args.kinds.now c.loop-i.i c.loop-i.numbers.items Void
    c.requires.kinds c.loop-i-test.true c.loop-i.invariant tag e)

pub loop-i-preserved : goal.loop-i-preserved
loop-i-preserved c =
    let next : AreNumbersTo c.args.types.now (c.loop-i.i + 1) c.put_number.new.numbers =
    numbers_more c.args.types.now c.law_table.ensures c.args.kinds.now c.loop-i.i (c.loop-i.i + 1)
    c.loop-i.numbers.items c.put_number.new.numbers Void c.requires.kinds c.loop-i-test.true
    c.loop-i.invariant refl (c.put_number.ensures ∙ ap (λ ns. put_by ns (tag_of_kind (get_or c.args.kinds.now
    c.loop-i.i Void)) (c.loop-i.i + 1)) c.deref_mut.ensures.value) in
    subst (AreNumbersTo c.args.types.now (c.loop-i.i + 1))
    (sym (written_back c.loop-i.numbers.len c.put_number.new.numbers c.loop-i.numbers.items (omega (
      arith,
      c.loop-i.numbers.ok.0,
    )) (omega (arith, next.count, c.loop-i.invariant.count)))) next

pub returns : goal.returns
returns c =
    numbers_all c.args.types.now c.law_table.ensures c.loop-i.i c.loop-i.numbers.items (subst (λ ks. length ks ≤
    c.loop-i.i) c.requires.kinds c.loop-i-test.false)
    (subst (λ (n : ℕ). n ≤ 4294967296) c.count_tags.ensures.count c.count_tags.ensures.few) c.loop-i.invariant
