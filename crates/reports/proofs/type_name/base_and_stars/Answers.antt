use Rattle.reports.proofs.Names.{name_start, name_pointer}
use Rattle.reports.specs.TypeNames.{type_name}
use Rattle.reports.proofs.type_name.base_and_stars.Goals as goal

pub loop-pointers-init : goal.loop-pointers-init
loop-pointers-init c = ((λ h. (h, c.requires)), name_start c.args.types.now c.args.number)

pub loop-pointers-preserved : goal.loop-pointers-preserved
loop-pointers-preserved c = (
  (λ h. c.in-Pointer.ensures.made),
  name_pointer c.args.types.now c.args.number c.loop-pointers.pointers c.loop-pointers.at c.in-Pointer.to
      (type_name c.args.types.now c.args.number) c.loop-pointers-test.true c.in-Pointer.ensures.kind c.loop-pointers.invariant.1,
)
