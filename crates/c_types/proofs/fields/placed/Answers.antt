use Rattle.std.proofs.Common.{◌≡◌, ◌+◌, ◌<◌, ◌≤◌, ◌++◌, ◌∷◌, [], ℕ, List, max, subst, sym, ap, ap₂, ◌∙◌, rules, arith}
use Rattle.std.proofs.lemmas.Grind.{common_steps}
use Rattle.c_types.specs.declared.kinds.Member.{Member}
use Rattle.c_types.specs.declared.fields.Extent.{Extent}
use Rattle.c_types.specs.declared.rows.TypeRow.{TypeRow}
use Rattle.c_types.specs.Shapes.{alignment, size}
use Rattle.c_types.specs.Table.{shape_of}
use Rattle.c_types.specs.Adding.{largest}
use Rattle.c_types.specs.Extents.{offset_after}
use Rattle.c_types.proofs.Forms.{known_at}
use Rattle.c_types.proofs.Reached.{Reaches, begins, goes_on, too_far}
use Rattle.c_types.proofs.fields.placed.Goals as goal

pub loop-field-init : goal.loop-field-init
loop-field-init c =
    subst (λ (ms : List Member). Reaches c.args.union_tag (shape_of c.args.types.now) c.args.fields.now 0 ms (record { end = 0; alignment = 1 }))
    (sym c.new-members.ensures)
    (begins c.args.union_tag (shape_of c.args.types.now) c.law.ensures.steps c.args.fields.now c.requires.order)

pub row-row-requires : goal.row-row-requires
row-row-requires c =
    known_at c.args.fields.now c.requires.fields c.loop-field.field-index c.field-item.result c.loop-field-test.true c.field-item.is

pub returns-then-next-gt-LARGEST-clause-fault : goal.returns-then-next-gt-LARGEST-clause-fault
returns-then-next-gt-LARGEST-clause-fault c =
    let end : c.with-next.result.end ≡ max c.loop-field.extent.end
    (offset_after c.args.union_tag (alignment (shape_of c.args.types.now c.field-item.result.kind)) c.loop-field.extent.end +
    size (shape_of c.args.types.now c.field-item.result.kind)) = first_of (search rules, grind (arith, common_steps)) in
    too_far c.args.union_tag (shape_of c.args.types.now) c.law.ensures.steps c.args.fields.now c.loop-field.field-index c.field-item.result
    c.loop-field-test.true c.field-item.is c.loop-field.members c.loop-field.extent c.loop-field.invariant
    (subst (λ (m : ℕ). largest < m) end c.if-next-gt-LARGEST.true)

pub loop-field-preserved : goal.loop-field-preserved
loop-field-preserved c =
    let offset : c.offset-offset.result ≡ offset_after c.args.union_tag (alignment (shape_of c.args.types.now c.field-item.result.kind)) c.loop-field.extent.end =
    c.offset-offset.ensures.value ∙ ap (λ (r : TypeRow). offset_after c.args.union_tag r.alignment c.loop-field.extent.end) c.row-row.ensures.row in
    let members : c.push.new.self ≡ c.loop-field.members ++ record {
      name = c.field-item.result.name;
      kind = c.field-item.result.kind;
      offset = offset_after c.args.union_tag (alignment (shape_of c.args.types.now c.field-item.result.kind)) c.loop-field.extent.end;
    } ∷ [] =
    c.in_ok-push.ensures.ok ∙
    ap (λ (m : Member). c.loop-field.members ++ m ∷ [])
    (c.in_ok-member.ensures ∙ ap (λ (o : ℕ). record { name = c.field-item.result.name; kind = c.field-item.result.kind; offset = o }) offset) in
    let next : c.with-next.result ≡ record {
      end = max c.loop-field.extent.end (offset_after c.args.union_tag (alignment (shape_of c.args.types.now c.field-item.result.kind)) c.loop-field.extent.end +
          size (shape_of c.args.types.now c.field-item.result.kind));
      alignment = max c.loop-field.extent.alignment (alignment (shape_of c.args.types.now c.field-item.result.kind));
    } =
    c.with-next.ensures ∙
    ap₂ (λ (o : ℕ) (r : TypeRow). record { end = max c.loop-field.extent.end (o + r.size); alignment = max c.loop-field.extent.alignment r.alignment })
    offset c.row-row.ensures.row in
    let end : c.with-next.result.end ≡ max c.loop-field.extent.end
    (offset_after c.args.union_tag (alignment (shape_of c.args.types.now c.field-item.result.kind)) c.loop-field.extent.end +
    size (shape_of c.args.types.now c.field-item.result.kind)) = ap (λ (x : Extent). x.end) next in
    rw (members, next)
    (goes_on c.args.union_tag (shape_of c.args.types.now) c.law.ensures.steps c.args.fields.now c.loop-field.field-index c.field-item.result
    c.loop-field-test.true c.field-item.is c.loop-field.members c.loop-field.extent c.loop-field.invariant
    (omega (arith, end, c.if-next-gt-LARGEST.false)))
