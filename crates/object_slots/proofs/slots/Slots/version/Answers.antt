use Rattle.std.proofs.Common.{◌≡◌, ◌<◌, ap, sym, ◌∙◌, arith}
use Rattle.free_slots.specs.Slots.{made_count}
use Rattle.object_slots.specs.SlotStates.{state_at, count_made}
use Rattle.object_slots.proofs.Taking.{version-bound}
use Rattle.object_slots.proofs.Kept.{length-are, state-is, states-are}
use Rattle.object_slots.proofs.slots.Slots.version.Goals as goal

pub returns-clause-value : goal.returns-clause-value
returns-clause-value c =
    let below : c.args.slot < made_count c.self.inside.free =
    omega (arith, c.requires, length-are c.self.inside.region c.self.inside.store c.self.inside.free c.self.inside.made c.self.invariant c.args.self.now c.self.view_is) in
    ap (λ h. h.version) c.header.ensures.value
    ∙ ap (λ p. p.versions) (sym (state-is c.self.inside.region c.self.inside.store c.self.inside.free c.self.inside.made c.self.invariant c.args.self.now c.self.view_is c.args.slot below))

pub returns-clause-bound : goal.returns-clause-bound
returns-clause-bound c =
    let below : c.args.slot < made_count c.self.inside.free =
    omega (arith, c.requires, length-are c.self.inside.region c.self.inside.store c.self.inside.free c.self.inside.made c.self.invariant c.args.self.now c.self.view_is) in
    let value : c.header.result.version ≡ (state_at c.args.self.now.states c.args.slot).versions =
    ap (λ h. h.version) c.header.ensures.value
    ∙ ap (λ p. p.versions) (sym (state-is c.self.inside.region c.self.inside.store c.self.inside.free c.self.inside.made c.self.invariant c.args.self.now c.self.view_is c.args.slot below)) in
    omega (
      arith,
      value,
      version-bound c.args.self.now.states c.args.slot c.requires,
      ap count_made (states-are c.self.inside.region c.self.inside.store c.self.inside.free c.self.inside.made c.self.invariant c.args.self.now c.self.view_is),
      c.self.invariant.counted,
      c.self.invariant.most,
    )
