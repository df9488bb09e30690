use Rattle.std.proofs.Common.{arith, ap}
use Rattle.std.specs.Option.{option_map}
use Rattle.effs_words.proofs.Turning.{stops, stops_over, goes_on}
use Rattle.effs_words.proofs.schedule.is_schedule.Goals as goal

pub returns-in_default-turns_of : goal.returns-in_default-turns_of
returns-in_default-turns_of c =
    stops_over _ _ _ _ _ _ c.loop-left.invariant (ap (option_map (λ r. r.now)) c.in-Some.is) c.cut_at-at_comma.ensures.front
    c.in-Some-turns_of.turns c.in-Some-turns_of.ensures.value (omega arith)

pub returns-in_default-turns_of-2 : goal.returns-in_default-turns_of-2
returns-in_default-turns_of-2 c =
    stops _ _ _ _ _ _ c.loop-left.invariant (ap (option_map (λ r. r.now)) c.in-Some.is) c.cut_at-at_comma.ensures.front
    c.in_default-turns_of.ensures.value

pub loop-left-preserved : goal.loop-left-preserved
loop-left-preserved c =
    goes_on _ c.loop-left.room _ c.args.list.now c.in-Some.parts.now _ c.loop-left.invariant (ap (option_map (λ r. r.now)) c.in-Some.is) c.cut_at-at_comma.ensures.front
    c.in-Some-turns_of.turns _ c.in-Some-turns_of.ensures.value (omega arith) c.cut_at-at_comma.ensures.rest
