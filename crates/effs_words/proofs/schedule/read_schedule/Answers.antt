use Rattle.std.proofs.Common.{arith, ap, ◌≡◌, Some}
use Rattle.std.specs.Option.{option_map}
use Rattle.std.proofs.lemmas.Grind.{common_steps}
use Rattle.effs_words.specs.Schedules.{turns_of}
use Rattle.effs_words.proofs.Turning.{must_turn, must_fit, adds}
use Rattle.effs_words.proofs.schedule.read_schedule.Goals as goal

pub unwrap-turns-requires : goal.unwrap-turns-requires
unwrap-turns-requires c =
    must_turn _ c.loop-left.room c.loop-left.schedule _ c.args.list.now c.in-Some.parts.now _ c.loop-left.invariant (ap (option_map (λ r. r.now)) c.in-Some.is) c.cut_at-at_comma.ensures.front
    c.requires.sound _ c.turns_of.ensures.value

pub overflow_sub-room : goal.overflow_sub-room
overflow_sub-room c =
    let said : Some c.unwrap-turns.result ≡ turns_of c.args.workers c.cut_at-at_comma.result.front.now = grind (arith, common_steps) in
    must_fit _ c.loop-left.room c.loop-left.schedule _ c.args.list.now c.in-Some.parts.now _ c.loop-left.invariant (ap (option_map (λ r. r.now)) c.in-Some.is) c.cut_at-at_comma.ensures.front
    c.requires.sound c.unwrap-turns.result said

pub loop-left-preserved : goal.loop-left-preserved
loop-left-preserved c =
    let said : Some c.unwrap-turns.result ≡ turns_of c.args.workers c.cut_at-at_comma.result.front.now = grind (arith, common_steps) in
    rw c.in_ok-push_turns.ensures
    (adds _ c.loop-left.room c.loop-left.schedule _ c.args.list.now c.in-Some.parts.now _ c.loop-left.invariant (ap (option_map (λ r. r.now)) c.in-Some.is) c.cut_at-at_comma.ensures.front
    c.requires.sound c.unwrap-turns.result _ said c.cut_at-at_comma.ensures.rest)
