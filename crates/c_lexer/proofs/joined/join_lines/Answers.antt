use Rattle.std.proofs.Common.{◌≡◌, ◌+◌, ◌++◌, ◌≤◌, [], ◌∷◌, map, drop, length, get_or, sym, ap, subst, ◌∙◌, arith}
use Rattle.c_lexer.specs.Joined.{spots, joined_bytes, joined_origins}
use Rattle.c_lexer.specs.Lexes.{AreSmall}
use Rattle.c_lexer.proofs.Joins.{Spot, bytes_begin, origins_begin, dropped_step, kept_step, over_step, small_later, small_push, next_low}
use Rattle.c_lexer.proofs.joined.join_lines.Goals as goal

pub loop-at-init : goal.loop-at-init
loop-at-init c = record {
  bytes = ap (λ t. t ++ map (λ (spot : Spot). spot.0) (spots 0 0 1 c.args.text.now)) c.in_ok-bytes.ensures.items ∙ bytes_begin c.args.text.now;
  origins = ap (λ t. t ++ map (λ (spot : Spot). spot.1) (spots 0 0 1 c.args.text.now)) c.in_ok-origins.ensures.items ∙ origins_begin c.args.text.now;
  small = λ k low. (let none : length c.in_ok-origins.origins.items ≡ 0 = ap length c.in_ok-origins.ensures.items in absurd (omega arith));
  lines = omega arith;
}

pub loop-at-preserved-then-joined : goal.loop-at-preserved-then-joined
loop-at-preserved-then-joined c =
    let text = c.args.text.now in
    let at = c.loop-at.at in
    let joins = sym c.joins-joined.ensures ∙ c.if-joined.true in
    record {
      bytes = ap (λ k. c.loop-at.bytes.items ++ map (λ (spot : Spot). spot.0) (spots (get_or text at 0) (at + 1) k (drop (at + 1) text))) c.line_after-line.ensures
          ∙ dropped_step (λ (spot : Spot). spot.0) c.loop-at.bytes.items c.loop-at.before at c.loop-at.line text (joined_bytes text) c.loop-at-test.true joins c.loop-at.invariant.bytes;
      origins = ap (λ k. c.loop-at.origins.items ++ map (λ (spot : Spot). spot.1) (spots (get_or text at 0) (at + 1) k (drop (at + 1) text))) c.line_after-line.ensures
          ∙ dropped_step (λ (spot : Spot). spot.1) c.loop-at.origins.items c.loop-at.before at c.loop-at.line text (joined_origins text) c.loop-at-test.true joins c.loop-at.invariant.origins;
      small = small_later at c.loop-at.origins.items c.loop-at.invariant.small;
      lines = subst (λ n. n ≤ at + 1 + 1) (sym c.line_after-line.ensures) (next_low c.loop-at.line (get_or text at 0) at c.loop-at.invariant.lines);
    }

pub loop-at-preserved : goal.loop-at-preserved
loop-at-preserved c =
    let text = c.args.text.now in
    let at = c.loop-at.at in
    let kept = sym c.joins-joined.ensures ∙ c.if-joined.false in
    record {
      bytes = ap (λ t. t ++ map (λ (spot : Spot). spot.0) (spots (get_or text at 0) (at + 1) c.line_after-line.result (drop (at + 1) text))) c.in_ok-push.ensures.items
          ∙ ap (λ k. (c.loop-at.bytes.items ++ get_or text at 0 ∷ []) ++ map (λ (spot : Spot). spot.0) (spots (get_or text at 0) (at + 1) k (drop (at + 1) text))) c.line_after-line.ensures
          ∙ kept_step (λ (spot : Spot). spot.0) c.loop-at.bytes.items c.loop-at.before at c.loop-at.line text (joined_bytes text) c.loop-at-test.true kept c.loop-at.invariant.bytes;
      origins = ap (λ t. t ++ map (λ (spot : Spot). spot.1) (spots (get_or text at 0) (at + 1) c.line_after-line.result (drop (at + 1) text))) c.in_ok-push-2.ensures.items
          ∙ ap (λ k. (c.loop-at.origins.items ++ record { offset = at; line = c.loop-at.line } ∷ []) ++ map (λ (spot : Spot). spot.1) (spots (get_or text at 0) (at + 1) k (drop (at + 1) text))) c.line_after-line.ensures
          ∙ kept_step (λ (spot : Spot). spot.1) c.loop-at.origins.items c.loop-at.before at c.loop-at.line text (joined_origins text) c.loop-at-test.true kept c.loop-at.invariant.origins;
      small = subst (λ t. AreSmall (at + 1) t) (sym c.in_ok-push-2.ensures.items) (small_push at c.loop-at.line c.loop-at.origins.items c.loop-at.invariant.small);
      lines = subst (λ n. n ≤ at + 1 + 1) (sym c.line_after-line.ensures) (next_low c.loop-at.line (get_or text at 0) at c.loop-at.invariant.lines);
    }

pub returns-clause-bytes : goal.returns-clause-bytes
returns-clause-bytes c =
    over_step (λ (spot : Spot). spot.0) c.loop-at.bytes.items c.loop-at.before c.loop-at.at c.loop-at.line c.args.text.now (joined_bytes c.args.text.now) c.loop-at-test.false c.loop-at.invariant.bytes

pub returns-clause-origins : goal.returns-clause-origins
returns-clause-origins c =
    over_step (λ (spot : Spot). spot.1) c.loop-at.origins.items c.loop-at.before c.loop-at.at c.loop-at.line c.args.text.now (joined_origins c.args.text.now) c.loop-at-test.false c.loop-at.invariant.origins
