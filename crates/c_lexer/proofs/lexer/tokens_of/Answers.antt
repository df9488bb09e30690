use Rattle.std.proofs.Common.{◌≡◌, ◌<◌, ◌-◌, ◌+◌, arith, length, length-append, subst, inr, sym, ap, ◌∙◌, Some, ◌∷◌, []}
use Rattle.std.proofs.lemmas.Bool.{ne_eqb}
use Rattle.c_tokens.specs.Limits.{max_tokens}
use Rattle.c_lexer.specs.Lexes.{HasLexFault}
use Rattle.c_lexer.proofs.Steps.{Completes, completes_line, completes_gap, completes_push, completes_all, completes_full, completes_faulty, completes_unknown}
use Rattle.c_lexer.proofs.lexer.tokens_of.Goals as goal

pub text-preserved-then-bytes-at-eq10 : goal.text-preserved-then-bytes-at-eq10
text-preserved-then-bytes-at-eq10 c = record {
  completes = completes_line c.args.origins.now c.args.bytes.now _ _ _ _ c.text-test.true c.if-bytes-at-eq10.true c.text.invariant.completes;
  room_in = c.text.invariant.room_in;
  at_in = omega arith;
}

pub text-preserved-in-Some-Gap-default : goal.text-preserved-in-Some-Gap-default
text-preserved-in-Some-Gap-default c =
    let arm = c.in-Some-Gap-default in
    let within = arm.ensures.within in
    record {
      completes = completes_gap c.args.origins.now c.args.bytes.now _ _ _ c.text.first arm.len (ap (λ l. Some (l, arm.len)) (sym arm.field-0-0-is) ∙ arm.ensures.value) c.text.invariant.completes;
      room_in = c.text.invariant.room_in;
      at_in = omega arith;
    }

pub text-preserved : goal.text-preserved
text-preserved c =
    let arm = c.in-Some-Sound-default in
    let within = arm.ensures.within in
    let room : length c.text.tokens.items < max_tokens = omega arith in
    let items = c.in_ok-push-in-Some-Sound-default.ensures.items in
    let more : length c.push.new.self.items ≡ length c.text.tokens.items + 1 = ap length items ∙ length-append c.text.tokens.items (c.token.result ∷ []) in
    record {
      completes = subst (λ ts. Completes c.args.origins.now c.args.bytes.now ts (max_tokens - length ts) (c.text.at + arm.len) _) (sym items)
          (completes_push c.args.origins.now c.args.bytes.now c.text.tokens.items c.text.at c.text.first arm.kind arm.len c.token.result room c.token.ensures
          (ap (λ l. Some (l, arm.len)) (sym arm.field-0-0-is) ∙ arm.ensures.value) c.text.invariant.completes);
      room_in = omega arith;
      at_in = omega arith;
    }

pub returns-in-None-clause-refused : goal.returns-in-None-clause-refused
returns-in-None-clause-refused c =
    inr (completes_unknown c.args.origins.now c.args.bytes.now _ _ _ _ c.text-test.true (ne_eqb _ _ c.if-bytes-at-eq10.false) c.in-None.ensures.value c.text.invariant.completes)

pub returns-in-Some-Faulty-default-clause-refused : goal.returns-in-Some-Faulty-default-clause-refused
returns-in-Some-Faulty-default-clause-refused c =
    let arm = c.in-Some-Faulty-default in
    inr (subst (λ e. HasLexFault c.args.origins.now max_tokens 0 c.args.bytes.now e) (sym c.refusal.ensures)
    (completes_faulty c.args.origins.now c.args.bytes.now c.text.tokens.items (max_tokens - length c.text.tokens.items) c.text.at c.text.first arm.fault arm.field-0-1
    (ap (λ l. Some (l, arm.field-0-1)) (sym arm.field-0-0-is) ∙ arm.ensures.value) c.text.invariant.completes))

pub returns-then-len-eq-MAX_TOKENS-clause-refused : goal.returns-then-len-eq-MAX_TOKENS-clause-refused
returns-then-len-eq-MAX_TOKENS-clause-refused c =
    let arm = c.in-Some-Sound-default in
    inr (completes_full c.args.origins.now c.args.bytes.now c.text.tokens.items (max_tokens - length c.text.tokens.items) c.text.at c.text.first arm.kind arm.len (omega arith)
    (ap (λ l. Some (l, arm.len)) (sym arm.field-0-0-is) ∙ arm.ensures.value) c.text.invariant.completes)

pub returns-clause-found : goal.returns-clause-found
returns-clause-found c = completes_all c.args.origins.now c.args.bytes.now _ _ _ _ (omega arith) c.text.invariant.completes
