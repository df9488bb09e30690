use Rattle.std.proofs.Common.{◌+◌, ap, ◌∙◌, arith, drop}
use Rattle.c_lexer.specs.Scan.{meant_bytes}
use Rattle.c_lexer.proofs.Decodings.{onto, decode_step, decode_stop, decode_end, decode_begin}
use Rattle.c_lexer.proofs.escapes.decode.Goals as goal

pub loop-at-init : goal.loop-at-init
loop-at-init c = record {
  within = omega arith;
  same = ap (λ bytes. onto bytes (meant_bytes 0 c.args.s.now)) c.in_ok-bytes.ensures.items ∙ decode_begin (meant_bytes 0 c.args.s.now);
}

pub loop-at-preserved : goal.loop-at-preserved
loop-at-preserved c = record {
  within = (let within = c.in-Some.ensures.within in omega arith);
  same = ap (λ bytes. onto bytes (meant_bytes 0 (drop (c.loop-at.at + c.in-Some.len) c.args.s.now))) c.in_ok-push.ensures.items
      ∙ decode_step c.args.s.now c.loop-at.at c.in-Some.value c.in-Some.len c.loop-at.bytes.items c.in-Some.ensures.value c.loop-at.invariant.same;
}

pub returns-in_default : goal.returns-in_default
returns-in_default c = decode_stop c.args.s.now c.loop-at.at c.loop-at.bytes.items c.loop-at-test.true c.in_default.ensures.value c.loop-at.invariant.same

pub returns : goal.returns
returns c = decode_end c.args.s.now c.loop-at.at c.loop-at.bytes.items c.loop-at-test.false c.loop-at.invariant.same
