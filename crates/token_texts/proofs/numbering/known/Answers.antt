use Rattle.std.proofs.Common.{sym}
use Rattle.token_texts.proofs.numbering.known.Goals as goal

pub returns-then-is_same : goal.returns-then-is_same
returns-then-is_same c = record {
  at = c.in_ok-at.field-0;
  other = c.in_ok-other.other;
  stands = sym c.in_ok-other.ensures;
  has = sym c.in_ok-number.ensures;
  same = c.is_same.ensures c.if-is_same.true;
}
