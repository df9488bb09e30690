use Rattle.std.proofs.Common.{◌≡◌, List, length, take}
use Rattle.c_tokens.specs.Names.{Name}
use Rattle.token_texts.specs.Texts.{AreTextsFrom, distinct}
use Rattle.token_texts.proofs.gathering.gather.Given as goal

abbrev pub invariant-loop-token : goal.invariant-loop-token
invariant-loop-token l =
    record {
      many : length l.numbering.numbers ≡ l._token-index;
      texts : (given : List Name) → l.fn.names ≡ distinct given → AreTextsFrom given l.text (take l._token-index l.tokens) l.numbering;
    }
