use Rattle.std.proofs.Common.{refl, arith, []}
use Rattle.effs_words.specs.Lines.{start}
use Rattle.effs_words.proofs.judge.Options.none.Goals as goal

pub returns : goal.returns
returns c = λ play workers. record {
  entries = [];
  watch = [];
  reads = start;
  counted = refl;
  watched = refl;
  few = omega arith;
  small = λ n is. absurd (cc is);
}
