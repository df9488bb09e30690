use Rattle.std.proofs.Common.{◌≤◌, ◌++◌, map, ap, sym, subst, ◌∙◌, length, arith}
use Rattle.token_texts.specs.Names.{predefined}
use Rattle.token_texts.specs.Texts.{name_of}
use Rattle.token_reader.specs.Reader.{beginning}
use Rattle.token_reader.specs.Scoping.{spelled, AreSpelled}
use Rattle.token_reader.proofs.SpelledLemmas.{spelled_start, start_spelled}
use Rattle.token_reader.proofs.reader.Reader.new.Goals as goal

pub invariant_of-result : goal.invariant_of-result
invariant_of-result c =
    let typedefs = map (name_of c.args.texts.now) c.args.typedefs.now in
    let known = c.law_texts.ensures.predefined_names typedefs c.args.text.now c.args.tokens.now c.args.texts.now c.requires.texts in
    let at : 0 ≤ length c.args.tokens.now = omega arith in
    record {
      few = c.requires.few;
      at = at;
      names = record {
        numbered = c.law_texts.ensures.names (predefined ++ typedefs) c.args.text.now c.args.tokens.now c.args.texts.now c.requires.texts;
        apart = c.law_texts.ensures.distinct_names (predefined ++ typedefs) c.args.text.now c.args.tokens.now c.args.texts.now c.requires.texts;
      };
      scope = subst (AreSpelled c.args.texts.now) (sym c.in_ok-scope.ensures) (start_spelled c.args.texts.now known c.args.typedefs.now c.requires.within);
    }

pub returns : goal.returns
returns c =
    let typedefs = map (name_of c.args.texts.now) c.args.typedefs.now in
    let known = c.law_texts.ensures.predefined_names typedefs c.args.text.now c.args.tokens.now c.args.texts.now c.requires.texts in
    ap (beginning c.args.text.now c.args.tokens.now c.args.texts.now)
    (ap (spelled c.args.texts.now) c.in_ok-scope.ensures ∙ spelled_start c.args.texts.now known c.args.typedefs.now)
