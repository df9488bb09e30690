use Rattle.std.proofs.Common.{◌≡◌, ◌≤◌, ℕ, List, min, length, filter, ap, sym, ◌∙◌, subst, arith}
use Rattle.std.specs.Prelude.{slice_range, IfOk}
use Rattle.c_tokens.specs.Names.{written, joins_no_lines}
use Rattle.c_tokens.proofs.PartLemmas.{part_none, part_cut}
use Rattle.c_tokens.proofs.names.written.Goals as goal

pub returns-then-start-end : goal.returns-then-start-end
unfolding written
returns-then-start-end c =
    let low : min c.args.end (length c.args.text.now) ≤ c.args.start = omega arith in
    c.new.ensures.items ∙ sym (ap (filter joins_no_lines) (part_none c.args.text.now c.args.start c.args.end low))

pub returns : goal.returns
unfolding written
returns c =
    let same : slice_range c.args.text.now c.args.start c.min-end.result ≡ slice_range c.args.text.now c.args.start c.args.end =
    ap (λ e. slice_range c.args.text.now c.args.start e) c.min-end.ensures ∙ part_cut c.args.text.now c.args.start c.args.end in
    subst (λ (l : List ℕ). IfOk c.unjoined.result (λ found. found.items ≡ filter joins_no_lines l)) same c.unjoined.ensures
