use Rattle.std.proofs.Common.{◌==◌, map, ap, ◌∙◌}
use Rattle.c_pp.specs.Marked.{marks_of, met_of, in_force}
use Rattle.c_pp.proofs.MarkLemmas.{none_made, none_met_made}
use Rattle.c_pp.proofs.marks.Marks.new.Goals as goal

pub returns-clause-none : goal.returns-clause-none
unfolding marks_of
returns-clause-none c = ap (map (in_force 1)) (c.in_ok-vec.ensures.items_if_clones_equal (λ y e. e)) ∙ none_made c.args.count

pub returns-clause-none_met : goal.returns-clause-none_met
unfolding met_of
returns-clause-none_met c = ap (map (λ met. met == 1)) (c.in_ok-vec-2.ensures.items_if_clones_equal (λ y e. e)) ∙ none_met_made c.args.count
