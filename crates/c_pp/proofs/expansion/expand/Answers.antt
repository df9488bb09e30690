use Rattle.c_pp.proofs.Expanding.{all_few, all_drawn, only_expanded, only_refusal}
use Rattle.c_pp.proofs.expansion.expand.Goals as goal

pub returns-clause-few : goal.returns-clause-few
returns-clause-few c = all_few (λ v. v.items) c.args.text.now c.args.tokens.now c.expanded_tokens.result c.expanded_tokens.ensures.found

pub returns-clause-drawn : goal.returns-clause-drawn
returns-clause-drawn c = all_drawn (λ v. v.items) c.args.text.now c.args.tokens.now c.expanded_tokens.result c.expanded_tokens.ensures.found

pub returns-clause-only : goal.returns-clause-only
returns-clause-only c = only_expanded (λ v. v.items) c.args.text.now c.args.tokens.now c.expanded_tokens.result c.expanded_tokens.ensures.found c.expanded_tokens.ensures.refused

pub returns-clause-only_refused : goal.returns-clause-only_refused
returns-clause-only_refused c = only_refusal (λ v. v.items) c.args.text.now c.args.tokens.now c.expanded_tokens.result c.expanded_tokens.ensures.found c.expanded_tokens.ensures.refused
