use Rattle.std.proofs.Common.{◌∙◌}
use Rattle.c_lexer.specs.Joined.{joined_bytes, joined_origins}
use Rattle.c_lexer.proofs.Steps.{found_at, refused_at, only_tokens, only_refused, few_tokens}
use Rattle.c_lexer.proofs.lexer.lex.Goals as goal

pub returns-clause-found : goal.returns-clause-found
returns-clause-found c =
    found_at _ (λ v. v.items) c.tokens_of.result c.as_slice-2.result.now (joined_origins c.args.text.now) c.as_slice.result.now (joined_bytes c.args.text.now)
    (c.as_slice-2.ensures.value ∙ c.in_ok-joined.ensures.origins) (c.as_slice.ensures.value ∙ c.in_ok-joined.ensures.bytes) c.tokens_of.ensures.found

pub returns-clause-refused : goal.returns-clause-refused
returns-clause-refused c =
    refused_at _ c.tokens_of.result c.as_slice-2.result.now (joined_origins c.args.text.now) c.as_slice.result.now (joined_bytes c.args.text.now)
    (c.as_slice-2.ensures.value ∙ c.in_ok-joined.ensures.origins) (c.as_slice.ensures.value ∙ c.in_ok-joined.ensures.bytes) c.tokens_of.ensures.refused

pub returns-clause-few : goal.returns-clause-few
returns-clause-few c = few_tokens _ (λ v. v.items) (joined_origins c.args.text.now) (joined_bytes c.args.text.now) c.tokens_of.result (returns-clause-found c)

pub returns-clause-only : goal.returns-clause-only
returns-clause-only c = only_tokens _ (λ v. v.items) (joined_origins c.args.text.now) (joined_bytes c.args.text.now) c.tokens_of.result (returns-clause-found c) (returns-clause-refused c)

pub returns-clause-only_refused : goal.returns-clause-only_refused
returns-clause-only_refused c = only_refused _ (λ v. v.items) (joined_origins c.args.text.now) (joined_bytes c.args.text.now) c.tokens_of.result (returns-clause-found c) (returns-clause-refused c)
