use Rattle.std.proofs.Common.{◌≡◌, true, subst}
use Rattle.c_tokens.specs.Same.{same_kind}
use Rattle.c_tokens.proofs.SameLemmas.{same_kind-self, same_kind-true}
use Rattle.c_tokens.proofs.kind.law_kinds.Goals as goal

pub returns : goal.returns
returns c a b = (same_kind-true a b, λ is. subst (λ k. same_kind a k ≡ true) is (same_kind-self a))
