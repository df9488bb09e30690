-- A parameter's declarator, by its steps.
use Rattle.std.proofs.Common.{◌≡◌, ◌∙◌, ap, ℕ, Bool, false, Ok}
use Rattle.static_rules.specs.Answers.{Answer, ◌>>=◌, fault_if}
use Rattle.static_rules.specs.Source.{Source}
use Rattle.static_rules.specs.declared.faults.CheckKind.TheVariants as why
use Rattle.static_rules.specs.declared.states.Made.{Made}
use Rattle.static_rules.specs.declared.states.State.{State}
use Rattle.static_rules.specs.declared.states.Where.{Where}
use Rattle.declaration_rules.specs.Declarators.{is_taken_by, parameter_named, parameter_made}
use Rattle.declaration_rules.specs.Parts.{made, adjusted}
use Rattle.declaration_rules.specs.declared.parts.Around.{Around}

module _ (source : Source) (w : Where) (here : ℕ) (base whole : Made) (a : Around) (s s1 s2 new : State) (kind : ℕ) where
  pub made_by_steps : is_taken_by source w s a.name ≡ false → made s a.parts base ≡ Ok (whole, s1) →
      adjusted here s1 whole ≡ Ok (kind, s2) → parameter_named source a.name (kind, s2) ≡ new →
      parameter_made source w here base (a, s) ≡ Ok new
  made_by_steps free made_is kind_is named =
      ap (λ taken. fault_if taken why.Redefined here >>= λ new. made s a.parts base >>= λ type. adjusted here type.1 type.0 >>= λ k. Ok (parameter_named source a.name k)) free
      ∙ ap (λ type_made. type_made >>= λ type. adjusted here type.1 type.0 >>= λ k. Ok (parameter_named source a.name k)) made_is
      ∙ ap (λ kind_made. kind_made >>= λ k. Ok (parameter_named source a.name k)) kind_is ∙ ap (λ n. Ok n) named
