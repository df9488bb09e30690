-- One more declaration of an object, by its steps.
use Rattle.std.proofs.Common.{◌≡◌, ◌∙◌, sym, ap, ap₂, ℕ, Bool, List, Option, Some}
use Rattle.std.specs.Prelude.{unwrap_or}
use Rattle.declaration_rules.specs.Agreement.{repeated_global, declared_again, more_defined, with_meaning}
use Rattle.declaration_rules.specs.declared.declarations.Introduced.{Introduced}
use Rattle.object_rules.proofs.PutLemmas.{put_twice}
use Rattle.scoped_meanings.specs.Meanings.{declared_at, put_at}
use Rattle.static_rules.specs.declared.states.GlobalSoFar.{GlobalSoFar}
use Rattle.static_rules.specs.declared.states.State.{State}
use Rattle.static_rules.specs.declared.states.Where.{Where}

one-found : {A : Type 0} (x y : A) (found : Option A) → found ≡ Some x → found ≡ Some y → x ≡ y
one-found x y found is other = ap (λ o. unwrap_or o x) (sym is ∙ other)

pub repeated_by_steps : (w : Where) (defines : Bool) (d : Introduced) (number kind defined : ℕ) (earlier found meanwhile later : GlobalSoFar)
    (s : State) (first second : List (ℕ × GlobalSoFar)) →
    declared_at s.globals number ≡ Some earlier → declared_at s.globals number ≡ Some found →
    first ≡ put_at s.globals number meanwhile → later ≡ declared_again w s defines kind found → second ≡ put_at first number later →
    defined ≡ more_defined defines s.defined →
    repeated_global w defines d number earlier kind s ≡ with_meaning (record s { globals = second; defined = defined }) d.name number
repeated_by_steps w defines d number kind defined earlier found meanwhile later s first second here other first_is later_is second_is defined_is =
    let same : earlier ≡ found = one-found earlier found (declared_at s.globals number) here other in
    let globals : second ≡ put_at s.globals number (declared_again w s defines kind earlier) =
    second_is ∙ ap (λ l. put_at l number later) first_is ∙ put_twice s.globals number meanwhile later
    ∙ ap (put_at s.globals number) (later_is ∙ ap (declared_again w s defines kind) (sym same)) in
    ap₂ (λ g n. with_meaning (record s { globals = g; defined = n }) d.name number) (sym globals) (sym defined_is)
