-- What the comparison of a name says.
use Rattle.std.proofs.Common.{◌≡◌, ℕ, ◌<◌, ◌≤◌, true, false, eqb, List, length, get_or, Some, sym, ap, ◌∙◌, refl, arith}
use Rattle.std.specs.Prelude.{slice_get}
use Rattle.std.specs.Cmp.Lexicographic.{pointwise}
use Rattle.std.proofs.lemmas.Bool.Decides.{Decides-eqb}
use Rattle.std.proofs.lemmas.Slice.Eq.{slice_eq-Decides}
use Rattle.std.proofs.lemmas.Option.{slice_get_read, slice_get_within}
use Rattle.plain_meaning.specs.declared.tree.Function.{Function}
use Rattle.plain_meaning.specs.declared.tree.Program.{Program}
use Rattle.plain_meaning.specs.Names.{HasName, HasNone}

-- the function that was read
pub found_here : (program : Program) (functions : List Function) (number : ℕ) (f : Function) → functions ≡ program.functions →
    number < length functions → f ≡ get_or functions number f → slice_get program.functions number ≡ Some f
found_here program functions number f same within read =
    ap (λ all. slice_get all number) (sym same) ∙ slice_get_read functions (length functions) number f refl within read

pub named_here : (program : Program) (number : ℕ) (f : Function) (bytes name : List ℕ) → slice_get program.functions number ≡ Some f →
    bytes ≡ f.name → true ≡ pointwise eqb bytes name → HasName program number name
named_here program number f bytes name found is equal =
    record { function = f; found = found; named = sym is ∙ (slice_eq-Decides Decides-eqb bytes name true equal).0 refl }

pub other_here : (program : Program) (number : ℕ) (f : Function) (bytes name : List ℕ) → slice_get program.functions number ≡ Some f →
    bytes ≡ f.name → false ≡ pointwise eqb bytes name → HasName program number name → ⊥
other_here program number f bytes name found is unequal named =
    let same : named.function ≡ f = cc (named.found, found) in
    let equal : bytes ≡ name = is ∙ ap (λ g. g.name) (sym same) ∙ named.named in
    let t : false ≡ true = (slice_eq-Decides Decides-eqb bytes name false unequal).1 equal in
    cc

pub has_none : (program : Program) (name : List ℕ) (number : ℕ) → length program.functions ≤ number →
    ((other : ℕ) → other < number → HasName program other name → ⊥) → HasNone program name
has_none program name number past none = λ other named.
    none other (omega (arith, slice_get_within program.functions other named.function named.found)) named
