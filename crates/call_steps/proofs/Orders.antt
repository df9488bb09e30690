-- Arguments in the order of reading, against the list that the rules build from its end.
use Rattle.std.proofs.Common.{◌≡◌, refl, sym, ap, append_assoc, append-nil, Bool, true, false, List, [], ◌∷◌, ◌++◌}
use Rattle.std.proofs.Common.{Option, Some, None}
use Rattle.std.specs.Prelude.{◌&&◌, ◌||◌}
use Rattle.c_tree.specs.declared.values.Value.{Value}
use Rattle.static_rules.specs.Calls.{before, no_more}
use Rattle.static_rules.specs.declared.judged.Arguments.{Arguments}
use Rattle.static_rules.specs.declared.judged.Operand.{Operand}
use Rattle.call_steps.specs.Reading.{followed, with_argument, surplus}

abbrev all_of : List Value → Bool → Bool → Arguments
all_of values misfit as_many = record { values = values; misfit = misfit; as_many = as_many }

or_true : (b : Bool) → b || true ≡ true
or_true true = refl
or_true false = refl

or_false : (b : Bool) → b || false ≡ b
or_false true = refl
or_false false = refl

and_false : (b : Bool) → b && false ≡ false
and_false true = refl
and_false false = refl

pub argument_behind : (read rest : Arguments) (x : Option Operand) →
    followed (with_argument read x) rest ≡ followed read (before x rest)
unfolding followed with_argument
argument_behind read rest (Some x) =
    ap (λ (values : List Value). all_of values (read.misfit || rest.misfit) (read.as_many && rest.as_many))
    (append_assoc read.values (x.value ∷ []) rest.values)
argument_behind read rest None =
    ap (λ (misfit : Bool). all_of (read.values ++ rest.values) misfit (read.as_many && rest.as_many))
    (sym (or_true read.misfit))

pub surplus_behind : (read rest : Arguments) →
    followed (record read { as_many = false }) rest ≡ followed read (surplus rest)
unfolding followed
surplus_behind read rest =
    ap (λ (as_many : Bool). all_of (read.values ++ rest.values) (read.misfit || rest.misfit) as_many)
    (sym (and_false read.as_many))

pub ended : (read : Arguments) (as_many : Bool) →
    followed read (no_more as_many) ≡ record read { as_many = read.as_many && as_many }
unfolding followed
ended read as_many =
    (λ n. all_of (append-nil read.values n) (or_false read.misfit n) (read.as_many && as_many))
