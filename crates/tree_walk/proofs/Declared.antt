-- The variables after a declaration, and the start of a conversion.
use Rattle.std.proofs.Common.{◌≡◌, ℕ, [], ◌∷◌, ◌++◌, length, sym, ap, ◌∙◌}
use Rattle.std.specs.Prelude.{slice_set, slice_index_or}
use Rattle.std.proofs.Math.Seq.{set-append_seam}
use Rattle.plain_meaning.specs.declared.tree.Target.{Target}
use Rattle.plain_meaning.specs.declared.tree.Pointer.{Pointer as PointerVariable}
use Rattle.plain_meaning.specs.declared.scalar.Scalar.{Scalar}
use Rattle.plain_meaning.specs.declared.scalar.Scalar.TheVariants.{Pointer}
use Rattle.plain_meaning.specs.declared.scalar.CheckedPointer.{CheckedPointer}
use Rattle.plain_meaning.specs.Tree.{Convert, Turn, Point}
use Rattle.plain_meaning.specs.Points.{pointer_of}
use Rattle.plain_meaning.specs.Values.{Variables, zero_of, type_of}
use Rattle.plain_meaning.specs.Meaning.{cast}
use Rattle.tree_walk.specs.declared.walk.Walk.{Walk}
use Rattle.tree_walk.specs.Steps.{Events, Passes}
use Rattle.tree_walk.proofs.Passing.{to_words}
use Rattle.tree_walk.proofs.PointerActions.{pointer_passes}

pub last_set : (variables inside made : Variables CheckedPointer) (z x : Scalar CheckedPointer) (lvalue : ℕ) → inside ≡ variables ++ z ∷ [] →
    lvalue ≡ length variables → made ≡ slice_set inside lvalue x → variables ++ x ∷ [] ≡ made
last_set variables inside made z x lvalue is at set =
    sym (set ∙ ap (λ v. slice_set v lvalue x) is ∙ ap (λ n. slice_set (variables ++ z ∷ []) n x) at ∙ set-append_seam variables z [] x)

pub cast_begins : (walk : Walk) (line : ℕ) (target : Target) (source : PointerVariable) (q : CheckedPointer) →
    q ≡ pointer_of (slice_index_or walk.variables.items source.variable zero_of) → (next : Scalar CheckedPointer → Events) →
    Passes walk (cast line target source walk.variables.items next) walk (Turn line (Point line (Convert (type_of target)) (Pointer q) zero_of next))
cast_begins walk line target source q is next =
    to_words (Turn line (Point line (Convert (type_of target)) (Pointer q) zero_of next))
    (ap (λ p. Turn line (Point line (Convert (type_of target)) (Pointer p) zero_of next)) (sym is))
    (pointer_passes walk line walk.variables.items source.variable (λ p. Turn line (Point line (Convert (type_of target)) p zero_of next)))
