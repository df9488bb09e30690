-- What the parts of an expression lead to.
use Rattle.std.proofs.Common.{◌≡◌, ℕ, ℤ, refl, ap, ◌∙◌}
use Rattle.std.specs.Prelude.{slice_index_or}
use Rattle.std.specs.Int.{w32}
use Rattle.plain_meaning.specs.declared.tree.Operator.{Operator}
use Rattle.plain_meaning.specs.declared.tree.Pointer.{Pointer as PointerVariable}
use Rattle.plain_meaning.specs.declared.scalar.Scalar.{Scalar}
use Rattle.plain_meaning.specs.declared.scalar.Scalar.TheVariants.{Number, Pointer}
use Rattle.plain_meaning.specs.declared.scalar.CheckedPointer.{CheckedPointer}
use Rattle.plain_meaning.specs.declared.tree.Expression.{Expression}
use Rattle.plain_meaning.specs.declared.tree.Expression.TheVariants as e
use Rattle.plain_meaning.specs.Tree.{Load, Move, Point}
use Rattle.plain_meaning.specs.Points.{Go, number_of, pointer_of, shift}
use Rattle.plain_meaning.specs.Values.{Variables, zero_of, operate, conversion, size_of, kind_of}
use Rattle.plain_meaning.specs.Meaning.{heap_call, element, expression}
use Rattle.plain_meaning.proofs.Equations.{expression_binary, expression_element}
use Rattle.tree_walk.specs.declared.walk.Walk.{Walk}
use Rattle.tree_walk.specs.Steps.{Events, Passes}
use Rattle.tree_walk.proofs.Passing.{nothing, in_words, passed}
use Rattle.tree_walk.proofs.PointerActions.{pointer_passes}

-- what comes after the left operand, and after the right one
abbrev pub after_right : Operator → ℤ → (ℤ → Events) → ℤ → Events
after_right operator a next b = next (operate w32 operator a b)

abbrev pub after_left : ℕ → Operator → Expression → Variables CheckedPointer → (ℤ → Events) → ℤ → Events
after_left line operator right variables next a = expression line right variables (after_right operator a next)

pub binary_begins : (walk : Walk) (line : ℕ) (x : Expression) (operator : Operator) (left right : Expression) → x ≡ e.Binary operator left right →
    (next : ℤ → Events) →
    Passes walk (expression line x walk.variables.items next) walk (expression line left walk.variables.items (after_left line operator right walk.variables.items next))
binary_begins walk line x operator left right is next =
    in_words _ (ap (λ y. expression line y walk.variables.items next) is ∙ expression_binary line operator left right walk.variables.items next) (nothing walk _)

-- what comes after the place of an element
abbrev pub after_lvalue : ℕ → PointerVariable → (ℤ → Events) → Scalar CheckedPointer → Events
after_lvalue line p next lvalue = heap_call line (Load (kind_of p.target)) lvalue zero_of (λ v. next (conversion w32 (number_of v)))

pub element_begins : (walk : Walk) (line : ℕ) (x : Expression) (p : PointerVariable) (index : Expression) → x ≡ e.Element p index → (next : ℤ → Events) →
    Passes walk (expression line x walk.variables.items next) walk (element line p (expression line index) walk.variables.items (after_lvalue line p next))
element_begins walk line x p index is next =
    in_words _ (ap (λ y. expression line y walk.variables.items next) is ∙ expression_element line p index walk.variables.items next) (nothing walk _)

-- what comes after the index
abbrev pub after_index : ℕ → PointerVariable → CheckedPointer → (Scalar CheckedPointer → Events) → ℤ → Events
after_index line p base next i = Point line (Move (size_of p.target)) (Pointer base) (Number i) next

abbrev pub base_of : Walk → PointerVariable → CheckedPointer
base_of walk p = pointer_of (slice_index_or walk.variables.items p.variable zero_of)

pub base_passes : (walk : Walk) (line : ℕ) (p : PointerVariable) (index : Expression) (next : Scalar CheckedPointer → Events) →
    Passes walk (element line p (expression line index) walk.variables.items next) walk
    (expression line index walk.variables.items (after_index line p (base_of walk p) next))
base_passes walk line p index next =
    pointer_passes walk line walk.variables.items p.variable
    (λ base. expression line index walk.variables.items (λ i. Point line (Move (size_of p.target)) base (Number i) next))

pub move_passes : (walk : Walk) (line : ℕ) (p : PointerVariable) (base : CheckedPointer) (i : ℤ) (next : Scalar CheckedPointer → Events) →
    Passes walk (after_index line p base next i) walk (next (Pointer (shift base i (size_of p.target))))
move_passes walk line p base i next =
    passed walk line (Move (size_of p.target)) (Pointer base) (Number i) next (Go (Pointer (shift base i (size_of p.target))) tt) refl
