-- What a program means (C11 6.8), with continuations: what follows is an argument, so the order of evaluation is the order
-- of the arguments. A step says what a node does where its parts do what they do.
use Rattle.std.specs.Prelude.{ℕ, zero, suc, ℤ, pos, List, [], ◌∷◌, ◌++◌, length, take, slice_set, slice_get, slice_index_or, Option, Some, None, cond, codes, nat_le}
use Rattle.std.specs.Int.{w32}
use Rattle.std.specs.Fmt.{signed_decimal}
use Rattle.plain_meaning.specs.declared.tree.Target.{Target}
use Rattle.plain_meaning.specs.declared.tree.Pointer.{Pointer as PointerVariable}
use Rattle.plain_meaning.specs.declared.scalar.Scalar.{Scalar}
use Rattle.plain_meaning.specs.declared.scalar.Scalar.TheVariants.{Number, Pointer}
use Rattle.plain_meaning.specs.declared.tree.Expression.{Expression, fold-Expression}
use Rattle.plain_meaning.specs.declared.tree.Expression.TheOpen.{Expression-F}
use Rattle.plain_meaning.specs.declared.tree.Expression.TheOpen as e
use Rattle.plain_meaning.specs.declared.tree.Statement.{Statement, fold-Statement}
use Rattle.plain_meaning.specs.declared.tree.Statement.TheOpen.{Statement-F}
use Rattle.plain_meaning.specs.declared.tree.Statement.TheOpen as s
use Rattle.plain_meaning.specs.declared.tree.Function.{Function}
use Rattle.plain_meaning.specs.declared.tree.Program.{Program}
use Rattle.plain_meaning.specs.Tree.{Action, Null, IsNull, Allocate, Free, Load, Store, Pass, Convert, Move, Tree, Return, Lost, Print, Turn, Point}
use Rattle.plain_meaning.specs.Points.{number_of}
use Rattle.lowfat_regions.specs.Regions.{max_object_bytes}
use Rattle.plain_meaning.specs.Values.{Variables, zero_of, value_of, is_true, operate, conversion, type_of, size_of, width_of, kind_of}

-- ---- pointers

-- the pointer that a variable holds. (A variable that holds none, which no text names so, is null there.)
abbrev pub pointer_in : {P R : Type 0} → ℕ → Scalar P → (Scalar P → Tree P R) → Tree P R
pointer_in line (Number n) next = Point line Null zero_of zero_of next
pointer_in line (Pointer p) next = next (Pointer p)

abbrev pub pointer : {P R : Type 0} → ℕ → Variables P → ℕ → (Scalar P → Tree P R) → Tree P R
pointer line variables x next = pointer_in line (slice_index_or variables x zero_of) next

-- A heap call takes a turn, directly before it.
abbrev pub heap_call : {P R : Type 0} → ℕ → Action → Scalar P → Scalar P → (Scalar P → Tree P R) → Tree P R
heap_call line action u w next = Turn line (Point line action u w next)

-- `malloc(size)` gives null without a call where no region has room for the size.
abbrev pub allocation : {P R : Type 0} → ℕ → Target → ℕ → (Scalar P → Tree P R) → Tree P R
allocation line target size next =
    cond (nat_le size max_object_bytes) (heap_call line (Allocate (type_of target)) (Number (pos size)) zero_of next) (Point line Null zero_of zero_of next)

-- A conversion `(T *)p` takes a turn, after its operand.
abbrev pub cast : {P R : Type 0} → ℕ → Target → PointerVariable → Variables P → (Scalar P → Tree P R) → Tree P R
cast line target source variables next =
    pointer line variables source.variable (λ p. Turn line (Point line (Convert (type_of target)) p zero_of next))

-- `free(p)`: the pointer is passed, and null is left alone.
abbrev pub release : {P R : Type 0} → ℕ → Scalar P → Tree P R → Tree P R
release line p next =
    Point line Pass p zero_of (λ passed.
    Point line IsNull passed zero_of (λ is.
    cond (is_true (number_of is)) next (heap_call line Free passed zero_of (λ done. next))))

abbrev pub free_variable : {P R : Type 0} → ℕ → PointerVariable → Variables P → Tree P R → Tree P R
free_variable line source variables next = pointer line variables source.variable (λ p. release line p next)

-- ---- expressions

-- what an expression does: it goes on with its value
abbrev pub Gives : Type 0 → Type 0 → Type 0
Gives P R = Variables P → (ℤ → Tree P R) → Tree P R

-- the lvalue `NAME[index]`: first the pointer, then the index
abbrev pub element : {P R : Type 0} → ℕ → PointerVariable → Gives P R → Variables P → (Scalar P → Tree P R) → Tree P R
element line p index variables next =
    pointer line variables p.variable (λ base. index variables (λ i. Point line (Move (size_of p.target)) base (Number i) next))

abbrev pub expression_step : {P R : Type 0} → ℕ → Expression-F (Gives P R) → Gives P R
expression_step line (e.Variable x) variables next = next (value_of variables x)
expression_step line (e.Number n) variables next = next n
expression_step line (e.Binary operator left right) variables next =
    left variables (λ a. right variables (λ b. next (operate w32 operator a b)))
expression_step line (e.Element p index) variables next =
    element line p index variables (λ lvalue. heap_call line (Load (kind_of p.target)) lvalue zero_of (λ v. next (conversion w32 (number_of v))))

-- an expression of a statement on this line
abbrev pub expression : {P R : Type 0} → ℕ → Expression → Gives P R
expression {P} {R} line = fold-Expression (Gives P R) (expression_step {P = P} {R = R} line)

-- ---- statements

-- what a statement does: it goes on with the variables after it
abbrev pub Does : Type 0 → Type 0 → Type 0
Does P R = Variables P → (Variables P → Tree P R) → Tree P R

-- one after another
abbrev pub in_order : {P R : Type 0} → List (Does P R) → Does P R
in_order [] variables next = next variables
in_order (first ∷ rest) variables next = first variables (λ after. in_order rest after next)

-- A loop takes a turn for each of its tests, before the test. At most n + 1 turns are looked at.
abbrev pub repeat : {P R : Type 0} → ℕ → ℕ → Gives P R → Does P R → Does P R
repeat zero line test body variables next = Turn line Lost
repeat (suc n) line test body variables next =
    Turn line (test variables (λ v. cond (is_true v) (body variables (λ after. repeat n line test body after next)) (next variables)))

-- what `printf("%d\n", v)` prints
abbrev pub number_line : ℤ → List ℕ
number_line v = signed_decimal v ++ codes "\n"

-- The variables of a block go out of scope at its end. A new variable is zero or null while its first value is evaluated.
-- Of `p[i] = v` the lvalue comes first, then the value, which is converted to the element's type.
abbrev pub statement_step : {P R : Type 0} → ℕ → Statement-F (Does P R) → Does P R
statement_step n (s.Block all) variables next = in_order all variables (λ after. next (take (length variables) after))
statement_step n (s.Declaration line value) variables next =
    expression line value (variables ++ zero_of ∷ []) (λ v. next (variables ++ Number v ∷ []))
statement_step n (s.Allocation line target size) variables next = allocation line target size (λ p. next (variables ++ p ∷ []))
statement_step n (s.PointerDeclaration line target source) variables next =
    Point line Null zero_of zero_of (λ null. cast line target source (variables ++ null ∷ []) (λ p. next (variables ++ p ∷ [])))
statement_step n (s.Assignment line x value) variables next = expression line value variables (λ v. next (slice_set variables x (Number v)))
statement_step n (s.PointerAssignment line p source) variables next =
    cast line p.target source variables (λ q. next (slice_set variables p.variable q))
statement_step n (s.ElementAssignment line p index value) variables next =
    element line p (expression line index) variables (λ lvalue. expression line value variables (λ v.
    heap_call line (Store (kind_of p.target)) lvalue (Number (conversion (width_of p.target) v)) (λ done. next variables)))
statement_step n (s.Free line p) variables next = free_variable line p variables (next variables)
statement_step n (s.If line test then) variables next =
    expression line test variables (λ v. cond (is_true v) (then variables next) (next variables))
statement_step n (s.IfElse line test then otherwise) variables next =
    expression line test variables (λ v. cond (is_true v) (then variables next) (otherwise variables next))
statement_step n (s.While line test body) variables next = repeat n line (expression line test) body variables next
statement_step n (s.Print line value) variables next = expression line value variables (λ v. Print (number_line v) (next variables))

-- a statement, of whose loops n + 1 turns each are looked at
abbrev pub statement : {P R : Type 0} → ℕ → Statement → Does P R
statement {P} {R} n = fold-Statement (Does P R) (statement_step {P = P} {R = R} n)

-- ---- functions

abbrev pub body_of : {P : Type 0} → ℕ → Option Function → Tree P (Unit {0})
body_of n (Some f) = statement n f.body [] (λ after. Return tt)
body_of n None = Lost

-- what a worker does that runs a function of a program
abbrev pub call : {P : Type 0} → ℕ → Program → ℕ → Tree P (Unit {0})
call n program function = body_of n (slice_get program.functions function)

-- What worker 0 does before the others and after them: a program has no globals and literals that make objects yet, and
-- there is no function that is run first or last.
abbrev pub opening : {P : Type 0} → Program → Tree P (Unit {0})
opening program = Return tt

abbrev pub finish : {P : Type 0} → Program → Tree P (Unit {0})
finish program = Return tt
