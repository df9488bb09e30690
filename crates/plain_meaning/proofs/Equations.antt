-- The equations of the meaning, one for each variant.
use Rattle.std.proofs.Common.{◌≡◌, ℕ, ℤ, cond, List, [], ◌∷◌, ◌++◌, length, take, map, sym, ap, ◌∙◌}
use Rattle.std.specs.Prelude.{slice_set}
use Rattle.std.specs.Int.{w32}
use Rattle.plain_meaning.specs.declared.tree.Operator.{Operator}
use Rattle.plain_meaning.specs.declared.tree.Target.{Target}
use Rattle.plain_meaning.specs.declared.tree.Pointer.{Pointer as PointerVariable}
use Rattle.plain_meaning.specs.declared.scalar.Scalar.TheVariants.{Number}
use Rattle.plain_meaning.specs.declared.tree.Expression.{Expression, fold-roll-Expression}
use Rattle.plain_meaning.specs.declared.tree.Expression.TheOpen as layer
use Rattle.plain_meaning.specs.declared.tree.Expression.TheVariants as e
use Rattle.plain_meaning.specs.declared.tree.Statement.{Statement, fold-roll-Statement}
use Rattle.plain_meaning.specs.declared.tree.Statement.TheOpen as layers
use Rattle.plain_meaning.specs.declared.tree.Statement.TheVariants as s
use Rattle.plain_meaning.specs.Tree.{Tree, Print, Point, Null, Load, Store}
use Rattle.plain_meaning.specs.Points.{number_of}
use Rattle.plain_meaning.specs.Values.{Variables, zero_of, value_of, is_true, operate, conversion, width_of, kind_of}
use Rattle.plain_meaning.specs.Meaning.{Gives, Does, heap_call, allocation, cast, free_variable, element, expression_step, expression, in_order, repeat, number_line, statement_step, statement}

pub expression_variable : {P R : Type 0} (line : ℕ) (x : ℕ) (variables : Variables P) (next : ℤ → Tree P R) →
    expression line (e.Variable x) variables next
    ≡ next (value_of variables x)
expression_variable {P} {R} line x variables next =
    ap (λ f. f variables next) (ap (expression {P = P} {R = R} line) (sym (e.rolls-Variable x))
    ∙ fold-roll-Expression (Gives P R) (expression_step {P = P} {R = R} line) (layer.Variable x))

pub expression_number : {P R : Type 0} (line : ℕ) (n : ℤ) (variables : Variables P) (next : ℤ → Tree P R) →
    expression line (e.Number n) variables next
    ≡ next n
expression_number {P} {R} line n variables next =
    ap (λ f. f variables next) (ap (expression {P = P} {R = R} line) (sym (e.rolls-Number n))
    ∙ fold-roll-Expression (Gives P R) (expression_step {P = P} {R = R} line) (layer.Number n))

pub expression_binary : {P R : Type 0} (line : ℕ) (operator : Operator) (left right : Expression) (variables : Variables P) (next : ℤ → Tree P R) →
    expression line (e.Binary operator left right) variables next
    ≡ expression line left variables (λ a. expression line right variables (λ b. next (operate w32 operator a b)))
expression_binary {P} {R} line operator left right variables next =
    ap (λ f. f variables next) (ap (expression {P = P} {R = R} line) (sym (e.rolls-Binary operator left right))
    ∙ fold-roll-Expression (Gives P R) (expression_step {P = P} {R = R} line) (layer.Binary operator left right))

pub expression_element : {P R : Type 0} (line : ℕ) (p : PointerVariable) (index : Expression) (variables : Variables P) (next : ℤ → Tree P R) →
    expression line (e.Element p index) variables next
    ≡ element line p (expression line index) variables (λ lvalue. heap_call line (Load (kind_of p.target)) lvalue zero_of (λ v. next (conversion w32 (number_of v))))
expression_element {P} {R} line p index variables next =
    ap (λ f. f variables next) (ap (expression {P = P} {R = R} line) (sym (e.rolls-Element p index))
    ∙ fold-roll-Expression (Gives P R) (expression_step {P = P} {R = R} line) (layer.Element p index))

pub statement_block : {P R : Type 0} (n : ℕ) (all : List Statement) (variables : Variables P) (next : Variables P → Tree P R) →
    statement n (s.Block all) variables next
    ≡ in_order (map (statement n) all) variables (λ after. next (take (length variables) after))
statement_block {P} {R} n all variables next =
    ap (λ f. f variables next) (ap (statement {P = P} {R = R} n) (sym (s.rolls-Block all))
    ∙ fold-roll-Statement (Does P R) (statement_step {P = P} {R = R} n) (layers.Block all))

pub statement_declaration : {P R : Type 0} (n : ℕ) (line : ℕ) (value : Expression) (variables : Variables P) (next : Variables P → Tree P R) →
    statement n (s.Declaration line value) variables next
    ≡ expression line value (variables ++ zero_of ∷ []) (λ v. next (variables ++ Number v ∷ []))
statement_declaration {P} {R} n line value variables next =
    ap (λ f. f variables next) (ap (statement {P = P} {R = R} n) (sym (s.rolls-Declaration line value))
    ∙ fold-roll-Statement (Does P R) (statement_step {P = P} {R = R} n) (layers.Declaration line value))

pub statement_allocation : {P R : Type 0} (n : ℕ) (line : ℕ) (target : Target) (size : ℕ) (variables : Variables P) (next : Variables P → Tree P R) →
    statement n (s.Allocation line target size) variables next
    ≡ allocation line target size (λ p. next (variables ++ p ∷ []))
statement_allocation {P} {R} n line target size variables next =
    ap (λ f. f variables next) (ap (statement {P = P} {R = R} n) (sym (s.rolls-Allocation line target size))
    ∙ fold-roll-Statement (Does P R) (statement_step {P = P} {R = R} n) (layers.Allocation line target size))

pub statement_pointer_declaration : {P R : Type 0} (n : ℕ) (line : ℕ) (target : Target) (source : PointerVariable) (variables : Variables P) (next : Variables P → Tree P R) →
    statement n (s.PointerDeclaration line target source) variables next
    ≡ Point line Null zero_of zero_of (λ null. cast line target source (variables ++ null ∷ []) (λ p. next (variables ++ p ∷ [])))
statement_pointer_declaration {P} {R} n line target source variables next =
    ap (λ f. f variables next) (ap (statement {P = P} {R = R} n) (sym (s.rolls-PointerDeclaration line target source))
    ∙ fold-roll-Statement (Does P R) (statement_step {P = P} {R = R} n) (layers.PointerDeclaration line target source))

pub statement_assignment : {P R : Type 0} (n : ℕ) (line x : ℕ) (value : Expression) (variables : Variables P) (next : Variables P → Tree P R) →
    statement n (s.Assignment line x value) variables next
    ≡ expression line value variables (λ v. next (slice_set variables x (Number v)))
statement_assignment {P} {R} n line x value variables next =
    ap (λ f. f variables next) (ap (statement {P = P} {R = R} n) (sym (s.rolls-Assignment line x value))
    ∙ fold-roll-Statement (Does P R) (statement_step {P = P} {R = R} n) (layers.Assignment line x value))

pub statement_pointer_assignment : {P R : Type 0} (n : ℕ) (line : ℕ) (p source : PointerVariable) (variables : Variables P) (next : Variables P → Tree P R) →
    statement n (s.PointerAssignment line p source) variables next
    ≡ cast line p.target source variables (λ q. next (slice_set variables p.variable q))
statement_pointer_assignment {P} {R} n line p source variables next =
    ap (λ f. f variables next) (ap (statement {P = P} {R = R} n) (sym (s.rolls-PointerAssignment line p source))
    ∙ fold-roll-Statement (Does P R) (statement_step {P = P} {R = R} n) (layers.PointerAssignment line p source))

pub statement_element_assignment : {P R : Type 0} (n : ℕ) (line : ℕ) (p : PointerVariable) (index value : Expression) (variables : Variables P) (next : Variables P → Tree P R) →
    statement n (s.ElementAssignment line p index value) variables next
    ≡ element line p (expression line index) variables (λ lvalue. expression line value variables (λ v.
    heap_call line (Store (kind_of p.target)) lvalue (Number (conversion (width_of p.target) v)) (λ done. next variables)))
statement_element_assignment {P} {R} n line p index value variables next =
    ap (λ f. f variables next) (ap (statement {P = P} {R = R} n) (sym (s.rolls-ElementAssignment line p index value))
    ∙ fold-roll-Statement (Does P R) (statement_step {P = P} {R = R} n) (layers.ElementAssignment line p index value))

pub statement_free : {P R : Type 0} (n : ℕ) (line : ℕ) (p : PointerVariable) (variables : Variables P) (next : Variables P → Tree P R) →
    statement n (s.Free line p) variables next
    ≡ free_variable line p variables (next variables)
statement_free {P} {R} n line p variables next =
    ap (λ f. f variables next) (ap (statement {P = P} {R = R} n) (sym (s.rolls-Free line p))
    ∙ fold-roll-Statement (Does P R) (statement_step {P = P} {R = R} n) (layers.Free line p))

pub statement_if : {P R : Type 0} (n : ℕ) (line : ℕ) (test : Expression) (then : Statement) (variables : Variables P) (next : Variables P → Tree P R) →
    statement n (s.If line test then) variables next
    ≡ expression line test variables (λ v. cond (is_true v) (statement n then variables next) (next variables))
statement_if {P} {R} n line test then variables next =
    ap (λ f. f variables next) (ap (statement {P = P} {R = R} n) (sym (s.rolls-If line test then))
    ∙ fold-roll-Statement (Does P R) (statement_step {P = P} {R = R} n) (layers.If line test then))

pub statement_if_else : {P R : Type 0} (n : ℕ) (line : ℕ) (test : Expression) (then otherwise : Statement) (variables : Variables P) (next : Variables P → Tree P R) →
    statement n (s.IfElse line test then otherwise) variables next
    ≡ expression line test variables (λ v. cond (is_true v) (statement n then variables next) (statement n otherwise variables next))
statement_if_else {P} {R} n line test then otherwise variables next =
    ap (λ f. f variables next) (ap (statement {P = P} {R = R} n) (sym (s.rolls-IfElse line test then otherwise))
    ∙ fold-roll-Statement (Does P R) (statement_step {P = P} {R = R} n) (layers.IfElse line test then otherwise))

pub statement_while : {P R : Type 0} (n : ℕ) (line : ℕ) (test : Expression) (body : Statement) (variables : Variables P) (next : Variables P → Tree P R) →
    statement n (s.While line test body) variables next
    ≡ repeat n line (expression line test) (statement n body) variables next
statement_while {P} {R} n line test body variables next =
    ap (λ f. f variables next) (ap (statement {P = P} {R = R} n) (sym (s.rolls-While line test body))
    ∙ fold-roll-Statement (Does P R) (statement_step {P = P} {R = R} n) (layers.While line test body))

pub statement_print : {P R : Type 0} (n : ℕ) (line : ℕ) (value : Expression) (variables : Variables P) (next : Variables P → Tree P R) →
    statement n (s.Print line value) variables next
    ≡ expression line value variables (λ v. Print (number_line v) (next variables))
statement_print {P} {R} n line value variables next =
    ap (λ f. f variables next) (ap (statement {P = P} {R = R} n) (sym (s.rolls-Print line value))
    ∙ fold-roll-Statement (Does P R) (statement_step {P = P} {R = R} n) (layers.Print line value))
