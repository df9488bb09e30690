-- What holds of each event of a meaning holds of a statement: for relations of two trees that are followed with the same turns.
use Rattle.std.proofs.Common.{◌≡◌, ℕ, zero, suc, ◌≤◌, Bool, true, false, cond, List, [], ◌∷◌, map, Some, sym, subst, arith}
use Rattle.std.specs.Prelude.{slice_index_or, nat_le}
use Rattle.plain_meaning.specs.declared.tree.Target.{Target}
use Rattle.plain_meaning.specs.declared.tree.Target.TheVariants.{Int, Char}
use Rattle.plain_meaning.specs.declared.tree.Pointer.{Pointer as PointerVariable}
use Rattle.plain_meaning.specs.declared.scalar.Scalar.{Scalar}
use Rattle.plain_meaning.specs.declared.scalar.Scalar.TheVariants.{Number, Pointer}
use Rattle.plain_meaning.specs.declared.tree.Expression.{Expression, ind-Expression, map-Expression}
use Rattle.plain_meaning.specs.declared.tree.Expression.TheOpen as layer
use Rattle.plain_meaning.specs.declared.tree.Expression.TheVariants as e
use Rattle.plain_meaning.specs.declared.tree.Expression.TheViews.{roll-Expression}
use Rattle.plain_meaning.specs.declared.tree.Statement.{Statement, ind-Statement, map-Statement}
use Rattle.plain_meaning.specs.declared.tree.Statement.TheOpen as layers
use Rattle.plain_meaning.specs.declared.tree.Statement.TheVariants as s
use Rattle.plain_meaning.specs.declared.tree.Statement.TheViews.{roll-Statement}
use Rattle.plain_meaning.specs.declared.tree.Function.{Function}
use Rattle.plain_meaning.specs.Tree.{Action, Null, IsNull, Allocate, Free, Load, Store, Pass, Convert, Move, Tree, Return, Print, Turn, Point}
use Rattle.plain_meaning.specs.Points.{number_of}
use Rattle.lowfat_regions.specs.Regions.{max_object_bytes}
use Rattle.plain_meaning.specs.Values.{Variables, zero_of, is_true, type_of, size_of, kind_of}
use Rattle.plain_meaning.specs.Meaning.{Gives, Does, pointer_in, pointer, heap_call, allocation, cast, free_variable, element, expression, in_order, repeat, number_line, statement, body_of}
use Rattle.plain_meaning.proofs.Equations as equation

abbrev pub Events : Type 0 → Type 0
Events P = Tree P (Unit {0})

abbrev pub Relation : Type 0 → Type 1
Relation P = ℕ → Events P → Events P → Type 0

-- An action of these programs: a check is for one of the nine types that each table has.
abbrev pub IsOfForm : Action → Type 0
IsOfForm (Convert want) = want ≤ 9
IsOfForm _ = Unit {0}

converts : (target : Target) → IsOfForm (Convert (type_of target))
converts Int = omega arith
converts Char = omega arith

-- a relation, at the turns that are left, that each event keeps
pub record Kept (P : Type 0) (Q : Relation P) : Type 0 where
  pub returned : (left : ℕ) → Q left (Return tt) (Return tt)
  pub printed : (left : ℕ) (bytes : List ℕ) (t u : Events P) → Q left t u → Q left (Print bytes t) (Print bytes u)
  pub spent : (line : ℕ) (t u : Events P) → Q zero (Turn line t) (Turn line u)
  pub turned : (left line : ℕ) (t u : Events P) → Q left t u → Q (suc left) (Turn line t) (Turn line u)
  pub pointed : (left line : ℕ) (action : Action) → IsOfForm action → (v w : Scalar P) (f g : Scalar P → Events P) → ((x : Scalar P) → Q left (f x) (g x)) →
      Q left (Point line action v w f) (Point line action v w g)

module _ {P : Type 0} (Q : Relation P) where
  -- what follows a value is related, with as many turns or fewer
  abbrev pub NextAlike : {A : Type 0} → ℕ → (A → Events P) → (A → Events P) → Type 0
  NextAlike {A} left k h = (j : ℕ) → j ≤ left → (x : A) → Q j (k x) (h x)

  -- what does something is related to what does it too
  abbrev pub Alike : {A : Type 0} → ((A → Events P) → Events P) → ((A → Events P) → Events P) → Type 0
  Alike {A} d c = (j : ℕ) (k h : A → Events P) → NextAlike j k h → Q j (d k) (c h)

  abbrev pub DoesAlike : ℕ → Does P (Unit {0}) → Does P (Unit {0}) → Type 0
  DoesAlike left d c =
      (j : ℕ) → j ≤ left → (variables : Variables P) (k h : Variables P → Events P) → NextAlike j k h → Q j (d variables k) (c variables h)

  -- both sides rewritten
  pub both : (j : ℕ) {t u t' u' : Events P} → t ≡ t' → u ≡ u' → Q j t' u' → Q j t u
  both j {t} {u} {t'} {u'} e f a = subst (λ x. Q j x u) (sym e) (subst (λ y. Q j t' y) (sym f) a)

  pub cond_alike : (j : ℕ) (b : Bool) (t u t' u' : Events P) → Q j t t' → Q j u u' → Q j (cond b t u) (cond b t' u')
  cond_alike j true t u t' u' first second = first
  cond_alike j false t u t' u' first second = second

module _ {P : Type 0} (Q : Relation P) (kept : Kept P Q) where
  -- ---- turns and points

  turn_alike : (j line : ℕ) (t u : Events P) → ((i : ℕ) → i ≤ j → Q i t u) → Q j (Turn line t) (Turn line u)
  turn_alike zero line t u a = kept.spent line t u
  turn_alike (suc j) line t u a = kept.turned j line t u (a j (omega arith))

  point_alike : (line : ℕ) (action : Action) → IsOfForm action → (v w : Scalar P) → Alike Q (Point line action v w) (Point line action v w)
  point_alike line action ok v w j k h a = kept.pointed j line action ok v w k h (λ x. a j (omega arith) x)

  call_alike : (line : ℕ) (action : Action) → IsOfForm action → (v w : Scalar P) → Alike Q (heap_call line action v w) (heap_call line action v w)
  call_alike line action ok v w j k h a = turn_alike j line _ _ (λ i le. point_alike line action ok v w i k h (λ i' le'. a i' (omega arith)))

  pointer_in_alike : (line : ℕ) (x : Scalar P) → Alike Q (pointer_in line x) (pointer_in line x)
  pointer_in_alike line (Number n) j k h a = point_alike line Null tt zero_of zero_of j k h a
  pointer_in_alike line (Pointer p) j k h a = a j (omega arith) (Pointer p)

  pointer_alike : (line : ℕ) (variables : Variables P) (x : ℕ) → Alike Q (pointer line variables x) (pointer line variables x)
  pointer_alike line variables x = pointer_in_alike line (slice_index_or variables x zero_of)

  allocated_alike : (line : ℕ) (target : Target) (size : ℕ) → Alike Q (allocation line target size) (allocation line target size)
  allocated_alike line target size j k h a =
      cond_alike Q j (nat_le size max_object_bytes) _ _ _ _ (call_alike line (Allocate (type_of target)) tt _ _ j k h a) (point_alike line Null tt zero_of zero_of j k h a)

  cast_alike : (line : ℕ) (target : Target) (source : PointerVariable) (variables : Variables P) → Alike Q (cast line target source variables) (cast line target source variables)
  cast_alike line target source variables j k h a =
      pointer_alike line variables source.variable j _ _ (λ i le p.
      turn_alike i line _ _ (λ i' le'. point_alike line _ (converts target) p zero_of i' k h (λ i'' le''. a i'' (omega arith))))

  freed_alike : (line : ℕ) (source : PointerVariable) (variables : Variables P) (j : ℕ) (t u : Events P) → ((i : ℕ) → i ≤ j → Q i t u) →
      Q j (free_variable line source variables t) (free_variable line source variables u)
  freed_alike line source variables j t u a =
      pointer_alike line variables source.variable j _ _ (λ i le p.
      point_alike line Pass tt p zero_of i _ _ (λ i' le' passed.
      point_alike line IsNull tt passed zero_of i' _ _ (λ i'' le'' is.
      cond_alike Q i'' (is_true (number_of is)) _ _ _ _ (a i'' (omega arith))
      (call_alike line Free tt passed zero_of i'' (λ done. t) (λ done. u) (λ i''' le''' done. a i''' (omega arith))))))

  -- ---- expressions

  abbrev pub GivesAlike : Gives P (Unit {0}) → Type 0
  GivesAlike gives = (variables : Variables P) → Alike Q (gives variables) (gives variables)

  element_alike : (line : ℕ) (p : PointerVariable) (index : Gives P (Unit {0})) → GivesAlike index → (variables : Variables P) →
      Alike Q (element line p index variables) (element line p index variables)
  element_alike line p index alike variables j k h a =
      pointer_alike line variables p.variable j _ _ (λ i le base.
      alike variables i _ _ (λ i' le' n. point_alike line (Move (size_of p.target)) tt base (Number n) i' k h (λ i'' le''. a i'' (omega arith))))

  abbrev Valued : ℕ → Expression → Type 0
  Valued line x = GivesAlike (expression line x)

  valued_layer : (line : ℕ) (y : layer.Expression-F ((x : Expression) × Valued line x)) → Valued line (roll-Expression (map-Expression _ _ (λ p. p.0) y))
  valued_layer line (layer.Variable x) = subst (Valued line) (sym (e.rolls-Variable x)) (λ variables j k h a.
      both Q j (equation.expression_variable line x variables k) (equation.expression_variable line x variables h) (a j (omega arith) _))
  valued_layer line (layer.Number n) = subst (Valued line) (sym (e.rolls-Number n)) (λ variables j k h a.
      both Q j (equation.expression_number line n variables k) (equation.expression_number line n variables h) (a j (omega arith) _))
  valued_layer line (layer.Binary operator left right) = subst (Valued line) (sym (e.rolls-Binary operator left.0 right.0)) (λ variables j k h a.
      both Q j (equation.expression_binary line operator left.0 right.0 variables k) (equation.expression_binary line operator left.0 right.0 variables h)
      (left.1 variables j _ _ (λ i le n. right.1 variables i _ _ (λ i' le' m. a i' (omega arith) _))))
  valued_layer line (layer.Element p index) = subst (Valued line) (sym (e.rolls-Element p index.0)) (λ variables j k h a.
      both Q j (equation.expression_element line p index.0 variables k) (equation.expression_element line p index.0 variables h)
      (element_alike line p (expression line index.0) index.1 variables j _ _ (λ i le lvalue.
      call_alike line (Load (kind_of p.target)) tt lvalue zero_of i _ _ (λ i' le' v. a i' (omega arith) _))))

  expression_alike : (line : ℕ) (x : Expression) → Valued line x
  expression_alike line = ind-Expression (Valued line) (λ x y is. subst (λ z. Valued line (roll-Expression z)) is (valued_layer line y))

  -- ---- loops

  repeated_alike : (m n left : ℕ) → left ≤ m → left ≤ n → (line : ℕ) (test : Gives P (Unit {0})) (d c : Does P (Unit {0})) →
      GivesAlike test → DoesAlike Q left d c → (j : ℕ) → j ≤ left → (variables : Variables P) (k h : Variables P → Events P) → NextAlike Q j k h →
      Q j (repeat m line test d variables k) (repeat n line test c variables h)
  repeated_alike zero zero left lm ln line test d c alike body zero le variables k h a = kept.spent line _ _
  repeated_alike zero (suc n) left lm ln line test d c alike body zero le variables k h a = kept.spent line _ _
  repeated_alike (suc m) zero left lm ln line test d c alike body zero le variables k h a = kept.spent line _ _
  repeated_alike (suc m) (suc n) left lm ln line test d c alike body zero le variables k h a = kept.spent line _ _
  repeated_alike zero n left lm ln line test d c alike body (suc j) le variables k h a = absurd (omega arith)
  repeated_alike (suc m) zero left lm ln line test d c alike body (suc j) le variables k h a = absurd (omega arith)
  repeated_alike (suc m) (suc n) left lm ln line test d c alike body (suc j) le variables k h a =
      kept.turned j line _ _ (alike variables j _ _ (λ i li v. cond_alike Q i (is_true v) _ _ _ _
      (body i (omega arith) variables _ _ (λ i' li' after.
      repeated_alike m n j (omega arith) (omega arith) line test d c alike (λ i'' li''. body i'' (omega arith)) i' (omega arith) after k h
      (λ i'' li''. a i'' (omega arith))))
      (a i (omega arith) variables)))

  -- ---- statements

  abbrev StatementAlike : Statement → Type 0
  StatementAlike x = (m n left : ℕ) → left ≤ m → left ≤ n → DoesAlike Q left (statement m x) (statement n x)

  order_alike : (all : List ((x : Statement) × StatementAlike x)) (m n left : ℕ) → left ≤ m → left ≤ n →
      DoesAlike Q left (in_order (map (statement m) (map (λ p. p.0) all))) (in_order (map (statement n) (map (λ p. p.0) all)))
  order_alike [] m n left lm ln = λ j le variables k h a. a j (omega arith) variables
  order_alike (first ∷ rest) m n left lm ln = λ j le variables k h a.
      first.1 m n left lm ln j le variables _ _ (λ i li after.
      order_alike rest m n left lm ln i (omega arith) after k h (λ i' li'. a i' (omega arith)))

  alike_layer : (y : layers.Statement-F ((x : Statement) × StatementAlike x)) → StatementAlike (roll-Statement (map-Statement _ _ (λ p. p.0) y))
  alike_layer (layers.Block all) = subst StatementAlike (sym (s.rolls-Block (map (λ p. p.0) all))) (λ m n left lm ln j le variables k h a.
      both Q j (equation.statement_block m (map (λ p. p.0) all) variables k) (equation.statement_block n (map (λ p. p.0) all) variables h)
      (order_alike all m n left lm ln j le variables _ _ (λ i li after. a i li _)))
  alike_layer (layers.Declaration line value) = subst StatementAlike (sym (s.rolls-Declaration line value)) (λ m n left lm ln j le variables k h a.
      both Q j (equation.statement_declaration m line value variables k) (equation.statement_declaration n line value variables h)
      (expression_alike line value _ j _ _ (λ i li v. a i li _)))
  alike_layer (layers.Allocation line target size) = subst StatementAlike (sym (s.rolls-Allocation line target size)) (λ m n left lm ln j le variables k h a.
      both Q j (equation.statement_allocation m line target size variables k) (equation.statement_allocation n line target size variables h)
      (allocated_alike line target size j _ _ (λ i li v. a i li _)))
  alike_layer (layers.PointerDeclaration line target source) = subst StatementAlike (sym (s.rolls-PointerDeclaration line target source)) (λ m n left lm ln j le variables k h a.
      both Q j (equation.statement_pointer_declaration m line target source variables k) (equation.statement_pointer_declaration n line target source variables h)
      (point_alike line Null tt zero_of zero_of j _ _ (λ i li null. cast_alike line target source _ i _ _ (λ i' li' v. a i' (omega arith) _))))
  alike_layer (layers.Assignment line x value) = subst StatementAlike (sym (s.rolls-Assignment line x value)) (λ m n left lm ln j le variables k h a.
      both Q j (equation.statement_assignment m line x value variables k) (equation.statement_assignment n line x value variables h)
      (expression_alike line value _ j _ _ (λ i li v. a i li _)))
  alike_layer (layers.PointerAssignment line p source) = subst StatementAlike (sym (s.rolls-PointerAssignment line p source)) (λ m n left lm ln j le variables k h a.
      both Q j (equation.statement_pointer_assignment m line p source variables k) (equation.statement_pointer_assignment n line p source variables h)
      (cast_alike line p.target source variables j _ _ (λ i li v. a i li _)))
  alike_layer (layers.ElementAssignment line p index value) = subst StatementAlike (sym (s.rolls-ElementAssignment line p index value)) (λ m n left lm ln j le variables k h a.
      both Q j (equation.statement_element_assignment m line p index value variables k) (equation.statement_element_assignment n line p index value variables h)
      (element_alike line p (expression line index) (expression_alike line index) variables j _ _ (λ i li lvalue.
      expression_alike line value variables i _ _ (λ i' li' v. call_alike line (Store (kind_of p.target)) tt lvalue _ i' _ _ (λ i'' li'' done. a i'' (omega arith) _)))))
  alike_layer (layers.Free line p) = subst StatementAlike (sym (s.rolls-Free line p)) (λ m n left lm ln j le variables k h a.
      both Q j (equation.statement_free m line p variables k) (equation.statement_free n line p variables h)
      (freed_alike line p variables j _ _ (λ i li. a i li _)))
  alike_layer (layers.If line test then) = subst StatementAlike (sym (s.rolls-If line test then.0)) (λ m n left lm ln j le variables k h a.
      both Q j (equation.statement_if m line test then.0 variables k) (equation.statement_if n line test then.0 variables h)
      (expression_alike line test variables j _ _ (λ i li v. cond_alike Q i (is_true v) _ _ _ _
      (then.1 m n left lm ln i (omega arith) variables k h (λ i' li'. a i' (omega arith))) (a i (omega arith) variables))))
  alike_layer (layers.IfElse line test then otherwise) = subst StatementAlike (sym (s.rolls-IfElse line test then.0 otherwise.0)) (λ m n left lm ln j le variables k h a.
      both Q j (equation.statement_if_else m line test then.0 otherwise.0 variables k) (equation.statement_if_else n line test then.0 otherwise.0 variables h)
      (expression_alike line test variables j _ _ (λ i li v. cond_alike Q i (is_true v) _ _ _ _
      (then.1 m n left lm ln i (omega arith) variables k h (λ i' li'. a i' (omega arith)))
      (otherwise.1 m n left lm ln i (omega arith) variables k h (λ i' li'. a i' (omega arith))))))
  alike_layer (layers.While line test body) = subst StatementAlike (sym (s.rolls-While line test body.0)) (λ m n left lm ln j le variables k h a.
      both Q j (equation.statement_while m line test body.0 variables k) (equation.statement_while n line test body.0 variables h)
      (repeated_alike m n left lm ln line (expression line test) _ _ (expression_alike line test) (body.1 m n left lm ln) j le variables k h a))
  alike_layer (layers.Print line value) = subst StatementAlike (sym (s.rolls-Print line value)) (λ m n left lm ln j le variables k h a.
      both Q j (equation.statement_print m line value variables k) (equation.statement_print n line value variables h)
      (expression_alike line value variables j _ _ (λ i li v. kept.printed i (number_line v) _ _ (a i (omega arith) variables))))

  statement_alike : (x : Statement) → StatementAlike x
  statement_alike = ind-Statement StatementAlike (λ x y is. subst (λ z. StatementAlike (roll-Statement z)) is (alike_layer y))

  -- a function's body, of whose loops as many turns are looked at as are left, or more
  pub body_alike : (m n left : ℕ) → left ≤ m → left ≤ n → (f : Function) → Q left (body_of m (Some f)) (body_of n (Some f))
  body_alike m n left lm ln f = statement_alike f.body m n left lm ln left (omega arith) [] _ _ (λ j le v. kept.returned j)
