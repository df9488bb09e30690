-- What an `if` leads to.
use Rattle.std.proofs.Common.{◌≡◌, ℕ, Bool, ◌≤◌, true, false, cond, Result, Err, ap, sym, arith}
use Rattle.plain_meaning.specs.declared.scalar.CheckedPointer.{CheckedPointer}
use Rattle.plain_meaning.specs.declared.tree.Expression.{Expression}
use Rattle.plain_meaning.specs.declared.tree.Statement.{Statement}
use Rattle.plain_meaning.specs.declared.tree.Statement.TheVariants as s
use Rattle.plain_meaning.specs.Values.{Variables}
use Rattle.plain_meaning.specs.Meaning.{statement}
use Rattle.plain_meaning.proofs.Equations.{statement_if, statement_if_else}
use Rattle.tree_walk.specs.declared.stop.Stop.{Stop as StopReason}
use Rattle.tree_walk.specs.declared.walk.Walk.{Walk}
use Rattle.tree_walk.specs.Steps.{Events, Passes, Leads, Walks, itself, test_of}
use Rattle.tree_walk.proofs.Passing.{passes_on, to_words, begin, leads_through, stops}
use Rattle.tree_walk.proofs.Loops.{Nexts, Valued}

-- what comes after the test
abbrev pub after_if : ℕ → Statement → Variables CheckedPointer → Nexts → Bool → Events
after_if n then variables next v = cond v (statement n then variables next) (next variables)

abbrev pub after_either : ℕ → Statement → Statement → Variables CheckedPointer → Nexts → Bool → Events
after_either n then otherwise variables next v = cond v (statement n then variables next) (statement n otherwise variables next)

pub if_begins : (walk : Walk) (n line : ℕ) (test : Expression) (then : Statement) (next : Nexts) →
    Passes walk (statement n (s.If line test then) walk.variables.items next) walk (test_of line test walk.variables.items (after_if n then walk.variables.items next))
if_begins walk n line test then next = begin walk (statement_if n line test then walk.variables.items next)

pub either_begins : (walk : Walk) (n line : ℕ) (test : Expression) (then otherwise : Statement) (next : Nexts) →
    Passes walk (statement n (s.IfElse line test then otherwise) walk.variables.items next) walk
    (test_of line test walk.variables.items (after_either n then otherwise walk.variables.items next))
either_begins walk n line test then otherwise next = begin walk (statement_if_else n line test then otherwise walk.variables.items next)

pub if_true : (walk here new : Walk) (line : ℕ) (test : Expression) (then : Statement) (v : Bool) (r : Result (Unit {0}) StopReason) →
    Valued walk here line test v → v ≡ true → Walks here then r new → Walks walk (s.If line test then) r new
if_true walk here new line test then v r value on walks = λ n le.
    let fewer = value.kept.left in
    leads_through {A = Unit {0}} {B = Variables CheckedPointer} walk here new (statement n (s.If line test then) walk.variables.items) (statement n then here.variables.items)
    (λ done. new.variables.items) r
    (λ next. passes_on (if_begins walk n line test then next)
    (passes_on (value.leads (after_if n then walk.variables.items next))
    (to_words (statement n then here.variables.items next) (ap (λ u. statement n then u.items next) (sym value.kept.variables))
    (begin here (ap (λ b. cond b (statement n then walk.variables.items next) (next walk.variables.items)) on)))))
    (walks n (omega arith))

pub if_false : (walk here : Walk) (line : ℕ) (test : Expression) (then : Statement) (v : Bool) → Valued walk here line test v → v ≡ false →
    (n : ℕ) → walk.left ≤ n → (next : Nexts) → Passes walk (statement n (s.If line test then) walk.variables.items next) here (next here.variables.items)
if_false walk here line test then v value off = λ n le next.
    passes_on (if_begins walk n line test then next)
    (passes_on (value.leads (after_if n then walk.variables.items next))
    (to_words (next here.variables.items) (ap (λ u. next u.items) (sym value.kept.variables))
    (begin here (ap (λ b. cond b (statement n then walk.variables.items next) (next walk.variables.items)) off))))

pub either_true : (walk here new : Walk) (line : ℕ) (test : Expression) (then otherwise : Statement) (v : Bool) (r : Result (Unit {0}) StopReason) →
    Valued walk here line test v → v ≡ true → Walks here then r new → Walks walk (s.IfElse line test then otherwise) r new
either_true walk here new line test then otherwise v r value on walks = λ n le.
    let fewer = value.kept.left in
    leads_through {A = Unit {0}} {B = Variables CheckedPointer} walk here new (statement n (s.IfElse line test then otherwise) walk.variables.items)
    (statement n then here.variables.items) (λ done. new.variables.items) r
    (λ next. passes_on (either_begins walk n line test then otherwise next)
    (passes_on (value.leads (after_either n then otherwise walk.variables.items next))
    (to_words (statement n then here.variables.items next) (ap (λ u. statement n then u.items next) (sym value.kept.variables))
    (begin here (ap (λ b. cond b (statement n then walk.variables.items next) (statement n otherwise walk.variables.items next)) on)))))
    (walks n (omega arith))

pub either_false : (walk here new : Walk) (line : ℕ) (test : Expression) (then otherwise : Statement) (v : Bool) (r : Result (Unit {0}) StopReason) →
    Valued walk here line test v → v ≡ false → Walks here otherwise r new → Walks walk (s.IfElse line test then otherwise) r new
either_false walk here new line test then otherwise v r value off walks = λ n le.
    let fewer = value.kept.left in
    leads_through {A = Unit {0}} {B = Variables CheckedPointer} walk here new (statement n (s.IfElse line test then otherwise) walk.variables.items)
    (statement n otherwise here.variables.items) (λ done. new.variables.items) r
    (λ next. passes_on (either_begins walk n line test then otherwise next)
    (passes_on (value.leads (after_either n then otherwise walk.variables.items next))
    (to_words (statement n otherwise here.variables.items next) (ap (λ u. statement n otherwise u.items next) (sym value.kept.variables))
    (begin here (ap (λ b. cond b (statement n then walk.variables.items next) (statement n otherwise walk.variables.items next)) off)))))
    (walks n (omega arith))

pub if_stops : (walk new : Walk) (line : ℕ) (test : Expression) (then : Statement) (why : StopReason) →
    Leads {A = Bool} {B = Bool} walk (test_of line test walk.variables.items) itself (Err why) new → Walks walk (s.If line test then) (Err why) new
if_stops walk new line test then why leads = λ n le.
    stops {A = Unit {0}} {B = Variables CheckedPointer} {C = Bool} walk walk new (statement n (s.If line test then) walk.variables.items) (λ done. new.variables.items)
    (test_of line test walk.variables.items) itself why (λ next. (after_if n then walk.variables.items next, if_begins walk n line test then next)) leads

pub either_stops : (walk new : Walk) (line : ℕ) (test : Expression) (then otherwise : Statement) (why : StopReason) →
    Leads {A = Bool} {B = Bool} walk (test_of line test walk.variables.items) itself (Err why) new → Walks walk (s.IfElse line test then otherwise) (Err why) new
either_stops walk new line test then otherwise why leads = λ n le.
    stops {A = Unit {0}} {B = Variables CheckedPointer} {C = Bool} walk walk new (statement n (s.IfElse line test then otherwise) walk.variables.items) (λ done. new.variables.items)
    (test_of line test walk.variables.items) itself why (λ next. (after_either n then otherwise walk.variables.items next, either_begins walk n line test then otherwise next)) leads
