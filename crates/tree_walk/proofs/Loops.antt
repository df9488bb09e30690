-- What the loops of the walk keep, over the statements of a block and the rounds of a `while`.
use Rattle.std.proofs.Common.{◌≡◌, ℕ, zero, suc, ◌+◌, ◌-◌, ◌<◌, ◌≤◌, Bool, true, false, cond, List, ◌∷◌, length, get_or, take, drop, map, Ok, Err, sym, ap, subst, arith}
use Rattle.std.proofs.lemmas.List.{at_drop_more, at_drop_all}
use Rattle.plain_meaning.specs.declared.scalar.CheckedPointer.{CheckedPointer}
use Rattle.plain_meaning.specs.declared.tree.Expression.{Expression}
use Rattle.plain_meaning.specs.declared.tree.Statement.{Statement}
use Rattle.plain_meaning.specs.declared.tree.Statement.TheVariants as s
use Rattle.plain_meaning.specs.Tree.{Turn, Lost}
use Rattle.plain_meaning.specs.Values.{Variables}
use Rattle.plain_meaning.specs.Meaning.{Does, expression, in_order, repeat, statement}
use Rattle.plain_meaning.proofs.Equations.{statement_block, statement_while}
use Rattle.tree_walk.specs.declared.stop.Stop.{Stop as StopReason}
use Rattle.tree_walk.specs.declared.walk.Walk.{Walk}
use Rattle.tree_walk.specs.Steps.{Events, Passes, Leads, Walks, Keeps, no_value, itself, test_of}
use Rattle.tree_walk.proofs.Passing.{nothing, passes_on, to_words, begin, stops, settles}

abbrev pub Nexts : Type 0
Nexts = Variables CheckedPointer → Events

-- ---- the statements of a block

abbrev pub all_of : List Statement → ℕ → Does CheckedPointer (Unit {0})
all_of all n = in_order (map (statement n) all)

-- from `start`, where all of them were to be done, to `here`, where the rest of them is
pub record InBlock (start : Walk) (all : List Statement) (here : Walk) (rest : List Statement) : Type 0 where
  pub passes : (n : ℕ) → start.left ≤ n → (next : Nexts) → Passes start (all_of all n start.variables.items next) here (all_of rest n here.variables.items next)
  pub fewer : here.left ≤ start.left

pub block_begins : (start : Walk) (all : List Statement) → InBlock start all start all
block_begins start all = record { passes = λ n le next. nothing start (all_of all n start.variables.items next); fewer = omega arith }

block_first : (start here : Walk) (all : List Statement) (i : ℕ) (x : Statement) → i < length all → x ≡ get_or all i x →
    InBlock start all here (drop i all) → InBlock start all here (x ∷ drop (i + 1) all)
block_first start here all i x lt is at =
    subst (λ y. InBlock start all here (y ∷ drop (i + 1) all)) (sym is)
    (subst (InBlock start all here) (at_drop_more (λ rest. rest) all i x lt) at)

pub block_more : (start here new : Walk) (all : List Statement) (i : ℕ) (x : Statement) (done : Unit {0}) → i < length all → x ≡ get_or all i x →
    InBlock start all here (drop i all) → Walks here x (Ok done) new → new.left ≤ here.left → InBlock start all new (drop (i + 1) all)
block_more start here new all i x done lt is at walks fewer =
    let first = block_first start here all i x lt is at in
    record {
      passes = λ n le next. passes_on (first.passes n le next) (walks n (omega (arith, at.fewer)) (λ after. all_of (drop (i + 1) all) n after next));
      fewer = omega (arith, at.fewer);
    }

pub block_stops : (start here new : Walk) (all : List Statement) (i : ℕ) (x : Statement) (why : StopReason) → i < length all → x ≡ get_or all i x →
    InBlock start all here (drop i all) → Walks here x (Err why) new → Walks start (s.Block all) (Err why) new
block_stops start here new all i x why lt is at walks =
    let first = block_first start here all i x lt is at in
    λ n le.
    stops {A = Unit {0}} {B = Variables CheckedPointer} {C = Unit {0}} start here new (statement n (s.Block all) start.variables.items) (λ done. new.variables.items)
    (statement n x here.variables.items) (λ done. new.variables.items) why
    (λ next.
    let after : Nexts = λ last. next (take (length start.variables.items) last) in (
      (λ v. all_of (drop (i + 1) all) n v after),
      passes_on (begin start (statement_block n all start.variables.items next)) (first.passes n le after),
    ))
    (walks n (omega (arith, at.fewer)))

pub block_ends : (start here new : Walk) (all : List Statement) (i : ℕ) → length all ≤ i → InBlock start all here (drop i all) →
    new ≡ record here { variables = new.variables } → new.variables.items ≡ take (length start.variables.items) here.variables.items →
    (n : ℕ) → start.left ≤ n → (next : Nexts) → Passes start (statement n (s.Block all) start.variables.items next) new (next new.variables.items)
block_ends start here new all i past at others is = λ n le next.
    let last = subst (InBlock start all here) (at_drop_all (λ rest. rest) all i past) at in
    let after : Nexts = λ v. next (take (length start.variables.items) v) in
    passes_on (begin start (statement_block n all start.variables.items next))
    (passes_on (last.passes n le after)
    (settles here new next (take (length start.variables.items) here.variables.items) others (sym is)))

-- ---- the rounds of a loop

abbrev pub rounds : ℕ → Expression → Statement → ℕ → ℕ → Does CheckedPointer (Unit {0})
rounds line test body n k = repeat k line (expression line test) (statement n body)

-- so many more rounds are looked at as serve for the turns that are left
pub record Rounds (start : Walk) (line : ℕ) (test : Expression) (body : Statement) (n : ℕ) (here : Walk) : Type 0 where
  pub more : ℕ
  pub enough : here.left ≤ more
  pub passes : (next : Nexts) → Passes start (statement n (s.While line test body) start.variables.items next) here (rounds line test body n more here.variables.items next)

pub record InLoop (start : Walk) (line : ℕ) (test : Expression) (body : Statement) (here : Walk) : Type 0 where
  pub goes : (n : ℕ) → start.left ≤ n → Rounds start line test body n here
  pub fewer : here.left ≤ start.left

pub loop_begins : (start : Walk) (line : ℕ) (test : Expression) (body : Statement) → InLoop start line test body start
loop_begins start line test body = record {
  goes = λ n le. record { more = n; enough = le; passes = λ next. begin start (statement_while n line test body start.variables.items next) };
  fewer = omega arith;
}

-- what comes after a test
abbrev pub at_test : Expression → Statement → ℕ → ℕ → ℕ → Variables CheckedPointer → Nexts → Bool → Events
at_test test body line n k variables next v =
    cond v (statement n body variables (λ after. rounds line test body n k after next)) (next variables)

-- a turn is next
record Turning (start : Walk) (line : ℕ) (test : Expression) (body : Statement) (n : ℕ) (here : Walk) (next : Nexts) : Type 0 where
  rest : Events
  passes : Passes start (statement n (s.While line test body) start.variables.items next) here (Turn line rest)

turning : (start here : Walk) (line : ℕ) (test : Expression) (body : Statement) (n k : ℕ) (next : Nexts) →
    Passes start (statement n (s.While line test body) start.variables.items next) here (rounds line test body n k here.variables.items next) →
    Turning start line test body n here next
turning start here line test body n zero next passes = record { rest = Lost; passes = passes }
turning start here line test body n (suc k) next passes =
    record { rest = test_of line test here.variables.items (at_test test body line n k here.variables.items next); passes = passes }

pub loop_spent : (start here new : Walk) (line : ℕ) (test : Expression) (body : Statement) (why : StopReason) → InLoop start line test body here →
    Leads {A = Unit {0}} {B = Unit {0}} here (λ next. Turn line (next tt)) no_value (Err why) new → Walks start (s.While line test body) (Err why) new
loop_spent start here new line test body why at leads = λ n le.
    stops {A = Unit {0}} {B = Variables CheckedPointer} {C = Unit {0}} {D = Unit {0}} start here new (statement n (s.While line test body) start.variables.items) (λ done. new.variables.items)
    (λ next. Turn line (next tt)) no_value why
    (λ next.
    let round = at.goes n le in
    let turn = turning start here line test body n round.more next (round.passes next) in
    ((λ done. turn.rest), turn.passes))
    leads

-- after a turn the test is next
pub record Testing (start : Walk) (line : ℕ) (test : Expression) (body : Statement) (n : ℕ) (turned : Walk) : Type 0 where
  pub more : ℕ
  pub enough : turned.left ≤ more
  pub passes : (next : Nexts) → Passes start (statement n (s.While line test body) start.variables.items next) turned
      (test_of line test turned.variables.items (at_test test body line n more turned.variables.items next))

testing_from : (start here turned : Walk) (line : ℕ) (test : Expression) (body : Statement) (n k : ℕ) → here.left ≤ k →
    turned ≡ record here { left = here.left - 1 } → turned.left < here.left →
    Leads {A = Unit {0}} {B = Unit {0}} here (λ next. Turn line (next tt)) no_value (Ok tt) turned →
    ((next : Nexts) → Passes start (statement n (s.While line test body) start.variables.items next) here (rounds line test body n k here.variables.items next)) →
    Testing start line test body n turned
testing_from start here turned line test body n zero enough is taken leads passes = absurd (omega arith)
testing_from start here turned line test body n (suc k) enough is taken leads passes =
    let kept = ap (λ (w : Walk). w.variables) is in
    record {
      more = k;
      enough = omega arith;
      passes = λ next.
          to_words (test_of line test turned.variables.items (at_test test body line n k turned.variables.items next))
          (ap (λ v. test_of line test v.items (at_test test body line n k v.items next)) (sym kept))
          (passes_on (passes next) (leads (λ done. test_of line test here.variables.items (at_test test body line n k here.variables.items next))));
    }

pub testing : (start here turned : Walk) (line : ℕ) (test : Expression) (body : Statement) (n : ℕ) → start.left ≤ n → InLoop start line test body here →
    turned ≡ record here { left = here.left - 1 } → turned.left < here.left →
    Leads {A = Unit {0}} {B = Unit {0}} here (λ next. Turn line (next tt)) no_value (Ok tt) turned → Testing start line test body n turned
testing start here turned line test body n le at is taken leads =
    let round = at.goes n le in testing_from start here turned line test body n round.more round.enough is taken leads round.passes

-- all that is known of a turn that was taken
pub record Turned (here turned : Walk) (line : ℕ) : Type 0 where
  pub is : turned ≡ record here { left = here.left - 1 }
  pub taken : turned.left < here.left
  pub leads : Leads {A = Unit {0}} {B = Unit {0}} here (λ next. Turn line (next tt)) no_value (Ok tt) turned

pub loop_test_stops : (start here turned new : Walk) (line : ℕ) (test : Expression) (body : Statement) (why : StopReason) → InLoop start line test body here →
    Turned here turned line → Leads {A = Bool} {B = Bool} turned (test_of line test turned.variables.items) itself (Err why) new →
    Walks start (s.While line test body) (Err why) new
loop_test_stops start here turned new line test body why at turn leads = λ n le.
    let now = testing start here turned line test body n le at turn.is turn.taken turn.leads in
    stops {A = Unit {0}} {B = Variables CheckedPointer} {C = Bool} start turned new (statement n (s.While line test body) start.variables.items) (λ done. new.variables.items)
    (test_of line test turned.variables.items) itself why
    (λ next. (at_test test body line n now.more turned.variables.items next, now.passes next)) leads

-- the value of the test
pub record Valued (turned here : Walk) (line : ℕ) (test : Expression) (v : Bool) : Type 0 where
  pub leads : Leads {A = Bool} {B = Bool} turned (test_of line test turned.variables.items) itself (Ok v) here
  pub kept : Keeps turned here

pub loop_leaves : (start here turned valued : Walk) (line : ℕ) (test : Expression) (body : Statement) (v : Bool) → InLoop start line test body here →
    Turned here turned line → Valued turned valued line test v → v ≡ false →
    (n : ℕ) → start.left ≤ n → (next : Nexts) → Passes start (statement n (s.While line test body) start.variables.items next) valued (next valued.variables.items)
loop_leaves start here turned valued line test body v at turn value over = λ n le next.
    let now = testing start here turned line test body n le at turn.is turn.taken turn.leads in
    let again = statement n body turned.variables.items (λ after. rounds line test body n now.more after next) in
    passes_on (now.passes next)
    (passes_on (value.leads (at_test test body line n now.more turned.variables.items next))
    (to_words (next valued.variables.items) (ap (λ u. next u.items) (sym value.kept.variables))
    (begin valued (ap (λ b. cond b again (next turned.variables.items)) over))))

-- the body is next
body_next : (start here turned valued : Walk) (line : ℕ) (test : Expression) (body : Statement) (v : Bool) (n : ℕ) (le : start.left ≤ n) (at : InLoop start line test body here) →
    Turned here turned line → Valued turned valued line test v → v ≡ true →
    (k : ℕ) × (turned.left ≤ k) × ((next : Nexts) → Passes start (statement n (s.While line test body) start.variables.items next) valued
    (statement n body valued.variables.items (λ after. rounds line test body n k after next)))
body_next start here turned valued line test body v n le at turn value on =
    let now = testing start here turned line test body n le at turn.is turn.taken turn.leads in (
      now.more,
      now.enough,
      λ next.
          let again : Nexts = λ after. rounds line test body n now.more after next in
          passes_on (now.passes next)
          (passes_on (value.leads (at_test test body line n now.more turned.variables.items next))
          (to_words (statement n body valued.variables.items again) (ap (λ u. statement n body u.items again) (sym value.kept.variables))
          (begin valued (ap (λ b. cond b (statement n body turned.variables.items again) (next turned.variables.items)) on)))),
    )

pub loop_stops : (start here turned valued new : Walk) (line : ℕ) (test : Expression) (body : Statement) (v : Bool) (why : StopReason) → InLoop start line test body here →
    Turned here turned line → Valued turned valued line test v → v ≡ true → Walks valued body (Err why) new →
    Walks start (s.While line test body) (Err why) new
loop_stops start here turned valued new line test body v why at turn value on walks = λ n le.
    let b = body_next start here turned valued line test body v n le at turn value on in
    let fewer = value.kept.left in
    let taken = turn.taken in
    let before = at.fewer in
    stops {A = Unit {0}} {B = Variables CheckedPointer} {C = Unit {0}} start valued new (statement n (s.While line test body) start.variables.items) (λ done. new.variables.items)
    (statement n body valued.variables.items) (λ done. new.variables.items) why
    (λ next. ((λ after. rounds line test body n b.0 after next), b.2 next)) (walks n (omega arith))

pub loop_again : (start here turned valued new : Walk) (line : ℕ) (test : Expression) (body : Statement) (v : Bool) (done : Unit {0}) → InLoop start line test body here →
    Turned here turned line → Valued turned valued line test v → v ≡ true → Walks valued body (Ok done) new → new.left ≤ valued.left →
    InLoop start line test body new
loop_again start here turned valued new line test body v done at turn value on walks less =
    let fewer = value.kept.left in
    let taken = turn.taken in
    let before = at.fewer in
    record {
      goes = λ n le.
          let b = body_next start here turned valued line test body v n le at turn value on in
          let enough = b.1 in
          record {
            more = b.0;
            enough = omega arith;
            passes = λ next. passes_on (b.2 next) (walks n (omega arith) (λ after. rounds line test body n b.0 after next));
          };
      fewer = omega arith;
    }
