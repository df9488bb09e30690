-- Initialisers, statements and blocks that are well typed stay so when more may be named.
use Rattle.std.proofs.Common.{◌≡◌, ◌⊎◌, ℕ, List, [], ◌++◌, Option, Some, None, refl, sym, subst, ◌∙◌, ap, inl, inr}
use Rattle.std.specs.Prelude.{Contains}
use Rattle.std.proofs.lemmas.List.Elements.{Contains-append_left, Contains-append_right, Contains-append_cases}
use Rattle.c_tree.specs.declared.statements.Initial.{Initial}
use Rattle.c_tree.specs.declared.statements.ForStart.{ForStart}
use Rattle.c_tree.specs.declared.statements.Statement.{Statement}
use Rattle.c_tree.specs.declared.statements.Block.{Block}
use Rattle.c_tree.specs.declared.values.Place.{Place}
use Rattle.c_tree.specs.declared.values.Value.{Value}
use Rattle.c_types.specs.Table.{Types}
use Rattle.well_typed.specs.Surroundings.{PlaceLayer, Surroundings, IsSeenAs, as_declared, without_size, IsVariable}
use Rattle.well_typed.specs.Initialisers.{Declared, Variables, Global, IsPart, PartRule, part, IsInitial, scalar, copied, bytes, AreInitials}
use Rattle.well_typed.specs.Initialisers as i
use Rattle.well_typed.specs.Statements.{Position, with_scope, in_block, inside, in_loop, in_switch, in_for, IsCondition, IsOptionalCondition, IsSomeValue, IsOptionalValue, IsForStart, IsStatement, IsBlock, StatementRule, StatementLayer, AreStatements, statement, block}
use Rattle.well_typed.specs.Statements as t
use Rattle.well_typed.specs.Growth.{TypesGrow, Grows, Extends, DeclaresMore, PositionGrows}
use Rattle.well_typed.proofs.Growth.{place_grows, value_grows, member_grows}

seen_grows : {old new : Types} → TypesGrow old new → (declared kind : ℕ) → IsSeenAs old declared kind →
    IsSeenAs new declared kind
seen_grows grows declared kind as_declared = as_declared
seen_grows grows declared kind (without_size sized unsized) =
    without_size (grows.kinds _ _ sized) (grows.kinds _ _ unsized)

-- ---- initialisers

module _ {old new : Surroundings} (extends : Extends old new) where
  kept : (n declared : ℕ) → IsVariable old n declared → IsVariable new n declared
  kept n declared x =
      let later = extends.variables n x.found x.here in
      record { found = later.0; here = later.1; kind = later.2 ∙ x.kind; in_scope = extends.grows.scope n x.in_scope }

  module _ {before after : Declared} (more : DeclaresMore before after) where
    mutual
      part_grows : {q : Place} {kind : ℕ} → IsPart old before q kind → IsPart new after q kind
      part_grows (part rule) = part (part_rule_grows rule)

      part_rule_grows : {layer : PlaceLayer} {kind : ℕ} → PartRule old before layer kind → PartRule new after layer kind
      part_rule_grows (i.variable declares own x) =
          let later = more.variables _ declares in
          i.variable later.1 (later.2 _ own) (kept _ _ x)
      part_rule_grows (i.global declares is) = i.global (more.global _ declares) (extends.globals _ _ is)
      part_rule_grows (i.member q m) = i.member (part_grows q) (member_grows extends.grows _ _ _ m)
      part_rule_grows (i.element_of q array within) =
          i.element_of (part_grows q) (extends.grows.types.kinds _ _ array) within

    initial_grows : (one : Initial) → IsInitial old before one → IsInitial new after one
    initial_grows one (scalar q is x) =
        scalar (part_grows q) (extends.grows.types.scalars _ is) (value_grows extends.grows x)
    initial_grows one (copied q from is sized) =
        copied (part_grows q) (place_grows extends.grows from) (extends.grows.types.aggregates _ is) (
        extends.grows.types.sizes _ sized)
    initial_grows one (bytes q array character fits) =
        bytes (part_grows q) (extends.grows.types.kinds _ _ array) character fits

    pub initials_grow : (stores : List Initial) → AreInitials old before stores → AreInitials new after stores
    initials_grow stores all = λ k d below. initial_grows _ (all k d below)

-- ---- positions

more_in_scope : (old new numbers : List ℕ) → ((n : ℕ) → Contains old n → Contains new n) →
    (n : ℕ) → Contains (old ++ numbers) n → Contains (new ++ numbers) n
more_in_scope old new numbers more n is = go (Contains-append_cases old numbers n is)
  where
    go : Contains old n ⊎ Contains numbers n → Contains (new ++ numbers) n
    go (inl is) = Contains-append_left new numbers n (more n is)
    go (inr is) = Contains-append_right new numbers n is

scope_grows : (old new : Surroundings) (numbers : List ℕ) → Extends old new →
    Extends (with_scope numbers old) (with_scope numbers new)
scope_grows old new numbers e = record {
  grows = record {
    types = e.grows.types;
    functions = e.grows.functions;
    variables = e.grows.variables;
    addressed = e.grows.addressed;
    scope = more_in_scope old.scope new.scope numbers e.grows.scope;
    globals = e.grows.globals;
    literals = e.grows.literals;
  };
  variables = e.variables;
  globals = e.globals;
}

inside_grows : (old new : Position) → PositionGrows old new → PositionGrows (inside old) (inside new)
inside_grows old new g = record {
  around = g.around;
  result = g.result;
  own = λ n is. is;
  may_break = g.may_break;
  may_continue = g.may_continue;
  switch_type = refl;
}

loop_grows : (old new : Position) → PositionGrows old new → PositionGrows (in_loop old) (in_loop new)
loop_grows old new g = record {
  around = g.around;
  result = g.result;
  own = λ n is. is;
  may_break = λ is. is;
  may_continue = λ is. is;
  switch_type = refl;
}

switch_grows : (kind : ℕ) (old new : Position) → PositionGrows old new →
    PositionGrows (in_switch kind old) (in_switch kind new)
switch_grows kind old new g = record {
  around = g.around;
  result = g.result;
  own = λ n is. is;
  may_break = λ is. is;
  may_continue = g.may_continue;
  switch_type = refl;
}

block_grows : (numbers : List ℕ) (old new : Position) → PositionGrows old new →
    PositionGrows (in_block numbers old) (in_block numbers new)
block_grows numbers old new g = record {
  around = scope_grows old.around new.around numbers g.around;
  result = g.result;
  own = λ n is. is;
  may_break = g.may_break;
  may_continue = g.may_continue;
  switch_type = g.switch_type;
}

for_grows : (numbers : List ℕ) (old new : Position) → PositionGrows old new →
    PositionGrows (in_for numbers old) (in_for numbers new)
for_grows numbers old new g = record {
  around = scope_grows old.around new.around numbers g.around;
  result = g.result;
  own = g.own;
  may_break = g.may_break;
  may_continue = g.may_continue;
  switch_type = g.switch_type;
}

-- ---- statements

own_grows : (old new : List ℕ) → ((n : ℕ) → Contains old n → Contains new n) →
    DeclaresMore (Variables old) (Variables new)
own_grows old new more = record {
  variables = λ own is. (new, refl, λ n held. more n (subst (λ numbers. Contains numbers n) (numbers_of is) held));
  global = λ n is. cc;
}
  where
    numbers : Declared → List ℕ
    numbers (Variables own) = own
    numbers (Global n) = []

    numbers_of : {own : List ℕ} → Variables old ≡ Variables own → own ≡ old
    numbers_of is = sym (ap numbers is)

condition_grows : {old new : Surroundings} → Grows old new → {x : Value} → IsCondition old x → IsCondition new x
condition_grows grows (kind, x, is) = (kind, value_grows grows x, grows.types.scalars kind is)

some_value_grows : {old new : Surroundings} → Grows old new → {x : Value} → IsSomeValue old x → IsSomeValue new x
some_value_grows grows (kind, x) = (kind, value_grows grows x)

optional_condition_grows : {old new : Surroundings} → Grows old new → (x : Option Value) → IsOptionalCondition old x →
    IsOptionalCondition new x
optional_condition_grows grows None is = tt
optional_condition_grows grows (Some x) is = condition_grows grows is

optional_value_grows : {old new : Surroundings} → Grows old new → (x : Option Value) → IsOptionalValue old x →
    IsOptionalValue new x
optional_value_grows grows None is = tt
optional_value_grows grows (Some x) is = some_value_grows grows is

start_grows : {old new after : Position} {start : ForStart} → PositionGrows old new → IsForStart old start after →
    (later : Position) × IsForStart new start later × PositionGrows after later
start_grows {new = new} g t.nothing = (new, t.nothing, g)
start_grows {new = new} g (t.value x) = (new, t.value (some_value_grows g.around.grows x), g)
start_grows {old = old} {new = new} g (t.declaration {numbers} {stores = stores} stored) = (
  in_for numbers new,
  t.declaration (
      initials_grow (scope_grows old.around new.around numbers g.around) (
      own_grows numbers numbers (λ n is. is)) stores stored),
  for_grows numbers old new g,
)

mutual
  pub statement_grows : {old new : Position} {s : Statement} → PositionGrows old new → IsStatement old s →
      IsStatement new s
  statement_grows g (statement rule) = statement (rule_grows g rule)

  pub block_statement_grows : {old new : Position} {b : Block} → PositionGrows old new → IsBlock old b → IsBlock new b
  block_statement_grows g (block {b = b} all) = block (statements_grow (block_grows b.variables _ _ g) all)

  rule_grows : {old new : Position} {layer : StatementLayer} → PositionGrows old new → StatementRule old layer →
      StatementRule new layer
  rule_grows g (t.declaration {stores = stores} stored) =
      t.declaration (initials_grow g.around (own_grows _ _ g.own) stores stored)
  rule_grows g (t.block_within b) = t.block_within (block_statement_grows (inside_grows _ _ g) b)
  rule_grows g t.empty = t.empty
  rule_grows g (t.value x) = t.value (some_value_grows g.around.grows x)
  rule_grows g (t.if_alone test body) =
      t.if_alone (condition_grows g.around.grows test) (statement_grows (inside_grows _ _ g) body)
  rule_grows g (t.if_else test one other) =
      t.if_else (condition_grows g.around.grows test)
      (statement_grows (inside_grows _ _ g) one)
      (statement_grows (inside_grows _ _ g) other)
  rule_grows g (t.while test body) =
      t.while (condition_grows g.around.grows test) (statement_grows (loop_grows _ _ g) body)
  rule_grows g (t.do_while body test) =
      t.do_while (statement_grows (loop_grows _ _ g) body) (condition_grows g.around.grows test)
  rule_grows g (t.for start test step body) =
      let first = start_grows g start in
      t.for first.1
      (optional_condition_grows first.2.around.grows _ test)
      (optional_value_grows first.2.around.grows _ step)
      (statement_grows (loop_grows _ _ first.2) body)
  rule_grows g (t.switch x is b labels) =
      t.switch (value_grows g.around.grows x) is (block_statement_grows (switch_grows _ _ _ g) b) labels
  rule_grows g (t.case is fits) = t.case (g.switch_type ∙ is) fits
  rule_grows g (t.default is) = t.default (g.switch_type ∙ is)
  rule_grows g (t.break may) = t.break (g.may_break may)
  rule_grows g (t.continue may) = t.continue (g.may_continue may)
  rule_grows g (t.return_nothing is) = t.return_nothing (g.result ∙ is)
  rule_grows {new = new} g (t.return_value {x = x} is typed) = t.return_value
      (rw g.result (g.around.grows.types.scalars _ is))
      (rw g.result (value_grows g.around.grows typed))

  statements_grow : {old new : Position} {all : List Statement} → PositionGrows old new → AreStatements old all →
      AreStatements new all
  statements_grow g t.no_statement = t.no_statement
  statements_grow g (t.one_more first rest) = t.one_more (statement_grows g first) (statements_grow g rest)
