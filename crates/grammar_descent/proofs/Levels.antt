-- How tightly a token goes on after an expression.
use Rattle.std.proofs.Common.{◌≡◌, ◌≢◌, subst, ℕ, ◌+◌, ◌≤◌, Bool, true, false, cond, Option, Some, None, refl, arith}
use Rattle.std.proofs.lemmas.Bool.{lt-ltb, ltb-true}
use Rattle.c_tokens.specs.declared.kind.Mark.{Mark}
use Rattle.c_tokens.specs.declared.kind.Mark.TheVariants as mark
use Rattle.c_tokens.specs.declared.kind.Kind.{Kind}
use Rattle.c_tokens.specs.declared.kind.Kind.TheVariants as k
use Rattle.c_grammar.specs.declared.words.Binary.{Binary}
use Rattle.c_grammar.specs.declared.words.Binary.TheVariants as binary
use Rattle.c_grammar.specs.Operators.{rank}
use Rattle.grammar_descent.specs.declared.growing.Growth.{Growth}
use Rattle.grammar_descent.specs.declared.growing.Growth.TheVariants as growth
use Rattle.grammar_descent.specs.Follow.{mark_level, kind_level, is_string, is_below, ends}
use Rattle.grammar_descent.specs.ExpressionSteps.{growth_by_mark, growth_by, growth_level}

-- one more than the level of what it makes, and 0 where nothing is made
abbrev pub binds_by : Option Growth → ℕ
binds_by (Some by) = growth_level by + 1
binds_by None = 0

-- one more than that where it groups to the right, so that an operand at its own level may stand before it
abbrev pub ties_by : Option Growth → ℕ
ties_by (Some growth.Conditional) = 4
ties_by (Some (growth.Assign op)) = 3
ties_by (Some growth.Comma) = 2
ties_by (Some growth.Index) = 16
ties_by (Some growth.Call) = 16
ties_by (Some (growth.Select how)) = 16
ties_by (Some (growth.Postfix op)) = 16
ties_by (Some (growth.Binary op)) = rank op + 1
ties_by None = 0

unfoldable pub binds : Option Kind → ℕ
binds kind = binds_by (growth_by kind)

unfoldable pub ties : Option Kind → ℕ
ties kind = ties_by (growth_by kind)

pub rank_within : (op : Binary) → (3 ≤ rank op) × (rank op ≤ 12)
rank_within binary.LogicalOr = (omega arith, omega arith)
rank_within _ = (omega arith, omega arith)

-- The levels of the tokens: none goes on with casts or unary expressions, and those that group to the right are looser than the others.
pub record Levels (binds ties : ℕ) : Type 0 where
  pub tight : binds ≤ ties
  pub loose : ties ≤ binds + 1
  pub operand : ties ≤ 15 → binds ≤ 13
  pub otherwise : ties ≤ 3 → binds ≤ 2
  pub value : ties ≤ 2 → binds ≤ 1
  pub none : ties ≤ 1 → binds ≤ 0

levels_by : (by : Option Growth) → Levels (binds_by by) (ties_by by)
levels_by None = record { tight = omega arith; loose = omega arith; operand = λ h. omega arith; otherwise = λ h. omega arith; value = λ h. omega arith; none = λ h. omega arith }
levels_by (Some (growth.Binary op)) =
    let r = rank_within op in
    record { tight = omega arith; loose = omega arith; operand = λ h. omega arith; otherwise = λ h. omega arith; value = λ h. omega arith; none = λ h. omega arith }
levels_by (Some growth.Index) = record { tight = omega arith; loose = omega arith; operand = λ h. omega arith; otherwise = λ h. omega arith; value = λ h. omega arith; none = λ h. omega arith }
levels_by (Some _) = record { tight = omega arith; loose = omega arith; operand = λ h. omega arith; otherwise = λ h. omega arith; value = λ h. omega arith; none = λ h. omega arith }

pub levels : (kind : Option Kind) → Levels (binds kind) (ties kind)
unfolding binds ties
levels kind = levels_by (growth_by kind)

-- ---- where a phrase ends

gives_by : Option Growth → Option ℕ
gives_by (Some by) = Some (growth_level by)
gives_by None = None

mark_level-growth : (m : Mark) → mark_level m ≡ gives_by (growth_by_mark m)
unfolding gives_by
mark_level-growth mark.Comma = refl
mark_level-growth _ = refl

kind_level-growth : (kind : Option Kind) → kind_level kind ≡ gives_by (growth_by kind)
unfolding gives_by
kind_level-growth (Some (k.Mark m)) = mark_level-growth m
kind_level-growth (Some k.Name) = refl
kind_level-growth (Some _) = refl
kind_level-growth None = refl

below_from : (by : Option Growth) (level : ℕ) → binds_by by ≤ level → is_below (gives_by by) level ≡ true
unfolding gives_by
below_from (Some by) level h = lt-ltb _ _ (omega arith)
below_from None level h = refl

from_below : (by : Option Growth) (level : ℕ) → is_below (gives_by by) level ≡ true → binds_by by ≤ level
unfolding gives_by
from_below (Some by) level h = let low = ltb-true _ _ h in omega arith
from_below None level h = omega arith

pub ends_from : (level : ℕ) (kind : Option Kind) → is_string kind ≡ false → binds kind ≤ level → ends level kind ≡ true
unfolding binds
ends_from level kind other h = rw (other, kind_level-growth kind) (below_from (growth_by kind) level h)

pub no_string_from : (level : ℕ) (kind : Option Kind) → ends level kind ≡ true → is_string kind ≡ false
no_string_from level (Some k.Str) h = absurd cc
no_string_from level (Some _) h = refl
no_string_from level None h = refl

pub binds_from : (level : ℕ) (kind : Option Kind) → ends level kind ≡ true → binds kind ≤ level
unfolding binds
binds_from level kind h = from_below (growth_by kind) level (by_test (is_string kind) (kind_level kind) (kind_level-growth kind) h)
  where
    by_test : (b : Bool) (t : Option ℕ) → t ≡ gives_by (growth_by kind) → cond b false (is_below t level) ≡ true → is_below (gives_by (growth_by kind)) level ≡ true
    by_test true t is h = absurd cc
    by_test false t is h = rw (← is) h

pub no_comma : (kind : Option Kind) → binds kind ≤ 0 → kind ≢ Some (k.Mark mark.Comma)
unfolding binds
no_comma kind h is = by_kind kind is h
  where
    by_kind : (kind : Option Kind) → kind ≡ Some (k.Mark mark.Comma) → binds_by (growth_by kind) ≤ 0 → ⊥
    by_kind kind is h = let low : 1 ≤ 0 = subst (λ (kind : Option Kind). binds_by (growth_by kind) ≤ 0) is h in omega arith

-- what may stand after an expression of this level that was reached, though it may go on with it
pub record Allows (level : ℕ) (kind : Option Kind) : Type 0 where
  pub no_string : is_string kind ≡ false
  pub tied : ties kind ≤ level + 1

pub allows_from : (level : ℕ) (kind : Option Kind) → ends level kind ≡ true → Allows level kind
allows_from level kind h =
    let l = levels kind in
    let loose = l.loose in
    let low = binds_from level kind h in
    record { no_string = no_string_from level kind h; tied = omega arith }

growth_no_string : (kind : Option Kind) (by : Growth) → growth_by kind ≡ Some by → is_string kind ≡ false
growth_no_string (Some k.Str) by h = absurd cc
growth_no_string (Some _) by h = refl
growth_no_string None by h = refl

pub allows_growth : (level : ℕ) (kind : Option Kind) (by : Growth) → growth_by kind ≡ Some by → ties_by (Some by) ≤ level + 1 → Allows level kind
unfolding ties
allows_growth level kind by is low = record { no_string = growth_no_string kind by is; tied = rw is low }
