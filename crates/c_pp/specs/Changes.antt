-- What a directive changes in the table of macros.
use Rattle.std.specs.Prelude.{◌≡◌, ℕ, ◌+◌, false, ◌⊎◌, List, length, map, drop, Option, None, slice_get, slice_set}
use Rattle.c_tokens.specs.declared.token.Token.{Token}
use Rattle.c_pp.specs.declared.marks.Marks.{Marks}
use Rattle.c_pp.specs.declared.span.Span.{Span}
use Rattle.c_pp.specs.declared.table.Table.{Table}
use Rattle.c_tokens.specs.Names.{Text, Name}
use Rattle.c_pp.specs.Directives.{Definition, IsLine, Obeys}
use Rattle.c_pp.specs.Macros.{Macros, changed}
use Rattle.c_pp.specs.Marked.{held, marks_of, met_of, is_met}
use Rattle.c_pp.specs.Walks.{IsSeen, Knows, AreClosed, Covers}

-- nothing is known of any macro, and no name is met
pub record IsForgotten (old new : Marks) : Type 0 where
  pub marks : marks_of new ≡ map (λ _. None) (marks_of old)
  pub met : met_of new ≡ map (λ _. false) (met_of old)

-- what is known stays, since the name was not met, or was no macro and is none
pub record IsKept (old new : Marks) (number : ℕ) (before after : Option Span) : Type 0 where
  pub marks : marks_of new ≡ marks_of old
  pub met : met_of new ≡ met_of old
  pub apart : (is_met (met_of old) number ≡ false) ⊎ ((before ≡ None) × (after ≡ None))

-- the number has this body, and what is known is forgotten or stays
pub record IsChanged (old new : Table) (number : ℕ) (body : Option Span) : Type 0 where
  pub bodies : new.bodies.items ≡ slice_set old.bodies.items number body
  pub marks : IsForgotten old.marks new.marks ⊎ IsKept old.marks new.marks number (held (slice_get old.bodies.items number)) body

-- these macros follow on those, and the tables on each other
pub record IsFollowed (text : Text) (macros next : Macros) (name : ℕ → Name) (tokens : List Token) (numbers : List (Option ℕ)) (old new : Table) : Type 0 where
  pub seen : IsSeen text next name tokens numbers new.bodies.items
  pub knows : length (marks_of old.marks) ≡ length old.bodies.items → AreClosed (marks_of old.marks) → Covers tokens numbers old.bodies.items (marks_of old.marks) (met_of old.marks) →
      (made : List Token) → Knows text macros name (marks_of old.marks) made → Knows text next name (marks_of new.marks) made
  pub closed : AreClosed (marks_of old.marks) → AreClosed (marks_of new.marks)
  pub covers : Covers tokens numbers old.bodies.items (marks_of old.marks) (met_of old.marks) →
      Covers tokens numbers new.bodies.items (marks_of new.marks) (met_of new.marks)

-- the directive at this place was obeyed, and the next line begins at `end`
pub record IsObeyed (text : Text) (macros : Macros) (name : ℕ → Name) (tokens : List Token) (numbers : List (Option ℕ)) (old new : Table) (at end : ℕ) : Type 0 where
  pub words : List Token
  pub change : Option Definition
  pub line : IsLine (drop (at + 1) tokens) words (drop end tokens)
  pub obeys : Obeys text words change
  pub followed : IsFollowed text macros (changed change macros) name tokens numbers old new
