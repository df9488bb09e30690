-- The names that declarators declare, and what is kept of the members of one list.
use Rattle.std.specs.Prelude.{◌≡◌, ℕ, Bool, List, [], Option, Some, None, Vec}
use Rattle.std.specs.declared.alloc.Global.{Global}
use Rattle.std.specs.BTreeSet.{BTreeSet, contains_by}
use Rattle.std.specs.Cmp.Lexicographic.{slice_cmp}
use Rattle.std.specs.Ordering.{nat_cmp}
use Rattle.c_tokens.specs.Names.{Name}
use Rattle.c_types.specs.declared.kinds.Field.{Field}
use Rattle.c_types.specs.Adding.{is_named}
use Rattle.static_rules.specs.Source.{Source, spelled}
use Rattle.declaration_rules.specs.declared.parts.DeclaredName.{DeclaredName}

-- how the name of a declarator is spelled, which is empty where it has none
abbrev pub spelling_of : Source → Option DeclaredName → Name
spelling_of source (Some name) = spelled source name.number
spelling_of source None = []

-- ---- the names of members

abbrev pub has_name : BTreeSet (Vec ℕ Global) → List ℕ → Bool
has_name names name = contains_by (λ k. slice_cmp nat_cmp name k.items) names

-- the set has the names of these members
abbrev pub HasNames : BTreeSet (Vec ℕ Global) → List Field → Type 0
HasNames names fields = (name : List ℕ) → has_name names name ≡ is_named name fields
