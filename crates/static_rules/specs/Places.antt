-- Places (C11 6.5.2.1, 6.5.2.3, 6.5.3.2). `line` is that of the statement, for the tree; `here` that of the node, for faults.
use Rattle.std.specs.Prelude.{ℕ, ◌==◌, Bool, true, false, ◌&&◌, List, [], ◌∷◌, ◌++◌, length, Option, Some, None, is_some, Ok, if◌then◌else◌, slice_get, slice_set}
use Rattle.std.specs.Str.{bytes_eq}
use Rattle.c_tokens.specs.Names.{Name}
use Rattle.c_types.specs.declared.kinds.Member.{Member}
use Rattle.c_types.specs.Table.{Types, members}
use Rattle.c_tree.specs.declared.program.Variable.{Variable}
use Rattle.c_tree.specs.declared.values.Place.{Place, out-Place}
use Rattle.c_tree.specs.declared.values.Place.TheOpen.{Place-F}
use Rattle.c_tree.specs.declared.values.Place.TheVariants as p
use Rattle.c_tree.specs.declared.values.Value.TheVariants as v
use Rattle.static_rules.specs.declared.faults.CheckKind.TheVariants as why
use Rattle.static_rules.specs.declared.judged.Judged.{Judged}
use Rattle.static_rules.specs.declared.judged.Operand.{Operand}
use Rattle.static_rules.specs.declared.judged.Tree.{Tree}
use Rattle.static_rules.specs.declared.judged.Tree.TheVariants as tree
use Rattle.static_rules.specs.declared.plans.Indexing.{Indexing}
use Rattle.static_rules.specs.declared.plans.Indexing.TheVariants as indexing
use Rattle.static_rules.specs.declared.plans.Seen.{Seen}
use Rattle.well_typed.specs.Kinds.{is_whole, target, sized_target, is_aggregate, has_size}
use Rattle.well_typed.specs.Surroundings.{PlaceLayer, at}
use Rattle.static_rules.specs.Answers.{Answer, ◌>>=◌, fault, or_fault, or_mismatch}
use Rattle.static_rules.specs.Operands.{unknown, place, pointer_to, seen, some_if}
use Rattle.static_rules.specs.declared.states.State.{State}

-- ---- through pointers, whose targets have a size

abbrev pub dereferenced_by : ℕ → Operand → Option ℕ → Option Judged
dereferenced_by line x (Some to) = Some (place (p.Dereference (at line to) x.value) to)
dereferenced_by line x None = None

-- `*pointer` (C11 6.5.3.2p2)
unfoldable pub dereferenced : Types → ℕ → Operand → Option Judged
dereferenced types line x = dereferenced_by line x (sized_target types x.kind)

-- which operand of `[]` is the pointer: the other is a whole number (C11 6.5.2.1p1)
abbrev pub second_by : Option ℕ → Seen → Option Indexing
second_by (Some to) x = some_if (is_whole x.kind) (indexing.Second to)
second_by None x = None

abbrev pub first_by : Option ℕ → Seen → Option Indexing → Option Indexing
first_by (Some to) y otherwise = some_if (is_whole y.kind) (indexing.First to)
first_by None y otherwise = otherwise

unfoldable pub indexing_of : Types → Seen → Seen → Option Indexing
indexing_of types x y = first_by (sized_target types x.kind) y (second_by (sized_target types y.kind) x)

abbrev pub indexed_by : ℕ → Operand → Operand → Option Indexing → Option Judged
indexed_by line x y (Some (indexing.First to)) = Some (place (p.Index (at line to) x.value y.value) to)
indexed_by line x y (Some (indexing.Second to)) = Some (place (p.IndexFirst (at line to) x.value y.value) to)
indexed_by line x y None = None

-- `pointer[index]` and `index[pointer]`
unfoldable pub indexed : Types → ℕ → Operand → Operand → Option Judged
indexed types line x y = indexed_by line x y (indexing_of types (seen x) (seen y))

-- ---- members

abbrev pub member_named : List Member → Name → Option Member
member_named [] name = None
member_named (first ∷ rest) name = if bytes_eq first.name name then Some first else member_named rest name

-- The member of a complete struct or union; a name that it lacks is declared nowhere (C11 6.5.2.3p1).
unfoldable pub member : Types → ℕ → ℕ → Name → Answer Member
member types here kind name =
    if is_aggregate types kind && has_size types kind then or_fault why.Unknown here (member_named (members types kind) name)
    else fault why.TypeMismatch here

abbrev pub direct_by : ℕ → ℕ → Tree → Member → Answer Judged
direct_by line here (tree.Place inner) m = Ok (place (p.Member (at line m.kind) inner m.offset) m.kind)
direct_by line here (tree.Value x) m = fault why.NotAPlace here

-- `place.name`
unfoldable pub selected : Types → ℕ → ℕ → Judged → Name → Answer Judged
selected types line here j name = member types here j.kind name >>= λ m. direct_by line here j.tree m

-- `pointer->name`
unfoldable pub through : Types → ℕ → ℕ → Operand → Name → Answer Judged
through types line here x name =
    or_mismatch here (target types x.kind) >>= λ to. member types here to name >>= λ m.
    Ok (place (p.Arrow (at line m.kind) x.value m.offset) m.kind)

-- ---- addresses

abbrev pub addressed_at : List Variable → ℕ → Option Variable → List Variable
addressed_at variables number (Some x) = slice_set variables number (record x { addressed = true })
addressed_at variables number None = variables

abbrev pub addressed_by : List Variable → PlaceLayer → List Variable
addressed_by variables (Place-F.Variable a number) = addressed_at variables number (slice_get variables number)
addressed_by variables _ = variables

-- `&` directly before the name of a variable takes its address: it is no register then.
unfoldable pub addressed : List Variable → Place → List Variable
addressed variables q = addressed_by variables (out-Place q)

abbrev pub address_of : ℕ → Place → ℕ × State → Operand × State
address_of line q r = (unknown (v.Address (at line r.0) q) r.0, record r.1 { variables = addressed r.1.variables q })

abbrev pub address_by : ℕ → ℕ → State → ℕ → Tree → Answer (Operand × State)
address_by line here s kind (tree.Place q) = Ok (address_of line q (pointer_to s kind))
address_by line here s kind (tree.Value x) = fault why.NotAPlace here

-- `&place` (C11 6.5.3.2p1)
unfoldable pub address : ℕ → ℕ → State → Judged → Answer (Operand × State)
address line here s j = address_by line here s j.kind j.tree
