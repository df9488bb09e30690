-- Initialisers (C11 6.7.9). What does not fit outside braces belongs to the declaration, and so yields to faults behind
-- it; what does not fit in braces belongs to the innermost ones, behind all their parts.
use Rattle.std.specs.Prelude.{ℕ, zero, suc, ◌+◌, ◌==◌, nat_lt, Bool, true, false, ◌||◌, List, [], ◌∷◌, ◌++◌, length}
use Rattle.std.specs.Prelude.{Option, Some, None, Ok, if◌then◌else◌, slice_get}
use Rattle.c_grammar.specs.declared.phrases.Expression.{Expression}
use Rattle.c_grammar.specs.declared.statements.Initialiser.{Initialiser, out-Initialiser, Initialiser-F}
use Rattle.c_types.specs.declared.kinds.CType.{CType}
use Rattle.c_types.specs.declared.kinds.CType.TheVariants as c
use Rattle.c_types.specs.declared.kinds.Member.{Member}
use Rattle.c_types.specs.Table.{Types, kind_of, members}
use Rattle.static_rules.specs.declared.faults.CheckKind.{CheckKind}
use Rattle.static_rules.specs.declared.faults.CheckKind.TheVariants as why
use Rattle.static_rules.specs.declared.faults.Feature.TheVariants as feature
use Rattle.static_rules.specs.declared.judged.Judged.{Judged}
use Rattle.static_rules.specs.declared.judged.Operand.{Operand}
use Rattle.static_rules.specs.declared.judged.Tree.{Tree}
use Rattle.static_rules.specs.declared.judged.Tree.TheVariants as tree
use Rattle.static_rules.specs.Answers.{Answer, ◌>>=◌, fault, all}
use Rattle.static_rules.specs.declared.states.State.{State}
use Rattle.declaration_rules.specs.Readers.{too_deep}
use Rattle.declaration_rules.specs.Stores.{kind_behind, Scalar, Copied, Bytes, Found}
use Rattle.declaration_rules.specs.Stores.{nothing, unfit, stored, then_found}
use Rattle.declaration_rules.specs.declared.stores.Step.{Step}
use Rattle.declaration_rules.specs.declared.stores.Step.TheVariants as step_to
use Rattle.declaration_rules.specs.declared.stores.Unfit.{Unfit}
use Rattle.declaration_rules.specs.declared.stores.Unfit.TheVariants as unfits
use Rattle.static_rules.specs.declared.states.Where.{Where}

-- ---- what fits

-- the character types (C11 6.7.9p14)
abbrev pub is_character : ℕ → Bool
is_character kind = (kind == 2) || (kind == 3)

abbrev pub copied_from : Unfit → List Step → Tree → Found
copied_from wrong path (tree.Place place) = stored path (Copied place)
copied_from wrong path (tree.Value value) = unfit wrong

-- A struct or a union takes a place of its own type (C11 6.7.9p13).
abbrev pub copied : Unfit → List Step → ℕ → Judged → Found
copied wrong path kind judged = if kind == judged.kind then copied_from wrong path judged.tree else unfit wrong

-- An array takes no other array, also not one of its own type.
abbrev pub array_from : Unfit → Tree → Unfit
array_from wrong (tree.Place place) = unfits.Mismatch
array_from wrong (tree.Value value) = wrong

abbrev pub not_an_array : Unfit → ℕ → Judged → Found
not_an_array wrong kind judged = unfit (if kind == judged.kind then array_from wrong judged.tree else wrong)

abbrev pub scalar : List Step → Option Operand → Found
scalar path (Some operand) = stored path (Scalar operand.value)
scalar path None = unfit unfits.Mismatch

-- A string fits with or without its zero byte, which is stored where there is room for it (C11 6.7.9p14).
unfoldable pub string_bytes : Unfit → List Step → ℕ → List ℕ → Found
string_bytes wrong path count bytes =
    if nat_lt count (length bytes) then unfit wrong
    else if nat_lt (length bytes) count then stored path (Bytes (bytes ++ 0 ∷ [])) else stored path (Bytes bytes)

-- ---- the parts of an object that have initialisers of their own in braces (C11 6.7.9p17)

abbrev pub to_member : Option Member → Option Step
to_member (Some member) = Some (step_to.Member member.kind member.offset)
to_member None = None

-- the part of this number: an element, a member of a struct, and the first member of a union
abbrev pub part_by : Types → ℕ → ℕ → Option CType → Option Step
part_by types kind n (Some (c.Array of count)) = if nat_lt n count then Some (step_to.Element of n) else None
part_by types kind n (Some (c.Struct tag)) = to_member (slice_get (members types kind) n)
part_by types kind n (Some (c.Union tag)) = if n == 0 then to_member (slice_get (members types kind) n) else None
part_by types kind n other = None

unfoldable pub part_of : ℕ → Types → ℕ → Option Step
part_of kind types n = part_by types kind n (kind_of types kind)

-- each element, of an array without a size
abbrev pub element_of : ℕ → Types → ℕ → Option Step
element_of of types n = Some (step_to.Element of n)

-- what an initialiser in braces may be for (C11 6.7.9p16); one for a scalar has none here
abbrev pub takes_braces_by : Option CType → Bool
takes_braces_by (Some (c.Array of count)) = true
takes_braces_by (Some (c.Struct tag)) = true
takes_braces_by (Some (c.Union tag)) = true
takes_braces_by other = false

abbrev pub kind_of_unfit : Unfit → CheckKind
kind_of_unfit unfits.Mismatch = why.TypeMismatch
kind_of_unfit unfits.Elided = why.LeftOut feature.BraceElision

-- what does not fit becomes a fault where its braces end
abbrev pub in_braces_by : ℕ → Option Unfit → Found × State → Answer (Found × State)
in_braces_by here (Some reason) r = fault (kind_of_unfit reason) here
in_braces_by here None r = Ok r

abbrev pub in_braces : ℕ → Found × State → Answer (Found × State)
in_braces here r = in_braces_by here r.0.unfit r

module _ (expression : Where → State → Expression → Answer (Judged × State)) where
  -- ---- an initialiser where none may be: it is read for its own faults

  module _ (inner : Where → State → Initialiser → Answer State) where
    abbrev pub passed_at : Where → State → Initialiser-F Initialiser → Answer State
    passed_at w s (Initialiser-F.Value value) = expression w s value >>= λ r. Ok r.1
    passed_at w s (Initialiser-F.Braces place parts) = all (inner w) s parts

    unfoldable pub passed_by : Where → State → Initialiser → Answer State
    passed_by w s one = passed_at w s (out-Initialiser one)

  unfoldable pub passed : ℕ → Where → State → Initialiser → Answer State
  passed zero w s one = too_deep
  passed (suc depth) w s one = passed_by (passed depth) w s one

  module _ (valued : ℕ → State → Judged → Operand × State) (converted : Types → ℕ → ℕ → Operand → Option Operand)
      (literal : Where → State → Expression → Option (Answer (List ℕ × State))) where
    -- ---- without braces: `wrong` is what another thing than braces is for an array, struct or union

    abbrev pub converted_scalar : Where → List Step → ℕ → Operand × State → Found × State
    converted_scalar w path kind r = (scalar path (converted r.1.types w.line kind r.0), r.1)

    -- A scalar takes what may be assigned to it (C11 6.7.9p11).
    abbrev pub scalar_value : Where → State → List Step → ℕ → Expression → Answer (Found × State)
    scalar_value w s path kind value =
        expression w s value >>= λ r. Ok (converted_scalar w path kind (valued w.line r.1 r.0))

    abbrev pub aggregate_value : Unfit → Where → State → List Step → ℕ → Expression → Answer (Found × State)
    aggregate_value wrong w s path kind value = expression w s value >>= λ r. Ok (copied wrong path kind r.0, r.1)

    abbrev pub no_string : Unfit → Where → State → ℕ → Expression → Answer (Found × State)
    no_string wrong w s kind value = expression w s value >>= λ r. Ok (not_an_array wrong kind r.0, r.1)

    abbrev pub string_or : Unfit → List Step → ℕ → Option (Answer (List ℕ × State)) → Answer (Found × State) →
        Answer (Found × State)
    string_or wrong path count (Some string) otherwise = string >>= λ r. Ok (string_bytes wrong path count r.0, r.1)
    string_or wrong path count None otherwise = otherwise

    -- An array of characters takes string literals.
    abbrev pub array_value : Unfit → Where → State → List Step → ℕ → ℕ → ℕ → Expression → Answer (Found × State)
    array_value wrong w s path kind of count value =
        if is_character of then string_or wrong path count (literal w s value) (no_string wrong w s kind value)
        else no_string wrong w s kind value

    abbrev pub value_by : Unfit → Where → State → List Step → ℕ → Expression → Option CType → Answer (Found × State)
    value_by wrong w s path kind value (Some (c.Array of count)) = array_value wrong w s path kind of count value
    value_by wrong w s path kind value (Some (c.Struct tag)) = aggregate_value wrong w s path kind value
    value_by wrong w s path kind value (Some (c.Union tag)) = aggregate_value wrong w s path kind value
    -- nothing initialises a flexible member
    value_by wrong w s path kind value (Some (c.Flexible of)) = expression w s value >>= λ r. Ok (unfit unfits.Mismatch, r.1)
    value_by wrong w s path kind value other = scalar_value w s path kind value

    -- ---- in braces

    module _ (inner : Where → State → List Step → ℕ → Initialiser → Answer (Found × State))
        (pass : Where → State → Initialiser → Answer State)
      where
        -- one more than there are parts does not fit
        abbrev pub part_read : Where → State → List Step → Initialiser → Option Step → Answer (Found × State)
        part_read w s path one (Some step) = inner w s (path ++ step ∷ []) (kind_behind step) one
        part_read w s path one None = pass w s one >>= λ after. Ok (unfit unfits.Mismatch, after)

        abbrev pub parts : (Types → ℕ → Option Step) → Where → State → List Step → ℕ → List Initialiser →
            Answer (Found × State)
        parts part w s path n [] = Ok (nothing, s)
        parts part w s path n (one ∷ rest) =
            part_read w s path one (part s.types n) >>= λ first. parts part w first.1 path (n + 1) rest >>= λ more.
            Ok (then_found first.0 more.0, more.1)

        abbrev pub braces : ℕ → Where → State → List Step → ℕ → List Initialiser → Answer (Found × State)
        braces here w s path kind list =
            if takes_braces_by (kind_of s.types kind) then parts (part_of kind) w s path 0 list >>= in_braces here
            else (all (pass w) s list >>= λ after. fault why.TypeMismatch here)

        abbrev pub initial_at : Unfit → Where → State → List Step → ℕ → Initialiser-F Initialiser → Answer (Found × State)
        initial_at wrong w s path kind (Initialiser-F.Value value) =
            value_by wrong w s path kind value (kind_of s.types kind)
        initial_at wrong w s path kind (Initialiser-F.Braces place list) = braces place.line w s path kind list

        unfoldable pub initial_by : Unfit → Where → State → List Step → ℕ → Initialiser → Answer (Found × State)
        initial_by wrong w s path kind one = initial_at wrong w s path kind (out-Initialiser one)

    -- What an object of this type is initialised with: `path` leads to it.
    unfoldable pub initial : ℕ → Unfit → Where → State → List Step → ℕ → Initialiser → Answer (Found × State)
    initial zero wrong w s path kind one = too_deep
    initial (suc depth) wrong w s path kind one =
        initial_by (initial depth unfits.Elided) (passed depth) wrong w s path kind one

    -- ---- an array without a size, which takes it from its initialiser (C11 6.7.9p22)

    abbrev pub counted_string : Option (Answer (List ℕ × State)) → Answer ((Option ℕ × Found) × State) →
        Answer ((Option ℕ × Found) × State)
    counted_string (Some string) otherwise =
        string >>= λ r. Ok ((Some (length r.0 + 1), string_bytes unfits.Mismatch [] (length r.0 + 1) r.0), r.1)
    counted_string None otherwise = otherwise

    abbrev pub not_counted : Where → State → Expression → Answer ((Option ℕ × Found) × State)
    not_counted w s value = expression w s value >>= λ r. Ok ((None, unfit unfits.Mismatch), r.1)

    abbrev pub counted_value : Where → State → ℕ → Expression → Answer ((Option ℕ × Found) × State)
    counted_value w s of value =
        if is_character of then counted_string (literal w s value) (not_counted w s value) else not_counted w s value

    -- braces give as many elements as they have parts
    abbrev pub counted_braces : ℕ → ℕ → Where → State → ℕ → List Initialiser → Answer ((Option ℕ × Found) × State)
    counted_braces depth here w s of list =
        parts (initial depth unfits.Elided) (passed depth) (element_of of) w s [] 0 list >>= in_braces here >>= λ r.
        Ok ((Some (length list), r.0), r.1)

    abbrev pub counted_at : ℕ → Where → State → ℕ → Initialiser-F Initialiser → Answer ((Option ℕ × Found) × State)
    counted_at depth w s of (Initialiser-F.Value value) = counted_value w s of value
    counted_at depth w s of (Initialiser-F.Braces place list) = counted_braces depth place.line w s of list

    -- How many elements such an array takes, if it takes any, and what is stored in it.
    unfoldable pub counted : ℕ → Where → State → ℕ → Initialiser → Answer ((Option ℕ × Found) × State)
    counted depth w s of one = counted_at depth w s of (out-Initialiser one)
