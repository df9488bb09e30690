-- Declarations (C11 6.7): what their names mean behind each declarator, and what their initialisers store.
use Rattle.std.specs.Prelude.{ℕ, ◌+◌, nat_lt, Bool, true, false, ◌&&◌, ◌||◌, not, List, [], ◌∷◌, ◌++◌, Option, Some}
use Rattle.std.specs.Prelude.{None, is_some, Ok, if◌then◌else◌}
use Rattle.c_grammar.specs.declared.limits.TheConstants.{MAX_DEPTH}
use Rattle.c_grammar.specs.declared.phrases.Expression.{Expression}
use Rattle.c_grammar.specs.declared.phrases.Specs.{Specs, out-Specs}
use Rattle.c_grammar.specs.declared.statements.Initialiser.{Initialiser}
use Rattle.c_grammar.specs.declared.statements.InitDeclarator.{InitDeclarator}
use Rattle.c_grammar.specs.declared.statements.Declaration.{Declaration}
use Rattle.c_types.specs.Table.{Types}
use Rattle.c_tree.specs.declared.limits.TheConstants.{MAX_INITIALISED_BYTES}
use Rattle.c_tree.specs.declared.statements.Initial.{Initial}
use Rattle.static_rules.specs.declared.faults.CheckKind.TheVariants as why
use Rattle.static_rules.specs.declared.judged.Judged.{Judged}
use Rattle.static_rules.specs.declared.judged.Operand.{Operand}
use Rattle.static_rules.specs.Answers.{Answer, ◌>>=◌, fault_if, or_mismatch, each}
use Rattle.static_rules.specs.Source.{Source}
use Rattle.static_rules.specs.Operands.{in_table}
use Rattle.static_rules.specs.States.{on_line, with_symbol}
use Rattle.static_rules.specs.declared.states.State.{State}
use Rattle.declaration_rules.specs.Parts.{declares_function, made}
use Rattle.declaration_rules.specs.Readers.{Readers, declarator_line}
use Rattle.declaration_rules.specs.declared.parts.Around.{Around}
use Rattle.declaration_rules.specs.declared.specifiers.Setting.TheVariants as specs_of
use Rattle.declaration_rules.specs.declared.declarations.Introduced.{Introduced}
use Rattle.declaration_rules.specs.Declarators.{is_taken}
use Rattle.declaration_rules.specs.Storage.{says_typedef, says_extern, is_tag_alone}
use Rattle.declaration_rules.specs.Initialisers.{passed}
use Rattle.declaration_rules.specs.Agreement.{signature_of, function}
use Rattle.declaration_rules.specs.Objects.{Outcome, no_outcome, mismatched, variable, object}
use Rattle.static_rules.specs.declared.states.Made.TheVariants as m
use Rattle.static_rules.specs.declared.states.Made.{Made}
use Rattle.static_rules.specs.declared.states.Symbol.TheVariants as means
use Rattle.static_rules.specs.declared.states.Where.{Where}

-- ---- typedefs (C11 6.7.8)

abbrev pub typedef_meaning : Made → ℕ → Made
typedef_meaning (m.Function signature) kind = m.Function signature
typedef_meaning (m.Known n) kind = m.Known kind
typedef_meaning (m.Array of count) kind = m.Known kind
typedef_meaning (m.Open of) kind = m.Known kind

abbrev pub with_typedef : Introduced → Made × State → State
with_typedef d (type, s) = let r = in_table s type in with_symbol r.1 d.name (means.Typedef (typedef_meaning type r.0))

-- ---- the end of a declaration

abbrev pub any_mismatch : List Outcome → Bool
any_mismatch [] = false
any_mismatch (first ∷ rest) = first.mismatch || any_mismatch rest

abbrev pub all_stores : List Outcome → List Initial
all_stores [] = []
all_stores (first ∷ rest) = first.initial ++ all_stores rest

abbrev pub all_bytes : List Outcome → ℕ
all_bytes [] = 0
all_bytes (first ∷ rest) = first.bytes + all_bytes rest

-- The objects of the whole text that are initialised and the string literals have at most so many bytes together.
unfoldable pub with_bytes : ℕ → State → ℕ → Answer State
with_bytes here s bytes =
    fault_if (nat_lt MAX_INITIALISED_BYTES (s.bytes + bytes)) why.Limit here >>= λ fits.
    Ok (record s { bytes = s.bytes + bytes })

-- What does not fit outside braces is a fault of the declaration, behind its last declarator. Its objects count here.
unfoldable pub closed_declaration : ℕ → List Outcome × State → Answer (List Initial × State)
closed_declaration here (outcomes, s) =
    fault_if (any_mismatch outcomes) why.TypeMismatch here >>= λ fine.
    with_bytes here s (all_bytes outcomes) >>= λ after.
    Ok (all_stores outcomes, after)

abbrev pub is_empty : List InitDeclarator → Bool
is_empty [] = true
is_empty (first ∷ rest) = false

-- the form `struct NAME;` (C11 6.7.2.3p7)
abbrev pub declares_tag_alone : Declaration → Bool
declares_tag_alone d = is_empty d.declarators && is_tag_alone (out-Specs d.specs).words

module _ (source : Source) (readers : Readers)
    (valued : ℕ → State → Judged → Operand × State) (converted : Types → ℕ → ℕ → Operand → Option Operand)
    (literal : Where → State → Expression → Option (Answer (List ℕ × State)))
    -- the names of the functions that the text defines
    (defined : List ℕ)
  where
    -- ---- an initialiser where none may be (C11 6.7.9p3): its own faults come first

    abbrev pub no_initialiser : Where → Option Initialiser → State → Answer (Outcome × State)
    no_initialiser w (Some one) s = passed readers.expression MAX_DEPTH w s one >>= λ after. Ok (mismatched, after)
    no_initialiser w None s = Ok (no_outcome, s)

    -- ---- what a declarator declares

    unfoldable pub typedef : Where → State → Introduced → Option Initialiser → Answer (Made × State) →
        Answer (Outcome × State)
    typedef w s d value type =
        fault_if (is_taken source w s d.name) why.Redefined d.here >>= λ new. type >>= λ found.
        no_initialiser w value (with_typedef d found)

    abbrev pub declared_function : Where → State → Introduced → Option Initialiser → Answer (Made × State) →
        Answer (Outcome × State)
    declared_function w s d value type =
        function source defined w s d (type >>= signature_of d.here) >>= λ r. no_initialiser w value r.1

    -- One of file scope is defined where it is not `extern` or has an initialiser (C11 6.9.2p1).
    abbrev pub global : Where → State → Bool → Introduced → Option Initialiser → Answer (Made × State) →
        Answer (Outcome × State)
    global w s is_extern d value type =
        object source readers valued converted literal w s (not is_extern || is_some value) d value type

    -- In a block `extern` declares an object of the whole text, which has no initialiser there (C11 6.7.9p5).
    abbrev pub extern_object : Where → State → Introduced → Option Initialiser → Answer (Made × State) →
        Answer (Outcome × State)
    extern_object w s d value type =
        object source readers valued converted literal w s false d None type >>= λ r. no_initialiser w value r.1

    abbrev pub declared_object : Where → State → Bool → Introduced → Option Initialiser → Answer (Made × State) →
        Answer (Outcome × State)
    declared_object w s is_extern d value type =
        if not w.in_function then global w s is_extern d value type
        else if is_extern then extern_object w s d value type
        else variable source readers valued converted literal w s d value type

    abbrev pub declared_one : Where → State → Specs → Introduced → Option Initialiser → (is_function : Bool) →
        Answer (Made × State) → Answer (Outcome × State)
    declared_one w s specs d value is_function type =
        if says_typedef specs then typedef w s d value type
        else if is_function then declared_function w s d value type
        else declared_object w s (says_extern specs) d value type

    -- A declarator is read first. Whether its name may be declared there is told before its type, and its type before its
    -- value.
    abbrev pub introduced : Where → Specs → Made → InitDeclarator → Around × State → Answer (Outcome × State)
    introduced w specs base one (a, s) =
        or_mismatch one.place.line a.name >>= λ name.
        declared_one w s specs
        (record { name = name.number; here = declarator_line one.place.line one.declarator })
        one.value
        (declares_function a.parts base) (made s a.parts base)

    -- `declarator (= init)?`
    unfoldable pub init_declarator : Where → Specs → Made → State → InitDeclarator → Answer (Outcome × State)
    init_declarator w specs base s one = readers.declarator w s one.declarator >>= λ a. introduced w specs base one a

    abbrev pub declaration_of : Where → State → Declaration → Answer (List Initial × State)
    declaration_of w s d =
        readers.specs (specs_of.Declaration (declares_tag_alone d)) w s d.specs >>= λ base.
        each (init_declarator w d.specs base.0) base.1 d.declarators >>= λ outcomes.
        closed_declaration d.place.line outcomes

    -- A declaration: the stores in the variables that it declares.
    unfoldable pub declaration : Where → State → Declaration → Answer (List Initial × State)
    declaration w s d = declaration_of (on_line w d.place.line) s d
