-- Specifiers (C11 6.7.2): the type that they hold. A tag is declared where it stands first, and completed behind its
-- members.
use Rattle.std.specs.Prelude.{ℕ, ℤ, pos, ◌+ℤ◌, Bool, true, false, ◌&&◌, ◌||◌, not, List, [], ◌∷◌, ◌++◌, Option, Some}
use Rattle.std.specs.Prelude.{None, Ok, if◌then◌else◌}
use Rattle.c_tokens.specs.Names.{Name}
use Rattle.c_grammar.specs.declared.words.Aggregate.{Aggregate}
use Rattle.c_grammar.specs.declared.words.Aggregate.TheVariants as aggregate
use Rattle.c_grammar.specs.declared.words.BasicWord.{BasicWord}
use Rattle.c_grammar.specs.declared.words.BasicWord.TheVariants as word
use Rattle.c_grammar.specs.declared.words.Storage.{Storage}
use Rattle.c_grammar.specs.declared.phrases.Expression.{Expression}
use Rattle.c_grammar.specs.declared.phrases.Declarator.{Declarator}
use Rattle.c_grammar.specs.declared.phrases.Declarator.TheOpen.{Specifier-F}
use Rattle.c_grammar.specs.declared.phrases.Specifier.{Specifier, out-Specifier}
use Rattle.c_grammar.specs.declared.phrases.Member.{Member, out-Member}
use Rattle.c_grammar.specs.declared.phrases.Enumerator.{Enumerator, out-Enumerator}
use Rattle.c_grammar.specs.declared.phrases.Specs.{Specs, out-Specs}
use Rattle.c_types.specs.declared.kinds.Field.{Field}
use Rattle.c_types.specs.Table.{Types}
use Rattle.c_types.specs.Adding.{added_tag, completed, is_named, is_as}
use Rattle.well_typed.specs.Kinds.{has_size, wrapped}
use Rattle.static_rules.specs.declared.faults.CheckKind.{CheckKind}
use Rattle.static_rules.specs.declared.faults.CheckKind.TheVariants as why
use Rattle.static_rules.specs.Answers.{Answer, ◌>>=◌, fault, fault_if, or_bad_type, all}
use Rattle.static_rules.specs.Layers.{SpecifierLayer}
use Rattle.static_rules.specs.Predefined.{declared}
use Rattle.static_rules.specs.Source.{Source, name_at, spelled}
use Rattle.static_rules.specs.Lines.{line_of}
use Rattle.static_rules.specs.Operands.{in_table}
use Rattle.static_rules.specs.States.{symbol_of, tag_of, tag_here, with_tag}
use Rattle.static_rules.specs.declared.states.State.{State}
use Rattle.static_rules.specs.States.{with_types}
use Rattle.declaration_rules.specs.Parts.{made}
use Rattle.declaration_rules.specs.Readers.{Readers, declarator_line}
use Rattle.declaration_rules.specs.declared.parts.Around.{Around}
use Rattle.declaration_rules.specs.declared.parts.DeclaredName.{DeclaredName}
use Rattle.declaration_rules.specs.declared.specifiers.Opened.{Opened}
use Rattle.declaration_rules.specs.declared.specifiers.Setting.{Setting}
use Rattle.declaration_rules.specs.declared.specifiers.Setting.TheVariants as specs_of
use Rattle.declaration_rules.specs.Storage.{has_effect, storage_fault}
use Rattle.static_rules.specs.declared.states.Made.TheVariants as m
use Rattle.static_rules.specs.declared.states.Made.{Made}
use Rattle.static_rules.specs.declared.states.Symbol.TheVariants as means
use Rattle.static_rules.specs.declared.states.Symbol.{Symbol}
use Rattle.static_rules.specs.declared.states.TagSymbol.TheVariants as tagged
use Rattle.static_rules.specs.declared.states.TagSymbol.{TagSymbol}
use Rattle.static_rules.specs.declared.states.Where.{Where}

-- ---- the basic types

abbrev pub is_void : BasicWord → Bool
is_void word.Void = true
is_void _ = false

abbrev pub is_char : BasicWord → Bool
is_char word.Char = true
is_char _ = false

abbrev pub is_short : BasicWord → Bool
is_short word.Short = true
is_short _ = false

abbrev pub is_long : BasicWord → Bool
is_long word.Long = true
is_long _ = false

abbrev pub is_unsigned : BasicWord → Bool
is_unsigned word.Unsigned = true
is_unsigned _ = false

abbrev pub has : (BasicWord → Bool) → List BasicWord → Bool
has is [] = false
has is (first ∷ rest) = is first || has is rest

-- What words spell that the grammar lets stand together: the numbers of the nine types that each table has.
abbrev pub basic_type : List BasicWord → ℕ
basic_type words =
    if has is_void words then 1
    else if has is_char words then (if has is_unsigned words then 3 else 2)
    else if has is_short words then (if has is_unsigned words then 5 else 4)
    else if has is_long words then (if has is_unsigned words then 9 else 8)
    else if has is_unsigned words then 7 else 6

-- ---- what specifiers are found to be, one after another

-- the basic words, the type that is none of such words, and whether a storage word with an effect stands among them
pub record Specified : Type 0 where
  pub words : List BasicWord
  pub type : Option Made
  pub storage : Bool

abbrev pub nothing_yet : Specified
nothing_yet = record { words = []; type = None; storage = false }

abbrev pub type_or : List BasicWord → Option Made → Made
type_or words (Some type) = type
type_or words None = m.Known (basic_type words)

-- the type that specifiers hold
abbrev pub type_of : Specified → Made
type_of specified = type_or specified.words specified.type

-- ---- tags (C11 6.7.2.3)

abbrev pub is_union : Aggregate → Bool
is_union aggregate.Struct = false
is_union aggregate.Union = true

-- the number of a tag, and whether the list of members behind it may complete it
abbrev pub opened : Bool → ℕ → Opened
opened completes kind = record { kind = kind; completes = completes }

-- A tag of this word that has no members yet may be completed.
abbrev pub opened_again : State → Bool → TagSymbol → Opened
opened_again s union_tag (tagged.Aggregate is kind) = opened (is_as is union_tag && not (has_size s.types kind)) kind
opened_again s union_tag tagged.Enumeration = opened false 0

-- a tag without a name is in no scope
abbrev pub with_new_tag : State → Bool → Option ℕ → ℕ × Types → ℕ × State
with_new_tag s union_tag (Some name) r = (r.0, with_tag (with_types s r.1) name (tagged.Aggregate union_tag r.0))
with_new_tag s union_tag None r = (r.0, with_types s r.1)

-- Alone in a declaration it is one of the innermost scope.
abbrev pub tag_meant : Setting → Where → State → ℕ → Option TagSymbol
tag_meant (specs_of.Declaration true) w s name = tag_here w s name
tag_meant (specs_of.Declaration false) w s name = tag_of s name
tag_meant specs_of.Definition w s name = tag_of s name
tag_meant specs_of.Member w s name = tag_of s name
tag_meant specs_of.Parameter w s name = tag_of s name
tag_meant specs_of.TypeName w s name = tag_of s name

-- ---- members (C11 6.7.2.1)

-- a member is no function (C11 6.7.2.1p3)
abbrev pub member_kind : ℕ → Made × State → Answer (ℕ × State)
member_kind here (m.Function signature, s) = fault why.TypeMismatch here
member_kind here (type, s) = Ok (in_table s type)

-- ---- enumerations (C11 6.7.2.2, 6.7.2.3)

-- whether the tag is new in its scope
abbrev pub enumeration_opened : State → ℕ → Option TagSymbol → Bool × State
enumeration_opened s name (Some earlier) = (false, s)
enumeration_opened s name None = (true, with_tag s name tagged.Enumeration)

abbrev pub open_enumeration : Where → State → Option ℕ → Bool × State
open_enumeration w s (Some name) = enumeration_opened s name (tag_here w s name)
open_enumeration w s None = (true, s)

-- `enum NAME` is one that was declared before (C11 6.7.2.3p2).
abbrev pub enumeration_used : ℕ → State → Option TagSymbol → Answer (ℕ × State)
enumeration_used here s (Some tagged.Enumeration) = Ok (6, s)
enumeration_used here s (Some (tagged.Aggregate is kind)) = fault why.Redefined here
enumeration_used here s None = fault why.Unknown here

-- ---- typedefs

-- a name that is a type where it stands (C11 6.7.8p3)
abbrev pub typedef_used : ℕ → State → Option Symbol → Answer (Made × State)
typedef_used here s (Some (means.Typedef type)) = Ok (type, s)
typedef_used here s (Some other) = fault why.Unknown here
typedef_used here s None = fault why.Unknown here

module _ (source : Source) where
  -- the name of a tag, which is empty where it has none
  abbrev pub tag_name : Option ℕ → Name
  tag_name (Some name) = spelled source name
  tag_name None = []

  abbrev pub number_of_name : Option ℕ → Option ℕ
  number_of_name (Some token) = Some (name_at source token)
  number_of_name None = None

  -- a new type, which has no members yet
  unfoldable pub new_tag : State → Bool → Option ℕ → ℕ × State
  new_tag s union_tag name = with_new_tag s union_tag name (added_tag union_tag (tag_name name) s.types)

  -- `struct NAME`: the tag that the name means, or a new one. One of another word is a second definition.
  abbrev pub tag_used : ℕ → State → Bool → ℕ → Option TagSymbol → Answer (ℕ × State)
  tag_used here s union_tag name (Some (tagged.Aggregate is kind)) =
      if is_as is union_tag then Ok (kind, s) else fault why.Redefined here
  tag_used here s union_tag name (Some tagged.Enumeration) = fault why.Redefined here
  tag_used here s union_tag name None = Ok (new_tag s union_tag (Some name))

  abbrev pub opened_or_new : State → Bool → ℕ → Option TagSymbol → Opened × State
  opened_or_new s union_tag name (Some earlier) = (opened_again s union_tag earlier, s)
  opened_or_new s union_tag name None = let r = new_tag s union_tag (Some name) in (opened true r.0, r.1)

  -- `struct NAME {`: the tag of the innermost scope, or a new one. Whether it may be completed is told behind its
  -- members.
  unfoldable pub open_tag : Where → State → Bool → Option ℕ → Opened × State
  open_tag w s union_tag (Some name) = opened_or_new s union_tag name (tag_here w s name)
  open_tag w s union_tag None = let r = new_tag s union_tag None in (opened true r.0, r.1)

  -- `.. }`: it is complete behind its members, if it was not before or inside them.
  unfoldable pub close_tag : ℕ → Bool → Opened → List Field × State → Answer (ℕ × State)
  close_tag here union_tag tag (fields, s) =
      fault_if (not tag.completes || has_size s.types tag.kind) why.Redefined here >>= λ fine.
      or_bad_type here (completed s.types union_tag tag.kind fields) >>= λ types. Ok (tag.kind, with_types s types)

  -- ---- members (C11 6.7.2.1): the names of one list are new in it

  abbrev pub is_field : List Field → Option DeclaredName → Bool
  is_field found (Some name) = is_named (spelled source name.number) found
  is_field found None = false

  abbrev pub with_field : List Field → Option DeclaredName → ℕ × State → List Field × State
  with_field found (Some name) kind =
      (found ++ record { name = spelled source name.number; kind = kind.0 } ∷ [], kind.1)
  with_field found None kind = (found, kind.1)

  abbrev pub field_made : ℕ → Made → List Field → Around × State → Answer (List Field × State)
  field_made here base found a =
      fault_if (is_field found a.0.name) why.Redefined here >>= λ new. made a.1 a.0.parts base >>= λ type.
      member_kind here type >>= λ kind. Ok (with_field found a.0.name kind)

  module _ (constant : ℕ → Where → State → Expression → Answer (ℤ × State)) (inner : Readers) where
    abbrev pub field : Where → ℕ → Made → List Field × State → Declarator → Answer (List Field × State)
    field w line base found declarator =
        inner.declarator w found.1 declarator >>= λ a. field_made (declarator_line line declarator) base found.0 a

    abbrev pub fields : Where → ℕ → Specs → List Declarator → List Field × State → Answer (List Field × State)
    fields w line specs declarators found =
        inner.specs specs_of.Member w found.1 specs >>= λ base.
        all (λ before declarator. field w line base.0 before declarator) (found.0, base.1) declarators

    -- one declaration of members, behind those that were found
    unfoldable pub member : Where → List Field × State → Member → Answer (List Field × State)
    member w found one = fields w (out-Member one).place.line (out-Member one).specs (out-Member one).declarators found

    abbrev pub members : Where → ℕ → Bool → Opened × State → List Member → Answer (ℕ × State)
    members w here union_tag tag list =
        all (λ found one. member w found one) ([], tag.1) list >>= λ found. close_tag here union_tag tag.0 found

    -- ---- enumerations (C11 6.7.2.2): a constant without a value is one more than that before it, and the first is 0

    abbrev pub enumerator_value : Where → ℤ → State → Option Expression → Answer (ℤ × State)
    enumerator_value w next s (Some value) = constant (line_of value) w s value >>= λ n. Ok (wrapped 6 n.0, n.1)
    enumerator_value w next s None = Ok (next, s)

    abbrev pub enumerator_of : Where → ℕ → ℕ → ℤ × State → Option Expression → Answer (ℤ × State)
    enumerator_of w here name next value =
        enumerator_value w next.0 next.1 value >>= λ n. declared source w here n.1 name (means.Constant n.0) >>= λ after.
        Ok (wrapped 6 (n.0 +ℤ pos 1), after)

    unfoldable pub enumerator : Where → ℤ × State → Enumerator → Answer (ℤ × State)
    enumerator w next one =
        enumerator_of w (out-Enumerator one).place.line (name_at source (out-Enumerator one).place.token) next
        (out-Enumerator one).value

    -- An enumeration is `int`.
    abbrev pub enumeration : Where → ℕ → Bool × State → List Enumerator → Answer (ℕ × State)
    enumeration w here tag constants =
        all (λ next one. enumerator w next one) (pos 0, tag.1) constants >>= λ last.
        fault_if (not tag.0) why.Redefined here >>= λ new. Ok (6, last.1)

    -- ---- one specifier behind others

    abbrev pub with_type : Specified → Made × State → Specified × State
    with_type before type = (record before { type = Some type.0 }, type.1)

    abbrev pub with_kind : Specified → ℕ × State → Specified × State
    with_kind before kind = with_type before (m.Known kind.0, kind.1)

    abbrev pub storage_read : ℕ → Specified → State → Storage → Option CheckKind → Answer (Specified × State)
    storage_read here before s word (Some reason) = fault reason here
    storage_read here before s word None = Ok (record before { storage = before.storage || has_effect word }, s)

    abbrev pub specifier_at : Setting → Where → Specified → State → SpecifierLayer → Answer (Specified × State)
    -- `typedef`, `extern`, `static`, `register`, `auto`
    specifier_at setting w before s (Specifier-F.Storage place word) =
        storage_read place.line before s word (storage_fault setting w before.storage word)
    -- `const`, `restrict`, `inline`
    specifier_at setting w before s (Specifier-F.Qualifier place word) = Ok (before, s)
    -- `void`, `char`, `short`, `int`, `long`, `signed`, `unsigned`
    specifier_at setting w before s (Specifier-F.Basic place word) =
        Ok (record before { words = before.words ++ word ∷ [] }, s)
    -- `struct NAME? { member+ }`
    specifier_at setting w before s (Specifier-F.Members place which tag list) =
        members w place.line (is_union which) (open_tag w s (is_union which) (number_of_name tag)) list >>= λ kind.
        Ok (with_kind before kind)
    -- `struct NAME`
    specifier_at setting w before s (Specifier-F.Tag place which tag) =
        tag_used place.line s (is_union which) (name_at source tag) (tag_meant setting w s (name_at source tag))
        >>= λ kind.
        Ok (with_kind before kind)
    -- `enum NAME? { list(NAME (= cond)?) }`
    specifier_at setting w before s (Specifier-F.Enumerators place tag constants) =
        enumeration w place.line (open_enumeration w s (number_of_name tag)) constants >>= λ kind.
        Ok (with_kind before kind)
    -- `enum NAME`
    specifier_at setting w before s (Specifier-F.EnumTag place tag) =
        enumeration_used place.line s (tag_of s (name_at source tag)) >>= λ kind. Ok (with_kind before kind)
    -- TYPEDEF
    specifier_at setting w before s (Specifier-F.TypedefName place) =
        typedef_used place.line s (symbol_of s (name_at source place.token)) >>= λ type. Ok (with_type before type)

    unfoldable pub specifier : Setting → Where → Specified × State → Specifier → Answer (Specified × State)
    specifier setting w before one = specifier_at setting w before.0 before.1 (out-Specifier one)

    -- Specifiers: the type that they hold.
    unfoldable pub specs_by : Setting → Where → State → Specs → Answer (Made × State)
    specs_by setting w s specs =
        all (λ before one. specifier setting w before one) (nothing_yet, s) (out-Specs specs).words >>= λ r.
        Ok (type_of r.0, r.1)
