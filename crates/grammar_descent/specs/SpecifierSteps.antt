-- Declaration specifiers, read by descent (C11 6.7.1 to 6.7.4). `inner` reads what is nested in a list of members, `expression`
-- the values of enumeration constants.
use Rattle.std.specs.Prelude.{ℕ, zero, suc, ◌+◌, max, Bool, ◌&&◌, List, [], ◌∷◌, ◌++◌, length, Option, Some, None, if◌then◌else◌}
use Rattle.c_tokens.specs.declared.kind.Keyword.{Keyword}
use Rattle.c_tokens.specs.declared.kind.Keyword.TheVariants as word
use Rattle.c_tokens.specs.declared.kind.Mark.TheVariants as mark
use Rattle.c_tokens.specs.declared.kind.Kind.{Kind}
use Rattle.c_tokens.specs.declared.kind.Kind.TheVariants as k
use Rattle.c_tokens.specs.declared.token.Token.{Token}
use Rattle.c_grammar.specs.declared.words.Storage.{Storage}
use Rattle.c_grammar.specs.declared.words.Storage.TheVariants as storage
use Rattle.c_grammar.specs.declared.words.Qualifier.{Qualifier}
use Rattle.c_grammar.specs.declared.words.Qualifier.TheVariants as qualifier
use Rattle.c_grammar.specs.declared.words.BasicWord.{BasicWord}
use Rattle.c_grammar.specs.declared.words.BasicWord.TheVariants as b
use Rattle.c_grammar.specs.declared.words.Aggregate.{Aggregate}
use Rattle.c_grammar.specs.declared.words.Aggregate.TheVariants as aggregate
use Rattle.c_grammar.specs.declared.phrases.Expression.{Expression}
use Rattle.c_grammar.specs.declared.phrases.Specs.{Specs}
use Rattle.c_grammar.specs.declared.phrases.Specifier.{Specifier}
use Rattle.c_grammar.specs.declared.phrases.Specifier.TheVariants as specifier
use Rattle.c_grammar.specs.declared.phrases.Member.{Member}
use Rattle.c_grammar.specs.declared.phrases.Enumerator.{Enumerator}
use Rattle.c_grammar.specs.declared.phrases.Declarator.{Declarator}
use Rattle.c_grammar.specs.Tokens.{kind_at, place_at}
use Rattle.c_grammar.specs.Words.{Role, modifies, spells, is_type, storage_role}
use Rattle.token_texts.specs.Names.{name_at}
use Rattle.c_grammar.specs.declared.words.Level.TheVariants as of
use Rattle.c_grammar.specs.declared.words.NameKind.TheVariants as declares
use Rattle.c_grammar.specs.declared.words.Naming.TheVariants as naming
use Rattle.c_grammar.specs.Operators.{tightness}
use Rattle.grammar_descent.specs.Reading.{State, Reading, ◌>>=◌, sees, when, mark_at, past, Readers}
use Rattle.grammar_descent.specs.Types.{names_a_type}
use Rattle.grammar_descent.specs.TypeWords.{holds_no_type, holds_one_type}

-- what a specifier begins with
pub data Lead : Type 0 where
  storage_word : Storage → Lead
  qualifier_word : Qualifier → Lead
  basic_word : BasicWord → Lead
  aggregate_word : Aggregate → Lead
  enum_word : Lead
  typedef_name : Lead

abbrev pub word_lead : Keyword → Option Lead
word_lead word.Typedef = Some (storage_word storage.Typedef)
word_lead word.Extern = Some (storage_word storage.Extern)
word_lead word.Static = Some (storage_word storage.Static)
word_lead word.Register = Some (storage_word storage.Register)
word_lead word.Auto = Some (storage_word storage.Auto)
word_lead word.Const = Some (qualifier_word qualifier.Const)
word_lead word.Restrict = Some (qualifier_word qualifier.Restrict)
word_lead word.Inline = Some (qualifier_word qualifier.Inline)
word_lead word.Void = Some (basic_word b.Void)
word_lead word.Char = Some (basic_word b.Char)
word_lead word.Short = Some (basic_word b.Short)
word_lead word.Int = Some (basic_word b.Int)
word_lead word.Long = Some (basic_word b.Long)
word_lead word.Signed = Some (basic_word b.Signed)
word_lead word.Unsigned = Some (basic_word b.Unsigned)
word_lead word.Struct = Some (aggregate_word aggregate.Struct)
word_lead word.Union = Some (aggregate_word aggregate.Union)
word_lead word.Enum = Some enum_word
word_lead _ = None

-- `free`: a name there is a type, and none came before
abbrev pub lead_by : Option Kind → Bool → Option Lead
lead_by (Some (k.Word w)) free = word_lead w
lead_by (Some k.Name) free = if free then Some typedef_name else None
lead_by _ free = None

-- goes on with what a specifier begins with, if one begins
abbrev pub lead_or : {A : Type 0} → Option Lead → (Lead → A) → A → A
lead_or (Some lead) next stop = next lead
lead_or None next stop = stop

-- a specifier, what it does, and its height
abbrev pub FoundSpecifier : Type 0
FoundSpecifier = Specifier × Role × ℕ

-- a whole type by its name, which stands after a word
abbrev pub tag_after : (ℕ → Specifier) → Option ℕ → Reading FoundSpecifier
tag_after node (Some token) s = Some ((node token, is_type, 0), past s 2)
tag_after node None s = None

module _ (text : List ℕ) (ts : List Token) where
  -- what the specifier there begins with, after specifiers with these roles
  unfoldable pub lead_at : List Role → State → Option Lead
  lead_at earlier s = lead_by (kind_at ts s.at) (names_a_type s.scope (name_at text ts s.at) && holds_no_type earlier)

  -- a name, by the number of its token, or nothing, and the place after it
  unfoldable pub optional_name : ℕ → Option ℕ × ℕ
  optional_name at = if sees ts at k.Name then (Some at, at + 1) else (None, at)

  -- the brace that closes a list, with or without a comma before it
  unfoldable pub closing_at : ℕ → Option ℕ
  closing_at at =
      if mark_at ts at mark.RightBrace then Some (at + 1)
      else when ts at (k.Mark mark.Comma) (when ts (at + 1) (k.Mark mark.RightBrace) (Some (at + 2)))

module _ (text : List ℕ) (ts : List Token) (inner : Readers) where
  -- ---- members

  unfoldable pub declarators : ℕ → List Declarator → ℕ → Reading (List Declarator × ℕ)
  declarators zero found high s = None
  declarators (suc n) found high s = inner.declarator naming.Named s >>= λ a.
      if mark_at ts a.1.at mark.Comma then declarators n (found ++ a.0.node ∷ []) (max high a.0.height) (past a.1 1)
      else Some ((found ++ a.0.node ∷ [], max high a.0.height), a.1)

  unfoldable pub member_at : Reading (Member × ℕ)
  member_at s = inner.specs s >>= λ a. declarators (length ts) [] 0 a.1 >>= λ l. when ts l.1.at (k.Mark mark.Semicolon)
      (Some ((record { place = place_at ts s.at; specs = a.0.0; declarators = l.0.0 }, max a.0.2 l.0.1), past l.1 1))

  -- up to the closing brace, one at least
  unfoldable pub members : ℕ → List Member → ℕ → Reading (List Member × ℕ)
  members zero found high s = None
  members (suc n) found high s = member_at s >>= λ a.
      if mark_at ts a.1.at mark.RightBrace then Some ((found ++ a.0.0 ∷ [], max high a.0.1), a.1)
      else members n (found ++ a.0.0 ∷ []) (max high a.0.1) a.1

  -- the list of members after `{`, of the specifier that begins at `start`
  unfoldable pub members_after : Aggregate → Option ℕ → ℕ → Reading FoundSpecifier
  members_after which tag start s = members (length ts) [] 0 s >>= λ a. when ts a.1.at (k.Mark mark.RightBrace)
      (Some ((specifier.Members (place_at ts start) which tag a.0.0, is_type, a.0.1 + 1), past a.1 1))

  unfoldable pub aggregate_here : Aggregate → Reading FoundSpecifier
  aggregate_here which s =
      if mark_at ts (optional_name text ts (s.at + 1)).1 mark.LeftBrace
      then members_after which (optional_name text ts (s.at + 1)).0 s.at (record { at = (optional_name text ts (s.at + 1)).1 + 1; scope = s.scope })
      else tag_after (specifier.Tag (place_at ts s.at) which) (optional_name text ts (s.at + 1)).0 s

module _ (text : List ℕ) (ts : List Token) (expression : ℕ → Reading (Expression × ℕ)) where
  -- ---- enumeration constants

  -- A constant is in scope from after its enumerator on, its value included.
  unfoldable pub enumerator_at : Reading (Enumerator × ℕ)
  enumerator_at s = when ts s.at k.Name
      (if mark_at ts (s.at + 1) mark.Equal
      then (expression (tightness of.Conditional) (past s 2) >>= λ value.
      Some (
        (record { place = place_at ts s.at; value = Some value.0.0 }, value.0.1),
        record { at = value.1.at; scope = (name_at text ts s.at, declares.Ordinary) ∷ value.1.scope },
      ))
      else Some (
        (record { place = place_at ts s.at; value = None }, 0),
        record { at = s.at + 1; scope = (name_at text ts s.at, declares.Ordinary) ∷ s.scope },
      ))

  unfoldable pub enumerators : ℕ → List Enumerator → ℕ → Reading (List Enumerator × ℕ)
  enumerators zero found high s = None
  enumerators (suc n) found high s = enumerator_at s >>= λ a.
      if mark_at ts a.1.at mark.Comma && sees ts (a.1.at + 1) k.Name then enumerators n (found ++ a.0.0 ∷ []) (max high a.0.1) (past a.1 1)
      else Some ((found ++ a.0.0 ∷ [], max high a.0.1), a.1)

  unfoldable pub enumerators_after : Option ℕ → ℕ → Reading FoundSpecifier
  enumerators_after tag start s = enumerators (length ts) [] 0 s >>= λ a. closing_at text ts a.1.at >>= λ to.
      Some ((specifier.Enumerators (place_at ts start) tag a.0.0, is_type, a.0.1), record { at = to; scope = a.1.scope })

  unfoldable pub enumeration_here : Reading FoundSpecifier
  enumeration_here s =
      if mark_at ts (optional_name text ts (s.at + 1)).1 mark.LeftBrace
      then enumerators_after (optional_name text ts (s.at + 1)).0 s.at (record { at = (optional_name text ts (s.at + 1)).1 + 1; scope = s.scope })
      else tag_after (specifier.EnumTag (place_at ts s.at)) (optional_name text ts (s.at + 1)).0 s

module _ (text : List ℕ) (ts : List Token) (expression : ℕ → Reading (Expression × ℕ)) (inner : Readers) where
  -- ---- the whole

  abbrev pub one_specifier : Lead → Reading FoundSpecifier
  one_specifier (storage_word which) s = Some ((specifier.Storage (place_at ts s.at) which, storage_role which, 0), past s 1)
  one_specifier (qualifier_word which) s = Some ((specifier.Qualifier (place_at ts s.at) which, modifies, 0), past s 1)
  one_specifier (basic_word which) s = Some ((specifier.Basic (place_at ts s.at) which, spells which, 0), past s 1)
  one_specifier (aggregate_word which) s = aggregate_here text ts inner which s
  one_specifier enum_word s = enumeration_here text ts expression s
  one_specifier typedef_name s = Some ((specifier.TypedefName (place_at ts s.at), is_type, 0), past s 1)

  -- as many as there are, after specifiers with the roles `earlier`
  unfoldable pub specifiers : ℕ → List Role → List Specifier → ℕ → Reading (List Specifier × List Role × ℕ)
  specifiers zero earlier found high s = Some ((found, earlier, high), s)
  specifiers (suc n) earlier found high s = lead_or (lead_at text ts earlier s)
      (λ lead. one_specifier lead s >>= λ a. specifiers n (earlier ++ a.0.1 ∷ []) (found ++ a.0.0 ∷ []) (max high a.0.2) a.1)
      (Some ((found, earlier, high), s))

  -- Specifiers that are nested no deeper than the expressions of `expression`, where `inner` reads what is nested less deep.
  unfoldable pub specs : Reading (Specs × List Role × ℕ)
  specs s = specifiers (length ts) [] [] 0 s >>= λ a.
      if holds_one_type a.0.1 then Some ((record { place = place_at ts s.at; words = a.0.0 }, a.0.1, a.0.2), a.1) else None
