-- Names in scope by their numbers, and as they are spelled.
use Rattle.std.proofs.Common.{◌≡◌, ℕ, ◌+◌, ◌-◌, ◌<◌, List, [], ◌∷◌, ◌++◌, length, take, drop, map, Option, Some, None, Bool, true, false, inl, inr, refl, sym, ap, subst, ◌∙◌}
use Rattle.std.specs.Prelude.{slice_get, All, ◌==◌, if◌then◌else◌}
use Rattle.std.specs.Str.{bytes_eq}
use Rattle.std.proofs.lemmas.Bool.{cases_Bool, eqb-true, eq-eqb}
use Rattle.std.proofs.lemmas.List.{length-map, take-map, drop-map, map-append}
use Rattle.std.proofs.lemmas.List.Elements.{All-nil, All-cons, All-head, All-tail, All-take, All-drop, All-append}
use Rattle.std.proofs.lemmas.Cmp.{nat_list_eq_equiv}
use Rattle.std.proofs.lemmas.Slice.Eq.{bytes_eq-Decides}
use Rattle.c_tokens.specs.declared.kind.Kind.TheVariants as k
use Rattle.c_tokens.specs.declared.token.Token.{Token}
use Rattle.c_tokens.specs.Names.{Name}
use Rattle.token_texts.specs.Names.{name_at, predefined}
use Rattle.token_texts.specs.Texts.{Texts, IsNameAt, number_at, name_of}
use Rattle.token_texts.proofs.Lists.{get-get_or, get_or-there, get-low}
use Rattle.c_grammar.specs.declared.words.NameKind.{NameKind}
use Rattle.c_grammar.specs.declared.words.NameKind.TheVariants as kind
use Rattle.c_grammar.specs.Tokens.{kind_of, kind_at}
use Rattle.c_grammar.specs.Scope.{Scope, types, start}
use Rattle.grammar_descent.specs.Types.{declares_type, names_a_type}
use Rattle.token_reader.specs.declared.parameter_names.DeclaredName.{DeclaredName}
use Rattle.token_reader.specs.declared.reader.Reader.TheInside.{Inside}
use Rattle.token_reader.specs.Input.{Input}
use Rattle.token_reader.specs.Reader.{with_scope}
use Rattle.token_reader.specs.Cursor.{input_of, AreNumbered, IsWithin}
use Rattle.token_reader.specs.Scoping.{declared_by, spelled, AreSpelled, is_type_in, types_of, start_numbers}

-- ---- a name that stands there

named_token : (o : Option Token) → kind_of o ≡ Some k.Name → (t : Token) × (o ≡ Some t) × (t.kind ≡ k.Name)
named_token (Some t) h = (t, refl, cc)
named_token None h = absurd cc

pub name_here : (tokens : List Token) (at : ℕ) → kind_at tokens at ≡ Some k.Name → IsNameAt tokens at
unfolding kind_at
name_here tokens at h =
    let t = named_token (slice_get tokens at) h in
    record { token = t.0; stands = t.1; name = t.2 }

-- ---- lists of declarations

module _ (texts : Texts) where
  pub length-spelled : (scope : List DeclaredName) → length (spelled texts scope) ≡ length scope
  length-spelled scope = length-map scope (λ (d : DeclaredName). (name_of texts d.name, d.kind))

  pub spelled-drop : (n : ℕ) (scope : List DeclaredName) → spelled texts (drop n scope) ≡ drop n (spelled texts scope)
  spelled-drop n scope = sym (drop-map (λ (d : DeclaredName). (name_of texts d.name, d.kind)) n scope)

  pub spelled-take : (n : ℕ) (scope : List DeclaredName) → spelled texts (take n scope) ≡ take n (spelled texts scope)
  spelled-take n scope = sym (take-map (λ (d : DeclaredName). (name_of texts d.name, d.kind)) n scope)

  pub spelled-append : (own scope : List DeclaredName) → spelled texts (own ++ scope) ≡ spelled texts own ++ spelled texts scope
  spelled-append own scope = map-append (λ (d : DeclaredName). (name_of texts d.name, d.kind)) own scope

  pub drop_spelled : (n : ℕ) (scope : List DeclaredName) → AreSpelled texts scope → AreSpelled texts (drop n scope)
  drop_spelled n scope all = All-drop (λ (d : DeclaredName). d.name < length texts.names) n scope all

  pub take_spelled : (n : ℕ) (scope : List DeclaredName) → AreSpelled texts scope → AreSpelled texts (take n scope)
  take_spelled n scope all = All-take (λ (d : DeclaredName). d.name < length texts.names) n scope all

  -- ---- which names are types

  module _ (apart : (m n : ℕ) (name : Name) → slice_get texts.names m ≡ Some name → slice_get texts.names n ≡ Some name → m ≡ n) where
    -- equal numbers are equal names
    same_test : (m n : ℕ) → m < length texts.names → n < length texts.names → bytes_eq (name_of texts m) (name_of texts n) ≡ (m == n)
    same_test m n low below =
        elim (cases_Bool (m == n)) [
          | inl y ↦ (
              let same : m ≡ n = eqb-true m n y in
              ap (λ l. bytes_eq l (name_of texts n)) (ap (name_of texts) same) ∙ nat_list_eq_equiv.refl (name_of texts n) ∙ sym y)
          | inr f ↦ elim (cases_Bool (bytes_eq (name_of texts m) (name_of texts n))) [
            | inl y ↦ (
                let here = get-get_or texts.names m [] low in
                let there = get-get_or texts.names n [] below in
                let spelling : name_of texts m ≡ name_of texts n = (bytes_eq-Decides (name_of texts m) (name_of texts n)).0 y in
                let same : m ≡ n = apart m n (name_of texts n) (here ∙ ap (λ l. Some l) spelling) there in
                let yes : (m == n) ≡ true = eq-eqb m n same in
                absurd cc)
            | inr e ↦ e ∙ sym f
          ]
        ]

    pub is_type-spelled : (scope : List DeclaredName) (n : ℕ) → AreSpelled texts scope → n < length texts.names →
        is_type_in scope n ≡ names_a_type (spelled texts scope) (name_of texts n)
    unfolding names_a_type
    is_type-spelled [] n all low = refl
    is_type-spelled (d ∷ scope) n all low =
        let first = All-head (λ (d : DeclaredName). d.name < length texts.names) d scope all in
        let rest = All-tail (λ (d : DeclaredName). d.name < length texts.names) d scope all in
        rw (same_test d.name n first low) (ap (λ b. if d.name == n then declares_type d.kind else b) (is_type-spelled scope n rest low))

-- ---- the names of types from the beginning

module _ (texts : Texts) (known : (n : ℕ) (name : Name) → slice_get predefined n ≡ Some name → slice_get texts.names n ≡ Some name) where
  name_is : (n : ℕ) (name : Name) → slice_get predefined n ≡ Some name → name_of texts n ≡ name
  name_is n name h = get_or-there texts.names n name [] (known n name h)

  pub spelled_start : (typedefs : List ℕ) → spelled texts (types_of (typedefs ++ start_numbers)) ≡ types (map (name_of texts) typedefs) ++ start
  spelled_start [] =
      rw (name_is 0 _ refl, name_is 1 _ refl, name_is 2 _ refl, name_is 3 _ refl, name_is 4 _ refl, name_is 5 _ refl, name_is 6 _ refl, name_is 7 _ refl, name_is 8 _ refl, name_is 9 _ refl) refl
  spelled_start (t ∷ typedefs) = ap (λ l. (name_of texts t, kind.Type) ∷ l) (spelled_start typedefs)

  abbrev low : DeclaredName → Type 0
  low d = d.name < length texts.names

  within : (n : ℕ) (name : Name) → slice_get predefined n ≡ Some name → n < length texts.names
  within n name h = get-low texts.names n name (known n name h)

  -- numbers that are in the table
  abbrev IsLow : ℕ → Type 0
  IsLow n = n < length texts.names

  start_low : All IsLow start_numbers
  start_low =
      All-cons IsLow 0 (drop 1 start_numbers) (within 0 _ refl)
      (All-cons IsLow 1 (drop 2 start_numbers) (within 1 _ refl)
      (All-cons IsLow 2 (drop 3 start_numbers) (within 2 _ refl)
      (All-cons IsLow 3 (drop 4 start_numbers) (within 3 _ refl)
      (All-cons IsLow 4 (drop 5 start_numbers) (within 4 _ refl)
      (All-cons IsLow 5 (drop 6 start_numbers) (within 5 _ refl)
      (All-cons IsLow 6 (drop 7 start_numbers) (within 6 _ refl)
      (All-cons IsLow 7 (drop 8 start_numbers) (within 7 _ refl)
      (All-cons IsLow 8 (drop 9 start_numbers) (within 8 _ refl)
      (All-cons IsLow 9 [] (within 9 _ refl) (All-nil IsLow))))))))))

  types_low : (names : List ℕ) → All IsLow names → AreSpelled texts (types_of names)
  types_low [] all = All-nil low
  types_low (n ∷ names) all = All-cons low (declared_by n kind.Type) (types_of names) (All-head IsLow n names all) (types_low names (All-tail IsLow n names all))

  pub start_spelled : (typedefs : List ℕ) → All (λ n. n < length texts.names) typedefs → AreSpelled texts (types_of (typedefs ++ start_numbers))
  start_spelled typedefs all = types_low (typedefs ++ start_numbers) (All-append IsLow typedefs start_numbers all start_low)

-- ---- the fields of a reader

module _ (r : Inside) (i : Input) (view : input_of r ≡ i) (w : IsWithin r) where
  pub name_number : (n : ℕ) → kind_at i.tokens (i.state.at + n) ≡ Some k.Name →
      slice_get i.texts.names (number_at i.texts (i.state.at + n)) ≡ Some (name_at i.text i.tokens (i.state.at + n))
  name_number n =
      subst (λ (j : Input). kind_at j.tokens (j.state.at + n) ≡ Some k.Name →
      slice_get j.texts.names (number_at j.texts (j.state.at + n)) ≡ Some (name_at j.text j.tokens (j.state.at + n))) view
      (λ h. w.names.numbered (r.at + n) (name_here r.tokens.now (r.at + n) h))

  pub name_is_spelled : (n : ℕ) → kind_at i.tokens (i.state.at + n) ≡ Some k.Name → name_of i.texts (number_at i.texts (i.state.at + n)) ≡ name_at i.text i.tokens (i.state.at + n)
  name_is_spelled n h = get_or-there i.texts.names (number_at i.texts (i.state.at + n)) (name_at i.text i.tokens (i.state.at + n)) [] (name_number n h)

  pub name_is_low : (n : ℕ) → kind_at i.tokens (i.state.at + n) ≡ Some k.Name → number_at i.texts (i.state.at + n) < length i.texts.names
  name_is_low n h = get-low i.texts.names (number_at i.texts (i.state.at + n)) (name_at i.text i.tokens (i.state.at + n)) (name_number n h)

  pub scope_types : (n : ℕ) → n < length i.texts.names → is_type_in r.scope n ≡ names_a_type i.state.scope (name_of i.texts n)
  scope_types n =
      subst (λ (j : Input). n < length j.texts.names → is_type_in r.scope n ≡ names_a_type j.state.scope (name_of j.texts n)) view
      (λ low. is_type-spelled r.texts.now w.names.apart r.scope n w.scope low)

  -- ends of scopes

  pub closed : (scope : List DeclaredName) (n : ℕ) → scope ≡ drop (length r.scope - n) r.scope →
      spelled i.texts scope ≡ drop (length i.state.scope - n) i.state.scope
  closed scope n is =
      subst (λ (j : Input). spelled j.texts scope ≡ drop (length j.state.scope - n) j.state.scope) view
      (ap (spelled r.texts.now) is ∙ spelled-drop r.texts.now (length r.scope - n) r.scope
      ∙ ap (λ l. drop (l - n) (spelled r.texts.now r.scope)) (sym (length-spelled r.texts.now r.scope)))

  pub ended : (own : List DeclaredName) (n : ℕ) → own ≡ take (length r.scope - n) r.scope → spelled i.texts own ≡ take (length i.state.scope - n) i.state.scope
  ended own n is =
      subst (λ (j : Input). spelled j.texts own ≡ take (length j.state.scope - n) j.state.scope) view
      (ap (spelled r.texts.now) is ∙ spelled-take r.texts.now (length r.scope - n) r.scope
      ∙ ap (λ l. take (l - n) (spelled r.texts.now r.scope)) (sym (length-spelled r.texts.now r.scope)))

  -- the reader with this scope
  pub scoped : (scope : List DeclaredName) (spelling : Scope) → spelled i.texts scope ≡ spelling →
      input_of (record r { scope = scope }) ≡ with_scope i spelling
  scoped scope spelling =
      subst (λ (j : Input). spelled j.texts scope ≡ spelling → input_of (record r { scope = scope }) ≡ with_scope j spelling) view
      (λ is. ap (λ l. with_scope (input_of r) l) is)
