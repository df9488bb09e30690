-- Names are numbered in the order in which they come.
use Rattle.std.proofs.Common.{◌≡◌, ℕ, zero, suc, ◌+◌, ◌<◌, ◌≤◌, List, [], ◌∷◌, ◌++◌, length, Option, Some, None, Bool, true, false, cond, inl, inr, ◌⊎◌, refl, sym, ap, subst, ◌∙◌, arith, length-append}
use Rattle.std.specs.Prelude.{slice_get, unwrap_or, Vec}
use Rattle.std.specs.declared.alloc.Global.{Global}
use Rattle.std.specs.BTreeMap.{UpdatesBy, IsEmpty, btree_map_len}
use Rattle.std.specs.Map.{KeepsOthers, IsKeyTest, AreApart, lookup}
use Rattle.std.specs.Cmp.Lexicographic.{slice_cmp}
use Rattle.std.specs.Ordering.{nat_cmp, is_eq}
use Rattle.std.specs.Str.{bytes_eq}
use Rattle.std.proofs.lemmas.Bool.{cases_Bool, cond-true, cond-false}
use Rattle.std.proofs.lemmas.Cmp.{nat_list_eq_equiv, nat_list_cmp_total, eq_by_cmp_equiv}
use Rattle.std.proofs.lemmas.Map.Text.{is_eq-slice_cmp}
use Rattle.std.proofs.lemmas.Option.{slice_get_within}
use Rattle.std.proofs.lemmas.Slice.Eq.{bytes_eq-Decides}
use Rattle.c_tokens.specs.declared.token.Token.{Token}
use Rattle.c_tokens.specs.Names.{Text, Name, spelling, is_name}
use Rattle.c_pp.specs.Marked.{held}
use Rattle.c_pp.specs.Numbering.{Known, number_in, Finds}
use Rattle.c_pp.specs.Walks.{IsNumbered}

module _ {X : Type 0} where
  get_old : (xs : List X) (y x : X) (k : ℕ) → slice_get xs k ≡ Some x → slice_get (xs ++ y ∷ []) k ≡ Some x
  get_old [] y x k h = absurd cc
  get_old (z ∷ xs) y x zero h = h
  get_old (z ∷ xs) y x (suc k) h = get_old xs y x k h

  get_new : (xs : List X) (y : X) → slice_get (xs ++ y ∷ []) (length xs) ≡ Some y
  get_new [] y = refl
  get_new (z ∷ xs) y = get_new xs y

  get_cases : (xs : List X) (y x : X) (k : ℕ) → slice_get (xs ++ y ∷ []) k ≡ Some x → (slice_get xs k ≡ Some x) ⊎ ((k ≡ length xs) × (y ≡ x))
  get_cases [] y x zero h = inr (refl, cc)
  get_cases [] y x (suc k) h = absurd cc
  get_cases (z ∷ xs) y x zero h = inl h
  get_cases (z ∷ xs) y x (suc k) h = elim (get_cases xs y x k h) [ inl old ↦ inl old | inr (e, f) ↦ inr (ap suc e, f) ]

-- the tokens before `index` are numbered by these names
pub record AreNumbered (text : Text) (tokens : List Token) (index : ℕ) (numbers : List (Option ℕ)) (names : List Name) : Type 0 where
  pub len : length numbers ≡ index
  pub named : (at : ℕ) (token : Token) (number : ℕ) → slice_get tokens at ≡ Some token → slice_get numbers at ≡ Some (Some number) →
      (is_name token.kind ≡ true) × (slice_get names number ≡ Some (spelling text token))
  pub others : (at : ℕ) (token : Token) → slice_get tokens at ≡ Some token → slice_get numbers at ≡ Some None → is_name token.kind ≡ false
  pub apart : (k l : ℕ) (name : Name) → slice_get names k ≡ Some name → slice_get names l ≡ Some name → k ≡ l

pub number_none : (text : Text) (tokens : List Token) → AreNumbered text tokens 0 [] []
number_none text tokens = record {
  len = refl;
  named = λ at token number there is. absurd cc;
  others = λ at token there is. absurd cc;
  apart = λ k l name a b. absurd cc;
}

module _ (text : Text) (tokens : List Token) (index : ℕ) (numbers : List (Option ℕ)) (names : List Name) (token : Token) (there : slice_get tokens index ≡ Some token) where
  pub number_other : AreNumbered text tokens index numbers names → is_name token.kind ≡ false → AreNumbered text tokens (index + 1) (numbers ++ None ∷ []) names
  number_other n no_name = record {
    len = (let len = n.len in let l = length-append numbers (None ∷ []) in omega arith);
    named = λ at other number at_tokens is. elim (get_cases numbers None (Some number) at is) [
      | inl old ↦ n.named at other number at_tokens old
      | inr (e, f) ↦ absurd cc
    ];
    others = λ at other at_tokens is. elim (get_cases numbers None None at is) [
      | inl old ↦ n.others at other at_tokens old
      | inr (e, f) ↦ (
          let here : slice_get tokens index ≡ Some other = ap (slice_get tokens) (sym (e ∙ n.len)) ∙ at_tokens in
          let same : token ≡ other = cc in
          ap (λ (t : Token). is_name t.kind) (sym same) ∙ no_name)
    ];
    apart = n.apart;
  }

  -- a name that stands among the names
  named_old : AreNumbered text tokens index numbers names → (number : ℕ) (more : List Name) → is_name token.kind ≡ true → slice_get more number ≡ Some (spelling text token) →
      ((k : ℕ) (name : Name) → slice_get names k ≡ Some name → slice_get more k ≡ Some name) →
      ((k l : ℕ) (name : Name) → slice_get more k ≡ Some name → slice_get more l ≡ Some name → k ≡ l) →
      AreNumbered text tokens (index + 1) (numbers ++ Some number ∷ []) more
  named_old n number more named is kept apart = record {
    len = (let len = n.len in let l = length-append numbers (Some number ∷ []) in omega arith);
    named = λ at other k at_tokens got. elim (get_cases numbers (Some number) (Some k) at got) [
      | inl old ↦ (let was = n.named at other k at_tokens old in (was.0, kept k (spelling text other) was.1))
      | inr (e, f) ↦ (
          let here : slice_get tokens index ≡ Some other = ap (slice_get tokens) (sym (e ∙ n.len)) ∙ at_tokens in
          let same : token ≡ other = cc in
          let same_number : number ≡ k = cc in
          (ap (λ (t : Token). is_name t.kind) (sym same) ∙ named, ap (slice_get more) (sym same_number) ∙ is ∙ ap (λ (t : Token). Some (spelling text t)) same))
    ];
    others = λ at other at_tokens got. elim (get_cases numbers (Some number) None at got) [
      | inl old ↦ n.others at other at_tokens old
      | inr (e, f) ↦ absurd cc
    ];
    apart = apart;
  }

  pub number_known : AreNumbered text tokens index numbers names → (number : ℕ) → is_name token.kind ≡ true → slice_get names number ≡ Some (spelling text token) →
      AreNumbered text tokens (index + 1) (numbers ++ Some number ∷ []) names
  number_known n number named is = named_old n number names named is (λ k name h. h) n.apart

  pub number_new : AreNumbered text tokens index numbers names → (number : ℕ) → is_name token.kind ≡ true →
      ((k : ℕ) → slice_get names k ≡ Some (spelling text token) → ⊥) → slice_get (names ++ spelling text token ∷ []) number ≡ Some (spelling text token) →
      AreNumbered text tokens (index + 1) (numbers ++ Some number ∷ []) (names ++ spelling text token ∷ [])
  number_new n number named absent is = named_old n number (names ++ spelling text token ∷ []) named is (λ k name h. get_old names (spelling text token) name k h) apart
    where
      apart : (k l : ℕ) (name : Name) → slice_get (names ++ spelling text token ∷ []) k ≡ Some name → slice_get (names ++ spelling text token ∷ []) l ≡ Some name → k ≡ l
      apart k l name a b = elim (get_cases names (spelling text token) name k a) [
        | inl x ↦ elim (get_cases names (spelling text token) name l b) [
          | inl y ↦ n.apart k l name x y
          | inr (e, f) ↦ absurd (absent k (x ∙ ap (λ n. Some n) (sym f)))
        ]
        | inr (e, f) ↦ elim (get_cases names (spelling text token) name l b) [
          | inl y ↦ absurd (absent l (y ∙ ap (λ n. Some n) (sym f)))
          | inr (g, h) ↦ e ∙ sym g
        ]
      ]

-- the name of a number
pub name_of : List Name → ℕ → Name
name_of names number = unwrap_or (slice_get names number) []

name_is : (names : List Name) (number : ℕ) (name : Name) → slice_get names number ≡ Some name → name_of names number ≡ name
unfolding name_of
name_is names number name h = ap (λ (o : Option Name). unwrap_or o []) h

held_some : (o : Option (Option ℕ)) (number : ℕ) → held o ≡ Some number → o ≡ Some (Some number)
held_some (Some (Some k)) number h = ap (λ x. Some x) h
held_some (Some None) number h = absurd cc
held_some None number h = absurd cc

held_none : (numbers : List (Option ℕ)) (at : ℕ) → at < length numbers → held (slice_get numbers at) ≡ None → slice_get numbers at ≡ Some None
held_none [] at low h = absurd (omega arith)
held_none (Some k ∷ numbers) zero low h = absurd cc
held_none (None ∷ numbers) zero low h = refl
held_none (n ∷ numbers) (suc at) low h = held_none numbers at (omega arith) h

get_within : (names : List Name) (k : ℕ) → k < length names → slice_get names k ≡ Some (name_of names k)
unfolding name_of
get_within [] k low = absurd (omega arith)
get_within (n ∷ names) zero low = refl
get_within (n ∷ names) (suc k) low = get_within names k (omega arith)

pub all_numbered : (text : Text) (tokens : List Token) (index count : ℕ) (numbers : List (Option ℕ)) (names : List Name) → length tokens ≤ index → count ≡ length names →
    AreNumbered text tokens index numbers names → IsNumbered text tokens numbers count (name_of names)
all_numbered text tokens index count numbers names past counted n = record {
  named = λ at token number there is.
      let h = n.named at token number there (held_some (slice_get numbers at) number is) in
      (h.0, sym (name_is names number (spelling text token) h.1), (let low = slice_get_within names number (spelling text token) h.1 in omega arith));
  others = λ at token there is. n.others at token there (held_none numbers at (let low = slice_get_within tokens at token there in let len = n.len in omega arith) is);
  apart = λ k l low high same. n.apart k l (name_of names k) (get_within names k (omega arith)) (get_within names l (omega arith) ∙ ap (λ x. Some x) (sym same));
}

-- ---- names in an ordered map

apart : (bs cs ks : List ℕ) → bytes_eq bs cs ≡ false → bytes_eq bs ks ≡ true → bytes_eq cs ks ≡ false
apart bs cs ks n y = nat_list_eq_equiv.symm cs ks ∙ sym (nat_list_eq_equiv.congr bs ks cs y) ∙ n

apart_in_order : (bs cs ks : List ℕ) → bytes_eq bs cs ≡ false → is_eq (slice_cmp nat_cmp bs ks) ≡ true → is_eq (slice_cmp nat_cmp cs ks) ≡ false
apart_in_order bs cs ks n y = is_eq-slice_cmp cs ks ∙ apart bs cs ks n (sym (is_eq-slice_cmp bs ks) ∙ y)

other_entries : {K X : Type 0} (eq : K → K → Bool) (test : K → Bool) (old new : List (K × X)) → KeepsOthers eq test old new →
    (other : K → Bool) → IsKeyTest eq other → AreApart test other → lookup other new ≡ lookup other old
unfolding KeepsOthers
other_entries eq test old new h = h

-- after a change the map has this at the name, and at other names what it had
pub number_in-update : (old new : Known) (name : Name) (what : Option ℕ) →
    UpdatesBy (λ (x y : Vec ℕ Global). slice_cmp nat_cmp x.items y.items) (λ k. slice_cmp nat_cmp name k.items) old new what →
    (other : Name) → number_in new other ≡ cond (bytes_eq name other) what (number_in old other)
number_in-update old new name what h other = elim (cases_Bool (bytes_eq name other)) [
  | inl y ↦ subst (λ l. number_in new l ≡ what) ((bytes_eq-Decides name other).0 y) h.1 ∙ sym (cond-true (bytes_eq name other) what (number_in old other) y)
  | inr n ↦ other_entries _ _ _ _ h.3 _ (λ x y. (eq_by_cmp_equiv nat_list_cmp_total).congr other x.items y.items) (λ k. apart_in_order name other k.items n)
      ∙ sym (cond-false (bytes_eq name other) what (number_in old other) n)
]

-- the map has the number of each of these names
pub record IsNaming (known : Known) (names : List Name) : Type 0 where
  pub len : btree_map_len known ≡ length names
  pub held_at : (name : Name) (number : ℕ) → number_in known name ≡ Some number → slice_get names number ≡ Some name
  pub absent : (name : Name) → number_in known name ≡ None → (number : ℕ) → slice_get names number ≡ Some name → ⊥

pub naming_none : (known : Known) → IsEmpty known → IsNaming known []
naming_none known empty = record {
  len = ap length empty;
  held_at = λ name number is. absurd (let none : number_in known name ≡ None = rw empty refl in cc);
  absent = λ name none number is. cc;
}

naming_new : (old new : Known) (name : Name) (number : ℕ) (names : List Name) → IsNaming old names → number ≡ btree_map_len old → btree_map_len new ≡ btree_map_len old + 1 →
    ((other : Name) → number_in new other ≡ cond (bytes_eq name other) (Some number) (number_in old other)) → IsNaming new (names ++ name ∷ [])
naming_new old new name number names m next len change = record {
  len = (let l = length-append names (name ∷ []) in let o = m.len in omega arith);
  held_at = λ other k is. elim (cases_Bool (bytes_eq name other)) [
    | inl y ↦ (
        let same : name ≡ other = (bytes_eq-Decides name other).0 y in
        let found : Some number ≡ Some k = sym (cond-true (bytes_eq name other) (Some number) (number_in old other) y) ∙ sym (change other) ∙ is in
        let f : number ≡ k = cc in
        let place : k ≡ length names = (let o = m.len in omega arith) in
        ap (slice_get (names ++ name ∷ [])) place ∙ get_new names name ∙ ap (λ n. Some n) same)
    | inr n ↦ get_old names name other k (m.held_at other k (sym (cond-false (bytes_eq name other) (Some number) (number_in old other) n) ∙ sym (change other) ∙ is))
  ];
  absent = λ other none k is. elim (cases_Bool (bytes_eq name other)) [
    | inl y ↦ (let found : Some number ≡ None = sym (cond-true (bytes_eq name other) (Some number) (number_in old other) y) ∙ sym (change other) ∙ none in cc)
    | inr n ↦ elim (get_cases names name other k is) [
      | inl before ↦ m.absent other (sym (cond-false (bytes_eq name other) (Some number) (number_in old other) n) ∙ sym (change other) ∙ none) k before
      | inr (e, same) ↦ (let yes = (bytes_eq-Decides name other).1 same in cc)
    ]
  ];
}

-- the tokens before `index` are numbered as the map says
pub record AreKnown (text : Text) (tokens : List Token) (index : ℕ) (numbers : List (Option ℕ)) (known : Known) : Type 0 where
  pub names : List Name
  pub numbered : AreNumbered text tokens index numbers names
  pub naming : IsNaming known names

pub known_named : (text : Text) (tokens : List Token) (index number : ℕ) (numbers : List (Option ℕ)) (old new : Known) (name : Name) (token : Token) → slice_get tokens index ≡ Some token →
    is_name token.kind ≡ true → name ≡ spelling text token → Finds old new name number → AreKnown text tokens index numbers old →
    AreKnown text tokens (index + 1) (numbers ++ Some number ∷ []) new
known_named text tokens index number numbers old new name token there named is (inl (has, same)) k = record {
  names = k.names;
  numbered = number_known text tokens index numbers k.names token there k.numbered number named (k.naming.held_at name number has ∙ ap (λ n. Some n) is);
  naming = subst (λ (m : Known). IsNaming m k.names) (sym same) k.naming;
}
known_named text tokens index number numbers old new name token there named is (inr (none, next, len, change)) k =
    let place : number ≡ length k.names = next ∙ k.naming.len in
    record {
      names = k.names ++ spelling text token ∷ [];
      numbered = number_new text tokens index numbers k.names token there k.numbered number named
          (λ i h. k.naming.absent name none i (h ∙ ap (λ n. Some n) (sym is))) (ap (slice_get (k.names ++ spelling text token ∷ [])) place ∙ get_new k.names (spelling text token));
      naming = subst (λ (n : Name). IsNaming new (k.names ++ n ∷ [])) is (naming_new old new name number k.names k.naming next len change);
    }
