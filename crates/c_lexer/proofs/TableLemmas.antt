-- Tables of words.
use Rattle.std.proofs.Common.{◌≡◌, ℕ, ◌≤◌, Bool, true, false, not, ◌&&◌, inl, inr, List, [], ◌∷◌, ◌++◌, length, take, drop, Some, None, refl, sym, ap, subst, ◌∙◌, arith, cond}
use Rattle.std.proofs.lemmas.Bool.{cases_lt}
use Rattle.std.proofs.Math.Seq.{take-append_seam}
use Rattle.std.proofs.lemmas.List.{take-append-le, take-append-drop}
use Rattle.std.proofs.lemmas.Slice.Eq.{bytes_eq-Decides}
use Rattle.std.specs.Str.{bytes_eq}
use Rattle.c_tokens.specs.Words.{Among}
use Rattle.c_lexer.specs.Bytes.{Text}
use Rattle.c_lexer.specs.Scan.{begins, first_match}

pub bytes_same : (a b : Text) → bytes_eq a b ≡ true → a ≡ b
bytes_same a b h = (bytes_eq-Decides a b).0 h

pub bytes_self : (a : Text) → bytes_eq a a ≡ true
bytes_self a = (bytes_eq-Decides a a).1 refl

-- a front of the text is seen
pub begins-front : (s word after : Text) → s ≡ word ++ after → begins s word ≡ true
begins-front s word after h = rw (h, take-append_seam word after) (bytes_self word)

-- what is seen is a front
pub front-begins : (s word : Text) → begins s word ≡ true → s ≡ word ++ drop (length word) s
front-begins s word h =
    let e = bytes_same word (take (length word) s) h in
    sym (take-append-drop (length word) s) ∙ ap (λ w. w ++ drop (length word) s) (sym e)

-- of two fronts the shorter begins the longer
pub front_of_front : (s a x b y : Text) → s ≡ a ++ x → s ≡ b ++ y → length a ≤ length b → begins b a ≡ true
front_of_front s a x b y p q h =
    let e : take (length a) b ≡ a = sym (take-append-le (length a) b y h) ∙ ap (take (length a)) (sym q ∙ p) ∙ take-append_seam a x in
    rw e (bytes_self a)

-- two fronts of one length are one
pub front_same : (s a x b y : Text) → s ≡ a ++ x → s ≡ b ++ y → length a ≡ length b → a ≡ b
front_same s a x b y p q h =
    sym (take-append_seam a x) ∙ ap (take (length a)) (sym p ∙ q) ∙ ap (λ n. take n (b ++ y)) h ∙ take-append_seam b y

-- no word of the table begins with this one
abbrev pub unlike : {K : Type 0} → Text → List (K × Text) → Bool
unlike word [] = true
unlike word (e ∷ t) = not (begins e.1 word) && unlike word t

-- no word begins with an earlier one
abbrev pub ordered : {K : Type 0} → List (K × Text) → Bool
ordered [] = true
ordered (e ∷ t) = unlike e.1 t && ordered t

pub both : (a b : Bool) → (a && b) ≡ true → (a ≡ true) × (b ≡ true)
both true true h = (refl, refl)
both true false h = absurd cc
both false b h = absurd cc

negated : (a : Bool) → not a ≡ true → a ≡ false
negated true h = absurd cc
negated false h = refl

unlike_among : {K : Type 0} (word : Text) (t : List (K × Text)) (kind : K) (other : Text) → unlike word t ≡ true → Among t kind other → begins other word ≡ false
unlike_among word (e ∷ t) kind other h m =
    let (a, b) = both (not (begins e.1 word)) (unlike word t) h in
    elim m [
      | inl is ↦ subst (λ w. begins w word ≡ false) is.1 (negated _ a)
      | inr later ↦ unlike_among word t kind other b later
    ]
unlike_among word [] kind other h m = elim m [ ]

-- What the first match is, and that no other word of the table is a longer front.
pub record IsMatch {K : Type 0} (t : List (K × Text)) (s : Text) (kind : K) (n : ℕ) : Type 0 where
  pub word : Text
  pub among : Among t kind word
  pub sees : begins s word ≡ true
  pub len : n ≡ length word
  pub longest : (other : Text) (otherwise : K) → Among t otherwise other → begins s other ≡ true → length other ≤ length word

pub first_is : {K : Type 0} (t : List (K × Text)) (s : Text) (kind : K) (n : ℕ) → ordered t ≡ true → first_match t s ≡ Some (kind, n) → IsMatch t s kind n
first_is [] s kind n o h = absurd cc
first_is {K} (e ∷ t) s kind n o h = at_test (begins s e.1) refl h (first_is t s kind n (both (unlike e.1 t) (ordered t) o).1)
  where
    low : (other : Text) (otherwise : K) → begins s e.1 ≡ true → Among (e ∷ t) otherwise other → begins s other ≡ true → length other ≤ length e.1
    low other otherwise sees m also = elim m [
      | inl is ↦ (let i = ap length is.1 in omega arith)
      | inr later ↦ elim (cases_lt (length e.1) (length other)) [
        | inl less ↦ (
            let no = unlike_among e.1 t otherwise other (both (unlike e.1 t) (ordered t) o).0 later in
            let yes = front_of_front s e.1 _ other _ (front-begins s e.1 sees) (front-begins s other also) (omega arith) in
            absurd cc)
        | inr most ↦ most
      ]
    ]

    at_test : (b : Bool) → begins s e.1 ≡ b → cond b (Some (e.0, length e.1)) (first_match t s) ≡ Some (kind, n) →
        (first_match t s ≡ Some (kind, n) → IsMatch t s kind n) → IsMatch (e ∷ t) s kind n
    at_test true sees h rest =
        let p : ◌≡◌ {A = K × ℕ} (e.0, length e.1) (kind, n) = cc in
        record { word = e.1; among = inl (ap (λ r. r.0) p, refl); sees = sees; len = ap (λ r. r.1) (sym p); longest = λ other otherwise m also. low other otherwise sees m also }
    at_test false sees h rest =
        let r = rest h in
        record {
          word = r.word;
          among = inr r.among;
          sees = r.sees;
          len = r.len;
          longest = λ other otherwise m also. elim m [
            | inl is ↦ (let now = subst (λ w. begins s w ≡ false) is.1 sees in absurd cc)
            | inr later ↦ r.longest other otherwise later also
          ];
        }

pub none_matches : {K : Type 0} (t : List (K × Text)) (s : Text) (kind : K) (word : Text) → first_match t s ≡ None → Among t kind word → begins s word ≡ true → ⊥
none_matches [] s kind word h m sees = m
none_matches {K} (e ∷ t) s kind word h m sees = at_test (begins s e.1) refl h (λ h later. none_matches t s kind word h later sees)
  where
    at_test : (b : Bool) → begins s e.1 ≡ b → cond b (Some (e.0, length e.1)) (first_match t s) ≡ None →
        (first_match t s ≡ None → Among t kind word → ⊥) → ⊥
    at_test true is h rest = cc
    at_test false is h rest = elim m [
      | inl same ↦ (let now = subst (λ w. begins s w ≡ false) same.1 is in cc)
      | inr later ↦ rest h later
    ]

-- no word of the table is this one
abbrev pub differs : {K : Type 0} → Text → List (K × Text) → Bool
differs word [] = true
differs word (e ∷ t) = not (bytes_eq e.1 word) && differs word t

abbrev pub distinct : {K : Type 0} → List (K × Text) → Bool
distinct [] = true
distinct (e ∷ t) = differs e.1 t && distinct t

differs_among : {K : Type 0} (word : Text) (t : List (K × Text)) (kind : K) (other : Text) → other ≡ word → differs word t ≡ true → Among t kind other → ⊥
differs_among word [] kind other same h m = elim m [ ]
differs_among word (e ∷ t) kind other same h m =
    let (a, b) = both (not (bytes_eq e.1 word)) (differs word t) h in
    elim m [
      | inl is ↦ (let no = negated _ a in let yes = subst (λ w. bytes_eq e.1 w ≡ true) (is.1 ∙ same) (bytes_self e.1) in cc)
      | inr later ↦ differs_among word t kind other same b later
    ]

-- one word has one entry
pub one_entry : {K : Type 0} (t : List (K × Text)) (word : Text) (a b : K) → distinct t ≡ true → Among t a word → Among t b word → a ≡ b
one_entry [] word a b o m n = elim m [ ]
one_entry (e ∷ t) word a b o m n =
    let (apart, rest) = both (differs e.1 t) (distinct t) o in
    elim m [
      | inl is ↦ elim n [
        | inl also ↦ sym is.0 ∙ also.0
        | inr later ↦ absurd (differs_among e.1 t b word (sym is.1) apart later)
      ]
      | inr later ↦ elim n [
        | inl also ↦ absurd (differs_among e.1 t a word (sym also.1) apart later)
        | inr further ↦ one_entry t word a b rest later further
      ]
    ]
