-- The tests of the words of a type say what they mean.
use Rattle.std.proofs.Common.{◌≡◌, ℕ, zero, suc, ◌+◌, ◌<◌, ◌≤◌, Option, Some, None, is_some, nat_le, rules, Bool, true, false, ◌&&◌, ◌||◌, ◌==◌, cond, get_or, List, [], ◌∷◌, ◌++◌, length, replicate, sum_by, refl, sym, ap, ◌∙◌, subst, arith, inl, inr}
use Rattle.std.specs.Prelude.{IsPermutation}
use Rattle.std.proofs.lemmas.Bool.{eqb-true, cases_Bool}
use Rattle.std.proofs.lemmas.Bool.Decides.{nat_tests}
use Rattle.std.proofs.lemmas.List.Sorted.{IsPermutation-refl, IsPermutation-sym, IsPermutation-trans, IsPermutation-cons, IsPermutation-middle, IsPermutation-append_right, sum_by-IsPermutation}
use Rattle.std.proofs.lemmas.List.Recursion.{is_sum_by}
use Rattle.c_grammar.specs.declared.words.BasicWord.{BasicWord}
use Rattle.c_grammar.specs.declared.words.BasicWord.TheVariants as b
use Rattle.c_grammar.specs.declared.words.BasicType.{BasicType}
use Rattle.c_grammar.specs.declared.words.BasicType.TheVariants as t
use Rattle.c_grammar.specs.contracts.words.BasicType.{the_type as types}
use Rattle.c_grammar.specs.contracts.words.BasicWord.{the_type}
use Rattle.c_grammar.specs.Words.{spellings, Role, basic_words, whole_types, Spells, HoldsNoType, HoldsOneType, spelled, by_itself}
use denote.Enum.Bare.{sameb, same_true}
use Rattle.grammar_descent.specs.TypeWords.{times, Sign, plain, signed, unsigned, sign_of, signed_or, void_type, int_type, type_of, spelled_type, are_none, holds_no_type, holds_one_type}
use Rattle.grammar_descent.proofs.Seen.{bind_some, chosen, both, le_from}

-- ---- counts

counted : (w : BasicWord) (words : List BasicWord) → times w words ≡ sum_by (λ (v : BasicWord). cond (sameb the_type w v) 1 0) words
unfolding times
counted w words = is_sum_by (times w) (λ (v : BasicWord). cond (sameb the_type w v) 1 0) refl (λ v rest. by_test (sameb the_type w v) (times w rest)) words
  where
    by_test : (b : Bool) (n : ℕ) → cond b (suc n) n ≡ cond b 1 0 + n
    by_test true n = omega arith
    by_test false n = omega arith

-- a permutation keeps them
times_kept : (w : BasicWord) (one two : List BasicWord) → IsPermutation one two → times w one ≡ times w two
times_kept w one two same = counted w one ∙ sym (sum_by-IsPermutation (λ (v : BasicWord). cond (sameb the_type w v) 1 0) one two same) ∙ sym (counted w two)

-- ---- the words in the order of the table

unfoldable ordered : ℕ → ℕ → ℕ → ℕ → ℕ → ℕ → ℕ → List BasicWord
ordered m n o p q r s =
    replicate m b.Void ++ (replicate n b.Char ++ (replicate o b.Short ++ (replicate p b.Int ++ (replicate q b.Long
    ++ (replicate r b.Signed ++ replicate s b.Unsigned)))))

inside : (w : BasicWord) (front rest after : List BasicWord) → IsPermutation (w ∷ rest) after → IsPermutation (w ∷ (front ++ rest)) (front ++ after)
inside w front rest after same =
    IsPermutation-trans _ _ _ (IsPermutation-sym _ _ (IsPermutation-middle front w rest)) (IsPermutation-append_right front (w ∷ rest) after same)

abbrev in_order : List BasicWord → List BasicWord
in_order words =
    ordered (times b.Void words) (times b.Char words) (times b.Short words) (times b.Int words) (times b.Long words) (times b.Signed words)
    (times b.Unsigned words)

module _ (m n o p q r s : ℕ) where
  put_void : IsPermutation (b.Void ∷ ordered m n o p q r s) (ordered (suc m) n o p q r s)
  unfolding ordered
  put_void = IsPermutation-refl _

  put_char : IsPermutation (b.Char ∷ ordered m n o p q r s) (ordered m (suc n) o p q r s)
  unfolding ordered
  put_char = inside b.Char (replicate m b.Void) _ _ (IsPermutation-refl _)

  put_short : IsPermutation (b.Short ∷ ordered m n o p q r s) (ordered m n (suc o) p q r s)
  unfolding ordered
  put_short = inside b.Short (replicate m b.Void) _ _ (inside b.Short (replicate n b.Char) _ _ (IsPermutation-refl _))

  put_int : IsPermutation (b.Int ∷ ordered m n o p q r s) (ordered m n o (suc p) q r s)
  unfolding ordered
  put_int =
      inside b.Int (replicate m b.Void) _ _ (inside b.Int (replicate n b.Char) _ _ (inside b.Int (replicate o b.Short) _ _ (IsPermutation-refl _)))

  put_long : IsPermutation (b.Long ∷ ordered m n o p q r s) (ordered m n o p (suc q) r s)
  unfolding ordered
  put_long =
      inside b.Long (replicate m b.Void) _ _ (inside b.Long (replicate n b.Char) _ _ (inside b.Long (replicate o b.Short) _ _
      (inside b.Long (replicate p b.Int) _ _ (IsPermutation-refl _))))

  put_signed : IsPermutation (b.Signed ∷ ordered m n o p q r s) (ordered m n o p q (suc r) s)
  unfolding ordered
  put_signed =
      inside b.Signed (replicate m b.Void) _ _ (inside b.Signed (replicate n b.Char) _ _ (inside b.Signed (replicate o b.Short) _ _
      (inside b.Signed (replicate p b.Int) _ _ (inside b.Signed (replicate q b.Long) _ _ (IsPermutation-refl _)))))

  put_unsigned : IsPermutation (b.Unsigned ∷ ordered m n o p q r s) (ordered m n o p q r (suc s))
  unfolding ordered
  put_unsigned =
      inside b.Unsigned (replicate m b.Void) _ _ (inside b.Unsigned (replicate n b.Char) _ _ (inside b.Unsigned (replicate o b.Short) _ _
      (inside b.Unsigned (replicate p b.Int) _ _ (inside b.Unsigned (replicate q b.Long) _ _
      (inside b.Unsigned (replicate r b.Signed) _ _ (IsPermutation-refl _))))))

put_first : (w : BasicWord) (words : List BasicWord) → IsPermutation (w ∷ in_order words) (in_order (w ∷ words))
unfolding times
put_first b.Void words = put_void _ _ _ _ _ _ _
put_first b.Char words = put_char _ _ _ _ _ _ _
put_first b.Short words = put_short _ _ _ _ _ _ _
put_first b.Int words = put_int _ _ _ _ _ _ _
put_first b.Long words = put_long _ _ _ _ _ _ _
put_first b.Signed words = put_signed _ _ _ _ _ _ _
put_first b.Unsigned words = put_unsigned _ _ _ _ _ _ _

sorted : (words : List BasicWord) → IsPermutation words (in_order words)
unfolding ordered times
sorted [] = IsPermutation-refl []
sorted (w ∷ words) = IsPermutation-trans _ _ _ (IsPermutation-cons w words (in_order words) (sorted words)) (put_first w words)

-- ---- words that stand so often

record Counts (words : List BasicWord) (void char short int long m n : ℕ) : Type 0 where
  voids : times b.Void words ≡ void
  chars : times b.Char words ≡ char
  shorts : times b.Short words ≡ short
  ints : times b.Int words ≡ int
  longs : times b.Long words ≡ long
  signeds : times b.Signed words ≡ m
  unsigneds : times b.Unsigned words ≡ n

shuffled : (row words : List BasicWord) →
    Counts words (times b.Void row) (times b.Char row) (times b.Short row) (times b.Int row) (times b.Long row) (times b.Signed row) (times b.Unsigned row) →
    IsPermutation row words
shuffled row words is =
    let e : in_order words ≡ in_order row = rw (is.voids, is.chars, is.shorts, is.ints, is.longs, is.signeds, is.unsigneds) refl in
    IsPermutation-trans _ _ _ (sorted row) (subst (λ l. IsPermutation l words) e (IsPermutation-sym _ _ (sorted words)))

row_spells : (words : List BasicWord) (at : ℕ) (row : List BasicWord) (type : BasicType) → at < length spellings → get_or spellings at (row, type) ≡ (row, type) →
    IsPermutation row words → Spells words type
row_spells words at row type low is same = record { row = row; stands = (at, low, is); is = same }

abbrev signed_count : Sign → ℕ
signed_count plain = 0
signed_count signed = 1
signed_count unsigned = 0

abbrev unsigned_count : Sign → ℕ
unsigned_count plain = 0
unsigned_count signed = 0
unsigned_count unsigned = 1

void_spells : (words : List BasicWord) (sign : Sign) (type : BasicType) → Counts words 1 0 0 0 0 (signed_count sign) (unsigned_count sign) → void_type sign ≡ Some type →
    Spells words type
unfolding times
void_spells words plain type is h = let e : t.Void ≡ type = cc in subst (Spells words) e (row_spells words 0 (b.Void ∷ []) t.Void (omega arith) refl (shuffled (b.Void ∷ []) words is))
void_spells words signed type is h = absurd cc
void_spells words unsigned type is h = absurd cc

char_spells : (words : List BasicWord) (sign : Sign) → Counts words 0 1 0 0 0 (signed_count sign) (unsigned_count sign) → Spells words (signed_or sign t.Char t.UnsignedChar)
unfolding times
char_spells words plain is = row_spells words 1 (b.Char ∷ []) t.Char (omega arith) refl (shuffled (b.Char ∷ []) words is)
char_spells words signed is = row_spells words 2 (b.Signed ∷ b.Char ∷ []) t.Char (omega arith) refl (shuffled (b.Signed ∷ b.Char ∷ []) words is)
char_spells words unsigned is = row_spells words 3 (b.Unsigned ∷ b.Char ∷ []) t.UnsignedChar (omega arith) refl (shuffled (b.Unsigned ∷ b.Char ∷ []) words is)

short_spells : (words : List BasicWord) (int : ℕ) (sign : Sign) → int ≤ 1 → Counts words 0 0 1 int 0 (signed_count sign) (unsigned_count sign) →
    Spells words (signed_or sign t.Short t.UnsignedShort)
unfolding times
short_spells words zero plain low is = row_spells words 4 (b.Short ∷ []) t.Short (omega arith) refl (shuffled (b.Short ∷ []) words is)
short_spells words zero signed low is = row_spells words 5 (b.Signed ∷ b.Short ∷ []) t.Short (omega arith) refl (shuffled (b.Signed ∷ b.Short ∷ []) words is)
short_spells words zero unsigned low is = row_spells words 8 (b.Unsigned ∷ b.Short ∷ []) t.UnsignedShort (omega arith) refl (shuffled (b.Unsigned ∷ b.Short ∷ []) words is)
short_spells words (suc zero) plain low is = row_spells words 6 (b.Short ∷ b.Int ∷ []) t.Short (omega arith) refl (shuffled (b.Short ∷ b.Int ∷ []) words is)
short_spells words (suc zero) signed low is = row_spells words 7 (b.Signed ∷ b.Short ∷ b.Int ∷ []) t.Short (omega arith) refl (shuffled (b.Signed ∷ b.Short ∷ b.Int ∷ []) words is)
short_spells words (suc zero) unsigned low is = row_spells words 9 (b.Unsigned ∷ b.Short ∷ b.Int ∷ []) t.UnsignedShort (omega arith) refl (shuffled (b.Unsigned ∷ b.Short ∷ b.Int ∷ []) words is)
short_spells words (suc (suc int)) sign low is = absurd (omega arith)

long_spells : (words : List BasicWord) (int long : ℕ) (sign : Sign) → int ≤ 1 → 1 ≤ long → long ≤ 2 →
    Counts words 0 0 0 int long (signed_count sign) (unsigned_count sign) → Spells words (signed_or sign t.Long t.UnsignedLong)
unfolding times
long_spells words int zero sign low some few is = absurd (omega arith)
long_spells words zero (suc zero) plain low some few is = row_spells words 15 (b.Long ∷ []) t.Long (omega arith) refl (shuffled (b.Long ∷ []) words is)
long_spells words zero (suc zero) signed low some few is = row_spells words 16 (b.Signed ∷ b.Long ∷ []) t.Long (omega arith) refl (shuffled (b.Signed ∷ b.Long ∷ []) words is)
long_spells words zero (suc zero) unsigned low some few is = row_spells words 19 (b.Unsigned ∷ b.Long ∷ []) t.UnsignedLong (omega arith) refl (shuffled (b.Unsigned ∷ b.Long ∷ []) words is)
long_spells words (suc zero) (suc zero) plain low some few is = row_spells words 17 (b.Long ∷ b.Int ∷ []) t.Long (omega arith) refl (shuffled (b.Long ∷ b.Int ∷ []) words is)
long_spells words (suc zero) (suc zero) signed low some few is = row_spells words 18 (b.Signed ∷ b.Long ∷ b.Int ∷ []) t.Long (omega arith) refl (shuffled (b.Signed ∷ b.Long ∷ b.Int ∷ []) words is)
long_spells words (suc zero) (suc zero) unsigned low some few is = row_spells words 20 (b.Unsigned ∷ b.Long ∷ b.Int ∷ []) t.UnsignedLong (omega arith) refl (shuffled (b.Unsigned ∷ b.Long ∷ b.Int ∷ []) words is)
long_spells words (suc (suc int)) (suc zero) sign low some few is = absurd (omega arith)
long_spells words zero (suc (suc zero)) plain low some few is = row_spells words 21 (b.Long ∷ b.Long ∷ []) t.Long (omega arith) refl (shuffled (b.Long ∷ b.Long ∷ []) words is)
long_spells words zero (suc (suc zero)) signed low some few is = row_spells words 22 (b.Signed ∷ b.Long ∷ b.Long ∷ []) t.Long (omega arith) refl (shuffled (b.Signed ∷ b.Long ∷ b.Long ∷ []) words is)
long_spells words zero (suc (suc zero)) unsigned low some few is = row_spells words 25 (b.Unsigned ∷ b.Long ∷ b.Long ∷ []) t.UnsignedLong (omega arith) refl (shuffled (b.Unsigned ∷ b.Long ∷ b.Long ∷ []) words is)
long_spells words (suc zero) (suc (suc zero)) plain low some few is = row_spells words 23 (b.Long ∷ b.Long ∷ b.Int ∷ []) t.Long (omega arith) refl (shuffled (b.Long ∷ b.Long ∷ b.Int ∷ []) words is)
long_spells words (suc zero) (suc (suc zero)) signed low some few is = row_spells words 24 (b.Signed ∷ b.Long ∷ b.Long ∷ b.Int ∷ []) t.Long (omega arith) refl (shuffled (b.Signed ∷ b.Long ∷ b.Long ∷ b.Int ∷ []) words is)
long_spells words (suc zero) (suc (suc zero)) unsigned low some few is = row_spells words 26 (b.Unsigned ∷ b.Long ∷ b.Long ∷ b.Int ∷ []) t.UnsignedLong (omega arith) refl (shuffled (b.Unsigned ∷ b.Long ∷ b.Long ∷ b.Int ∷ []) words is)
long_spells words (suc (suc int)) (suc (suc zero)) sign low some few is = absurd (omega arith)
long_spells words int (suc (suc (suc long))) sign low some few is = absurd (omega arith)

few_ints : (int : ℕ) (b : Bool) (one : Option BasicType) (type : BasicType) → (b ≡ true → ⊥) → cond b one None ≡ Some type → ⊥
few_ints int true one type none h = none refl
few_ints int false one type none h = cc

int_spells : (words : List BasicWord) (int : ℕ) (sign : Sign) (type : BasicType) → Counts words 0 0 0 int 0 (signed_count sign) (unsigned_count sign) →
    int_type int sign ≡ Some type → Spells words type
unfolding times
int_spells words zero plain type is h = absurd cc
int_spells words (suc zero) plain type is h = let e : t.Int ≡ type = cc in subst (Spells words) e (row_spells words 10 (b.Int ∷ []) t.Int (omega arith) refl (shuffled (b.Int ∷ []) words is))
int_spells words (suc (suc int)) plain type is h = absurd (few_ints int (suc (suc int) == 1) (Some t.Int) type (λ e. omega (arith, eqb-true (suc (suc int)) 1 e)) h)
int_spells words zero signed type is h = let e : t.Int ≡ type = cc in subst (Spells words) e (row_spells words 11 (b.Signed ∷ []) t.Int (omega arith) refl (shuffled (b.Signed ∷ []) words is))
int_spells words (suc zero) signed type is h = let e : t.Int ≡ type = cc in subst (Spells words) e (row_spells words 12 (b.Signed ∷ b.Int ∷ []) t.Int (omega arith) refl (shuffled (b.Signed ∷ b.Int ∷ []) words is))
int_spells words (suc (suc int)) signed type is h = absurd (few_ints int (nat_le (suc (suc int)) 1) (Some t.Int) type (λ e. omega (arith, le_from (suc (suc int)) 1 e)) h)
int_spells words zero unsigned type is h = let e : t.UnsignedInt ≡ type = cc in subst (Spells words) e (row_spells words 13 (b.Unsigned ∷ []) t.UnsignedInt (omega arith) refl (shuffled (b.Unsigned ∷ []) words is))
int_spells words (suc zero) unsigned type is h = let e : t.UnsignedInt ≡ type = cc in subst (Spells words) e (row_spells words 14 (b.Unsigned ∷ b.Int ∷ []) t.UnsignedInt (omega arith) refl (shuffled (b.Unsigned ∷ b.Int ∷ []) words is))
int_spells words (suc (suc int)) unsigned type is h =
    absurd (few_ints int (nat_le (suc (suc int)) 1) (Some t.UnsignedInt) type (λ e. omega (arith, le_from (suc (suc int)) 1 e)) h)

sign_counts : (m n : ℕ) (sign : Sign) → sign_of m n ≡ Some sign → (m ≡ signed_count sign) × (n ≡ unsigned_count sign)
sign_counts m n sign h = elim (chosen (n == 0) _ _ (Some sign) h) [
  | inl c ↦ elim (chosen (m == 0) _ _ (Some sign) c.1) [
    | inl e ↦ (let i : plain ≡ sign = (let j = e.1 in cc) in subst (λ s. (m ≡ signed_count s) × (n ≡ unsigned_count s)) i (eqb-true m 0 e.0, eqb-true n 0 c.0))
    | inr e ↦ elim (chosen (m == 1) _ _ (Some sign) e.1) [
      | inl f ↦ (let i : signed ≡ sign = (let j = f.1 in cc) in subst (λ s. (m ≡ signed_count s) × (n ≡ unsigned_count s)) i (eqb-true m 1 f.0, eqb-true n 0 c.0))
      | inr f ↦ absurd (let j = f.1 in cc)
    ]
  ]
  | inr c ↦ elim (chosen (n == 1 && m == 0) _ _ (Some sign) c.1) [
    | inl e ↦ (
        let (one, none) = both (n == 1) (m == 0) e.0 in
        let i : unsigned ≡ sign = (let j = e.1 in cc) in
        subst (λ s. (m ≡ signed_count s) × (n ≡ unsigned_count s)) i (eqb-true m 0 none, eqb-true n 1 one))
    | inr e ↦ absurd (let j = e.1 in cc)
  ]
]

counts_as : (words : List BasicWord) (v c s i l v1 c1 s1 i1 l1 m n : ℕ) → Counts words v c s i l m n → v ≡ v1 → c ≡ c1 → s ≡ s1 → i ≡ i1 → l ≡ l1 →
    Counts words v1 c1 s1 i1 l1 m n
counts_as words v c s i l v1 c1 s1 i1 l1 m n is a b d e f = record {
  voids = is.voids ∙ a;
  chars = is.chars ∙ b;
  shorts = is.shorts ∙ d;
  ints = is.ints ∙ e;
  longs = is.longs ∙ f;
  signeds = is.signeds;
  unsigneds = is.unsigneds;
}

module _ (words : List BasicWord) (v c s i l : ℕ) (sign : Sign) (type : BasicType)
    (is : Counts words v c s i l (signed_count sign) (unsigned_count sign)) where
  counts : (v1 c1 s1 i1 l1 : ℕ) → v ≡ v1 → c ≡ c1 → s ≡ s1 → i ≡ i1 → l ≡ l1 → Counts words v1 c1 s1 i1 l1 (signed_count sign) (unsigned_count sign)
  counts v1 c1 s1 i1 l1 a b d e f = counts_as words v c s i l v1 c1 s1 i1 l1 _ _ is a b d e f

  small_sound : s ≡ 0 → l ≡ 0 →
      cond (c == 0) (cond (v == 0) (int_type i sign) (cond (v == 1 && i == 0) (void_type sign) None))
      (cond (c == 1 && (v == 0 && i == 0)) (Some (signed_or sign t.Char t.UnsignedChar)) None) ≡ Some type →
      Spells words type
  small_sound no_short no_long h = elim (chosen (c == 0) _ _ (Some type) h) [
    | inl a ↦ elim (chosen (v == 0) _ _ (Some type) a.1) [
      | inl e ↦ int_spells words i sign type (counts 0 0 0 i 0 (eqb-true v 0 e.0) (eqb-true c 0 a.0) no_short refl no_long) e.1
      | inr e ↦ elim (chosen (v == 1 && i == 0) _ None (Some type) e.1) [
        | inl f ↦ (
            let (one, none) = both (v == 1) (i == 0) f.0 in
            void_spells words sign type (counts 1 0 0 0 0 (eqb-true v 1 one) (eqb-true c 0 a.0) no_short (eqb-true i 0 none) no_long) f.1)
        | inr f ↦ absurd (let j = f.1 in cc)
      ]
    ]
    | inr a ↦ elim (chosen (c == 1 && (v == 0 && i == 0)) _ None (Some type) a.1) [
      | inl e ↦ (
          let (one, rest) = both (c == 1) (v == 0 && i == 0) e.0 in
          let (none, no_int) = both (v == 0) (i == 0) rest in
          let same : signed_or sign t.Char t.UnsignedChar ≡ type = (let j = e.1 in cc) in
          subst (Spells words) same (char_spells words sign (counts 0 1 0 0 0 (eqb-true v 0 none) (eqb-true c 1 one) no_short (eqb-true i 0 no_int) no_long)))
      | inr e ↦ absurd (let j = e.1 in cc)
    ]
  ]

  counts_sound : type_of v c s i l sign ≡ Some type → Spells words type
  counts_sound h = elim (chosen (l == 0) _ _ (Some type) h) [
    | inl a ↦ elim (chosen (s == 0) _ _ (Some type) a.1) [
      | inl e ↦ small_sound (eqb-true s 0 e.0) (eqb-true l 0 a.0) e.1
      | inr e ↦ elim (chosen (s == 1 && (c == 0 && (v == 0 && nat_le i 1))) _ None (Some type) e.1) [
        | inl f ↦ (
            let (one, rest) = both (s == 1) (c == 0 && (v == 0 && nat_le i 1)) f.0 in
            let (no_char, rest2) = both (c == 0) (v == 0 && nat_le i 1) rest in
            let (none, low) = both (v == 0) (nat_le i 1) rest2 in
            let same : signed_or sign t.Short t.UnsignedShort ≡ type = (let j = f.1 in cc) in
            subst (Spells words) same
            (short_spells words i sign (le_from i 1 low) (counts 0 0 1 i 0 (eqb-true v 0 none) (eqb-true c 0 no_char) (eqb-true s 1 one) refl (eqb-true l 0 a.0))))
        | inr f ↦ absurd (let j = f.1 in cc)
      ]
    ]
    | inr a ↦ elim (chosen (nat_le l 2 && (s == 0 && (c == 0 && (v == 0 && nat_le i 1)))) _ None (Some type) a.1) [
      | inl e ↦ (
          let (few, rest) = both (nat_le l 2) (s == 0 && (c == 0 && (v == 0 && nat_le i 1))) e.0 in
          let (no_short, rest2) = both (s == 0) (c == 0 && (v == 0 && nat_le i 1)) rest in
          let (no_char, rest3) = both (c == 0) (v == 0 && nat_le i 1) rest2 in
          let (none, low) = both (v == 0) (nat_le i 1) rest3 in
          let some : 1 ≤ l = grind (arith, nat_tests) in
          let same : signed_or sign t.Long t.UnsignedLong ≡ type = (let j = e.1 in cc) in
          subst (Spells words) same
          (long_spells words i l sign (le_from i 1 low) some (le_from l 2 few)
          (counts 0 0 0 i l (eqb-true v 0 none) (eqb-true c 0 no_char) (eqb-true s 0 no_short) refl refl)))
      | inr e ↦ absurd (let j = e.1 in cc)
    ]
  ]

pub spelled_sound : (words : List BasicWord) (type : BasicType) → spelled_type words ≡ Some type → Spells words type
unfolding spelled_type
spelled_sound words type h =
    let (sign, is, h1) = bind_some (sign_of (times b.Signed words) (times b.Unsigned words)) _ type h in
    let (m, n) = sign_counts (times b.Signed words) (times b.Unsigned words) sign is in
    counts_sound words (times b.Void words) (times b.Char words) (times b.Short words) (times b.Int words) (times b.Long words) sign type
    (record { voids = refl; chars = refl; shorts = refl; ints = refl; longs = refl; signeds = m; unsigneds = n }) h1

-- ---- and each row of the table

spelled_kept : (one two : List BasicWord) → IsPermutation one two → spelled_type two ≡ spelled_type one
unfolding spelled_type
spelled_kept one two same =
    let e = times_kept b.Void one two same in
    let f = times_kept b.Char one two same in
    let g = times_kept b.Short one two same in
    let h = times_kept b.Int one two same in
    let i = times_kept b.Long one two same in
    let j = times_kept b.Signed one two same in
    let l = times_kept b.Unsigned one two same in
    rw (e, f, g, h, i, j, l) refl

abbrev is_answer : Option BasicType → BasicType → Bool
is_answer (Some found) type = sameb types found type
is_answer None type = false

abbrev rows_agree : List (List BasicWord × BasicType) → Bool
rows_agree [] = true
rows_agree (row ∷ rows) = is_answer (spelled_type row.0) row.1 && rows_agree rows

answered : (found : Option BasicType) (type : BasicType) → is_answer found type ≡ true → found ≡ Some type
answered (Some found) type h = ap (λ l. Some l) (same_true types (search rules) found type h)
answered None type h = absurd cc

row_found : (rows : List (List BasicWord × BasicType)) → rows_agree rows ≡ true → (row : List BasicWord) (type : BasicType) (at : ℕ) → at < length rows →
    get_or rows at (row, type) ≡ (row, type) → spelled_type row ≡ Some type
row_found [] agree row type at low is = absurd (omega arith)
row_found (first ∷ rows) agree row type zero low is =
    let (one, rest) = both (is_answer (spelled_type first.0) first.1) (rows_agree rows) agree in
    let e : first.0 ≡ row = ap (λ (p : List BasicWord × BasicType). p.0) is in
    let f : first.1 ≡ type = ap (λ (p : List BasicWord × BasicType). p.1) is in
    subst (λ l. spelled_type l ≡ Some type) e (subst (λ l. spelled_type first.0 ≡ Some l) f (answered (spelled_type first.0) first.1 one))
row_found (first ∷ rows) agree row type (suc at) low is =
    row_found rows (both (is_answer (spelled_type first.0) first.1) (rows_agree rows) agree).1 row type at (omega arith) is

table_agrees : rows_agree spellings ≡ true
unfolding spelled_type times
table_agrees = refl

pub spelled_found : {words : List BasicWord} {type : BasicType} → Spells words type → spelled_type words ≡ Some type
spelled_found {words} {type} s = spelled_kept s.row words s.is ∙ row_found spellings table_agrees s.row type s.stands.0 s.stands.1 s.stands.2

-- ---- one type, or none

none_at_all : (words : List BasicWord) → are_none words ≡ true → words ≡ []
none_at_all [] h = refl
none_at_all (w ∷ words) h = absurd cc

pub one_type_found : {roles : List Role} → HoldsOneType roles → holds_one_type roles ≡ true
unfolding holds_one_type
one_type_found {roles} (spelled {type} s none) = rw (spelled_found s, none) refl
one_type_found {roles} (by_itself none one) = by_test (is_some (spelled_type (basic_words roles)) && whole_types roles == 0)
  where
    by_test : (b : Bool) → (b || (are_none (basic_words roles) && whole_types roles == 1)) ≡ true
    by_test true = refl
    by_test false = rw (none, one) refl

some_type : (roles : List Role) (found : Option BasicType) → spelled_type (basic_words roles) ≡ found → is_some found ≡ true → whole_types roles ≡ 0 → HoldsOneType roles
some_type roles (Some type) is some none = spelled (spelled_sound (basic_words roles) type is) none
some_type roles None is some none = absurd cc

pub one_type_sound : (roles : List Role) → holds_one_type roles ≡ true → HoldsOneType roles
unfolding holds_one_type
one_type_sound roles h = elim (cases_Bool (is_some (spelled_type (basic_words roles)) && whole_types roles == 0)) [
  | inl c ↦ (
      let (some, none) = both (is_some (spelled_type (basic_words roles))) (whole_types roles == 0) c in
      some_type roles (spelled_type (basic_words roles)) refl some (eqb-true _ _ none))
  | inr c ↦ (
      let (none, one) = both (are_none (basic_words roles)) _ (rw c at h) in
      by_itself (none_at_all _ none) (eqb-true _ _ one))
]

pub no_type_found : {roles : List Role} → HoldsNoType roles → holds_no_type roles ≡ true
unfolding holds_no_type
no_type_found h = rw (h.no_word, h.no_whole) refl

pub no_type_sound : (roles : List Role) → holds_no_type roles ≡ true → HoldsNoType roles
unfolding holds_no_type
no_type_sound roles h =
    let (none, whole) = both (are_none (basic_words roles)) _ h in
    record { no_word = none_at_all _ none; no_whole = eqb-true _ _ whole }

-- where there is one type, there is not none
pub not_none : {roles : List Role} → HoldsOneType roles → holds_no_type roles ≡ false
unfolding holds_one_type spelled_type times
not_none {roles} one = elim (cases_Bool (holds_no_type roles)) [
  | inl c ↦ (
      let none = no_type_sound roles c in
      let no_word = none.no_word in
      let no_whole = none.no_whole in
      let found = one_type_found one in
      absurd (let h = rw (no_word, no_whole) at found in cc))
  | inr c ↦ c
]
