-- All parts of a format are read, and where no format goes on the reading stops.
use Rattle.std.proofs.Common.{◌≡◌, ◌≢◌, ℕ, zero, suc, ◌+◌, ◌*◌, ◌/◌, ◌%◌, ◌<◌, ◌≤◌, inl, inr, Bool, true, false, List, [], ◌∷◌, ◌++◌, length, take, Ok, Err, refl, sym, ap, subst, ◌∙◌, arith, append_assoc}
use Rattle.std.specs.Prelude.{codes}
use Rattle.std.proofs.lemmas.Bool.{cases_lt}
use Rattle.c_print.specs.declared.machine.Effect.{Effect}
use Rattle.c_print.specs.declared.machine.Effect.TheVariants as effect
use Rattle.c_print.specs.declared.machine.Kind.{Kind}
use Rattle.c_print.specs.declared.machine.Kind.TheVariants as kind
use Rattle.c_print.specs.declared.machine.State.{State}
use Rattle.c_print.specs.declared.machine.State.TheVariants as state
use Rattle.c_print.specs.declared.parts.Flag.{Flag}
use Rattle.c_print.specs.declared.parts.Flag.TheVariants as flag
use Rattle.c_print.specs.declared.parts.Letter.{Letter}
use Rattle.c_print.specs.declared.parts.Letter.TheVariants.{D, I, U, X, C}
use Rattle.c_print.specs.declared.parts.Part.{Part}
use Rattle.c_print.specs.declared.parts.Part.TheVariants as part
use Rattle.c_print.specs.Formats.{percent, flag_bytes, letter_byte, spelling, IsFilling, IsModifier, none, ell, ells, zed, Converts, whole, single, string, joined, Parts, end, plain, two_percents, converted, BreaksAt}
use Rattle.c_print.specs.Machine.{whole_kind, letter_kind, kind_of, byte_or_wrong, str_or_wrong, outside, read, effect_of, Reading, onto, next, reading}
use Rattle.c_print.proofs.ByteKinds.{byte_of, kinds, kind_of-digit, width_bytes-digit, width_bytes-digits}
use Rattle.c_print.proofs.Sound.{spelling-append, beginning_found}

-- ---- effects

plain_kind : (k : Kind) (b : ℕ) → b ≡ byte_of k b → b ≢ percent → outside b k ≡ effect.Plain b
plain_kind kind.Percent b same ne = absurd (ne same)
plain_kind _ b same ne = refl

plain_effect : (b : ℕ) → b ≢ percent → effect_of state.Outside b ≡ effect.Plain b
unfolding effect_of
plain_effect b ne = let has = kinds b in plain_kind (kind_of b) b has.same ne

-- a state in which a flag and a width stand before what may come
record Accepts (s : State) (f : Flag) (width : ℕ) : Type 0 where
  ell : effect_of s 108 ≡ effect.Goes (state.Ell f width)
  zed : effect_of s 122 ≡ effect.Goes (state.Zed f width)
  single : effect_of s 99 ≡ byte_or_wrong f width
  string : effect_of s 115 ≡ str_or_wrong f width
  whole : (letter : Letter) → letter ≢ C → effect_of s (letter_byte letter) ≡ effect.Number letter f width false

accepts_percent : Accepts state.Percent flag.Bare 0
unfolding effect_of kind_of letter_kind whole_kind
accepts_percent = record { ell = refl; zed = refl; single = refl; string = refl; whole = letters }
  where
    letters : (letter : Letter) → letter ≢ C →
        effect_of state.Percent (letter_byte letter) ≡ effect.Number letter flag.Bare 0 false
    letters D ne = refl
    letters I ne = refl
    letters U ne = refl
    letters X ne = refl
    letters C ne = absurd (ne refl)

accepts_digit : (f : Flag) (d : ℕ) → Accepts (state.Digit f d) f d
unfolding effect_of kind_of letter_kind whole_kind
accepts_digit f d = record { ell = refl; zed = refl; single = refl; string = refl; whole = letters f d }
  where
    letters : (f : Flag) (d : ℕ) (letter : Letter) → letter ≢ C →
        effect_of (state.Digit f d) (letter_byte letter) ≡ effect.Number letter f d false
    letters f d D ne = refl
    letters f d I ne = refl
    letters f d U ne = refl
    letters f d X ne = refl
    letters f d C ne = absurd (ne refl)

accepts_digits : (f : Flag) (width : ℕ) → Accepts (state.Digits f width) f width
unfolding effect_of kind_of letter_kind whole_kind
accepts_digits f width = record { ell = refl; zed = refl; single = refl; string = refl; whole = letters f width }
  where
    letters : (f : Flag) (d : ℕ) (letter : Letter) → letter ≢ C →
        effect_of (state.Digits f d) (letter_byte letter) ≡ effect.Number letter f d false
    letters f d D ne = refl
    letters f d I ne = refl
    letters f d U ne = refl
    letters f d X ne = refl
    letters f d C ne = absurd (ne refl)

ell_letters : (f : Flag) (width : ℕ) (letter : Letter) → letter ≢ C →
    effect_of (state.Ell f width) (letter_byte letter) ≡ effect.Number letter f width true
unfolding effect_of kind_of letter_kind whole_kind
ell_letters f width D ne = refl
ell_letters f width I ne = refl
ell_letters f width U ne = refl
ell_letters f width X ne = refl
ell_letters f width C ne = absurd (ne refl)

ells_letters : (f : Flag) (width : ℕ) (letter : Letter) → letter ≢ C →
    effect_of (state.Ells f width) (letter_byte letter) ≡ effect.Number letter f width true
unfolding effect_of kind_of letter_kind whole_kind
ells_letters f width D ne = refl
ells_letters f width I ne = refl
ells_letters f width U ne = refl
ells_letters f width X ne = refl
ells_letters f width C ne = absurd (ne refl)

zed_letters : (f : Flag) (width : ℕ) (letter : Letter) → letter ≢ C →
    effect_of (state.Zed f width) (letter_byte letter) ≡ effect.Number letter f width true
unfolding effect_of kind_of letter_kind whole_kind
zed_letters f width D ne = refl
zed_letters f width I ne = refl
zed_letters f width U ne = refl
zed_letters f width X ne = refl
zed_letters f width C ne = absurd (ne refl)

ells_effect : (f : Flag) (width : ℕ) → effect_of (state.Ell f width) 108 ≡ effect.Goes (state.Ells f width)
unfolding effect_of kind_of letter_kind
ells_effect f width = refl

-- ---- widths

-- one byte more was read
goes : (s t : State) (b : ℕ) (rest : List ℕ) (parts : List Part) → effect_of s b ≡ effect.Goes t →
    reading t rest ≡ Ok parts → reading s (b ∷ rest) ≡ Ok parts
unfolding reading
goes s t b rest parts e h = ap (λ x. next x (λ u. reading u rest)) e ∙ ap (onto (λ ps. ps)) h

percent_effect : effect_of state.Outside percent ≡ effect.Goes state.Percent
unfolding effect_of kind_of
percent_effect = refl

minus_effect : effect_of state.Percent 45 ≡ effect.Goes (state.Flagged flag.Minus)
unfolding effect_of kind_of
minus_effect = refl

zero_effect : effect_of state.Percent 48 ≡ effect.Goes (state.Flagged flag.Zero)
unfolding effect_of kind_of
zero_effect = refl

percent_digit : (d : ℕ) → 1 ≤ d → d ≤ 9 → effect_of state.Percent (48 + d) ≡ effect.Goes (state.Digit flag.Bare d)
unfolding effect_of
percent_digit d low high = ap (read state.Percent (48 + d)) (kind_of-digit d low high)

flag_digit : (f : Flag) (d : ℕ) → 1 ≤ d → d ≤ 9 → effect_of (state.Flagged f) (48 + d) ≡ effect.Goes (state.Digit f d)
unfolding effect_of
flag_digit f d low high = ap (read (state.Flagged f) (48 + d)) (kind_of-digit d low high)

digit_zero : (f : Flag) (d : ℕ) → effect_of (state.Digit f d) 48 ≡ effect.Goes (state.Digits f (10 * d))
unfolding effect_of kind_of
digit_zero f d = refl

digit_digit : (f : Flag) (d e : ℕ) → e ≤ 9 →
    effect_of (state.Digit f d) (48 + e) ≡ effect.Goes (state.Digits f (10 * d + e))
unfolding effect_of
digit_digit f d zero small = digit_zero f d
    ∙ ap (λ (w : ℕ). effect.Goes (state.Digits f w)) {x = 10 * d} {y = 10 * d + 0} (omega arith)
digit_digit f d (suc e) small = ap (read (state.Digit f d) (48 + suc e)) (kind_of-digit (suc e) (omega arith) small)

flagged : (f : Flag) (d : ℕ) (rest : List ℕ) (parts : List Part) → 1 ≤ d → d ≤ 9 →
    reading (state.Digit f d) rest ≡ Ok parts →
    reading state.Percent (flag_bytes f ++ (48 + d) ∷ rest) ≡ Ok parts
flagged flag.Bare d rest parts low high h = goes _ _ _ rest parts (percent_digit d low high) h
flagged flag.Minus d rest parts low high h =
    goes _ _ _ _ parts minus_effect (goes _ _ _ rest parts (flag_digit flag.Minus d low high) h)
flagged flag.Zero d rest parts low high h =
    goes _ _ _ _ parts zero_effect (goes _ _ _ rest parts (flag_digit flag.Zero d low high) h)

-- what follows is read right wherever the flag and the width stand before it
abbrev IsRead : Flag → ℕ → List ℕ → List Part → Type 0
IsRead f width rest parts = (s : State) → Accepts s f width → reading s rest ≡ Ok parts

no_width : (f : Flag) (rest : List ℕ) (parts : List Part) → IsFilling f 0 → IsRead f 0 rest parts →
    reading state.Outside (spelling f 0 rest) ≡ Ok parts
no_width flag.Bare rest parts filling is = goes _ _ _ rest parts percent_effect (is state.Percent accepts_percent)
no_width flag.Minus rest parts filling is = let none : 0 < 0 = filling.written (λ e. cc) in absurd (omega arith)
no_width flag.Zero rest parts filling is = let none : 0 < 0 = filling.written (λ e. cc) in absurd (omega arith)

one_digit : (f : Flag) (d : ℕ) (rest : List ℕ) (parts : List Part) → 1 ≤ d → d ≤ 9 → IsRead f d rest parts →
    reading state.Outside (spelling f d rest) ≡ Ok parts
one_digit f d rest parts low high is =
    ap (λ ds. reading state.Outside (percent ∷ (flag_bytes f ++ (ds ++ rest)))) (width_bytes-digit d low high)
    ∙ goes _ _ _ _ parts percent_effect (flagged f d rest parts low high (is (state.Digit f d) (accepts_digit f d)))

two_digits : (f : Flag) (d e : ℕ) (rest : List ℕ) (parts : List Part) → 1 ≤ d → d ≤ 9 → e ≤ 9 →
    IsRead f (10 * d + e) rest parts →
    reading state.Outside (spelling f (10 * d + e) rest) ≡ Ok parts
two_digits f d e rest parts low high small is =
    ap (λ ds. reading state.Outside (percent ∷ (flag_bytes f ++ (ds ++ rest)))) (width_bytes-digits d e low high small)
    ∙ goes _ _ _ _ parts percent_effect (flagged f d ((48 + e) ∷ rest) parts low high
    (goes _ _ _ rest parts (digit_digit f d e small)
    (is (state.Digits f (10 * d + e)) (accepts_digits f (10 * d + e)))))

filled : (f : Flag) (width : ℕ) (rest : List ℕ) (parts : List Part) → IsFilling f width → IsRead f width rest parts →
    reading state.Outside (spelling f width rest) ≡ Ok parts
filled f zero rest parts filling is = no_width f rest parts filling is
filled f (suc n) rest parts filling is = elim (cases_lt (suc n) 10) [
  | inl small ↦ one_digit f (suc n) rest parts (omega arith) (omega arith) is
  | inr large ↦
      let d = suc n / 10 in
      let e = suc n % 10 in
      let same : 10 * d + e ≡ suc n = omega arith in
      let short : suc n ≤ 99 = filling.short in
      subst (λ w. IsRead f w rest parts → reading state.Outside (spelling f w rest) ≡ Ok parts) same
      (two_digits f d e rest parts (omega arith) (omega arith) (omega arith)) is
]

-- ---- conversions

number_after : (s : State) (b : ℕ) (p : Part) (rest : List ℕ) (parts : List Part) (e : Effect) → effect_of s b ≡ e →
    ((ahead : State → Reading) → next e ahead ≡ onto (λ ps. p ∷ ps) (ahead state.Outside)) →
    reading state.Outside rest ≡ Ok parts →
    reading s (b ∷ rest) ≡ Ok (p ∷ parts)
unfolding reading
number_after s b p rest parts e is gives h =
    ap (λ x. next x (λ u. reading u rest)) is ∙ gives (λ u. reading u rest) ∙ ap (onto (λ ps. p ∷ ps)) h

modifier_read : (f : Flag) (width : ℕ) (letter : Letter) (long : Bool) (modifier : List ℕ) → letter ≢ C →
    IsModifier long modifier → (rest : List ℕ) (parts : List Part) →
    reading state.Outside rest ≡ Ok parts →
    IsRead f width (modifier ++ letter_byte letter ∷ rest) (part.Number letter f width long ∷ parts)
modifier_read f width letter _ _ ne none rest parts h s accepts =
    number_after s (letter_byte letter) (part.Number letter f width false) rest parts _ (accepts.whole letter ne)
    (λ ahead. refl) h
modifier_read f width letter _ _ ne ell rest parts h s accepts =
    goes s (state.Ell f width) 108 _ _ accepts.ell
    (number_after (state.Ell f width) (letter_byte letter)
    (part.Number letter f width true) rest parts _ (ell_letters f width letter ne) (λ ahead. refl) h)
modifier_read f width letter _ _ ne ells rest parts h s accepts =
    goes s (state.Ell f width) 108 _ _ accepts.ell
    (goes (state.Ell f width) (state.Ells f width) 108 _ _ (ells_effect f width)
    (number_after (state.Ells f width) (letter_byte letter)
    (part.Number letter f width true) rest parts _ (ells_letters f width letter ne) (λ ahead. refl) h))
modifier_read f width letter _ _ ne zed rest parts h s accepts =
    goes s (state.Zed f width) 122 _ _ accepts.zed
    (number_after (state.Zed f width) (letter_byte letter)
    (part.Number letter f width true) rest parts _ (zed_letters f width letter ne) (λ ahead. refl) h)

single_read : (f : Flag) (width : ℕ) → f ≢ flag.Zero → (rest : List ℕ) (parts : List Part) →
    reading state.Outside rest ≡ Ok parts →
    IsRead f width (99 ∷ rest) (part.Number C f width false ∷ parts)
single_read flag.Bare width ne rest parts h s accepts =
    number_after s 99 (part.Number C flag.Bare width false) rest parts _ accepts.single (λ ahead. refl) h
single_read flag.Minus width ne rest parts h s accepts =
    number_after s 99 (part.Number C flag.Minus width false) rest parts _ accepts.single (λ ahead. refl) h
single_read flag.Zero width ne rest parts h s accepts = absurd (ne refl)

string_read : (f : Flag) (width : ℕ) → f ≢ flag.Zero → (rest : List ℕ) (parts : List Part) →
    reading state.Outside rest ≡ Ok parts →
    IsRead f width (115 ∷ rest) (part.Str f width ∷ parts)
string_read flag.Bare width ne rest parts h s accepts =
    number_after s 115 (part.Str flag.Bare width) rest parts _ accepts.string (λ ahead. refl) h
string_read flag.Minus width ne rest parts h s accepts =
    number_after s 115 (part.Str flag.Minus width) rest parts _ accepts.string (λ ahead. refl) h
string_read flag.Zero width ne rest parts h s accepts = absurd (ne refl)

spelled_read : (f : Flag) (width : ℕ) (bytes rest : List ℕ) (parts : List Part) →
    reading state.Outside (spelling f width (bytes ++ rest)) ≡ Ok parts →
    reading state.Outside (spelling f width bytes ++ rest) ≡ Ok parts
spelled_read f width bytes rest parts h = ap (reading state.Outside) (spelling-append f width bytes rest) ∙ h

conversion_read : (p : Part) (bytes : List ℕ) → Converts p bytes → (rest : List ℕ) (parts : List Part) →
    reading state.Outside rest ≡ Ok parts →
    reading state.Outside (bytes ++ rest) ≡ Ok (p ∷ parts)
conversion_read _ _ (whole {letter = letter} {flag = f} {width = width} {long = long} {modifier =
    modifier} ne filling is) rest parts h =
    spelled_read f width (modifier ++ letter_byte letter ∷ []) rest _
    (ap (λ bs. reading state.Outside (spelling f width bs)) (append_assoc modifier (letter_byte letter ∷ []) rest)
    ∙ filled f width _ _ filling (modifier_read f width letter long modifier ne is rest parts h))
conversion_read _ _ (single {flag = f} {width = width} ne filling) rest parts h =
    spelled_read f width (codes "c") rest _ (filled f width _ _ filling (single_read f width ne rest parts h))
conversion_read _ _ (string {flag = f} {width = width} ne filling) rest parts h =
    spelled_read f width (codes "s") rest _ (filled f width _ _ filling (string_read f width ne rest parts h))

-- ---- formats

two_percents_effect : effect_of state.Percent percent ≡ effect.Plain percent
unfolding effect_of kind_of
two_percents_effect = refl

plain_after : (s : State) (b byte : ℕ) (rest : List ℕ) (parts : List Part) → effect_of s b ≡ effect.Plain byte →
    reading state.Outside rest ≡ Ok parts →
    reading s (b ∷ rest) ≡ Ok (joined byte parts)
unfolding reading
plain_after s b byte rest parts is h = ap (λ x. next x (λ u. reading u rest)) is ∙ ap (onto (joined byte)) h

-- the parts of a format are read
pub parts_read : (format : List ℕ) (parts : List Part) → Parts format parts → reading state.Outside format ≡ Ok parts
unfolding reading
parts_read _ _ end = refl
parts_read _ _ (plain b {rest = rest} {parts = parts} ne p) =
    plain_after state.Outside b b rest parts (plain_effect b ne) (parts_read rest parts p)
parts_read _ _ (two_percents {rest = rest} {parts = parts} p) =
    goes state.Outside state.Percent percent (percent ∷ rest) (joined percent parts) percent_effect
    (plain_after state.Percent percent percent rest parts two_percents_effect (parts_read rest parts p))
parts_read _ _ (converted {part = q} bytes {rest = rest} {parts = parts} c p) =
    conversion_read q bytes c rest parts (parts_read rest parts p)

-- a format has no other parts
pub parts_only : (format : List ℕ) (parts others : List Part) → reading state.Outside format ≡ Ok parts →
    Parts format others → others ≡ parts
parts_only format parts others h p =
    let same = sym (parts_read format others p) ∙ h in cc

-- ---- where reading stops

onto_stops : (f : List Part → List Part) (r again : Reading) (at n : ℕ) →
    ((k : ℕ) → r ≡ Err k → k < n → again ≡ Err k) → onto f r ≡ Err at → at < suc n →
    onto f again ≡ Err at
onto_stops f (Ok parts) again at n inner h lt = absurd cc
onto_stops f (Err k) again at n inner h lt =
    let same : suc k ≡ at = cc in
    ap (onto f) (inner k refl (omega arith)) ∙ h

next_stops : (e : Effect) (ahead again : State → Reading) (at n : ℕ) →
    ((t : State) (k : ℕ) → ahead t ≡ Err k → k < n → again t ≡ Err k) →
    next e ahead ≡ Err at → at < suc n → next e again ≡ Err at
next_stops effect.Wrong ahead again at n inner h lt = h
next_stops (effect.Goes t) ahead again at n inner h lt = onto_stops (λ ps. ps) (ahead t) (again t) at n (inner t) h lt
next_stops (effect.Plain byte) ahead again at n inner h lt =
    onto_stops (joined byte) (ahead state.Outside) (again state.Outside) at n (inner state.Outside) h lt
next_stops (effect.Number letter f width long) ahead again at n inner h lt =
    onto_stops _ (ahead state.Outside) (again state.Outside) at n (inner state.Outside) h lt
next_stops (effect.Str f width) ahead again at n inner h lt =
    onto_stops _ (ahead state.Outside) (again state.Outside) at n (inner state.Outside) h lt

-- what stands after the byte at which reading stops does not matter
stops : (bytes more : List ℕ) (n : ℕ) (s : State) (at : ℕ) → reading s bytes ≡ Err at → at < n → n ≤ length bytes →
    reading s (take n bytes ++ more) ≡ Err at
unfolding reading
stops [] more n s at h lt le = absurd (omega arith)
stops (b ∷ bytes) more zero s at h lt le = absurd (omega arith)
stops (b ∷ bytes) more (suc n) s at h lt le =
    next_stops (effect_of s b) (λ t. reading t bytes) (λ t. reading t (take n bytes ++ more)) at n
    (λ t k is small. stops bytes more n t k is small (omega arith)) h lt

-- no format begins so, and this is how far one does
pub bad_found : (format : List ℕ) (at : ℕ) → reading state.Outside format ≡ Err at → BreaksAt format at
bad_found format at h =
    let begins = beginning_found format at h in
    record {
      no_parts = λ parts p.
          (let whole : reading state.Outside format ≡ Ok parts = parts_read format parts p in absurd cc);
      longest = record {
        within = begins.0;
        begins = begins.1;
        longest = λ n lt le longer.
            (let whole : reading state.Outside (take n format ++ longer.rest) ≡ Ok longer.parts =
            parts_read _ _ longer.whole in
            let stopped : reading state.Outside (take n format ++ longer.rest) ≡ Err at =
            stops format longer.rest n state.Outside at h lt le in
            absurd cc);
      };
    }
