-- Words in pages, and their marks.
use Rattle.std.proofs.Common.{◌≡◌, ◌≢◌, ℕ, zero, suc, ◌+◌, ◌-◌, ◌*◌, ◌/◌, ◌%◌, ◌^◌, ◌<◌, ◌≤◌, Bool, true, false, cond, List, [], ◌∷◌, ◌++◌, length, take, drop, get_or, refl, sym, ap, ◌∙◌, arith, inl, inr}
use Rattle.std.specs.Prelude.{◌⊎◌, ◌==◌, replicate, nat_le}
use Rattle.std.proofs.lemmas.Bool.{leb-true, leb-false, le-leb, lt-leb}
use Rattle.std.proofs.Math.ListN.{set}
use Rattle.std.proofs.lemmas.Bool.Decides.{eqb_tells, leb_tells}
use Rattle.std.proofs.lemmas.List.{length-append, length-set, set-set, length-replicate, get_or-replicate, get_or-set_same, get_or-set_other, get_or_append_left, get_or-append_right, set-append_left, set-append_right, same_lists, get_or_push, append-nil, append_assoc, length-take-le, length-drop, drop_more, set_at, replicate_more, replicate-append-replicate, take-append-drop}
use Rattle.std.proofs.lemmas.List.FromFn.{length-map-range_with_len, get_or-map-range_with_len}
use Rattle.std.proofs.lemmas.Grind.{flat_map-append}
use Rattle.slot_headers.specs.declared.value.Value.{Value}
use Rattle.slot_store.specs.Words.{zero_word, zero_words, bits_at, with_bits, with_number}
use Rattle.slot_store.specs.Numbers.{AreBytes, number_at}
use Rattle.slot_store.specs.Pages.{word_at, words_of, joined, page_at, AreWhole}
use Rattle.slot_store.proofs.Reading.{number_at-same, number_at-zeros, bits_at-number_at, with_bits-number_at}

-- ---- zeros

pub length-zero_words : (n : ℕ) → length (zero_words n) ≡ n
unfolding zero_words
length-zero_words n = length-replicate n zero_word

pub get_or-zero_words : (n k : ℕ) (d : Value) → k < n → get_or (zero_words n) k d ≡ zero_word
unfolding zero_words
get_or-zero_words n k d h = get_or-replicate n k zero_word d h

-- ---- a page

pub length-words_of : (bs : List ℕ) (ms : List Bool) → length (words_of bs ms) ≡ 8192
unfolding words_of
length-words_of bs ms = length-map-range_with_len (word_at bs ms) 0 8192

pub get_or-words_of : (bs : List ℕ) (ms : List Bool) (i : ℕ) (d : Value) → i < 8192 → get_or (words_of bs ms) i d ≡ word_at bs ms i
unfolding words_of
get_or-words_of bs ms i d h = get_or-map-range_with_len (word_at bs ms) 0 8192 i i d h (omega arith)

-- a word of a page, by what is seen of the page
pub word_seen : (bs : List ℕ) (ms : List Bool) (words : List Value) (i : ℕ) (d : Value) → words_of bs ms ≡ words → i < 8192
    → get_or words i d ≡ word_at bs ms i
word_seen bs ms words i d view h = ap (λ l. get_or l i d) (sym view) ∙ get_or-words_of bs ms i d h

-- a page of zeros
pub words_of_zeros : (bs : List ℕ) (ms : List Bool) → bs ≡ replicate 65536 0 → ms ≡ replicate 8192 false
    → words_of bs ms ≡ zero_words 8192
words_of_zeros bs ms b m =
    same_lists (words_of bs ms) (zero_words 8192) (length-words_of bs ms ∙ sym (length-zero_words 8192))
    (λ k d h.
    let small : k < 8192 = omega (arith, length-words_of bs ms) in
    let bits : number_at bs (8 * k) 8 ≡ 0 = ap (λ l. number_at l (8 * k) 8) b ∙ number_at-zeros 65536 (8 * k) 8 (omega arith) in
    let mark : get_or ms k false ≡ false = ap (λ l. get_or l k false) m ∙ get_or-replicate 8192 k false false small in
    let same : word_at bs ms k ≡ zero_word =
    ap (λ n. record { bits = n; pointer = get_or ms k false }) bits ∙ ap (λ p. record { bits = 0; pointer = p }) mark in
    get_or-words_of bs ms k d small ∙ same ∙ sym (get_or-zero_words 8192 k d small))

pub same_or_not : (k i : ℕ) → (k ≡ i) ⊎ (k ≢ i)
same_or_not k i = go (eqb_tells k i)
  where
    go : ((k == i) ≡ true) × (k ≡ i) ⊎ ((k == i) ≡ false) × (k ≢ i) → (k ≡ i) ⊎ (k ≢ i)
    go (inl (t, e)) = inl e
    go (inr (t, e)) = inr e

-- a word written: its bytes and its mark are new, and all others as before
pub words_of-written : (bs cs : List ℕ) (ms ns : List Bool) (i : ℕ) (v : Value) → i < 8192
    → number_at cs (8 * i) 8 ≡ v.bits → get_or ns i false ≡ v.pointer
    → ((k : ℕ) → (k < 8 * i) ⊎ (8 * i + 8 ≤ k) → get_or cs k 0 ≡ get_or bs k 0)
    → ((k : ℕ) → k ≢ i → get_or ns k false ≡ get_or ms k false)
    → words_of cs ns ≡ set (words_of bs ms) i v
words_of-written bs cs ms ns i v small bits mark others marks =
    same_lists (words_of cs ns) (set (words_of bs ms) i v)
    (length-words_of cs ns ∙ sym (length-set (words_of bs ms) i v ∙ length-words_of bs ms))
    (λ k d h.
    let h' : k < 8192 = omega (arith, length-words_of cs ns) in
    get_or-words_of cs ns k d h' ∙ go k d h' (same_or_not k i))
  where
    go : (k : ℕ) (d : Value) → k < 8192 → (k ≡ i) ⊎ (k ≢ i) → word_at cs ns k ≡ get_or (set (words_of bs ms) i v) k d
    go k d h (inl e) =
        let inside : i < length (words_of bs ms) = omega (arith, length-words_of bs ms) in
        rw e (ap (λ n. record { bits = n; pointer = get_or ns i false }) bits ∙ ap (λ p. record { bits = v.bits; pointer = p }) mark
        ∙ sym (get_or-set_same (words_of bs ms) i v d inside))
    go k d h (inr ne) =
        let same : number_at cs (8 * k) 8 ≡ number_at bs (8 * k) 8 =
        number_at-same cs bs (8 * k) 8 (λ j low high. others j (apart j low high)) in
        ap (λ n. record { bits = n; pointer = get_or ns k false }) same
        ∙ ap (λ p. record { bits = number_at bs (8 * k) 8; pointer = p }) (marks k ne)
        ∙ sym (get_or-words_of bs ms k d h) ∙ sym (get_or-set_other (words_of bs ms) i k v d ne)
      where
        apart : (j : ℕ) → 8 * k ≤ j → j < 8 * k + 8 → (j < 8 * i) ⊎ (8 * i + 8 ≤ j)
        apart j low high = split (leb_tells (8 * i + 8) j)
          where
            split : ((nat_le (8 * i + 8) j ≡ true) × (8 * i + 8 ≤ j)) ⊎ ((nat_le (8 * i + 8) j ≡ false) × (j < 8 * i + 8)) → (j < 8 * i) ⊎ (8 * i + 8 ≤ j)
            split (inl (e, after)) = inr after
            split (inr (e, before)) = inl (omega arith)

-- so many bytes of a word that are read
pub word_read : (bs : List ℕ) (ms : List Bool) (words : List Value) (at w : ℕ) → AreBytes bs → words_of bs ms ≡ words → at < 65536
    → at % 8 + w ≤ 8 → number_at bs at w ≡ bits_at (at % 8) w (get_or words (at / 8) zero_word).bits
word_read bs ms words at w small view place inside =
    let here : at ≡ 8 * (at / 8) + at % 8 = omega arith in
    ap (λ k. number_at bs k w) here ∙ sym (bits_at-number_at bs small (8 * (at / 8)) (at % 8) w inside)
    ∙ ap (λ v. bits_at (at % 8) w v.bits) (sym (word_seen bs ms words (at / 8) zero_word view (omega arith)))

-- so many bytes of a word that are written
pub word_written : (bs cs : List ℕ) (ms : List Bool) (words : List Value) (at w n : ℕ) → AreBytes bs → words_of bs ms ≡ words
    → at < 65536 → at % 8 + w ≤ 8 → (get_or words (at / 8) zero_word).pointer ≡ false
    → number_at cs at w ≡ n % 2 ^ (8 * w) → ((k : ℕ) → (k < at) ⊎ (at + w ≤ k) → get_or cs k 0 ≡ get_or bs k 0)
    → words_of cs ms ≡ set words (at / 8) (record { bits = with_bits (at % 8) w n (get_or words (at / 8) zero_word).bits; pointer = false })
word_written bs cs ms words at w n small view place inside plain here elsewhere =
    let i : ℕ = at / 8 in
    let b : ℕ = at % 8 in
    let old : Value = get_or words i zero_word in
    let seen : old ≡ word_at bs ms i = word_seen bs ms words i zero_word view (omega arith) in
    let at_is : at ≡ 8 * i + b = omega arith in
    let bits : number_at cs (8 * i) 8 ≡ with_bits b w n old.bits =
    with_bits-number_at bs small (8 * i) b w inside cs n (ap (λ k. number_at cs k w) (sym at_is) ∙ here) (λ k side. elsewhere k (moved k side))
    ∙ ap (λ v. with_bits b w n v.bits) (sym seen) in
    let mark : get_or ms i false ≡ false = ap (λ v. v.pointer) (sym seen) ∙ plain in
    words_of-written bs cs ms ms i (record { bits = with_bits b w n old.bits; pointer = false }) (omega arith) bits mark
    (λ k side. elsewhere k (wider k side)) (λ k ne. refl)
    ∙ ap (λ l. set l i (record { bits = with_bits b w n old.bits; pointer = false })) view
  where
    moved : (k : ℕ) → (k < 8 * (at / 8) + at % 8) ⊎ (8 * (at / 8) + at % 8 + w ≤ k) → (k < at) ⊎ (at + w ≤ k)
    moved k (inl before) = inl (omega arith)
    moved k (inr after) = inr (omega arith)

    wider : (k : ℕ) → (k < 8 * (at / 8)) ⊎ (8 * (at / 8) + 8 ≤ k) → (k < at) ⊎ (at + w ≤ k)
    wider k (inl before) = inl (omega arith)
    wider k (inr after) = inr (omega arith)

-- a word as it is when a whole number is stored in it: zero if it holds a pointer
abbrev unmarked : Value → Value
unmarked v = cond v.pointer zero_word v

-- a word that becomes zero if it holds a pointer, and then gets other bytes
bits-unmarked : (p : Bool) (v : Value) → (cond p zero_word v).bits ≡ cond p 0 v.bits
bits-unmarked true v = refl
bits-unmarked false v = refl

pub number_stored : (words between : List Value) (i b w n : ℕ) → i < length words
    → between ≡ set words i (unmarked (get_or words i zero_word))
    → set between i (record { bits = with_bits b w n (get_or between i zero_word).bits; pointer = false })
    ≡ set words i (with_number b w n (get_or words i zero_word))
number_stored words between i b w n inside e =
    let old : Value = get_or words i zero_word in
    let here : (get_or between i zero_word).bits ≡ cond old.pointer 0 old.bits =
    ap (λ l. (get_or l i zero_word).bits) e ∙ ap (λ v. v.bits) (get_or-set_same words i (unmarked old) zero_word inside)
    ∙ bits-unmarked old.pointer old in
    ap (λ m. set between i (record { bits = with_bits b w n m; pointer = false })) here
    ∙ ap (λ l. set l i (with_number b w n old)) e ∙ set-set words i (unmarked old) (with_number b w n old)

-- a mark set, and the eight bytes of its word written
pub value_written : (bs cs : List ℕ) (ms : List Bool) (words : List Value) (i : ℕ) (v : Value) → words_of bs ms ≡ words → i < 8192
    → length ms ≡ 8192 → v.bits < 2 ^ 64 → number_at cs (8 * i) 8 ≡ v.bits % 2 ^ 64
    → ((k : ℕ) → (k < 8 * i) ⊎ (8 * i + 8 ≤ k) → get_or cs k 0 ≡ get_or bs k 0)
    → words_of cs (set ms i v.pointer) ≡ set words i v
value_written bs cs ms words i v view small size fits here elsewhere =
    let bits : number_at cs (8 * i) 8 ≡ v.bits = omega arith in
    let inside : i < length ms = omega arith in
    words_of-written bs cs ms (set ms i v.pointer) i v small bits (get_or-set_same ms i v.pointer false inside) elsewhere
    (λ k ne. get_or-set_other ms i k v.pointer false ne)
    ∙ ap (λ l. set l i v) view

-- ---- pages

tail_whole : (p : List Value) (pages : List (List Value)) → AreWhole (p ∷ pages) → AreWhole pages
tail_whole p pages whole = λ k h. whole (suc k) (omega arith)

pub length-joined : (pages : List (List Value)) → AreWhole pages → length (joined pages) ≡ 8192 * length pages
unfolding joined
length-joined [] whole = refl
length-joined (p ∷ pages) whole =
    omega (arith, length-append p (joined pages), length-joined pages (tail_whole p pages whole), whole 0 (omega arith))

pub get_or-joined : (pages : List (List Value)) → AreWhole pages → (q r : ℕ) (d : Value) → q < length pages → r < 8192
    → get_or (joined pages) (8192 * q + r) d ≡ get_or (page_at pages q) r d
unfolding joined
get_or-joined [] whole q r d in_pages small = absurd (omega arith)
get_or-joined (p ∷ pages) whole zero r d in_pages small =
    let size : length p ≡ 8192 = whole 0 (omega arith) in
    let e : 8192 * 0 + r ≡ r = omega arith in
    rw e (get_or_append_left p (joined pages) d r (omega arith))
get_or-joined (p ∷ pages) whole (suc q) r d in_pages small =
    let size : length p ≡ 8192 = whole 0 (omega arith) in
    let e : 8192 * suc q + r - 8192 ≡ 8192 * q + r = omega arith in
    get_or-append_right p (joined pages) 8192 (8192 * suc q + r) d size (omega arith)
    ∙ ap (λ i. get_or (joined pages) i d) e
    ∙ get_or-joined pages (tail_whole p pages whole) q r d (omega arith) small

pub set-joined : (pages : List (List Value)) → AreWhole pages → (q r : ℕ) (v : Value) → q < length pages → r < 8192
    → set (joined pages) (8192 * q + r) v ≡ joined (set pages q (set (page_at pages q) r v))
unfolding joined
set-joined [] whole q r v in_pages small = absurd (omega arith)
set-joined (p ∷ pages) whole zero r v in_pages small =
    let size : length p ≡ 8192 = whole 0 (omega arith) in
    let e : 8192 * 0 + r ≡ r = omega arith in
    rw e (set-append_left p (joined pages) r v (omega arith))
set-joined (p ∷ pages) whole (suc q) r v in_pages small =
    let size : length p ≡ 8192 = whole 0 (omega arith) in
    let e : 8192 * suc q + r - 8192 ≡ 8192 * q + r = omega arith in
    set-append_right p (joined pages) 8192 (8192 * suc q + r) v size (omega arith)
    ∙ ap (λ i. p ++ set (joined pages) i v) e
    ∙ ap (λ l. p ++ l) (set-joined pages (tail_whole p pages whole) q r v (omega arith) small)

-- a page written is as long as before
pub whole-set : (pages : List (List Value)) (q : ℕ) (p : List Value) → AreWhole pages → length p ≡ 8192 → AreWhole (set pages q p)
whole-set pages q p whole size = λ k h.
    let k_in : k < length pages = omega (arith, length-set pages q p) in
    go k k_in (same_or_not k q)
  where
    go : (k : ℕ) → k < length pages → (k ≡ q) ⊎ (k ≢ q) → length (page_at (set pages q p) k) ≡ 8192
    go k h (inl e) =
        let q_in : q < length pages = omega arith in
        rw e (ap length (get_or-set_same pages q p [] q_in) ∙ size)
    go k h (inr ne) = ap length (get_or-set_other pages q k p [] ne) ∙ whole k h

-- one page more
pub joined-push : (pages : List (List Value)) (p : List Value) → joined (pages ++ p ∷ []) ≡ joined pages ++ p
unfolding joined
joined-push pages p = flat_map-append (λ p. p) pages (p ∷ []) ∙ ap (λ l. joined pages ++ l) (append-nil p)

pub whole-push : (pages : List (List Value)) (p : List Value) → AreWhole pages → length p ≡ 8192 → AreWhole (pages ++ p ∷ [])
whole-push pages p whole size = λ k h.
    let k_in : k < length pages + 1 = omega (arith, length-append pages (p ∷ [])) in
    go k k_in (same_or_not k (length pages))
  where
    go : (k : ℕ) → k < length pages + 1 → (k ≡ length pages) ⊎ (k ≢ length pages) → length (page_at (pages ++ p ∷ []) k) ≡ 8192
    go k h (inl e) = ap length (get_or_push pages p [] k (sym e)) ∙ size
    go k h (inr ne) =
        let before : k < length pages = omega arith in
        ap length (get_or_append_left pages (p ∷ []) [] k before) ∙ whole k before

-- ---- a word by its number in the region

-- the page of a word is there
pub page_inside : (pages : List (List Value)) (words : List Value) (i : ℕ) → AreWhole pages → joined pages ≡ words
    → i < length words → i / 8192 < length pages
page_inside pages words i whole view small = omega (arith, length-joined pages whole, ap length view)

-- which word it is
pub read_paged : (pages : List (List Value)) (words : List Value) (i : ℕ) (d : Value) → AreWhole pages → joined pages ≡ words
    → i < length words → get_or (page_at pages (i / 8192)) (i % 8192) d ≡ get_or words i d
read_paged pages words i d whole view small =
    let place : i ≡ 8192 * (i / 8192) + i % 8192 = omega arith in
    sym (get_or-joined pages whole (i / 8192) (i % 8192) d (page_inside pages words i whole view small) (omega arith))
    ∙ ap (λ k. get_or (joined pages) k d) (sym place) ∙ ap (λ l. get_or l i d) view

pub write_paged : (pages : List (List Value)) (words : List Value) (i : ℕ) (v : Value) → AreWhole pages → joined pages ≡ words
    → i < length words → joined (set pages (i / 8192) (set (page_at pages (i / 8192)) (i % 8192) v)) ≡ set words i v
write_paged pages words i v whole view small =
    let place : i ≡ 8192 * (i / 8192) + i % 8192 = omega arith in
    sym (set-joined pages whole (i / 8192) (i % 8192) v (page_inside pages words i whole view small) (omega arith))
    ∙ ap (λ k. set (joined pages) k v) (sym place) ∙ ap (λ l. set l i v) view

-- the same by the number of a byte
pub byte_page : (pages : List (List Value)) (words : List Value) (at : ℕ) → AreWhole pages → joined pages ≡ words
    → at / 8 < length words → at / 65536 < length pages
byte_page pages words at whole view small = omega (arith, length-joined pages whole, ap length view)

pub read_byte : (pages : List (List Value)) (words : List Value) (at : ℕ) (d : Value) → AreWhole pages → joined pages ≡ words
    → at / 8 < length words → get_or (page_at pages (at / 65536)) (at % 65536 / 8) d ≡ get_or words (at / 8) d
read_byte pages words at d whole view small =
    let page : at / 65536 ≡ at / 8 / 8192 = omega arith in
    let word : at % 65536 / 8 ≡ at / 8 % 8192 = omega arith in
    rw (page, word) (read_paged pages words (at / 8) d whole view small)

pub write_byte : (pages : List (List Value)) (words : List Value) (at : ℕ) (v : Value) → AreWhole pages → joined pages ≡ words
    → at / 8 < length words
    → joined (set pages (at / 65536) (set (page_at pages (at / 65536)) (at % 65536 / 8) v)) ≡ set words (at / 8) v
write_byte pages words at v whole view small =
    let page : at / 65536 ≡ at / 8 / 8192 = omega arith in
    let word : at % 65536 / 8 ≡ at / 8 % 8192 = omega arith in
    rw (page, word) (write_paged pages words (at / 8) v whole view small)

-- a page of zeros more
pub grown_page : (pages : List (List Value)) (words p : List Value) → joined pages ≡ words → p ≡ zero_words 8192
    → joined (pages ++ p ∷ []) ≡ words ++ zero_words 8192
grown_page pages words p view e =
    joined-push pages p ∙ ap (λ l. l ++ p) view ∙ ap (λ l. words ++ l) e

pub grown_none : (words more : List Value) → more ≡ words → more ≡ words ++ zero_words (length more - length words)
unfolding zero_words
grown_none words more e =
    let none : length more - length words ≡ 0 = omega (arith, ap length e) in
    rw none (e ∙ sym (append-nil words))

pub length_grown : (words more : List Value) (k : ℕ) → more ≡ words ++ zero_words k → length more ≡ length words + k
length_grown words more k e = ap length e ∙ length-append words (zero_words k) ∙ ap (λ n. length words + n) (length-zero_words k)

pub grown_by : (words more : List Value) (k : ℕ) → more ≡ words ++ zero_words k → more ≡ words ++ zero_words (length more - length words)
grown_by words more k e =
    let same : k ≡ length more - length words = omega (arith, length_grown words more k e) in
    e ∙ ap (λ n. words ++ zero_words n) same

pub zero_words-append : (a b : ℕ) → zero_words a ++ zero_words b ≡ zero_words (a + b)
unfolding zero_words
zero_words-append a b = replicate-append-replicate a b zero_word

-- grown so far, and then by more
pub grown_more : (words so_far more : List Value) → so_far ≡ words ++ zero_words (length so_far - length words)
    → more ≡ so_far ++ zero_words (length more - length so_far) → more ≡ words ++ zero_words (length more - length words)
grown_more words so_far more e f =
    let a : ℕ = length so_far - length words in
    let b : ℕ = length more - length so_far in
    let first : length so_far ≡ length words + a = ap length e ∙ length-append words (zero_words a) ∙ ap (λ n. length words + n) (length-zero_words a) in
    let second : length more ≡ length so_far + b = ap length f ∙ length-append so_far (zero_words b) ∙ ap (λ n. length so_far + n) (length-zero_words b) in
    let sum : a + b ≡ length more - length words = omega arith in
    f ∙ ap (λ l. l ++ zero_words b) e ∙ append_assoc words (zero_words a) (zero_words b)
    ∙ ap (λ l. words ++ l) (zero_words-append a b ∙ ap zero_words sum)

-- ---- clearing

-- a cleared word more
pub cleared_more : (words : List Value) (first n : ℕ) → first + n < length words
    → set (take first words ++ (zero_words n ++ drop (first + n) words)) (first + n) zero_word
    ≡ take first words ++ (zero_words (n + 1) ++ drop (first + n + 1) words)
unfolding zero_words
cleared_more words first n small =
    let front : length (take first words ++ replicate n zero_word) ≡ first + n =
    omega (arith, length-append (take first words) (replicate n zero_word), length-take-le first words (omega arith), length-replicate n zero_word) in
    let here : drop (first + n) words ≡ get_or words (first + n) zero_word ∷ drop (first + n + 1) words = drop_more words (first + n) zero_word small in
    let one : replicate n zero_word ++ zero_word ∷ drop (first + n + 1) words ≡ replicate (n + 1) zero_word ++ drop (first + n + 1) words =
    sym (append_assoc (replicate n zero_word) (zero_word ∷ []) (drop (first + n + 1) words)) ∙ ap (λ l. l ++ drop (first + n + 1) words) (replicate_more n zero_word) in
    ap (λ l. set (take first words ++ (replicate n zero_word ++ l)) (first + n) zero_word) here
    ∙ ap (λ l. set l (first + n) zero_word) (sym (append_assoc (take first words) (replicate n zero_word) (get_or words (first + n) zero_word ∷ drop (first + n + 1) words)))
    ∙ set_at (take first words ++ replicate n zero_word) (get_or words (first + n) zero_word) (drop (first + n + 1) words) zero_word (first + n) front
    ∙ append_assoc (take first words) (replicate n zero_word) (zero_word ∷ drop (first + n + 1) words)
    ∙ ap (λ l. take first words ++ l) one

pub cleared_none : (words : List Value) (first : ℕ) → words ≡ take first words ++ (zero_words (first - first) ++ drop first words)
unfolding zero_words
cleared_none words first = let e : first - first ≡ 0 = omega arith in rw e (sym (take-append-drop first words))

-- ---- tests

pub same_order : (a b c d : ℕ) → (a ≤ b → c ≤ d) → (b < a → d < c) → nat_le a b ≡ nat_le c d
same_order a b c d to off = go (nat_le a b) refl
  where
    go : (t : Bool) → nat_le a b ≡ t → nat_le a b ≡ nat_le c d
    go true e = e ∙ sym (le-leb c d (to (leb-true a b e)))
    go false e = e ∙ sym (lt-leb c d (off (leb-false a b e)))

-- ---- a loop that clears

-- the words that are cleared up to one of them
abbrev pub cleared_to : List Value → ℕ → ℕ → List Value
cleared_to words first to = take first words ++ (zero_words (to - first) ++ drop to words)

pub length_cleared : (words : List Value) (first to : ℕ) → first ≤ to → to ≤ length words
    → length (cleared_to words first to) ≡ length words
length_cleared words first to order inside =
    omega (
      arith,
      length-append (take first words) (zero_words (to - first) ++ drop to words),
      length-append (zero_words (to - first)) (drop to words),
      length-take-le first words (omega arith),
      length-zero_words (to - first),
      length-drop to words,
    )

pub cleared_next : (words : List Value) (first to : ℕ) → first ≤ to → to < length words
    → set (cleared_to words first to) to zero_word ≡ cleared_to words first (to + 1)
cleared_next words first to order inside =
    let n : ℕ = to - first in
    let here : to ≡ first + n = omega arith in
    let more : to + 1 - first ≡ n + 1 = omega arith in
    let step : set (take first words ++ (zero_words n ++ drop (first + n) words)) (first + n) zero_word
    ≡ take first words ++ (zero_words (n + 1) ++ drop (first + n + 1) words) = cleared_more words first n (omega arith) in
    ap (λ k. set (take first words ++ (zero_words n ++ drop k words)) k zero_word) here ∙ step
    ∙ ap (λ k. take first words ++ (zero_words (n + 1) ++ drop (k + 1) words)) (sym here)
    ∙ ap (λ k. take first words ++ (zero_words k ++ drop (to + 1) words)) (sym more)
