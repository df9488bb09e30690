-- The cells of slots, by the words that they are kept in.
use Rattle.std.proofs.Common.{◌≡◌, ◌≢◌, ℕ, zero, suc, ◌+◌, ◌-◌, ◌*◌, ◌<◌, ◌≤◌, true, false, List, [], ◌∷◌, ◌++◌, length, take, drop, get_or, refl, sym, ap, ◌∙◌, arith, inl, inr}
use Rattle.std.specs.Prelude.{◌⊎◌, replicate, nat_le}
use Rattle.std.proofs.Math.ListN.{set}
use Rattle.std.proofs.Math.Nat.{mul-le-mul_left}
use Rattle.std.proofs.Math.Seq.{take-set-lt}
use Rattle.std.proofs.lemmas.Bool.Decides.{leb_tells}
use Rattle.std.proofs.lemmas.List.{length-append, length-set, length-take-le, length-drop, get_or-set_same, get_or-set_other, get_or-take, get_or-drop, get_or_append_left, get_or-append_right, take_at, drop_at, drop-append-le, drop-set-add, drop-drop, drop-replicate, take-replicate, same_lists, set_split, set-get_or, append_assoc, replicate-append-replicate}
use Rattle.std.proofs.lemmas.List.FromFn.{length-map-range_with_len, get_or-map-range_with_len, map-range_with_len_more}
use Rattle.std.proofs.lemmas.Grind.{flat_map-append}
use Rattle.slot_headers.specs.declared.value.Value.{Value}
use Rattle.slot_headers.specs.Cells.{Cell, Byte, bytes, zeros, cells_at, put}
use Rattle.slot_store.specs.Cells.{value_cells}
use Rattle.slot_store.specs.Words.{zero_word, zero_words, cells, slot_words, slot_cells}
use Rattle.slot_store.proofs.Digits.{put_between, cells_between}
use Rattle.slot_store.proofs.Values.{length-value_cells}
use Rattle.slot_store.proofs.Paging.{length-zero_words, zero_words-append, same_or_not}

-- ---- the cells of words

pub length-cells : (words : List Value) → length (cells words) ≡ 8 * length words
unfolding cells
length-cells [] = refl
length-cells (v ∷ words) = omega (arith, length-append (value_cells v) (cells words), length-value_cells v, length-cells words)

-- the words before one, that one, and those after it
apart : (words : List Value) (j : ℕ) (d : Value) → j < length words → words ≡ take j words ++ get_or words j d ∷ drop (suc j) words
apart words j d small = sym (set-get_or words j d) ∙ set_split words j (get_or words j d) small

cells-apart : (first : List Value) (v : Value) (last : List Value) → cells (first ++ v ∷ last) ≡ cells first ++ (value_cells v ++ cells last)
unfolding cells
cells-apart first v last = flat_map-append value_cells first (v ∷ last)

length_first : (words : List Value) (j : ℕ) → j ≤ length words → length (cells (take j words)) ≡ 8 * j
length_first words j small = length-cells (take j words) ∙ ap (λ n. 8 * n) (length-take-le j words small)

-- the cells of word j
pub cells_at-word : (words : List Value) (j : ℕ) (d : Value) → j < length words → cells_at (8 * j) 8 (cells words) ≡ value_cells (get_or words j d)
cells_at-word words j d small =
    ap (λ w. cells_at (8 * j) 8 (cells w)) (apart words j d small)
    ∙ ap (cells_at (8 * j) 8) (cells-apart (take j words) (get_or words j d) (drop (suc j) words))
    ∙ cells_between (8 * j) 8 (cells (take j words)) (value_cells (get_or words j d)) (cells (drop (suc j) words))
    (length_first words j (omega arith)) (length-value_cells (get_or words j d))

-- word j replaced
pub put-word : (words : List Value) (j : ℕ) (v : Value) → j < length words → put (8 * j) (value_cells v) (cells words) ≡ cells (set words j v)
put-word words j v small =
    ap (λ w. put (8 * j) (value_cells v) (cells w)) (apart words j v small)
    ∙ ap (put (8 * j) (value_cells v)) (cells-apart (take j words) (get_or words j v) (drop (suc j) words))
    ∙ put_between (8 * j) (cells (take j words)) (value_cells v) (value_cells (get_or words j v)) (cells (drop (suc j) words))
    (length_first words j (omega arith)) (length-value_cells (get_or words j v) ∙ sym (length-value_cells v))
    ∙ sym (cells-apart (take j words) v (drop (suc j) words)) ∙ ap cells (sym (set_split words j v small))

-- zero words are zero bytes
pub cells-zero_words : (n : ℕ) → cells (zero_words n) ≡ zeros (8 * n)
unfolding cells zero_words
cells-zero_words zero = refl
cells-zero_words (suc n) =
    let sum : 8 + 8 * n ≡ 8 * suc n = omega arith in
    let one : value_cells zero_word ≡ replicate 8 (Byte 0) = unfold value_cells in refl in
    ap (λ c. c ++ cells (zero_words n)) one ∙ ap (λ c. replicate 8 (Byte 0) ++ c) (cells-zero_words n)
    ∙ replicate-append-replicate 8 (8 * n) (Byte 0) ∙ ap (λ m. replicate m (Byte 0)) sum

-- ---- the words of slots

-- a slot ends where the next one begins, at the latest where the made ones end
below : (n s count : ℕ) → s < count → s * n + n ≤ count * n
below n s count small = omega (arith, mul-le-mul_left n (let h : s + 1 ≤ count = omega arith in h))

pub length-slot_words : (n s count : ℕ) (words : List Value) → s < count → count * n ≤ length words → length (slot_words n words s) ≡ n
unfolding slot_words
length-slot_words n s count words small room =
    let inside : s * n + n ≤ count * n = below n s count small in
    length-take-le n (drop (s * n) words) (omega (arith, length-drop (s * n) words))

pub get_or-slot_words : (n s : ℕ) (words : List Value) (j : ℕ) (d : Value) → j < n → get_or (slot_words n words s) j d ≡ get_or words (s * n + j) d
unfolding slot_words
get_or-slot_words n s words j d small = get_or-take n (drop (s * n) words) j d small ∙ get_or-drop (s * n) words j d

-- slots of the same words
same_slot : (n s count : ℕ) (words words' : List Value) → s < count → count * n ≤ length words → count * n ≤ length words'
    → ((j : ℕ) (d : Value) → j < n → get_or words (s * n + j) d ≡ get_or words' (s * n + j) d) → slot_words n words s ≡ slot_words n words' s
same_slot n s count words words' small room room' same =
    same_lists (slot_words n words s) (slot_words n words' s)
    (length-slot_words n s count words small room ∙ sym (length-slot_words n s count words' small room'))
    (λ k d h.
    let h' : k < n = omega (arith, length-slot_words n s count words small room) in
    get_or-slot_words n s words k d h' ∙ same k d h' ∙ sym (get_or-slot_words n s words' k d h'))

-- ---- the cells of slots

pub length-slot_cells : (n count : ℕ) (words : List Value) → length (slot_cells n count words) ≡ count
unfolding slot_cells
length-slot_cells n count words = length-map-range_with_len (λ s. cells (slot_words n words s)) 0 count

pub get_or-slot_cells : (n count : ℕ) (words : List Value) (s : ℕ) (d : List (Cell ℕ)) → s < count
    → get_or (slot_cells n count words) s d ≡ cells (slot_words n words s)
unfolding slot_cells
get_or-slot_cells n count words s d small = get_or-map-range_with_len (λ t. cells (slot_words n words t)) 0 count s s d small (omega arith)

-- a slot other than another one, in other words
other_slot : (n s t count : ℕ) (words words' : List Value) → t < count → count * n ≤ length words → count * n ≤ length words'
    → ((k : ℕ) (d : Value) → k < s * n → get_or words k d ≡ get_or words' k d)
    → ((k : ℕ) (d : Value) → s * n + n ≤ k → get_or words k d ≡ get_or words' k d) → t ≢ s → slot_words n words t ≡ slot_words n words' t
other_slot n s t count words words' small room room' before after ne =
    same_slot n t count words words' small room room' (λ j d h. go j d h (order t s ne))
  where
    order : (a b : ℕ) → a ≢ b → (a < b) ⊎ (b < a)
    order a b apart = split (leb_tells a b)
      where
        split : ((nat_le a b ≡ true) × (a ≤ b)) ⊎ ((nat_le a b ≡ false) × (b < a)) → (a < b) ⊎ (b < a)
        split (inl (e, h)) = inl (omega arith)
        split (inr (e, h)) = inr h

    go : (j : ℕ) (d : Value) → j < n → (t < s) ⊎ (s < t) → get_or words (t * n + j) d ≡ get_or words' (t * n + j) d
    go j d h (inl lower) = let end : t * n + n ≤ s * n = below n t s lower in before (t * n + j) d (omega arith)
    go j d h (inr higher) = let end : s * n + n ≤ t * n = below n s t higher in after (t * n + j) d (omega arith)

-- one slot of other words, and the others as they were
slot_replaced : (n count s : ℕ) (words words' : List Value) (new : List (Cell ℕ)) → s < count → count * n ≤ length words → count * n ≤ length words'
    → cells (slot_words n words' s) ≡ new
    → ((k : ℕ) (d : Value) → k < s * n → get_or words' k d ≡ get_or words k d)
    → ((k : ℕ) (d : Value) → s * n + n ≤ k → get_or words' k d ≡ get_or words k d)
    → slot_cells n count words' ≡ set (slot_cells n count words) s new
slot_replaced n count s words words' new small room room' here before after =
    same_lists (slot_cells n count words') (set (slot_cells n count words) s new)
    (length-slot_cells n count words' ∙ sym (length-set (slot_cells n count words) s new ∙ length-slot_cells n count words))
    (λ t d h.
    let h' : t < count = omega (arith, length-slot_cells n count words') in
    get_or-slot_cells n count words' t d h' ∙ go t d h' (same_or_not t s))
  where
    go : (t : ℕ) (d : List (Cell ℕ)) → t < count → (t ≡ s) ⊎ (t ≢ s) → cells (slot_words n words' t) ≡ get_or (set (slot_cells n count words) s new) t d
    go t d h (inl e) =
        let inside : s < length (slot_cells n count words) = omega (arith, length-slot_cells n count words) in
        rw e (here ∙ sym (get_or-set_same (slot_cells n count words) s new d inside))
    go t d h (inr ne) =
        ap cells (other_slot n s t count words' words h room' room before after ne)
        ∙ sym (get_or-set_other (slot_cells n count words) s t new d ne ∙ get_or-slot_cells n count words t d h)

slot_words-set : (n : ℕ) (words : List Value) (s j : ℕ) (v : Value) → j < n → slot_words n (set words (s * n + j) v) s ≡ set (slot_words n words s) j v
unfolding slot_words
slot_words-set n words s j v inside = ap (take n) (drop-set-add (s * n) words j v) ∙ take-set-lt n (drop (s * n) words) j v inside

-- a word of a slot written
pub slot_cells-set : (n count : ℕ) (words : List Value) (s j : ℕ) (v : Value) → s < count → j < n → count * n ≤ length words
    → slot_cells n count (set words (s * n + j) v)
    ≡ set (slot_cells n count words) s (put (8 * j) (value_cells v) (get_or (slot_cells n count words) s []))
slot_cells-set n count words s j v small inside room =
    let end : s * n + n ≤ count * n = below n s count small in
    let words' : List Value = set words (s * n + j) v in
    let room' : count * n ≤ length words' = omega (arith, length-set words (s * n + j) v) in
    let size : length (slot_words n words s) ≡ n = length-slot_words n s count words small room in
    let slot : slot_words n words' s ≡ set (slot_words n words s) j v = slot_words-set n words s j v inside in
    let new : cells (slot_words n words' s) ≡ put (8 * j) (value_cells v) (get_or (slot_cells n count words) s []) =
    ap cells slot ∙ sym (put-word (slot_words n words s) j v (omega arith))
    ∙ ap (put (8 * j) (value_cells v)) (sym (get_or-slot_cells n count words s [] small)) in
    slot_replaced n count s words words' (put (8 * j) (value_cells v) (get_or (slot_cells n count words) s [])) small room room' new
    (λ k d h. let ne : k ≢ s * n + j = omega arith in get_or-set_other words (s * n + j) k v d ne)
    (λ k d h. let ne : k ≢ s * n + j = omega arith in get_or-set_other words (s * n + j) k v d ne)

middle_slot : (n s : ℕ) (first last : List Value) → length first ≡ s * n → slot_words n (first ++ (zero_words n ++ last)) s ≡ zero_words n
unfolding slot_words
middle_slot n s first last front =
    ap (take n) (drop_at first (zero_words n ++ last) (s * n) front) ∙ take_at (zero_words n) last n (length-zero_words n)

-- a slot cleared
pub slot_cells-clear : (n count : ℕ) (words : List Value) (s : ℕ) → s < count → count * n ≤ length words
    → slot_cells n count (take (s * n) words ++ (zero_words n ++ drop (s * n + n) words)) ≡ set (slot_cells n count words) s (zeros (8 * n))
slot_cells-clear n count words s small room =
    let end : s * n + n ≤ count * n = below n s count small in
    let first : List Value = take (s * n) words in
    let last : List Value = drop (s * n + n) words in
    let words' : List Value = first ++ (zero_words n ++ last) in
    let front : length first ≡ s * n = length-take-le (s * n) words (omega arith) in
    let middle : length (zero_words n) ≡ n = length-zero_words n in
    let size : length words' ≡ length words =
    omega (arith, length-append first (zero_words n ++ last), length-append (zero_words n) last, length-drop (s * n + n) words) in
    let slot : slot_words n words' s ≡ zero_words n = middle_slot n s first last front in
    slot_replaced n count s words words' (zeros (8 * n)) small room (omega arith) (ap cells slot ∙ cells-zero_words n)
    (λ k d h. get_or_append_left first (zero_words n ++ last) d k (omega arith) ∙ get_or-take (s * n) words k d h)
    (λ k d h.
    let joined : length (first ++ zero_words n) ≡ s * n + n = omega (arith, length-append first (zero_words n)) in
    let place : s * n + n + (k - (s * n + n)) ≡ k = omega arith in
    ap (λ l. get_or l k d) (sym (append_assoc first (zero_words n) last))
    ∙ get_or-append_right (first ++ zero_words n) last (s * n + n) k d joined h
    ∙ get_or-drop (s * n + n) words (k - (s * n + n)) d ∙ ap (λ m. get_or words m d) place)

-- more words after those of the made slots
pub slot_cells-append : (n count : ℕ) (words more : List Value) → count * n ≤ length words
    → slot_cells n count (words ++ more) ≡ slot_cells n count words
slot_cells-append n count words more room =
    let room' : count * n ≤ length (words ++ more) = omega (arith, length-append words more) in
    same_lists (slot_cells n count (words ++ more)) (slot_cells n count words)
    (length-slot_cells n count (words ++ more) ∙ sym (length-slot_cells n count words))
    (λ t d h.
    let h' : t < count = omega (arith, length-slot_cells n count (words ++ more)) in
    get_or-slot_cells n count (words ++ more) t d h'
    ∙ ap cells (same_slot n t count (words ++ more) words h' room' room
    (λ j e g. let end : t * n + n ≤ count * n = below n t count h' in get_or_append_left words more e (t * n + j) (omega arith)))
    ∙ sym (get_or-slot_cells n count words t d h'))

-- ---- a slot more

-- the words past the made slots, with more of them
pub rest-append : (m e : ℕ) (words : List Value) → m ≤ length words → drop m words ≡ zero_words (length words - m)
    → drop m (words ++ zero_words e) ≡ zero_words (length (words ++ zero_words e) - m)
rest-append m e words inside rest =
    let sum : length words - m + e ≡ length (words ++ zero_words e) - m = omega (arith, length-append words (zero_words e), length-zero_words e) in
    drop-append-le m words (zero_words e) inside ∙ ap (λ l. l ++ zero_words e) rest
    ∙ zero_words-append (length words - m) e ∙ ap zero_words sum

-- and past one slot more
pub rest-next : (m n : ℕ) (words : List Value) → drop m words ≡ zero_words (length words - m)
    → drop (m + n) words ≡ zero_words (length words - (m + n))
unfolding zero_words
rest-next m n words rest =
    let sum : length words - m - n ≡ length words - (m + n) = omega arith in
    sym (drop-drop n m words) ∙ ap (drop n) rest ∙ drop-replicate n (length words - m) zero_word ∙ ap (λ k. replicate k zero_word) sum

next_slot : (n count : ℕ) (words : List Value) → count * n + n ≤ length words → drop (count * n) words ≡ zero_words (length words - count * n)
    → slot_words n words count ≡ zero_words n
unfolding slot_words zero_words
next_slot n count words room rest = ap (take n) rest ∙ take-replicate n (length words - count * n) zero_word (omega arith)

-- the next slot is zero
pub slot_cells-next : (n count : ℕ) (words : List Value) → count * n + n ≤ length words → drop (count * n) words ≡ zero_words (length words - count * n)
    → slot_cells n (count + 1) words ≡ slot_cells n count words ++ zeros (8 * n) ∷ []
unfolding slot_cells
slot_cells-next n count words room rest =
    let slot : slot_words n words count ≡ zero_words n = next_slot n count words room rest in
    map-range_with_len_more (λ s. cells (slot_words n words s)) 0 count count (omega arith)
    ∙ ap (λ c. slot_cells n count words ++ c ∷ []) (ap cells slot ∙ cells-zero_words n)
