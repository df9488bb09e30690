-- The bytes of a header that is read.
use Rattle.std.proofs.Common.{◌≡◌, ℕ, zero, suc, ◌+◌, ◌%◌, ◌^◌, ◌<◌, ◌≤◌, Bool, true, false, cond, List, [], ◌∷◌, ◌++◌, length, take, drop, get_or, append_assoc, refl, sym, ap, ◌∙◌, arith}
use Rattle.std.specs.Prelude.{nat_le}
use Rattle.std.specs.Int.{w32, w64, to_le_bytes, from_le_bytes}
use Rattle.std.proofs.Math.ListN.{drop_of_length-le}
use Rattle.std.proofs.lemmas.Bool.{leb-true, leb-false, le-leb, lt-leb}
use Rattle.std.proofs.lemmas.List.{drop_more, take_at, drop_at}
use Rattle.std.proofs.lemmas.Nat.{le_bytes_4, le_bytes_8, from_le_bytes-to_le_bytes_4, from_le_bytes-to_le_bytes_8, div-add-mod'}
use Rattle.slot_headers.specs.Headers.{ReadLaw, bytes_of, header_of}
use Rattle.slot_headers.specs.declared.header.Header.{Header}

-- the mark and the version make the number again
version_again : (v : ℕ) → v < 2 ^ 32 → v % 2 ^ 31 + cond (nat_le (2 ^ 31) v) (2 ^ 31) 0 ≡ v
version_again v small = go (nat_le (2 ^ 31) v) refl
  where
    go : (b : Bool) → nat_le (2 ^ 31) v ≡ b → v % 2 ^ 31 + cond b (2 ^ 31) 0 ≡ v
    go true e = omega (arith, leb-true _ _ e, div-add-mod' v (2 ^ 31))
    go false e = omega (arith, leb-false _ _ e, div-add-mod' v (2 ^ 31))

-- so many elements of a list, from a place on
abbrev elements : ℕ → ℕ → List ℕ → List ℕ
elements i zero xs = []
elements i (suc n) xs = get_or xs i 0 ∷ elements (suc i) n xs

elements-drop : (i n : ℕ) (xs : List ℕ) → length xs ≡ i + n → elements i n xs ≡ drop i xs
elements-drop i zero xs e = sym (drop_of_length-le xs (omega arith))
elements-drop i (suc n) xs e =
    let same : i + 1 ≡ suc i = omega arith in
    let rest : elements (suc i) n xs ≡ drop (i + 1) xs = elements-drop (suc i) n xs (omega arith) ∙ ap (λ k. drop k xs) (sym same) in
    ap (λ r. get_or xs i 0 ∷ r) rest ∙ sym (drop_more xs i 0 (omega arith))

-- elements are bytes where all are
elements-bytes : (xs : List ℕ) → ((i : ℕ) → get_or xs i 0 < 256) → (from n i : ℕ) → get_or (elements from n xs) i 0 < 256
elements-bytes xs bytes from zero i = omega arith
elements-bytes xs bytes from (suc n) zero = bytes from
elements-bytes xs bytes from (suc n) (suc i) = elements-bytes xs bytes (suc from) n i

-- Bytes are those of the header that they are read as.
pub same_bytes : (xs : List ℕ) (kind version size : ℕ) → length xs ≡ 16 → ((i : ℕ) → get_or xs i 0 < 256) → version < 2 ^ 32
    → kind ≡ from_le_bytes w32 (elements 0 4 xs) → version ≡ from_le_bytes w32 (elements 4 4 xs) → size ≡ from_le_bytes w64 (elements 8 8 xs)
    → bytes_of (record { kind = kind; version = version % 2 ^ 31; fixed = nat_le (2 ^ 31) version; size = size }) ≡ xs
same_bytes xs kind version size count bytes small k v s =
    let first : to_le_bytes w32 kind ≡ elements 0 4 xs = le_bytes_4 _ kind refl (elements-bytes xs bytes 0 4) k in
    let second : to_le_bytes w32 (version % 2 ^ 31 + cond (nat_le (2 ^ 31) version) (2 ^ 31) 0) ≡ elements 4 4 xs =
    ap (to_le_bytes w32) (version_again version small) ∙ le_bytes_4 _ version refl (elements-bytes xs bytes 4 4) v in
    let third : to_le_bytes w64 size ≡ elements 8 8 xs = le_bytes_8 _ size refl (elements-bytes xs bytes 8 8) s in
    ap (λ a. a ++ to_le_bytes w32 (version % 2 ^ 31 + cond (nat_le (2 ^ 31) version) (2 ^ 31) 0) ++ to_le_bytes w64 size) first
    ∙ ap (λ b. elements 0 4 xs ++ b ++ to_le_bytes w64 size) second
    ∙ ap (λ c. elements 0 4 xs ++ elements 4 4 xs ++ c) third
    ∙ elements-drop 0 16 xs count

-- ---- what is read of bytes

elements-take : (i n : ℕ) (xs : List ℕ) → i + n ≤ length xs → elements i n xs ≡ take n (drop i xs)
elements-take i zero xs e = refl
elements-take i (suc n) xs e =
    let same : i + 1 ≡ suc i = omega arith in
    ap (λ r. get_or xs i 0 ∷ r) (elements-take (suc i) n xs (omega arith) ∙ ap (λ k. take n (drop k xs)) (sym same))
    ∙ sym (ap (take (suc n)) (drop_more xs i 0 (omega arith)))

pub read_as : (xs : List ℕ) (kind version size : ℕ) → length xs ≡ 16
    → kind ≡ from_le_bytes w32 (elements 0 4 xs) → version ≡ from_le_bytes w32 (elements 4 4 xs) → size ≡ from_le_bytes w64 (elements 8 8 xs)
    → ◌≡◌ {A = Header} (record { kind = kind; version = version % 2 ^ 31; fixed = nat_le (2 ^ 31) version; size = size }) (header_of xs)
unfolding header_of
read_as xs kind version size count k v s =
    let first = k ∙ ap (from_le_bytes w32) (elements-take 0 4 xs (omega arith)) in
    let second = v ∙ ap (from_le_bytes w32) (elements-take 4 4 xs (omega arith)) in
    let third = s ∙ ap (from_le_bytes w64) (elements-drop 8 8 xs (omega arith)) in
    λ i. record { kind = first i; version = second i % 2 ^ 31; fixed = nat_le (2 ^ 31) (second i); size = third i }

marked_parts : (v : ℕ) (fixed : Bool) → v < 2 ^ 31 → ((v + cond fixed (2 ^ 31) 0) % 2 ^ 31 ≡ v) × (nat_le (2 ^ 31) (v + cond fixed (2 ^ 31) 0) ≡ fixed)
marked_parts v true small = (omega (arith, small), le-leb _ _ (omega arith))
marked_parts v false small = (omega (arith, small), lt-leb _ _ (omega (arith, small)))

pub read_law : ReadLaw
unfolding header_of
read_law h is =
    let a : List ℕ = to_le_bytes w32 h.kind in
    let m : ℕ = h.version + cond h.fixed (2 ^ 31) 0 in
    let b : List ℕ = to_le_bytes w32 m in
    let c : List ℕ = to_le_bytes w64 h.size in
    let whole : (a ++ b) ++ c ≡ a ++ (b ++ c) = append_assoc a b c in
    let behind : drop 4 ((a ++ b) ++ c) ≡ b ++ c = ap (drop 4) whole ∙ drop_at a (b ++ c) 4 refl in
    let first : from_le_bytes w32 (take 4 ((a ++ b) ++ c)) ≡ h.kind
    = ap (λ l. from_le_bytes w32 (take 4 l)) whole ∙ ap (from_le_bytes w32) (take_at a (b ++ c) 4 refl) ∙ from_le_bytes-to_le_bytes_4 h.kind is.kind in
    let second : from_le_bytes w32 (take 4 (drop 4 ((a ++ b) ++ c))) ≡ m
    = ap (λ l. from_le_bytes w32 (take 4 l)) behind ∙ ap (from_le_bytes w32) (take_at b c 4 refl) ∙ from_le_bytes-to_le_bytes_4 m (marked_small h.version h.fixed is.version) in
    let third : from_le_bytes w64 (drop 8 ((a ++ b) ++ c)) ≡ h.size
    = ap (from_le_bytes w64) (drop_at (a ++ b) c 8 refl) ∙ from_le_bytes-to_le_bytes_8 h.size is.size in
    let parts = marked_parts h.version h.fixed is.version in
    λ i. record {
      kind = first i;
      version = (ap (λ n. n % 2 ^ 31) second ∙ parts.0) i;
      fixed = (ap (nat_le (2 ^ 31)) second ∙ parts.1) i;
      size = third i;
    }
  where
    marked_small : (v : ℕ) (fixed : Bool) → v < 2 ^ 31 → v + cond fixed (2 ^ 31) 0 < 2 ^ 32
    marked_small v true small = omega (arith, small)
    marked_small v false small = omega (arith, small)
