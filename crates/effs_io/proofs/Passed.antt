-- What several reads gave, and several writes took, together.
use Rattle.std.proofs.Common.{◌≡◌, ℕ, ◌+◌, ◌≤◌, List, ◌++◌, length, take, drop, Option, None, Some, IfSome, sym, ap, ◌∙◌, append_assoc, arith, length-append, take-append-drop, take-add}
use lib.Seq.{drop-append_seam}
use Rattle.std.specs.Io.KnownBytes.{Consumes}
use Rattle.effs_io.specs.Streams.{GaveFirst, Gave, Moves, Stays, GaveSome, Appends}

-- a read after others gave the bytes after theirs
pub consumes-read : (a b c : Option (List ℕ)) (bytes buffer : List ℕ) (n : ℕ) → Consumes a b bytes
    → IfSome b (λ left. GaveFirst n left buffer) → Moves n b c → Consumes a c (bytes ++ take n buffer)
consumes-read None b c bytes buffer n before given moved = tt
consumes-read (Some x) None c bytes buffer n before given moved = absurd before
consumes-read (Some x) (Some y) None bytes buffer n before given moved = absurd cc
consumes-read (Some x) (Some y) (Some z) bytes buffer n before given moved =
    let rest : z ≡ drop n y = cc in
    let split : y ≡ take n buffer ++ z = sym (take-append-drop n y) ∙ ap (λ l. take n y ++ l) (sym rest) ∙ ap (λ l. l ++ z) (sym given.1) in
    before ∙ ap (λ l. bytes ++ l) split ∙ sym (append_assoc bytes (take n buffer) z)

-- what was given is some of the first bytes, and the rest is left
pub consumes-some : (a b : Option (List ℕ)) (bytes : List ℕ) (most : ℕ) → Consumes a b bytes → length bytes ≤ most → GaveSome most a b
consumes-some None b bytes most before few = (length bytes, few, tt, tt)
consumes-some (Some x) None bytes most before few = absurd before
consumes-some (Some x) (Some y) bytes most before few =
    let longer : length bytes ≤ length x = omega (arith, ap length before ∙ length-append bytes y) in
    (length bytes, few, longer, ap Some (sym (ap (drop (length bytes)) before ∙ drop-append_seam bytes y)))

pub consumes-stays : (a b c : Option (List ℕ)) (bytes : List ℕ) → Consumes a b bytes → Stays b c → Consumes a c bytes
consumes-stays None b c bytes before stays = tt
consumes-stays (Some x) None c bytes before stays = absurd before
consumes-stays (Some x) (Some y) None bytes before stays = absurd cc
consumes-stays (Some x) (Some y) (Some z) bytes before stays =
    let same : z ≡ y = cc in before ∙ ap (λ l. bytes ++ l) (sym same)

-- a write took the bytes after those that were taken
pub appends-write : (a b c : Option (List ℕ)) (bytes rest : List ℕ) (done n : ℕ) → rest ≡ drop done bytes
    → Appends (take done bytes) a b → Appends (take n rest) b c → Appends (take (done + n) bytes) a c
appends-write None b c bytes rest done n later before took = tt
appends-write (Some x) None c bytes rest done n later before took = absurd cc
appends-write (Some x) (Some y) c bytes rest done n later before took =
    let front : y ≡ x ++ take done bytes = cc in
    let whole : take done bytes ++ take n rest ≡ take (done + n) bytes =
    ap (λ l. take done bytes ++ take n l) later ∙ sym (take-add done n bytes) in
    took ∙ ap (λ l. Some (l ++ take n rest)) front
    ∙ ap Some (append_assoc x (take done bytes) (take n rest) ∙ ap (λ l. x ++ l) whole)

-- what was given is so many bytes, and the rest is left
pub consumes-all : (a b : Option (List ℕ)) (bytes : List ℕ) (n : ℕ) → Consumes a b bytes → length bytes ≡ n → Gave n a b
consumes-all None b bytes n before many = (tt, tt)
consumes-all (Some x) None bytes n before many = absurd before
consumes-all (Some x) (Some y) bytes n before many =
    let front : n ≤ length x = omega (arith, many, ap length before ∙ length-append bytes y) in
    (front, ap Some (sym (ap (λ k. drop k x) (sym many) ∙ ap (drop (length bytes)) before ∙ drop-append_seam bytes y)))
