-- Marks, and those of them that count.
use Rattle.std.proofs.Common.{◌≡◌, ℕ, zero, suc, ◌+◌, ◌-◌, ◌<◌, ◌≤◌, List, [], ◌∷◌, length, map, Option, Some, None, true, false, get_or, replicate, refl, sym, ap, ◌∙◌, arith}
use Rattle.std.specs.Prelude.{All, ◌==◌, slice_get, slice_set, unwrap_or}
use Rattle.std.proofs.lemmas.Bool.{ne_eqb}
use Rattle.std.proofs.lemmas.List.{map-set, length-map, set_past}
use Rattle.std.proofs.lemmas.List.Elements.{All-head, All-tail}
use Rattle.std.proofs.lemmas.Option.{slice_get-map, slice_get_past, slice_get_read}
use Rattle.std.specs.Option.{option_map}
use Rattle.c_tokens.specs.declared.token.Token.{Token}
use Rattle.c_pp.specs.declared.marks.Mark.{Mark}
use Rattle.c_pp.specs.declared.marks.Mark.TheVariants.{Open}
use Rattle.c_pp.specs.declared.marks.Stamped.{Stamped}
use Rattle.c_pp.specs.declared.marks.Marks.{Marks}
use Rattle.c_pp.specs.Marked.{in_force, held, mark_at, is_met, marks_of, met_of}
use Rattle.c_pp.specs.Directives.{last_end}

same_count : (n : ℕ) → (n == n) ≡ true
same_count n = grind arith

-- a mark that is made now is in force
pub made_now : (changes : ℕ) (mark : Mark) → in_force changes (record { changes = changes; mark = mark }) ≡ Some mark
made_now changes mark = rw (same_count changes) refl

pub set_mark : (changes : ℕ) (marks : List Stamped) (number : ℕ) (mark : Mark) →
    map (in_force changes) (slice_set marks number (record { changes = changes; mark = mark })) ≡ slice_set (map (in_force changes) marks) number (Some mark)
set_mark changes marks number mark =
    map-set (in_force changes) marks number (record { changes = changes; mark = mark })
    ∙ ap (slice_set (map (in_force changes) marks) number) (made_now changes mark)

pub set_beyond : (changes : ℕ) (marks : List Stamped) (number : ℕ) (mark : Mark) → length marks ≤ number →
    map (in_force changes) marks ≡ slice_set (map (in_force changes) marks) number (Some mark)
set_beyond changes marks number mark low =
    let n : length (map (in_force changes) marks) ≡ length marks = simp length-map in
    sym (set_past (map (in_force changes) marks) number (Some mark) (omega arith))

pub mark_beyond : (changes : ℕ) (marks : List Stamped) (number : ℕ) → length marks ≤ number → mark_at (map (in_force changes) marks) number ≡ None
mark_beyond changes marks number low =
    let n : length (map (in_force changes) marks) ≡ length marks = simp length-map in
    ap held (slice_get_past (map (in_force changes) marks) number (omega arith))

mark_there : (changes : ℕ) (marks : List Stamped) (number : ℕ) (stamped : Stamped) → number < length marks → stamped ≡ get_or marks number stamped →
    mark_at (map (in_force changes) marks) number ≡ in_force changes stamped
mark_there changes marks number stamped low is =
    ap held (slice_get-map (in_force changes) marks number ∙ ap (option_map (in_force changes)) (slice_get_read marks (length marks) number stamped refl low is))

pub mark_counts : (changes : ℕ) (marks : List Stamped) (number : ℕ) (stamped : Stamped) → number < length marks → stamped ≡ get_or marks number stamped →
    stamped.changes ≡ changes → Some stamped.mark ≡ mark_at (map (in_force changes) marks) number
mark_counts changes marks number stamped low is same =
    let e : (stamped.changes == changes) ≡ true = ap (λ n. n == changes) same ∙ same_count changes in
    let f : in_force changes stamped ≡ Some stamped.mark = rw e refl in
    sym (mark_there changes marks number stamped low is ∙ f)

pub mark_counts_not : (changes : ℕ) (marks : List Stamped) (number : ℕ) (stamped : Stamped) → number < length marks → stamped ≡ get_or marks number stamped →
    (stamped.changes ≡ changes → ⊥) → None ≡ mark_at (map (in_force changes) marks) number
mark_counts_not changes marks number stamped low is other =
    let e : (stamped.changes == changes) ≡ false = ne_eqb stamped.changes changes other in
    let f : in_force changes stamped ≡ None = rw e refl in
    sym (mark_there changes marks number stamped low is ∙ f)

pub none_made : (count : ℕ) → map (in_force 1) (replicate count (record { changes = 0; mark = Open })) ≡ replicate count None
none_made zero = refl
none_made (suc count) = ap (λ l. None ∷ l) (none_made count)

-- marks of earlier changes are not in force
pub none_later : (changes : ℕ) (marks : List Stamped) → All (λ (s : Stamped). s.changes ≤ changes) marks →
    map (in_force (changes + 1)) marks ≡ map (λ _. None) (map (in_force changes) marks)
none_later changes [] past = refl
none_later changes (s ∷ marks) past =
    let low : s.changes ≤ changes = All-head (λ (s : Stamped). s.changes ≤ changes) s marks past in
    let other : (s.changes == (changes + 1)) ≡ false = ne_eqb s.changes (changes + 1) (λ e. omega arith) in
    let rest = none_later changes marks (All-tail (λ (s : Stamped). s.changes ≤ changes) s marks past) in
    rw other (ap (λ l. None ∷ l) rest)

-- the last of some tokens ends where they end
pub last_ends : (ts : List Token) (t : Token) (end : ℕ) → slice_get ts (length ts - 1) ≡ Some t → last_end end ts ≡ t.end
last_ends [] t end h = absurd cc
last_ends (u ∷ []) t end h = (let e : u ≡ t = one u h in ap (λ (x : Token). x.end) e)
  where
    one : (u : Token) → slice_get (u ∷ []) (1 - 1) ≡ Some t → u ≡ t
    one u h = cc
last_ends (u ∷ v ∷ ts) t end h =
    let n : suc (suc (length ts)) - 1 ≡ suc (length ts) = omega arith in
    let m : length ts ≡ suc (length ts) - 1 = omega arith in
    last_ends (v ∷ ts) t u.end (ap (slice_get (v ∷ ts)) (sym m) ∙ sym (ap (slice_get (u ∷ v ∷ ts)) n) ∙ h)

-- ---- one mark more

-- how many macros have no mark
pub unmarked : List (Option Mark) → ℕ
unmarked [] = 0
unmarked (None ∷ marks) = suc (unmarked marks)
unmarked (Some m ∷ marks) = unmarked marks

pub fewer_unmarked : (marks : List (Option Mark)) (number : ℕ) (mark : Mark) → number < length marks → mark_at marks number ≡ None →
    suc (unmarked (slice_set marks number (Some mark))) ≡ unmarked marks
unfolding unmarked
fewer_unmarked [] number mark low none = absurd (omega arith)
fewer_unmarked (None ∷ marks) zero mark low none = refl
fewer_unmarked (Some m ∷ marks) zero mark low none = absurd cc
fewer_unmarked (None ∷ marks) (suc number) mark low none = ap suc (fewer_unmarked marks number mark (omega arith) none)
fewer_unmarked (Some m ∷ marks) (suc number) mark low none = fewer_unmarked marks number mark (omega arith) none

pub no_more_unmarked : (marks : List (Option Mark)) (number : ℕ) (mark : Mark) → unmarked (slice_set marks number (Some mark)) ≤ unmarked marks
unfolding unmarked
no_more_unmarked [] number mark = omega arith
no_more_unmarked (None ∷ marks) zero mark = omega arith
no_more_unmarked (Some m ∷ marks) zero mark = omega arith
no_more_unmarked (None ∷ marks) (suc number) mark = let r = no_more_unmarked marks number mark in omega arith
no_more_unmarked (Some m ∷ marks) (suc number) mark = no_more_unmarked marks number mark

pub set_at : (marks : List (Option Mark)) (number : ℕ) (mark : Option Mark) → number < length marks → mark_at (slice_set marks number mark) number ≡ mark
set_at [] number mark low = absurd (omega arith)
set_at (m ∷ marks) zero mark low = refl
set_at (m ∷ marks) (suc number) mark low = set_at marks number mark (omega arith)

pub set_elsewhere : (marks : List (Option Mark)) (number : ℕ) (mark : Option Mark) (other : ℕ) → (other ≡ number → ⊥) → mark_at (slice_set marks number mark) other ≡ mark_at marks other
set_elsewhere [] number mark other apart = refl
set_elsewhere (m ∷ marks) zero mark zero apart = absurd (apart refl)
set_elsewhere (m ∷ marks) zero mark (suc other) apart = refl
set_elsewhere (m ∷ marks) (suc number) mark zero apart = refl
set_elsewhere (m ∷ marks) (suc number) mark (suc other) apart = set_elsewhere marks number mark other (λ e. apart (ap suc e))

-- ---- names that were met

pub set_met : (changes : ℕ) (meetings : List ℕ) (number : ℕ) →
    map (λ met. met == changes) (slice_set meetings number changes) ≡ slice_set (map (λ met. met == changes) meetings) number true
set_met changes meetings number =
    map-set (λ met. met == changes) meetings number changes ∙ ap (slice_set (map (λ met. met == changes) meetings) number) (same_count changes)

pub met_beyond : (changes : ℕ) (meetings : List ℕ) (number : ℕ) → length meetings ≤ number →
    map (λ met. met == changes) meetings ≡ slice_set (map (λ met. met == changes) meetings) number true
met_beyond changes meetings number low =
    let n : length (map (λ met. met == changes) meetings) ≡ length meetings = simp length-map in
    sym (set_past (map (λ met. met == changes) meetings) number true (omega arith))

pub none_met_made : (count : ℕ) → map (λ met. met == 1) (replicate count 0) ≡ replicate count false
none_met_made zero = refl
none_met_made (suc count) = ap (λ l. false ∷ l) (none_met_made count)

-- what was met before an earlier change counts no more
pub none_met_later : (changes : ℕ) (meetings : List ℕ) → All (λ (met : ℕ). met ≤ changes) meetings →
    map (λ met. met == (changes + 1)) meetings ≡ map (λ _. false) (map (λ met. met == changes) meetings)
none_met_later changes [] past = refl
none_met_later changes (m ∷ meetings) past =
    let low : m ≤ changes = All-head (λ (met : ℕ). met ≤ changes) m meetings past in
    let other : (m == (changes + 1)) ≡ false = ne_eqb m (changes + 1) (λ e. omega arith) in
    let rest = none_met_later changes meetings (All-tail (λ (met : ℕ). met ≤ changes) m meetings past) in
    rw other (ap (λ l. false ∷ l) rest)

pub met_there : (changes : ℕ) (meetings : List ℕ) (number met : ℕ) → number < length meetings → met ≡ get_or meetings number met →
    (met == changes) ≡ is_met (map (λ met. met == changes) meetings) number
met_there changes meetings number met low is =
    sym (ap (λ o. unwrap_or o false) (slice_get-map (λ met. met == changes) meetings number ∙ ap (option_map (λ met. met == changes)) (slice_get_read meetings (length meetings) number met refl low is)))

pub not_met_beyond : (changes : ℕ) (meetings : List ℕ) (number : ℕ) → length meetings ≤ number → false ≡ is_met (map (λ met. met == changes) meetings) number
not_met_beyond changes meetings number low =
    let n : length (map (λ met. met == changes) meetings) ≡ length meetings = simp length-map in
    sym (ap (λ o. unwrap_or o false) (slice_get_past (map (λ met. met == changes) meetings) number (omega arith)))

pub length-met_of : (marks : Marks) → length (met_of marks) ≡ length (marks_of marks)
unfolding marks_of met_of
length-met_of marks =
    length-map marks.meetings.items (λ met. met == marks.changes) ∙ marks.alike ∙ sym (length-map marks.stamped.items (in_force marks.changes))
