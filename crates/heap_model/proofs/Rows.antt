-- Rows with the entries that they are.
use Rattle.std.proofs.Common.{◌≡◌, ℕ, ◌+◌, ◌-◌, List, [], ◌∷◌, ◌++◌, length, get_or, refl, ap, ◌∙◌, arith}
use Rattle.std.specs.Prelude.{unwrap_or}
use Rattle.std.specs.List.{AllByRecursion}
use Rattle.std.proofs.lemmas.List.{get_or_append_left, get_or-append_right}
use Rattle.heap_model.specs.Rows.{Keeps, blank, entry_at, IsWithin, entries_in}
use Rattle.heap_model.specs.declared.calls.Entry.{Entry}
use Rattle.heap_model.specs.declared.row.Row.{Row}
use Rattle.heap_model.specs.declared.row.Row.TheVariants.{Whole}

-- a row that keeps an entry is that entry, beside whatever stands whole
pub entry_at-kept : (whole : List Entry) (e : Entry) (row : Row) → Keeps e row → entry_at whole row ≡ e
entry_at-kept whole e (Whole at) keeps = cc
entry_at-kept whole e row keeps = ap (λ o. unwrap_or o blank) keeps

pub kept-within : (count : ℕ) (e : Entry) (row : Row) → Keeps e row → IsWithin count row
kept-within count e (Whole at) keeps = cc
kept-within count e row keeps = tt

-- ---- one entry more that stands whole

pub within-more : (count : ℕ) (row : Row) → IsWithin count row → IsWithin (count + 1) row
within-more count (Whole at) within = omega arith
within-more count row within = tt

pub entry_at-more : (whole : List Entry) (e : Entry) (row : Row) → IsWithin (length whole) row → entry_at (whole ++ e ∷ []) row ≡ entry_at whole row
entry_at-more whole e (Whole at) within = get_or_append_left whole (e ∷ []) blank at within
entry_at-more whole e row within = refl

pub all-within-more : (count : ℕ) (rows : List Row) → AllByRecursion (IsWithin count) rows → AllByRecursion (IsWithin (count + 1)) rows
all-within-more count [] all = tt
all-within-more count (row ∷ rows) all = (within-more count row all.0, all-within-more count rows all.1)

-- ---- one row more

pub all-push : (count : ℕ) (rows : List Row) (row : Row) → AllByRecursion (IsWithin count) rows → IsWithin count row → AllByRecursion (IsWithin count) (rows ++ row ∷ [])
all-push count [] row all one = (one, tt)
all-push count (first ∷ rows) row all one = (all.0, all-push count rows row all.1 one)

-- a row of the whole entry that is added
pub entries_in-whole : (whole : List Entry) (e : Entry) (rows : List Row) (place : ℕ) → place ≡ length whole → AllByRecursion (IsWithin (length whole)) rows
    → entries_in (whole ++ e ∷ []) (rows ++ Whole place ∷ []) ≡ entries_in whole rows ++ e ∷ []
entries_in-whole whole e [] place here all =
    let none : place - length whole ≡ 0 = omega arith in
    let at : get_or (whole ++ e ∷ []) place blank ≡ e = get_or-append_right whole (e ∷ []) (length whole) place blank refl (omega arith) ∙ ap (λ n. get_or (e ∷ []) n blank) none in
    ap (λ x. x ∷ []) at
entries_in-whole whole e (row ∷ rows) place here all = cc (entry_at-more whole e row all.0, entries_in-whole whole e rows place here all.1)
