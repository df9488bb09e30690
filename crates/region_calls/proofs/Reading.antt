-- What a load gives of the cells at its place, and that the reply suits it.
use Rattle.std.proofs.Common.{◌≡◌, ℕ, zero, suc, ◌+◌, ◌-◌, ◌*◌, ◌/◌, ◌%◌, ◌^◌, ◌<◌, ◌≤◌, Bool, true, false, cond, List, Option, Some, None, refl, sym, ap, ◌∙◌, subst, ◌⊎◌, inl, inr, arith}
use Rattle.std.specs.Prelude.{nat_le}
use Rattle.std.proofs.lemmas.Bool.{eq-eqb, lt-ltb}
use Rattle.std.specs.List.{AllByRecursion}
use Rattle.slot_headers.specs.Words.{version_of}
use Rattle.slot_headers.specs.Cells.{Cell, bytes, parts, number_in, pointer_in, cells_at}
use Rattle.slot_headers.specs.declared.value.Value as held
use Rattle.slot_store.specs.Cells.{value_cells}
use Rattle.slot_store.proofs.Digits.{number_in-bytes}
use Rattle.heap_model.specs.Cells.{Loads, Adds, Number, Gave, Refused, width, load_outcome, sign_extension, outcome_inside}
use Rattle.heap_model.specs.Answers.{reply}
use Rattle.heap_model.specs.Forms.{is_number, can_give, is_access_report, suits_load, suits_add}
use Rattle.heap_model.specs.Pieces.{IsByte, IsWhole, all_bytes, one_pointer, HasWholePieces}
use Rattle.heap_model.specs.declared.calls.AccessKind.{AccessKind}
use Rattle.heap_model.specs.declared.calls.AccessKind.TheVariants.{I8, U8, I16, U16, I32, U32, I64, U64, Ptr, Word}
use Rattle.heap_model.specs.declared.calls.Value.{Value}
use Rattle.heap_model.specs.declared.calls.Reply.TheVariants.{Report, Value as Moved}
use Rattle.heap_model.specs.declared.calls.ReportKind.{ReportKind}
use Rattle.heap_model.specs.declared.calls.ReportKind.TheVariants.{Free, Null, Bounds, Align, PointerBytes, NotPointer}

-- ---- a whole number

-- a load of a whole number
load_outcome-number : (kind : AccessKind) → is_number kind ≡ true → (n : ℕ) (p : Option ℕ)
    → load_outcome kind (Some n) p ≡ Gave (Number (sign_extension kind n))
unfolding load_outcome
load_outcome-number I8 e n p = refl
load_outcome-number U8 e n p = refl
load_outcome-number I16 e n p = refl
load_outcome-number U16 e n p = refl
load_outcome-number I32 e n p = refl
load_outcome-number U32 e n p = refl
load_outcome-number I64 e n p = refl
load_outcome-number U64 e n p = refl
load_outcome-number Ptr e n p = cc
load_outcome-number Word e n p = cc

pub load-answer : (kind : AccessKind) → is_number kind ≡ true → (cells : List (Cell ℕ)) (n : ℕ)
    → number_in cells ≡ Some n
    → reply (outcome_inside kind Loads cells) ≡ Moved (record { bits = sign_extension kind n; pointer = false })
load-answer kind number cells n is =
    ap (λ o. reply (load_outcome kind o (pointer_in cells))) is
    ∙ ap reply (load_outcome-number kind number n (pointer_in cells))

sign-mod-8 : (b : Bool) (n : ℕ) → n < 2 ^ 8 → cond b (n + 2 ^ 64 - 2 ^ 8) n % 2 ^ 8 ≡ n
sign-mod-8 true n h = omega arith
sign-mod-8 false n h = omega arith

sign-mod-16 : (b : Bool) (n : ℕ) → n < 2 ^ 16 → cond b (n + 2 ^ 64 - 2 ^ 16) n % 2 ^ 16 ≡ n
sign-mod-16 true n h = omega arith
sign-mod-16 false n h = omega arith

sign-mod-32 : (b : Bool) (n : ℕ) → n < 2 ^ 32 → cond b (n + 2 ^ 64 - 2 ^ 32) n % 2 ^ 32 ≡ n
sign-mod-32 true n h = omega arith
sign-mod-32 false n h = omega arith

sign-mod-64 : (b : Bool) (n : ℕ) → n < 2 ^ 64 → cond b (n + 2 ^ 64 - 2 ^ 64) n % 2 ^ 64 ≡ n
sign-mod-64 true n h = omega arith
sign-mod-64 false n h = omega arith

-- a number with the copies of its sign has the bytes that it came from
back : (kind : AccessKind) → is_number kind ≡ true → (n : ℕ) → n < 2 ^ (8 * width kind)
    → sign_extension kind n % 2 ^ (8 * width kind) ≡ n
unfolding sign_extension
back I8 e n h = sign-mod-8 (nat_le (2 ^ 8) (2 * n)) n h
back U8 e n h = omega arith
back I16 e n h = sign-mod-16 (nat_le (2 ^ 16) (2 * n)) n h
back U16 e n h = omega arith
back I32 e n h = sign-mod-32 (nat_le (2 ^ 32) (2 * n)) n h
back U32 e n h = omega arith
back I64 e n h = sign-mod-64 (nat_le (2 ^ 64) (2 * n)) n h
back U64 e n h = omega arith
back Ptr e n h = cc
back Word e n h = cc

pub gives-sign_extension : (kind : AccessKind) → is_number kind ≡ true → (n : ℕ) → n < 2 ^ (8 * width kind)
    → can_give kind (sign_extension kind n) ≡ true
gives-sign_extension kind number n below = go kind number (ap (sign_extension kind) (back kind number n below))
  where
    go : (kind : AccessKind) → is_number kind ≡ true
        → sign_extension kind (sign_extension kind n % 2 ^ (8 * width kind)) ≡ sign_extension kind n
        → can_give kind (sign_extension kind n) ≡ true
    go I8 e same = eq-eqb _ _ same
    go U8 e same = eq-eqb _ _ same
    go I16 e same = eq-eqb _ _ same
    go U16 e same = eq-eqb _ _ same
    go I32 e same = eq-eqb _ _ same
    go U32 e same = eq-eqb _ _ same
    go I64 e same = eq-eqb _ _ same
    go U64 e same = eq-eqb _ _ same
    go Ptr e same = cc
    go Word e same = cc

-- where a part of a pointer stands
load_outcome-none : (kind : AccessKind) → is_number kind ≡ true → (p : Option ℕ)
    → load_outcome kind None p ≡ Refused PointerBytes
unfolding load_outcome
load_outcome-none I8 e p = refl
load_outcome-none U8 e p = refl
load_outcome-none I16 e p = refl
load_outcome-none U16 e p = refl
load_outcome-none I32 e p = refl
load_outcome-none U32 e p = refl
load_outcome-none I64 e p = refl
load_outcome-none U64 e p = refl
load_outcome-none Ptr e p = cc
load_outcome-none Word e p = cc

pub no-number-answer : (kind : AccessKind) → is_number kind ≡ true → (cells : List (Cell ℕ)) → number_in cells ≡ None
    → reply (outcome_inside kind Loads cells) ≡ Report PointerBytes
no-number-answer kind number cells is =
    ap (λ o. reply (load_outcome kind o (pointer_in cells))) is
    ∙ ap reply (load_outcome-none kind number (pointer_in cells))

-- an addition gives what a load gives of the number
pub add-answer : (kind : AccessKind) → is_number kind ≡ true → (n : ℕ) (cells : List (Cell ℕ)) (old : ℕ)
    → number_in cells ≡ Some old
    → reply (outcome_inside kind (Adds n) cells) ≡ Moved (record { bits = sign_extension kind old; pointer = false })
add-answer kind number n cells old is =
    ap (λ o. reply (load_outcome kind o None)) is ∙ ap reply (load_outcome-number kind number old None)

pub no-add-answer : (kind : AccessKind) → is_number kind ≡ true → (n : ℕ) (cells : List (Cell ℕ))
    → number_in cells ≡ None
    → reply (outcome_inside kind (Adds n) cells) ≡ Report PointerBytes
no-add-answer kind number n cells is =
    ap (λ o. reply (load_outcome kind o None)) is ∙ ap reply (load_outcome-none kind number None)

pub is-number : (kind : AccessKind) → (kind ≡ Ptr → ⊥) → (kind ≡ Word → ⊥) → is_number kind ≡ true
is-number I8 a b = refl
is-number U8 a b = refl
is-number I16 a b = refl
is-number U16 a b = refl
is-number I32 a b = refl
is-number U32 a b = refl
is-number I64 a b = refl
is-number U64 a b = refl
is-number Ptr a b = absurd (a refl)
is-number Word a b = absurd (b refl)

-- ---- eight bytes with their mark

-- the value that eight cells are
abbrev as_value : held.Value → Value
as_value v = record { bits = v.bits; pointer = v.pointer }

-- the number and the pointer in the cells of a value
number-marked : (v : held.Value) → v.pointer ≡ true → number_in (value_cells v) ≡ None
unfolding value_cells
number-marked v e = ap (λ b. number_in (cond b (parts v.bits) (bytes {P = ℕ} 8 v.bits))) e

pointer-marked : (v : held.Value) → v.pointer ≡ true → pointer_in (value_cells v) ≡ Some v.bits
unfolding value_cells
pointer-marked v e = ap (λ b. pointer_in (cond b (parts v.bits) (bytes {P = ℕ} 8 v.bits))) e

number-plain : (v : held.Value) → v.pointer ≡ false → v.bits < 2 ^ 64 → number_in (value_cells v) ≡ Some v.bits
unfolding value_cells
number-plain v e below =
    let same : v.bits % 2 ^ 64 ≡ v.bits = omega (arith, below) in
    ap (λ b. number_in (cond b (parts v.bits) (bytes {P = ℕ} 8 v.bits))) e ∙ number_in-bytes 8 v.bits ∙ ap Some same

pointer-plain : (v : held.Value) → v.pointer ≡ false → pointer_in (value_cells v) ≡ None
unfolding value_cells
pointer-plain v e = ap (λ b. pointer_in (cond b (parts v.bits) (bytes {P = ℕ} 8 v.bits))) e

by-parts : (kind : AccessKind) (cells : List (Cell ℕ)) (n p : Option ℕ) → number_in cells ≡ n → pointer_in cells ≡ p
    → reply (outcome_inside kind Loads cells) ≡ reply (load_outcome kind n p)
by-parts kind cells n p e f = λ i. reply (load_outcome kind (e i) (f i))

module _ (v : held.Value) (below : v.bits < 2 ^ 64) (cells : List (Cell ℕ)) (is : cells ≡ value_cells v) where
  marked : (kind : AccessKind) → v.pointer ≡ true
      → reply (outcome_inside kind Loads cells) ≡ reply (load_outcome kind None (Some v.bits))
  marked kind e = by-parts kind cells None (Some v.bits) (ap number_in is ∙ number-marked v e)
      (ap pointer_in is ∙ pointer-marked v e)

  unmarked : (kind : AccessKind) → v.pointer ≡ false
      → reply (outcome_inside kind Loads cells) ≡ reply (load_outcome kind (Some v.bits) None)
  unmarked kind e = by-parts kind cells (Some v.bits) None (ap number_in is ∙ number-plain v e below)
      (ap pointer_in is ∙ pointer-plain v e)

  pub word-answer : Moved (as_value v) ≡ reply (outcome_inside Word Loads cells)
  unfolding load_outcome
  word-answer = go v.pointer refl
    where
      go : (b : Bool) → v.pointer ≡ b → Moved (as_value v) ≡ reply (outcome_inside Word Loads cells)
      go true e = ap (λ b. Moved (record { bits = v.bits; pointer = b })) e ∙ sym (marked Word e)
      go false e = ap (λ b. Moved (record { bits = v.bits; pointer = b })) e ∙ sym (unmarked Word e)

  pub pointer-answer : (v.pointer ≡ true) ⊎ ((v.pointer ≡ false) × (v.bits ≡ 0))
      → Moved (as_value v) ≡ reply (outcome_inside Ptr Loads cells)
  unfolding load_outcome
  pointer-answer (inl e) = ap (λ b. Moved (record { bits = v.bits; pointer = b })) e ∙ sym (marked Ptr e)
  pointer-answer (inr both) =
      (λ i. Moved (record { bits = both.1 i; pointer = both.0 i }))
      ∙ sym (unmarked Ptr both.0 ∙ ap (λ n. reply (load_outcome Ptr (Some n) None)) both.1)

  pub no-pointer-answer : v.pointer ≡ false → (v.bits ≡ 0 → ⊥)
      → Report NotPointer ≡ reply (outcome_inside Ptr Loads cells)
  unfolding load_outcome
  no-pointer-answer e apart = some v.bits apart ∙ sym (unmarked Ptr e)
    where
      some : (n : ℕ) → (n ≡ 0 → ⊥) → Report NotPointer ≡ reply (load_outcome {P = ℕ} Ptr (Some n) None)
      some zero f = absurd (f refl)
      some (suc n) f = refl

  -- ---- where pieces are whole

  module _ (whole : IsWhole cells) where
    part-of : (b : Bool) → v.pointer ≡ b → cells ≡ cond b (parts v.bits) (bytes {P = ℕ} 8 v.bits)
    unfolding value_cells
    part-of b e = is ∙ ap (λ b. cond b (parts v.bits) (bytes {P = ℕ} 8 v.bits)) e

    same-part : (word : ℕ) → parts word ≡ parts v.bits → word ≡ v.bits
    same-part word e = cc

    versioned : v.pointer ≡ true → 1 ≤ version_of v.bits
    versioned e = go cells refl whole
      where
        go : (cs : List (Cell ℕ)) → cs ≡ cells → IsWhole cs → 1 ≤ version_of v.bits
        go cs f (all_bytes all) = absurd (no cs (f ∙ part-of true e) all)
          where
            no : (cs : List (Cell ℕ)) → cs ≡ parts v.bits → AllByRecursion IsByte cs → ⊥
            no cs g all = let none : AllByRecursion IsByte (parts v.bits) =
                subst (AllByRecursion IsByte) g all in none.0
        go cs f (one_pointer word version g) =
            subst (λ (w : ℕ). 1 ≤ version_of w) (same-part word (sym g ∙ f ∙ part-of true e)) version

    pub word-suits : suits_load Word (Moved (as_value v)) ≡ true
    unfolding sign_extension
    word-suits = go v.pointer refl
      where
        go : (b : Bool) → v.pointer ≡ b → suits_load Word (Moved (record { bits = v.bits; pointer = b })) ≡ true
        go true e = lt-ltb _ _ (versioned e)
        go false e = let same : v.bits % 2 ^ 64 ≡ v.bits = omega (arith, below) in eq-eqb _ _ same

    pub pointer-suits : (v.pointer ≡ true) ⊎ ((v.pointer ≡ false) × (v.bits ≡ 0))
        → suits_load Ptr (Moved (as_value v)) ≡ true
    pointer-suits (inl e) =
        ap (λ b. suits_load Ptr (Moved (record { bits = v.bits; pointer = b }))) e ∙ lt-ltb _ _ (versioned e)
    pointer-suits (inr both) =
        ap (λ b. suits_load Ptr (Moved (record { bits = v.bits; pointer = b }))) both.0 ∙ eq-eqb _ _ both.1

pub whole-here : (k : ℕ) (cells : List (Cell ℕ)) → HasWholePieces cells → k % 8 ≡ 0 → IsWhole (cells_at k 8 cells)
whole-here k cells pieces aligned =
    let there : 8 * (k / 8) ≡ k = omega (arith, aligned) in
    subst (λ j. IsWhole (cells_at j 8 cells)) there (pieces (k / 8))

-- ---- reports

pub load-report-suits : (kind : AccessKind) (report : ReportKind) → is_access_report report ≡ true
    → suits_load kind (Report report) ≡ true
load-report-suits kind Null is = refl
load-report-suits kind Free is = refl
load-report-suits kind Bounds is = refl
load-report-suits kind Align is = refl
load-report-suits kind _ is = cc

pub add-report-suits : (kind : AccessKind) (report : ReportKind) → is_access_report report ≡ true
    → suits_add kind (Report report) ≡ true
add-report-suits kind Null is = refl
add-report-suits kind Free is = refl
add-report-suits kind Bounds is = refl
add-report-suits kind Align is = refl
add-report-suits kind _ is = cc
