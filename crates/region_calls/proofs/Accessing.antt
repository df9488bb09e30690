-- Where an access may be made, and what it is answered else.
use Rattle.std.proofs.Common.{◌≡◌, ℕ, ◌+◌, ◌%◌, ◌≤◌, Bool, true, false, cond, ◌&&◌, ◌==◌, length, Option, Some, None, refl, sym, ap, ◌∙◌, ◌⊎◌, inl, inr, arith}
use Rattle.std.specs.Prelude.{nat_le, is_some}
use Rattle.std.proofs.lemmas.Bool.{leb-true, eqb-true, and_parts}
use Rattle.slot_headers.specs.Words.{address_of, version_of}
use Rattle.slot_headers.specs.Cells.{cells_at}
use Rattle.heap_model.specs.Cells.{Act, width, access_report, outcome_inside, report_or, access_outcome}
use Rattle.heap_model.specs.Heap.{Body, access_at}
use Rattle.heap_model.specs.Answers.{Live, access, is_inside, offset, reply}
use Rattle.heap_model.specs.Forms.{is_access_report}
use Rattle.heap_model.specs.State.{State, live_by}
use Rattle.heap_model.specs.declared.calls.AccessKind.{AccessKind}
use Rattle.heap_model.specs.declared.calls.AccessKind.TheVariants.{I8, U8, I16, U16, I32, U32, I64, U64, Ptr, Word}
use Rattle.heap_model.specs.declared.calls.Reach.{Reach}
use Rattle.heap_model.specs.declared.calls.Reply.TheVariants.{Report}
use Rattle.heap_model.specs.declared.calls.ReportKind.{ReportKind}
use Rattle.heap_model.specs.declared.calls.ReportKind.TheVariants.{Free, Null, Bounds, Align}
use Rattle.region_calls.specs.Naming.{IsAccess, IsPlace}
use Rattle.region_calls.proofs.Standing.{live-named}
use Rattle.region_calls.proofs.Ending.{same-some}

-- ---- the tests

module _ (live : Live) (p : ℕ) (reach : Reach) (kind : AccessKind) where
  pub refused-null : (version_of p == 0) ≡ true → (act : Act ℕ) → access live p reach kind act ≡ Report Null
  unfolding access
  refused-null null act = ap
      (λ b. cond b (Report Null)
      (reply (access_at (is_inside reach (address_of p) (width kind)) (offset reach.lo p) kind act
      (live reach.lo p)))) null

  module _ (not_null : (version_of p == 0) ≡ false) where
    -- by the object
    by-object : (act : Act ℕ) → access live p reach kind act ≡ reply
        (access_at (is_inside reach (address_of p) (width kind)) (offset reach.lo p) kind act (live reach.lo p))
    unfolding access
    by-object act = ap (λ b. cond b (Report Null)
        (reply (access_at (is_inside reach (address_of p) (width kind)) (offset reach.lo p) kind act
        (live reach.lo p)))) not_null

    pub refused-free : live reach.lo p ≡ None → (act : Act ℕ) → access live p reach kind act ≡ Report Free
    refused-free none act = by-object act ∙ ap
        (λ o. reply (access_at (is_inside reach (address_of p) (width kind)) (offset reach.lo p) kind act o)) none

    module _ (o : Body ℕ) (some : live reach.lo p ≡ Some o) where
      by-access : (act : Act ℕ) → access live p reach kind act
          ≡ reply (report_or (access_report (is_inside reach (address_of p) (width kind)) (offset reach.lo p)
          (width kind) (length o.cells)) (outcome_inside kind act (cells_at (offset reach.lo p) (width kind) o.cells)))
      unfolding access_outcome
      by-access act = by-object act ∙ ap
          (λ o. reply (access_at (is_inside reach (address_of p) (width kind)) (offset reach.lo p) kind act o)) some

      pub refused-access : (report : ReportKind)
          → access_report (is_inside reach (address_of p) (width kind)) (offset reach.lo p) (width kind)
          (length o.cells) ≡ Some report
          → (act : Act ℕ) → access live p reach kind act ≡ Report report
      refused-access report is act = by-access act
          ∙ ap (λ m. reply (report_or m
          (outcome_inside kind act (cells_at (offset reach.lo p) (width kind) o.cells)))) is

some-same : (a b : ReportKind) → ◌≡◌ {A = Option ReportKind} (Some a) (Some b) → a ≡ b
some-same a b e = cc

-- a report on the place is one on bounds or on alignment
is-bounds-or-align : (inside : Bool) (k w size : ℕ) (report : ReportKind)
    → access_report inside k w size ≡ Some report → (report ≡ Bounds) ⊎ (report ≡ Align)
unfolding access_report
is-bounds-or-align inside k w size report e = go (inside && nat_le (k + w) size) (k % w == 0) e
  where
    go : (b d : Bool) → cond b (cond d None (Some Align)) (Some Bounds) ≡ Some report
        → (report ≡ Bounds) ⊎ (report ≡ Align)
    go true true e = cc
    go true false e = inr (some-same _ _ (sym e))
    go false d e = inl (some-same _ _ (sym e))

pub gives-access-report : (inside : Bool) (k w size : ℕ) (report : ReportKind)
    → access_report inside k w size ≡ Some report → is_access_report report ≡ true
gives-access-report inside k w size report e = go (is-bounds-or-align inside k w size report e)
  where
    go : (report ≡ Bounds) ⊎ (report ≡ Align) → is_access_report report ≡ true
    go (inl e) = ap is_access_report e
    go (inr e) = ap is_access_report e

-- an access in its place is inside its object
pub placed-within : (inside : Bool) (k w size : ℕ) → access_report inside k w size ≡ None → k + w ≤ size
unfolding access_report
placed-within inside k w size e = go (inside && nat_le (k + w) size) refl e
  where
    go : (b : Bool) → (inside && nat_le (k + w) size) ≡ b
        → cond b (cond (k % w == 0) None (Some Align)) (Some Bounds) ≡ None → k + w ≤ size
    go true is e = leb-true _ _ (and_parts _ _ is).1
    go false is e = cc

-- and aligned
pub placed-aligned : (inside : Bool) (k w size : ℕ) → access_report inside k w size ≡ None → k % w ≡ 0
unfolding access_report
placed-aligned inside k w size e = go (inside && nat_le (k + w) size) (k % w == 0) refl e
  where
    go : (b d : Bool) → (k % w == 0) ≡ d → cond b (cond d None (Some Align)) (Some Bounds) ≡ None → k % w ≡ 0
    go true true is e = eqb-true _ _ is
    go true false is e = cc
    go false d is e = cc

module _ (st : State) (p : ℕ) (reach : Reach) (kind : AccessKind) (n k : ℕ) (at : IsAccess st p reach kind n k) where
  pub within : k + width kind ≤ length at.named.object.cells
  within = placed-within _ _ _ _ at.placed

  pub place-of : IsPlace st n k kind
  place-of = record {
    live = ap is_some at.named.body;
    aligned = placed-aligned _ _ _ _ at.placed;
    inside = λ o e.
        let same = same-some at.named.object o (sym at.named.body ∙ e) in
        omega (arith, within, ap (λ b. length b.cells) same);
  }

  pub answered : (act : Act ℕ) → access (live_by st) p reach kind act ≡ reply
      (outcome_inside kind act (cells_at k (width kind) at.named.object.cells))
  answered act =
      by-access (live_by st) p reach kind at.not_null at.named.object (live-named st reach.lo p n at.facts at.named) act
      ∙ ap (λ j. reply (report_or
      (access_report (is_inside reach (address_of p) (width kind)) j (width kind) (length at.named.object.cells))
      (outcome_inside kind act (cells_at j (width kind) at.named.object.cells)))) (sym at.offset_is)
      ∙ ap (λ m. reply (report_or m (outcome_inside kind act (cells_at k (width kind) at.named.object.cells))))
      at.placed

-- the same place, by what was computed
pub same-access_report : (reach : Reach) (inside : Bool) (a b v w s t k : ℕ) → inside ≡ is_inside reach a v → a ≡ b
    → v ≡ w → s ≡ t → access_report inside k v s ≡ access_report (is_inside reach b w) k w t
same-access_report reach inside a b v w s t k e f g d = ap (λ i. access_report i k v s) e
    ∙ (λ i. access_report (is_inside reach (f i) (g i)) k (g i) (d i))

pub width-bound : (kind : AccessKind) → (1 ≤ width kind) × (width kind ≤ 8)
width-bound I8 = (omega arith, omega arith)
width-bound U8 = (omega arith, omega arith)
width-bound I16 = (omega arith, omega arith)
width-bound U16 = (omega arith, omega arith)
width-bound I32 = (omega arith, omega arith)
width-bound U32 = (omega arith, omega arith)
width-bound I64 = (omega arith, omega arith)
width-bound U64 = (omega arith, omega arith)
width-bound Ptr = (omega arith, omega arith)
width-bound Word = (omega arith, omega arith)
