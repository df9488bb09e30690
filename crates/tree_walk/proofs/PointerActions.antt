-- The places at which pointers are made, tested and checked.
use Rattle.std.proofs.Common.{◌≡◌, ℕ, ◌<◌, ◌≤◌, true, false, cond, refl, ap, ◌∙◌, arith}
use Rattle.std.specs.Prelude.{nat_le}
use Rattle.std.proofs.lemmas.Bool.Decides.{nat_tests}
use Rattle.c_types.specs.Table.{shape_of}
use Rattle.lowfat_regions.specs.Regions.{max_object_bytes, region_of}
use Rattle.slot_headers.specs.Words.{address_of}
use Rattle.heap_model.specs.Reaches.{may_escape, slot_bounds}
use Rattle.heap_model.specs.Forms.{suits_alloc}
use Rattle.heap_model.specs.declared.calls.Reply.{Reply}
use Rattle.heap_model.specs.declared.calls.Reply.TheVariants as reply
use Rattle.plain_meaning.specs.declared.tree.Target.TheVariants.{Int, Char}
use Rattle.heap_model.specs.declared.calls.Call.TheVariants as call
use Rattle.plain_meaning.specs.declared.tree.Target.{Target}
use Rattle.plain_meaning.specs.declared.record.Ending.TheVariants.{Reported}
use Rattle.plain_meaning.specs.declared.scalar.Scalar.{Scalar}
use Rattle.plain_meaning.specs.declared.scalar.Scalar.TheVariants.{Number, Pointer}
use Rattle.plain_meaning.specs.declared.scalar.CheckedPointer.{CheckedPointer}
use Rattle.plain_meaning.specs.Tree.{Null, IsNull, Allocate, Free, Pass, Convert, Stop, Point}
use Rattle.plain_meaning.specs.Points.{Go, Halt, Now, Ask, Asking, null, is_null, bit, escape, halt_with, check_for, checked_point, number_of, pointer_of}
use Rattle.std.specs.Prelude.{pos, slice_index_or}
use Rattle.plain_meaning.specs.Values.{Variables, zero_of, is_true, type_of}
use Rattle.plain_meaning.specs.Run.{layouts}
use Rattle.plain_meaning.specs.Meaning.{pointer, pointer_in, heap_call, allocation, release}
use Rattle.tree_walk.specs.declared.walk.Walk.{Walk}
use Rattle.tree_walk.specs.Steps.{Events, Passes, IsAbout}
use Rattle.tree_walk.proofs.Passing.{nothing, passes_on, in_words, passed}

-- ---- pointers of variables

pub null_passes : (walk : Walk) (line : ℕ) (f : Scalar CheckedPointer → Events) → Passes walk (Point line Null zero_of zero_of f) walk (f (Pointer null))
null_passes walk line f = passed walk line Null zero_of zero_of f (Go (Pointer null) tt) refl

in_variable : (walk : Walk) (line : ℕ) (x : Scalar CheckedPointer) (f : Scalar CheckedPointer → Events) →
    Passes walk (pointer_in line x f) walk (f (Pointer (pointer_of x)))
in_variable walk line (Number n) f = null_passes walk line f
in_variable walk line (Pointer p) f = nothing walk (f (Pointer p))

pub pointer_passes : (walk : Walk) (line : ℕ) (variables : Variables CheckedPointer) (x : ℕ) (f : Scalar CheckedPointer → Events) →
    Passes walk (pointer line variables x f) walk (f (Pointer (pointer_of (slice_index_or variables x zero_of))))
pointer_passes walk line variables x f = in_variable walk line (slice_index_or variables x zero_of) f

-- ---- allocations

pub too_large : (walk : Walk) (line : ℕ) (target : Target) (size : ℕ) (f : Scalar CheckedPointer → Events) → max_object_bytes < size →
    Passes walk (allocation line target size f) walk (f (Pointer null))
too_large walk line target size f over =
    let no : nat_le size max_object_bytes ≡ false = grind (arith, nat_tests) in
    in_words (allocation line target size f)
    (ap (λ b. cond b (heap_call line (Allocate (type_of target)) (Number (pos size)) zero_of f) (Point line Null zero_of zero_of f)) no)
    (null_passes walk line f)

pub with_room : (walk : Walk) (line : ℕ) (target : Target) (size : ℕ) (f : Scalar CheckedPointer → Events) → size ≤ max_object_bytes →
    Passes walk (allocation line target size f) walk (heap_call line (Allocate (type_of target)) (Number (pos size)) zero_of f)
with_room walk line target size f fits =
    let yes : nat_le size max_object_bytes ≡ true = grind (arith, nat_tests) in
    in_words (allocation line target size f)
    (ap (λ b. cond b (heap_call line (Allocate (type_of target)) (Number (pos size)) zero_of f) (Point line Null zero_of zero_of f)) yes)
    (nothing walk (heap_call line (Allocate (type_of target)) (Number (pos size)) zero_of f))

-- ---- tests

module _ (walk : Walk) (line : ℕ) (p : CheckedPointer) where
  out_of_reach : Asking → Asking
  out_of_reach answer = Now (halt_with (escape line p) tt)

  pub conversion_escapes : (want : ℕ) (f : Scalar CheckedPointer → Events) → may_escape p.reach p.word ≡ false →
      Passes walk (Point line (Convert want) (Pointer p) zero_of f) walk (Stop (Reported (escape line p)))
  conversion_escapes want f out =
      passed walk line (Convert want) (Pointer p) zero_of f (Halt (Reported (escape line p)) tt)
      (ap (λ b. cond b (check_for want p tt) (Now (halt_with (escape line p) tt))) out)

  pub conversion_of_null : (want : ℕ) (f : Scalar CheckedPointer → Events) → may_escape p.reach p.word ≡ true → is_null p ≡ true →
      Passes walk (Point line (Convert want) (Pointer p) zero_of f) walk (f (Pointer p))
  conversion_of_null want f inside is =
      passed walk line (Convert want) (Pointer p) zero_of f (Go (Pointer p) tt)
      (ap (λ b. cond b (check_for want p tt) (Now (halt_with (escape line p) tt))) inside
      ∙ ap (λ b. let x : Asking = cond b (Now (Go (Pointer p) tt)) (Ask (call.Check p.word want)) in x) is)

  pub asks_check : (want : ℕ) → may_escape p.reach p.word ≡ true → is_null p ≡ false →
      checked_point tt line (Convert want) (Pointer p) zero_of ≡ Ask (call.Check p.word want)
  asks_check want inside is =
      ap (λ b. cond b (check_for want p tt) (Now (halt_with (escape line p) tt))) inside
      ∙ ap (λ b. let x : Asking = cond b (Now (Go (Pointer p) tt)) (Ask (call.Check p.word want)) in x) is

  pub asks_free : checked_point tt line Free (Pointer p) zero_of ≡ Ask (call.Free p.word false)
  asks_free = refl

  pub release_escapes : (t : Events) → may_escape p.reach p.word ≡ false → Passes walk (release line (Pointer p) t) walk (Stop (Reported (escape line p)))
  release_escapes t out =
      passed walk line Pass (Pointer p) zero_of _ (Halt (Reported (escape line p)) tt)
      (ap (λ b. let x : Asking = cond b (Now (Go (Pointer p) tt)) (Now (halt_with (escape line p) tt)) in x) out)

  -- whether it is null is asked next
  is_asked : (t : Events) → may_escape p.reach p.word ≡ true →
      Passes walk (release line (Pointer p) t) walk (cond (is_true (bit (is_null p))) t (heap_call line Free (Pointer p) zero_of (λ done. t)))
  is_asked t inside =
      passes_on
      (passed walk line Pass (Pointer p) zero_of _ (Go (Pointer p) tt)
      (ap (λ b. let x : Asking = cond b (Now (Go (Pointer p) tt)) (Now (halt_with (escape line p) tt)) in x) inside))
      (passed walk line IsNull (Pointer p) zero_of
      (λ is. cond (is_true (number_of is)) t (heap_call line Free (Pointer p) zero_of (λ done. t))) (Go (Number (bit (is_null p))) tt) refl)

  pub release_of_null : (t : Events) → may_escape p.reach p.word ≡ true → is_null p ≡ true → Passes walk (release line (Pointer p) t) walk t
  release_of_null t inside is =
      passes_on (is_asked t inside)
      (in_words _ (ap (λ b. cond (is_true (bit b)) t (heap_call line Free (Pointer p) zero_of (λ done. t))) is) (nothing walk t))

  pub release_goes : (t : Events) → may_escape p.reach p.word ≡ true → is_null p ≡ false →
      Passes walk (release line (Pointer p) t) walk (heap_call line Free (Pointer p) zero_of (λ done. t))
  release_goes t inside is =
      passes_on (is_asked t inside)
      (in_words _ (ap (λ b. cond (is_true (bit b)) t (heap_call line Free (Pointer p) zero_of (λ done. t))) is)
      (nothing walk (heap_call line Free (Pointer p) zero_of (λ done. t))))

-- ---- what a call needs

pub has_size : (target : Target) → layouts.has (type_of target) ≡ true
unfolding shape_of
has_size Int = refl
has_size Char = refl

pub null_subject : (line elem : ℕ) → IsAbout (record { line = line; word = 0; reach = record { lo = 0; hi = 0 }; want = 0 }) (Allocate elem) null
unfolding slot_bounds address_of region_of
null_subject line elem = record { word = refl; reach = refl; want = refl }

pub no_slot : (r : Reply) → suits_alloc r ≡ true → ((word : ℕ) → r ≡ reply.Placed word → ⊥) → r ≡ reply.NoSlot
no_slot (reply.Placed word) suits other = absurd (other word refl)
no_slot reply.NoSlot suits other = refl
no_slot reply.Done suits other = cc
no_slot (reply.Found reach) suits other = cc
no_slot (reply.Value v) suits other = cc
no_slot (reply.Report kind) suits other = cc
