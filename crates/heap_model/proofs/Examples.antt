-- What the definitions say of a few calls.
use Rattle.std.proofs.Common.{◌≡◌, ℕ, ◌+◌, ◌-◌, ◌^◌, pos, negsuc, true, false, List, [], ◌∷◌, map, take, Some, None, refl, sym, ap, ◌∙◌}
use Rattle.std.specs.List.{list_any}
use Rattle.std.proofs.lemmas.Bool.{false≢true}
use Rattle.std.proofs.lemmas.Option.{same_Some}
use Rattle.lowfat_regions.specs.Regions.{Slot, slot_of, slot_in, region_of, size_of, sizes, first_multiple, slots, slot_address, slot_base, class_of}
use Rattle.slot_headers.specs.Words.{address_of, version_of}
use Rattle.heap_model.specs.Objects.{offset_in}
use Rattle.heap_model.specs.Reaches.{narrow, inside, may_escape, same_slot, slot_bounds, moved}
use Rattle.slot_headers.specs.Cells.{Byte, parts, zeros, without_pointer, put}
use Rattle.heap_model.specs.Cells.{Number, Gave, Refused, Loads, access_outcome, access_report, load_outcome, cells_after_store, sign_extension}
use Rattle.heap_model.specs.Heap.{empty, is_full, resting}
use Rattle.heap_model.specs.Answers.{answer_by, access, next, offset, region, slot_at, first_byte, is_in}
use Rattle.heap_model.specs.Layouts.{Layouts}
use Rattle.heap_model.specs.Forms.{region_for, suits_call}
use Rattle.heap_model.specs.Legal.{IsLegal, Answers, AllocAnswers, MayPlace, replay}
use Rattle.heap_model.specs.declared.calls.AccessKind.TheVariants.{I8, U8, I32, I64, Ptr, Word}
use Rattle.heap_model.specs.declared.calls.Reach.{Reach}
use Rattle.heap_model.specs.declared.calls.Call.{Call}
use Rattle.heap_model.specs.declared.calls.Call.TheVariants.{Alloc, Free, Load}
use Rattle.heap_model.specs.declared.calls.Reply.{Reply}
use Rattle.heap_model.specs.declared.calls.Reply.TheVariants.{Placed, Done, Value as Moved, Report}
use Rattle.heap_model.specs.declared.calls.ReportKind.TheVariants.{Free as Freed, PointerBytes, NotPointer}
use Rattle.heap_model.specs.declared.calls.Entry.{Entry}

abbrev entry : ℕ → Call → Reply → Entry
entry n call reply = record { worker = 1; number = n; stamp = n + 1; region = 2; call = call; reply = reply }

abbrev w1 : ℕ
w1 = 1108101562400

-- a word of the next slot, and one of the next version
abbrev w2 : ℕ
w2 = w1 + 48

abbrev w1_again : ℕ
w1_again = w1 + 2 ^ 40

abbrev whole : Reach
whole = record { lo = 8589934624; hi = 8589934648 }

-- an object is made and freed, and its slot rests when the next is made
abbrev rested : List Entry
rested =
    entry 0 (Alloc 8 24 false) (Placed w1) ∷ entry 1 (Free w1 false) Done
    ∷ entry 2 (Alloc 8 24 false) (Placed w2) ∷ entry 3 (Load w1 whole I32) (Report Freed) ∷ []

rested-legal : (layouts : Layouts) → layouts.has 8 ≡ true → IsLegal layouts rested
unfolding answer_by access next offset slot_at first_byte Answers AllocAnswers region_for is_full slot_of slot_in region_of size_of sizes first_multiple slots slot_address address_of version_of offset_in class_of
rested-legal layouts has = (
  record { fits = refl; types = has; region_is = refl; answers = (refl, record { slot = record { region = 2; number = 0 }; slot_is = refl; of_region = refl; address = refl; no_live = refl; rested = refl; version = refl }) },
  (
    record { fits = refl; types = refl; region_is = refl; answers = refl },
    (
      record { fits = refl; types = has; region_is = refl; answers = (refl, record { slot = record { region = 2; number = 1 }; slot_is = refl; of_region = refl; address = refl; no_live = refl; rested = refl; version = refl }) },
      (
        record { fits = refl; types = refl; region_is = refl; answers = refl },
        tt,
      ),
    ),
  ),
)

-- a store of a whole number into a pointer value makes all of it zero first
without_pointer-first : cells_after_store {P = ℕ} U8 3 (Number 7) (parts 5) ≡ Byte 0 ∷ Byte 0 ∷ Byte 0 ∷ Byte 7 ∷ Byte 0 ∷ Byte 0 ∷ Byte 0 ∷ Byte 0 ∷ []
unfolding cells_after_store without_pointer put
without_pointer-first = refl

pointer-bytes : access_outcome {P = ℕ} true 4 I32 Loads (parts 5) ≡ Refused PointerBytes
unfolding access_outcome access_report load_outcome
pointer-bytes = refl

not-pointer : access_outcome {P = ℕ} true 0 Ptr Loads (Byte 1 ∷ zeros 7) ≡ Refused NotPointer
unfolding access_outcome access_report load_outcome
not-pointer = refl

null-pointer : access_outcome {P = ℕ} true 0 Ptr Loads (zeros 8) ≡ Gave (Number 0)
unfolding access_outcome access_report load_outcome
null-pointer = refl

signed-byte : access_outcome {P = ℕ} true 1 I8 Loads (Byte 0 ∷ Byte 255 ∷ []) ≡ Gave (Number (2 ^ 64 - 1))
unfolding access_outcome access_report load_outcome sign_extension
signed-byte = refl

-- the slot that rests may not be taken, though no object lives in it
not-rested : (m : MayPlace (replay empty (take 2 rested)) 2 w1_again) → ⊥
unfolding next slot_at slot_of slot_in region_of size_of sizes first_multiple slots slot_address address_of version_of
not-rested m =
    let first : ◌≡◌ {A = Slot} (record { region = 2; number = 0 }) m.slot = same_Some _ _ m.slot_is in
    let rests : true ≡ list_any (is_in m.slot) (resting region 2 (replay empty (take 2 rested))) = ap (λ s. list_any (is_in s) (resting region 2 (replay empty (take 2 rested)))) first in
    false≢true (sym (rests ∙ m.rested))

-- ---- regions

-- the slots of the regions from 1 to 27
slots-of-regions : map slots (1 ∷ 2 ∷ 3 ∷ 4 ∷ 5 ∷ 6 ∷ 7 ∷ 8 ∷ 9 ∷ 10 ∷ 11 ∷ 12 ∷ 13 ∷ 14 ∷ 15 ∷ 16 ∷ 17 ∷ 18 ∷ 19 ∷ 20 ∷ 21 ∷ 22 ∷ 23 ∷ 24 ∷ 25 ∷ 26 ∷ 27 ∷ [])
    ≡ 65536 ∷ 65536 ∷ 65536 ∷ 65536 ∷ 65536 ∷ 65536 ∷ 65536 ∷ 65536 ∷ 65536 ∷ 65536 ∷ 65536 ∷ 52428 ∷ 43690 ∷ 37449 ∷ 32768 ∷ 26214 ∷ 21845 ∷ 16384 ∷ 10922
    ∷ 8192 ∷ 4096 ∷ 2048 ∷ 1024 ∷ 256 ∷ 128 ∷ 64 ∷ 16 ∷ []
unfolding slots size_of sizes
slots-of-regions = refl

-- the first class has room for 15 bytes, and the last for 1,048,559
classes : map class_of (0 ∷ 15 ∷ 16 ∷ 31 ∷ 32 ∷ 1048559 ∷ 1048560 ∷ []) ≡ Some 1 ∷ Some 1 ∷ Some 2 ∷ Some 2 ∷ Some 3 ∷ Some 27 ∷ None ∷ []
unfolding class_of sizes
classes = refl

-- ---- reaches

narrowed : map (λ to. narrow whole (whole.lo + 4) to) ((whole.lo + 8) ∷ (whole.hi + 8) ∷ whole.lo ∷ [])
    ≡ record { lo = whole.lo + 4; hi = whole.lo + 8 } ∷ record { lo = whole.lo + 4; hi = whole.hi } ∷ record { lo = whole.lo + 4; hi = whole.lo + 4 } ∷ []
unfolding narrow
narrowed = refl

-- the end may be kept, and not accessed
at-the-end : (may_escape whole (w1 + 24) ≡ true) × (may_escape whole (w1 + 25) ≡ false) × (inside whole (w1 + 24) 1 ≡ false) × (inside whole (w1 + 20) 4 ≡ true)
unfolding may_escape inside address_of
at-the-end = (refl, refl, refl, refl)

-- a pointer may wander below its object and back
back-and-forth : moved (moved w1 (negsuc 0) 4) (pos 1) 4 ≡ w1
unfolding moved address_of version_of
back-and-forth = refl

-- two versions of one slot are two, and an object is followed by the end of its slot
one-slot : (same_slot w1 (w1 + 31) ≡ true) × (same_slot w1 w1_again ≡ false) × (same_slot w1 (w1 + 32) ≡ false) × (same_slot 0 0 ≡ false)
unfolding same_slot slot_of slot_in region_of size_of sizes first_multiple slots address_of version_of
one-slot = (refl, refl, refl, refl)

bounds-of-slots : (slot_bounds w1 ≡ record { lo = 8589934624; hi = 8589934655 }) × (slot_bounds 5 ≡ record { lo = 0; hi = 0 })
unfolding slot_bounds slot_base region_of size_of sizes address_of
bounds-of-slots = (refl, refl)

-- ---- forms

suits-null : (suits_call (Load w1 whole Ptr) (Moved (record { bits = 0; pointer = false })) ≡ true) × (suits_call (Load w1 whole Ptr) (Moved (record { bits = 1; pointer = false })) ≡ false)
suits-null = (refl, refl)

-- a signed byte is extended: 128 is no such number, and -128 is
suits-signed : (suits_call (Load w1 whole I8) (Moved (record { bits = 128; pointer = false })) ≡ false) × (suits_call (Load w1 whole I8) (Moved (record { bits = 2 ^ 64 - 128; pointer = false })) ≡ true)
unfolding sign_extension
suits-signed = (refl, refl)

suits-pointers : (suits_call (Load w1 whole Word) (Moved (record { bits = w1; pointer = true })) ≡ true) × (suits_call (Load w1 whole I64) (Moved (record { bits = w1; pointer = true })) ≡ false) × (suits_call (Load w1 whole Ptr) (Moved (record { bits = 5; pointer = true })) ≡ false)
unfolding version_of
suits-pointers = (refl, refl, refl)
