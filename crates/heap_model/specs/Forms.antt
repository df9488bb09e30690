-- The calls that may be made, the regions that they are made in, and the replies that may come.
use Rattle.std.specs.Prelude.{ℕ, ◌*◌, ◌^◌, ◌%◌, Bool, true, false, not, ◌&&◌, ◌||◌, ◌==◌, nat_lt, if◌then◌else◌, Option, Some, unwrap_or}
use Rattle.lowfat_regions.specs.Regions.{class_of, region_of}
use Rattle.slot_headers.specs.Words.{address_of, version_of}
use Rattle.heap_model.specs.Cells.{width, sign_extension}
use Rattle.heap_model.specs.declared.calls.AccessKind.{AccessKind}
use Rattle.heap_model.specs.declared.calls.AccessKind.TheVariants.{Ptr, Word}
use Rattle.heap_model.specs.declared.calls.Value.{Value}
use Rattle.heap_model.specs.declared.calls.Call.{Call}
use Rattle.heap_model.specs.declared.calls.Call.TheVariants.{Alloc, Free, Check, Load, Store, Add}
use Rattle.heap_model.specs.declared.calls.Reply.{Reply}
use Rattle.heap_model.specs.declared.calls.Reply.TheVariants.{Placed, NoSlot, Done, Found, Value as Moved, Report}
use Rattle.heap_model.specs.declared.calls.ReportKind.{ReportKind}
use Rattle.heap_model.specs.declared.calls.ReportKind.TheVariants.{WrongType, Bounds, Free as Freed, Null, BadFree, DoubleFree, Align, PointerBytes, NotPointer}

-- ---- the region of a call

-- the region of an address, and 1 where it is in none
abbrev pub region_or_one : ℕ → Option ℕ
region_or_one address = Some (unwrap_or (region_of address) 1)

-- The region that a call is made in: of an allocation the one for its size, else that of the address by which an object is
-- named, which is the word's own for a free and a check, and the reach's first for an access.
unfoldable pub region_for : Call → Option ℕ
region_for (Alloc elem size fixed) = class_of size
region_for (Free p fixed) = region_or_one (address_of p)
region_for (Check p want) = region_or_one (address_of p)
region_for (Load p reach kind) = region_or_one reach.lo
region_for (Store p reach kind v) = region_or_one reach.lo
region_for (Add p reach kind n) = region_or_one reach.lo

-- ---- the calls that may be made

-- a word that is not null
abbrev pub has_version : ℕ → Bool
has_version word = nat_lt 0 (version_of word)

abbrev pub is_number : AccessKind → Bool
is_number Ptr = false
is_number Word = false
is_number _ = true

-- A value that may be stored: as a pointer one that is not null, or zero; as a word a plain number, or a pointer that is not
-- null; as a whole number a plain number.
abbrev pub may_store : AccessKind → Value → Bool
may_store Ptr v = if v.pointer then has_version v.bits else v.bits == 0
may_store Word v = not v.pointer || has_version v.bits
may_store _ v = not v.pointer

-- a store of a value that may be stored, an add of a whole number, and any other call
abbrev pub fits_call : Call → Bool
fits_call (Store p reach kind v) = may_store kind v
fits_call (Add p reach kind n) = is_number kind
fits_call _ = true

-- ---- the replies that may come

-- A plain number that a kind can give: null of a pointer, else what its low bytes give again.
abbrev pub can_give : AccessKind → ℕ → Bool
can_give Ptr n = n == 0
can_give kind n = sign_extension kind (n % 2 ^ (8 * width kind)) == n

-- a value that a kind can give, of which a pointer is not null
abbrev pub gives_value : AccessKind → Value → Bool
gives_value kind v = if v.pointer then not (is_number kind) && has_version v.bits else can_give kind v.bits

-- the reports that come before an access is made
abbrev pub is_access_report : ReportKind → Bool
is_access_report Null = true
is_access_report Freed = true
is_access_report Bounds = true
is_access_report Align = true
is_access_report _ = false

abbrev pub is_load_report : AccessKind → ReportKind → Bool
is_load_report kind PointerBytes = is_number kind
is_load_report Ptr NotPointer = true
is_load_report kind report = is_access_report report

abbrev pub is_add_report : ReportKind → Bool
is_add_report PointerBytes = true
is_add_report report = is_access_report report

abbrev pub is_free_report : ReportKind → Bool
is_free_report BadFree = true
is_free_report DoubleFree = true
is_free_report _ = false

abbrev pub is_check_report : ReportKind → Bool
is_check_report Null = true
is_check_report Freed = true
is_check_report WrongType = true
is_check_report _ = false

abbrev pub suits_alloc : Reply → Bool
suits_alloc (Placed word) = has_version word
suits_alloc NoSlot = true
suits_alloc _ = false

abbrev pub suits_free : Reply → Bool
suits_free Done = true
suits_free (Report report) = is_free_report report
suits_free _ = false

abbrev pub suits_check : Reply → Bool
suits_check (Found reach) = true
suits_check (Report report) = is_check_report report
suits_check _ = false

abbrev pub suits_load : AccessKind → Reply → Bool
suits_load kind (Moved v) = gives_value kind v
suits_load kind (Report report) = is_load_report kind report
suits_load kind _ = false

abbrev pub suits_store : Reply → Bool
suits_store Done = true
suits_store (Report report) = is_access_report report
suits_store _ = false

abbrev pub suits_add : AccessKind → Reply → Bool
suits_add kind (Moved v) = gives_value kind v
suits_add kind (Report report) = is_add_report report
suits_add kind _ = false

-- a reply of a form that the heap gives to the call
abbrev pub suits_call : Call → Reply → Bool
suits_call (Alloc elem size fixed) reply = suits_alloc reply
suits_call (Free p fixed) reply = suits_free reply
suits_call (Check p want) reply = suits_check reply
suits_call (Load p reach kind) reply = suits_load kind reply
suits_call (Store p reach kind v) reply = suits_store reply
suits_call (Add p reach kind n) reply = suits_add kind reply
