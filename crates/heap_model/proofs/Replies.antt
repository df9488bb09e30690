-- Each reply of a legal history suits its call.
use Rattle.std.proofs.Common.{◌≡◌, ℕ, zero, suc, ◌+◌, ◌-◌, ◌*◌, ◌/◌, ◌%◌, ◌^◌, ◌<◌, ◌≤◌, Bool, true, false, cond, ◌==◌, ◌&&◌, List, [], ◌∷◌, length, drop, option_map, Option, Some, None, refl, sym, ap, ◌∙◌, subst, arith, length-take, length-drop, pow-suc}
use Rattle.std.specs.Prelude.{nat_le}
use Rattle.std.proofs.lemmas.Bool.{leb-true, lt-ltb, eqb-true, eq-eqb}
use Rattle.std.proofs.lemmas.Option.{same_Some, none-some}
use Rattle.std.specs.List.{AllByRecursion}
use Rattle.std.specs.Bool.{beq}
use Rattle.type_layout.specs.declared.preference.Bounds as bounds
use Rattle.slot_headers.specs.Words.{address_of, version_of}
use Rattle.slot_headers.specs.Cells.{Cell, Byte, Part, number_in, pointer_in, cells_at}
use Rattle.heap_model.specs.Cells.{Act, Loads, Stores, Adds, Outcome, width, sign_extension, load_outcome, access_report, report_or, outcome_inside, access_outcome}
use Rattle.heap_model.specs.Heap.{Body, empty, access_at, free_outcome}
use Rattle.heap_model.specs.Answers.{Words, names, access, answer, answer_by, live_in, dead_in, reply, offset, is_inside, datum, check_reply, found_reply, first_byte}
use Rattle.heap_model.specs.Layouts.{Layouts}
use Rattle.heap_model.specs.Forms.{is_number, can_give, is_access_report, suits_call, suits_alloc, suits_free, suits_check, suits_load, suits_store, suits_add, fits_call}
use Rattle.heap_model.specs.Legal.{AllocAnswers, Answers, replay}
use Rattle.heap_model.specs.Pieces.{IsByte, IsWhole, all_bytes, one_pointer, HasWholePieces}
use Rattle.heap_model.specs.Replies.{RepliesLaw}
use Rattle.heap_model.specs.declared.calls.AccessKind.{AccessKind}
use Rattle.heap_model.specs.declared.calls.AccessKind.TheVariants.{I8, U8, I16, U16, I32, U32, I64, U64, Ptr, Word}
use Rattle.heap_model.specs.declared.calls.Reach.{Reach}
use Rattle.heap_model.specs.declared.calls.Value.{Value}
use Rattle.heap_model.specs.declared.calls.Call.{Call}
use Rattle.heap_model.specs.declared.calls.Call.TheVariants.{Alloc, Free as Frees, Check, Load, Store, Add}
use Rattle.heap_model.specs.declared.calls.Reply.{Reply}
use Rattle.heap_model.specs.declared.calls.Reply.TheVariants.{Placed, NoSlot, Done, Report}
use Rattle.heap_model.specs.declared.calls.ReportKind.{ReportKind}
use Rattle.heap_model.specs.declared.calls.ReportKind.TheVariants.{Null, Free, Bounds, Align, BadFree}
use Rattle.heap_model.proofs.Apart.{IsSound, sound-replay, sound-empty}
use Rattle.heap_model.proofs.Performed.{met}
use Rattle.heap_model.proofs.CellLists.{all-take, all-drop, at-within}
use Rattle.heap_model.proofs.Pieces.{IsLow, whole-low, in_piece, IsWholeObject, named-whole, whole-replay, legal-before}

-- ---- the number in some cells

number-below : (cells : List (Cell ℕ)) → AllByRecursion IsLow cells → (n : ℕ) → number_in cells ≡ Some n
    → n < 256 ^ length cells
number-below [] low n e = let none : 0 ≡ n = same_Some _ _ e in omega (arith, none)
number-below (Part i p ∷ cells) low n e = absurd (none-some n e)
number-below (Byte b ∷ cells) low n e = go (number_in cells) refl e (number-below cells low.1)
  where
    go : (r : Option ℕ) → number_in cells ≡ r → option_map (λ m. b + 256 * m) r ≡ Some n
        → ((m : ℕ) → number_in cells ≡ Some m → m < 256 ^ length cells) → n < 256 ^ suc (length cells)
    go None same e below = absurd (none-some n e)
    go (Some m) same e below =
        let sum : b + 256 * m ≡ n = same_Some _ _ e in
        let power : 256 ^ suc (length cells) ≡ 256 ^ length cells * 256 = pow-suc 256 (length cells) in
        omega (arith, sum, power, below m same, low.0)

bytes-number : (cells : List (Cell ℕ)) → AllByRecursion IsByte cells → (n : ℕ) × (number_in cells ≡ Some n)
bytes-number [] all = (0, refl)
bytes-number (Byte b ∷ cells) all =
    let rest = bytes-number cells all.1 in (b + 256 * rest.0, ap (option_map (λ n. b + 256 * n)) rest.1)
bytes-number (Part i p ∷ cells) all = absurd all.0

bytes-no_pointer : (cells : List (Cell ℕ)) → AllByRecursion IsByte cells → pointer_in cells ≡ None
bytes-no_pointer [] all = refl
bytes-no_pointer (Byte b ∷ cells) all = refl
bytes-no_pointer (Part i p ∷ cells) all = absurd all.0

-- the low bytes of a number that was extended by its sign are that number
extension-low : (kind : AccessKind) (n : ℕ) → n < 256 ^ width kind → sign_extension kind n % 2 ^ (8 * width kind) ≡ n
unfolding sign_extension
extension-low I8 n h = go (nat_le (2 ^ 8) (2 * n))
  where
    go : (b : Bool) → cond b (n + 2 ^ 64 - 2 ^ 8) n % 2 ^ 8 ≡ n
    go true = omega arith
    go false = omega arith
extension-low I16 n h = go (nat_le (2 ^ 16) (2 * n))
  where
    go : (b : Bool) → cond b (n + 2 ^ 64 - 2 ^ 16) n % 2 ^ 16 ≡ n
    go true = omega arith
    go false = omega arith
extension-low I32 n h = go (nat_le (2 ^ 32) (2 * n))
  where
    go : (b : Bool) → cond b (n + 2 ^ 64 - 2 ^ 32) n % 2 ^ 32 ≡ n
    go true = omega arith
    go false = omega arith
extension-low I64 n h = go (nat_le (2 ^ 64) (2 * n))
  where
    go : (b : Bool) → cond b (n + 2 ^ 64 - 2 ^ 64) n % 2 ^ 64 ≡ n
    go true = omega arith
    go false = omega arith
extension-low U8 n h = omega arith
extension-low U16 n h = omega arith
extension-low U32 n h = omega arith
extension-low _ n h = omega arith

number-given : (kind : AccessKind) (n : ℕ) → is_number kind ≡ true → n < 256 ^ width kind
    → can_give kind (sign_extension kind n) ≡ true
number-given I8 n is below = eq-eqb _ _ (ap (sign_extension I8) (extension-low I8 n below))
number-given U8 n is below = eq-eqb _ _ (ap (sign_extension U8) (extension-low U8 n below))
number-given I16 n is below = eq-eqb _ _ (ap (sign_extension I16) (extension-low I16 n below))
number-given U16 n is below = eq-eqb _ _ (ap (sign_extension U16) (extension-low U16 n below))
number-given I32 n is below = eq-eqb _ _ (ap (sign_extension I32) (extension-low I32 n below))
number-given U32 n is below = eq-eqb _ _ (ap (sign_extension U32) (extension-low U32 n below))
number-given I64 n is below = eq-eqb _ _ (ap (sign_extension I64) (extension-low I64 n below))
number-given U64 n is below = eq-eqb _ _ (ap (sign_extension U64) (extension-low U64 n below))
number-given Ptr n is below = cc
number-given Word n is below = cc

word-given : (n : ℕ) → n < 256 ^ 8 → can_give Word n ≡ true
unfolding sign_extension
word-given n below = let same : n % 2 ^ 64 ≡ n = omega (arith, below) in eq-eqb _ _ same

-- ---- what a load and an add give

number-outcome : (kind : AccessKind) (r : Option ℕ) (p : Option ℕ) → is_number kind ≡ true
    → ((n : ℕ) → r ≡ Some n → n < 256 ^ width kind)
    → (suits_load kind (reply (load_outcome kind r p)) ≡ true) × (suits_add kind (reply (load_outcome kind r p)) ≡ true)
unfolding load_outcome
number-outcome I8 (Some n) p is below = let g = number-given I8 n is (below n refl) in (g, g)
number-outcome U8 (Some n) p is below = let g = number-given U8 n is (below n refl) in (g, g)
number-outcome I16 (Some n) p is below = let g = number-given I16 n is (below n refl) in (g, g)
number-outcome U16 (Some n) p is below = let g = number-given U16 n is (below n refl) in (g, g)
number-outcome I32 (Some n) p is below = let g = number-given I32 n is (below n refl) in (g, g)
number-outcome U32 (Some n) p is below = let g = number-given U32 n is (below n refl) in (g, g)
number-outcome I64 (Some n) p is below = let g = number-given I64 n is (below n refl) in (g, g)
number-outcome U64 (Some n) p is below = let g = number-given U64 n is (below n refl) in (g, g)
number-outcome Ptr r p is below = cc
number-outcome Word r p is below = cc
number-outcome _ None p is below = (refl, refl)

module _ (cells : List (Cell ℕ)) (long : length cells ≡ 8) where
  word-below : AllByRecursion IsByte cells → (n : ℕ) → number_in cells ≡ Some n → n < 256 ^ 8
  word-below all n e = subst (λ w. n < 256 ^ w) long (number-below cells (whole-low cells (all_bytes all)) n e)

  pointer-loaded : IsWhole cells → suits_load Ptr (reply (load_outcome Ptr (number_in cells) (pointer_in cells))) ≡ true
  unfolding load_outcome
  pointer-loaded (one_pointer word v e) =
      subst (λ cs. suits_load Ptr (reply (load_outcome Ptr (number_in cs) (pointer_in cs))) ≡ true) (sym e)
      (lt-ltb _ _ v)
  pointer-loaded (all_bytes all) =
      let n = bytes-number cells all in
      (λ i. suits_load Ptr (reply (load_outcome Ptr (n.1 i) (bytes-no_pointer cells all i)))) ∙ by_number n.0
    where
      by_number : (n : ℕ) → suits_load Ptr (reply (load_outcome Ptr (Some n) None)) ≡ true
      by_number zero = refl
      by_number (suc n) = refl

  word-loaded : IsWhole cells → suits_load Word (reply (load_outcome Word (number_in cells) (pointer_in cells))) ≡ true
  unfolding load_outcome
  word-loaded (one_pointer word v e) =
      subst (λ cs. suits_load Word (reply (load_outcome Word (number_in cs) (pointer_in cs))) ≡ true) (sym e)
      (lt-ltb _ _ v)
  word-loaded (all_bytes all) =
      let n = bytes-number cells all in
      (λ i. suits_load Word (reply (load_outcome Word (n.1 i) (bytes-no_pointer cells all i))))
      ∙ word-given n.0 (word-below all n.0 n.1)

module _ (kind : AccessKind) (k : ℕ) (cells : List (Cell ℕ)) (pieces : HasWholePieces cells)
    (aligned : k % width kind ≡ 0) (inside : k + width kind ≤ length cells) where
  abbrev here : List (Cell ℕ)
  here = cells_at k (width kind) cells

  long-here : length here ≡ width kind
  long-here = omega (arith, length-take (width kind) (drop k cells), length-drop k cells)

  low-here : AllByRecursion IsLow here
  low-here =
      let q = k / 8 in
      let low : 8 * q ≤ k = omega arith in
      subst (AllByRecursion IsLow) (at-within (8 * q) k (width kind) cells low (in_piece kind k aligned))
      (all-take IsLow (width kind) (drop (k - 8 * q) (cells_at (8 * q) 8 cells))
      (all-drop IsLow (k - 8 * q) (cells_at (8 * q) 8 cells) (whole-low (cells_at (8 * q) 8 cells) (pieces q))))

  below-here : (n : ℕ) → number_in here ≡ Some n → n < 256 ^ width kind
  below-here n e = subst (λ w. n < 256 ^ w) long-here (number-below here low-here n e)

whole-here : (k : ℕ) (cells : List (Cell ℕ)) → HasWholePieces cells → k % 8 ≡ 0 → IsWhole (cells_at k 8 cells)
whole-here k cells pieces aligned =
    let there : 8 * (k / 8) ≡ k = omega (arith, aligned) in
    subst (λ j. IsWhole (cells_at j 8 cells)) there (pieces (k / 8))

loaded : (kind : AccessKind) (k : ℕ) (cells : List (Cell ℕ)) → HasWholePieces cells → k % width kind ≡ 0
    → k + width kind ≤ length cells
    → suits_load kind (reply (outcome_inside kind Loads (cells_at k (width kind) cells))) ≡ true
loaded Ptr k cells pieces aligned inside =
    pointer-loaded (cells_at k 8 cells) (long-here Ptr k cells pieces aligned inside)
    (whole-here k cells pieces aligned)
loaded Word k cells pieces aligned inside =
    word-loaded (cells_at k 8 cells) (long-here Word k cells pieces aligned inside) (whole-here k cells pieces aligned)
loaded I8 k cells pieces aligned inside =
    (number-outcome I8 _ (pointer_in (cells_at k 1 cells)) refl (below-here I8 k cells pieces aligned inside)).0
loaded U8 k cells pieces aligned inside =
    (number-outcome U8 _ (pointer_in (cells_at k 1 cells)) refl (below-here U8 k cells pieces aligned inside)).0
loaded I16 k cells pieces aligned inside =
    (number-outcome I16 _ (pointer_in (cells_at k 2 cells)) refl (below-here I16 k cells pieces aligned inside)).0
loaded U16 k cells pieces aligned inside =
    (number-outcome U16 _ (pointer_in (cells_at k 2 cells)) refl (below-here U16 k cells pieces aligned inside)).0
loaded I32 k cells pieces aligned inside =
    (number-outcome I32 _ (pointer_in (cells_at k 4 cells)) refl (below-here I32 k cells pieces aligned inside)).0
loaded U32 k cells pieces aligned inside =
    (number-outcome U32 _ (pointer_in (cells_at k 4 cells)) refl (below-here U32 k cells pieces aligned inside)).0
loaded I64 k cells pieces aligned inside =
    (number-outcome I64 _ (pointer_in (cells_at k 8 cells)) refl (below-here I64 k cells pieces aligned inside)).0
loaded U64 k cells pieces aligned inside =
    (number-outcome U64 _ (pointer_in (cells_at k 8 cells)) refl (below-here U64 k cells pieces aligned inside)).0

-- ---- each call

-- what holds of the reports before an access, and of what an access gives that is made, holds of what it answers
module _ (h : Words) (p : ℕ) (reach : Reach) (kind : AccessKind) (act : Act ℕ) (Q : Reply → Type 0)
    (reports : (f : ReportKind) → is_access_report f ≡ true → Q (Report f))
    (made : (b : Body ℕ) → live_in h reach.lo p ≡ Some b → offset reach.lo p % width kind ≡ 0
    → offset reach.lo p + width kind ≤ length b.cells
    → Q (reply (outcome_inside kind act (cells_at (offset reach.lo p) (width kind) b.cells)))) where
  answered : Q (access (live_in h) p reach kind act)
  unfolding access access_outcome access_report
  answered = go (version_of p == 0) (live_in h reach.lo p) refl
    where
      at : (b : Body ℕ) → live_in h reach.lo p ≡ Some b → (x y z : Bool)
          → nat_le (offset reach.lo p + width kind) (length b.cells) ≡ y → offset reach.lo p % width kind == 0 ≡ z
          → Q (reply (report_or (cond (x && y) (cond z None (Some Align)) (Some Bounds))
          (outcome_inside kind act (cells_at (offset reach.lo p) (width kind) b.cells))))
      at b found true true true ey ez = made b found (eqb-true _ _ ez) (leb-true _ _ ey)
      at b found true true false ey ez = reports Align refl
      at b found true false z ey ez = reports Bounds refl
      at b found false y z ey ez = reports Bounds refl

      go : (null : Bool) (o : Option (Body ℕ)) → live_in h reach.lo p ≡ o
          → Q (cond null (Report Null)
          (reply (access_at (is_inside reach (address_of p) (width kind)) (offset reach.lo p) kind act o)))
      go true o found = reports Null refl
      go false None found = reports Free refl
      go false (Some b) found = at b found (is_inside reach (address_of p) (width kind)) _ _ refl refl

load-reports : (kind : AccessKind) (f : ReportKind) → is_access_report f ≡ true → suits_load kind (Report f) ≡ true
load-reports kind Null is = refl
load-reports kind Free is = refl
load-reports kind Bounds is = refl
load-reports kind Align is = refl
load-reports kind _ is = cc

add-reports : (kind : AccessKind) (f : ReportKind) → is_access_report f ≡ true → suits_add kind (Report f) ≡ true
add-reports kind Null is = refl
add-reports kind Free is = refl
add-reports kind Bounds is = refl
add-reports kind Align is = refl
add-reports kind _ is = cc

add-given : (kind : AccessKind) (k n : ℕ) (cells : List (Cell ℕ)) → is_number kind ≡ true → HasWholePieces cells
    → k % width kind ≡ 0 → k + width kind ≤ length cells
    → suits_add kind (reply (outcome_inside kind (Adds n) (cells_at k (width kind) cells))) ≡ true
add-given kind k n cells is pieces aligned inside =
    (number-outcome kind (number_in (cells_at k (width kind) cells)) None is
    (below-here kind k cells pieces aligned inside)).1

module _ (layouts : Layouts) (h : Words) where
  free-suits : (p : ℕ) (fixed : Bool) → suits_free (answer layouts h (Frees p fixed)) ≡ true
  unfolding answer_by
  free-suits p fixed = go (p == 0) (version_of p == 0) (live_in h (address_of p) p) (dead_in h (address_of p) p)
    where
      either : (b : Bool) (f g : Outcome ℕ) → suits_free (reply f) ≡ true → suits_free (reply g) ≡ true
          → suits_free (reply (cond b f g)) ≡ true
      either true f g x y = x
      either false f g x y = y

      go : (a b : Bool) (o : Option (Body ℕ)) (d : Bool)
          → suits_free (cond a Done (cond b (Report BadFree)
          (reply (free_outcome (offset (address_of p) p) fixed o d)))) ≡ true
      go true b o d = refl
      go false true o d = refl
      go false false None false = refl
      go false false None true = either (offset (address_of p) p == 0) _ _ refl refl
      go false false (Some o) d = either ((offset (address_of p) p == 0) && beq fixed o.fixed) _ _ refl refl

  check-suits : (p want : ℕ) → suits_check (answer layouts h (Check p want)) ≡ true
  unfolding answer_by
  check-suits p want = go (version_of p == 0) (live_in h (address_of p) p)
    where
      found : (o : Option bounds.Bounds) → suits_check (found_reply (first_byte (address_of p)) o) ≡ true
      found None = refl
      found (Some b) = refl

      go : (null : Bool) (o : Option (Body ℕ))
          → suits_check (cond null (Report Null)
          (check_reply layouts (offset (address_of p) p) (first_byte (address_of p)) want o)) ≡ true
      go true o = refl
      go false None = refl
      go false (Some b) = found (layouts.preferred b.elem (length b.cells) (offset (address_of p) p) want)

  module _ (sound : IsSound h) (whole : AllByRecursion IsWholeObject h.live) where
    load-suits : (p : ℕ) (reach : Reach) (kind : AccessKind)
        → suits_load kind (access (live_in h) p reach kind Loads) ≡ true
    load-suits p reach kind =
        answered h p reach kind Loads (λ r. suits_load kind r ≡ true) (load-reports kind)
        (λ b named aligned inside.
        loaded kind (offset reach.lo p) b.cells (named-whole (names reach.lo p) h b whole named) aligned inside)

    store-suits : (p : ℕ) (reach : Reach) (kind : AccessKind) (v : Value)
        → suits_store (access (live_in h) p reach kind (Stores (datum v))) ≡ true
    store-suits p reach kind v =
        answered h p reach kind (Stores (datum v)) (λ r. suits_store r ≡ true) (λ f is. is)
        (λ b named aligned inside. refl)

    add-suits : (p : ℕ) (reach : Reach) (kind : AccessKind) (n : ℕ) → is_number kind ≡ true
        → suits_add kind (access (live_in h) p reach kind (Adds n)) ≡ true
    add-suits p reach kind n is =
        answered h p reach kind (Adds n) (λ r. suits_add kind r ≡ true) (add-reports kind)
        (λ b named aligned inside.
        add-given kind (offset reach.lo p) n b.cells is (named-whole (names reach.lo p) h b whole named) aligned inside)

    alloc-suits : (r : ℕ) (given : Reply) → AllocAnswers h r given → suits_alloc given ≡ true
    unfolding AllocAnswers
    alloc-suits r NoSlot a = refl
    alloc-suits r (Placed word) a = lt-ltb _ _ (omega (arith, a.1.version))
    alloc-suits r _ a = absurd a

    suits : (r : ℕ) (call : Call) (given : Reply) → fits_call call ≡ true → Answers layouts h r call given
        → suits_call call given ≡ true
    unfolding Answers answer_by
    suits r (Alloc elem size fixed) given fits a = alloc-suits r given a
    suits r (Frees p fixed) given fits a = ap suits_free a ∙ free-suits p fixed
    suits r (Check p want) given fits a = ap suits_check a ∙ check-suits p want
    suits r (Load p reach kind) given fits a = ap (suits_load kind) a ∙ load-suits p reach kind
    suits r (Store p reach kind v) given fits a = ap suits_store a ∙ store-suits p reach kind v
    suits r (Add p reach kind n) given fits a = ap (suits_add kind) a ∙ add-suits p reach kind n fits

pub replies_law : RepliesLaw
replies_law layouts before later e legal =
    let m = met layouts empty before later e legal in
    let so_far = legal-before layouts empty before (e ∷ later) legal in
    suits layouts (replay empty before) (sound-replay layouts empty before so_far sound-empty)
    (whole-replay layouts empty before so_far sound-empty tt)
    e.region e.call e.reply m.fits m.answers
