-- Of each row one run at most may have an offset inside, and one may end there.
use Rattle.std.proofs.Common.{◌≡◌, ◌⊎◌, ℕ, ◌+◌, ◌-◌, ◌*◌, ◌/◌, ◌<◌, ◌≤◌, List, [], ◌∷◌, Bool, true, false, cond, Some, None, sym, ap, ◌∙◌, refl, arith, inl, inr, ⊎_elim}
use Rattle.std.specs.Prelude.{Option, nat_lt, nat_le, if◌then◌else◌, filter_map}
use Rattle.std.specs.List.{cons_option}
use Rattle.std.specs.Option.{option_map}
use Rattle.std.proofs.lemmas.Nat.{div-mul-add}
use Rattle.std.proofs.lemmas.Bool.Decides.{nat_tests}
use Rattle.type_layout.specs.Runs.{ShapeRun}
use Rattle.type_layout.specs.Listed.{In}
use Rattle.layout_table.specs.Strides.{Row, width, descend, located, around, before, value_at, value_before, in_value}
use Rattle.layout_table.proofs.Levels.{IsStart, Nested, descend_found, descend_start}
use Rattle.layout_table.proofs.Strided.{IsInstance}

-- ---- one row

pub cond_true : {X : Type 0} (b : Bool) (x y : X) → b ≡ true → cond b x y ≡ x
cond_true true x y e = refl
cond_true false x y e = cc

pub cond_some : {X : Type 0} (b : Bool) (o : Option X) (x : X) → cond b o None ≡ Some x → (b ≡ true) × (o ≡ Some x)
cond_some true o x e = (refl, e)
cond_some false o x e = cc

pub le_true : (a b : ℕ) → a ≤ b → nat_le a b ≡ true
le_true a b h = grind (arith, nat_tests)

pub true_le : (a b : ℕ) → nat_le a b ≡ true → a ≤ b
true_le a b h = grind (arith, nat_tests)

pub lt_true : (a b : ℕ) → a < b → nat_lt a b ≡ true
lt_true a b h = grind (arith, nat_tests)

pub true_lt : (a b : ℕ) → nat_lt a b ≡ true → a < b
true_lt a b h = grind (arith, nat_tests)

pub some_map : {X Y : Type 0} (f : X → Y) (o : Option X) (y : Y) → option_map f o ≡ Some y → (x : X) ×
    (o ≡ Some x) × (y ≡ f x)
some_map f None y e = cc
some_map f (Some x) y e = (x, refl, cc)

pub located_is : (row : Row) (at place : ℕ) (run : ShapeRun) → located row at place ≡ Some run → IsInstance row at run
located_is row at place run e =
    let c = cond_some (nat_le row.lo place) (option_map (λ past. record {
      kind = row.kind;
      lo = at + (place - past);
      count = row.count;
    }) (descend row.levels (place - row.lo))) run e in
    let h = true_le row.lo place c.0 in
    let r = some_map (λ (past : ℕ). record {
      kind = row.kind;
      lo = at + (place - past);
      count = row.count;
    }) (descend row.levels (place - row.lo)) run c.1 in
    let s = descend_start row.levels (place - row.lo) r.0 r.1 in
    (s.0, s.1, r.2 ∙ ap (λ (n : ℕ). record { kind = row.kind; lo = n; count = row.count }) (omega (arith, s.2, h)))

pub located_there : (row : Row) (at start past place : ℕ) → Nested row.levels (width row) →
    IsStart row.levels start → past < width row →
    place ≡ row.lo + start + past → located row at place ≡ Some (record {
      kind = row.kind;
      lo = at + row.lo + start;
      count = row.count;
    })
located_there row at start past place n s h e =
    let from : place - row.lo ≡ start + past = omega (arith, e) in
    let found : descend row.levels (place - row.lo) ≡ Some past = ap (descend row.levels) from ∙
    descend_found row.levels (width row) start past n s h in
    cond_true (nat_le row.lo place) (option_map (λ past. record {
      kind = row.kind;
      lo = at + (place - past);
      count = row.count;
    }) (descend row.levels (place - row.lo))) None (le_true row.lo place (omega (arith, e))) ∙
    ap (option_map (λ (past : ℕ). record { kind = row.kind; lo = at + (place - past); count = row.count })) found ∙
    ap (λ (n : ℕ). Some (record { kind = row.kind; lo = n; count = row.count })) (omega (arith, e))

-- its run that has an offset inside
pub around_there : (row : Row) (at k : ℕ) (run : ShapeRun) → Nested row.levels (width row) →
    IsInstance row at run → run.lo ≤ k → k < run.lo + width row →
    around at k row ≡ Some run
around_there row at k run n h from to =
    let lo : run.lo ≡ at + row.lo + h.0 = ap (λ r. r.lo) h.2 in
    located_there row at h.0 (k - run.lo) (k - at) n h.1 (omega (arith, from, to)) (omega (arith, from, lo)) ∙
    ap Some (sym h.2)

-- its run that ends there
pub before_there : (row : Row) (at k : ℕ) (run : ShapeRun) → Nested row.levels (width row) → 0 < width row →
    IsInstance row at run → k ≡ run.lo + width row →
    before at k row ≡ Some run
before_there row at k run n w h e =
    let lo : run.lo ≡ at + row.lo + h.0 = ap (λ r. r.lo) h.2 in
    cond_true (nat_le (width row) (k - at)) (located row at (k - at - width row)) None (le_true (width row) (k - at)
    (omega (arith, e, lo))) ∙
    located_there row at h.0 0 (k - at - width row) n h.1 w (omega (arith, e, lo)) ∙ ap Some (sym h.2)

pub before_is : (row : Row) (at k : ℕ) (run : ShapeRun) → before at k row ≡ Some run → IsInstance row at run
before_is row at k run e =
    located_is row at (k - at - width row) run (cond_some (nat_le (width row) (k - at)) (located row at (k - at -
    width row)) run e).1

-- ---- which value

pub value_is : (bytes base count k at : ℕ) → value_at bytes base count k ≡ Some at → (i : ℕ) × (i < count) ×
    (at ≡ base + i * bytes)
value_is bytes base count k at e =
    let c = cond_some (nat_le base k) (if nat_lt ((k - base) / bytes) count then Some (base + (k - base) / bytes *
    bytes) else None) at e in
    let d = cond_some (nat_lt ((k - base) / bytes) count) (Some (base + (k - base) / bytes * bytes)) at c.1 in
    let f : base + (k - base) / bytes * bytes ≡ at = (let g = d.1 in cc) in
    ((k - base) / bytes, true_lt ((k - base) / bytes) count d.0, sym f)

pub value_there : (bytes base count k i place : ℕ) → i < count → place < bytes → k ≡ base + i * bytes + place →
    value_at bytes base count k ≡ Some (base + i * bytes)
value_there bytes base count k i place l p e =
    let from : k - base ≡ i * bytes + place = omega (arith, e) in
    let q : (k - base) / bytes ≡ i = ap (λ (x : ℕ). x / bytes) from ∙ div-mul-add i bytes place p in
    cond_true (nat_le base k) (if nat_lt ((k - base) / bytes) count then Some (base + (k - base) / bytes * bytes)
    else None) None (le_true base k (omega (arith, e))) ∙
    cond_true (nat_lt ((k - base) / bytes) count) (Some (base + (k - base) / bytes * bytes)) None (lt_true ((k -
    base) / bytes) count (omega (arith, q, l))) ∙
    ap (λ (x : ℕ). Some (base + x * bytes)) q

pub value_before_is : (bytes base count k at : ℕ) → value_before bytes base count k ≡ Some at → (i : ℕ) ×
    (i < count) × (at ≡ base + i * bytes)
value_before_is bytes base count k at e =
    value_is bytes base count (k - 1) at (cond_some (nat_lt base k) (value_at bytes base count (k - 1)) at e).1

pub value_before_there : (bytes base count k i place : ℕ) → i < count → 0 < place → place ≤ bytes →
    k ≡ base + i * bytes + place →
    value_before bytes base count k ≡ Some (base + i * bytes)
value_before_there bytes base count k i place l p q e =
    cond_true (nat_lt base k) (value_at bytes base count (k - 1)) None (lt_true base k (omega (arith, e, p))) ∙
    value_there bytes base count (k - 1) i (place - 1) l (omega (arith, p, q)) (omega (arith, e, p))

-- ---- lists of runs

found_step : (run : ShapeRun) (rest : List ShapeRun) (o : Option ShapeRun) → In run (cons_option o rest) →
    (o ≡ Some run) ⊎ In run rest
found_step run rest None h = inr h
found_step run rest (Some x) h = ⊎_elim (λ e. inl (ap Some (sym e))) inr h

found_in : (f : Row → Option ShapeRun) (run : ShapeRun) (rows : List Row) → In run (filter_map f rows) →
    (row : Row) × In row rows × (f row ≡ Some run)
found_in f run [] h = absurd h
found_in f run (row ∷ rows) h =
    ⊎_elim (λ e. (row, inl refl, e)) (λ i. let r = found_in f run rows i in
    (r.0, inr r.1, r.2)) (found_step run (filter_map f rows) (f row) h)

more_step : (run : ShapeRun) (rest : List ShapeRun) (o : Option ShapeRun) → In run rest → In run (cons_option o rest)
more_step run rest None h = h
more_step run rest (Some x) h = inr h

in_found : (f : Row → Option ShapeRun) (run : ShapeRun) (row : Row) (rows : List Row) → In row rows →
    f row ≡ Some run → In run (filter_map f rows)
in_found f run row [] h e = absurd h
in_found f run row (r ∷ rows) h e =
    ⊎_elim (λ g. rw (← g, e) (inl refl)) (λ i. more_step run (filter_map f rows) (f r) (in_found f run row rows i e)) h

pub in_value_in : (find : ℕ → Row → Option ShapeRun) (run : ShapeRun) (rows : List Row) (value : Option ℕ) →
    In run (in_value find rows value) →
    (at : ℕ) × (value ≡ Some at) × ((row : Row) × In row rows × (find at row ≡ Some run))
in_value_in find run rows None h = absurd h
in_value_in find run rows (Some at) h = (at, refl, found_in (find at) run rows h)

pub in_in_value : (find : ℕ → Row → Option ShapeRun) (run : ShapeRun) (row : Row) (rows : List Row) (value : Option
    ℕ) (at : ℕ) → value ≡ Some at →
    In row rows → find at row ≡ Some run → In run (in_value find rows value)
in_in_value find run row rows value at e i f = rw e (in_found (find at) run row rows i f)
