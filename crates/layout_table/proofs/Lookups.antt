-- A look-up gives the preferred bounds.
use Rattle.std.proofs.Common.{◌≡◌, ◌≢◌, ℕ, zero, suc, ◌+◌, ◌-◌, ◌*◌, ◌/◌, ◌<◌, ◌≤◌, ◌^◌, length, List, [], ◌∷◌, map, Bool, true, false, cond, Some, None, sym, ap, ◌∙◌, refl, arith, subst}
use Rattle.std.specs.Prelude.{Option, slice_get, nat_le, ◌==◌, IfSome}
use Rattle.std.specs.Option.{option_map, option_to_list}
use Rattle.std.proofs.lemmas.Bool.Decides.{nat_tests}
use Rattle.std.proofs.Math.Nat.{div-mul-le_self}
use Rattle.c_types.specs.Shapes.{Shape, size}
use Rattle.c_types.specs.Table.{Types, HasSize, shape_of}
use Rattle.type_layout.specs.declared.preference.Match.{Match}
use Rattle.type_layout.specs.declared.preference.Bounds.{Bounds}
use Rattle.type_layout.specs.Preferred.{bounds_of, pref}
use Rattle.type_layout.proofs.Consequences.{offset_within, inside_object}
use Rattle.layout_table.specs.declared.stored.StoredLevel.{StoredLevel}
use Rattle.layout_table.specs.declared.stored.StoredRow.{StoredRow}
use Rattle.layout_table.specs.declared.stored.StoredEntry.{StoredEntry}
use Rattle.layout_table.specs.declared.stored.StoredPart.{StoredPart}
use Rattle.layout_table.specs.Strides.{Row, Part, parts_by, parts_of, best_of_parts}
use Rattle.layout_table.specs.Stored.{key_of, own_count, part_in, tail_part}
use Rattle.layout_table.specs.Tables.{IsTableOf, IsPart, both_parts, rows_inside, rows_ending}
use Rattle.layout_table.proofs.Objects.{AllServe, Serves, best_is_pref}
use Rattle.layout_table.proofs.Entries.{ok, serves}

pub has_place : {X : Type 0} (xs : List X) (p : ℕ) → p < length xs → (x : X) × (slice_get xs p ≡ Some x)
has_place [] p h = absurd (omega arith)
has_place (x ∷ xs) zero h = (x, refl)
has_place (x ∷ xs) (suc p) h = has_place xs p (omega arith)

-- ---- an offset past the object

past_step : (elem want : Shape) (bytes k : ℕ) (found : Option Bounds) → pref elem bytes k want ≡ found →
    bytes < k → None ≡ found
past_step elem want bytes k None e h = refl
past_step elem want bytes k (Some bounds) e h =
    let w = offset_within elem want bytes k bounds e in
    let i = inside_object elem want bytes k bounds e in
    absurd (omega (arith, w.1, i.1, h))

pub past : (elem want : Shape) (bytes k : ℕ) → bytes < k → None ≡ pref elem bytes k want
past elem want bytes k h = past_step elem want bytes k (pref elem bytes k want) refl h

-- ---- the parts

own_within : (tail bytes size : ℕ) (b c : Bool) → nat_le bytes size ≡ c →
    0 + cond b (size / bytes) (cond c 1 0) * bytes ≤ size
own_within tail bytes size true c e = omega (arith, div-mul-le_self size bytes)
own_within tail bytes size false true e = grind (arith, nat_tests)
own_within tail bytes size false false e = omega arith

abbrev size_of_tail : Types → StoredEntry → ℕ
size_of_tail types entry = size (shape_of types entry.tail)

differ : (n : ℕ) → (n == 0) ≡ false → n ≡ 0 → ⊥
differ n e z = grind (arith, nat_tests)

tail_fits : (at bytes s top : ℕ) → nat_le at bytes ≡ true → bytes ≤ top → at + (bytes - at) / s * s ≤ top
tail_fits at bytes s top e h = let l : at ≤ bytes = grind (arith, nat_tests) in
    omega (arith, l, h, div-mul-le_self (bytes - at) s)

tail_step : (types : Types) (entry : StoredEntry) (bytes size : ℕ) (b c : Bool) → (entry.tail == 0) ≡ b →
    nat_le entry.tail_at size ≡ c → (top : ℕ) → size ≤ top →
    bytes ≡ size_of_tail types entry → (entry.tail ≢ 0 → HasSize types entry.tail) →
    IfSome (cond b None (cond c (Some (record {
      kind = entry.tail;
      base = entry.tail_at;
      count = (size - entry.tail_at) / bytes;
    })) None)) (λ part. IsPart types top part)
tail_step types entry bytes size true c e f top h s k = tt
tail_step types entry bytes size false false e f top h s k = tt
tail_step types entry bytes size false true e f top h s k = record {
  known = k (λ z. differ entry.tail e z);
  within = subst (λ (n : ℕ). entry.tail_at + (size - entry.tail_at) / bytes * n ≤ top) s (tail_fits entry.tail_at
      size bytes top f h);
}

pub tail_is_part : (types : Types) (entry : StoredEntry) (size top : ℕ) → size ≤ top → (entry.tail ≢ 0 →
    HasSize types entry.tail) →
    IfSome (tail_part entry.tail entry.tail_at (size_of_tail types entry) size) (λ part. IsPart types top part)
tail_is_part types entry size top h k =
    tail_step types entry (size_of_tail types entry) size (entry.tail == 0) (nat_le entry.tail_at size) refl refl top
    h refl k

tails_step : (types : Types) (entry : StoredEntry) (bytes size : ℕ) (c : Bool) →
    map (part_in types) (option_to_list (cond c (Some (record {
      kind = entry.tail;
      base = entry.tail_at;
      count = (size - entry.tail_at) / bytes;
    })) None)) ≡
    cond c (record {
      kind = shape_of types entry.tail;
      base = entry.tail_at;
      count = (size - entry.tail_at) / bytes;
    } ∷ []) []
tails_step types entry bytes size true = refl
tails_step types entry bytes size false = refl

parts_step : (types : Types) (elem : ℕ) (entry : StoredEntry) (bytes : ℕ) (b : Bool) →
    entry.size ≡ size (shape_of types elem) →
    both_parts types (record {
      kind = elem;
      base = 0;
      count = cond b (bytes / entry.size) (cond (nat_le entry.size
          bytes) 1 0);
    })
    (cond b None (cond (nat_le entry.tail_at bytes) (Some (record {
      kind = entry.tail;
      base = entry.tail_at;
      count = (bytes - entry.tail_at) / size_of_tail types entry;
    })) None)) ≡
    parts_by (cond b None (Some (entry.tail_at, shape_of types entry.tail))) (shape_of types elem) bytes
parts_step types elem entry bytes true s =
    ap (λ (n : ℕ). record { kind = shape_of types elem; base = 0; count = bytes / n } ∷ []) s
parts_step types elem entry bytes false s =
    ap (λ (n : ℕ). record { kind = shape_of types elem; base = 0; count = cond (nat_le n bytes) 1 0 } ∷
    map (part_in types) (option_to_list (cond (nat_le entry.tail_at bytes) (Some (record {
      kind = entry.tail;
      base = entry.tail_at;
      count = (bytes - entry.tail_at) / size_of_tail types entry;
    })) None))) s ∙
    ap (λ ps. record {
      kind = shape_of types elem;
      base = 0;
      count = cond (nat_le (size (shape_of types elem)) bytes)
          1 0;
    } ∷ ps)
    (tails_step types entry (size_of_tail types entry) bytes (nat_le entry.tail_at bytes))

module _ (types : Types) (entries : List StoredEntry) (rows : List StoredRow) (levels : List StoredLevel) (table :
    IsTableOf types entries rows levels) where
  some_entry : (t : ℕ) → HasSize types t → (entry : StoredEntry) × (slice_get entries (t - 1) ≡ Some entry)
  some_entry t h = has_place entries (t - 1) (omega (arith, h.0.0, h.0.1, table.count))

  module _ (k want key : ℕ) (is : key ≡ key_of (shape_of types want)) where
    abbrev inner : Part → List Row
    inner = rows_inside types entries rows levels key k

    abbrev ends : Part → List Row
    ends = rows_ending types entries rows levels key k

    one_serves : (part : StoredPart) → HasSize types part.kind → Serves k (shape_of types want) (inner (part_in types
        part)) (ends (part_in types part)) (part_in types part)
    one_serves part h =
        let e = some_entry part.kind h in serves types entries rows levels table part.kind h e.0 e.1 part.base
        part.count k want key is

    all_serve : (top : ℕ) (own : StoredPart) (tail : Option StoredPart) → HasSize types own.kind →
        IfSome tail (λ part. IsPart types top part) →
        AllServe k (shape_of types want) inner ends (both_parts types own tail)
    all_serve top own None h i = (one_serves own h, tt)
    all_serve top own (Some tail) h i = (one_serves own h, (one_serves tail i.known, tt))

  module _ (elem bytes k want : ℕ) (has : HasSize types elem) (entry : StoredEntry) (at : slice_get entries (elem -
      1) ≡ Some entry) (small : bytes ≤ 1048559) where
    pub own : StoredPart
    own = record { kind = elem; base = 0; count = own_count entry.tail entry.size bytes }

    pub own_is_part : (part : StoredPart) → part ≡ record {
      kind = elem;
      base = 0;
      count = own_count entry.tail entry.size bytes;
    } → IsPart types (2 ^ 32) part
    own_is_part part e = subst (λ p. IsPart types (2 ^ 32) p) (sym e) (record {
      known = has;
      within =
          subst (λ (n : ℕ). 0 + own_count entry.tail entry.size bytes * n ≤ 2 ^ 32) (ok types entries rows levels
          table elem has entry at).sized
          (omega (
            arith,
            own_within entry.tail entry.size bytes (entry.tail == 0) (nat_le entry.size bytes) refl,
            small,
          ));
    })

    pub tail_ok : (tail : Option StoredPart) → tail ≡ tail_part entry.tail entry.tail_at (size (shape_of types
        entry.tail)) bytes → IfSome tail (λ part. IsPart types (2 ^ 32) part)
    tail_ok tail e = subst (λ t. IfSome t (λ part. IsPart types (2 ^ 32) part)) (sym e)
        (tail_is_part types entry bytes (2 ^ 32) (omega (arith, small)) (ok types entries rows levels table elem has
        entry at).tail_known)

    parts_are : both_parts types (record { kind = elem; base = 0; count = own_count entry.tail entry.size bytes })
        (tail_part entry.tail entry.tail_at (size (shape_of types entry.tail)) bytes) ≡ parts_of (shape_of types
        elem) bytes
    parts_are =
        parts_step types elem entry bytes (entry.tail == 0) (ok types entries rows levels table elem has entry
        at).sized ∙
        ap (λ f. parts_by f (shape_of types elem) bytes) (sym (ok types entries rows levels table elem has entry
        at).tail)

    pub found : (key : ℕ) → key ≡ key_of (shape_of types want) → (part : StoredPart) (tail : Option StoredPart) (best
        : Option Match) (bounds : Option Bounds) →
        part ≡ record { kind = elem; base = 0; count = own_count entry.tail entry.size bytes } →
        tail ≡ tail_part entry.tail entry.tail_at (size (shape_of types entry.tail)) bytes →
        best ≡ best_of_parts (shape_of types elem) bytes k (shape_of types want) (rows_inside types entries rows
        levels key k) (rows_ending types entries rows levels key k) (both_parts types part tail) →
        bounds ≡ option_map bounds_of best → bounds ≡ pref (shape_of types elem) bytes k (shape_of types want)
    found key is part tail best bounds p t b e =
        let ps : both_parts types part tail ≡ parts_of (shape_of types elem) bytes =
        ap (λ x. both_parts types x tail) p ∙ ap (λ x. both_parts types (record {
          kind = elem;
          base = 0;
          count = own_count entry.tail entry.size bytes;
        }) x) t ∙ parts_are in
        e ∙ ap (option_map bounds_of) (b ∙ ap (best_of_parts (shape_of types elem) bytes k (shape_of types want)
        (rows_inside types entries rows levels key k) (rows_ending types entries rows levels key k)) ps) ∙
        best_is_pref k (shape_of types want) (rows_inside types entries rows levels key k) (rows_ending types entries
        rows levels key k) (shape_of types elem) bytes
        (subst (λ x. AllServe k (shape_of types want) (rows_inside types entries rows levels key k) (rows_ending
        types entries rows levels key k) x) ps
        (all_serve k want key is (2 ^ 32) part tail (own_is_part part p).known (tail_ok tail t)))
