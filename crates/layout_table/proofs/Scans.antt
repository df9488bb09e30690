-- Going over stored rows is going over the rows that they stand for.
use Rattle.std.proofs.Common.{◌≡◌, ℕ, ◌+◌, ◌-◌, ◌*◌, ◌<◌, ◌≤◌, List, [], ◌∷◌, length, map, take, get_or, Bool, true, false, cond, Some, None, sym, ap, ◌∙◌, refl}
use Rattle.std.specs.Prelude.{Option, nat_le, fold}
use Rattle.std.specs.Option.{option_map}
use Rattle.std.proofs.lemmas.List.{take_all}
use Rattle.std.proofs.lemmas.List.Sums.{fold_more}
use Rattle.c_types.specs.Shapes.{Shape, size}
use Rattle.c_types.specs.Table.{Types, shape_of}
use Rattle.type_layout.specs.declared.preference.Match.{Match}
use Rattle.type_layout.specs.Runs.{ShapeRun}
use Rattle.type_layout.specs.Search.{consider}
use Rattle.layout_table.specs.declared.stored.StoredLevel.{StoredLevel}
use Rattle.layout_table.specs.declared.stored.StoredRow.{StoredRow}
use Rattle.layout_table.specs.Strides.{Row, width, descend, located, around, before, match_found, look, scan}
use Rattle.layout_table.specs.Stored.{chain, decoded, AreRows, IsRow, run_from, start_of, start_before}
use Rattle.layout_table.proofs.Chains.{read}

pub row_ok : (types : Types) (levels : List StoredLevel) (rows : List StoredRow) (at : ℕ) (d : StoredRow) →
    AreRows types levels rows → at < length rows →
    IsRow types levels (get_or rows at d)
row_ok types levels rows at d ok h = ok at (get_or rows at d) (read rows at d h)

module _ (types : Types) (levels : List StoredLevel) where
  by_past : (row : StoredRow) (at place : ℕ) (o : Option ℕ) →
      option_map (λ past. record { kind = shape_of types row.kind; lo = at + (place - past); count = row.count }) o ≡
      option_map (run_from types row) (option_map (λ past. at + (place - past)) o)
  by_past row at place None = refl
  by_past row at place (Some past) = refl

  by_choice : (row : StoredRow) (o : Option ShapeRun) (p : Option ℕ) (b : Bool) →
      o ≡ option_map (run_from types row) p → cond b o None ≡ option_map (run_from types row) (cond b p None)
  by_choice row o p true e = e
  by_choice row o p false e = refl

  located_is : (row : StoredRow) (at place : ℕ) → located (decoded types levels row) at place ≡ option_map (run_from
      types row) (start_of (chain levels row.levels) row at place)
  located_is row at place =
      by_choice row (option_map (λ past. record {
        kind = shape_of types row.kind;
        lo = at + (place - past);
        count = row.count;
      }) (descend (chain levels row.levels) (place - row.lo)))
      (option_map (λ past. at + (place - past)) (descend (chain levels row.levels) (place - row.lo))) (nat_le row.lo
      place)
      (by_past row at place (descend (chain levels row.levels) (place - row.lo)))

  before_is : (row : StoredRow) (at k : ℕ) → row.size ≡ size (shape_of types row.kind) →
      before at k (decoded types levels row) ≡ option_map (run_from types row) (start_before (chain levels
      row.levels) row at k)
  before_is row at k e =
      let w : width (decoded types levels row) ≡ row.count * row.size = ap (λ (s : ℕ). row.count * s) (sym e) in
      ap (λ (n : ℕ). cond (nat_le n (k - at)) (located (decoded types levels row) at (k - at - n)) None) w ∙
      by_choice row (located (decoded types levels row) at (k - at - row.count * row.size)) (start_of (chain levels
      row.levels) row at (k - at - row.count * row.size))
      (nat_le (row.count * row.size) (k - at)) (located_is row at (k - at - row.count * row.size))

  module _ (k : ℕ) (want : Shape) where
    -- going over stored rows, as far as it has come
    abbrev pub over : (Row → Option ShapeRun) → Option Match → List StoredRow → Option Match
    over find = fold (λ best row. look k want best (find (decoded types levels row)))

    over_all : (find : Row → Option ShapeRun) (best : Option Match) (rows : List StoredRow) →
        over find best rows ≡ scan k want find best (map (decoded types levels) rows)
    over_all find best [] = refl
    over_all find best (row ∷ rows) = over_all find (look k want best (find (decoded types levels row))) rows

    pub over_end : (find : Row → Option ShapeRun) (from best : Option Match) (rows : List StoredRow) (at : ℕ) →
        length rows ≤ at → best ≡ over find from (take at rows) →
        best ≡ scan k want find from (map (decoded types levels) rows)
    over_end find from best rows at h e = e ∙ ap (over find from) (take_all at rows h) ∙ over_all find from rows

    over_step : (find : Row → Option ShapeRun) (from best next : Option Match) (rows : List StoredRow) (i : ℕ) (d :
        StoredRow) → i < length rows →
        best ≡ over find from (take i rows) → next ≡ look k want best (find (decoded types levels (get_or rows i d)))
        → next ≡ over find from (take (i + 1) rows)
    over_step find from best next rows i d h e f =
        f ∙ ap (λ b. look k want b (find (decoded types levels (get_or rows i d)))) e ∙
        sym (fold_more (λ b row. look k want b (find (decoded types levels row))) from rows i d h)

    pub around_more : (from best next match : Option Match) (start : Option ℕ) (rows : List StoredRow) (at i : ℕ) (d
        : StoredRow) → i < length rows →
        best ≡ over (around at k) from (take i rows) → start ≡ start_of (chain levels (get_or rows i d).levels)
        (get_or rows i d) at (k - at) →
        match ≡ match_found want (option_map (run_from types (get_or rows i d)) start) →
        next ≡ consider k best match → next ≡ over (around at k) from (take (i + 1) rows)
    around_more from best next match start rows at i d h e s m n =
        over_step (around at k) from best next rows i d h e
        (n ∙ ap (consider k best) (m ∙ ap (match_found want) (ap (option_map (run_from types (get_or rows i d))) s ∙
        sym (located_is (get_or rows i d) at (k - at)))))

    pub before_more : (from best next match : Option Match) (start : Option ℕ) (rows : List StoredRow) (at i : ℕ) (d
        : StoredRow) → AreRows types levels rows → i < length rows →
        best ≡ over (before at k) from (take i rows) → start ≡ start_before (chain levels (get_or rows i d).levels)
        (get_or rows i d) at k →
        match ≡ match_found want (option_map (run_from types (get_or rows i d)) start) →
        next ≡ consider k best match → next ≡ over (before at k) from (take (i + 1) rows)
    before_more from best next match start rows at i d ok h e s m n =
        over_step (before at k) from best next rows i d h e
        (n ∙ ap (consider k best) (m ∙ ap (match_found want) (ap (option_map (run_from types (get_or rows i d))) s ∙
        sym (before_is (get_or rows i d) at k (row_ok types levels rows i d ok h).sized))))
