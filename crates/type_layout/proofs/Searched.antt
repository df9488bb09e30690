-- Going through the runs one by one finds the preferred bounds.
use Rattle.std.proofs.Common.{◌≡◌, ◌+◌, ◌<◌, ◌≤◌, take, length, get_or, ℕ, List, [], ◌∷◌, ◌++◌, map, Bool, true, false, cond, Some, None, sym, ap, ◌∙◌, refl}
use Rattle.std.specs.Prelude.{Option, fold, filter, filter_map}
use Rattle.std.specs.List.{cons_option}
use Rattle.std.specs.Option.{option_map, option_to_list}
use Rattle.std.proofs.lemmas.List.{take_all}
use Rattle.std.proofs.lemmas.List.Sums.{fold-append, fold_more}
use Rattle.c_types.specs.Table.{Types}
use Rattle.c_types.specs.Shapes.{Shape}
use Rattle.type_layout.specs.declared.object_runs.Run.{Run}
use Rattle.type_layout.specs.declared.preference.Match.{Match}
use Rattle.type_layout.specs.declared.preference.Bounds.{Bounds}
use Rattle.type_layout.specs.Runs.{ShapeRun, runs_of_object}
use Rattle.type_layout.specs.Preferred.{run_match, object_match, matches, may_mean, better, least, pref, bounds_of}
use Rattle.type_layout.specs.Search.{run_in, consider, best_of}

kept : (x : Match) (xs ys : List Match) (b : Bool) → cond b (x ∷ (xs ++ ys)) (xs ++ ys) ≡ cond b (x ∷ xs) xs ++ ys
kept x xs ys true = refl
kept x xs ys false = refl

pub filter_append : (p : Match → Bool) (xs ys : List Match) → filter p (xs ++ ys) ≡ filter p xs ++ filter p ys
filter_append p [] ys = refl
filter_append p (x ∷ xs) ys = rw (filter_append p xs ys) (kept x (filter p xs) (filter p ys) (p x))

-- one match more
pub kept_or_not : (k : ℕ) (best : Option Match) (x : Match) (rest : List Match) (b : Bool) →
    fold (better k) best (cond b (x ∷ rest) rest) ≡ fold (better k) (cond b (better k best x) best) rest
kept_or_not k best x rest true = refl
kept_or_not k best x rest false = refl

perhaps : (k : ℕ) (best : Option Match) (o : Option Match) (rest : List Match) →
    fold (better k) best (filter (may_mean k) (cons_option o rest)) ≡ fold (better k) (consider k best o) (filter (may_mean k) rest)
perhaps k best None rest = refl
perhaps k best (Some x) rest = kept_or_not k best x (filter (may_mean k) rest) (may_mean k x)

-- the runs one by one
pub fold_runs : (k : ℕ) (want : Shape) (best : Option Match) (runs : List ShapeRun) →
    fold (better k) best (filter (may_mean k) (filter_map (run_match want) runs)) ≡
    fold (λ b run. consider k b (run_match want run)) best runs
fold_runs k want best [] = refl
fold_runs k want best (run ∷ runs) =
    perhaps k best (run_match want run) (filter_map (run_match want) runs) ∙ fold_runs k want (consider k best (run_match want run)) runs

fold_numbered : (types : Types) (k : ℕ) (want : Shape) (best : Option Match) (runs : List Run) →
    fold (λ b run. consider k b (run_match want run)) best (map (run_in types) runs) ≡
    fold (λ b run. consider k b (run_match want (run_in types run))) best runs
fold_numbered types k want best [] = refl
fold_numbered types k want best (run ∷ runs) = fold_numbered types k want (consider k best (run_match want (run_in types run))) runs

pub last : (k : ℕ) (best o : Option Match) → fold (better k) best (filter (may_mean k) (option_to_list o)) ≡ consider k best o
last k best None = refl
last k best (Some x) = kept_or_not k best x [] (may_mean k x)

pub least_is : (types : Types) (elem want : Shape) (bytes k : ℕ) (runs : List Run) → map (run_in types) runs ≡ runs_of_object elem bytes →
    least k (filter (may_mean k) (matches elem bytes want)) ≡ consider k (best_of types k want runs) (object_match elem bytes want)
least_is types elem want bytes k runs is =
    ap (fold (better k) None) (filter_append (may_mean k) (filter_map (run_match want) (runs_of_object elem bytes)) (option_to_list (object_match elem bytes want))) ∙
    fold-append (better k) None (filter (may_mean k) (filter_map (run_match want) (runs_of_object elem bytes))) (filter (may_mean k) (option_to_list (object_match elem bytes want))) ∙
    last k (fold (better k) None (filter (may_mean k) (filter_map (run_match want) (runs_of_object elem bytes)))) (object_match elem bytes want) ∙
    ap (λ b. consider k b (object_match elem bytes want))
    (fold_runs k want None (runs_of_object elem bytes) ∙
    ap (fold (λ b run. consider k b (run_match want run)) None) (sym is) ∙
    fold_numbered types k want None runs)

pub pref_is : (types : Types) (elem want : Shape) (bytes k : ℕ) (runs : List Run) → map (run_in types) runs ≡ runs_of_object elem bytes →
    pref elem bytes k want ≡ option_map bounds_of (consider k (best_of types k want runs) (object_match elem bytes want))
unfolding pref
pref_is types elem want bytes k runs is = ap (option_map bounds_of) (least_is types elem want bytes k runs is)

-- ---- the loop

pub one_more : (types : Types) (k : ℕ) (want : Shape) (runs : List Run) (at : ℕ) (d : Run) (best next found : Option Match) →
    at < length runs → best ≡ best_of types k want (take at runs) → next ≡ run_match want (run_in types (get_or runs at d)) →
    found ≡ consider k best next → found ≡ best_of types k want (take (at + 1) runs)
one_more types k want runs at d best next found h e f g =
    g ∙ ap (consider k best) f ∙ ap (λ b. consider k b (run_match want (run_in types (get_or runs at d)))) e ∙
    sym (fold_more (λ b run. consider k b (run_match want (run_in types run))) None runs at d h)

pub all_seen : (types : Types) (elem want : Shape) (bytes k : ℕ) (runs : List Run) (at : ℕ) (best whole found : Option Match) (bounds : Option Bounds) →
    map (run_in types) runs ≡ runs_of_object elem bytes → length runs ≤ at → best ≡ best_of types k want (take at runs) →
    whole ≡ object_match elem bytes want → found ≡ consider k best whole → bounds ≡ option_map bounds_of found → bounds ≡ pref elem bytes k want
all_seen types elem want bytes k runs at best last found bounds is h e f g b =
    let i : best ≡ best_of types k want runs = e ∙ ap (best_of types k want) (take_all at runs h) in
    b ∙ ap (option_map bounds_of) (g ∙ ap (consider k best) f ∙ ap (λ x. consider k x (object_match elem bytes want)) i) ∙
    sym (pref_is types elem want bytes k runs is)
