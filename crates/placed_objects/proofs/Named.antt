-- The search among the entries.
use Rattle.std.proofs.Common.{◌≡◌, ℕ, suc, Bool, List, [], ◌∷◌, drop, Option, Some, None, find, slice_get, is_some, option_map, true, false, ◌+◌, add-one, refl, sym, ◌∙◌, ap}
use Rattle.std.specs.List.{filter_map}
use Rattle.std.specs.Option.{option_or}
use Rattle.std.proofs.Math.Seq.{drop-cons}
use Rattle.std.proofs.lemmas.List.Elements.{filter_map-append}
use Rattle.std.proofs.lemmas.List.Folds.{find-append}
use Rattle.std.proofs.lemmas.Option.{slice_get_within, get_or_from_slice_get}
use Rattle.lowfat_regions.specs.Regions.{Slot, slot_of}
use Rattle.slot_headers.specs.Words.{version_of}
use Rattle.heap_model.specs.Answers.{Name, is_at}
use Rattle.heap_model.specs.declared.calls.Entry.{Entry}
use Rattle.placed_objects.specs.declared.object.Object.{Object}
use Rattle.placed_objects.specs.Placed.{placed_name, object_named}
use Rattle.placed_objects.specs.Meant.{name_of}

-- no slot is that of no object
pub find_nowhere : (version : ℕ) (names : List Name) → find (is_at None version) names ≡ None
find_nowhere version [] = refl
find_nowhere version (n ∷ names) = find_nowhere version names

drop_at : (es : List Entry) (at : ℕ) (e : Entry) → slice_get es at ≡ Some e → drop at es ≡ e ∷ drop (suc at) es
drop_at es at e h =
    drop-cons es at e (slice_get_within es at e h) ∙ ap (λ x. x ∷ drop (suc at) es) (get_or_from_slice_get es at e e h)

-- the first that passes is here, or further on
pub find_from : (test : Name → Bool) (es : List Entry) (at : ℕ) (e : Entry) → slice_get es at ≡ Some e →
    find test (filter_map placed_name (drop at es))
    ≡ option_or (find test (filter_map placed_name (e ∷ []))) (find test (filter_map placed_name (drop (suc at) es)))
find_from test es at e h =
    ap (λ xs. find test (filter_map placed_name xs)) (drop_at es at e h)
    ∙ ap (find test) (filter_map-append placed_name (e ∷ []) (drop (suc at) es))
    ∙ find-append test (filter_map placed_name (e ∷ [])) (filter_map placed_name (drop (suc at) es))

-- the object that is named where the anchor is in no slot, and where it is in one
pub named_nowhere : (es : List Entry) (anchor word : ℕ) → slot_of anchor ≡ None → object_named es anchor word ≡ None
unfolding object_named
named_nowhere es anchor word e = rw e (find_nowhere (version_of word) (filter_map placed_name es))

pub named_by : (es : List Entry) (anchor word version : ℕ) (s : Slot) → slot_of anchor ≡ Some s → version ≡ version_of word →
    find (is_at (Some s) version) (filter_map placed_name es) ≡ object_named es anchor word
unfolding object_named
named_by es anchor word version s e v = rw (e, v) refl

-- the search ends at an entry that placed the object
pub found_here : (test : Name → Bool) (es : List Entry) (at : ℕ) (e : Entry) (here : Option Object) (whole : Option Name) →
    slice_get es at ≡ Some e → find test (filter_map placed_name (drop at es)) ≡ whole →
    option_map name_of here ≡ find test (filter_map placed_name (e ∷ [])) → is_some here ≡ true → option_map name_of here ≡ whole
found_here test es at e None whole h before is some = cc
found_here test es at e (Some o) whole h before is some =
    let from : find test (filter_map placed_name (drop at es)) ≡ option_or (Some (name_of o)) (find test (filter_map placed_name (drop (suc at) es))) =
    find_from test es at e h ∙ ap (λ x. option_or x (find test (filter_map placed_name (drop (suc at) es)))) (sym is) in
    sym from ∙ before

-- and goes on after one that did not
pub not_here : (test : Name → Bool) (es : List Entry) (at : ℕ) (e : Entry) (here : Option Object) (whole : Option Name) →
    slice_get es at ≡ Some e → find test (filter_map placed_name (drop at es)) ≡ whole →
    option_map name_of here ≡ find test (filter_map placed_name (e ∷ [])) → is_some here ≡ false →
    find test (filter_map placed_name (drop (at + 1) es)) ≡ whole
not_here test es at e (Some o) whole h before is none = cc
not_here test es at e None whole h before is none =
    rw (add-one at)
    (sym (find_from test es at e h ∙ ap (λ x. option_or x (find test (filter_map placed_name (drop (suc at) es)))) (sym is)) ∙ before)
