-- What frames stand for.
use Rattle.std.proofs.Common.{◌≡◌, ℕ, zero, suc, ◌+◌, ◌-◌, ◌<◌, ◌≤◌, List, [], ◌∷◌, ◌++◌, drop, length, map, Some, None, sym, ap, ◌∙◌, refl, arith, append_assoc, add-one}
use Rattle.std.specs.Prelude.{Option, slice_get, IfSome}
use Rattle.std.specs.Option.{option_to_list}
use Rattle.std.proofs.lemmas.List.{append-nil, map-append}
use Rattle.c_types.specs.Shapes.{size}
use Rattle.c_types.specs.Table.{Types, shape_of}
use Rattle.type_layout.specs.declared.object_runs.Run.{Run}
use Rattle.type_layout.specs.declared.opening.Frame.{Frame}
use Rattle.type_layout.specs.Runs.{ShapeRun, runs_of}
use Rattle.type_layout.specs.Search.{run_in}
use Rattle.type_layout.specs.Pending.{opened, inside_values, parts_in, IsFrame, to_come, if_to_come, pending, AreFrames}
use Rattle.type_layout.proofs.Values.{values_front, inside_opened}

-- ---- the parts that are left

drop_some : (runs : List ShapeRun) (place : ℕ) (run : ShapeRun) → slice_get runs place ≡ Some run →
    drop place runs ≡ run ∷ drop (suc place) runs
drop_some [] place run e = cc
drop_some (first ∷ runs) zero run e = let same : first ≡ run = cc in ap (λ r. r ∷ runs) same
drop_some (first ∷ runs) (suc place) run e = drop_some runs place run e

drop_none : (runs : List ShapeRun) (place : ℕ) → slice_get runs place ≡ None → drop place runs ≡ []
drop_none [] zero e = refl
drop_none [] (suc place) e = refl
drop_none (first ∷ runs) zero e = cc
drop_none (first ∷ runs) (suc place) e = drop_none runs place e

-- ---- stacks

pub pending_push : (types : Types) (stack : List Frame) (frame : Frame) →
    pending types (stack ++ frame ∷ []) ≡ to_come types frame ++ pending types stack
pending_push types [] frame = sym (append-nil (to_come types frame))
pending_push types (first ∷ stack) frame =
    rw (pending_push types stack frame) (append_assoc (to_come types frame) (pending types stack) (to_come types first))

pub pending_put : (types : Types) (stack : List Frame) (frame : Option Frame) →
    pending types (stack ++ option_to_list frame) ≡ if_to_come types frame ++ pending types stack
pending_put types stack None = ap (pending types) (append-nil stack)
pending_put types stack (Some frame) = pending_push types stack frame

frames_push : (types : Types) (stack : List Frame) (frame : Frame) → AreFrames types stack → IsFrame types frame →
    AreFrames types (stack ++ frame ∷ [])
frames_push types [] frame h is = (is, tt)
frames_push types (first ∷ stack) frame h is = (h.0, frames_push types stack frame h.1 is)

pub frames_put : (types : Types) (stack : List Frame) (frame : Option Frame) → AreFrames types stack →
    IfSome frame (λ f. IsFrame types f) →
    AreFrames types (stack ++ option_to_list frame)
frames_put types stack None h is = rw (append-nil stack) h
frames_put types stack (Some frame) h is = frames_push types stack frame h is

pub frames_pop : (types : Types) (stack : List Frame) (frame : Frame) → AreFrames types (stack ++ frame ∷ []) →
    AreFrames types stack × IsFrame types frame
frames_pop types [] frame h = (tt, h.0)
frames_pop types (first ∷ stack) frame h = let r = frames_pop types stack frame h.1 in ((h.0, r.0), r.1)

-- ---- frames

-- the first part of a run's first value
pub frame_inside : (types : Types) (values : Run) (next : Run) → 1 ≤ values.count →
    to_come types (record { values = values; part = 0; next = next }) ≡
    inside_values (shape_of types values.kind) values.lo values.count
frame_inside types values next some =
    let kind = shape_of types values.kind in
    let count : values.count ≡ suc (values.count - 1) = omega arith in
    sym (ap (inside_values kind values.lo) count ∙ values_front kind values.lo (values.count - 1) ∙
    ap (λ first. first ++ inside_values kind (values.lo + size kind) (values.count - 1)) (inside_opened kind values.lo))

-- what is left of the first value of a frame after its next part, and what is inside the later values
abbrev LaterParts : Types → Frame → List ShapeRun
LaterParts types frame = opened (drop (frame.part + 1) (parts_in types frame.values))

abbrev LaterValues : Types → Frame → List ShapeRun
LaterValues types frame =
    inside_values (shape_of types frame.values.kind) (frame.values.lo + size (shape_of types frame.values.kind))
    (frame.values.count - 1)

abbrev NextPart : Types → Frame → List ShapeRun
NextPart types frame = runs_of (shape_of types frame.next.kind) frame.next.lo frame.next.count

-- a frame without its next part
pub frame_rest : (types : Types) (frame : Frame) → IsFrame types frame →
    to_come types frame ≡ NextPart types frame ++ (LaterParts types frame ++ LaterValues types frame)
frame_rest types frame is =
    ap (λ runs. opened runs ++ LaterValues types frame)
    (drop_some (parts_in types frame.values) frame.part (run_in types frame.next) is.here ∙
    ap (λ n. run_in types frame.next ∷ drop n (parts_in types frame.values)) (sym (add-one frame.part))) ∙
    append_assoc (NextPart types frame) (LaterParts types frame) (LaterValues types frame)

-- after the last part of a value the later values are left
pub frame_last : (types : Types) (frame : Frame) (width : ℕ) (more : List ShapeRun) → IsFrame types frame →
    slice_get (parts_in types frame.values) (frame.part + 1) ≡ None → width ≡ size (shape_of types frame.values.kind) →
    more ≡ inside_values (shape_of types frame.values.kind) (frame.values.lo + width) (frame.values.count - 1) →
    to_come types frame ≡ NextPart types frame ++ more
frame_last types frame width more is none w e =
    frame_rest types frame is ∙
    ap (λ runs. NextPart types frame ++ (opened runs ++ LaterValues types frame))
    (drop_none (parts_in types frame.values) (frame.part + 1) none) ∙
    ap (λ later. NextPart types frame ++ later)
    (sym (e ∙ ap (λ s. inside_values (shape_of types frame.values.kind) (frame.values.lo + s)
    (frame.values.count - 1)) w))

-- ---- one part more

module _ (types : Types) (frame : Frame) (old middle new : List Frame) (rest inner : Option Frame) where
  pub frames_more : middle ≡ old ++ option_to_list rest → new ≡ middle ++ option_to_list inner → AreFrames types old →
      IfSome rest (λ f. IsFrame types f) → IfSome inner (λ f. IsFrame types f) → AreFrames types new
  frames_more a b h r i = rw b (frames_put types middle inner (rw a (frames_put types old rest h r)) i)

  pub pending_more : middle ≡ old ++ option_to_list rest → new ≡ middle ++ option_to_list inner →
      to_come types frame ≡ NextPart types frame ++ if_to_come types rest →
      if_to_come types inner ≡ inside_values (shape_of types frame.next.kind) frame.next.lo frame.next.count →
      to_come types frame ++ pending types old ≡ run_in types frame.next ∷ pending types new
  pending_more a b r i =
      let after : pending types new ≡ if_to_come types inner ++ (if_to_come types rest ++ pending types old) =
      ap (pending types) b ∙ pending_put types middle inner ∙
      ap (λ m. if_to_come types inner ++ m) (ap (pending types) a ∙ pending_put types old rest) in
      ap (λ m. m ++ pending types old) r ∙
      append_assoc (NextPart types frame) (if_to_come types rest) (pending types old) ∙
      ap (λ m. run_in types frame.next ∷ m) (ap (λ m. m ++ (if_to_come types rest ++ pending types old)) (sym i) ∙
      sym after)

-- ---- the loop

module _ (types : Types) (before after new : List Frame) (frame : Frame) (is : before ≡ after ++ frame ∷ [])
    (step : to_come types frame ++ pending types after ≡ run_in types frame.next ∷ pending types new) where
  pub pending_pop : pending types before ≡ run_in types frame.next ∷ pending types new
  pending_pop = ap (pending types) is ∙ pending_push types after frame ∙ step

  pub fewer_pending : length (pending types new) < length (pending types before)
  fewer_pending = omega (arith, ap length pending_pop)

  pub listed_more : (runs more : List Run) (whole : List ShapeRun) → more ≡ runs ++ frame.next ∷ [] →
      map (run_in types) runs ++ pending types before ≡ whole → map (run_in types) more ++ pending types new ≡ whole
  listed_more runs more whole m w =
      ap (λ r. map (run_in types) r ++ pending types new) m ∙
      ap (λ r. r ++ pending types new) (map-append (run_in types) runs (frame.next ∷ [])) ∙
      append_assoc (map (run_in types) runs) (run_in types frame.next ∷ []) (pending types new) ∙
      ap (λ p. map (run_in types) runs ++ p) (sym pending_pop) ∙ w
