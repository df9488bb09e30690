-- What is read so far, before what is ahead.
use Rattle.std.proofs.Common.{◌≡◌, ℕ, suc, ◌+◌, ◌<◌, List, [], ◌∷◌, ◌++◌, length, drop, get_or, drop-cons, drop_of_length-le, Option, Some, None, Ok, Err, refl, sym, ap, ◌∙◌, arith, append_assoc}
use Rattle.c_print.specs.declared.built.Built.{Built}
use Rattle.c_print.specs.declared.machine.Effect.{Effect}
use Rattle.c_print.specs.declared.machine.Effect.TheVariants as effect
use Rattle.c_print.specs.declared.machine.State.{State}
use Rattle.c_print.specs.declared.machine.State.TheVariants as state
use Rattle.c_print.specs.declared.parts.Part.{Part}
use Rattle.c_print.specs.declared.parts.Part.TheVariants.{Plain, Number, Str}
use Rattle.c_print.specs.Formats.{joined}
use Rattle.c_print.specs.Built.{part_of, Advances}
use Rattle.c_print.specs.Machine.{Reading, onto, next, at_end, reading, effect_of}

-- plain bytes before parts
abbrev pub with_text : List ℕ → List Part → List Part
with_text [] parts = parts
with_text (byte ∷ bytes) parts = joined byte (with_text bytes parts)

-- what is ahead, after what is read so far
abbrev pub after : List Part → List ℕ → ℕ → Reading → Reading
after parts plain at (Ok more) = Ok (parts ++ with_text plain more)
after parts plain at (Err n) = Err (at + n)

abbrev pub onward : Built → ℕ → Reading → Reading
onward built at r = after built.parts.items built.plain at r

-- what is ahead after an effect, if there is a next state
abbrev pub resumed : Built → ℕ → Option State → (State → Reading) → Reading
resumed built at None ahead = Err at
resumed built at (Some s) ahead = onward built (suc at) (ahead s)

with_text-append : (bytes : List ℕ) (byte : ℕ) (parts : List Part) →
    with_text (bytes ++ byte ∷ []) parts ≡ with_text bytes (joined byte parts)
with_text-append [] byte parts = refl
with_text-append (b ∷ bytes) byte parts = ap (joined b) (with_text-append bytes byte parts)

-- a part that is not plain
data IsConversion : Part → Type 0 where
  number : {letter : _} {flag : _} {width : ℕ} {long : _} → IsConversion (Number letter flag width long)
  string : {flag : _} {width : ℕ} → IsConversion (Str flag width)

single_text : (byte : ℕ) (part : Part) (parts : List Part) → IsConversion part →
    joined byte (part ∷ parts) ≡ Plain (byte ∷ []) ∷ part ∷ parts
single_text byte _ parts number = refl
single_text byte _ parts string = refl

with_text-conversion : (bytes : List ℕ) (part : Part) (parts : List Part) → IsConversion part →
    with_text bytes (part ∷ parts) ≡ part_of bytes ++ part ∷ parts
with_text-conversion [] part parts is = refl
with_text-conversion (b ∷ []) part parts is = single_text b part parts is
with_text-conversion (b ∷ c ∷ bytes) part parts is = ap (joined b) (with_text-conversion (c ∷ bytes) part parts is)

-- all plain bytes at the end
pub with_text-nil : (bytes : List ℕ) → with_text bytes [] ≡ part_of bytes
with_text-nil [] = refl
with_text-nil (b ∷ []) = refl
with_text-nil (b ∷ c ∷ bytes) = ap (joined b) (with_text-nil (c ∷ bytes))

after_same : (parts : List Part) (plain : List ℕ) (at : ℕ) (r : Reading) →
    after parts plain at (onto (λ more. more) r) ≡ after parts plain (suc at) r
after_same parts plain at (Ok more) = refl
after_same parts plain at (Err n) = ap Err (omega arith)

after_plain : (parts : List Part) (plain : List ℕ) (at byte : ℕ) (r : Reading) →
    after parts plain at (onto (joined byte) r) ≡ after parts (plain ++ byte ∷ []) (suc at) r
after_plain parts plain at byte (Ok more) =
    ap (λ (ps : List Part). Ok (parts ++ ps)) (sym (with_text-append plain byte more))
after_plain parts plain at byte (Err n) = ap Err (omega arith)

after_part : (parts : List Part) (plain : List ℕ) (at : ℕ) (part : Part) → IsConversion part → (r : Reading) →
    after parts plain at (onto (λ more. part ∷ more) r) ≡ after (parts ++ (part_of plain ++ part ∷ [])) [] (suc at) r
after_part parts plain at part is (Ok more) =
    ap Ok (ap (λ ps. parts ++ ps)
    (with_text-conversion plain part more is ∙ sym (append_assoc (part_of plain) (part ∷ []) more))
    ∙ sym (append_assoc parts (part_of plain ++ part ∷ []) more))
after_part parts plain at part is (Err n) = ap Err (omega arith)

-- ---- steps of the loop

pub resumes : (old new : Built) (e : Effect) (following : Option State) → Advances old new e following →
    (at : ℕ) (ahead : State → Reading) →
    onward old at (next e ahead) ≡ resumed new at following ahead
resumes old new effect.Wrong following h at ahead = ap Err (omega arith) ∙ sym (ap (λ f. resumed new at f ahead) h)
resumes old new (effect.Goes s) following h at ahead =
    after_same old.parts.items old.plain at (ahead s)
    ∙ ap (λ ps. after ps old.plain (suc at) (ahead s)) (sym h.1.0)
    ∙ ap (λ bs. after new.parts.items bs (suc at) (ahead s)) (sym h.1.1)
    ∙ sym (ap (λ f. resumed new at f ahead) h.0)
resumes old new (effect.Plain byte) following h at ahead =
    after_plain old.parts.items old.plain at byte (ahead state.Outside)
    ∙ ap (λ ps. after ps (old.plain ++ byte ∷ []) (suc at) (ahead state.Outside)) (sym h.1)
    ∙ ap (λ bs. after new.parts.items bs (suc at) (ahead state.Outside)) (sym h.2)
    ∙ sym (ap (λ f. resumed new at f ahead) h.0)
resumes old new (effect.Number letter f width long) following h at ahead =
    after_part old.parts.items old.plain at (Number letter f width long) number (ahead state.Outside)
    ∙ ap (λ ps. after ps [] (suc at) (ahead state.Outside)) (sym h.1.0)
    ∙ ap (λ bs. after new.parts.items bs (suc at) (ahead state.Outside)) (sym h.1.1)
    ∙ sym (ap (λ f. resumed new at f ahead) h.0)
resumes old new (effect.Str f width) following h at ahead =
    after_part old.parts.items old.plain at (Str f width) string (ahead state.Outside)
    ∙ ap (λ ps. after ps [] (suc at) (ahead state.Outside)) (sym h.1.0)
    ∙ ap (λ bs. after new.parts.items bs (suc at) (ahead state.Outside)) (sym h.1.1)
    ∙ sym (ap (λ f. resumed new at f ahead) h.0)

reading-drop : (s : State) (format : List ℕ) (at : ℕ) → at < length format →
    reading s (drop at format) ≡ next (effect_of s (get_or format at 0)) (λ t. reading t (drop (suc at) format))
unfolding reading
reading-drop s format at lt = ap (reading s) (drop-cons format at 0 lt)

-- one turn of the loop
pub turn : (old new : Built) (s : State) (format : List ℕ) (at : ℕ) (e : Effect) (found following : Option State) →
    at < length format →
    e ≡ effect_of s (get_or format at 0) → Advances old new e found → found ≡ following →
    onward old at (reading s (drop at format)) ≡ reading state.Outside format →
    resumed new at following (λ t. reading t (drop (suc at) format)) ≡ reading state.Outside format
turn old new s format at e found following lt is advances same before =
    let ahead : State → Reading = λ t. reading t (drop (suc at) format) in
    ap (λ f. resumed new at f ahead) (sym same) ∙ sym (resumes old new e found advances at ahead)
    ∙ ap (λ (x : Effect). onward old at (next x ahead)) is ∙ ap (onward old at) (sym (reading-drop s format at lt))
    ∙ before

-- the end of the loop
pub ended : (built : Built) (s : State) (format : List ℕ) (at : ℕ) → at ≡ length format →
    onward built at (reading s (drop at format)) ≡ reading state.Outside format →
    onward built at (at_end s) ≡ reading state.Outside format
unfolding reading
ended built s format at is before =
    ap (λ (bs : List ℕ). onward built at (reading s bs)) (sym (drop_of_length-le format (omega arith))) ∙ before

pub finished : (built : Built) (s : State) (format : List ℕ) (at : ℕ) → at ≡ length format → s ≡ state.Outside →
    onward built at (reading s (drop at format)) ≡ reading state.Outside format →
    (parts : List Part) → parts ≡ built.parts.items ++ part_of built.plain → reading state.Outside format ≡ Ok parts
finished built s format at is outside before parts same =
    sym (ended built s format at is before) ∙ ap (λ t. onward built at (at_end t)) outside
    ∙ ap (λ (ps : List Part). Ok (built.parts.items ++ ps)) (with_text-nil built.plain) ∙ ap Ok (sym same)

open_end : (s : State) → (s ≡ state.Outside → ⊥) → at_end s ≡ Err 0
open_end state.Outside h = absurd (h refl)
open_end _ h = refl

pub unfinished : (built : Built) (s : State) (format : List ℕ) (at : ℕ) → at ≡ length format → (s ≡ state.Outside → ⊥) →
    onward built at (reading s (drop at format)) ≡ reading state.Outside format →
    reading state.Outside format ≡ Err (length format)
unfinished built s format at is open_ before =
    sym (ended built s format at is before) ∙ ap (onward built at) (open_end s open_) ∙ ap Err (omega arith)
