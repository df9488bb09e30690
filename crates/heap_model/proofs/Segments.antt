-- Entries by their places in segments.
use Rattle.std.proofs.Common.{◌≡◌, ℕ, zero, suc, ◌+◌, ◌-◌, ◌*◌, ◌<◌, ◌≤◌, List, [], ◌∷◌, ◌++◌, length, get_or, sym, ap, ◌∙◌, ◌⊎◌, inl, inr, arith, length-append, append_assoc}
use Rattle.std.specs.List.{AllByRecursion}
use Rattle.std.proofs.lemmas.List.{get_or_append_left, get_or-append_right, append-nil}
use Rattle.heap_model.specs.History.{SegmentLog, segment_entries}
use Rattle.heap_model.specs.Segments.{entries_of, IsFull}
use Rattle.heap_model.specs.declared.calls.Entry.{Entry}

pub length-segments : (full : List SegmentLog) → AllByRecursion IsFull full → length (entries_of full) ≡ segment_entries * length full
length-segments [] whole = omega arith
length-segments (s ∷ full) whole = omega (arith, length-append s.entries (entries_of full), whole.0, length-segments full whole.1)

-- an entry of a full segment
pub segment-at : (full : List SegmentLog) → AllByRecursion IsFull full → (rest : List Entry) (k j : ℕ) (v : SegmentLog) (d : Entry) → k < length full → j < segment_entries
    → get_or (entries_of full ++ rest) (segment_entries * k + j) d ≡ get_or (get_or full k v).entries j d
segment-at [] whole rest k j v d below less = absurd (omega (arith, below))
segment-at (s ∷ full) whole rest zero j v d below less =
    let here : segment_entries * zero + j ≡ j = omega arith in
    (λ i. get_or (append_assoc s.entries (entries_of full) rest i) (here i) d) ∙ get_or_append_left s.entries (entries_of full ++ rest) d j (omega (arith, whole.0, less))
segment-at (s ∷ full) whole rest (suc k) j v d below less =
    let there : segment_entries * suc k + j - segment_entries ≡ segment_entries * k + j = omega arith in
    ap (λ l. get_or l (segment_entries * suc k + j) d) (append_assoc s.entries (entries_of full) rest)
    ∙ get_or-append_right s.entries (entries_of full ++ rest) segment_entries (segment_entries * suc k + j) d whole.0 (omega arith)
    ∙ ap (λ n. get_or (entries_of full ++ rest) n d) there
    ∙ segment-at full whole.1 rest k j v d (omega (arith, below)) less

-- one of the segment that takes the next entries
pub open-at : (full : List SegmentLog) → AllByRecursion IsFull full → (rest : List Entry) (j : ℕ) (d : Entry)
    → get_or (entries_of full ++ rest) (segment_entries * length full + j) d ≡ get_or rest j d
open-at full whole rest j d =
    let there : segment_entries * length full + j - segment_entries * length full ≡ j = omega arith in
    get_or-append_right (entries_of full) rest (segment_entries * length full) (segment_entries * length full + j) d (length-segments full whole) (omega arith)
    ∙ ap (λ n. get_or rest n d) there

-- one segment more
pub entries-push : (full : List SegmentLog) (s : SegmentLog) → entries_of (full ++ s ∷ []) ≡ entries_of full ++ s.entries
entries-push [] s = append-nil s.entries
entries-push (t ∷ full) s = ap (λ es. t.entries ++ es) (entries-push full s) ∙ sym (append_assoc t.entries (entries_of full) s.entries)

pub full-push : (full : List SegmentLog) (s : SegmentLog) → AllByRecursion IsFull full → IsFull s → AllByRecursion IsFull (full ++ s ∷ [])
full-push [] s whole last = (last, tt)
full-push (t ∷ full) s whole last = (whole.0, full-push full s whole.1 last)

-- the segment that takes the next entries has no more than a segment may have
pub last-short : (short capacity : ℕ) → short ≤ capacity → (capacity ≡ segment_entries) ⊎ (capacity ≡ 0) → short ≤ segment_entries
last-short short capacity le (inl e) = omega (arith, le, e)
last-short short capacity le (inr e) = omega (arith, le, e)
