-- The last stamp of a list of entries, and one entry more.
use Rattle.std.proofs.Common.{◌≡◌, ◌≢◌, ℕ, zero, suc, ◌-◌, List, [], ◌∷◌, length, Some, refl, sym, ap, subst, arith}
use Rattle.std.specs.Prelude.{slice_get}
use Rattle.heap_model.specs.Layouts.{Layouts}
use Rattle.heap_model.specs.State.{State}
use Rattle.heap_model.specs.declared.calls.Entry.{Entry}
use Rattle.region_lock.specs.Entries.{last_from, last_stamp}
use Rattle.typed_heap.specs.Histories.{IsHeapOf}

-- ---- the last stamp

last-at : (b : ℕ) (xs : List Entry) (k : ℕ) (x : Entry) → slice_get xs k ≡ Some x → length xs ≡ suc k
    → last_from b xs ≡ x.stamp
last-at b [] k x e n = absurd (omega arith)
last-at b (y ∷ []) zero x e n = let t : y ≡ x = cc in ap (λ (z : Entry). z.stamp) t
last-at b (y ∷ []) (suc k) x e n = absurd (omega arith)
last-at b (y ∷ z ∷ xs) zero x e n = absurd (omega arith)
last-at b (y ∷ z ∷ xs) (suc k) x e n = last-at y.stamp (z ∷ xs) k x e (omega arith)

pub last-is : (xs : List Entry) (count : ℕ) (x : Entry) → count ≡ length xs → count ≢ 0
    → slice_get xs (count - 1) ≡ Some x → x.stamp ≡ last_stamp xs
last-is xs zero x n some e = absurd (some refl)
last-is xs (suc k) x n some e =
    let place : suc k - 1 ≡ k = omega arith in
    sym (last-at 0 xs k x (subst (λ (i : ℕ). slice_get xs i ≡ Some x) place e) (sym n))

pub last-none : (xs : List Entry) → length xs ≡ 0 → last_stamp xs ≡ 0
last-none [] n = refl
last-none (x ∷ xs) n = absurd (omega arith)

-- ---- the heap beside its list, where both have gone on

pub kept-next : (layouts : Layouts) (now : State) (region : ℕ) (later more : List Entry) → now.region ≡ region
    → later ≡ more → IsHeapOf layouts now region more → IsHeapOf layouts now now.region later
kept-next layouts now region later more number is held =
    subst (λ (r : ℕ). IsHeapOf layouts now r later) (sym number) (subst (IsHeapOf layouts now region) (sym is) held)
