-- Parts of lists.
use Rattle.std.proofs.Common.{◌≡◌, refl, ℕ, ◌-◌, ◌≤◌, min, List, [], length, take, drop, ◌∙◌, sym, arith, inl, inr}
use Rattle.std.specs.Prelude.{slice_range}
use Rattle.std.proofs.lemmas.List.{nil_from_length, length-take, length-drop, take_all}
use Rattle.std.proofs.lemmas.Bool.{cases_lt}

module _ {X : Type 0} where
  pub part_none : (xs : List X) (s e : ℕ) → min e (length xs) ≤ s → slice_range xs s e ≡ []
  part_none xs s e h = nil_from_length _ (simp (length-take, length-drop) (omega arith))

  pub part_cut : (xs : List X) (s e : ℕ) → slice_range xs s (min e (length xs)) ≡ slice_range xs s e
  part_cut xs s e = elim (cases_lt (length xs) e) [
    | inl over ↦ (
        let n : min e (length xs) ≡ length xs = omega arith in
        let a = length-drop s xs in
        let all : take (length xs - s) (drop s xs) ≡ drop s xs = take_all (length xs - s) (drop s xs) (omega arith) in
        let more : take (e - s) (drop s xs) ≡ drop s xs = take_all (e - s) (drop s xs) (omega arith) in
        rw n (all ∙ sym more))
    | inr within ↦ (let n : min e (length xs) ≡ e = omega arith in rw n refl)
  ]
