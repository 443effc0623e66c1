-- A part of the words is replaced by as many.
use Rattle.std.proofs.Common.{◌≡◌, ℕ, ◌⊎◌, ◌+◌, ◌-◌, ◌≤◌, ◌<◌, List, ◌++◌, length, get_or, take, drop, inl, inr, arith}
use borrow.Rule.Slice.PartMut.{put_mid}
use Rattle.std.proofs.lemmas.Grind.{common_steps}
use Rattle.std.proofs.lemmas.List.{drop-drop}

pub record Replaced (m m' : List ℕ) (at : ℕ) (part : List ℕ) : Type 0 where
  pub size : length m' ≡ length m
  pub here : (k : ℕ) → k < length part → get_or m' (at + k) 0 ≡ get_or part k 0
  pub others : (i : ℕ) → (i < at) ⊎ (at + length part ≤ i) → get_or m' i 0 ≡ get_or m i 0

pub a_part_is_replaced : (m part : List ℕ) (at : ℕ) → at + length part ≤ length m → Replaced m (take at m ++ (part ++ drop (at + length part) m)) at part
a_part_is_replaced m part at fit = record { size = grind (arith, common_steps); here = here; others = others }
  where
    here : (k : ℕ) → k < length part → get_or (take at m ++ (part ++ drop (at + length part) m)) (at + k) 0 ≡ get_or part k 0
    here k l = grind (arith, common_steps)

    others : (i : ℕ) → (i < at) ⊎ (at + length part ≤ i) → get_or (take at m ++ (part ++ drop (at + length part) m)) i 0 ≡ get_or m i 0
    others i (inl l) = grind (arith, common_steps)
    others i (inr l) = grind (arith, common_steps)

-- after a write to a part
pub a_middle_is_replaced : (m part : List ℕ) (at n : ℕ) → length part ≡ n → at + n ≤ length m → Replaced m (put_mid at (at + n - at) m part) at part
a_middle_is_replaced m part at n l fit =
    let e : at + n - at ≡ length part = omega arith in
    rw (e, drop-drop (length part) at m) (a_part_is_replaced m part at (omega arith))

pub length_of_a_middle : (m : List ℕ) (at n : ℕ) → at + n ≤ length m → length (take (at + n - at) (drop at m)) ≡ n
length_of_a_middle m at n fit = grind (arith, common_steps)
