-- The second half of the theorem: from facts that are stable at every index and a number that falls with each step, a verdict follows
-- within that number of steps. How the facts were found, and whether jumps go forward only, is no matter here.
use mathlib.Core.Path.{◌≡◌, refl}
use mathlib.Core.List.{List}
use Prim.Native.Nat.{ℕ, zero, suc, ◌/◌, ◌≤◌, ◌<◌}
use native.Mathlib.Omega.{arith}
use lib.ListN.{length}
use Rattle.analysis.specs.Form.{instruction}
use Rattle.analysis.specs.Judged.{Waiting}
use Rattle.analysis.proofs.LayoutFree.{Config, Course, stuck, ends, goes, free, after, Comes, at_once, later}
use Rattle.analysis.proofs.Meaning.{Awaits}

module _ (program rec : List ℕ) where
  -- a step to where it is awaited
  abbrev pub Into : Waiting → Course → Type 0
  Into facts stuck = ⊥
  Into facts (ends v) = Unit {0}
  Into facts (goes c) = (c.index < length program / 8) × Awaits (facts c.index) c

  -- what is awaited at an index is not stuck there, and steps to where it is awaited
  abbrev pub Stable : Waiting → Type 0
  Stable facts = (c : Config) → c.index < length program / 8 → Awaits (facts c.index) c → Into facts (free rec c (instruction program c.index))

  abbrev pub Falls : Waiting → (Config → ℕ) → Type 0
  Falls facts Φ = (c c' : Config) → c.index < length program / 8 → Awaits (facts c.index) c
      → free rec c (instruction program c.index) ≡ goes c' → Φ c' < Φ c

  -- the layout-free run from c comes to a verdict within a number of steps
  pub record Ends (c : Config) (bound : ℕ) : Type 0 where
    pub verdict : ℕ
    pub steps : ℕ
    pub left : ℕ → List ℕ
    pub few : steps ≤ bound
    pub comes : Comes program rec c verdict steps left

  module _ (facts : Waiting) (stable : Stable facts) (Φ : Config → ℕ) (falls : Falls facts Φ) where
    ends_within : (m : ℕ) (c : Config) → Φ c < m → c.index < length program / 8 → Awaits (facts c.index) c → Ends c (suc (Φ c))
    ends_within zero c b l h = absurd (omega arith)
    ends_within (suc m) c b l h = go (free rec c (instruction program c.index)) refl (stable c l h) (λ c'. ends_within m c')
      where
        go : (o : Course) → free rec c (instruction program c.index) ≡ o → Into facts o
            → ((c' : Config) → Φ c' < m → c'.index < length program / 8 → Awaits (facts c'.index) c' → Ends c' (suc (Φ c'))) → Ends c (suc (Φ c))
        go stuck e i more = absurd i
        go (ends v) e i more = record { verdict = v; steps = 1; left = λ b. c.stack; few = omega arith; comes = at_once l e }
        go (goes c') e i more =
            let f : Φ c' < Φ c = falls c c' l h e in
            let w : Ends c' (suc (Φ c')) = more c' (omega arith) i.0 i.1 in
            record { verdict = w.verdict; steps = suc w.steps; left = after c.stack w.left; few = omega (arith, w.few); comes = later c' l e w.comes }

    pub stable_ends : (c : Config) → c.index < length program / 8 → Awaits (facts c.index) c → Ends c (suc (Φ c))
    stable_ends c = ends_within (suc (Φ c)) c (omega arith)
