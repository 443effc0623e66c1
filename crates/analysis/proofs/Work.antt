-- The work of the analysis is linear in the number of instructions.
use mathlib.Core.Path.{◌≡◌, refl}
use mathlib.Core.Bool.{Bool, true, false, cond}
use mathlib.Core.List.{List}
use Prim.Native.Nat.{ℕ, zero, suc, ◌+◌, ◌*◌, ◌/◌, ◌≤◌}
use native.Mathlib.Omega.{arith}
use lib.ListN.{length}
use lib.Dec.{ltb}
use Rattle.std.specs.Prelude.{Option, Some, None}
use Rattle.machine.specs.Machine.{bad_program, bad_record}
use Rattle.analysis.specs.declared.Reason.TheVariants.{BadLength, LongRecord, JumpsOut}
use Rattle.analysis.specs.declared.Finding.{Finding}
use Rattle.analysis.specs.declared.Finding.TheVariants.{Accepted, Refused}
use Rattle.analysis.specs.Values.{Facts, start_facts}
use Rattle.analysis.specs.Effects.{effect}
use Rattle.analysis.specs.Form.{instruction}
use Rattle.analysis.specs.Judged.{Flow, refuses, flows, apply, Waiting, nobody, arrive, Progress, halted, onward, send, and_then, distribute, visit, conclude, pass, formed, followed, on_paths, on_form, judged}
use Rattle.analysis.specs.Paths.{connected}
use Rattle.analysis.proofs.FormLaws.{form_refusal}
use Rattle.analysis.proofs.Paths.{unconnected_dead}

abbrev done : Progress → ℕ
done (halted reason p work) = work
done (onward p work) = work

send_work : (n j : ℕ) (o : Option Facts) (p : Waiting) (work : ℕ) → done (send n j o p work) ≤ work + 11
unfolding send
send_work n j None p work = omega arith
send_work n j (Some a) p work = go (ltb j n)
  where
    go : (b : Bool) → done (cond b (onward (arrive p j a) (work + 11)) (halted JumpsOut p work)) ≤ work + 11
    go true = omega arith
    go false = omega arith

distribute_work : (n i : ℕ) (p : Waiting) (work : ℕ) (f : Flow) → done (distribute n i p work f) ≤ work + 22
unfolding distribute and_then
distribute_work n i p work (refuses reason) = omega arith
distribute_work n i p work (flows next there target) = go (send n (i + 1) next p work) (send_work n (i + 1) next p work)
  where
    go : (r : Progress) → done r ≤ work + 11 → done (and_then r (send n target there)) ≤ work + 22
    go (halted reason q k) h = omega arith
    go (onward q k) h = omega (arith, h, send_work n target there q k)

visit_work : (program : List ℕ) (R i : ℕ) (p : Waiting) (work : ℕ) (w : Option Facts) → done (visit program R i p work w) ≤ work + 23
unfolding visit
visit_work program R i p work None = omega arith
visit_work program R i p work (Some a) =
    omega (arith, distribute_work (length program / 8) i p (work + 1) (apply a (effect R i a (instruction program i))))

pass_work : (program : List ℕ) (R k i : ℕ) (p : Waiting) (work : ℕ) → (pass program R k i p work).work ≤ work + 23 * k
unfolding pass conclude
pass_work program R zero i p work = omega arith
pass_work program R (suc k) i p work = go (visit program R i p work (p i)) (visit_work program R i p work (p i)) (pass_work program R k (i + 1))
  where
    go : (r : Progress) → done r ≤ work + 23 → ((q : Waiting) (m : ℕ) → (pass program R k (i + 1) q m).work ≤ m + 23 * k)
        → (conclude r i (pass program R k (i + 1))).work ≤ work + 23 * suc k
    go (halted reason q m) h more = omega arith
    go (onward q m) h more = omega (arith, h, more q m)

followed_work : (program : List ℕ) (R : ℕ) → (followed program R).work ≤ 25 * (length program / 8) + 11
unfolding followed conclude
followed_work program R =
    go (send (length program / 8) 0 (Some start_facts) nobody (2 * (length program / 8))) (send_work (length program / 8) 0 (Some start_facts) nobody (2 * (length program / 8)))
  where
    go : (r : Progress) → done r ≤ 2 * (length program / 8) + 11 → (conclude r 0 (pass program R (length program / 8) 0)).work ≤ 25 * (length program / 8) + 11
    go (halted reason q m) h = omega arith
    go (onward q m) h = omega (arith, h, pass_work program R (length program / 8) 0 q m)

paths_work : (program : List ℕ) (R : ℕ) (g : Finding) → connected program ≡ g → (on_paths program R g).work ≤ 25 * (length program / 8) + 11
unfolding on_paths
paths_work program R Accepted e = followed_work program R
paths_work program R (Refused reason place) e = omega (arith, (unconnected_dead program reason place e).1.inside)

pub work_linear : (program : List ℕ) (R : ℕ) → (judged program R).work ≤ 25 * (length program / 8) + 11
unfolding judged on_form
work_linear program R = go (bad_program (length program)) (bad_record R) (formed program (length program / 8) 0) refl
  where
    go : (a b : Bool) (f : Finding) → formed program (length program / 8) 0 ≡ f
        → (cond a (record { finding = Refused BadLength 0; work = 0 }) (cond b (record { finding = Refused LongRecord 0; work = 0 }) (on_form program R f))).work
        ≤ 25 * (length program / 8) + 11
    go true b f e = omega arith
    go false true f e = omega arith
    go false false Accepted e = paths_work program R (connected program) refl
    go false false (Refused reason place) e = omega (arith, (form_refusal program reason place e).inside)
