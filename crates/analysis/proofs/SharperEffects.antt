-- Knowing more never hurts an instruction: of registers of which more is known an instruction refuses nothing that it did not, and what
-- flows on says no less, unless a range is empty that it calculates with.
use mathlib.Core.Path.{◌≡◌, refl}
use mathlib.Core.Bool.{Bool, true, false, cond, ◌||◌}
use mathlib.Core.Logic.{◌⊎◌, inl}
use Prim.Native.Nat.{ℕ, ◌+◌, ◌-◌, ◌*◌, ◌^◌, ◌≤◌, ◌<◌}
use native.Mathlib.Nat.{le_trans}
use native.Mathlib.Omega.{arith}
use lib.Pow.{pow_pos, pow_mono}
use lib.Dec.{eqb}
use Rattle.std.specs.Prelude.{Some, None, Option}
use Rattle.word.specs.declared.Operation.{Operation}
use Rattle.word.specs.declared.Operation.TheVariants.{Add, Sub}
use Rattle.word.specs.declared.Operation.TheVariants as operation
use Rattle.word.specs.declared.Comparison.{Comparison}
use Rattle.machine.specs.declared.instruction.Width.{Width}
use Rattle.machine.specs.declared.instruction.Width.TheVariants.{Long, Short}
use Rattle.machine.specs.declared.instruction.Size.{Size}
use Rattle.machine.specs.declared.instruction.Size.TheVariants.{One, Two, Four, Eight}
use Rattle.machine.specs.declared.instruction.Operand.{Operand}
use Rattle.machine.specs.declared.instruction.Operand.TheVariants.{Immediate, Register}
use Rattle.machine.specs.declared.instruction.Instruction.{Instruction}
use Rattle.machine.specs.declared.instruction.Instruction.TheVariants.{Alu, Neg, Jump, Always, Exit, Load, Store, NoInstruction}
use Rattle.machine.specs.Machine.{bits, bytes}
use Rattle.known_bits.specs.KnownBits.{Well}
use Rattle.known_bits.proofs.Covering.{ones_cover_all_below}
use Rattle.known_bits.proofs.Inside.{among_inside}
use Rattle.number.specs.declared.Number.{Number}
use Rattle.number.specs.Refined.{Refined}
use Rattle.number.specs.Meaning.{In, Narrower, NoneEmpty, Left, LeavesNoMore}
use Rattle.number.specs.Sharpen.{exact, loaded, everything}
use Rattle.number.specs.Computed.{computed, fits}
use Rattle.number.proofs.Laws.{exact_in, loaded_in, fits_exactly, computed_form, computed_sound, computed_narrower, refined_form, refined32_form, refined_in_order, refined32_in_order}
use Rattle.analysis.specs.declared.Reason.{Reason}
use Rattle.analysis.specs.declared.Reason.TheVariants.{WritesR10, ReadsUnset, Outside, LeaksAddress}
use Rattle.analysis.specs.declared.Region.{Region}
use Rattle.analysis.specs.declared.Region.TheVariants.{Record, Stack}
use Rattle.analysis.specs.declared.Gone.TheVariants.{Never, Mixed}
use Rattle.analysis.specs.declared.Value.{Value}
use Rattle.analysis.specs.declared.Value.TheVariants.{Unusable, Plain, Address}
use Rattle.analysis.specs.declared.Effect.{Effect}
use Rattle.analysis.specs.declared.Effect.TheVariants.{Refuse, Put, Keep, Stop}
use Rattle.analysis.specs.Values.{Facts, value_of, operand_of}
use Rattle.analysis.specs.Effects.{is_never, is_mixed, reading, reading_both, put, Role, copies, converts, adds, subtracts, calculates, role, calculate, sum, difference, arithmetic, limit, load, store_at, store, told, fork, exit, effect}
use Rattle.analysis.specs.Judged.{having, along, Flow, refuses, flows, apply}
use Rattle.analysis.specs.Sharper.{SharperNumber, SharperValue, SharperFacts, SharperComing, SharperThere, SharperFlow, OfNumbers, OfRole, Calculating, SomeResult, TellsMore, PossibleValue, PossibleFacts}
use Rattle.analysis.proofs.Literal.{along_possible, along_excluded, limit_grows}
use Rattle.analysis.proofs.SharperValues.{exact_itself, value_sharper, having_sharper, with_operand_sharper}
use Rattle.analysis.proofs.Sound.{WordOperand, Words, wide}

-- ---- numbers
computed_sharper : (w : ℕ) → (w ≡ 64) ⊎ (w ≡ 32) → (op : Operation) (a' b' a b : Number) → SharperNumber a' a → SharperNumber b' b
    → NoneEmpty w op a' b'
    → SharperNumber (computed w op a' b') (computed w op a b)
computed_sharper w ww op a' b' a b h k n =
    record {
      narrower = computed_narrower w ww op a' b' a b h.sharper_form k.sharper_form h.form k.form h.narrower k.narrower n;
      sharper_form = computed_form w ww op a' b' h.sharper_form k.sharper_form;
      form = computed_form w ww op a b h.form k.form;
    }

-- what says no less than a number is one, and so of an address
of_number : (P : Value → Type 0) (n : Number) → ((n' : Number) → SharperNumber n' n → P (Plain n')) → (v : Value) → SharperValue v (Plain n)
    → P v
of_number P n f (Unusable Never) s = absurd s
of_number P n f (Unusable Mixed) s = absurd s
of_number P n f (Plain m) s = f m s
of_number P n f (Address p m) s = absurd s

of_address : (P : Value → Type 0) (q : Region) (n : Number) → ((n' : Number) → SharperNumber n' n → P (Address q n')) → (v : Value)
    → SharperValue v (Address q n) → P v
of_address P q n f (Unusable Never) s = absurd s
of_address P q n f (Unusable Mixed) s = absurd s
of_address P q n f (Plain m) s = absurd s
of_address P q n f (Address p m) s = rw s.0 (f m s.1)

-- what may be used where less is known may be used
usable_stays : (x' x : Value) → SharperValue x' x → is_never x ≡ false → is_mixed x ≡ false → (is_never x' ≡ false) × (is_mixed x' ≡ false)
unfolding is_never is_mixed
usable_stays x' (Unusable Never) s p q = absurd (let e : ◌≡◌ {A = ℕ} 0 1 = cc in omega arith)
usable_stays x' (Unusable Mixed) s p q = absurd (let e : ◌≡◌ {A = ℕ} 0 1 = cc in omega arith)
usable_stays x' (Plain n) s p q = of_number (λ v. (is_never v ≡ false) × (is_mixed v ≡ false)) n (λ n' k. (refl, refl)) x' s
usable_stays x' (Address t n) s p q = of_address (λ v. (is_never v ≡ false) × (is_mixed v ≡ false)) t n (λ n' k. (refl, refl)) x' s

neither : (p q : Bool) → (p || q) ≡ false → (p ≡ false) × (q ≡ false)
neither true q e = (e, absurd (let z : ◌≡◌ {A = ℕ} 0 1 = cc in omega arith))
neither false q e = (refl, e)

abbrev Forms : Number → Number → Type 0
Forms x y = Well 64 x.bits × Well 64 y.bits

told_form : (w : Width) (c : Comparison) (way : Bool) (m n : Number) → Well 64 m.bits → Well 64 n.bits → Left (told w c way m n) Forms
unfolding told
told_form Long = refined_form
told_form Short = refined32_form

told_in_order : (w : Width) (c : Comparison) (way : Bool) (m' n' m n : Number) → Well 64 m'.bits → Well 64 n'.bits → Well 64 m.bits
    → Well 64 n.bits
    → Narrower m' m → Narrower n' n → LeavesNoMore (told w c way m' n') (told w c way m n)
unfolding told
told_in_order Long = refined_in_order
told_in_order Short = refined32_in_order

there : (o' o : Option Facts) (target : ℕ) → SharperComing o' o → SharperThere o' target o target
there None o target h = tt
there (Some a') None target h = h
there (Some a') (Some a) target h = (h, refl)

module _ (a' a : Facts) (h : SharperFacts a' a) where
  -- ---- what is read, and what is written
  put_sharper : (d : ℕ) (v' v : Value) → SharperValue v' v → SharperFlow (apply a' (put d v')) (apply a (put d v))
  unfolding put apply
  put_sharper d v' v k = go (eqb d 10)
    where
      go : (b : Bool) → SharperFlow (apply a' (cond b (Refuse WritesR10) (Put d v'))) (apply a (cond b (Refuse WritesR10) (Put d v)))
      go true = tt
      go false = (having_sharper a' a h d v' v k, tt)

  -- nothing is said where less is known and it is refused
  unless_refused : (f : Flow) (e : Effect) (p q : Bool) → (p ≡ false → q ≡ false → SharperFlow f (apply a e))
      → SharperFlow f (apply a (cond p (Refuse ReadsUnset) (cond q (Refuse LeaksAddress) e)))
  unfolding apply
  unless_refused (refuses r) e true q k = tt
  unless_refused (flows n t j) e true q k = tt
  unless_refused (refuses r) e false true k = tt
  unless_refused (flows n t j) e false true k = tt
  unless_refused f e false false k = k refl refl

  says_nothing : (f : Flow) (r : Reason) → SharperFlow f (refuses r)
  says_nothing (refuses s) r = tt
  says_nothing (flows n t j) r = tt

  reading_sharper : (x' x : Value) (e' e : Effect) → SharperValue x' x → SharperFlow (apply a' e') (apply a e)
      → SharperFlow (apply a' (reading x' e')) (apply a (reading x e))
  unfolding reading
  reading_sharper x' x e' e s k =
      unless_refused (apply a' (reading x' e')) e (is_never x) (is_mixed x)
      (λ p q. let u = usable_stays x' x s p q in rw (u.0, u.1) k)

  reading_both_sharper : (x' y' x y : Value) (e' e : Effect) → SharperValue x' x → SharperValue y' y → SharperFlow (apply a' e') (apply a e)
      → SharperFlow (apply a' (reading_both x' y' e')) (apply a (reading_both x y e))
  unfolding reading_both
  reading_both_sharper x' y' x y e' e s t k =
      unless_refused (apply a' (reading_both x' y' e')) e (is_never x || is_never y) (is_mixed x || is_mixed y)
      (λ p q.
      let n = neither (is_never x) (is_never y) p in
      let m = neither (is_mixed x) (is_mixed y) q in
      let u = usable_stays x' x s n.0 m.0 in
      let v = usable_stays y' y t n.1 m.1 in
      rw (u.0, v.0, u.1, v.1) k)

  -- ---- arithmetic
  calculate_sharper : (w : ℕ) → (w ≡ 64) ⊎ (w ≡ 32) → (op : Operation) (d : ℕ) (x' y' x y : Value) → SharperValue x' x → SharperValue y' y
      → OfNumbers NoneEmpty w op x' y'
      → SharperFlow (apply a' (calculate w op d x' y')) (apply a (calculate w op d x y))
  unfolding calculate apply
  calculate_sharper w ww op d x' y' (Unusable g) y s t i = says_nothing (apply a' (calculate w op d x' y')) LeaksAddress
  calculate_sharper w ww op d x' y' (Address p m) y s t i = says_nothing (apply a' (calculate w op d x' y')) LeaksAddress
  calculate_sharper w ww op d x' y' (Plain m) (Unusable g) s t i = says_nothing (apply a' (calculate w op d x' y')) LeaksAddress
  calculate_sharper w ww op d x' y' (Plain m) (Address q n) s t i = says_nothing (apply a' (calculate w op d x' y')) LeaksAddress
  calculate_sharper w ww op d x' y' (Plain m) (Plain n) s t i =
      let P : Value → Value → Type 0 = λ u v. OfNumbers NoneEmpty w op u v → SharperFlow (apply a' (calculate w op d u v))
      (apply a (calculate w op d (Plain m) (Plain n))) in
      of_number (λ u. P u y') m
      (λ m' k. of_number (P (Plain m')) n (λ n' l e. put_sharper d _ _ (computed_sharper w ww op m' n' m n k l e)) y' t) x' s i

  sum_sharper : (d : ℕ) (x' y' x y : Value) → SharperValue x' x → SharperValue y' y → OfNumbers NoneEmpty 64 Add x' y'
      → SharperFlow (apply a' (sum d x' y')) (apply a (sum d x y))
  unfolding sum apply
  sum_sharper d x' y' (Unusable g) y s t i = says_nothing (apply a' (sum d x' y')) LeaksAddress
  sum_sharper d x' y' (Plain m) (Unusable g) s t i = says_nothing (apply a' (sum d x' y')) LeaksAddress
  sum_sharper d x' y' (Address p m) (Unusable g) s t i = says_nothing (apply a' (sum d x' y')) LeaksAddress
  sum_sharper d x' y' (Address p m) (Address q n) s t i = says_nothing (apply a' (sum d x' y')) LeaksAddress
  sum_sharper d x' y' (Plain m) (Plain n) s t i =
      let P : Value → Value → Type 0 = λ u v. OfNumbers NoneEmpty 64 Add u v → SharperFlow (apply a' (sum d u v))
      (apply a (sum d (Plain m) (Plain n))) in
      of_number (λ u. P u y') m
      (λ m' k. of_number (P (Plain m')) n (λ n' l e. put_sharper d _ _ (computed_sharper 64 (inl refl) Add m' n' m n k l e)) y' t) x' s i
  sum_sharper d x' y' (Plain m) (Address q n) s t i =
      let P : Value → Value → Type 0 = λ u v. OfNumbers NoneEmpty 64 Add u v → SharperFlow (apply a' (sum d u v))
      (apply a (sum d (Plain m) (Address q n))) in
      of_number (λ u. P u y') m
      (λ m' k. of_address (P (Plain m')) q n (λ n' l e. put_sharper d _ _
      (refl, computed_sharper 64 (inl refl) Add n' m' n m l k e)) y' t) x' s i
  sum_sharper d x' y' (Address p m) (Plain n) s t i =
      let P : Value → Value → Type 0 = λ u v. OfNumbers NoneEmpty 64 Add u v → SharperFlow (apply a' (sum d u v))
      (apply a (sum d (Address p m) (Plain n))) in
      of_address (λ u. P u y') p m
      (λ m' k. of_number (P (Address p m')) n (λ n' l e. put_sharper d _ _
      (refl, computed_sharper 64 (inl refl) Add m' n' m n k l e)) y' t) x' s i

  difference_sharper : (d : ℕ) (x' y' x y : Value) → SharperValue x' x → SharperValue y' y → OfNumbers NoneEmpty 64 Sub x' y'
      → SharperFlow (apply a' (difference d x' y')) (apply a (difference d x y))
  unfolding difference apply
  difference_sharper d x' y' (Unusable g) y s t i = says_nothing (apply a' (difference d x' y')) LeaksAddress
  difference_sharper d x' y' (Plain m) (Unusable g) s t i = says_nothing (apply a' (difference d x' y')) LeaksAddress
  difference_sharper d x' y' (Plain m) (Address q n) s t i = says_nothing (apply a' (difference d x' y')) LeaksAddress
  difference_sharper d x' y' (Address p m) (Unusable g) s t i = says_nothing (apply a' (difference d x' y')) LeaksAddress
  difference_sharper d x' y' (Address p m) (Address q n) s t i = says_nothing (apply a' (difference d x' y')) LeaksAddress
  difference_sharper d x' y' (Plain m) (Plain n) s t i =
      let P : Value → Value → Type 0 = λ u v. OfNumbers NoneEmpty 64 Sub u v → SharperFlow (apply a' (difference d u v))
      (apply a (difference d (Plain m) (Plain n))) in
      of_number (λ u. P u y') m
      (λ m' k. of_number (P (Plain m')) n (λ n' l e. put_sharper d _ _ (computed_sharper 64 (inl refl) Sub m' n' m n k l e)) y' t) x' s i
  difference_sharper d x' y' (Address p m) (Plain n) s t i =
      let P : Value → Value → Type 0 = λ u v. OfNumbers NoneEmpty 64 Sub u v → SharperFlow (apply a' (difference d u v))
      (apply a (difference d (Address p m) (Plain n))) in
      of_address (λ u. P u y') p m
      (λ m' k. of_number (P (Address p m')) n (λ n' l e. put_sharper d _ _
      (refl, computed_sharper 64 (inl refl) Sub m' n' m n k l e)) y' t) x' s i

  arithmetic_sharper : (e : Role) (w : ℕ) → (w ≡ 64) ⊎ (w ≡ 32) → (op : Operation) (d : ℕ) (x' y' x y : Value) → SharperValue x' x
      → SharperValue y' y
      → OfRole NoneEmpty e w op x' y' → SharperFlow (apply a' (arithmetic e w op d x' y')) (apply a (arithmetic e w op d x y))
  unfolding arithmetic
  arithmetic_sharper copies w ww op d x' y' x y s t i = reading_sharper y' y _ _ t (put_sharper d y' y t)
  arithmetic_sharper converts w ww op d x' y' x y s t i = reading_sharper y' y _ _ t (calculate_sharper w ww op d y' y' y y t t i)
  arithmetic_sharper adds w ww op d x' y' x y s t i = reading_both_sharper x' y' x y _ _ s t (sum_sharper d x' y' x y s t i)
  arithmetic_sharper subtracts w ww op d x' y' x y s t i = reading_both_sharper x' y' x y _ _ s t (difference_sharper d x' y' x y s t i)
  arithmetic_sharper calculates w ww op d x' y' x y s t i =
      reading_both_sharper x' y' x y _ _ s t (calculate_sharper w ww op d x' y' x y s t i)

  -- ---- jumps
  leaves_sharper : (r' r : Refined) → LeavesNoMore r' r → Left r' Forms → Left r Forms → (d : ℕ) (s : Operand)
      → SharperComing (along a' d s r') (along a d s r)
  leaves_sharper None r l f' f d s = rw (along_excluded a' d s) tt
  leaves_sharper (Some (x', y')) None l f' f d s = absurd l
  leaves_sharper (Some (x', y')) (Some (x, y)) l f' f d s =
      rw (along_possible a' d s x' y', along_possible a d s x y)
      (with_operand_sharper (having a' d (Plain x')) (having a d (Plain x))
      (having_sharper a' a h d (Plain x') (Plain x) (record { narrower = l.0; sharper_form = f'.0; form = f.0 })) s (Plain y') (Plain y)
      (record { narrower = l.1; sharper_form = f'.1; form = f.1 }))

  fork_sharper : (w : Width) (c : Comparison) (d : ℕ) (o : Operand) (target : ℕ) (x' y' x y : Value) → SharperValue x' x → SharperValue y' y
      → SharperFlow (apply a' (fork w c d o target x' y')) (apply a (fork w c d o target x y))
  unfolding fork apply
  fork_sharper w c d o target x' y' (Unusable g) y s t = says_nothing (apply a' (fork w c d o target x' y')) LeaksAddress
  fork_sharper w c d o target x' y' (Address p m) y s t = says_nothing (apply a' (fork w c d o target x' y')) LeaksAddress
  fork_sharper w c d o target x' y' (Plain m) (Unusable g) s t = says_nothing (apply a' (fork w c d o target x' y')) LeaksAddress
  fork_sharper w c d o target x' y' (Plain m) (Address q n) s t = says_nothing (apply a' (fork w c d o target x' y')) LeaksAddress
  fork_sharper w c d o target x' y' (Plain m) (Plain n) s t =
      let P : Value → Value → Type 0 = λ u v. SharperFlow (apply a' (fork w c d o target u v))
      (apply a (fork w c d o target (Plain m) (Plain n))) in
      of_number (λ u. P u y') m
      (λ m' k. of_number (P (Plain m')) n
      (λ n' l. (
        way m' n' k l false,
        there (along a' d o (told w c true m' n')) (along a d o (told w c true m n)) target (way m' n' k l true),
      )) y' t) x' s
    where
      way : (m' n' : Number) → SharperNumber m' m → SharperNumber n' n → (b : Bool)
          → SharperComing (along a' d o (told w c b m' n')) (along a d o (told w c b m n))
      way m' n' k l b =
          leaves_sharper (told w c b m' n') (told w c b m n)
          (told_in_order w c b m' n' m n k.sharper_form l.sharper_form k.form l.form k.narrower l.narrower)
          (told_form w c b m' n' k.sharper_form l.sharper_form) (told_form w c b m n k.form l.form) d o

  exit_sharper : (x' x : Value) → SharperValue x' x → SharperFlow (apply a' (exit x')) (apply a (exit x))
  unfolding exit apply
  exit_sharper x' (Unusable g) s = says_nothing (apply a' (exit x')) LeaksAddress
  exit_sharper x' (Address p m) s = says_nothing (apply a' (exit x')) LeaksAddress
  exit_sharper x' (Plain m) s = of_number (λ u. SharperFlow (apply a' (exit u)) (apply a Stop)) m (λ m' k. (tt, tt)) x' s

-- ---- memory
-- fewer bytes are a smaller number
loaded_sharper : (k' k : ℕ) → k' ≤ k → k ≤ 8 → SharperNumber (loaded k') (loaded k)
unfolding loaded everything
loaded_sharper k' k l h =
    let n : 2 ^ (8 * k') ≤ 2 ^ (8 * k) = pow_mono {i = 8 * k'} {j = 8 * k} (omega arith) in
    record {
      narrower = record {
        bits = among_inside 64 (2 ^ (8 * k') - 1) (2 ^ (8 * k) - 1)
            (ones_cover_all_below (8 * k) (2 ^ (8 * k') - 1) (omega (arith, pow_pos (8 * k'))));
        range = record { low = omega arith; high = omega arith };
      };
      sharper_form = (loaded_in k' (omega arith) 0 (pow_pos (8 * k'))).form;
      form = (loaded_in k h 0 (pow_pos (8 * k))).form;
    }

-- what fits where less is known fits
fits_stays : (n' n : Number) (size' size m' m : ℕ) → Narrower n' n → size' ≤ size → m ≤ m' → fits n size m ≡ true → fits n' size' m' ≡ true
fits_stays n' n size' size m' m h l k t = (fits_exactly n' size' m').1 (omega (arith, (fits_exactly n size m).0 t, h.range.high))

module _ (a' a : Facts) (h : SharperFacts a' a) (R S : ℕ) (longer : R ≤ S) (off : ℕ) (word : off < 2 ^ 64) where
  moved_sharper : (m' m : Number) → SharperNumber m' m → NoneEmpty 64 Add m' (exact off)
      → SharperNumber (computed 64 Add m' (exact off)) (computed 64 Add m (exact off))
  moved_sharper m' m k e = computed_sharper 64 (inl refl) Add m' (exact off) m (exact off) k (exact_itself off word) e

  -- where less is known the access is allowed, so it is where more is known
  if_it_fits : (n' n : Number) (size' size m' m : ℕ) (e' e : Effect) → Narrower n' n → size' ≤ size → m ≤ m'
      → SharperFlow (apply a' e') (apply a e)
      → SharperFlow (apply a' (cond (fits n' size' m') e' (Refuse Outside))) (apply a (cond (fits n size m) e (Refuse Outside)))
  unfolding apply
  if_it_fits n' n size' size m' m e' e k l g s = go (fits n size m) refl
    where
      go : (t : Bool) → fits n size m ≡ t
          → SharperFlow (apply a' (cond (fits n' size' m') e' (Refuse Outside))) (apply a (cond t e (Refuse Outside)))
      go true q = rw (fits_stays n' n size' size m' m k l g q) s
      go false q = says_nothing a' a h (apply a' (cond (fits n' size' m') e' (Refuse Outside))) Outside

  load_sharper : (size' size d : ℕ) → size' ≤ size → size ≤ 8 → (x' x : Value) → SharperValue x' x
      → OfNumbers NoneEmpty 64 Add x' (Plain (exact off))
      → SharperFlow (apply a' (load S size' d off x')) (apply a (load R size d off x))
  unfolding load apply
  load_sharper size' size d l g x' (Unusable r) s i = says_nothing a' a h (apply a' (load S size' d off x')) Outside
  load_sharper size' size d l g x' (Plain m) s i = says_nothing a' a h (apply a' (load S size' d off x')) Outside
  load_sharper size' size d l g x' (Address p m) s i =
      of_address (λ u. OfNumbers NoneEmpty 64 Add u (Plain (exact off)) → SharperFlow (apply a' (load S size' d off u))
      (apply a (load R size d off (Address p m)))) p m
      (λ m' k e. if_it_fits _ _ size' size (limit S p) (limit R p) _ _ (moved_sharper m' m k e).narrower l (limit_grows R S longer p)
      (put_sharper a' a h d (Plain (loaded size')) (Plain (loaded size)) (loaded_sharper size' size l g))) x' s i

  store_at_sharper : (size : ℕ) (x' x : Value) → SharperValue x' x → OfNumbers NoneEmpty 64 Add x' (Plain (exact off))
      → SharperFlow (apply a' (store_at size off x')) (apply a (store_at size off x))
  unfolding store_at apply
  store_at_sharper size x' (Unusable r) s i = says_nothing a' a h (apply a' (store_at size off x')) Outside
  store_at_sharper size x' (Plain m) s i = says_nothing a' a h (apply a' (store_at size off x')) Outside
  store_at_sharper size x' (Address Record m) s i = says_nothing a' a h (apply a' (store_at size off x')) Outside
  store_at_sharper size x' (Address Stack m) s i =
      of_address (λ u. OfNumbers NoneEmpty 64 Add u (Plain (exact off)) → SharperFlow (apply a' (store_at size off u))
      (apply a (store_at size off (Address Stack m)))) Stack m
      (λ m' k e. if_it_fits _ _ size size 512 512 Keep Keep (moved_sharper m' m k e).narrower (omega arith) (omega arith) (h, tt)) x' s i

  store_sharper : (size : ℕ) (x' y' x y : Value) → SharperValue x' x → SharperValue y' y → OfNumbers NoneEmpty 64 Add x' (Plain (exact off))
      → SharperFlow (apply a' (store size off x' y')) (apply a (store size off x y))
  unfolding store apply
  store_sharper size x' y' x (Unusable g) s t i = says_nothing a' a h (apply a' (store size off x' y')) LeaksAddress
  store_sharper size x' y' x (Address q n) s t i = says_nothing a' a h (apply a' (store size off x' y')) LeaksAddress
  store_sharper size x' y' x (Plain n) s t i =
      of_number (λ v. SharperFlow (apply a' (store size off x' v)) (apply a (store_at size off x))) n
      (λ n' k. store_at_sharper size x' x s i) y' t

-- ---- every instruction
operand_sharper : (a' a : Facts) → SharperFacts a' a → (o : Operand) → WordOperand o → SharperValue (operand_of a' o) (operand_of a o)
unfolding operand_of
operand_sharper a' a h (Immediate n) w = exact_itself n w
operand_sharper a' a h (Register r) w = value_sharper a' a h r

pub size_at_most_8 : (z : Size) → bytes z ≤ 8
unfolding bytes
size_at_most_8 One = omega arith
size_at_most_8 Two = omega arith
size_at_most_8 Four = omega arith
size_at_most_8 Eight = omega arith

-- a load of fewer bytes at the same place tells more
pub load_of_fewer_bytes_tells_more : (R S i : ℕ) → R ≤ S → (z' z : Size) (d r off : ℕ) → off < 2 ^ 64 → bytes z' ≤ bytes z
    → TellsMore R S i (Load z' d r off) (Load z d r off)
unfolding effect
load_of_fewer_bytes_tells_more R S i l z' z d r off ok fewer a' a h p =
    let s = value_sharper a' a h r in
    reading_sharper a' a h _ _ _ _ s (load_sharper a' a h R S l off ok (bytes z') (bytes z) d fewer (size_at_most_8 z) _ _ s p)

-- an instruction tells no less than itself, whatever more is known, and with a longer record
pub same_tells_more : (R S i : ℕ) → R ≤ S → (ins : Instruction) → Words ins → TellsMore R S i ins ins
unfolding effect apply
same_tells_more R S i l (Alu w op d o) ok a' a h p =
    arithmetic_sharper a' a h (role w op) (bits w) (wide w) op d _ _ _ _ (value_sharper a' a h d) (operand_sharper a' a h o ok) p
same_tells_more R S i l (Neg w d) ok a' a h p =
    let s = value_sharper a' a h d in reading_sharper a' a h _ _ _ _ s
    (calculate_sharper a' a h (bits w) (wide w) operation.Neg d _ _ _ _ s s p)
same_tells_more R S i l (Jump w c d o off) ok a' a h p =
    let s = value_sharper a' a h d in
    let t = operand_sharper a' a h o ok in
    reading_both_sharper a' a h _ _ _ _ _ _ s t (fork_sharper a' a h w c d o (i + 1 + off) _ _ _ _ s t)
same_tells_more R S i l (Always off) ok a' a h p = (tt, (h, refl))
same_tells_more R S i l Exit ok a' a h p = let s = value_sharper a' a h 0 in reading_sharper a' a h _ _ _ _ s (exit_sharper a' a h _ _ s)
same_tells_more R S i l (Load z d r off) ok a' a h p = load_of_fewer_bytes_tells_more R S i l z z d r off ok (omega arith) a' a h p
same_tells_more R S i l (Store z d off o) ok a' a h p =
    let s = value_sharper a' a h d in
    let t = operand_sharper a' a h o ok.1 in
    reading_both_sharper a' a h _ _ _ _ _ _ s t (store_sharper a' a h R S l off ok.0 (bytes z) _ _ _ _ s t p)
same_tells_more R S i l NoInstruction ok a' a h p = tt

-- ---- where every Number has a number every result has one
some_result : (w : ℕ) → (w ≡ 64) ⊎ (w ≡ 32) → (op : Operation) (a b : Number) → (x : ℕ) × In a x → (y : ℕ) × In b y → SomeResult w op a b
some_result w ww op a b i j = let r = (computed_sound w ww op a b i.0 j.0 i.1 j.1).range in le_trans r.low r.high

results : (w : ℕ) → (w ≡ 64) ⊎ (w ≡ 32) → (op : Operation) (x y : Value) → PossibleValue x → PossibleValue y → OfNumbers SomeResult w op x y
results w ww op (Unusable g) y i j = tt
results w ww op (Plain a) (Unusable h) i j = tt
results w ww op (Plain a) (Plain b) i j = some_result w ww op a b i j
results w ww op (Plain a) (Address q b) i j = some_result w ww op b a j i
results w ww op (Address p a) (Unusable h) i j = tt
results w ww op (Address p a) (Plain b) i j = some_result w ww op a b i j
results w ww op (Address p a) (Address q b) i j = tt

results_by_role : (e : Role) (w : ℕ) → (w ≡ 64) ⊎ (w ≡ 32) → (op : Operation) (x y : Value) → PossibleValue x → PossibleValue y
    → OfRole SomeResult e w op x y
results_by_role copies w ww op x y i j = tt
results_by_role converts w ww op x y i j = results w ww op y y j j
results_by_role adds w ww op x y i j = results 64 (inl refl) Add x y i j
results_by_role subtracts w ww op x y i j = results 64 (inl refl) Sub x y i j
results_by_role calculates w ww op x y i j = results w ww op x y i j

possible_operand : (a : Facts) → PossibleFacts a → (o : Operand) → WordOperand o → PossibleValue (operand_of a o)
unfolding operand_of
possible_operand a p (Immediate n) w = (n, exact_in n w)
possible_operand a p (Register r) w = p.each r

pub possible_has_results : (a : Facts) (ins : Instruction) → Words ins → PossibleFacts a → Calculating SomeResult a ins
possible_has_results a (Alu w op d o) ok p =
    results_by_role (role w op) (bits w) (wide w) op (value_of a d) (operand_of a o) (p.each d) (possible_operand a p o ok)
possible_has_results a (Neg w d) ok p = results (bits w) (wide w) operation.Neg (value_of a d) (value_of a d) (p.each d) (p.each d)
possible_has_results a (Jump w c d o off) ok p = tt
possible_has_results a (Always off) ok p = tt
possible_has_results a Exit ok p = tt
possible_has_results a (Load z d r off) ok p =
    results 64 (inl refl) Add (value_of a r) (Plain (exact off)) (p.each r) (off, exact_in off ok)
possible_has_results a (Store z d off o) ok p =
    results 64 (inl refl) Add (value_of a d) (Plain (exact off)) (p.each d) (off, exact_in off ok.0)
possible_has_results a NoInstruction ok p = tt
