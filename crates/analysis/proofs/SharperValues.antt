-- What is known of registers, in the order of what is known: joins, and what is written or learnt.
use mathlib.Core.Path.{◌≡◌, refl, sym, ◌∙◌}
use mathlib.Core.List.{List, [], ◌∷◌}
use Prim.Native.Nat.{ℕ, zero, suc, ◌^◌, ◌<◌}
use native.Mathlib.Omega.{arith}
use lib.Dec.{lit<}
use lib.ListN.{length, get_or, set}
use Rattle.std.specs.Prelude.{Option, Some, None}
use Rattle.machine.specs.declared.instruction.Operand.{Operand}
use Rattle.machine.specs.declared.instruction.Operand.TheVariants.{Immediate, Register}
use Rattle.known_bits.specs.KnownBits.{Well}
use Rattle.number.specs.declared.Number.{Number}
use Rattle.number.specs.Meaning.{Narrower}
use Rattle.number.specs.Sharpen.{exact, joined_number}
use Rattle.number.proofs.Laws.{exact_in, joined_in_order, joined_form, joined_wider_left, joined_wider_right}
use Rattle.analysis.specs.declared.Region.{Region}
use Rattle.analysis.specs.declared.Region.TheVariants.{Record, Stack}
use Rattle.analysis.specs.declared.Gone.TheVariants.{Never, Mixed}
use Rattle.analysis.specs.declared.Value.{Value}
use Rattle.analysis.specs.declared.Value.TheVariants.{Unusable, Plain, Address}
use Rattle.analysis.specs.Values.{Facts, value_of, start_facts, same_region, joined_gone, joined_value, joined_values, joined_facts}
use Rattle.analysis.specs.Judged.{having, with_operand}
use Rattle.analysis.specs.Promise.{together}
use Rattle.analysis.proofs.Eleven.{Eleven}
use Rattle.analysis.specs.Sharper.{SharperNumber, SharperValue, SharperAll, SharperFacts, SharperComing}

-- ---- numbers
pub number_itself : (n : Number) → Well 64 n.bits → SharperNumber n n
number_itself n g =
    record { narrower = record { bits = λ x m. m; range = record { low = omega arith; high = omega arith } }; sharper_form = g; form = g }

pub exact_itself : (n : ℕ) → n < 2 ^ 64 → SharperNumber (exact n) (exact n)
exact_itself n h = number_itself (exact n) (exact_in n h).form

-- that join
narrower_then : (a b c : Number) → Narrower a b → Narrower b c → Narrower a c
narrower_then a b c h k =
    record {
      bits = λ x m. k.bits x (h.bits x m);
      range = record {
        low = omega (arith, h.range.low, k.range.low);
        high = omega
            (arith, h.range.high, k.range.high);
      };
    }

module _ (m n : Number) (h : SharperNumber m n) where
  number_left : (k : Number) → SharperNumber m (joined_number n k)
  number_left k =
      record {
        narrower = narrower_then m n (joined_number n k) h.narrower
            (joined_wider_left n k h.form);
        sharper_form = h.sharper_form;
        form = joined_form n k;
      }

  number_right : (k : Number) → SharperNumber m (joined_number k n)
  number_right k =
      record {
        narrower = narrower_then m n (joined_number k n) h.narrower
            (joined_wider_right k n h.form);
        sharper_form = h.sharper_form;
        form = joined_form k n;
      }

numbers_joined : (a' b' a b : Number) → SharperNumber a' a → SharperNumber b' b → SharperNumber (joined_number a' b') (joined_number a b)
numbers_joined a' b' a b h k =
    record {
      narrower = joined_in_order a' b' a b h.sharper_form k.sharper_form h.form k.form h.narrower k.narrower;
      sharper_form = joined_form a' b';
      form = joined_form a b;
    }

-- ---- values that join
sharper_than_unset : (v : Value) → SharperValue v (Unusable Never)
sharper_than_unset (Unusable Never) = tt
sharper_than_unset (Unusable Mixed) = tt
sharper_than_unset (Plain n) = tt
sharper_than_unset (Address p n) = tt

-- what is set says more than that it is
abbrev IsSet : Value → Type 0
IsSet v = SharperValue v (Unusable Mixed)

set_as_number : (v : Value) (n : Number) → SharperValue v (Plain n) → IsSet v
set_as_number (Unusable Never) n h = h
set_as_number (Unusable Mixed) n h = tt
set_as_number (Plain m) n h = tt
set_as_number (Address p m) n h = tt

set_as_address : (v : Value) (q : Region) (n : Number) → SharperValue v (Address q n) → IsSet v
set_as_address (Unusable Never) q n h = h
set_as_address (Unusable Mixed) q n h = tt
set_as_address (Plain m) q n h = tt
set_as_address (Address p m) q n h = tt

set_in_region : (p q : Region) (n : Number) → IsSet (same_region p q n)
unfolding same_region
set_in_region Record Record n = tt
set_in_region Record Stack n = tt
set_in_region Stack Record n = tt
set_in_region Stack Stack n = tt

sets_join : (u v : Value) → IsSet u → IsSet v → IsSet (joined_value u v)
unfolding joined_value joined_gone
sets_join (Unusable Never) v h k = absurd h
sets_join (Unusable Mixed) (Unusable Never) h k = absurd k
sets_join (Unusable Mixed) (Unusable Mixed) h k = tt
sets_join (Unusable Mixed) (Plain n) h k = tt
sets_join (Unusable Mixed) (Address q n) h k = tt
sets_join (Plain m) (Unusable Never) h k = absurd k
sets_join (Plain m) (Unusable Mixed) h k = tt
sets_join (Plain m) (Plain n) h k = tt
sets_join (Plain m) (Address q n) h k = tt
sets_join (Address p m) (Unusable Never) h k = absurd k
sets_join (Address p m) (Unusable Mixed) h k = tt
sets_join (Address p m) (Plain n) h k = tt
sets_join (Address p m) (Address q n) h k = set_in_region p q (joined_number m n)

regions_join : (p q : Region) (n' n : Number) → SharperNumber n' n → SharperValue (same_region p q n') (same_region p q n)
unfolding same_region
regions_join Record Record n' n h = (refl, h)
regions_join Record Stack n' n h = tt
regions_join Stack Record n' n h = tt
regions_join Stack Stack n' n h = (refl, h)

region_left : (p q r : Region) (m n : Number) → p ≡ q → SharperNumber m n → SharperValue (Address p m) (same_region q r n)
unfolding same_region
region_left p Record Record m n e h = (e, h)
region_left p Record Stack m n e h = tt
region_left p Stack Record m n e h = tt
region_left p Stack Stack m n e h = (e, h)

region_right : (p q r : Region) (m n : Number) → p ≡ r → SharperNumber m n → SharperValue (Address p m) (same_region q r n)
unfolding same_region
region_right p Record Record m n e h = (e, h)
region_right p Record Stack m n e h = tt
region_right p Stack Record m n e h = tt
region_right p Stack Stack m n e h = (e, h)

value_left : (v u w : Value) → SharperValue v u → SharperValue v (joined_value u w)
unfolding joined_value joined_gone
value_left v (Unusable Never) (Unusable h) k = sharper_than_unset v
value_left v (Unusable Never) (Plain b) k = sharper_than_unset v
value_left v (Unusable Never) (Address q b) k = sharper_than_unset v
value_left v (Unusable Mixed) (Unusable Never) k = sharper_than_unset v
value_left v (Unusable Mixed) (Unusable Mixed) k = k
value_left v (Unusable Mixed) (Plain b) k = k
value_left v (Unusable Mixed) (Address q b) k = k
value_left v (Plain a) (Unusable Never) k = sharper_than_unset v
value_left v (Plain a) (Unusable Mixed) k = set_as_number v a k
value_left (Unusable Never) (Plain a) (Plain b) k = absurd k
value_left (Unusable Mixed) (Plain a) (Plain b) k = absurd k
value_left (Plain m) (Plain a) (Plain b) k = number_left m a k b
value_left (Address p m) (Plain a) (Plain b) k = absurd k
value_left v (Plain a) (Address q b) k = set_as_number v a k
value_left v (Address r a) (Unusable Never) k = sharper_than_unset v
value_left v (Address r a) (Unusable Mixed) k = set_as_address v r a k
value_left v (Address r a) (Plain b) k = set_as_address v r a k
value_left (Unusable Never) (Address r a) (Address q b) k = absurd k
value_left (Unusable Mixed) (Address r a) (Address q b) k = absurd k
value_left (Plain m) (Address r a) (Address q b) k = absurd k
value_left (Address p m) (Address r a) (Address q b) k = region_left p r q m (joined_number a b) k.0 (number_left m a k.1 b)

value_right : (v u w : Value) → SharperValue v w → SharperValue v (joined_value u w)
unfolding joined_value joined_gone
value_right v (Unusable Never) (Unusable h) k = sharper_than_unset v
value_right v (Unusable Never) (Plain b) k = sharper_than_unset v
value_right v (Unusable Never) (Address q b) k = sharper_than_unset v
value_right v (Unusable Mixed) (Unusable h) k = k
value_right v (Unusable Mixed) (Plain b) k = set_as_number v b k
value_right v (Unusable Mixed) (Address q b) k = set_as_address v q b k
value_right v (Plain a) (Unusable h) k = k
value_right (Unusable Never) (Plain a) (Plain b) k = absurd k
value_right (Unusable Mixed) (Plain a) (Plain b) k = absurd k
value_right (Plain m) (Plain a) (Plain b) k = number_right m b k a
value_right (Address p m) (Plain a) (Plain b) k = absurd k
value_right v (Plain a) (Address q b) k = set_as_address v q b k
value_right v (Address r a) (Unusable h) k = k
value_right v (Address r a) (Plain b) k = set_as_number v b k
value_right (Unusable Never) (Address r a) (Address q b) k = absurd k
value_right (Unusable Mixed) (Address r a) (Address q b) k = absurd k
value_right (Plain m) (Address r a) (Address q b) k = absurd k
value_right (Address p m) (Address r a) (Address q b) k = region_right p r q m (joined_number a b) k.0 (number_right m b k.1 a)

values_join : (u' v' u v : Value) → SharperValue u' u → SharperValue v' v → SharperValue (joined_value u' v') (joined_value u v)
unfolding joined_value joined_gone
values_join u' v' (Unusable Never) (Unusable g) h k = sharper_than_unset (joined_value u' v')
values_join u' v' (Unusable Never) (Plain n) h k = sharper_than_unset (joined_value u' v')
values_join u' v' (Unusable Never) (Address q n) h k = sharper_than_unset (joined_value u' v')
values_join u' v' (Unusable Mixed) (Unusable Never) h k = sharper_than_unset (joined_value u' v')
values_join u' v' (Unusable Mixed) (Unusable Mixed) h k = sets_join u' v' h k
values_join u' v' (Unusable Mixed) (Plain n) h k = sets_join u' v' h (set_as_number v' n k)
values_join u' v' (Unusable Mixed) (Address q n) h k = sets_join u' v' h (set_as_address v' q n k)
values_join u' v' (Plain m) (Unusable Never) h k = sharper_than_unset (joined_value u' v')
values_join u' v' (Plain m) (Unusable Mixed) h k = sets_join u' v' (set_as_number u' m h) k
values_join (Unusable Never) v' (Plain m) (Plain n) h k = absurd h
values_join (Unusable Mixed) v' (Plain m) (Plain n) h k = absurd h
values_join (Plain a) (Unusable Never) (Plain m) (Plain n) h k = absurd k
values_join (Plain a) (Unusable Mixed) (Plain m) (Plain n) h k = absurd k
values_join (Plain a) (Plain b) (Plain m) (Plain n) h k = numbers_joined a b m n h k
values_join (Plain a) (Address q b) (Plain m) (Plain n) h k = absurd k
values_join (Address p a) v' (Plain m) (Plain n) h k = absurd h
values_join u' v' (Plain m) (Address q n) h k = sets_join u' v' (set_as_number u' m h) (set_as_address v' q n k)
values_join u' v' (Address p m) (Unusable Never) h k = sharper_than_unset (joined_value u' v')
values_join u' v' (Address p m) (Unusable Mixed) h k = sets_join u' v' (set_as_address u' p m h) k
values_join u' v' (Address p m) (Plain n) h k = sets_join u' v' (set_as_address u' p m h) (set_as_number v' n k)
values_join (Unusable Never) v' (Address p m) (Address q n) h k = absurd h
values_join (Unusable Mixed) v' (Address p m) (Address q n) h k = absurd h
values_join (Plain a) v' (Address p m) (Address q n) h k = absurd h
values_join (Address r a) (Unusable Never) (Address p m) (Address q n) h k = absurd k
values_join (Address r a) (Unusable Mixed) (Address p m) (Address q n) h k = absurd k
values_join (Address r a) (Plain b) (Address p m) (Address q n) h k = absurd k
values_join (Address r a) (Address s b) (Address p m) (Address q n) h k =
    rw (h.0, k.0) (regions_join p q (joined_number a b) (joined_number m n) (numbers_joined a b m n h.1 k.1))

-- ---- registers
pub sharper_get : (us vs : List Value) (r : ℕ) → SharperAll us vs → SharperValue (get_or us r (Unusable Never)) (get_or vs r (Unusable Never))
sharper_get [] [] r h = tt
sharper_get [] (v ∷ vs) r h = absurd h
sharper_get (u ∷ us) [] r h = absurd h
sharper_get (u ∷ us) (v ∷ vs) zero h = h.0
sharper_get (u ∷ us) (v ∷ vs) (suc r) h = sharper_get us vs r h.1

sharper_set : (us vs : List Value) (d : ℕ) (u v : Value) → SharperAll us vs → SharperValue u v → SharperAll (set us d u) (set vs d v)
sharper_set [] [] d x y h k = tt
sharper_set [] (v ∷ vs) d x y h k = absurd h
sharper_set (u ∷ us) [] d x y h k = absurd h
sharper_set (u ∷ us) (v ∷ vs) zero x y h k = (k, h.1)
sharper_set (u ∷ us) (v ∷ vs) (suc d) x y h k = (h.0, sharper_set us vs d x y h.1 k)

sharper_joined : (us' vs' us vs : List Value) → SharperAll us' us → SharperAll vs' vs
    → SharperAll (joined_values us' vs') (joined_values us vs)
unfolding joined_values
sharper_joined [] vs' [] vs h k = tt
sharper_joined [] vs' (u ∷ us) vs h k = absurd h
sharper_joined (u' ∷ us') vs' [] vs h k = absurd h
sharper_joined (u' ∷ us') [] (u ∷ us) [] h k = tt
sharper_joined (u' ∷ us') [] (u ∷ us) (v ∷ vs) h k = absurd k
sharper_joined (u' ∷ us') (v' ∷ vs') (u ∷ us) [] h k = absurd k
sharper_joined (u' ∷ us') (v' ∷ vs') (u ∷ us) (v ∷ vs) h k =
    (values_join u' v' u v h.0 k.0, sharper_joined us' vs' us vs h.1 k.1)

-- of lists of as many values, since a join has as many as the shorter
sharper_left : (us' us vs : List Value) → length us ≡ length vs → SharperAll us' us → SharperAll us' (joined_values us vs)
unfolding joined_values
sharper_left [] [] vs e h = tt
sharper_left [] (u ∷ us) vs e h = absurd h
sharper_left (u' ∷ us') [] vs e h = absurd h
sharper_left (u' ∷ us') (u ∷ us) [] e h = absurd (omega (arith, e))
sharper_left (u' ∷ us') (u ∷ us) (v ∷ vs) e h = (value_left u' u v h.0, sharper_left us' us vs (omega (arith, e)) h.1)

sharper_right : (vs' us vs : List Value) → length us ≡ length vs → SharperAll vs' vs → SharperAll vs' (joined_values us vs)
unfolding joined_values
sharper_right [] [] vs e h = tt
sharper_right [] (u ∷ us) [] e h = tt
sharper_right [] (u ∷ us) (v ∷ vs) e h = absurd h
sharper_right (v' ∷ vs') [] [] e h = absurd h
sharper_right (v' ∷ vs') [] (v ∷ vs) e h = absurd (omega (arith, e))
sharper_right (v' ∷ vs') (u ∷ us) [] e h = absurd h
sharper_right (v' ∷ vs') (u ∷ us) (v ∷ vs) e h = (value_right v' u v h.0, sharper_right vs' us vs (omega (arith, e)) h.1)

module _ (a' a : Facts) (h : SharperFacts a' a) where
  pub value_sharper : (r : ℕ) → SharperValue (value_of a' r) (value_of a r)
  unfolding value_of
  value_sharper r = sharper_get a'.registers a.registers r h.registers

  pub having_sharper : (d : ℕ) (v' v : Value) → SharperValue v' v → SharperFacts (having a' d v') (having a d v)
  unfolding having
  having_sharper d v' v k = record { registers = sharper_set a'.registers a.registers d v' v h.registers k }

  pub with_operand_sharper : (s : Operand) (v' v : Value) → SharperValue v' v → SharperFacts (with_operand a' s v') (with_operand a s v)
  unfolding with_operand
  with_operand_sharper (Immediate n) v' v k = h
  with_operand_sharper (Register r) v' v k = having_sharper r v' v k

-- ---- where paths meet
module _ (w' o' w o : Option Facts) (ew : Eleven w) (eo : Eleven o) where
  pub together_sharper : SharperComing w' w → SharperComing o' o → SharperComing (together w' o') (together w o)
  unfolding together joined_facts
  together_sharper = go w' o' w o ew eo
    where
      go : (w' o' w o : Option Facts) → Eleven w → Eleven o → SharperComing w' w → SharperComing o' o
          → SharperComing (together w' o') (together w o)
      go None None w o ew eo h k = tt
      go None (Some b') w None ew eo h k = absurd k
      go None (Some b') None (Some b) ew eo h k = k
      go None (Some b') (Some a) (Some b) ew eo h k =
          record { registers = sharper_right b'.registers a.registers b.registers (ew ∙ sym eo) k.registers }
      go (Some a') None None o ew eo h k = absurd h
      go (Some a') None (Some a) None ew eo h k = h
      go (Some a') None (Some a) (Some b) ew eo h k =
          record { registers = sharper_left a'.registers a.registers b.registers (ew ∙ sym eo) h.registers }
      go (Some a') (Some b') None o ew eo h k = absurd h
      go (Some a') (Some b') (Some a) None ew eo h k = absurd k
      go (Some a') (Some b') (Some a) (Some b) ew eo h k =
          record { registers = sharper_joined a'.registers b'.registers a.registers b.registers h.registers k.registers }

-- at the start
pub start_sharper : SharperFacts start_facts start_facts
unfolding start_facts
start_sharper =
    record {
      registers = (
        tt,
        (
          (refl, exact_itself 0 (lit< tt)),
          (tt, (tt, (tt, (tt, (tt, (tt, (tt, (tt, ((refl, exact_itself 512 (lit< tt)), tt))))))))),
        ),
      );
    }
