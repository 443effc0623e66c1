-- Values and states in words. Each is a function from the words to what they stand for, so that no word has to be as it should.
use Rattle.std.specs.Prelude.{◌≡◌, cond, ◌⊎◌, List, [], ◌∷◌, ℕ, zero, suc, ◌+◌, ◌*◌, ◌≤◌, ◌<◌, length, get_or, eqb, Option, Some, None}
use Rattle.number.specs.declared.Number.{Number}
use Rattle.number.specs.Sharpen.{exact}
use Rattle.analysis.specs.declared.Region.TheVariants.{Record, Stack}
use Rattle.analysis.specs.declared.Gone.TheVariants.{Never, Mixed}
use Rattle.analysis.specs.declared.Value.{Value}
use Rattle.analysis.specs.declared.Value.TheVariants.{Unusable, Plain, Address}
use Rattle.analysis.specs.Values.{Facts}
use Rattle.waiting.specs.declared.value.Kind.{Kind}
use Rattle.waiting.specs.declared.value.Kind.TheVariants as kind
use Rattle.waiting.specs.declared.value.Held.{Held}
use Rattle.waiting.specs.Layout.{value_words, state_words}

-- ---- a value: what kind it is, and a Number

-- a kind by its word: any other than these four is an address into the stack
unfoldable pub kind_of : ℕ → Kind
kind_of word =
    cond (eqb word 0) kind.Unset
    (cond (eqb word 1) kind.Mixed
    (cond (eqb word 2) kind.Plain
    (cond (eqb word 3) kind.Record
    kind.Stack)))

unfoldable pub word_of : Kind → ℕ
word_of kind.Unset = 0
word_of kind.Mixed = 1
word_of kind.Plain = 2
word_of kind.Record = 3
word_of kind.Stack = 4

unfoldable pub of_kind : Kind → Number → Value
of_kind kind.Unset n = Unusable Never
of_kind kind.Mixed n = Unusable Mixed
of_kind kind.Plain n = Plain n
of_kind kind.Record n = Address Record n
of_kind kind.Stack n = Address Stack n

unfoldable pub held_in : Held → Value
held_in h = of_kind h.kind h.number

-- what is known of a register that is unset
unfoldable pub unset : Held
unset = record { kind = kind.Unset; number = exact 0 }

-- the five words at `at`
unfoldable pub held_at : List ℕ → ℕ → Held
held_at m at =
    record {
      kind = kind_of (get_or m at 0);
      number = record {
        bits = record { value = get_or m (at + 1) 0; mask = get_or m (at + 2) 0 };
        range = record { lo = get_or m (at + 3) 0; hi = get_or m (at + 4) 0 };
      };
    }

-- the kind of what covers two values: unset absorbs mixed, and mixed is what kinds that differ have in common
unfoldable pub joined_kind : Kind → Kind → Kind
joined_kind kind.Unset v = kind.Unset
joined_kind kind.Mixed kind.Unset = kind.Unset
joined_kind kind.Mixed kind.Mixed = kind.Mixed
joined_kind kind.Mixed kind.Plain = kind.Mixed
joined_kind kind.Mixed kind.Record = kind.Mixed
joined_kind kind.Mixed kind.Stack = kind.Mixed
joined_kind kind.Plain kind.Unset = kind.Unset
joined_kind kind.Plain kind.Mixed = kind.Mixed
joined_kind kind.Plain kind.Plain = kind.Plain
joined_kind kind.Plain kind.Record = kind.Mixed
joined_kind kind.Plain kind.Stack = kind.Mixed
joined_kind kind.Record kind.Unset = kind.Unset
joined_kind kind.Record kind.Mixed = kind.Mixed
joined_kind kind.Record kind.Plain = kind.Mixed
joined_kind kind.Record kind.Record = kind.Record
joined_kind kind.Record kind.Stack = kind.Mixed
joined_kind kind.Stack kind.Unset = kind.Unset
joined_kind kind.Stack kind.Mixed = kind.Mixed
joined_kind kind.Stack kind.Plain = kind.Mixed
joined_kind kind.Stack kind.Record = kind.Mixed
joined_kind kind.Stack kind.Stack = kind.Stack

-- ---- a state: eleven values

unfoldable pub values_at : ℕ → List ℕ → ℕ → List Value
values_at zero m at = []
values_at (suc k) m at = held_in (held_at m at) ∷ values_at k m (at + value_words)

unfoldable pub facts_at : List ℕ → ℕ → Facts
facts_at m at = record { registers = values_at 11 m at }

-- ---- values that are one number, as far as a routine says so

abbrev pub IsSingle : Option ℕ → Value → Type 0
IsSingle None u = Unit {0}
IsSingle (Some x) u = u ≡ Plain (exact x)

abbrev pub AreSingle : Option (ℕ × ℕ) → Value → Value → Type 0
AreSingle None u v = Unit {0}
AreSingle (Some (x, y)) u v = (u ≡ Plain (exact x)) × (v ≡ Plain (exact y))

-- ---- what routines on these words do: m before, m' after

-- the five words at `at` are h, and the others are as they were
pub record Wrote (m m' : List ℕ) (at : ℕ) (h : Held) : Type 0 where
  pub size : length m' ≡ length m
  pub held : held_at m' at ≡ h
  pub word : get_or m' at 0 ≡ word_of h.kind
  pub others : (i : ℕ) → (i < at) ⊎ (at + value_words ≤ i) → get_or m' i 0 ≡ get_or m i 0

-- they hold the value v, and the others are as they were
pub record Holds (m m' : List ℕ) (at : ℕ) (v : Value) : Type 0 where
  pub size : length m' ≡ length m
  pub held : held_in (held_at m' at) ≡ v
  pub others : (i : ℕ) → (i < at) ⊎ (at + value_words ≤ i) → get_or m' i 0 ≡ get_or m i 0

-- the words of register d of the state at `at` are h, and the others are as they were; there is no register from 11 on
pub record Changed (m m' : List ℕ) (at d : ℕ) (h : Held) : Type 0 where
  pub size : length m' ≡ length m
  pub held : d < 11 → held_at m' (at + value_words * d) ≡ h
  pub others : (i : ℕ) → (i < at + value_words * d) ⊎ (at + value_words * d + value_words ≤ i) → get_or m' i 0 ≡ get_or m i 0
  pub outside : 11 ≤ d → m' ≡ m

-- as Changed, and the first of the words is word_of the kind of h, and no other word that kind_of reads as this kind
pub record PutRegister (m m' : List ℕ) (at d : ℕ) (h : Held) : Type 0 where
  pub changed : Changed m m' at d h
  pub word : d < 11 → get_or m' (at + value_words * d) 0 ≡ word_of h.kind

-- the words of register d of the state at `at` are w, and the others are as they were; there is no register from 11 on
pub record PutBack (m m' : List ℕ) (at d : ℕ) (w : List ℕ) : Type 0 where
  pub size : length m' ≡ length m
  pub words : d < 11 → (k : ℕ) → k < value_words → get_or m' (at + value_words * d + k) 0 ≡ get_or w k 0
  pub others : (i : ℕ) → (i < at + value_words * d) ⊎ (at + value_words * d + value_words ≤ i) → get_or m' i 0 ≡ get_or m i 0
  pub outside : 11 ≤ d → m' ≡ m

-- the words at `at` hold the facts a, and the others are as they were
pub record Stored (m m' : List ℕ) (at : ℕ) (a : Facts) : Type 0 where
  pub size : length m' ≡ length m
  pub held : facts_at m' at ≡ a
  pub others : (i : ℕ) → (i < at) ⊎ (at + state_words ≤ i) → get_or m' i 0 ≡ get_or m i 0

-- nothing is known of any register
unfoldable pub nothing_known : Facts
nothing_known =
    record {
      registers = Unusable Never ∷ Unusable Never ∷ Unusable Never ∷ Unusable Never ∷ Unusable Never ∷ Unusable Never ∷ Unusable Never
          ∷ Unusable Never ∷ Unusable Never ∷ Unusable Never ∷ Unusable Never ∷ [];
    }
