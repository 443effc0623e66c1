-- The laws of `read_bytes` and `write_bytes`: what is read after a write, what a write leaves alone, and a read or a write in two
-- parts.
use Rattle.std.proofs.Common.{◌≡◌, ℕ, zero, suc, ◌+◌, ◌*◌, ◌/◌, ◌%◌, ◌^◌, ◌<◌, ◌≤◌, List, [], ◌∷◌, length, get_or, set, sym, refl, ap, ◌∙◌, ap₂, add-zero, suc-add, zero-add, div-one, arith, lit<, length-set, get_or-set_other, get_or-set_same, pow_pos, pow-add}
use native.Mathlib.Nat.{mod-one, pow-succ', div-div-eq-div-mul}
use lib.Arith.{mod-mul}
use Rattle.word.specs.Word.{read_bytes, write_bytes}

pub bytes_pow : (n : ℕ) → 256 ^ n ≡ 2 ^ (8 * n)
bytes_pow zero = refl
bytes_pow (suc n) =
    pow-succ' 256 n ∙ ap (λ (x : ℕ). 256 * x) (bytes_pow n) ∙ sym (pow-add 2 8 (8 * n)) ∙ ap (λ (k : ℕ). 2 ^ k) (omega arith)

-- ---- what a write leaves alone

pub write_length : (n : ℕ) (m : List ℕ) (i x : ℕ) → length (write_bytes n m i x) ≡ length m
unfolding write_bytes
write_length zero m i x = refl
write_length (suc n) m i x = write_length n (set m i (x % 256)) (i + 1) (x / 256) ∙ length-set m i (x % 256)

pub write_keeps_below : (n : ℕ) (m : List ℕ) (i x j : ℕ) → j < i → get_or (write_bytes n m i x) j 0 ≡ get_or m j 0
unfolding write_bytes
write_keeps_below zero m i x j h = refl
write_keeps_below (suc n) m i x j h =
    write_keeps_below n (set m i (x % 256)) (i + 1) (x / 256) j (omega arith)
    ∙ get_or-set_other m i j (x % 256) 0 (λ e. omega arith)

pub write_keeps_above : (n : ℕ) (m : List ℕ) (i x j : ℕ) → i + n ≤ j → get_or (write_bytes n m i x) j 0 ≡ get_or m j 0
unfolding write_bytes
write_keeps_above zero m i x j h = refl
write_keeps_above (suc n) m i x j h =
    write_keeps_above n (set m i (x % 256)) (i + 1) (x / 256) j (omega arith)
    ∙ get_or-set_other m i j (x % 256) 0 (λ e. omega arith)

-- ---- bytes are below 256, and n of them spell a number of 8 n bits

set_keeps_bytes : (m : List ℕ) (i b : ℕ) → b < 256 → ((j : ℕ) → get_or m j 0 < 256) → (j : ℕ) → get_or (set m i b) j 0 < 256
set_keeps_bytes [] i b hb h j = h j
set_keeps_bytes (_ ∷ m) zero b hb h zero = hb
set_keeps_bytes (_ ∷ m) zero b hb h (suc j) = h (suc j)
set_keeps_bytes (_ ∷ m) (suc i) b hb h zero = h zero
set_keeps_bytes (_ ∷ m) (suc i) b hb h (suc j) = set_keeps_bytes m i b hb (λ k. h (suc k)) j

pub write_keeps_bytes : (n : ℕ) (m : List ℕ) (i x : ℕ) → ((j : ℕ) → get_or m j 0 < 256) → (j : ℕ) → get_or (write_bytes n m i x) j 0 < 256
unfolding write_bytes
write_keeps_bytes zero m i x h = h
write_keeps_bytes (suc n) m i x h =
    write_keeps_bytes n (set m i (x % 256)) (i + 1) (x / 256) (set_keeps_bytes m i (x % 256) (omega arith) h)

pub read_below : (n : ℕ) (m : List ℕ) (i : ℕ) → ((j : ℕ) → get_or m j 0 < 256) → read_bytes n m i < 2 ^ (8 * n)
unfolding read_bytes
read_below zero m i h = lit< tt
read_below (suc n) m i h = omega (arith, h i, read_below n m (i + 1) h, bytes_pow n, bytes_pow (suc n), pow-succ' 256 n)

-- ---- two lists with the same bytes there

pub read_same : (n : ℕ) (m m' : List ℕ) (i : ℕ) → ((j : ℕ) → i ≤ j → j < i + n → get_or m j 0 ≡ get_or m' j 0) → read_bytes n m i ≡ read_bytes n m' i
unfolding read_bytes
read_same zero m m' i h = refl
read_same (suc n) m m' i h =
    ap₂ (λ (x y : ℕ). x + 256 * y) (h i (omega arith) (omega arith))
    (read_same n m m' (i + 1) (λ j a b. h j (omega arith) (omega arith)))

pub read_before_write : (k n : ℕ) (m : List ℕ) (i j x : ℕ) → j + k ≤ i → read_bytes k (write_bytes n m i x) j ≡ read_bytes k m j
read_before_write k n m i j x h = read_same k _ m j (λ t a b. write_keeps_below n m i x t (omega arith))

pub read_past_write : (k n : ℕ) (m : List ℕ) (i j x : ℕ) → i + n ≤ j → read_bytes k (write_bytes n m i x) j ≡ read_bytes k m j
read_past_write k n m i j x h = read_same k _ m j (λ t a b. write_keeps_above n m i x t (omega arith))

-- ---- what is read after a write

byte_and_rest : (n x : ℕ) → x % 2 ^ (8 * suc n) ≡ (x / 256 % 2 ^ (8 * n)) * 256 + x % 256
byte_and_rest n x =
    let e : 8 * suc n ≡ 8 * n + 8 = omega arith in
    ap (λ (k : ℕ). x % 2 ^ k) e ∙ ap (λ (k : ℕ). x % k) (pow-add 2 (8 * n) 8) ∙ mod-mul x (pow_pos (8 * n)) (lit< tt)

pub read_written : (n : ℕ) (m : List ℕ) (i x : ℕ) → i + n ≤ length m → read_bytes n (write_bytes n m i x) i ≡ x % 2 ^ (8 * n)
unfolding read_bytes write_bytes
read_written zero m i x h = sym (mod-one x)
read_written (suc n) m i x h =
    let m' = set m i (x % 256) in
    ap₂ (λ (b y : ℕ). b + 256 * y)
    (write_keeps_below n m' (i + 1) (x / 256) i (omega arith) ∙ get_or-set_same m i (x % 256) 0 (omega arith))
    (read_written n m' (i + 1) (x / 256) (simp length-set (omega arith)))
    ∙ omega (arith, byte_and_rest n x)

pub written_byte : (n : ℕ) (m : List ℕ) (i x k : ℕ) → i + n ≤ length m → k < n → get_or (write_bytes n m i x) (i + k) 0 ≡ x / 256 ^ k % 256
unfolding write_bytes
written_byte zero m i x k h l = absurd (omega arith)
written_byte (suc n) m i x zero h l =
    rw (add-zero i, div-one x)
    (write_keeps_below n (set m i (x % 256)) (i + 1) (x / 256) i (omega arith) ∙ get_or-set_same m i (x % 256) 0 (omega arith))
written_byte (suc n) m i x (suc k) h l =
    let e : i + suc k ≡ i + 1 + k = omega arith in
    rw (e, pow-succ' 256 k, ← div-div-eq-div-mul x 256 (256 ^ k))
    (written_byte n (set m i (x % 256)) (i + 1) (x / 256) k (simp length-set (omega arith)) (omega arith))

-- ---- in two parts

pub read_splits : (a b : ℕ) (m : List ℕ) (i : ℕ) → read_bytes (a + b) m i ≡ read_bytes a m i + 256 ^ a * read_bytes b m (i + a)
unfolding read_bytes
read_splits zero b m i = rw (zero-add b, add-zero i) (omega arith)
read_splits (suc a) b m i =
    let e : i + 1 + a ≡ i + suc a = omega arith in
    rw (suc-add a b, pow-succ' 256 a, read_splits a b m (i + 1), e) (omega arith)

pub write_splits : (a b : ℕ) (m : List ℕ) (i x : ℕ) → write_bytes (a + b) m i x ≡ write_bytes b (write_bytes a m i x) (i + a) (x / 256 ^ a)
unfolding write_bytes
write_splits zero b m i x = rw (zero-add b, add-zero i, div-one x)
write_splits (suc a) b m i x =
    let e : i + 1 + a ≡ i + suc a = omega arith in
    rw (suc-add a b, write_splits a b (set m i (x % 256)) (i + 1) (x / 256), e, div-div-eq-div-mul x 256 (256 ^ a), pow-succ' 256 a)
