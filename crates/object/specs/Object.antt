-- The fields of an ELF object, and what a section that holds a program is.
use Rattle.std.specs.Prelude.{◌≡◌, Bool, true, ◌&&◌, List, ℕ, ◌+◌, ◌*◌, ◌/◌, ◌%◌, ◌≤◌, ◌<◌, length, get_or, take, drop, ltb, eqb}
use Rattle.object.specs.declared.Section.{Section}

-- the number of 2, 4 and 8 bytes at an index, lowest byte first
unfoldable pub word16 : List ℕ → ℕ → ℕ
word16 file at = get_or file at 0 + 256 * get_or file (at + 1) 0

unfoldable pub word32 : List ℕ → ℕ → ℕ
word32 file at = word16 file at + 65536 * word16 file (at + 2)

unfoldable pub word64 : List ℕ → ℕ → ℕ
word64 file at = word32 file at + 4294967296 * word32 file (at + 4)

-- the header at h is of a section of program bytes (type 1) that may be executed (flag 4)
unfoldable pub executable : List ℕ → ℕ → Bool
executable file h = eqb (word32 file (h + 4)) 1 && eqb (word64 file (h + 8) / 4 % 2) 1

-- and the section is not empty
unfoldable pub coded : List ℕ → ℕ → Bool
coded file h = executable file h && ltb 0 (word64 file (h + 32))

-- the file's header, and count section headers of 64 bytes each from start on, lie in the file
pub record Listed (file : List ℕ) (start count : ℕ) : Type 0 where
  pub header : 64 ≤ length file
  pub inside : start + count * 64 ≤ length file
  pub place : start ≡ word64 file 40
  pub size : count ≡ word16 file 60

-- the bytes of the section with the header at h, which lie in the file
pub record Lies (file : List ℕ) (h : ℕ) (s : Section) : Type 0 where
  pub inside : s.start + s.length ≤ length file
  pub place : s.start ≡ word64 file (h + 24)
  pub count : s.length ≡ word64 file (h + 32)

-- the names are the bytes of the section whose number the file's header has
pub record Names (file names : List ℕ) : Type 0 where
  pub table : Section
  pub lies : Lies file (word64 file 40 + word16 file 62 * 64) table
  pub bytes : names ≡ take table.length (drop table.start file)

-- the bytes from start on are those of the section with this number
pub record Holds (file : List ℕ) (number start size : ℕ) : Type 0 where
  pub known : number < word16 file 60
  pub code : executable file (word64 file 40 + number * 64) ≡ true
  pub place : start ≡ word64 file (word64 file 40 + number * 64 + 24)
  pub count : size ≡ word64 file (word64 file 40 + number * 64 + 32)

-- there are bytes, they lie in the file, and they are an executable section's
pub record Code (file : List ℕ) (start size : ℕ) : Type 0 where
  pub inside : start + size ≤ length file
  pub some : 0 < size
  pub number : ℕ
  pub held : Holds file number start size
