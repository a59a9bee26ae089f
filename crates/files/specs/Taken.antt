-- Document 01, 'Refusal numbers' and 'Orders': what reading a file answers, and what it leaves.
use Rattle.std.specs.Prelude.{◌≡◌, Result, Ok, Err, List, ◌++◌, ℕ, ◌*◌, ◌%◌, ◌≤◌, ◌<◌, ℤ, length, drop}
use Rattle.points.specs.Lists.{Proper}
use Rattle.blocks.specs.Fields.{block_len}
use Rattle.files.specs.Limits.{max_file}
use Rattle.files.specs.Layout.{block_at, blocks_in, objectives_of, variables_of, points_of, values_in, models_in, BlockChecked, BlockFits}
use Rattle.files.specs.Structs.{head_of}
use Rattle.files.specs.declared.read.FileHead.{FileHead}
use Rattle.files.specs.declared.errors.ReadFileError.{ReadFileError}
use Rattle.files.specs.declared.errors.ReadFileError.TheVariants.{BadLength, BadCheck, BadLayout, NotProper, ShortOutput}

-- An answer by the document: its number (0 for done), the block, and objectives, n and points; what is not named is 0.
pub record Answer : Type 0 where
  pub number : ℕ
  pub block : ℕ
  pub objectives : ℕ
  pub variables : ℕ
  pub points : ℕ

-- A refusal that names a block, or none by 0.
abbrev pub refusal : ℕ → ℕ → Answer
refusal n b = record { number = n; block = b; objectives = 0; variables = 0; points = 0 }

-- The number of each refusal,
abbrev pub read_number : ReadFileError → ℕ
read_number BadLength = 15
read_number (BadCheck b) = 16
read_number (BadLayout b) = 17
read_number NotProper = 14
read_number ShortOutput = 13

-- and the block that it names.
abbrev pub read_block : ReadFileError → ℕ
read_block BadLength = 0
read_block (BadCheck b) = b
read_block (BadLayout b) = b
read_block NotProper = 0
read_block ShortOutput = 0

-- The number and the values of each case.
abbrev pub answer_of : Result FileHead ReadFileError → Answer
answer_of (Ok h) = record { number = 0; block = 0; objectives = h.objectives; variables = h.n; points = h.points }
answer_of (Err e) = refusal (read_number e) (read_block e)

-- The length is not 0, a multiple of 512, and at most 44,544.
pub record LengthFits (f : List ℕ) : Type 0 where
  pub some : 1 ≤ length f
  pub whole : length f % block_len ≡ 0
  pub most : length f ≤ max_file

-- Each block's check fits.
abbrev pub AllChecked : List ℕ → Type 0
AllChecked f = (b : ℕ) → b < blocks_in f → BlockChecked f b

-- Each block is laid out as it should be.
abbrev pub AllLaid : List ℕ → Type 0
AllLaid f = (b : ℕ) → b < blocks_in f → BlockFits f (blocks_in f) b

-- b is the lowest block of the file that P does not hold of.
pub record LowestNot (P : ℕ → Type 0) (f : List ℕ) (b : ℕ) : Type 0 where
  pub inside : b < blocks_in f
  pub fails : P b → ⊥
  pub below : (j : ℕ) → j < b → P j

-- The file's length, its checks and its layout are as they should be.
pub record Sound (f : List ℕ) : Type 0 where
  pub sized : LengthFits f
  pub checked : AllChecked f
  pub laid : AllLaid f

-- What checking a file answers: its head, or the refusal, each exactly where the document has it.
abbrev pub CheckedAs : List ℕ → Result FileHead ReadFileError → Type 0
CheckedAs f (Ok h) = (h ≡ head_of (block_at f 0)) × Sound f
CheckedAs f (Err BadLength) = LengthFits f → ⊥
CheckedAs f (Err (BadCheck b)) = LengthFits f × LowestNot (BlockChecked f) f b
CheckedAs f (Err (BadLayout b)) = LengthFits f × (AllChecked f × LowestNot (BlockFits f (blocks_in f)) f b)
CheckedAs f (Err NotProper) = ⊥
CheckedAs f (Err ShortOutput) = ⊥

-- What the head says, and the points.
abbrev pub points : List ℕ → ℕ
points f = points_of (block_at f 0)

-- The list in the file is proper.
abbrev pub ProperList : List ℕ → Type 0
ProperList f = Proper (objectives_of (block_at f 0)) (variables_of (block_at f 0)) (points f) (values_in f (points f)) (models_in f (points f))

-- Both runs have room for the points.
pub record Room (f : List ℕ) (vs : List ℤ) (ms : List ℕ) : Type 0 where
  pub values : points f * 4 ≤ length vs
  pub models : points f ≤ length ms

-- The runs with the points of the file at their beginning, the rest as found.
abbrev pub values_left : List ℕ → List ℤ → List ℤ
values_left f vs = values_in f (points f) ++ drop (points f * 4) vs

abbrev pub models_left : List ℕ → List ℕ → List ℕ
models_left f ms = models_in f (points f) ++ drop (points f) ms

module _ (f : List ℕ) (vs : List ℤ) (ms : List ℕ) (vs' : List ℤ) (ms' : List ℕ) (a : Answer) where
  -- Both runs are as found.
  pub record AsFound : Type 0 where
    pub values : vs' ≡ vs
    pub models : ms' ≡ ms

  -- 0: the file is sound, its list is proper and has room; the answer has the head's numbers, and the runs have the points.
  pub record ReadAll : Type 0 where
    pub answer : a ≡ record { number = 0; block = 0; objectives = objectives_of (block_at f 0); variables = variables_of (block_at f 0); points = points f }
    pub sound : Sound f
    pub proper : ProperList f
    pub room : Room f vs ms
    pub values : vs' ≡ values_left f vs
    pub models : ms' ≡ models_left f ms

  -- 15: the length is wrong.
  pub record RefusedLength : Type 0 where
    pub answer : a ≡ refusal 15 0
    pub wrong : LengthFits f → ⊥
    pub kept : AsFound

  -- 16: a check does not fit, at the lowest such block.
  pub record RefusedCheck : Type 0 where
    pub answer : a ≡ refusal 16 a.block
    pub sized : LengthFits f
    pub lowest : LowestNot (BlockChecked f) f a.block
    pub kept : AsFound

  -- 17: a block is not laid out as it should be; the lowest such block, and the head where the total is wrong.
  pub record RefusedLayout : Type 0 where
    pub answer : a ≡ refusal 17 a.block
    pub sized : LengthFits f
    pub checked : AllChecked f
    pub lowest : LowestNot (BlockFits f (blocks_in f)) f a.block
    pub kept : AsFound

  -- 14: the file is sound and its list is not proper.
  pub record RefusedProper : Type 0 where
    pub answer : a ≡ refusal 14 0
    pub sound : Sound f
    pub improper : ProperList f → ⊥
    pub kept : AsFound

  -- 13: the list is proper and one of the runs has no room for it.
  pub record RefusedRoom : Type 0 where
    pub answer : a ≡ refusal 13 0
    pub sound : Sound f
    pub proper : ProperList f
    pub short : Room f vs ms → ⊥
    pub kept : AsFound

-- What reading answers, and what it leaves of the runs found: each case exactly where the document has it.
abbrev pub ReadAs : List ℕ → List ℤ → List ℕ → List ℤ → List ℕ → Result FileHead ReadFileError → Type 0
ReadAs f vs ms vs' ms' (Ok h) = ReadAll f vs ms vs' ms' (answer_of (Ok h))
ReadAs f vs ms vs' ms' (Err BadLength) = RefusedLength f vs ms vs' ms' (answer_of (Err BadLength))
ReadAs f vs ms vs' ms' (Err (BadCheck b)) = RefusedCheck f vs ms vs' ms' (answer_of (Err (BadCheck b)))
ReadAs f vs ms vs' ms' (Err (BadLayout b)) = RefusedLayout f vs ms vs' ms' (answer_of (Err (BadLayout b)))
ReadAs f vs ms vs' ms' (Err NotProper) = RefusedProper f vs ms vs' ms' (answer_of (Err NotProper))
ReadAs f vs ms vs' ms' (Err ShortOutput) = RefusedRoom f vs ms vs' ms' (answer_of (Err ShortOutput))
