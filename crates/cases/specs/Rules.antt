-- Document 01, 'Worked instances': what may be said of a text, in terms of what the public operations promise.
use Rattle.std.specs.Prelude.{◌≡◌, Result, List, ℕ, ◌≤◌, ◌<◌, ℤ, length, get_or}
use Rattle.instance.specs.Limits.{term_room, row_room}
use Rattle.instance.specs.Tables.{objectives_in}
use Rattle.reading.specs.Answers.{read_number, read_value, read_answer, read_terms, read_rows}
use Rattle.points.specs.Fronts.{Candidate}
use Rattle.blocks.specs.Fields.{u16_at}
use Rattle.files.specs.Layout.{block_at}
use Rattle.files.specs.Written.{WrittenAs, written_number, written_value}
use Rattle.files.specs.declared.errors.WriteFileError.{WriteFileError}
use Rattle.front.specs.Listing.{room, values_left, models_left}
use Rattle.front.specs.Answers.{listed_number, listed_value, ListedAs}
use Rattle.front.specs.declared.errors.ListError.{ListError}

-- What the document expects of a text.
pub data Expected : Type 0 where
  -- Reading refuses it: the refusal's number, and the statement's.
  refuses : ℕ → ℕ → Expected
  -- Listing is done: the number of variables, and the points.
  lists : ℕ → List Candidate → Expected
  -- Listing refuses for room (11): the number of variables, and the points that are listed.
  cuts : ℕ → List Candidate → Expected
  -- The file of its front: the number of bytes, and the check of each block.
  files : ℕ → List ℕ → Expected

-- Whatever tables with their room are lent, reading the text answers this number and this value.
abbrev pub Reads : List ℕ → ℕ → ℕ → Type 0
Reads text number value = (ts rs : List ℤ) → term_room ≤ length ts → row_room ≤ length rs → (read_number (read_answer text ts rs) ≡ number) × (read_value (read_answer text ts rs) ≡ value)

-- Whatever tables the text was read into, and whatever runs with room for so many points are lent: each answer that listing's contract allows of
-- the tables that reading left has this number and the number of these points, and the runs then begin with these points.
abbrev pub Listings : List ℕ → ℕ → ℕ → List Candidate → Type 0
Listings text most number xs =
    (ts rs : List ℤ) → term_room ≤ length ts → row_room ≤ length rs → (vs : List ℤ) (ms : List ℕ) → room vs ms ≡ most → (vs' : List ℤ) (ms' : List ℕ) (r : Result ℕ ListError)
    → ListedAs (read_terms text ts rs) (read_rows text ts rs) vs ms vs' ms' r
    → (listed_number r ≡ number) × (listed_value r ≡ length xs) × (vs' ≡ values_left xs vs) × (ms' ≡ models_left xs ms)

-- Reading is done, and listing answers and leaves this.
pub record Lists (text : List ℕ) (most number n : ℕ) (xs : List Candidate) : Type 0 where
  pub reads : Reads text 0 n
  pub listings : Listings text most number xs

-- Whatever tables the text was read into, and whatever runs with room for so many points its front was listed into: each answer that the contract
-- of writing a file allows of the points that listing left, with an output of enough bytes, is done with the number of bytes, and leaves the
-- check of each block. A byte that is left is below 256.
abbrev pub Files : List ℕ → ℕ → ℕ → List ℕ → Type 0
Files text most bytes checks =
    (ts rs : List ℤ) → term_room ≤ length ts → row_room ≤ length rs → (vs : List ℤ) (ms : List ℕ) → room vs ms ≡ most → (vs' : List ℤ) (ms' : List ℕ) (l : Result ℕ ListError)
    → ListedAs (read_terms text ts rs) (read_rows text ts rs) vs ms vs' ms' l
    → (found left : List ℕ) → bytes ≤ length found → ((i : ℕ) → get_or left i 0 < 256) → (r : Result ℕ WriteFileError)
    → WrittenAs (objectives_in (read_rows text ts rs)) (read_value (read_answer text ts rs)) (listed_value l) vs' ms' found left r
    → (written_number r ≡ 0) × (written_value r ≡ bytes) × ((b : ℕ) → b < length checks → u16_at (block_at left b) 0 ≡ get_or checks b 0)

-- What is expected of a text with room for so many points holds.
abbrev pub HoldsAs : List ℕ → ℕ → Expected → Type 0
HoldsAs text most (refuses k s) = Reads text k s
HoldsAs text most (lists n xs) = Lists text most 0 n xs
HoldsAs text most (cuts n xs) = Lists text most 11 n xs
HoldsAs text most (files bytes checks) = Files text most bytes checks
