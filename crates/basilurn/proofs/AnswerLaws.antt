-- Two answers that a contract of the C boundary allows are equal, and so is what they leave: each follows from the operation under it.
-- Memory holds bytes: that is what `Bytes` says. Reading text has equations for its contract, and nothing to show.
use mathlib.Core.Path.{◌≡◌, sym, ap, ◌∙◌}
use mathlib.Core.List.{List}
use Prim.Native.Nat.{ℕ}
use lib.IntN.{ℤ}
use Rattle.std.specs.Prelude.{Result}
use Rattle.writing.specs.declared.errors.WriteError.{WriteError}
use Rattle.writing.specs.Answers.{written_number, written_value}
use Rattle.writing.proofs.AnswerLaws.{written-unique}
use Rattle.judge.specs.declared.judging.Judgement.{Judgement}
use Rattle.judge.specs.declared.errors.JudgeError.{JudgeError}
use Rattle.judge.specs.Answers.{answer_of}
use Rattle.judge.proofs.AnswerLaws.{judged-unique}
use Rattle.blocks.proofs.ByteLaws.{Bytes}
use Rattle.front.specs.declared.errors.ListError.{ListError}
use Rattle.front.specs.Answers.{listed_number, listed_value}
use Rattle.front.proofs.AnswerLaws.{listed-unique}
use Rattle.files.specs.declared.errors.WriteFileError.{WriteFileError}
use Rattle.files.specs.declared.errors.ReadFileError.{ReadFileError}
use Rattle.files.specs.declared.read.FileHead.{FileHead}
use Rattle.files.specs.Written.{written_number as filedNumber, written_value as filedValue}
use Rattle.files.specs.Taken.{answer_of as takenAnswer}
use Rattle.files.proofs.AnswerLaws.{written-unique as filed-unique, read-unique as taken-unique}
use Rattle.basilurn.specs.Words.{packed}
use Rattle.basilurn.specs.Texts.{PackedWritten}
use Rattle.basilurn.specs.Judgements.{PackedJudged}
use Rattle.basilurn.specs.Listed.{PackedListed}
use Rattle.basilurn.specs.Filed.{taken_value, head_numbers, PackedFiled, PackedTaken}

-- ---- writing text
pub packed-written-unique : {ts rs : List ℤ} {found left left' : List ℕ} {r r' : ℕ} → PackedWritten ts rs found left r → PackedWritten ts rs found left' r' → (r ≡ r') × (left ≡ left')
packed-written-unique {ts} {rs} {found} {left} {left'} x y =
    let same = written-unique ts rs found left left' x.answer y.answer x.allowed y.allowed in
    (x.word ∙ (ap (λ (a : Result ℕ WriteError). packed (written_number a) (written_value a)) same.0 ∙ sym y.word), same.1)

-- ---- judging
pub packed-judged-unique : {ts rs : List ℤ} {a : ℕ} {vs vs' : List ℤ} {r r' : ℕ} → PackedJudged ts rs a vs r → PackedJudged ts rs a vs' r' → (r ≡ r') × (vs ≡ vs')
packed-judged-unique {ts} {rs} {a} x y =
    let same = judged-unique ts rs a x.answer y.answer x.allowed y.allowed in
    (x.word ∙ (ap (λ (j : Result Judgement JudgeError). packed (answer_of j).number (answer_of j).row) same ∙ sym y.word), x.values_are ∙ (ap (λ (j : Result Judgement JudgeError). (answer_of j).values) same ∙ sym y.values_are))

-- ---- listing
pub packed-listed-unique : {ts rs vs vs' vs'' : List ℤ} {ms ms' ms'' : List ℕ} {r r' : ℕ} → PackedListed ts rs vs ms vs' ms' r → PackedListed ts rs vs ms vs'' ms'' r' → (r ≡ r') × ((vs' ≡ vs'') × (ms' ≡ ms''))
packed-listed-unique {ts} {rs} {vs} {vs'} {vs''} {ms} {ms'} {ms''} x y =
    let same = listed-unique ts rs vs ms x.answer y.answer vs' vs'' ms' ms'' x.allowed y.allowed in
    (x.word ∙ (ap (λ (a : Result ℕ ListError). packed (listed_number a) (listed_value a)) same.0 ∙ sym y.word), (same.1, same.2))

-- ---- writing a file
pub packed-filed-unique : {o n p : ℕ} {vs : List ℤ} {ms found left left' : List ℕ} {r r' : ℕ}
    → PackedFiled o n p vs ms found left r → PackedFiled o n p vs ms found left' r' → Bytes left → Bytes left' → (r ≡ r') × (left ≡ left')
packed-filed-unique {o} {n} {p} {vs} {ms} {found} {left} {left'} x y h l =
    let same = filed-unique o n p vs ms found left left' x.answer y.answer x.allowed y.allowed h l in
    (x.word ∙ (ap (λ (a : Result ℕ WriteFileError). packed (filedNumber a) (filedValue a)) same.0 ∙ sym y.word), same.1)

-- ---- reading a file
pub packed-taken-unique : {f : List ℕ} {vs vs' vs'' : List ℤ} {ms ms' ms'' head head' : List ℕ} {r r' : ℕ}
    → PackedTaken f vs ms vs' ms' head r → PackedTaken f vs ms vs'' ms'' head' r' → (r ≡ r') × ((head ≡ head') × ((vs' ≡ vs'') × (ms' ≡ ms'')))
packed-taken-unique {f} {vs} {vs'} {vs''} {ms} {ms'} {ms''} x y =
    let same = taken-unique f vs vs' vs'' ms ms' ms'' x.answer y.answer x.allowed y.allowed in (
      x.word ∙ (ap (λ (a : Result FileHead ReadFileError). packed (takenAnswer a).number (taken_value a)) same.0 ∙ sym y.word),
      (x.head_is ∙ (ap head_numbers same.0 ∙ sym y.head_is), same.1),
    )
