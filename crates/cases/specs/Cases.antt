-- Document 01, 'Worked instances': the proved cases P1 to P11, one table. The claim that covers them is `all-cases` in proofs/CaseLaws.antt.
use Rattle.std.specs.Prelude.{List, [], ◌∷◌, ℕ, ℤ, pos, negsuc}
use Prim.Native.String.{String}
use Rattle.points.specs.Limits.{max_points}
use Rattle.points.specs.Fronts.{Candidate}
use Rattle.cases.specs.Texts.{bytes, text_t}
use Rattle.cases.specs.Rules.{Expected, refuses, lists, cuts, files, HoldsAs}

-- A case: its number in the document, its text, the room for points, and what is expected.
pub record Case : Type 0 where
  pub number : ℕ
  pub text : List ℕ
  pub most : ℕ
  pub expected : Expected

-- The rule: what is expected holds.
abbrev pub Holds : Case → Type 0
Holds c = HoldsAs c.text c.most c.expected

-- A point of two values, and one of one value; the model is the assignment's number.
abbrev pub pair : ℤ → ℤ → ℕ → Candidate
pair a b model = record { vector = a ∷ b ∷ pos 0 ∷ pos 0 ∷ []; model = model }

abbrev pub single : ℤ → ℕ → Candidate
single a model = pair a (pos 0) model

-- The front of T: (1,4) by 2, (5,3) by 5.
abbrev pub points_t : List Candidate
points_t = pair (pos 1) (pos 4) 2 ∷ pair (pos 5) (pos 3) 5 ∷ []

-- An entry of the table.
abbrev pub case : ℕ → String → ℕ → Expected → Case
case number text most expected = record { number = number; text = bytes text; most = most; expected = expected }

-- The cases, in the document's order and words.
abbrev pub table : List Case
table =
    -- P1 T has (1,4) by 2 and (5,3) by 5.
    case 1 text_t max_points (lists 3 points_t)
    -- P2 `min: ;` has n 0 and one point, (0) by 0.
    ∷ case 2 "min: ;" max_points (lists 0 (single (pos 0) 0 ∷ []))
    -- P3 `min: +1 x1 ; +1 x1 >= 2 ;` has none.
    ∷ case 3 "min: +1 x1 ; +1 x1 >= 2 ;" max_points (lists 1 [])
    -- P4 with `+1 x1 +1 x1 >= 2 ;` it has (1) by 1.
    ∷ case 4 "min: +1 x1 ; +1 x1 +1 x1 >= 2 ;" max_points (lists 1 (single (pos 1) 1 ∷ []))
    -- P5 `min: +1 x1 +1 x2 ; +1 x1 +1 x2 >= 1 ;` has (1) by 1, not by 2.
    ∷ case 5 "min: +1 x1 +1 x2 ; +1 x1 +1 x2 >= 1 ;" max_points (lists 2 (single (pos 1) 1 ∷ []))
    -- P6 `min: -2 x1 +1 ~x2 ;` has (-2) by 3.
    ∷ case 6 "min: -2 x1 +1 ~x2 ;" max_points (lists 2 (single (negsuc 1) 3 ∷ []))
    -- P7 `min: +1 x1 ; min: -1 x1 ;` has (0,0) by 0 and (1,-1) by 1.
    ∷ case 7 "min: +1 x1 ; min: -1 x1 ;" max_points (lists 1 (pair (pos 0) (pos 0) 0 ∷ pair (pos 1) (negsuc 0) 1 ∷ []))
    -- P8 `min: +1 ~x6 ;` has (0) by 32.
    ∷ case 8 "min: +1 ~x6 ;" max_points (lists 6 (single (pos 0) 32 ∷ []))
    -- P8 with `~x65` for `~x6`: refusal 7, statement 1.
    ∷ case 8 "min: +1 ~x65 ;" max_points (refuses 7 1)
    -- P9 T with room 1: refusal 11, (1,4) by 2.
    ∷ case 9 text_t 1 (cuts 3 (pair (pos 1) (pos 4) 2 ∷ []))
    -- P9 with room 2: done.
    ∷ case 9 text_t 2 (lists 3 points_t)
    -- P10 `>= 0 ; min: ;` is refusal 4, statement 2.
    ∷ case 10 ">= 0 ; min: ;" max_points (refuses 4 2)
    -- P11 the file of T is 1,024 bytes with checks FFF6 and FFE8 (hex).
    ∷ case 11 text_t max_points (files 1024 (65526 ∷ 65512 ∷ []))
    ∷ []
