-- Document 01, 'The listing program': the lines that it prints. Every number is decimal without leading zeros, with a minus if negative.
use Rattle.std.specs.Prelude.{Bool, cond, List, [], ◌∷◌, ◌++◌, ℕ, ℤ}
use Rattle.decimal.specs.Decimal.{decimal, integer}

-- Words as bytes, with the spaces that stand beside them.
abbrev pub front_word : List ℕ
front_word = 102 ∷ (114 ∷ (111 ∷ (110 ∷ (116 ∷ (32 ∷ [])))))

abbrev pub objectives_word : List ℕ
objectives_word = 32 ∷ (111 ∷ (98 ∷ (106 ∷ (101 ∷ (99 ∷ (116 ∷ (105 ∷ (118 ∷ (101 ∷ (115 ∷ (32 ∷ [])))))))))))

abbrev pub variables_word : List ℕ
variables_word = 32 ∷ (118 ∷ (97 ∷ (114 ∷ (105 ∷ (97 ∷ (98 ∷ (108 ∷ (101 ∷ (115 ∷ (32 ∷ []))))))))))

abbrev pub cut_word : List ℕ
cut_word = 32 ∷ (99 ∷ (117 ∷ (116 ∷ [])))

abbrev pub point_word : List ℕ
point_word = 112 ∷ (111 ∷ (105 ∷ (110 ∷ (116 ∷ (32 ∷ [])))))

abbrev pub values_word : List ℕ
values_word = 32 ∷ (118 ∷ (97 ∷ (108 ∷ (117 ∷ (101 ∷ (115 ∷ []))))))

abbrev pub model_word : List ℕ
model_word = 32 ∷ (109 ∷ (111 ∷ (100 ∷ (101 ∷ (108 ∷ (32 ∷ []))))))

abbrev pub refused_word : List ℕ
refused_word = 114 ∷ (101 ∷ (102 ∷ (117 ∷ (115 ∷ (101 ∷ (100 ∷ (32 ∷ [])))))))

abbrev pub statement_word : List ℕ
statement_word = 32 ∷ (115 ∷ (116 ∷ (97 ∷ (116 ∷ (101 ∷ (109 ∷ (101 ∷ (110 ∷ (116 ∷ (32 ∷ []))))))))))

-- What ends the first line: ` cut` on refusal 11, and LF.
abbrev pub end_text : Bool → List ℕ
end_text cut = cond cut (cut_word ++ (10 ∷ [])) (10 ∷ [])

-- The first line: the points listed, objectives and n, and ` cut` at its end on refusal 11.
abbrev pub front_line : ℕ → ℕ → ℕ → Bool → List ℕ
front_line points objectives n cut = front_word ++ (decimal points ++ (objectives_word ++ (decimal objectives ++ (variables_word ++ (decimal n ++ end_text cut)))))

-- The used values, each after a space.
unfoldable pub values_text : List ℤ → List ℕ
values_text [] = []
values_text (v ∷ vs) = (32 ∷ integer v) ++ values_text vs

-- Each next line: the place, the used values and the witness.
abbrev pub point_line : ℕ → List ℤ → ℕ → List ℕ
point_line place vs model = point_word ++ (decimal place ++ (values_word ++ (values_text vs ++ (model_word ++ (decimal model ++ (10 ∷ []))))))

-- Any other refusal: one line, with 0 where no statement is named.
abbrev pub refused_line : ℕ → ℕ → List ℕ
refused_line number statement = refused_word ++ (decimal number ++ (statement_word ++ (decimal statement ++ (10 ∷ []))))
