-- The tables are cleared before the statements are read, and again after a refusal.
use mathlib.Core.Path.{sym, ◌∙◌}
use native.Mathlib.Omega.{arith}
use Rattle.reading.proofs.AnswerLaws.{terms-cleared, rows-cleared, answers-done, answers-refused}
use Rattle.reading.proofs.texts.read_text.Goals as goal

pub read_statements-answer-requires-clause-terms_value :
    goal.read_statements-answer-requires-clause-terms_value
read_statements-answer-requires-clause-terms_value c = terms-cleared c.args.terms.now c.clear_tables.ensures.terms

pub read_statements-answer-requires-clause-rows_value :
    goal.read_statements-answer-requires-clause-rows_value
read_statements-answer-requires-clause-rows_value c = rows-cleared c.args.rows.now c.clear_tables.ensures.rows

pub returns-then-is_err-clause-left_terms : goal.returns-then-is_err-clause-left_terms
returns-then-is_err-clause-left_terms c =
    (answers-refused c.args.text.now c.args.terms.now c.args.rows.now (omega (arith, c.if-terms-lt-TERM_ROOM.false)) (omega (arith, c.if-rows-lt-ROW_ROOM.false)) (omega (arith, c.if-text-gt-MAX_TEXT.false))
    c.clear_tables.ensures.terms c.clear_tables.ensures.rows c.read_statements-answer.ensures (sym c.is_err.ensures.value ∙ c.if-is_err.true) c.clear_tables-then-is_err.ensures.terms c.clear_tables-then-is_err.ensures.rows).1.0

pub returns-then-is_err-clause-left_rows : goal.returns-then-is_err-clause-left_rows
returns-then-is_err-clause-left_rows c =
    (answers-refused c.args.text.now c.args.terms.now c.args.rows.now (omega (arith, c.if-terms-lt-TERM_ROOM.false)) (omega (arith, c.if-rows-lt-ROW_ROOM.false)) (omega (arith, c.if-text-gt-MAX_TEXT.false))
    c.clear_tables.ensures.terms c.clear_tables.ensures.rows c.read_statements-answer.ensures (sym c.is_err.ensures.value ∙ c.if-is_err.true) c.clear_tables-then-is_err.ensures.terms c.clear_tables-then-is_err.ensures.rows).1.1

pub returns-else-is_err-clause-left_terms : goal.returns-else-is_err-clause-left_terms
returns-else-is_err-clause-left_terms c =
    (answers-done c.args.text.now c.args.terms.now c.args.rows.now (omega (arith, c.if-terms-lt-TERM_ROOM.false)) (omega (arith, c.if-rows-lt-ROW_ROOM.false)) (omega (arith, c.if-text-gt-MAX_TEXT.false))
    c.clear_tables.ensures.terms c.clear_tables.ensures.rows c.read_statements-answer.ensures (sym c.is_err.ensures.value ∙ c.if-is_err.false)).1.0

pub returns-else-is_err-clause-left_rows : goal.returns-else-is_err-clause-left_rows
returns-else-is_err-clause-left_rows c =
    (answers-done c.args.text.now c.args.terms.now c.args.rows.now (omega (arith, c.if-terms-lt-TERM_ROOM.false)) (omega (arith, c.if-rows-lt-ROW_ROOM.false)) (omega (arith, c.if-text-gt-MAX_TEXT.false))
    c.clear_tables.ensures.terms c.clear_tables.ensures.rows c.read_statements-answer.ensures (sym c.is_err.ensures.value ∙ c.if-is_err.false)).1.1
