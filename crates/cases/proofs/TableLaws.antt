-- Every entry of the table passes the test: computed. Assumes nothing.
use mathlib.Core.Path.{◌≡◌, refl}
use mathlib.Core.Bool.{true}
use Rattle.decimal.specs.Decimal.{all_digits, digits_value, is_numeral}
use Rattle.words.specs.Bytes.{uncommented}
use Rattle.words.specs.Tokens.{scan}
use Rattle.instance.specs.Terms.{sum, highest}
use Rattle.instance.specs.Layout.{all_terms}
use Rattle.reading.specs.Grammar.{statements, objective, row}
use Rattle.reading.specs.Reading.{any, read_on}
use Rattle.judge.specs.Judging.{unmet_from}
use Rattle.points.specs.Vectors.{le_all, lex}
use Rattle.points.specs.Computed.{covers, covered, uncovered, placed, added, added_if, front_below}
use Rattle.cases.specs.Texts.{bytes}
use Rattle.cases.specs.Cases.{table}
use Rattle.cases.proofs.TestLaws.{same_all, all_pass}

pub table-passes : all_pass table ≡ true
unfolding bytes all_digits digits_value is_numeral uncommented scan sum highest all_terms statements objective row any read_on unmet_from le_all lex covers covered uncovered placed added added_if front_below same_all all_pass
table-passes = refl
