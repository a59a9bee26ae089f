-- Document 01, 'Instance tables': the numbers of the kinds that the code has.
use Rattle.std.specs.Prelude.{ℕ}
use Rattle.instance.specs.declared.kinds.Kind.{Kind}
use Rattle.instance.specs.declared.kinds.Kind.TheVariants.{Objective, AtLeast, AtMost, Equal, Other}

-- Kind 1 is an objective; 2, 3 and 4 are rows: >=, <= and =.
abbrev pub number_of : Kind → ℕ
number_of Objective = 1
number_of AtLeast = 2
number_of AtMost = 3
number_of Equal = 4
number_of (Other o) = o.number
