-- Document 01, 'Worked instances': the texts, and a text as its bytes.
use Rattle.std.specs.Prelude.{List, [] as none, ◌∷◌ as ◌then◌, ℕ}
use Prim.Native.Char.{code}
use Prim.Native.String.{String, [], ◌∷◌, ◌++◌}

-- The bytes of a text of ASCII characters: their codes.
unfoldable pub bytes : String → List ℕ
bytes [] = none
bytes (c ∷ s) = code c then bytes s

-- The instance T.
abbrev pub text_t : String
text_t =
    "min: +3 x1 +1 x2 +2 x3 ;\n"
    ++ "min: +1 x1 +4 x2 +2 x3 ;\n"
    ++ "+1 x1 +1 x2 >= 1 ;\n"
    ++ "+1 x2 +1 x3 >= 1 ;\n"
