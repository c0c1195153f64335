-- DEFINITIONS. What the call of the Lyndon table answers and writes.
use Rattle.std.specs.Prelude.{List, [], ◌∷◌, ◌++◌, ℕ, length}
use Rattle.words.specs.Separated.{separated_table}
use Rattle.checks.specs.Lines.{Line, result_line}
use Rattle.checks.specs.Answers.{Says, Filled}

-- the call's own line, tried past those at its door: 4
abbrev pub table_lines : List ℕ → ℕ → List Line
table_lines w entries = result_line entries (length w) ∷ []

-- the call's promise, by the lines at its door: its answer, and the result buffer whole
abbrev pub Tabled : List Line → List ℕ → List ℕ → Says ℕ → List ℕ → Type 0
Tabled door w out said out' = Filled (door ++ table_lines w (length out)) (length w) (separated_table w) out said out'
