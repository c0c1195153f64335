-- DEFINITIONS. What the strict cut answers and writes.
use Rattle.std.specs.Prelude.{List, [], ◌∷◌, ◌++◌, ℕ, length}
use Rattle.words.specs.Separated.{separated_cfl_in_ends}
use Rattle.checks.specs.Lines.{Line, result_line}
use Rattle.checks.specs.Answers.{Says, Filled}

-- the strict cut's own line, tried past those at its door: 4
abbrev pub cfl_in_lines : List ℕ → ℕ → List Line
cfl_in_lines w entries = result_line entries (length (separated_cfl_in_ends w)) ∷ []

-- the call's promise, by the lines at its door: its answer, and the result buffer whole
abbrev pub CflInDone : List Line → List ℕ → List ℕ → Says ℕ → List ℕ → Type 0
CflInDone door w buffer said buffer' =
    Filled (door ++ cfl_in_lines w (length buffer)) (length (separated_cfl_in_ends w)) (separated_cfl_in_ends w) buffer said buffer'
