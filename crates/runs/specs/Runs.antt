-- DEFINITIONS. What the call of the runs answers and writes (request 107).
use Rattle.std.specs.Prelude.{List, [], ◌∷◌, ◌++◌, ℕ, ◌*◌, length}
use Rattle.words.specs.Runs.{separated_runs}
use Rattle.checks.specs.Lines.{Line, result_line}
use Rattle.checks.specs.Answers.{Says, Filled}
use Rattle.inserting.specs.Entries.{entries_of_runs}

-- the call's own line, tried past those at its door: 4; "no work buffer is lent, and a short list buffer gets 4"
abbrev pub runs_lines : List ℕ → ℕ → List Line
runs_lines w entries = result_line entries (3 * length (separated_runs w)) ∷ []

-- the call's promise, by the lines at its door: "The call answers with the number of repetitions", which are written "from entry 0, and what a result
-- buffer holds past the answer stays"
abbrev pub RunsDone : List Line → List ℕ → List ℕ → Says ℕ → List ℕ → Type 0
RunsDone door w buffer said buffer' =
    Filled (door ++ runs_lines w (length buffer)) (length (separated_runs w)) (entries_of_runs (separated_runs w)) buffer said buffer'
