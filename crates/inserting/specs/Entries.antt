-- DEFINITIONS. The entries of runs in a result buffer (request 107).
use Rattle.std.specs.Prelude.{List, [], ◌∷◌, ℕ}
use Rattle.buffers.specs.Buffers.{grouped}
use Rattle.words.specs.Runs.{Triple}

-- "Each fills three 16-bit entries in that order": first place, end and period
abbrev pub run_entries : Triple → List ℕ
run_entries r = r.0 ∷ r.1 ∷ r.2 ∷ []

-- those of a list of runs, one after another
abbrev pub entries_of_runs : List Triple → List ℕ
entries_of_runs = grouped run_entries
