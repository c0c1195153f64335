-- DEFINITIONS. An exported function gives the numbers of an answer that the library's call may give (Gives), and leaves the buffers as the call does.
use Rattle.std.specs.Prelude.{◌≡◌, Result, Ok, Err, List, ◌++◌, ℕ, get_or}
use Rattle.words.specs.Pairs.{ends_of}
use Rattle.checks.specs.Lines.{Line, Door, record_lines, ◌unless◌then◌}
use Rattle.checks.specs.declared.refusals.Refusal.{Refusal}
use Rattle.checks.specs.Answers.{number_of}
use Rattle.pairs.specs.PairedList.{factor_begin}
use Rattle.reading.specs.Factor.{factor_lines}

-- the lines at the door of every exported function
abbrev pub export_door : Door
export_door = record_lines

-- x are the numbers of an answer that is allowed
abbrev pub Gives : {A N : Type 0} → (A → N) → N → (A → Type 0) → Type 0
Gives {A} numbers x Allowed = (a : A) × Allowed a × (x ≡ numbers a)

-- The reader answers by a part of the record, which does not tell its places. So its numbers are said by its lines, those at its door and its own: the refusal,
-- and the places where part k begins and ends, 0 with a refusal.
abbrev pub factor_numbers : (door : List Line) (w ps : List ℕ) (k : ℕ) → ℕ × ℕ × ℕ
factor_numbers door w ps k = (0, factor_begin (ends_of ps) k, get_or (ends_of ps) k 0) unless door ++ factor_lines w ps k then (λ number. (number, 0, 0))

-- an answer that gives these places, as numbers
abbrev pub place_numbers : Result (ℕ × ℕ) Refusal → ℕ × ℕ × ℕ
place_numbers (Ok places) = (0, places.0, places.1)
place_numbers (Err refusal) = (number_of refusal, 0, 0)
