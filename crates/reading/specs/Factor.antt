-- DEFINITIONS. The reader: "a record, a list of ends and a piece number from 0, and gives that part of the record".
use Rattle.std.specs.Prelude.{◌≡◌, Result, Ok, Err, List, [], ◌∷◌, ◌++◌, ℕ, length, get_or}
use Rattle.std.specs.Borrow.{Bor}
use Rattle.std.proofs.Math.Seq.{slice}
use Rattle.words.specs.Pairs.{ends_of}
use Rattle.pairs.specs.PairedList.{factor_begin}
use Rattle.checks.specs.Lines.{Line, tried, ◌unless◌then◌, pairs_line, number_line}
use Rattle.checks.specs.declared.refusals.Refusal.{Refusal}
use Rattle.checks.specs.Answers.{checked_number}

-- the reader's own lines, tried past those at its door: 7 and 8, of a paired list (request 108)
abbrev pub factor_lines : List ℕ → List ℕ → ℕ → List Line
factor_lines w ps k = pairs_line ps (length w) ∷ number_line k (length (ends_of ps)) ∷ []

-- the part that an answer gives, "and the part with a refusal is empty"
abbrev pub part_of : Result (Bor (List ℕ)) Refusal → List ℕ
part_of (Ok part) = part.now
part_of (Err refusal) = []

-- the reader's promise, by the lines at its door: the refusal's number, 0 for none, and the part, "and the part with a refusal is empty"
pub record FactorAt (door : List Line) (w ps : List ℕ) (k : ℕ) (part : List ℕ) (number : ℕ) : Type 0 where
  pub number_is : number ≡ checked_number (tried (door ++ factor_lines w ps k))
  pub part-is : part ≡ slice (factor_begin (ends_of ps) k) (get_or (ends_of ps) k 0) w unless door ++ factor_lines w ps k then (λ n. [])
