-- DEFINITIONS. What a batch leaves in its two buffers, said of all its records at once (Left). That the promise says as much is a theorem (proofs/BatchLaws,
-- batch-left).
use Rattle.std.specs.Prelude.{◌≡◌, Bool, true, false, List, [], ◌∷◌, ◌++◌, ℕ, ◌*◌, max, length, eqb}
use Rattle.words.specs.Pairs.{separated_pairs}
use Rattle.buffers.specs.Buffers.{cleared, written}
use Rattle.checks.specs.Answers.{Says, gives, refuses}

-- a record that was cut, or refused by 4 once it had been
abbrev pub was_cut : Says ℕ → Bool
was_cut (gives n) = true
was_cut (refuses number) = eqb number 4

-- the length of the longest such record, for records and their answers; 0 if there is none
unfoldable pub longest_cut : List (List ℕ) → List (Says ℕ) → ℕ
longest_cut [] answers = 0
longest_cut (w ∷ ws) [] = 0
longest_cut (w ∷ ws) (a ∷ answers) = max (elim (was_cut a) [ true ↦ length w | false ↦ 0 ]) (longest_cut ws answers)

-- the pairs of the records with a result, one after another: "Ends are counted within their own record."
unfoldable pub packed_pairs : List (List ℕ) → List (Says ℕ) → List ℕ
packed_pairs [] answers = []
packed_pairs (w ∷ ws) [] = []
packed_pairs (w ∷ ws) (gives n ∷ answers) = separated_pairs w ++ packed_pairs ws answers
packed_pairs (w ∷ ws) (refuses number ∷ answers) = packed_pairs ws answers

-- the result buffer has these from entry 0 on, and the work buffer is zero as far as the longest record reached; both are otherwise as they were
pub record Left (records : List (List ℕ)) (answers : List (Says ℕ)) (work pairs work' pairs' : List ℕ) : Type 0 where
  pub result : pairs' ≡ written (packed_pairs records answers) pairs
  pub zeros : work' ≡ cleared (3 * longest_cut records answers) work
