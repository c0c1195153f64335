-- THEOREM separated-examples. Records with separators (request 103), computed from the definitions: at the front, at the end, in a row, alone, and between
-- two copies of record I, whose breaks come again 18 places later. Runs (request 107) beside marks, and none of marks. THEOREM examples-stand: paper 01's
-- records, which have none, keep their answers.
use Rattle.std.specs.Prelude.{◌≡◌, refl, List, [], ◌∷◌, ◌++◌, map, ℕ, pos, negsuc}
use Rattle.words.specs.Words.{common_length_of, sign, common_within}
use Rattle.words.specs.Factorizations.{failing_length, prefix_length, border_length}
use Rattle.words.specs.Runs.{separated_runs}
use Rattle.words.specs.Separated.{separated_icfl_ends, separated_cfl_in_ends, separated_table, separated_breaks}
use Rattle.words.specs.Examples.{
  Question,
  cuts,
  table,
  test,
  reasons,
  comparison,
  repetitions,
  Answer,
  ends,
  lengths,
  fails,
  breaks,
  signed,
  triples,
  a,
  b,
  c,
  kept_at,
  joined_at,
  Row,
  ◌gives◌,
  question,
  expected,
  rows,
}

unfoldable pub separated_answer : Question → Answer
unfolding separated_icfl_ends separated_cfl_in_ends separated_table separated_breaks failing_length prefix_length border_length common_length_of sign separated_runs
separated_answer (cuts w) = ends (separated_icfl_ends w) (separated_cfl_in_ends w)
separated_answer (table w) = lengths (separated_table w)
separated_answer (test w) = fails (failing_length w) (prefix_length w) (border_length w)
separated_answer (reasons w) = breaks (separated_breaks w)
separated_answer (comparison w first end start other) = signed (sign w first end start other) (common_within w first end start other)
separated_answer (repetitions w) = triples (separated_runs w)

abbrev m : ℕ
m = 255

abbrev record_i : List ℕ
record_i = c ∷ b ∷ a ∷ b ∷ a ∷ c ∷ a ∷ a ∷ c ∷ b ∷ a ∷ b ∷ a ∷ c ∷ b ∷ a ∷ c ∷ []

abbrev separated_rows : List Row
separated_rows =
    (cuts (m ∷ []) gives ends (1 ∷ []) (1 ∷ []))
    ∷ (cuts (m ∷ m ∷ a ∷ []) gives ends (1 ∷ 2 ∷ 3 ∷ []) (1 ∷ 2 ∷ 3 ∷ []))
    ∷ (cuts (b ∷ a ∷ m ∷ b ∷ a ∷ []) gives ends (2 ∷ 3 ∷ 5 ∷ []) (2 ∷ 3 ∷ 5 ∷ []))
    ∷ (cuts (a ∷ m ∷ a ∷ b ∷ m ∷ m ∷ []) gives ends (1 ∷ 2 ∷ 3 ∷ 4 ∷ 5 ∷ 6 ∷ []) (1 ∷ 2 ∷ 3 ∷ 4 ∷ 5 ∷ 6 ∷ []))
    ∷ (cuts (record_i ++ m ∷ record_i) gives ends (13 ∷ 17 ∷ 18 ∷ 31 ∷ 35 ∷ []) (8 ∷ 13 ∷ 16 ∷ 17 ∷ 18 ∷ 26 ∷ 31 ∷ 34 ∷ 35 ∷ []))
    ∷ (table (m ∷ []) gives lengths (1 ∷ []))
    ∷ (table (m ∷ m ∷ a ∷ []) gives lengths (1 ∷ 1 ∷ 1 ∷ []))
    ∷ (table (b ∷ a ∷ m ∷ b ∷ a ∷ []) gives lengths (2 ∷ 1 ∷ 1 ∷ 2 ∷ 1 ∷ []))
    ∷ (comparison (m ∷ m ∷ a ∷ []) 0 2 0 1 gives signed (pos 1) 1)
    ∷ (comparison (m ∷ m ∷ a ∷ []) 0 3 0 1 gives signed (negsuc 0) 1)
    ∷ (reasons (m ∷ m ∷ m ∷ []) gives breaks [])
    ∷ (reasons (b ∷ a ∷ m ∷ b ∷ a ∷ []) gives breaks [])
    ∷ (reasons (m ∷ a ∷ b ∷ m ∷ []) gives breaks (kept_at 2 1 0 a b ∷ []))
    ∷ (reasons (record_i ++ m ∷ record_i) gives breaks (joined_at 8 0 6 1 ∷ kept_at 13 8 3 b c ∷ joined_at 26 18 6 1 ∷ kept_at 31 26 3 b c ∷ []))
    ∷ (repetitions (m ∷ m ∷ []) gives triples [])
    ∷ (repetitions (a ∷ m ∷ a ∷ []) gives triples [])
    ∷ (repetitions (a ∷ m ∷ a ∷ m ∷ []) gives triples [])
    ∷ (repetitions (a ∷ a ∷ m ∷ a ∷ a ∷ []) gives triples ((0, 2, 1) ∷ (3, 5, 1) ∷ []))
    ∷ (repetitions (m ∷ a ∷ b ∷ a ∷ b ∷ m ∷ []) gives triples ((1, 5, 2) ∷ []))
    ∷ (repetitions (a ∷ a ∷ m ∷ m ∷ a ∷ b ∷ a ∷ b ∷ m ∷ b ∷ []) gives triples ((0, 2, 1) ∷ (4, 8, 2) ∷ []))
    ∷ []

pub separated-examples : map (λ r. separated_answer (question r)) separated_rows ≡ map expected separated_rows
unfolding separated_answer
separated-examples = refl

pub examples-stand : map (λ r. separated_answer (question r)) rows ≡ map expected rows
unfolding separated_answer
examples-stand = refl
