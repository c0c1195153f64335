-- THEOREM examples. The records of paper 01 with known answers, computed from the definitions: one table, one theorem. Beside paper 01's rows: baababb
-- tells "join at |r|" from "join below |r|"; the word of 31 letters joins twice, one join inside the other; aaab and cbabcbad tell the shortest r from the
-- longest. Breaks (request 102) of I, of these, and of a falling record. Comparisons with how far the starts agree (request 104): over the first piece of
-- G, and past its end; a start with itself. Runs (request 107): a letter in a row, a run of the whole record and of a part, one that ends where another
-- begins, two that begin together and two that end together; none in aba, where the period fits once and a half.
use Rattle.std.specs.Prelude.{◌≡◌, refl, List, [], ◌∷◌, map, ℕ, ℤ, pos, negsuc}
use Rattle.words.specs.Words.{common_length_of, sign, common_within}
use Rattle.words.specs.Factorizations.{failing_length, prefix_length, border_length, icfl_ends, icfl_breaks, cfl_in_ends, lyndon_table}
use Rattle.words.specs.Runs.{Triple, runs}
use Rattle.words.specs.declared.Fate.TheVariants.{Kept, Joined}
use Rattle.words.specs.declared.Break.{Break}

pub data Question : Type 0 where
  cuts : List ℕ → Question
  table : List ℕ → Question
  test : List ℕ → Question
  reasons : List ℕ → Question
  comparison : List ℕ → (first end start other : ℕ) → Question
  repetitions : List ℕ → Question

pub data Answer : Type 0 where
  ends : (pieces strict : List ℕ) → Answer
  lengths : List ℕ → Answer
  fails : (failing prefix border : ℕ) → Answer
  breaks : List Break → Answer
  signed : ℤ → (common : ℕ) → Answer
  triples : List Triple → Answer

unfoldable pub answer : Question → Answer
unfolding icfl_ends icfl_breaks cfl_in_ends lyndon_table failing_length prefix_length border_length common_length_of sign runs
answer (cuts w) = ends (icfl_ends w) (cfl_in_ends w)
answer (table w) = lengths (lyndon_table w)
answer (test w) = fails (failing_length w) (prefix_length w) (border_length w)
answer (reasons w) = breaks (icfl_breaks w)
answer (comparison w first end start other) = signed (sign w first end start other) (common_within w first end start other)
answer (repetitions w) = triples (runs w)

-- ---- the table: letters stand for their ASCII codes

abbrev pub a : ℕ
a = 97

abbrev pub b : ℕ
b = 98

abbrev pub c : ℕ
c = 99

abbrev pub d : ℕ
d = 100

-- a break at a place, with the place where its step began and |r|
abbrev pub kept_at : (place begun border a b : ℕ) → Break
kept_at place begun border a b = record { place = place; begun = begun; border = border; fate = Kept a b }

abbrev pub joined_at : (place begun border shortfall : ℕ) → Break
joined_at place begun border shortfall = record { place = place; begun = begun; border = border; fate = Joined shortfall }

infix 20 ◌gives◌
pub data Row : Type 0 where
  ◌gives◌ : Question → Answer → Row

abbrev pub question : Row → Question
question (q gives e) = q

abbrev pub expected : Row → Answer
expected (q gives e) = e

abbrev two_joins : List ℕ
two_joins = c ∷ b ∷ a ∷ b ∷ a ∷ c ∷ a ∷ a ∷ c ∷ b ∷ a ∷ b ∷ a ∷ a ∷ c ∷ b ∷ a ∷ b ∷ a ∷ c ∷ a ∷ a ∷ c ∷ b ∷ a ∷ b ∷ a ∷ c ∷ b ∷ a ∷ c ∷ []

abbrev pub rows : List Row
rows =
    (cuts (a ∷ []) gives ends (1 ∷ []) (1 ∷ []))  -- A
    ∷ (cuts (a ∷ a ∷ a ∷ []) gives ends (3 ∷ []) (1 ∷ 2 ∷ 3 ∷ []))  -- B
    ∷ (cuts (a ∷ b ∷ []) gives ends (1 ∷ 2 ∷ []) (1 ∷ 2 ∷ []))  -- C
    ∷ (cuts (b ∷ a ∷ []) gives ends (2 ∷ []) (2 ∷ []))  -- D
    ∷ (cuts (a ∷ b ∷ c ∷ []) gives ends (1 ∷ 2 ∷ 3 ∷ []) (1 ∷ 2 ∷ 3 ∷ []))  -- E
    ∷ (cuts (b ∷ a ∷ b ∷ a ∷ []) gives ends (4 ∷ []) (2 ∷ 4 ∷ []))  -- F
    ∷ (cuts (b ∷ b ∷ a ∷ b ∷ b ∷ a ∷ b ∷ b ∷ b ∷ []) gives ends (6 ∷ 9 ∷ []) (3 ∷ 6 ∷ 7 ∷ 8 ∷ 9 ∷ []))  -- G
    ∷ (cuts (c ∷ b ∷ a ∷ b ∷ a ∷ c ∷ b ∷ a ∷ c ∷ []) gives ends (5 ∷ 9 ∷ []) (5 ∷ 8 ∷ 9 ∷ []))  -- H
    ∷ (cuts (c ∷ b ∷ a ∷ b ∷ a ∷ c ∷ a ∷ a ∷ c ∷ b ∷ a ∷ b ∷ a ∷ c ∷ b ∷ a ∷ c ∷ []) gives ends (13 ∷ 17 ∷ []) (8 ∷ 13 ∷ 16 ∷ 17 ∷ []))  -- I
    ∷ (cuts (d ∷ a ∷ b ∷ a ∷ d ∷ a ∷ b ∷ d ∷ a ∷ b ∷ d ∷ a ∷ d ∷ a ∷ c ∷ []) gives ends (4 ∷ 10 ∷ 15 ∷ []) (4 ∷ 7 ∷ 10 ∷ 15 ∷ []))  -- J
    ∷ (cuts (d ∷ a ∷ b ∷ d ∷ a ∷ d ∷ a ∷ c ∷ d ∷ d ∷ b ∷ d ∷ c ∷ []) gives ends (3 ∷ 8 ∷ 13 ∷ []) (3 ∷ 8 ∷ 13 ∷ []))  -- K
    ∷ (cuts (b ∷ a ∷ a ∷ b ∷ a ∷ b ∷ b ∷ []) gives ends (5 ∷ 7 ∷ []) (3 ∷ 5 ∷ 6 ∷ 7 ∷ []))
    ∷ (cuts two_joins gives ends (27 ∷ 31 ∷ []) (14 ∷ 22 ∷ 27 ∷ 30 ∷ 31 ∷ []))
    ∷ (table (c ∷ b ∷ a ∷ b ∷ a ∷ c ∷ b ∷ a ∷ c ∷ []) gives lengths (5 ∷ 2 ∷ 1 ∷ 2 ∷ 1 ∷ 3 ∷ 2 ∷ 1 ∷ 1 ∷ []))
    ∷ (test (c ∷ b ∷ a ∷ b ∷ a ∷ c ∷ b ∷ a ∷ c ∷ []) gives fails 9 5 3)
    ∷ (test (c ∷ b ∷ a ∷ b ∷ a ∷ c ∷ a ∷ a ∷ c ∷ b ∷ a ∷ b ∷ a ∷ c ∷ b ∷ a ∷ c ∷ []) gives fails 15 8 6)
    ∷ (test (a ∷ a ∷ a ∷ b ∷ []) gives fails 4 3 0)
    ∷ (test (c ∷ b ∷ a ∷ b ∷ c ∷ b ∷ a ∷ d ∷ []) gives fails 8 7 0)
    ∷ (reasons (c ∷ b ∷ a ∷ b ∷ a ∷ c ∷ a ∷ a ∷ c ∷ b ∷ a ∷ b ∷ a ∷ c ∷ b ∷ a ∷ c ∷ []) gives breaks (joined_at 8 0 6 1 ∷ kept_at 13 8 3 b c ∷ []))  -- I
    ∷ (reasons (b ∷ a ∷ a ∷ b ∷ a ∷ b ∷ b ∷ []) gives breaks (joined_at 3 0 2 0 ∷ kept_at 5 3 1 a b ∷ []))
    ∷ (reasons two_joins gives breaks (joined_at 14 0 13 0 ∷ joined_at 22 14 6 1 ∷ kept_at 27 22 3 b c ∷ []))
    ∷ (reasons (a ∷ a ∷ a ∷ b ∷ []) gives breaks (kept_at 3 0 0 a b ∷ []))
    ∷ (reasons (b ∷ a ∷ b ∷ a ∷ []) gives breaks [])
    ∷ (comparison (c ∷ b ∷ a ∷ b ∷ a ∷ c ∷ b ∷ a ∷ c ∷ []) 0 9 0 5 gives signed (pos 1) 3)  -- H
    ∷ (comparison (c ∷ b ∷ a ∷ b ∷ a ∷ c ∷ b ∷ a ∷ c ∷ []) 5 9 5 8 gives signed (pos 1) 1)
    ∷ (comparison (c ∷ b ∷ a ∷ b ∷ a ∷ c ∷ b ∷ a ∷ c ∷ []) 5 9 8 5 gives signed (negsuc 0) 1)
    ∷ (comparison (b ∷ b ∷ a ∷ []) 0 2 0 1 gives signed (pos 1) 1)
    ∷ (comparison (b ∷ b ∷ a ∷ []) 0 3 0 1 gives signed (negsuc 0) 1)
    ∷ (comparison (b ∷ b ∷ a ∷ b ∷ b ∷ a ∷ b ∷ b ∷ b ∷ []) 0 6 0 3 gives signed (pos 1) 3)  -- G
    ∷ (comparison (b ∷ b ∷ a ∷ b ∷ b ∷ a ∷ b ∷ b ∷ b ∷ []) 0 9 0 3 gives signed (pos 1) 5)
    ∷ (comparison (b ∷ b ∷ a ∷ b ∷ b ∷ a ∷ b ∷ b ∷ b ∷ []) 0 6 2 2 gives signed (pos 0) 4)
    ∷ (repetitions (a ∷ a ∷ b ∷ a ∷ a ∷ b ∷ a ∷ a ∷ []) gives triples ((0, 2, 1) ∷ (0, 8, 3) ∷ (3, 5, 1) ∷ (6, 8, 1) ∷ []))
    ∷ (repetitions (a ∷ []) gives triples [])
    ∷ (repetitions (a ∷ b ∷ c ∷ []) gives triples [])
    ∷ (repetitions (a ∷ b ∷ a ∷ []) gives triples [])
    ∷ (repetitions (a ∷ b ∷ a ∷ c ∷ a ∷ []) gives triples [])
    ∷ (repetitions (a ∷ a ∷ []) gives triples ((0, 2, 1) ∷ []))
    ∷ (repetitions (a ∷ a ∷ a ∷ a ∷ a ∷ []) gives triples ((0, 5, 1) ∷ []))
    ∷ (repetitions (a ∷ b ∷ a ∷ b ∷ []) gives triples ((0, 4, 2) ∷ []))
    ∷ (repetitions (a ∷ b ∷ a ∷ b ∷ a ∷ b ∷ a ∷ b ∷ []) gives triples ((0, 8, 2) ∷ []))
    ∷ (repetitions (c ∷ a ∷ b ∷ a ∷ b ∷ a ∷ c ∷ []) gives triples ((1, 6, 2) ∷ []))
    ∷ (repetitions (a ∷ a ∷ b ∷ b ∷ []) gives triples ((0, 2, 1) ∷ (2, 4, 1) ∷ []))
    ∷ (repetitions (a ∷ b ∷ a ∷ b ∷ b ∷ a ∷ b ∷ b ∷ a ∷ []) gives triples ((0, 4, 2) ∷ (1, 9, 3) ∷ (3, 5, 1) ∷ (6, 8, 1) ∷ []))
    ∷ []

pub examples : map (λ r. answer (question r)) rows ≡ map expected rows
unfolding answer
examples = refl
