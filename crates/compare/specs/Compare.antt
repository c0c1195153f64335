-- DEFINITIONS. What the comparison answers.
use Rattle.std.specs.Prelude.{◌≡◌, Result, List, [], ◌∷◌, ◌++◌, ℕ, length, ℤ, pos}
use Rattle.words.specs.Words.{sign, common_within}
use Rattle.checks.specs.Lines.{Line, ◌unless◌then◌, range_line, start_line}
use Rattle.checks.specs.declared.refusals.Refusal.{Refusal}
use Rattle.checks.specs.Answers.{Says, gives, refuses, says_by, values_or}
use Rattle.letters.specs.declared.Order.{Order}
use Rattle.letters.specs.Steps.{sign_of}

-- what each case says: the sign, and how far the two agree (request 104)
abbrev pub comparison_says : Result Order Refusal → Says (ℤ × ℕ)
comparison_says r = says_by (λ (order : Order). (sign_of order.sign, order.common)) r

-- the two apart, 0 beside a refusal
abbrev pub sign_said : Says (ℤ × ℕ) → ℤ
sign_said said = (values_or (pos 0, 0) said).0

abbrev pub common_said : Says (ℤ × ℕ) → ℕ
common_said said = (values_or (pos 0, 0) said).1

-- the comparison's own lines, tried past those at its door: 5 and 6, the last for each of the two starts
abbrev pub compare_lines : ℕ → ℕ → ℕ → ℕ → ℕ → List Line
compare_lines letters first end start other = range_line letters first end ∷ start_line first end start ∷ start_line first end other ∷ []

-- the values of the result
abbrev pub order_of : List ℕ → ℕ → ℕ → ℕ → ℕ → ℤ × ℕ
order_of w first end start other = (sign w first end start other, common_within w first end start other)

-- the comparison's promise, by the lines at its door
pub record Compared (door : List Line) (w : List ℕ) (first end start other : ℕ) (said : Says (ℤ × ℕ)) : Type 0 where
  pub answer : said ≡ gives (order_of w first end start other) unless door ++ compare_lines (length w) first end start other then refuses
