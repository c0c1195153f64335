-- THEOREM examples. The judge on lists of ends: J's own (paper 01), its list 7, 12, 15, which fails by the border alone, one list for each other fault, and a record
-- with two marks: its own ends, and lists that join a mark to a mark or to the letters beside it.
use Rattle.std.specs.Prelude.{◌≡◌, refl, List, [], ◌∷◌, map, ℕ}
use Rattle.theory.specs.Judging.Judge.{judged_from}

abbrev a : ℕ
a = 97

abbrev b : ℕ
b = 98

abbrev c : ℕ
c = 99

abbrev d : ℕ
d = 100

abbrev J : List ℕ
J = d ∷ a ∷ b ∷ a ∷ d ∷ a ∷ b ∷ d ∷ a ∷ b ∷ d ∷ a ∷ d ∷ a ∷ c ∷ []

pub record Examples : Type 0 where
  pub ours : judged_from J 0 (4 ∷ 10 ∷ 15 ∷ []) ≡ 0
  pub border : judged_from J 0 (7 ∷ 12 ∷ 15 ∷ []) ≡ 11
  pub rises : judged_from (a ∷ b ∷ c ∷ []) 0 (3 ∷ []) ≡ 2
  pub shares : judged_from (b ∷ a ∷ b ∷ a ∷ []) 0 (2 ∷ 4 ∷ []) ≡ 4
  pub exceeds : judged_from (b ∷ a ∷ []) 0 (1 ∷ 2 ∷ []) ≡ 2
  pub marks : map (λ es. judged_from (b ∷ a ∷ 255 ∷ 255 ∷ c ∷ []) 0 es)
      ((2 ∷ 3 ∷ 4 ∷ 5 ∷ []) ∷ (2 ∷ 4 ∷ 5 ∷ []) ∷ (3 ∷ 4 ∷ 5 ∷ []) ∷ (2 ∷ 3 ∷ 5 ∷ []) ∷ []) ≡ 0 ∷ 3 ∷ 3 ∷ 4 ∷ []

pub examples : Examples
unfolding judged_from
examples = record { ours = refl; border = refl; rises = refl; shares = refl; exceeds = refl; marks = refl }
