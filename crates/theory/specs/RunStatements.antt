-- DEFINITIONS. What a run is (request 107; the paper's word is repetition, the field's maximal repetition), in a word and in a record with separators.
use Rattle.std.specs.Prelude.{◌≡◌, ◌⊎◌, ℕ, ◌+◌, ◌-◌, ◌*◌, ◌≤◌, ◌<◌, length, get_or}
use mathlib.Core.List.{List, [], ◌∷◌, Memᴰ}
use Rattle.words.specs.Separated.{separator}
use Rattle.words.specs.Runs.{Triple}

-- ---- what a run is

-- p is a period of the letters from s to e
pub record Repeats (w : List ℕ) (s e p : ℕ) : Type 0 where
  pub equal : (t : ℕ) → s ≤ t → t + p < e → get_or w t 0 ≡ get_or w (t + p) 0

pub record Run (w : List ℕ) (s e p : ℕ) : Type 0 where
  pub inside : e ≤ length w
  pub positive : 0 < p
  pub repeats : Repeats w s e p
  -- "The period is the smallest one,"
  pub smallest : (q : ℕ) → 0 < q → q < p → ¬ Repeats w s e q
  -- "it fits at least twice,"
  pub twice : s + 2 * p ≤ e
  -- "and no byte can be added on either side with the period kept."
  pub left : 0 < s → ¬ Repeats w (s - 1) e p
  pub right : e < length w → ¬ Repeats w s (e + 1) p

abbrev pub IsRun : List ℕ → Triple → Type 0
IsRun w r = Run w r.0 r.1 r.2

-- "by first place and then by period"
abbrev pub Earlier : Triple → Triple → Type 0
Earlier r q = (r.0 < q.0) ⊎ ((r.0 ≡ q.0) × (r.2 < q.2))

-- a run of a record, as Run: it holds no separator, and a separator beside it is no byte that could be added
pub record SeparatedRun (w : List ℕ) (s e p : ℕ) : Type 0 where
  pub inside : e ≤ length w
  pub positive : 0 < p
  pub unmarked : (t : ℕ) → s ≤ t → t < e → ¬ (get_or w t 0 ≡ separator)
  pub repeats : Repeats w s e p
  pub smallest : (q : ℕ) → 0 < q → q < p → ¬ Repeats w s e q
  pub twice : s + 2 * p ≤ e
  pub left : 0 < s → ¬ (get_or w (s - 1) 0 ≡ separator) → ¬ Repeats w (s - 1) e p
  pub right : e < length w → ¬ (get_or w e 0 ≡ separator) → ¬ Repeats w s (e + 1) p

abbrev pub IsSeparatedRun : List ℕ → Triple → Type 0
IsSeparatedRun w r = SeparatedRun w r.0 r.1 r.2

-- each has R to all that come later
pub data Rising {A : Type 0} (R : A → A → Type 0) : List A → Type 0 where
  none : Rising R []
  more : {x : A} {xs : List A} → ((y : A) → Memᴰ y xs → R x y) → Rising R xs → Rising R (x ∷ xs)
