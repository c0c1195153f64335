-- DEFINITIONS. Words are lists of numbers: how two of them compare, and the two kinds of words that a word is cut into.
-- Orders and kinds are paper 01's sentences; the tests compute, and decide them (OrderTests and WordTests of the theory).
use Rattle.std.specs.Prelude.{◌≡◌, List, [], ◌∷◌, ◌++◌, Bool, true, false, length, drop, ℤ, pos, negsuc, eqb}
use Prim.Native.Nat.{Ordering}
use Prim.Native.Nat.{ℕ, suc, ◌-◌, ◌<◌, compare}
use Rattle.std.proofs.Math.Seq.{slice}

-- a record's greatest length: "length above 4,096" is refused; no law of words needs a bound
abbrev pub most_letters : ℕ
most_letters = 4096

infix 40 ◌≪◌ ◌⊑◌ ◌⊏◌ ◌<ₗ◌ ◌≺◌
-- mismatch order: "the two differ at a place that lies in both, and at the first such place the piece has the smaller byte"
pub data ◌≪◌ : List ℕ → List ℕ → Type 0 where
  here : {a b : ℕ} {x y : List ℕ} → a < b → (a ∷ x) ≪ (b ∷ y)
  there : {a : ℕ} {x y : List ℕ} → x ≪ y → (a ∷ x) ≪ (a ∷ y)

-- prefix (a beginning), proper prefix
pub data ◌⊑◌ : List ℕ → List ℕ → Type 0 where
  done : {y : List ℕ} → [] ⊑ y
  step : {a : ℕ} {x y : List ℕ} → x ⊑ y → (a ∷ x) ⊑ (a ∷ y)

pub data ◌⊏◌ (x y : List ℕ) : Type 0 where
  proper : x ⊑ y → length x < length y → x ⊏ y

-- lexicographic order (natural order): "less if it is a proper beginning of the second, or has the smaller byte at their first difference"
pub data ◌<ₗ◌ (x y : List ℕ) : Type 0 where
  prefix : x ⊏ y → x <ₗ y
  mismatch : x ≪ y → x <ₗ y

-- inverse order: "a proper beginning still comes first, but at a first difference the larger byte comes first"
pub data ◌≺◌ (x y : List ℕ) : Type 0 where
  prefix : x ⊏ y → x ≺ y
  mismatch : y ≪ x → x ≺ y

-- inverse Lyndon word (falling word): "nonempty, and greater in the natural order than each of its nonempty proper endings"
pub record InverseLyndon (w : List ℕ) : Type 0 where
  pub nonempty : 0 < length w
  pub exceeds : (u s : List ℕ) → u ++ s ≡ w → 0 < length u → 0 < length s → s <ₗ w

-- anti-Lyndon word (strict word): "nonempty, and before each of its nonempty proper endings in the inverse order"
pub record AntiLyndon (w : List ℕ) : Type 0 where
  pub nonempty : 0 < length w
  pub precedes : (u s : List ℕ) → u ++ s ≡ w → 0 < length u → 0 < length s → w ≺ s

-- the tests compare by outcome, x against y: less or greater at their first difference, the same, a proper prefix of y, or longer than its prefix y
pub data Outcome : Type 0 where
  less greater same shorter longer : Outcome

unfoldable pub outcome_of : List ℕ → List ℕ → Outcome
outcome_of [] [] = same
outcome_of [] (b ∷ y) = shorter
outcome_of (a ∷ x) [] = longer
outcome_of (a ∷ x) (b ∷ y) = elim (compare a b) [ Ordering.lt ↦ less | Ordering.eq ↦ outcome_of x y | Ordering.gt ↦ greater ]

unfoldable pub is_lex_less : List ℕ → List ℕ → Bool
unfolding outcome_of
is_lex_less x y = elim (outcome_of x y) [ less ↦ true | greater ↦ false | same ↦ false | shorter ↦ true | longer ↦ false ]

unfoldable pub is_inverse_before : List ℕ → List ℕ → Bool
unfolding outcome_of
is_inverse_before x y = elim (outcome_of x y) [ less ↦ false | greater ↦ true | same ↦ false | shorter ↦ true | longer ↦ false ]

unfoldable pub is_same : List ℕ → List ℕ → Bool
unfolding outcome_of
is_same x y = elim (outcome_of x y) [ less ↦ false | greater ↦ false | same ↦ true | shorter ↦ false | longer ↦ false ]

-- every nonempty suffix of v passes the test
unfoldable pub every_suffix : (List ℕ → Bool) → List ℕ → Bool
every_suffix test [] = true
every_suffix test (a ∷ v) = elim (test (a ∷ v)) [ true ↦ every_suffix test v | false ↦ false ]

-- the nonempty proper suffixes of a ∷ v are the nonempty suffixes of v
unfoldable pub is_inverse_lyndon : List ℕ → Bool
unfolding is_lex_less every_suffix
is_inverse_lyndon [] = false
is_inverse_lyndon (a ∷ v) = every_suffix (λ s. is_lex_less s (a ∷ v)) v

unfoldable pub is_anti_lyndon : List ℕ → Bool
unfolding is_inverse_before every_suffix
is_anti_lyndon [] = false
is_anti_lyndon (a ∷ v) = every_suffix (λ s. is_inverse_before (a ∷ v) s) v

-- longest common extension: the number of equal leading letters
unfoldable pub common_length_of : List ℕ → List ℕ → ℕ
common_length_of [] y = 0
common_length_of (a ∷ x) [] = 0
common_length_of (a ∷ x) (b ∷ y) = elim (eqb a b) [ true ↦ suc (common_length_of x y) | false ↦ 0 ]

-- the remainder at a start of the stretch from first to end
abbrev pub remainder : List ℕ → ℕ → ℕ → ℕ → List ℕ
remainder w first end start = drop (start - first) (slice first end w)

-- the comparison: "It compares the two remainders of the stretch in the inverse order: −1 if the first start's comes first,
-- 0 if the starts are equal, +1 otherwise."
unfoldable pub sign : List ℕ → ℕ → ℕ → ℕ → ℕ → ℤ
unfolding is_inverse_before
sign w first end start other =
    let before : Bool = is_inverse_before (remainder w first end start) (remainder w first end other) in
    elim (eqb start other) [ true ↦ pos 0 | false ↦ elim before [ true ↦ negsuc 0 | false ↦ pos 1 ] ]

-- request 104: "the number of equal leading bytes before the stretch ends for either of them"
abbrev pub common_within : List ℕ → ℕ → ℕ → ℕ → ℕ → ℕ
common_within w first end start other = common_length_of (remainder w first end start) (remainder w first end other)
