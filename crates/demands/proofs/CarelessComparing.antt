-- THEOREMS about demand 3: it shuts out ends that are not the factorization's (whole-not-exceeding, strict-not-losing) and a comparison that does not look at
-- the letters (order-of-places), and would be false of stretches that are not whole pieces (any-stretch) and of whole answers (whole-answers).
use Rattle.std.specs.Prelude.{◌≡◌, refl, true, false, List, [], ◌∷◌, ◌++◌, ℕ, zero, suc, ◌≤◌, length, eqb, ltb, ℤ, pos, negsuc}
use Rattle.std.proofs.Common.{ap, sym, ◌∙◌, arith}
use mathlib.Core.List.Memᴰ
use Rattle.words.specs.Words.{most_letters, ◌≪◌, common_length_of, sign, common_within}
use Rattle.words.specs.Words as words
use Rattle.words.specs.Separated.{separator, mark, UpToSeparator, separated_icfl_ends}
use Rattle.words.specs.Examples.{a, b}
use Rattle.theory.specs.Statements.{here, there, WholePieces, Compatible}
use Rattle.theory.specs.Orders.MismatchLaws.{≪-asym}
use Rattle.theory.specs.Orders.LexLaws.{≤ₗ-not-≪, <ₗ-≤ₗ}
use Rattle.theory.specs.Orders.SignLaws.{sign-is, sign-only}
use Rattle.checks.specs.Answers.{Says, gives, refuses}
use Rattle.checks.specs.Lines.{tried, ◌unless◌then◌}
use Rattle.compare.specs.Compare.{sign_said, common_said, compare_lines}
use Rattle.demands.specs.Calls.{Calls}
use Rattle.demands.specs.Demand1.{record_door}
use Rattle.demands.specs.Demand3.{Inside, Demand3}
use Rattle.demands.specs.Demands.{Demands}
use Rattle.demands.specs.Meets.{Meets}
use Rattle.demands.specs.OneCall.{Comparing, comparer}

-- ---- demand 3 shuts out ends that are not the factorization's, too

-- 1. again: the whole of `ab` does not exceed its ending `b`
pub whole-not-exceeding : (compare : ℕ → ℕ → ℕ → ℕ → Says (ℤ × ℕ)) → ¬ Demand3 (a ∷ b ∷ []) (2 ∷ []) (1 ∷ 2 ∷ []) compare
whole-not-exceeding compare d =
    ≤ₗ-not-≪ (<ₗ-≤ₗ (d.exceeds 0 2 here (a ∷ []) (b ∷ []) refl (omega arith) (omega arith))) (words.here {a = a} {b = b} (omega arith))

-- "Giving the strict cut as the piece cut: F is one piece": `ba` does not lose to `ba`
pub strict-not-losing : (compare : ℕ → ℕ → ℕ → ℕ → Says (ℤ × ℕ)) → ¬ Demand3 (b ∷ a ∷ b ∷ a ∷ []) (2 ∷ 4 ∷ []) (2 ∷ 4 ∷ []) compare
strict-not-losing compare d =
    let other : ¬ (b ∷ a ∷ [] ≡ mark) = λ e. let z : ◌≡◌ {A = ℕ} 2 1 = ap (λ (t : List ℕ). length t) e in omega arith in
    let x : (b ∷ a ∷ []) ≪ (b ∷ a ∷ []) = d.loses 0 2 4 here (there here) other other in
    ≪-asym x x

-- ---- comparisons that answer f for all that is not refused

abbrev pub Compares : (List ℕ → ℕ → ℕ → ℕ → ℕ → Says (ℤ × ℕ)) → Comparing
Compares f w first end start other r =
    r ≡ f w first end start other unless record_door.door w ++ compare_lines (length w) first end start other then refuses

-- what demand 3 says of them
pub third_of : (f : List ℕ → ℕ → ℕ → ℕ → ℕ → Says (ℤ × ℕ)) → Demands record_door (comparer (Compares f)) → (w : List ℕ) → 1 ≤ length w → length w ≤ most_letters
    → UpToSeparator w → (es ss : List ℕ) × Demand3 w es ss (λ first end start other.
    f w first end start other unless record_door.door w ++ compare_lines (length w) first end start other then refuses)
third_of f d w s l up =
    let g = d.given w s l up in
    let given = g.3 in (
      g.0,
      g.1,
      d.third w g.0 g.1 _ (record {
        nonempty = s;
        short = l;
        bytes = up;
        piece_cut = given.piece_cut;
        strict_cut = given.strict_cut;
        comparison = λ first end start other. refl;
      }),
    )

pub no_byte : UpToSeparator []
no_byte i = omega arith

pub one_byte : (x : ℕ) (w : List ℕ) → x ≤ separator → UpToSeparator w → UpToSeparator (x ∷ w)
one_byte x w h up zero = h
one_byte x w h up (suc i) = up i

-- two starts in the whole of a record of two letters
pub first_two : Inside 2 0 2 0 1
first_two = record { range = omega arith; start-from = omega arith; start-below = omega arith; other_from = omega arith; other-below = omega arith }

abbrev pub above_zero : ℤ → ℕ
above_zero (pos n) = n
above_zero (negsuc n) = 0

-- −1 just where the first start lies before the other, whatever the letters; in `ab` the second comes first
abbrev by_place : ℕ → ℕ → ℤ
by_place start other = elim (eqb start other) [ true ↦ pos 0 | false ↦ elim (ltb start other) [ true ↦ negsuc 0 | false ↦ pos 1 ] ]

pub order-of-places : ¬ Demands record_door (comparer (Compares
    (λ w first end start other. gives (by_place start other, common_within w first end start other))))
unfolding tried sign
order-of-places d =
    let w : List ℕ = a ∷ b ∷ [] in
    let h = third_of _ d w (omega arith) (omega arith) (one_byte a (b ∷ []) (omega arith) (one_byte b [] (omega arith) no_byte)) in
    let z : ◌≡◌ {A = ℕ} 0 1 = ap above_zero (sign-only (h.2.signed 0 2 0 1 first_two) (sign-is w 0 2 0 1)) in
    omega arith

-- ---- "Trusting the comparison on a stretch that is not whole pieces."

-- demand 3's field, of every stretch in `bba`
pub any-stretch : (calls : Calls) → Meets record_door.door calls → (compare : ℕ → ℕ → ℕ → ℕ → Says (ℤ × ℕ))
    → ((first end start other : ℕ) → calls.Comparing (b ∷ b ∷ a ∷ []) first end start other (compare first end start other))
    → ¬ Compatible (λ first end. end ≤ 3) 3 (λ first end start other. sign_said (compare first end start other))
unfolding tried sign
any-stretch calls m compare h same =
    let over-2 : sign_said (compare 0 2 0 1) ≡ pos 1 = ap sign_said (m.comparison _ 0 2 0 1 _ (h 0 2 0 1)).answer in
    let over-3 : sign_said (compare 0 3 0 1) ≡ negsuc 0 = ap sign_said (m.comparison _ 0 3 0 1 _ (h 0 3 0 1)).answer in
    let e : sign_said (compare 0 2 0 1) ≡ sign_said (compare 0 3 0 1) =
    same 0 2 0 1 (omega arith) (omega arith) (omega arith) (omega arith) (omega arith) (λ z. omega arith) in
    let z : ◌≡◌ {A = ℕ} 1 0 = ap above_zero (sym over-2 ∙ (e ∙ over-3)) in
    omega arith

-- ---- demand 3's field, of whole answers: over the first piece of G, starts 0 and 3 agree for 3 letters, and to the record's end for 5

abbrev G : List ℕ
G = b ∷ b ∷ a ∷ b ∷ b ∷ a ∷ b ∷ b ∷ b ∷ []

pub whole-answers : (calls : Calls) → Meets record_door.door calls → (compare : ℕ → ℕ → ℕ → ℕ → Says (ℤ × ℕ))
    → ((first end start other : ℕ) → calls.Comparing G first end start other (compare first end start other))
    → ¬ Compatible (WholePieces (separated_icfl_ends G)) 9 compare
unfolding tried sign common_length_of separated_icfl_ends
whole-answers calls m compare h same =
    let over-6 : common_said (compare 0 6 0 3) ≡ 3 = ap common_said (m.comparison _ 0 6 0 3 _ (h 0 6 0 3)).answer in
    let over-9 : common_said (compare 0 9 0 3) ≡ 5 = ap common_said (m.comparison _ 0 9 0 3 _ (h 0 9 0 3)).answer in
    let e : compare 0 6 0 3 ≡ compare 0 9 0 3 = same 0 6 0 3 (Memᴰ.head refl, Memᴰ.head refl)
    (omega arith) (omega arith) (omega arith) (omega arith) (λ z. omega arith) in
    let z : ◌≡◌ {A = ℕ} 3 5 = sym over-6 ∙ (ap common_said e ∙ over-9) in
    omega arith
