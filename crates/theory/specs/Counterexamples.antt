-- THEOREMS other-division, strict-is-other, any-range: three of paper 01's "Cuts that a potter would accept and we do not", by its own records. The fourth,
-- the longest r or joining only below |r|, is in the rows of Examples that tell these apart. THEOREM common-not-compatible: demand 3 holds of the sign alone.
use Rattle.std.specs.Prelude.{◌≡◌, refl, true, ℕ, ◌≤◌, length, get_or, ℤ, pos, negsuc}
use Rattle.std.proofs.Common.{ap, arith}
use mathlib.Core.List.Memᴰ
use mathlib.Core.List.{List, [], ◌∷◌, flatten}
use Rattle.words.specs.Words.{◌≪◌, here, there, InverseLyndon, is_inverse_lyndon, common_length_of, sign, common_within}
use Rattle.words.specs.Factorizations.{icfl, icfl_ends, cfl_in, ends_from}
use Rattle.theory.specs.Statements.{end, by, Linked, none, more, WholePieces, Compatible}
use Rattle.words.specs.Examples.{a, b, c, d}
use Rattle.theory.specs.Orders.Decisions.{decides-true}
use Rattle.theory.specs.Lyndon.WordTests.{inverse-lyndon-test}

-- ---- "Ends 7, 12, 15 for J. Those pieces fall, and each loses to the next at a shared byte, yet 7 and 12 are not our cut."

abbrev J : List ℕ
J = d ∷ a ∷ b ∷ a ∷ d ∷ a ∷ b ∷ d ∷ a ∷ b ∷ d ∷ a ∷ d ∷ a ∷ c ∷ []

abbrev one : List ℕ
one = d ∷ a ∷ b ∷ a ∷ d ∷ a ∷ b ∷ []

abbrev two : List ℕ
two = d ∷ a ∷ b ∷ d ∷ a ∷ []

abbrev three : List ℕ
three = d ∷ a ∷ c ∷ []

inverse-lyndon : (w : List ℕ) → is_inverse_lyndon w ≡ true → InverseLyndon w
inverse-lyndon w e = decides-true (inverse-lyndon-test w) e

-- a division of w into inverse Lyndon words of which each is ≪ the next one
pub record FallingDivision (w : List ℕ) (ms : List (List ℕ)) : Type 0 where
  pub product : flatten ms ≡ w
  pub words : Linked InverseLyndon ◌≪◌ ms

pub other-division : FallingDivision J (one ∷ two ∷ three ∷ [])
unfolding is_inverse_lyndon flatten
other-division = record {
  product = refl;
  words = more (inverse-lyndon one refl) (by (there (there (there (here {a = a} {b = d} (omega arith))))))
      (more (inverse-lyndon two refl) (by (there (there (here {a = b} {b = c} (omega arith)))))
      (more (inverse-lyndon three refl) end none));
}

pub other-ends : ends_from 0 (one ∷ two ∷ three ∷ []) ≡ 7 ∷ 12 ∷ 15 ∷ []
unfolding ends_from
other-ends = refl

pub other-is-not : ¬ (one ∷ two ∷ three ∷ [] ≡ icfl J)
unfolding icfl ends_from
other-is-not e = let z : ◌≡◌ {A = ℕ} 7 4 = ap (λ (t : List (List ℕ)). get_or (ends_from 0 t) 0 0) e in absurd (omega arith)

-- ---- "Giving the strict cut as the piece cut: F is one piece."

pub strict-is-other : ¬ (cfl_in (b ∷ a ∷ b ∷ a ∷ []) ≡ icfl (b ∷ a ∷ b ∷ a ∷ []))
unfolding icfl cfl_in
strict-is-other e = let z : ◌≡◌ {A = ℕ} 2 1 = ap (λ (t : List (List ℕ)). length t) e in absurd (omega arith)

-- ---- "Trusting the comparison on a stretch that is not whole pieces. For `bba` over 0 to 2, starts 0 and 1 give +1; over 0 to 3 they give −1."

abbrev above_zero : ℤ → ℕ
above_zero (pos n) = n
above_zero (negsuc n) = 0

pub any-range : ¬ ((w : List ℕ) → Compatible (λ first end. end ≤ length w) (length w) (sign w))
unfolding sign
any-range h =
    let same : sign (b ∷ b ∷ a ∷ []) 0 2 0 1 ≡ sign (b ∷ b ∷ a ∷ []) 0 3 0 1 =
    h (b ∷ b ∷ a ∷ []) 0 2 0 1 (omega arith) (omega arith) (omega arith) (omega arith) (omega arith) (λ z. omega arith) in
    let z : ◌≡◌ {A = ℕ} 1 0 = ap above_zero same in
    absurd (omega arith)

-- ---- demand 3 "speaks of the order only": with how far the starts agree (request 104) it would be false. Over the first piece of G, starts 0 and 3 agree for 3
-- letters, and to the record's end for 5.

abbrev G : List ℕ
G = b ∷ b ∷ a ∷ b ∷ b ∷ a ∷ b ∷ b ∷ b ∷ []

pub common-not-compatible : ¬ ((w : List ℕ) → Compatible (WholePieces (icfl_ends w)) (length w) (common_within w))
unfolding icfl_ends common_length_of
common-not-compatible h =
    let same : common_within G 0 6 0 3 ≡ common_within G 0 9 0 3 =
    h G 0 6 0 3 (Memᴰ.head refl, Memᴰ.head refl) (omega arith) (omega arith) (omega arith) (omega arith) (λ z. omega arith) in
    let z : ◌≡◌ {A = ℕ} 3 5 = same in
    absurd (omega arith)
