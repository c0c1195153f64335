-- What the sign says (sign-is), that no other number is so (sign-only), and when two ranges give the same sign (sign-same-order).
use Rattle.std.specs.Prelude.{◌≡◌, refl, List, Bool, true, false, ℕ, eqb, ℤ, pos, negsuc}
use Rattle.std.proofs.Common.{ap}
use Rattle.words.specs.Words.{◌≺◌, remainder, sign}
use Rattle.theory.specs.Statements.{SignOf}
use Rattle.theory.specs.Orders.Decisions.{Decides, holds, fails, eqb-test, decides-map, decides-unique}
use Rattle.theory.specs.Orders.OrderTests.{inverse-before-test}

pub sign-is : (w : List ℕ) (first end start other : ℕ) → SignOf w first end start other (sign w first end start other)
unfolding sign
sign-is w first end start other = go (eqb-test start other) (inverse-before-test (remainder w first end start) (remainder w first end other))
  where
    go : {s t : Bool} → Decides (start ≡ other) s → Decides (remainder w first end start ≺ remainder w first end other) t
        → SignOf w first end start other (elim s [ true ↦ pos 0 | false ↦ elim t [ true ↦ negsuc 0 | false ↦ pos 1 ] ])
    go (holds e) d = SignOf.equal e
    go (fails n) (holds h) = SignOf.before n h
    go (fails n) (fails h) = SignOf.after n h

pub sign-only : {w : List ℕ} {first end start other : ℕ} {s t : ℤ} → SignOf w first end start other s → SignOf w first end start other t → s ≡ t
sign-only (SignOf.before n k) (SignOf.before m l) = refl
sign-only (SignOf.before n k) (SignOf.equal e) = absurd (n e)
sign-only (SignOf.before n k) (SignOf.after m l) = absurd (l k)
sign-only (SignOf.equal e) (SignOf.before n k) = absurd (n e)
sign-only (SignOf.equal e) (SignOf.equal d) = refl
sign-only (SignOf.equal e) (SignOf.after n k) = absurd (n e)
sign-only (SignOf.after n k) (SignOf.before m l) = absurd (k l)
sign-only (SignOf.after n k) (SignOf.equal e) = absurd (n e)
sign-only (SignOf.after n k) (SignOf.after m l) = refl

-- two ranges in which the remainders come in the same order
pub sign-same-order : (w : List ℕ) (first end first' end' start other : ℕ)
    → (remainder w first end start ≺ remainder w first end other → remainder w first' end' start ≺ remainder w first' end' other)
    → (remainder w first' end' start ≺ remainder w first' end' other → remainder w first end start ≺ remainder w first end other)
    → sign w first end start other ≡ sign w first' end' start other
unfolding sign
sign-same-order w first end first' end' start other f g = ap
    (λ (before : Bool). elim (eqb start other) [ true ↦ pos 0 | false ↦ elim before [ true ↦ negsuc 0 | false ↦ pos 1 ] ])
    (decides-unique (decides-map f g (inverse-before-test _ _)) (inverse-before-test _ _))
