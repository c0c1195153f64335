-- The sign of two words in the inverse order. Over a range the sign is that of the two parts of the word from the starts to the end (sign-parts).
use Rattle.std.specs.Prelude.{◌≡◌, refl, List, ℕ, ◌≤◌, ◌<◌, length, take, ℤ, pos, negsuc}
use Rattle.std.proofs.Common.{ap, sym, ◌∙◌, arith, length-drop, length-take-le}
use Rattle.buffers.proofs.PartLaws.{drop-to, part, part-is}
use Rattle.words.specs.Words.{◌≺◌, remainder, sign}
use Rattle.theory.specs.Statements.{SignOf}
use Rattle.theory.specs.Orders.InverseLaws.{≺-≼, ≺-irrefl, ≺-not-≼}
use Rattle.theory.specs.Orders.SignLaws.{sign-is}

pub data SignOfWords (x y : List ℕ) : ℤ → Type 0 where
  before : x ≺ y → SignOfWords x y (negsuc 0)
  same : x ≡ y → SignOfWords x y (pos 0)
  after : y ≺ x → SignOfWords x y (pos 1)

pub part-remainder : (w : List ℕ) (first end start : ℕ) → first ≤ start → part start end w ≡ remainder w first end start
part-remainder w first end start l = part-is start end w ∙ sym (drop-to first start (take end w) l)

pub sign-parts : (w : List ℕ) (first end start other : ℕ) {s : ℤ} → end ≤ length w → first ≤ start → start < end → first ≤ other → other < end
    → SignOfWords (part start end w) (part other end w) s → s ≡ sign w first end start other
sign-parts w first end start other h a b c d x =
    go (rw (part-remainder w first end start a, part-remainder w first end other c) at x) (sign-is w first end start other)
  where
    go : {s t : ℤ} → SignOfWords (remainder w first end start) (remainder w first end other) s → SignOf w first end start other t → s ≡ t
    go (before k) (SignOf.before n m) = refl
    go (before k) (SignOf.equal e) = absurd (≺-irrefl (rw e at k))
    go (before k) (SignOf.after n m) = absurd (m k)
    go (same e) (SignOf.before n k) = absurd (≺-irrefl (rw e at k))
    go (same e) (SignOf.equal d) = refl
    go (same e) (SignOf.after n m) = absurd (n (omega (arith, simp (length-drop, length-take-le end w h) at (ap length e))))
    go (after k) (SignOf.before n m) = absurd (≺-not-≼ m (≺-≼ k))
    go (after k) (SignOf.equal e) = absurd (≺-irrefl (rw e at k))
    go (after k) (SignOf.after n m) = refl
