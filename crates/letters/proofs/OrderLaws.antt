-- Two words where they part: the sign by the letters there (letters-ordered), or sign and number by the lengths (prefix-signed, prefix-ordered).
use mathlib.Core.Path.{◌≡◌, sym, ◌∙◌}
use mathlib.Core.List.{List}
use Prim.Native.Nat.{ℕ, ◌<◌, min}
use native.Mathlib.Omega.{arith}
use lib.ListN.{length, get_or}
use Rattle.std.specs.declared.cmp.Ordering.{Ordering}
use Rattle.std.specs.declared.cmp.Ordering.TheVariants.{Less, Equal, Greater}
use Rattle.std.specs.Ordering.{MatchOrdering, nat_cmp}
use Rattle.std.proofs.lemmas.Cmp.{ranked}
use Rattle.words.specs.Words.{mismatch}
use Rattle.theory.specs.Orders.CommonLength.{Agree, agree-unique, agree-sym, agree_same, agree-shorter, agree-≪, agree-≪-sym}
use Rattle.theory.specs.Orders.WordSigns.{SignOfWords, before, same, after}
use Rattle.letters.specs.declared.Order.{Order}
use Rattle.letters.specs.Steps.{sign_of, PrefixSign, PrefixOrdered, PartedAt, Ordered}

-- both go on, with letters that differ
pub letters-ordered : {x y : List ℕ} {l : ℕ} (r : Ordering) → PartedAt x y l → r ≡ nat_cmp (get_or y l 0) (get_or x l 0) → SignOfWords x y (sign_of r)
letters-ordered {x} {y} {l} r p e = go r (ranked (get_or y l 0) (get_or x l 0) r e)
  where
    go : (r : Ordering) → MatchOrdering r (get_or y l 0 < get_or x l 0) (get_or y l 0 ≡ get_or x l 0) (get_or x l 0 < get_or y l 0)
        → SignOfWords x y (sign_of r)
    go Less h = before (mismatch (agree-≪-sym p.agree p.left p.right (omega arith)))
    go Equal h = absurd (p.agree.differ p.left p.right (sym h))
    go Greater h = after (mismatch (agree-≪ p.agree p.left p.right h))

pub prefix-signed : (m n : ℕ) (r : Ordering) → r ≡ nat_cmp m n → PrefixSign m n r
prefix-signed m n r e = go r (ranked m n r e)
  where
    go : (r : Ordering) → MatchOrdering r (m < n) (m ≡ n) (n < m) → PrefixSign m n r
    go Less h = PrefixSign.before h
    go Equal h = PrefixSign.same h
    go Greater h = PrefixSign.after h

-- the letters are equal to the end of one of them
module _ {x y : List ℕ} (g : Agree x y (min (length x) (length y))) where
  prefix-sign : {r : Ordering} → PrefixSign (length x) (length y) r → SignOfWords x y (sign_of r)
  prefix-sign (PrefixSign.before h) = before (agree-shorter g (omega arith) h)
  prefix-sign (PrefixSign.same e) = same (agree_same g (omega arith) (omega arith))
  prefix-sign (PrefixSign.after h) = after (agree-shorter (agree-sym g) (omega arith) h)

  pub prefix-ordered : {r : Order} → PrefixOrdered (length x) (length y) r → Ordered x y r
  prefix-ordered o = record { sign-is = prefix-sign o.sign-is; common-is = o.common-is ∙ agree-unique x y (min (length x) (length y)) g }
