-- Laws of anti-Lyndon words: letters, products, and the longest anti-Lyndon prefix.
use Rattle.std.specs.Prelude.{List, ℕ, ◌<◌, length}
use Rattle.std.proofs.Common.{sym, inl, inr, arith}
use Rattle.std.proofs.Math.Decide.{dec_lt}
use Rattle.words.specs.Words.{proper, prefix, mismatch}
use Rattle.theory.specs.Orders.PrefixLaws.{⊑-whole}
use Rattle.theory.specs.Orders.InverseLaws.{◌≼◌, won, pre, ≼_refl, ≺-≼}
use Rattle.theory.specs.Statements.{EqualOrAfter}

pub ≼-equal-or-after : {l m : List ℕ} → m ≼ l → EqualOrAfter l m
≼-equal-or-after (won h) = inr (mismatch h)
≼-equal-or-after {l} {m} (pre h) = go (dec_lt (length m) (length l))
  where
    go : Dec (length m < length l) → EqualOrAfter l m
    go (yes k) = inr (prefix (proper h k))
    go (no k) = inl (sym (⊑-whole h (omega arith)))

pub equal-or-after-≼ : {l m : List ℕ} → EqualOrAfter l m → m ≼ l
equal-or-after-≼ {l} {m} (inl e) = rw e (≼_refl m)
equal-or-after-≼ (inr h) = ≺-≼ h
