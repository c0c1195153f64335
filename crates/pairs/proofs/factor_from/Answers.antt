-- The end before pair number is entry number of the ends with 0 in front.
use mathlib.Core.Path.{◌≡◌, refl, ◌∙◌}
use mathlib.Core.List.{List}
use Prim.Native.Nat.{ℕ, zero, suc, ◌-◌}
use native.Mathlib.Omega.{arith}
use lib.ListN.{get_or}
use Rattle.words.specs.Pairs.{ends_of}
use Rattle.pairs.specs.PairedList.{factor_begin}
use Rattle.pairs.proofs.factor_from.Goals as goal

before : (es : List ℕ) (k : ℕ) → ¬ (k ≡ 0) → get_or es (k - 1) 0 ≡ factor_begin es k
before es zero n = absurd (n refl)
before es (suc k) n = let z : suc k - 1 ≡ k = omega arith in rw z refl

pub returns : goal.returns
returns c = c.factor_end.ensures ∙ before (ends_of c.args.pairs.now) c.args.number c.if-number-eq0.false
