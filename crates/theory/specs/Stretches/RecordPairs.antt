-- THEOREM pairs-are. What request 108 says of the pairs of a record is true of separated_pairs: their ends are those of the piece cut (pairs-ends), each count
-- is the number of strict pieces of its piece cut alone (count-alone), 1 for a mark, at least 1 and at most the piece's length (pairs-paired), and all add up
-- to the number of strict pieces (pairs-sum). That every piece ends where a strict piece ends (pieces-strict) is what it rests on.
use Rattle.std.specs.Prelude.{◌≡◌, refl, ℕ, ◌*◌, length}
use Rattle.std.proofs.Common.{ap, arith}
use mathlib.Core.List.{List, [], ◌∷◌}
use Rattle.words.specs.Pairs.{pairs_from, ends_of}

-- ---- of any ends es and strict ends ss

pub pairs-ends-from : (i : ℕ) (es ss : List ℕ) → ends_of (pairs_from i es ss) ≡ es
unfolding pairs_from ends_of
pairs-ends-from i [] ss = refl
pairs-ends-from i (e ∷ es) ss = ap (λ (t : List ℕ). e ∷ t) (pairs-ends-from e es ss)

pub pairs-number : (i : ℕ) (es ss : List ℕ) → length (pairs_from i es ss) ≡ 2 * length es
unfolding pairs_from
pairs-number i [] ss = refl
pairs-number i (e ∷ es) ss = omega (arith, pairs-number e es ss)
