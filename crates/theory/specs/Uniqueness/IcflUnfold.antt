-- The bound of icfl_within does not matter: icfl satisfies paper 01's recursive sentence as it stands (source 004, Definition 4.3).
use Rattle.std.specs.Prelude.{◌≡◌, List, [], ◌∷◌, ℕ, ◌<◌, length, take, drop}
use Rattle.std.proofs.Common.{sym}
use Rattle.words.specs.Words.{InverseLyndon}
use Rattle.words.specs.Factorizations.{icfl, join_first, prefix_length, border_length}
use Rattle.theory.specs.Icfl.IcflFactors.{whole-factors, step-factors, icfl-factors}
use Rattle.theory.specs.Icfl.BorderLength.{step_is}
use Rattle.theory.specs.Uniqueness.IcflUnique.{icfl-unique}

pub icfl-whole : (w : List ℕ) → InverseLyndon w → icfl w ≡ w ∷ []
icfl-whole w k = let f = whole-factors k in sym (icfl-unique w _ f.dominated f.product)

pub icfl-step : (w : List ℕ) → 0 < length w → ¬ InverseLyndon w → icfl w ≡ join_first (take (prefix_length w) w) (border_length w) (icfl (drop (prefix_length w) w))
icfl-step w s n = let f = step-factors w (step_is w s n) _ (icfl-factors (drop (prefix_length w) w)) in sym (icfl-unique w _ f.dominated f.product)
