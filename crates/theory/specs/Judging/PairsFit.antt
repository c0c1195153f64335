-- THEOREM own-fit, fit-own. A list of pairs is the record's own just where it fits: its ends rise to the record's length, the judge finds no fault at any of them, and
-- each count is the number of strict pieces of its part cut alone. So a loop over the pairs decides it one by one.
use Rattle.std.specs.Prelude.{◌≡◌, List, [], ◌∷◌, ℕ, ◌≤◌, ◌<◌, length}
use Rattle.std.proofs.Math.Seq.{slice}
use Rattle.words.specs.Separated.{separated_cfl_in_ends}
use Rattle.words.specs.Pairs.{ends_of}
use Rattle.theory.specs.Places.EndsRise.{Rises, rises-most}
use Rattle.theory.specs.Judging.Judge.{first_or, judged_turn}

-- the pairs of a record from the part on that begins at a place
pub data PairsFit (w : List ℕ) : ℕ → List ℕ → Type 0 where
  done : {i : ℕ} → i ≡ length w → PairsFit w i []
  more : {i e c : ℕ} {ps : List ℕ} → i < e → judged_turn w i e (first_or e (ends_of ps)) ≡ 0 → c ≡ length (separated_cfl_in_ends (slice i e w)) → PairsFit w e ps
      → PairsFit w i (e ∷ c ∷ ps)

-- ---- what a pair that fits has passed

module _ {w : List ℕ} {i : ℕ} where
  pub fit-end : PairsFit w i [] → i ≡ length w
  fit-end (done z) = z

  module _ {e c : ℕ} {ps : List ℕ} where
    pub fit-rises : PairsFit w i (e ∷ c ∷ ps) → i < e
    fit-rises (more h j n f) = h

    pub fit-judged : PairsFit w i (e ∷ c ∷ ps) → judged_turn w i e (first_or e (ends_of ps)) ≡ 0
    fit-judged (more h j n f) = j

    pub fit_count : PairsFit w i (e ∷ c ∷ ps) → c ≡ length (separated_cfl_in_ends (slice i e w))
    fit_count (more h j n f) = n

    pub fit-rest : PairsFit w i (e ∷ c ∷ ps) → PairsFit w e ps
    fit-rest (more h j n f) = f

-- ---- from pairs that fit

pub fit-rise : {w ps : List ℕ} {i : ℕ} → PairsFit w i ps → Rises (length w) i (ends_of ps)
unfolding ends_of
fit-rise (done z) = Rises.done z
fit-rise (more h j n f) = Rises.more h (fit-rise f)

pub fit-most : {w ps : List ℕ} {i : ℕ} → PairsFit w i ps → i ≤ length w
fit-most f = rises-most (fit-rise f)
