-- Lists of pairs, whatever they are of (request 108). Paired n b ps: from b on the ends rise strictly to n, each with a count that is not 0 and not above the
-- length of its part; this is what line 7 of the refusals asks. Then what it tells of ends, entries and pairs; and where the ends stand in a list (ends-half,
-- ends_at).
use Rattle.std.specs.Prelude.{◌≡◌, refl, ◌⊎◌, List, [], ◌∷◌, ℕ, zero, suc, ◌-◌, ◌*◌, ◌/◌, ◌≤◌, ◌<◌, length, get_or}
use Rattle.std.proofs.Common.{inl, inr, arith}
use Rattle.words.specs.Pairs.{ends_of}
use Rattle.theory.specs.PairStatements.{Pair, here, there}
use Rattle.theory.specs.Places.EndsRise.{Rises, rises-most}

pub data Paired (n : ℕ) : ℕ → List ℕ → Type 0 where
  done : {b : ℕ} → b ≡ n → Paired n b []
  more : {b e c : ℕ} {ps : List ℕ} → b < e → 0 < c → c ≤ e - b → Paired n e ps → Paired n b (e ∷ c ∷ ps)

pub paired-rise : {n b : ℕ} {ps : List ℕ} → Paired n b ps → Rises n b (ends_of ps)
unfolding ends_of
paired-rise (done z) = Rises.done z
paired-rise (more h p q r) = Rises.more h (paired-rise r)

pub paired-number : {n b : ℕ} {ps : List ℕ} → Paired n b ps → length ps ≡ 2 * length (ends_of ps)
unfolding ends_of
paired-number (done z) = refl
paired-number (more h p q r) = omega (arith, paired-number r)

-- no entry is above n
pub paired-inside : {n b : ℕ} {ps : List ℕ} → Paired n b ps → (i : ℕ) → get_or ps i 0 ≤ n
paired-inside (done z) i = omega arith
paired-inside (more h p q r) zero = rises-most (paired-rise r)
paired-inside (more h p q r) (suc zero) = omega (arith, rises-most (paired-rise r))
paired-inside (more h p q r) (suc (suc i)) = paired-inside r i

-- ---- single pairs

pub pair-cases : {i j c b e d : ℕ} {ps : List ℕ} → Pair i j c b (e ∷ d ∷ ps) → ((i ≡ b) × (j ≡ e) × (c ≡ d)) ⊎ Pair i j c e ps
pair-cases here = inl (refl, refl, refl)
pair-cases (there x) = inr x

pub pair-none : {i j c b : ℕ} → Pair i j c b [] → ⊥
pair-none x = elim x [ ]

pub pair-bounds : {n i j c b : ℕ} {ps : List ℕ} → Paired n b ps → Pair i j c b ps → (1 ≤ c) × (c ≤ j - i)
pair-bounds (done z) x = absurd (pair-none x)
pair-bounds {i = i} {j = j} {c = c} (more {b = b} {e = e} {c = d} {ps = ps} h p q r) x = go (λ y. pair-bounds r y) (pair-cases x)
  where
    go : (Pair i j c e ps → (1 ≤ c) × (c ≤ j - i)) → ((i ≡ b) × (j ≡ e) × (c ≡ d)) ⊎ Pair i j c e ps → (1 ≤ c) × (c ≤ j - i)
    go next (inl z) = (omega arith, omega arith)
    go next (inr y) = next y

-- ---- where the ends stand

pub ends-half : (ps : List ℕ) → length (ends_of ps) ≡ length ps / 2
unfolding ends_of
ends-half [] = refl
ends-half (e ∷ []) = refl
ends-half (e ∷ c ∷ ps) = omega (arith, ends-half ps)

pub ends_at : (ps : List ℕ) (i : ℕ) → i < length (ends_of ps) → get_or (ends_of ps) i 0 ≡ get_or ps (2 * i) 0
unfolding ends_of
ends_at [] i l = absurd (omega arith)
ends_at (e ∷ []) i l = absurd (omega arith)
ends_at (e ∷ c ∷ ps) zero l = refl
ends_at (e ∷ c ∷ ps) (suc i) l = let z : 2 * suc i ≡ suc (suc (2 * i)) = omega arith in rw z (ends_at ps i (omega arith))
