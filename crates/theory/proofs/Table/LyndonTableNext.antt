-- THEOREM lyndon-table-next. The entry at i is the distance from i to the next place whose suffix comes before the suffix at i in
-- the inverse order, or to the end.
use Rattle.std.specs.Prelude.{◌≡◌, ◌⊎◌, List, ◌∷◌, ℕ, ◌+◌, ◌-◌, ◌<◌, length, take, drop, get_or}
use Rattle.std.proofs.Common.{subst, inl, inr, zero-le, arith, length-drop, drop-drop, length-take-le}
use Rattle.std.proofs.Math.Decide.{dec_lt}
use Rattle.buffers.proofs.PartLaws.{drop-to}
use Rattle.words.specs.Words.{◌≺◌}
use Rattle.words.specs.Factorizations.{longest_anti_lyndon, cfl_in, lyndon_table}
use Rattle.theory.specs.Orders.PrefixLaws.{take-⊑, ⊑-drop}
use Rattle.theory.specs.Orders.MismatchLaws.{≪-extend}
use Rattle.theory.specs.Orders.InverseLaws.{≺-≼, ≼-≺, ≼-not-≪}
use Rattle.theory.specs.Lyndon.WordTests.{suffix-loses}
use Rattle.theory.specs.Lyndon.AntiLyndonLaws.{Longest, longest-is, longest-positive}
use Rattle.theory.specs.Places.FirstSuffixes.{Boundary, start, later}
use Rattle.theory.proofs.CflIn.CflInUnfold.{cfl-in-step}
use Rattle.theory.proofs.CflIn.CflInFirst.{cfl-in-boundary-first}
use Rattle.theory.specs.Table.LyndonTableCflIn.{lyndon-table-at}
use Rattle.theory.specs.Table.LyndonTableNext.{NextBefore}

-- at place 0
longest-next : (v : List ℕ) → 0 < length v → NextBefore v 0 (longest_anti_lyndon v)
longest-next v l = record { after = positive; inside = x.upto; stops = go (dec_lt n (length v)); between = between }
  where
    n : ℕ
    n = longest_anti_lyndon v

    x : Longest v (length v) n
    x = longest-is v

    positive : 0 < n
    positive = longest-positive v l

    size : length (take n v) ≡ n
    size = length-take-le n v x.upto

    boundary : Boundary n (cfl_in v)
    boundary =
        let e : length (take n v) + 0 ≡ n = omega (arith, size) in
        rw (cfl-in-step v l) (subst (λ (m : ℕ). Boundary m (take n v ∷ cfl_in (drop n v))) e (later start))

    go : Dec (n < length v) → (n ≡ length v) ⊎ (drop n v ≺ v)
    go (no h) = inl (omega (arith, x.upto))
    go (yes h) = inr (≼-≺ (cfl-in-boundary-first v n boundary 0 zero-le) (λ z. omega (arith, simp length-drop at z, positive)))

    between : (k : ℕ) → 0 < k → k < n → ¬ (drop k v ≺ v)
    between k p b h =
        let q = take-⊑ n v in
        ≼-not-≪ (≺-≼ h) (≪-extend (suffix-loses (x.word positive) k p (rw size b)) (⊑-drop k q) q)

pub lyndon-table-next : (w : List ℕ) (i : ℕ) → i < length w → NextBefore w i (i + get_or (lyndon_table w) i 0)
lyndon-table-next w i l = rw (lyndon-table-at w i l) (go (longest-next (drop i w) (rw length-drop (omega arith))))
  where
    go : {n : ℕ} → NextBefore (drop i w) 0 n → NextBefore w i (i + n)
    go {n} x = record {
      after = omega (arith, x.after);
      inside = omega (arith, x.inside, length-drop i w);
      stops = stops x.stops;
      between = λ k a b h. x.between (k - i) (omega arith) (omega arith) (rw (drop-to i k w (omega arith)) h);
    }
      where
        stops : (n ≡ length (drop i w)) ⊎ (drop n (drop i w) ≺ drop i w) → (i + n ≡ length w) ⊎ (drop (i + n) w ≺ drop i w)
        stops (inl e) = inl (omega (arith, length-drop i w))
        stops (inr h) = inr (rw drop-drop at h)
