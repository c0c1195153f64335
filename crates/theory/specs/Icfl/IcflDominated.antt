-- THEOREM icfl-dominated. Each factor is inverse Lyndon, and every nonempty suffix of a factor is below the next factor by a
-- mismatch (source 004, Lemma 4.9, and more). For inverse Lyndon words that is the same as: each factor is below the next by a mismatch, and
-- no nonempty border of a factor begins the next (dominated-borders; for a list linked-borders; for icfl icfl-borders).
use Rattle.std.specs.Prelude.{refl, ◌↔◌, List, [], ℕ, zero, suc, ◌<◌, length, drop}
use Rattle.std.proofs.Common.{arith}
use Rattle.words.specs.Words.{◌≪◌, ◌⊑◌, InverseLyndon}
use Rattle.words.specs.Factorizations.{icfl}
use Rattle.theory.specs.Statements.{DominatedBy, BelowByBorders, Linked}
use Rattle.theory.specs.Places.LinkedLaws.{linked-map}
use Rattle.theory.specs.Orders.MismatchLaws.{≪-trans, ≪-not-⊑}
use Rattle.theory.specs.Orders.LexLaws.{◌≤ₗ◌, lost, pre, ≤ₗ-≪-trans}
use Rattle.theory.specs.Lyndon.WordTests.{suffix-below}
use Rattle.theory.specs.Lyndon.Suffixes.{by-places, dominated}
use Rattle.theory.specs.Icfl.IcflFactors.{icfl-factors}

pub icfl-dominated : (w : List ℕ) → Linked InverseLyndon DominatedBy (icfl w)
icfl-dominated w = (icfl-factors w).dominated

-- ---- the same by borders

pub dominated-borders : (m n : List ℕ) → InverseLyndon m → DominatedBy m n ↔ BelowByBorders m n
dominated-borders m n k = (λ d. (d [] m refl k.nonempty, λ u s e p q h b. ≪-not-⊑ (d u s e q) b), λ b. dominated (from b))
  where
    known : {x : List ℕ} → x ≤ₗ n → ¬ (x ⊑ n) → x ≪ n
    known (lost h) b = h
    known (pre h) b = absurd (b h)

    from : BelowByBorders m n → (i : ℕ) → i < length m → drop i m ≪ n
    from b zero l = b.0
    from b (suc i) l = near (suffix-below k (suc i))
      where
        near : drop (suc i) m ≤ₗ m → drop (suc i) m ≪ n
        near (lost h) = ≪-trans h b.0
        near (pre h) =
            known (≤ₗ-≪-trans (pre h) b.0) (by-places (λ s. s ⊑ m → ¬ (s ⊑ n)) m 1 b.1 (suc i) (omega arith) l h)

pub linked-borders : (ms : List (List ℕ)) → Linked InverseLyndon DominatedBy ms ↔ Linked InverseLyndon BelowByBorders ms
linked-borders ms = (linked-map (λ m n k. (dominated-borders m n k).0), linked-map (λ m n k. (dominated-borders m n k).1))

pub icfl-borders : (w : List ℕ) → Linked InverseLyndon BelowByBorders (icfl w)
icfl-borders w = (linked-borders (icfl w)).0 (icfl-dominated w)
