-- The shortest failing prefix, and |p| and |r|, of a word that goes on: past a prefix that fails nothing changes (border-append, prefix-append); where an inverse
-- Lyndon word is followed by a letter above its first, the word fails just there, with an empty r (border-larger, prefix-larger).
use Rattle.std.specs.Prelude.{◌≡◌, List, [], ◌∷◌, ◌++◌, ℕ, suc, ◌+◌, ◌-◌, ◌<◌, length, take}
use Rattle.std.proofs.Common.{◌∙◌, arith, length-append, drop_of_length-le, length-take-le}
use Rattle.std.proofs.lemmas.List.{take-append-le}
use Rattle.std.proofs.Math.Seq.{take-append-add, drop-append_seam}
use Rattle.words.specs.Words.{◌≪◌, done, InverseLyndon}
use Rattle.words.specs.Factorizations.{failing_length, border_length, prefix_length}
use Rattle.theory.specs.Orders.PrefixLaws.{take-⊑}
use Rattle.theory.specs.Orders.LexLaws.{pre, ≤ₗ-not-≪}
use Rattle.theory.specs.Lyndon.WordTests.{suffix-below}
use Rattle.theory.specs.Lyndon.AntiLyndonLaws.{letter-anti-lyndon, anti-inverse-lyndon}
use Rattle.theory.specs.Icfl.Extension.{prefix-inverse-lyndon}
use Rattle.theory.specs.Icfl.Failing.{Failing, failing-is, failing-unique, Shortest}
use Rattle.theory.specs.Icfl.BorderLength.{border-least, least-border-is, prefix-length}

-- ---- past a prefix that fails

module _ (v y : List ℕ) (s : 0 < length v) (n : ¬ InverseLyndon v) where
  x : Failing v (failing_length v)
  x = failing-is v s n

  goes_on : Failing (v ++ y) (failing_length v)
  goes_on = record {
    positive = x.positive;
    inside = rw length-append (omega (arith, x.inside));
    fails = rw (take-append-le (failing_length v) v y x.inside) x.fails;
    before = λ j a b. rw (take-append-le j v y (omega (arith, x.inside))) (x.before j a b);
  }

  same : failing_length (v ++ y) ≡ failing_length v
  same = failing-unique (v ++ y) (failing_length v) goes_on

  pub border-append : border_length (v ++ y) ≡ border_length v
  border-append =
      border-least (v ++ y) (border_length v) (rw same goes_on)
      (rw (same, take-append-le (failing_length v) v y x.inside) (least-border-is v x).shortest)

  pub prefix-append : prefix_length (v ++ y) ≡ prefix_length v
  prefix-append = rw (prefix-length (v ++ y), prefix-length v, same, border-append)

-- ---- at a letter above the first

-- no prefix that holds such a letter is inverse Lyndon: a scan stops there
pub past-larger-fails : (a b : ℕ) (x u : List ℕ) (j : ℕ) → a < b → length (a ∷ x) < j → ¬ InverseLyndon (take j ((a ∷ x) ++ b ∷ u))
past-larger-fails a b x u j h l k =
    let n : ℕ = j - suc (length (a ∷ x)) in
    let z : j ≡ length (a ∷ x) + suc n = omega arith in
    let e : InverseLyndon ((a ∷ x) ++ b ∷ take n u) = rw (z, take-append-add (a ∷ x) (b ∷ u) (suc n)) at k in
    ≤ₗ-not-≪ (rw drop-append_seam at (suffix-below e (length (a ∷ x)))) (◌≪◌.here h)

take-one-more : (v y : List ℕ) (b : ℕ) → take (suc (length v)) (v ++ b ∷ y) ≡ v ++ b ∷ []
take-one-more v y b = let z : suc (length v) ≡ length v + 1 = omega arith in rw z (take-append-add v (b ∷ y) 1)

module _ (a b : ℕ) (t y : List ℕ) (h : a < b) (k : InverseLyndon (a ∷ t)) where
  abbrev v : List ℕ
  v = a ∷ t

  failing : Failing (v ++ b ∷ y) (suc (length v))
  failing = record {
    positive = omega arith;
    inside = rw length-append (omega arith);
    fails = past-larger-fails a b t y (suc (length v)) h (omega arith);
    before = λ j l m. rw (take-append-le j v (b ∷ y) (omega arith)) (prefix-inverse-lyndon (take-⊑ j v) (rw (length-take-le j v (omega arith)) l) k);
  }

  length-is : failing_length (v ++ b ∷ y) ≡ suc (length v)
  length-is = failing-unique (v ++ b ∷ y) (suc (length v)) failing

  -- the last letter alone is above the word
  last_letter : Shortest (v ++ b ∷ []) 0
  last_letter =
      let size : length (v ++ b ∷ []) ≡ suc (length v) = rw length-append (omega arith) in
      let place : suc (length v) - 1 ≡ length v = omega arith in
      record {
        inside = omega (arith, size);
        above = rw (size, place, drop-append_seam) (◌≪◌.here h);
        shorter = λ j l. rw (drop_of_length-le (v ++ b ∷ []) {i = j} (omega (arith, size, rw size at l))) (pre done);
        word = rw (size, place, drop-append_seam) (anti-inverse-lyndon (letter-anti-lyndon b));
      }

  pub border-larger : border_length (v ++ b ∷ y) ≡ 0
  border-larger = border-least (v ++ b ∷ y) 0 (rw length-is failing) (rw (length-is, take-one-more v y b) last_letter)

  pub prefix-larger : prefix_length (v ++ b ∷ y) ≡ length v
  prefix-larger = prefix-length (v ++ b ∷ y) ∙ rw (length-is, border-larger) (omega arith)
