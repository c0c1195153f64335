-- What the judge's code leans on.
--   judge-part-whole, judge-part-failing     a part by its scan: it ends, or stops at a larger letter
--   scanned-border, last-border, last_none   the last factor by scans: of the word, of its longest border, and so on
--   ours-judged, judged-ours                 a judgement of 0
use Rattle.std.proofs.Math.Path.{◌≡◌, refl, ap}
use Rattle.std.proofs.Common.{sym, ◌∙◌, arith, take-take, take-add, length-take-le, drop_at}
use Rattle.std.specs.Prelude.{List, Bool, ℕ, ◌+◌, ◌-◌, ◌≤◌, ◌<◌, length, take, drop}
use Rattle.std.proofs.Math.Bool.{true, false}
use Rattle.std.proofs.Math.Decide.{dec_lt}
use Rattle.std.proofs.Math.Seq.{slice}
use Rattle.words.specs.Words.{InverseLyndon}
use Rattle.words.specs.Factorizations.{failing_length}
use Rattle.theory.specs.Orders.Decisions.{Decides, holds, fails}
use Rattle.theory.specs.Lyndon.WordTests.{inverse-lyndon-test}
use Rattle.theory.specs.Icfl.Failing.{Failing, failing-unique, failing-not}
use Rattle.theory.specs.Scan.Scanned.{Scanned, Stops, scanned-failing, scanned-after, border-front}
use Rattle.theory.specs.Judging.Judge.{judged_part}

-- ---- parts

module _ (w : List ℕ) (i j : ℕ) where
  pub judge-part-whole : InverseLyndon (slice i j w) → judged_part w i j ≡ 0
  unfolding judged_part
  judge-part-whole k = go (inverse-lyndon-test (slice i j w))
    where
      go : {t : Bool} → Decides (InverseLyndon (slice i j w)) t → ◌≡◌ {A = ℕ} (elim t [ true ↦ 0 | false ↦ i + failing_length (slice i j w) ]) 0
      go (holds h) = refl
      go (fails h) = absurd (h k)

  pub judge-part-failing : (l : ℕ) → Failing (slice i j w) l → judged_part w i j ≡ i + l
  unfolding judged_part
  judge-part-failing l f = go (inverse-lyndon-test (slice i j w))
    where
      go : {t : Bool} → Decides (InverseLyndon (slice i j w)) t → ◌≡◌ {A = ℕ} (elim t [ true ↦ 0 | false ↦ i + failing_length (slice i j w) ]) (i + l)
      go (holds h) = absurd (failing-not f h)
      go (fails h) = ap (λ (n : ℕ). i + n) (failing-unique (slice i j w) l f)

pub scanned-from : {w : List ℕ} {n b : ℕ} (k : ℕ) → n ≤ k → k ≤ length w → Scanned (take k w) n b → Scanned w n b
scanned-from {w} {n} {b} k l h s =
    let z : take n (take k w) ≡ take n w = take-take n k w l in
    record { shorter = s.shorter; inside = omega arith; word = rw z at s.word; period = rw z at s.period }

-- the border of n letters, at their front
pub border-is : {w : List ℕ} {n b : ℕ} → Scanned w n b → drop (n - b) (take n w) ≡ take b w
border-is {w} {n} {b} s = border-front w n b s.inside (omega (arith, s.shorter)) s.period.repeats

-- a border that is no shorter than the period is scanned already
pub scanned-border : {w : List ℕ} {n b : ℕ} → Scanned w n b → (p : ℕ) → p ≡ n - b → p ≤ b → Scanned w b (b - p)
scanned-border {w} {n} {b} s p e l =
    let a = scanned-after s p e l in
    let z : p + b ≡ n = omega (arith, s.shorter) in
    let shifted : take b (drop p w) ≡ take b w = sym (drop_at (take p w) (take b (drop p w)) p (length-take-le p w (omega (arith, s.inside))))
    ∙ ap (drop p) (sym (take-add p b w) ∙ ap (λ (m : ℕ). take m w) z) ∙ (rw (← e) at (border-is s)) in
    record {
      shorter = a.shorter;
      inside = omega (arith, s.shorter, s.inside);
      word = rw shifted at a.word;
      period = rw shifted at a.period;
    }

-- a scan of an inverse Lyndon word reads all letters
pub scanned-all : {w : List ℕ} {n b : ℕ} → Scanned w n b → Stops w n b → InverseLyndon w → n ≡ length w
scanned-all {w} {n} {b} s h k = go (dec_lt n (length w))
  where
    go : Dec (n < length w) → n ≡ length w
    go (yes l) = absurd (failing-not (scanned-failing s l (h l)) k)
    go (no l) = omega (arith, s.inside)
