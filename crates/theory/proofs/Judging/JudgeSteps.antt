-- What the judge's code leans on.
--   judge-part-whole, judge-part-failing     a part by its scan: it ends, or stops at a larger letter
--   scanned-border, last-border, last_none   the last factor by scans: of the word, of its longest border, and so on
--   ours-judged, judged-ours                 a judgement of 0
use Rattle.std.proofs.Math.Path.{◌≡◌, refl, ap}
use Rattle.std.proofs.Common.{sym, ◌∙◌, arith, le_refl, length-drop, take-take, take_all, length-take-le}
use Rattle.std.specs.Prelude.{List, ℕ, ◌-◌, ◌≤◌, ◌<◌, length, take, drop}
use Rattle.std.proofs.Math.Decide.{dec_lt}
use Rattle.std.proofs.Math.Seq.{take-length, drop-length}
use Rattle.words.specs.Factorizations.{longest_anti_lyndon, cfl_in}
use Rattle.theory.specs.CflIn.CflInUnfold.{cfl-in-empty}
use Rattle.theory.proofs.CflIn.CflInUnfold.{cfl-in-step}
use Rattle.theory.specs.EndsStatements.{Verdict, ours, other}
use Rattle.theory.specs.Places.EndsRise.{Rises}
use Rattle.theory.specs.Scan.Scanned.{Scanned, scanned-longest}
use Rattle.words.specs.Separated.{separated_icfl_ends, UpToSeparator}
use Rattle.theory.specs.Stretches.Factors.{separated-icfl-ends-rise}
use Rattle.theory.specs.Judging.LastFactor.{last_word}
use Rattle.theory.specs.Judging.Judge.{judged_from}
use Rattle.theory.proofs.Judging.Verdicts.{judge-is}
use Rattle.theory.specs.Judging.JudgeSteps.{border-is}

-- ---- the last factor

last-whole : (m : List ℕ) → 0 < length m → longest_anti_lyndon m ≡ length m → last_word (cfl_in m) ≡ m
unfolding last_word
last-whole m p e = rw (cfl-in-step m p, e, drop-length m, cfl-in-empty) (take-length m)

last_step : (m : List ℕ) → longest_anti_lyndon m < length m → last_word (cfl_in m) ≡ last_word (cfl_in (drop (longest_anti_lyndon m) m))
unfolding last_word
last_step m l = rw (cfl-in-step m (omega arith), cfl-in-step (drop (longest_anti_lyndon m) m) (rw length-drop (omega arith)))

-- ---- the last factor by scans: a scan's longest border b, and the word that it is

scanned-within : {w : List ℕ} {n b : ℕ} (k : ℕ) → n ≤ k → Scanned w n b → Scanned (take k w) n b
scanned-within {w} {n} {b} k l s =
    let z : take n (take k w) ≡ take n w = take-take n k w l in
    record { shorter = s.shorter; inside = inside_both (dec_lt (length w) k); word = rw z s.word; period = rw z s.period }
  where
    inside_both : Dec (length w < k) → n ≤ length (take k w)
    inside_both (yes h) = rw (take_all k w (omega arith)) s.inside
    inside_both (no h) = rw (length-take-le k w (omega arith)) l

pub last-border : {w : List ℕ} {n b : ℕ} → Scanned w n b → 0 < b → last_word (cfl_in (take n w)) ≡ last_word (cfl_in (take b w))
last-border {w} {n} {b} s p =
    let m : List ℕ = take n w in
    let size : length m ≡ n = length-take-le n w s.inside in
    let longest : longest_anti_lyndon m ≡ n - b = scanned-longest (scanned-within n (le_refl n) s) (λ l. absurd (omega arith)) in
    last_step m (rw longest (omega (arith, s.shorter))) ∙ ap (λ (x : List ℕ). last_word (cfl_in x)) (rw longest (border-is s))

pub last_none : {w : List ℕ} {n : ℕ} → Scanned w n 0 → last_word (cfl_in (take n w)) ≡ take n w
last_none {w} {n} s =
    let size : length (take n w) ≡ n = length-take-le n w s.inside in
    let longest : longest_anti_lyndon (take n w) ≡ n - 0 = scanned-longest (scanned-within n (le_refl n) s) (λ l. absurd (omega arith)) in
    last-whole (take n w) (omega (arith, s.shorter)) (longest ∙ omega arith)

-- ---- what a judgement of 0 says

pub ours-judged : (w es : List ℕ) → UpToSeparator w → es ≡ separated_icfl_ends w → judged_from w 0 es ≡ 0
ours-judged w es up e = go (judge-is w es up (rw e (separated-icfl-ends-rise w)))
  where
    go : {q : ℕ} → Verdict w es q → q ≡ 0
    go (ours f) = refl
    go (other f) = absurd (f w refl refl (sym e))

pub judged-ours : (w es : List ℕ) → UpToSeparator w → Rises (length w) 0 es → judged_from w 0 es ≡ 0 → es ≡ separated_icfl_ends w
judged-ours w es up r z = go (judge-is w es up r) z
  where
    go : {q : ℕ} → Verdict w es q → q ≡ 0 → es ≡ separated_icfl_ends w
    go (ours f) h = sym f
    go (other f) h = absurd (omega arith)
