-- What a scan knows: Scanned w n b says that the first n letters of w are inverse Lyndon and that b is the length of their longest border.
--   scanned-one, scanned-same, scanned-less     the start, and one letter more
--   scanned-longest      where the scan stops, the longest anti-Lyndon prefix of w has n - b letters (Duval)
--   scanned-after        what follows that prefix is scanned as far as the border reaches
--   scanned-whole, scanned-failing              all letters read; stopped before the end
use Rattle.std.specs.Prelude.{◌≡◌, List, [], ◌∷◌, ℕ, suc, ◌+◌, ◌-◌, ◌≤◌, ◌<◌, length, take, drop, get_or}
use Rattle.std.proofs.Common.{ap, sym, ◌∙◌, arith, length-drop, take-suc, take-take, take-add, drop_at, length-take-le, get_or-take}
use Rattle.std.proofs.Math.Decide.{dec_lt}
use Rattle.std.proofs.Math.Seq.{take-length}
use Rattle.words.specs.Words.{◌⊑◌, InverseLyndon, AntiLyndon}
use Rattle.words.specs.Factorizations.{longest_anti_lyndon}
use Rattle.theory.specs.Orders.PrefixLaws.{⊑-both, ⊑-drop, ⊑_trans, ⊑-whole, take-⊑-take}
use Rattle.theory.specs.Orders.MismatchLaws.{≪-not-⊑}
use Rattle.theory.specs.Lyndon.WordTests.{suffix-loses}
use Rattle.theory.specs.Icfl.Extension.{prefix-inverse-lyndon}
use Rattle.theory.specs.Lyndon.AntiLyndonLaws.{letter-anti-lyndon, anti-inverse-lyndon, longest-unique}
use Rattle.theory.specs.Icfl.Failing.{Failing}
use Rattle.theory.specs.Scan.Period.{Period, anti-period, step_less, step_same, period-same, step-more, root-anti-lyndon}

pub record Scanned (w : List ℕ) (n b : ℕ) : Type 0 where
  pub shorter : b < n
  pub inside : n ≤ length w
  pub word : InverseLyndon (take n w)
  pub period : Period (take n w) (n - b)

-- the scan has read all letters, or the next letter is larger than the letter that it meets
abbrev pub Stops : List ℕ → ℕ → ℕ → Type 0
Stops w n b = n < length w → get_or w b 0 < get_or w n 0

pub scanned-one : (w : List ℕ) → 0 < length w → Scanned w 1 0
scanned-one [] l = absurd (omega arith)
scanned-one (a ∷ w) l =
    let k = letter-anti-lyndon a in
    record { shorter = omega arith; inside = omega arith; word = anti-inverse-lyndon k; period = anti-period k }

module _ {w : List ℕ} {n b : ℕ} (s : Scanned w n b) where
  size : length (take n w) ≡ n
  size = length-take-le n w s.inside

  -- the letter that the next one meets
  met-is : get_or (take n w) (length (take n w) - (n - b)) 0 ≡ get_or w b 0
  met-is = let e : length (take n w) - (n - b) ≡ b = omega (arith, size, s.shorter) in rw e (get_or-take n w b 0 s.shorter)

  pub scanned-same : n < length w → get_or w n 0 ≡ get_or w b 0 → Scanned w (suc n) (suc b)
  scanned-same l e =
      let z : suc n - suc b ≡ n - b = omega arith in
      record {
        shorter = omega (arith, s.shorter);
        inside = l;
        word = rw (take-suc w n 0 l) (step_same s.word s.period (get_or w n 0) (e ∙ sym met-is));
        period = rw (z, take-suc w n 0 l) (period-same s.word s.period (get_or w n 0) (e ∙ sym met-is));
      }

  pub scanned-less : n < length w → get_or w n 0 < get_or w b 0 → Scanned w (suc n) 0
  scanned-less l h =
      let k : AntiLyndon (take (suc n) w) = rw (take-suc w n 0 l) (step_less s.word s.period (get_or w n 0) (rw met-is h)) in
      let z : suc n - 0 ≡ length (take (suc n) w) = omega (arith, length-take-le (suc n) w l) in
      record { shorter = omega arith; inside = l; word = anti-inverse-lyndon k; period = rw z (anti-period k) }

  root : AntiLyndon (take (n - b) w)
  root = rw (take-take (n - b) n w (omega arith)) at (root-anti-lyndon s.word s.period)

  -- a longer prefix within the scan has a border
  longer-within : (j : ℕ) → n - b < j → j ≤ n → ¬ AntiLyndon (take j w)
  longer-within j a l k =
      let x : take j w ⊑ take n w = take-⊑-take j n w l in
      ≪-not-⊑ (suffix-loses k (n - b) s.period.positive (rw (length-take-le j w (omega (arith, s.inside))) a))
      (⊑-both (⊑_trans (⊑-drop (n - b) x) s.period.repeats) x (rw length-drop (omega arith)))

  -- one past a larger letter is not inverse Lyndon
  pub longer-past : n < length w → get_or w b 0 < get_or w n 0 → (j : ℕ) → n < j → ¬ InverseLyndon (take j w)
  longer-past l h j a k =
      let x : InverseLyndon (take (suc n) w) = prefix-inverse-lyndon (take-⊑-take (suc n) j w a) (rw (length-take-le (suc n) w l) (omega arith)) k in
      step-more s.word s.period (get_or w n 0) (rw met-is h) (rw (take-suc w n 0 l) at x)

  pub scanned-longest : Stops w n b → longest_anti_lyndon w ≡ n - b
  scanned-longest h = longest-unique w (n - b) s.period.positive
      (record { upto = omega (arith, s.inside); word = λ p. root; longer = λ j a c. go j a c (dec_lt n j) })
    where
      go : (j : ℕ) → n - b < j → j ≤ length w → Dec (n < j) → ¬ AntiLyndon (take j w)
      go j a c (no d) = longer-within j a (omega arith)
      go j a c (yes d) = λ k. longer-past (omega arith) (h (omega arith)) j d (anti-inverse-lyndon k)

  pub scanned-whole : n ≡ length w → InverseLyndon w
  scanned-whole e = rw (e, take-length w) at s.word

  pub scanned-failing : n < length w → get_or w b 0 < get_or w n 0 → Failing w (suc n)
  scanned-failing l h = record {
    positive = omega arith;
    inside = l;
    fails = longer-past l h (suc n) (omega arith);
    before = λ j a c. prefix-inverse-lyndon (take-⊑-take j n w (omega arith)) (rw (length-take-le j w (omega (arith, s.inside))) a) s.word;
  }

-- the longest border, at the front
pub border-front : (w : List ℕ) (n b : ℕ) → n ≤ length w → b ≤ n → drop (n - b) (take n w) ⊑ take n w → drop (n - b) (take n w) ≡ take b w
border-front w n b l a h =
    let x : length (drop (n - b) (take n w)) ≡ b = rw (length-drop, length-take-le n w l) (omega arith) in
    let y : length (take b w) ≡ b = length-take-le b w (omega arith) in
    ⊑-whole (⊑-both h (take-⊑-take b n w a) (omega arith)) (omega arith)

-- the first n - b letters are a word of the strict cut; what follows begins with the border
pub scanned-after : {w : List ℕ} {n b : ℕ} → Scanned w n b → (p : ℕ) → p ≡ n - b → p ≤ b → Scanned (drop p w) b (b - p)
scanned-after {w} {n} {b} s p e l = record {
  shorter = omega (arith, s.shorter);
  inside = rw length-drop (omega (arith, s.shorter, s.inside));
  word = rw shifted (prefix-inverse-lyndon on (rw size-b (omega (arith, s.shorter))) s.word);
  period = rw (shifted, same) (record {
    positive = omega (arith, s.shorter);
    upto = rw size-b l;
    repeats = ⊑-both (⊑_trans (⊑-drop p on) (rw (← e) at s.period.repeats)) on (rw length-drop (omega arith));
    least = least;
  });
}
  where
    size-b : length (take b w) ≡ b
    size-b = length-take-le b w (omega (arith, s.shorter, s.inside))

    same : b - (b - p) ≡ p
    same = omega arith

    on : take b w ⊑ take n w
    on = take-⊑-take b n w (omega (arith, s.shorter))

    all : p + b ≡ n
    all = omega (arith, s.shorter)

    shifted : take b (drop p w) ≡ take b w
    shifted =
        sym (drop_at (take p w) (take b (drop p w)) p (length-take-le p w (omega (arith, s.inside))))
        ∙ ap (drop p) (sym (take-add p b w) ∙ ap (λ (m : ℕ). take m w) all)
        ∙ (rw (← e) at (border-front w n b s.inside (omega (arith, s.shorter)) s.period.repeats))

    least : (q : ℕ) → 0 < q → q < p → ¬ (drop q (take b w) ⊑ take b w)
    least q a c h =
        let x : take p w ⊑ take b w = take-⊑-take p b w l in
        ≪-not-⊑ (suffix-loses (rw (← e) at (root s)) q a (rw (length-take-le p w (omega (arith, s.inside))) c))
        (⊑-both (⊑_trans (⊑-drop q x) h) x (rw length-drop (omega arith)))
