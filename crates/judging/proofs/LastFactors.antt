-- The last anti-Lyndon factor of an inverse Lyndon word, by the scans of its longest border, of that one's longest border, and so on; over plain lists.
use mathlib.Core.Path.{◌≡◌, refl, ap, sym, ◌∙◌}
use mathlib.Core.List.{List}
use Prim.Native.Nat.{ℕ, ◌-◌, ◌≤◌, ◌<◌}
use native.Mathlib.Omega.{arith}
use lib.ListN.{length, take}
use lib.Seq.{length-take-le, take_all}
use Rattle.words.specs.Words.{most_letters, InverseLyndon}
use Rattle.words.specs.Factorizations.{cfl_in}
use Rattle.theory.specs.Orders.PrefixLaws.{take-⊑-take}
use Rattle.theory.specs.Icfl.Extension.{prefix-inverse-lyndon}
use Rattle.theory.specs.Scan.Scanned.{Scanned}
use Rattle.theory.specs.Scan.Scanned.{scanned-one}
use Rattle.theory.specs.Judging.LastFactor.{last_word}
use Rattle.theory.specs.Judging.JudgeSteps.{scanned-border, scanned-from, scanned-all}
use Rattle.theory.proofs.Judging.JudgeSteps.{last-border, last_none}
use Rattle.scan.specs.declared.Scan.{Scan}
use Rattle.scan.specs.State.{start_state, Resumes, Rests}
use Rattle.judging.specs.Judging.{Bordered, BorderScanned, ScannedWhole}

-- ---- one border

module _ {w : List ℕ} {s : Scan} (g : Bordered w s) where
  pub border-size : length (take s.border w) ≡ s.border
  border-size = length-take-le s.border w (omega (arith, g.scanned.shorter, g.scanned.inside))

  falls : InverseLyndon (take s.border w)
  falls = prefix-inverse-lyndon (take-⊑-take s.border s.length w (omega (arith, g.scanned.shorter))) (rw border-size g.some) g.scanned.word

  pub border-known : s.length - s.border ≤ s.border
      → BorderScanned w s (record { border = s.border - (s.length - s.border); length = s.border })
  border-known l = record { scanned = scanned-border g.scanned (s.length - s.border) refl l; whole = refl }

  pub border-resumes : (t : Scan) → t ≡ start_state → Resumes (take s.border w) t
  border-resumes t e = rw e (record {
    short = omega (arith, border-size, g.short, g.scanned.shorter, g.scanned.inside);
    scanned = scanned-one _ (rw border-size g.some);
  })

  pub border-scanned : (t : Scan) → Rests (take s.border w) t → BorderScanned w s t
  border-scanned t r =
      let whole : t.length ≡ s.border = scanned-all r.scanned r.stops falls ∙ border-size in
      record {
        scanned = scanned-from s.border (omega arith) (omega (arith, g.scanned.shorter, g.scanned.inside)) r.scanned;
        whole = whole;
      }

-- ---- all of them

-- the last factor of the word is that of the letters that are left
pub record Descends (w : List ℕ) (s : Scan) : Type 0 where
  pub short : length w ≤ most_letters
  pub scanned : Scanned w s.length s.border
  pub last : last_word (cfl_in w) ≡ last_word (cfl_in (take s.length w))

pub descend-begin : {w : List ℕ} {s : Scan} → ScannedWhole w s → Descends w s
descend-begin {w} {s} f = record {
  short = f.short;
  scanned = f.scanned;
  last = ap (λ (x : List ℕ). last_word (cfl_in x)) (sym (take_all s.length w (omega (arith, f.whole))));
}

module _ {w : List ℕ} {s : Scan} (g : Descends w s) where
  pub descend-bordered : 0 < s.border → Bordered w s
  descend-bordered l = record { short = g.short; scanned = g.scanned; some = l }

  pub descend-on : (r : Scan) → 0 < s.border → BorderScanned w s r → Descends w r
  descend-on r l b = record {
    short = g.short;
    scanned = b.scanned;
    last = g.last ∙ last-border g.scanned l ∙ ap (λ (n : ℕ). last_word (cfl_in (take n w))) (sym b.whole);
  }

  pub descend-less : (r : Scan) → BorderScanned w s r → r.length < s.length
  descend-less r b = omega (arith, b.whole, g.scanned.shorter)

  pub descend-end : s.border ≤ 0 → s.length ≡ length (last_word (cfl_in w))
  descend-end l =
      let z : s.border ≡ 0 = omega arith in
      sym (ap length (g.last ∙ last_none (rw z at g.scanned)) ∙ length-take-le s.length w g.scanned.inside)
