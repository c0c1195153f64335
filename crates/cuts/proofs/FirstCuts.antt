-- The first cut of what is left of a record, over plain lists: by its first letter, and by the test's verdict where that is no separator.
use mathlib.Core.Path.{◌≡◌, refl}
use mathlib.Core.List.{List, [], ◌∷◌}
use Prim.Native.Nat.{ℕ, ◌<◌}
use native.Mathlib.Omega.{arith}
use lib.ListN.{length, get_or}
use Rattle.std.specs.Prelude.{None, Some}
use Rattle.words.specs.Separated.{separator}
use Rattle.theory.specs.Stretches.CutSteps.{CutBy, Uncut}
use Rattle.theory.specs.Stretches.CutSteps.{separator-cut, separator-last, letter-cut, letter-last}
use Rattle.extension.specs.declared.Extension.{Extension}
use Rattle.extension.specs.Extension.{Verdict}
use Rattle.extension.proofs.VerdictLaws.{Fails, fails-is, holds-is}
use Rattle.cuts.specs.Cutting.{FirstCut}

-- ---- a separator

one-letter : (w : List ℕ) → get_or w 0 0 ≡ separator → length w ≡ 1 → Uncut w
one-letter [] e l = absurd (omega (arith, e))
one-letter (a ∷ []) e l = rw e separator-last
one-letter (a ∷ b ∷ w) e l = absurd (omega arith)

more-letters : (w : List ℕ) → get_or w 0 0 ≡ separator → ¬ (length w ≡ 1) → CutBy w 1 0
more-letters [] e n = absurd (omega (arith, e))
more-letters (a ∷ w) e n = rw e (separator-cut w (omega arith))

pub uncut-separator : (w work : List ℕ) → get_or w 0 0 ≡ separator → length w ≡ 1 → FirstCut w work None work
uncut-separator w work e l = record { told = one-letter w e l; kept = refl }

pub cut-separator : (w work : List ℕ) → get_or w 0 0 ≡ separator → ¬ (length w ≡ 1) → FirstCut w work (Some (record { prefix = 1; border = 0 })) work
cut-separator w work e n = record { told = more-letters w e n; kept = refl }

-- ---- a letter below it

module _ (w work work' : List ℕ) (h : get_or w 0 0 < separator) where
  pub uncut-letter : Verdict w work None work' → FirstCut w work None work'
  uncut-letter v = record { told = letter-last w h (holds-is w v.answer); kept = v.kept }

  pub cut-letter : {x : Extension} → 0 < length w → Verdict w work (Some x) work'
      → FirstCut w work (Some (record { prefix = x.prefix; border = x.border })) work'
  cut-letter {x} s v =
      let f : Fails w x.failing x.prefix x.border = fails-is w s v.answer in
      record { told = rw (f.prefix, f.border) (letter-cut w s h f.not); kept = v.kept }
