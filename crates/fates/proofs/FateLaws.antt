-- The first of the cuts that are left, by the first of the ends that are left: what the cut makes of it is it (break-is), and the ends after it (kept-ends-on,
-- joined-ends-on).
use mathlib.Core.Path.{◌≡◌, refl, ap, sym}
use mathlib.Core.List.{List, ◌∷◌}
use Prim.Native.Nat.{ℕ, ◌+◌, ◌-◌, ◌≤◌}
use native.Mathlib.Omega.{arith}
use borrow.Author.Tests.{lt-ltb, le-ltb}
use lib.ListN.{get_or}
use Rattle.words.specs.declared.Fate.{Fate}
use Rattle.words.specs.declared.Fate.TheVariants.{Joined}
use Rattle.words.specs.declared.Break.{Break}
use Rattle.theory.specs.Breaks.BreakSteps.{Ended, kept, joined, kept_ends}
use Rattle.theory.specs.Stretches.Cuts.{FirstOf}
use Rattle.fates.specs.declared.Cut.{Cut}
use Rattle.fates.specs.Fates.{Near, fate_by, break_by}

abbrev pub cut_at : (place begun border end : ℕ) → Cut
cut_at place begun border end = record { place = place; begun = begun; border = border; end = end }

module _ (w : List ℕ) (i : ℕ) (b : Break) (bs : List Break) (f : FirstOf w i b bs) where
  -- the first end that is left
  abbrev end : ℕ
  end = get_or (kept_ends w (b ∷ bs)) 0 0

  abbrev End : List ℕ → List ℕ → Fate → Type 0
  End es es' g = Ended b.place b.border (get_or w (i + b.border) 0) (get_or w (b.place + b.border) 0) es es' g

  end-near : end ≤ b.place + b.border
  end-near = go f.ended
    where
      go : {es es' : List ℕ} {g : Fate} → End es es' g → get_or es 0 0 ≤ b.place + b.border
      go (kept h e) = rw e (omega arith)
      go (joined h s e) = rw e (omega arith)

  pub near : {e : ℕ} → e ≡ end → Near w (cut_at b.place i b.border e)
  near z = record { forward = f.forward; inside = f.inside; near = omega (arith, end-near) }

  fate-is : fate_by w (cut_at b.place i b.border end) ≡ b.fate
  fate-is = go f.ended
    where
      go : {es es' : List ℕ} {g : Fate} → End es es' g → fate_by w (cut_at b.place i b.border (get_or es 0 0)) ≡ g
      go (kept h e) = rw (e, le-ltb b.place b.place (omega arith))
      go {es' = es'} (joined {s = s} h x e) =
          let z : b.border - (get_or es' 0 0 - b.place) ≡ s = omega arith in
          rw (e, lt-ltb b.place (get_or es' 0 0) h) (ap Joined z)

  pub break-is : {e : ℕ} → e ≡ end → break_by w (cut_at b.place i b.border e) ≡ b
  break-is z =
      rw (z, fate-is)
      (ap (λ (j : ℕ). let k : Break = record { place = b.place; begun = j; border = b.border; fate = b.fate } in k) (sym f.starts))

  -- its place is an end just where it is kept
  pub kept-ends-on : b.place ≡ end → kept_ends w (b ∷ bs) ≡ b.place ∷ kept_ends w bs
  kept-ends-on z = go f.ended z
    where
      go : {es es' : List ℕ} {g : Fate} → End es es' g → b.place ≡ get_or es 0 0 → es ≡ b.place ∷ es'
      go (kept h e) z = e
      go (joined h x e) z = absurd (omega (arith, rw e at z))

  pub joined-ends-on : ¬ (b.place ≡ end) → kept_ends w (b ∷ bs) ≡ kept_ends w bs
  joined-ends-on n = go f.ended n
    where
      go : {es es' : List ℕ} {g : Fate} → End es es' g → ¬ (b.place ≡ get_or es 0 0) → es ≡ es'
      go (kept h e) n = absurd (n (rw e refl))
      go (joined h x e) n = e
