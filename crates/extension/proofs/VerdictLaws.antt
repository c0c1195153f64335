-- What a verdict on v tells: failing (fails-is), inverse Lyndon (holds-is); and an answer that says it (fails-told, holds-told).
use mathlib.Core.Path.{◌≡◌, refl, ap}
use mathlib.Core.Bool.{Bool, true, false}
use mathlib.Core.List.{List}
use Prim.Native.Nat.{ℕ, ◌+◌, ◌≤◌, ◌<◌}
use native.Mathlib.Omega.{arith}
use lib.ListN.{length}
use Rattle.std.specs.Prelude.{Option, None, Some}
use Rattle.extension.specs.declared.Extension.{Extension}
use Rattle.words.specs.Words.{InverseLyndon, is_inverse_lyndon}
use Rattle.words.specs.Factorizations.{failing_length, prefix_length, border_length}
use Rattle.theory.specs.Orders.Decisions.{decides-true, decides-false}
use Rattle.theory.specs.Lyndon.WordTests.{inverse-lyndon-test}
use Rattle.theory.specs.Icfl.BorderLength.{step_is}
use Rattle.theory.specs.Icfl.Failing.{failing-is}
use Rattle.theory.specs.Icfl.IcflFactors.{prefix-positive}
use Rattle.checks.specs.Answers.{gives, values_or}
use Rattle.extension.specs.Extension.{verdict_as, verdict_of}

pub record Fails (v : List ℕ) (l p r : ℕ) : Type 0 where
  pub not : ¬ InverseLyndon v
  pub failing : l ≡ failing_length v
  pub prefix : p ≡ prefix_length v
  pub border : r ≡ border_length v
  pub positive : 0 < p
  pub inside : p + r < length v
  pub upto : l ≤ length v

-- the extension that there is
given : Option Extension → Extension
given None = record { failing = 0; prefix = 0; border = 0 }
given (Some x) = x

pub fails-is : (v : List ℕ) {x : Extension} → 0 < length v → Some x ≡ verdict_of v → Fails v x.failing x.prefix x.border
unfolding verdict_of given
fails-is v {x} s e = go (is_inverse_lyndon v) refl e
  where
    go : (t : Bool) → is_inverse_lyndon v ≡ t → Some x ≡ verdict_as t (failing_length v) (prefix_length v) (border_length v)
        → Fails v x.failing x.prefix x.border
    go true d z = let b : ◌≡◌ {A = ℕ} 0 1 = cc in absurd (omega arith)
    go false d z =
        let n : ¬ InverseLyndon v = decides-false (inverse-lyndon-test v) d in
        let step = step_is v s n in
        let k : x.failing ≡ failing_length v = ap (λ (o : Option Extension). (given o).failing) z in
        let p : x.prefix ≡ prefix_length v = ap (λ (o : Option Extension). (given o).prefix) z in
        let r : x.border ≡ border_length v = ap (λ (o : Option Extension). (given o).border) z in
        record {
          not = n;
          failing = k;
          prefix = p;
          border = r;
          positive = omega (arith, p, prefix-positive v step);
          inside = omega (arith, p, r, step.failing.inside);
          upto = omega (arith, k, (failing-is v s n).inside);
        }

pub holds-is : (v : List ℕ) → None ≡ verdict_of v → InverseLyndon v
unfolding verdict_of
holds-is v e = go (is_inverse_lyndon v) refl e
  where
    go : (t : Bool) → is_inverse_lyndon v ≡ t → ◌≡◌ {A = Option Extension} None (verdict_as t (failing_length v) (prefix_length v) (border_length v))
        → InverseLyndon v
    go true d z = decides-true (inverse-lyndon-test v) d
    go false d z = let b : ◌≡◌ {A = ℕ} 0 1 = cc in absurd (omega arith)

-- the same of an answer

pub fails-told : (v : List ℕ) {x : Extension} → 0 < length v → gives (Some x) ≡ gives (verdict_of v) → Fails v x.failing x.prefix x.border
fails-told v {x} s e = fails-is v s (ap (values_or None) e)

pub holds-told : (v : List ℕ) → gives None ≡ gives (verdict_of v) → InverseLyndon v
holds-told v e = holds-is v (ap (values_or None) e)
