-- THEOREM icfl-breaks. The breaks of a nonempty word are as request 102 describes them: BreaksOf w (icfl_breaks w).
use Rattle.std.specs.Prelude.{◌≡◌, refl, ◌⊎◌, ℕ, suc, ◌+◌, ◌-◌, ◌≤◌, ◌<◌, length, drop, get_or}
use Rattle.std.proofs.Common.{ap, sym, inl, inr, arith, drop-drop}
use mathlib.Core.List.Memᴰ
use mathlib.Core.List.{List, [], ◌∷◌, Memᴰ}
use Rattle.std.proofs.Math.ListN.{length-drop}
use Rattle.words.specs.Words.{InverseLyndon}
use Rattle.words.specs.Factorizations.{icfl, icfl_ends, first_break, icfl_breaks, failing_length, prefix_length, border_length, ends_from}
use Rattle.theory.specs.Statements.{Chained, end, next, NextEnd, JoinedTo, BoundedExtension, BreaksOf}
use Rattle.words.specs.declared.Fate.{Fate}
use Rattle.words.specs.declared.Fate.TheVariants.{Kept, Joined}
use Rattle.words.specs.declared.Break.{Break}
use Rattle.theory.specs.Icfl.Failing.{failing-unique}
use Rattle.theory.specs.Icfl.BorderLength.{step_is}
use Rattle.theory.specs.Icfl.BoundedExtension.{extension-is}
use Rattle.theory.specs.Breaks.BreakSteps.{Ended, kept, joined, First, first-factor, Steps, whole, step, step-inside, step-positive, step-ended, ended_same, ended-in, letters-rise, breaks-steps, steps-ends}

-- ---- the places

steps-chained : {w : List ℕ} {i : ℕ} {bs : List Break} → Steps w i bs → Chained (length w) i bs
steps-chained (whole l h) = end l
steps-chained {w} {i} (step l n s) = next {b = first_break i (drop i w)} (omega (arith, step-positive w i l n)) (steps-chained s)

pub chained-few : {n i : ℕ} {bs : List Break} → Chained n i bs → i + length bs < n
chained-few (end l) = omega arith
chained-few (next l c) = omega (arith, chained-few c)

-- ---- each break is the first one of what follows the place where its step began

ends-past : (i : ℕ) (ms : List (List ℕ)) {e : ℕ} → Memᴰ e (ends_from i ms) → i ≤ e
unfolding ends_from
ends-past i [] x = absurd (Memᴰ.not-nil x)
ends-past i (m ∷ ms) {e} x = go (Memᴰ.cases_cons x) (λ y. ends-past (i + length m) ms y)
  where
    go : (e ≡ i + length m) ⊎ Memᴰ e (ends_from (i + length m) ms) → (Memᴰ e (ends_from (i + length m) ms) → i + length m ≤ e) → i ≤ e
    go (inl z) later = omega arith
    go (inr y) later = omega (arith, later y)

-- es' are the ends after a place, of those that are es
pub record After (place : ℕ) (es es' : List ℕ) : Type 0 where
  pub among : (e : ℕ) → Memᴰ e es' → Memᴰ e es
  pub past : (e : ℕ) → Memᴰ e es → place < e → Memᴰ e es'

ended-after : {place border a b : ℕ} {es es' : List ℕ} {f : Fate} → Ended place border a b es es' f → After place es es'
ended-after (joined h x z) = rw z (record { among = λ e y. y; past = λ e y l. y })
ended-after {place} {es' = es'} (kept h z) = rw z (record { among = λ e y. Memᴰ.tail y; past = λ e y l. go e l (Memᴰ.cases_cons y) })
  where
    go : (e : ℕ) → place < e → (e ≡ place) ⊎ Memᴰ e es' → Memᴰ e es'
    go e l (inl x) = absurd (omega arith)
    go e l (inr y) = y

abbrev ends_after : List ℕ → ℕ → List ℕ
ends_after w i = ends_from i (icfl (drop i w))

pub record StepOf (w : List ℕ) (i : ℕ) (b : Break) : Type 0 where
  pub from : i ≤ b.begun
  pub inside : b.begun < length w
  pub fails : ¬ InverseLyndon (drop b.begun w)
  pub is : b ≡ first_break b.begun (drop b.begun w)
  pub after : After b.place (ends_after w i) (ends_after w b.place)

step_after : (w : List ℕ) (i : ℕ) → i < length w → ¬ InverseLyndon (drop i w)
    → After (i + prefix_length (drop i w)) (ends_after w i) (ends_after w (i + prefix_length (drop i w)))
step_after w i l n =
    rw (drop-drop (prefix_length (drop i w)) i w) at (ended-after (step-ended i (drop i w) (let z : 0 < length (drop i w) = rw length-drop (omega arith) in z) n))

steps-member : {w : List ℕ} {i : ℕ} {bs : List Break} → Steps w i bs → (b : Break) → Memᴰ b bs → StepOf w i b
steps-member (whole l h) b x = absurd (Memᴰ.not-nil x)
steps-member {w} {i} (step {bs = bs} l n s) b x = go (Memᴰ.cases_cons x) (λ y. steps-member s b y)
  where
    p : ℕ
    p = prefix_length (drop i w)

    first : After (i + p) (ends_after w i) (ends_after w (i + p))
    first = step_after w i l n

    go : (b ≡ first_break i (drop i w)) ⊎ Memᴰ b bs → (Memᴰ b bs → StepOf w (i + p) b) → StepOf w i b
    go (inl z) later = rw z (record { from = omega arith; inside = l; fails = n; is = refl; after = first })
    go (inr y) later =
        let k : StepOf w (i + p) b = later y in
        let forward : b.begun < b.place = rw (ap (λ (c : Break). c.place) k.is) (omega (arith, step-positive w b.begun k.inside k.fails)) in
        record {
          from = omega (arith, k.from);
          inside = k.inside;
          fails = k.fails;
          is = k.is;
          after = record {
            among = λ e t. first.among e (k.after.among e t);
            past = λ e t m. k.after.past e (first.past e t (omega (arith, k.from, forward))) m;
          };
        }

-- ---- what it says

module _ (w : List ℕ) (b : Break) (k : StepOf w 0 b) where
  abbrev v : List ℕ
  v = drop b.begun w

  some : 0 < length v
  some = rw length-drop (omega (arith, k.inside))

  place_is : b.place ≡ b.begun + prefix_length v
  place_is = ap (λ (c : Break). c.place) k.is

  border-is : b.border ≡ border_length v
  border-is = ap (λ (c : Break). c.border) k.is

  -- L = |p| + |r| + 1
  failing-sum : failing_length v ≡ suc (prefix_length v + border_length v)
  failing-sum = failing-unique v _ (step_is v some k.fails).failing

  step-told : BoundedExtension v (suc (b.place - b.begun + b.border)) (b.place - b.begun) b.border
  step-told =
      let z : b.place - b.begun ≡ prefix_length v = omega (arith, place_is) in
      rw (z, border-is, ← failing-sum) (extension-is v some k.fails)

  ended : Ended b.place b.border (get_or w (b.begun + b.border) 0) (get_or w (b.place + b.border) 0)
      (ends_after w b.begun) (ends_after w b.place) b.fate
  ended =
      ended_same refl refl refl refl refl refl (sym (ap (λ (c : Break). c.fate) k.is))
      (ended-in w b.begun b.place b.border k.inside k.fails place_is border-is)

  letters-told : (x y : ℕ) → b.fate ≡ Kept x y → (x ≡ get_or w (b.begun + b.border) 0) × (y ≡ get_or w (b.place + b.border) 0) × (x < y)
  letters-told x y e = go ended e
    where
      go : {es es' : List ℕ} {f : Fate} → Ended b.place b.border (get_or w (b.begun + b.border) 0) (get_or w (b.place + b.border) 0) es es' f → f ≡ Kept x y
          → (x ≡ get_or w (b.begun + b.border) 0) × (y ≡ get_or w (b.place + b.border) 0) × (x < y)
      go (kept h z) e =
          let p : x ≡ get_or w (b.begun + b.border) 0 = cc in
          let q : y ≡ get_or w (b.place + b.border) 0 = cc in
          (p, q, rw (p, q) (letters-rise w b.begun b.place b.border k.inside k.fails place_is border-is))
      go (joined h t z) e = let z : ◌≡◌ {A = ℕ} 0 1 = cc in absurd (omega arith)

  joined-told : (s : ℕ) → b.fate ≡ Joined s → JoinedTo w b.place b.border s
  unfolding ends_from icfl_ends
  joined-told s e = go ended e
    where
      first : First (icfl (drop b.place w))
      first = first-factor (drop b.place w) (rw length-drop (omega (arith, place_is, step-inside w b.begun k.inside k.fails)))

      ends : ends_after w b.place ≡ (b.place + length first.factor) ∷ ends_from (b.place + length first.factor) first.others
      ends = rw first.is

      next-end : NextEnd (icfl_ends w) b.place (b.place + length first.factor)
      next-end = record {
        among = k.after.among _ (rw ends (Memᴰ.head refl));
        after = omega (arith, first.some);
        first = λ e x l. near e (Memᴰ.cases_cons (rw ends at (k.after.past e x l)));
      }
        where
          near : (e : ℕ) → (e ≡ b.place + length first.factor) ⊎ Memᴰ e (ends_from (b.place + length first.factor) first.others)
              → b.place + length first.factor ≤ e
          near e (inl z) = omega arith
          near e (inr y) = ends-past (b.place + length first.factor) first.others y

      go : {es : List ℕ} {f : Fate} {x y : ℕ} → Ended b.place b.border x y es (ends_after w b.place) f → f ≡ Joined s → JoinedTo w b.place b.border s
      go (kept h z) e = let z : ◌≡◌ {A = ℕ} 0 1 = cc in absurd (omega arith)
      go (joined {s = t} h u z) e =
          let same : t ≡ s = cc in
          let head : get_or (ends_after w b.place) 0 0 ≡ b.place + length first.factor = rw ends in
          let sum : s + length first.factor ≡ b.border = omega (arith, rw head at u, same) in
          record {
            piece = first.factor;
            others = first.others;
            first = first.is;
            lacks = sum;
            below = omega (arith, sum, first.some);
            ends = next-end;
          }

pub icfl-breaks : (w : List ℕ) → 0 < length w → BreaksOf w (icfl_breaks w)
unfolding icfl_breaks icfl_ends
icfl-breaks w l =
    let s : Steps w 0 (icfl_breaks w) = breaks-steps w 0 l in
    record {
      chained = steps-chained s;
      few = omega (arith, chained-few (steps-chained s));
      ends = sym (steps-ends s);
      step = λ b x. step-told w b (steps-member s b x);
      letters = λ k a b x. letters-told w k (steps-member s k x) a b;
      joined = λ b s' x. joined-told w b (steps-member s b x) s';
    }
