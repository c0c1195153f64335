-- The breaks as a walk over the word: Steps w i bs says that bs are the breaks of what follows place i. Steps are breaks_from (breaks-steps), each makes the ends
-- of the word from those of the rest (step-ended), and so the kept places and the word's end are the ends (steps-ends).
use Rattle.std.specs.Prelude.{◌≡◌, refl, Bool, true, false, ℕ, zero, suc, ◌+◌, ◌-◌, ◌≤◌, ◌<◌, length, take, drop, get_or}
use Rattle.std.proofs.Common.{ap, sym, ◌∙◌, arith, length-append, length-drop, length-take-le, drop-drop, get_or-drop}
use mathlib.Core.List.{List, [], ◌∷◌, ◌++◌, flatten}
use Rattle.words.specs.Words.{InverseLyndon}
use Rattle.words.specs.Factorizations.{icfl, join_first, fate_of, first_break, breaks_from, failing_length, prefix_length, border_length, ends_from}
use Rattle.theory.specs.Statements.{place_if_kept, kept_places, Linked, none, more}
use Rattle.words.specs.declared.Fate.{Fate}
use Rattle.words.specs.declared.Fate.TheVariants.{Kept, Joined}
use Rattle.words.specs.declared.Break.{Break}
use Rattle.theory.specs.Orders.Decisions.{Decides, holds, fails, leb-test}
use Rattle.theory.specs.Lyndon.WordTests.{inverse-lyndon-test}
use Rattle.theory.specs.Icfl.Failing.{failing-is, failing-unique}
use Rattle.theory.specs.Icfl.BorderLength.{least-border-is, Step, step_is}
use Rattle.theory.specs.Icfl.IcflFactors.{prefix-inside, prefix-positive}
use Rattle.theory.specs.Icfl.IcflConcat.{icfl-concat}
use Rattle.theory.specs.Icfl.IcflDominated.{icfl-dominated}
use Rattle.theory.specs.Uniqueness.IcflUnfold.{icfl-whole, icfl-step}
use Rattle.theory.specs.Breaks.BreaksUnfold.{first_fate, breaks-whole, breaks-step}

-- ---- one step: the ends es of the word, by the ends es' of what follows the place, and the fate with them

pub data Ended (place border a b : ℕ) (es es' : List ℕ) : Fate → Type 0 where
  kept : place + border < get_or es' 0 0 → es ≡ place ∷ es' → Ended place border a b es es' (Kept a b)
  joined : {s : ℕ} → place < get_or es' 0 0 → s + get_or es' 0 0 ≡ place + border → es ≡ es' → Ended place border a b es es' (Joined s)

pub join-ended : (i : ℕ) (p : List ℕ) (r a b : ℕ) (m : List ℕ) (ms : List (List ℕ)) → 0 < length m
    → Ended (i + length p) r a b (ends_from i (join_first p r (m ∷ ms))) (ends_from (i + length p) (m ∷ ms)) (fate_of a b r (m ∷ ms))
unfolding join_first ends_from fate_of
join-ended i p r a b m ms l = go (leb-test (length m) r)
  where
    same : i + length (p ++ m) ≡ i + length p + length m
    same = rw length-append (omega arith)

    go : {t : Bool} → Decides (length m ≤ r) t
        → Ended (i + length p) r a b (ends_from i (elim t [ true ↦ (p ++ m) ∷ ms | false ↦ p ∷ m ∷ ms ])) (ends_from (i + length p) (m ∷ ms))
        (elim t [ true ↦ Joined (r - length m) | false ↦ Kept a b ])
    go (holds h) = joined {s = r - length m} (omega arith) (omega arith) (rw same)
    go (fails h) = kept (omega arith) refl

-- the first factor of a nonempty word
pub record First (ms : List (List ℕ)) : Type 0 where
  pub factor : List ℕ
  pub others : List (List ℕ)
  pub is : ms ≡ factor ∷ others
  pub some : 0 < length factor

pub first_of : {P : List ℕ → Type 0} {R : List ℕ → List ℕ → Type 0} → ((m : List ℕ) → P m → 0 < length m)
    → {ms : List (List ℕ)} → Linked P R ms → 0 < length (flatten ms) → First ms
unfolding flatten
first_of nonempty none l = absurd (omega (arith, l))
first_of nonempty (more {m = m} {ms = ms} p x y) l = record { factor = m; others = ms; is = refl; some = nonempty m p }

pub first-factor : (w : List ℕ) → 0 < length w → First (icfl w)
first-factor w l = first_of {P = InverseLyndon} (λ m p. p.nonempty) (icfl-dominated w) (rw (icfl-concat w) l)

module _ (i : ℕ) (w : List ℕ) (l : 0 < length w) (n : ¬ InverseLyndon w) where
  abbrev p : ℕ
  p = prefix_length w

  step_of : Step w
  step_of = step_is w l n

  pub step-ended : Ended (i + p) (border_length w) (get_or w (border_length w) 0) (get_or w (p + border_length w) 0)
      (ends_from i (icfl w)) (ends_from (i + p) (icfl (drop p w))) (first_fate w)
  step-ended =
      let f : First (icfl (drop p w)) = first-factor (drop p w) (rw length-drop (omega (arith, prefix-inside w step_of))) in
      let size : length (take p w) ≡ p = length-take-le p w (omega (arith, prefix-inside w step_of)) in
      let e = join-ended i (take p w) (border_length w) (get_or w (border_length w) 0) (get_or w (p + border_length w) 0) f.factor f.others f.some in
      rw (icfl-step w l n, f.is) (rw size at e)

-- ---- all steps

pub data Steps (w : List ℕ) : ℕ → List Break → Type 0 where
  whole : {i : ℕ} → i < length w → InverseLyndon (drop i w) → Steps w i []
  step : {i : ℕ} {bs : List Break} → i < length w → ¬ InverseLyndon (drop i w) → Steps w (i + prefix_length (drop i w)) bs
      → Steps w i (first_break i (drop i w) ∷ bs)

some_left : (w : List ℕ) (i : ℕ) → i < length w → 0 < length (drop i w)
some_left w i l = rw length-drop (omega arith)

-- the step at place i
pub step-at : (w : List ℕ) (i : ℕ) → i < length w → ¬ InverseLyndon (drop i w) → Step (drop i w)
step-at w i l n = step_is (drop i w) (some_left w i l) n

pub step-inside : (w : List ℕ) (i : ℕ) → i < length w → ¬ InverseLyndon (drop i w) → i + prefix_length (drop i w) + border_length (drop i w) < length w
step-inside w i l n = omega (arith, (step-at w i l n).failing.inside, length-drop i w)

pub step-positive : (w : List ℕ) (i : ℕ) → i < length w → ¬ InverseLyndon (drop i w) → 0 < prefix_length (drop i w)
step-positive w i l n = prefix-positive (drop i w) (step-at w i l n)

pub ended_same : {place place' border border' a a' b b' : ℕ} {es es' ds ds' : List ℕ} {f f' : Fate}
    → place ≡ place' → border ≡ border' → a ≡ a' → b ≡ b' → es ≡ es' → ds ≡ ds' → f ≡ f'
    → Ended place border a b es ds f → Ended place' border' a' b' es' ds' f'
ended_same x y z u t s r k = rw (← x, ← y, ← z, ← u, ← t, ← s, ← r) k

-- the step at place i in places of w
module _ (w : List ℕ) (i place border : ℕ) (l : i < length w) (n : ¬ InverseLyndon (drop i w))
    (x : place ≡ i + prefix_length (drop i w)) (y : border ≡ border_length (drop i w)) where
  abbrev v : List ℕ
  v = drop i w

  left : get_or v (border_length v) 0 ≡ get_or w (i + border) 0
  left = rw y (get_or-drop i w (border_length v) 0)

  right : get_or v (prefix_length v + border_length v) 0 ≡ get_or w (place + border) 0
  right =
      let z : i + (prefix_length v + border_length v) ≡ place + border = omega arith in
      get_or-drop i w (prefix_length v + border_length v) 0 ∙ ap (λ (k : ℕ). get_or w k 0) z

  pub ended-in : Ended place border (get_or w (i + border) 0) (get_or w (place + border) 0) (ends_from i (icfl v)) (ends_from place (icfl (drop place w))) (first_fate v)
  ended-in =
      let later : ends_from (i + prefix_length v) (icfl (drop (prefix_length v) v)) ≡ ends_from place (icfl (drop place w))
      = rw (drop-drop (prefix_length v) i w, ← x) in
      ended_same (sym x) (sym y) left right refl later refl (step-ended i v (some_left w i l) n)

  pub letters-rise : get_or w (i + border) 0 < get_or w (place + border) 0
  letters-rise =
      let some : 0 < length v = some_left w i l in
      let z : failing_length v - 1 ≡ prefix_length v + border_length v = omega (arith, failing-unique v _ (step_is v some n).failing) in
      rw (z, left, right) at (least-border-is v (failing-is v some n)).border.1.1

steps-within : (k : ℕ) (w : List ℕ) (i : ℕ) → length w ≤ i + k → i < length w → Steps w i (breaks_from i (drop i w))
steps-within zero w i x l = absurd (omega arith)
steps-within (suc k) w i x l = go (inverse-lyndon-test (drop i w)) (λ j y m. steps-within k w j y m)
  where
    p : ℕ
    p = prefix_length (drop i w)

    go : {t : Bool} → Decides (InverseLyndon (drop i w)) t → ((j : ℕ) → length w ≤ j + k → j < length w → Steps w j (breaks_from j (drop j w)))
        → Steps w i (breaks_from i (drop i w))
    go (holds h) next = rw (breaks-whole i (drop i w) h) (whole l h)
    go (fails n) next =
        let rest : Steps w (i + p) (breaks_from (i + p) (drop p (drop i w)))
        = rw (drop-drop p i w) (next (i + p) (omega (arith, step-positive w i l n)) (omega (arith, step-inside w i l n))) in
        rw (breaks-step i (drop i w) (some_left w i l) n) (step l n rest)

pub breaks-steps : (w : List ℕ) (i : ℕ) → i < length w → Steps w i (breaks_from i (drop i w))
breaks-steps w i l = steps-within (length w) w i (omega arith) l

-- ---- the ends, by the breaks: the places of the kept ones, and the word's end

abbrev pub kept_ends : List ℕ → List Break → List ℕ
kept_ends w bs = kept_places bs ++ length w ∷ []

pub ended-places : {place border a b : ℕ} {es es' : List ℕ} {f : Fate} → Ended place border a b es es' f → es ≡ place_if_kept f place es'
ended-places (kept h e) = e
ended-places (joined h x e) = e

pub place-append : (f : Fate) (place : ℕ) (es ds : List ℕ) → place_if_kept f place (es ++ ds) ≡ place_if_kept f place es ++ ds
place-append (Kept a b) place es ds = refl
place-append (Joined s) place es ds = refl

pub steps-ends : {w : List ℕ} {i : ℕ} {bs : List Break} → Steps w i bs → ends_from i (icfl (drop i w)) ≡ kept_ends w bs
unfolding kept_places ends_from
steps-ends {w} {i} (whole l h) =
    let z : i + length (drop i w) ≡ length w = rw length-drop (omega arith) in
    rw (icfl-whole (drop i w) h, z)
steps-ends {w} {i} (step {bs = bs} l n s) =
    let p : ℕ = prefix_length (drop i w) in
    ended-places (step-ended i (drop i w) (some_left w i l) n)
    ∙ (ap (place_if_kept (first_fate (drop i w)) (i + p)) (rw (drop-drop p i w) (steps-ends s))
    ∙ place-append (first_fate (drop i w)) (i + p) (kept_places bs) (length w ∷ []))
