-- One step of the piece cut of a record, from left to right, with the published L, |p| and |r| of the whole rest: a separator is cut off alone (separator-cut); from
-- a letter below it the scan stops at a break, which is cut as ever, or at a separator, where |r| is 0 and p is what is left of the stretch (letter-cut). What is
-- one factor: separator-last, letter-last. A step is a break just where no separator stands on either side of its place.
use Rattle.std.specs.Prelude.{◌≡◌, refl, Bool, true, false, ◌||◌, List, [], ◌∷◌, ◌++◌, ℕ, ◌+◌, ◌-◌, ◌≤◌, ◌<◌, length, take, drop, get_or, eqb}
use Rattle.std.proofs.Common.{ap, sym, ◌∙◌, arith, ne_eqb, length-append, length-drop, take_at, drop_at}
use Rattle.std.proofs.Math.ListN.{get_or-append}
use Rattle.std.proofs.lemmas.List.{take-append-le, drop-append-le, get_or_at}
use Rattle.std.proofs.Math.Seq.{take-length}
use Rattle.words.specs.Words.{InverseLyndon}
use Rattle.words.specs.Factorizations.{icfl, join_first, fate_of, first_break, breaks_from, prefix_length, border_length}
use Rattle.words.specs.declared.Fate.{Fate}
use Rattle.words.specs.declared.Break.{Break}
use Rattle.theory.specs.Orders.Decisions.{Decides, holds, fails, leb-test}
use Rattle.theory.specs.Lyndon.WordTests.{inverse-lyndon-test}
use Rattle.theory.specs.Icfl.BorderLength.{Step, step_is}
use Rattle.theory.specs.Icfl.IcflFactors.{prefix-positive}
use Rattle.theory.specs.Uniqueness.IcflUnfold.{icfl-whole, icfl-step}
use Rattle.theory.specs.Breaks.BreaksUnfold.{breaks-whole, breaks-step}
use Rattle.theory.specs.Breaks.BreakSteps.{First, first_of, first-factor}
use Rattle.words.specs.Separated.{separator, mark, Unmarked, stretches, breaks_over, separated_icfl}
use Rattle.theory.specs.Stretches.Unmarked.{unmarked-empty, unmarked-at, unmarked-drop}
use Rattle.theory.specs.Stretches.Separation.{Separation, whole, split, separation, icfl-unmarked, icfl-split, separated-icfl-concat}
use Rattle.theory.specs.Stretches.StretchBreaks.{breaks-alone, breaks-split}
use Rattle.theory.specs.Stretches.Factors.{separated-icfl-is, inverse-lyndon-factor}
use Rattle.theory.specs.Stretches.FailingPrefixes.{past-larger-fails, border-append, prefix-append, border-larger, prefix-larger}

-- ---- a step

-- a separator stands on one side of the place, or on the other
abbrev pub is_beside_separator : List ℕ → ℕ → Bool
is_beside_separator w place = eqb (get_or w (place - 1) 0) separator || eqb (get_or w place 0) separator

abbrev pub unless_beside : Bool → Break → List Break → List Break
unless_beside true b bs = bs
unless_beside false b bs = b ∷ bs

-- the cut of w, which begins at place i, after p letters: told as a break is
abbrev pub cut_at : (i p r : ℕ) → List ℕ → Break
cut_at i p r w = record { place = i + p; begun = i; border = r; fate = fate_of (get_or w r 0) (get_or w (p + r) 0) r (separated_icfl (drop p w)) }

pub record CutBy (w : List ℕ) (p r : ℕ) : Type 0 where
  pub positive : 0 < p
  pub inside : p + r < length w
  pub joins : separated_icfl w ≡ join_first (take p w) r (separated_icfl (drop p w))
  pub broken : (i : ℕ) → breaks_over i (stretches w) ≡ unless_beside (is_beside_separator w p) (cut_at i p r w) (breaks_over (i + p) (stretches (drop p w)))

-- w is one factor, without a break
pub record Uncut (w : List ℕ) : Type 0 where
  pub one : separated_icfl w ≡ w ∷ []
  pub unbroken : (i : ℕ) → breaks_over i (stretches w) ≡ []

pub separated_first : (w : List ℕ) → 0 < length w → First (separated_icfl w)
separated_first w l = first_of (λ m p. (inverse-lyndon-factor m p).nonempty) (separated-icfl-is w).words (rw (separated-icfl-concat w) l)

-- where |r| is 0, nothing is joined
join-none : (p : List ℕ) {ms : List (List ℕ)} → First ms → join_first p 0 ms ≡ p ∷ ms
unfolding join_first
join-none p f = rw f.is (go (leb-test (length f.factor) 0))
  where
    go : {t : Bool} → Decides (length f.factor ≤ 0) t
        → ◌≡◌ {A = List (List ℕ)} (elim t [ true ↦ (p ++ f.factor) ∷ f.others | false ↦ p ∷ f.factor ∷ f.others ]) (p ∷ f.factor ∷ f.others)
    go (holds h) = absurd (omega (arith, f.some))
    go (fails h) = refl

-- what stands after the first factor does not matter
join-append : (p : List ℕ) (r : ℕ) {ms : List (List ℕ)} (ns : List (List ℕ)) → First ms → join_first p r ms ++ ns ≡ join_first p r (ms ++ ns)
unfolding join_first
join-append p r ns f = rw f.is (go (leb-test (length f.factor) r))
  where
    go : {t : Bool} → Decides (length f.factor ≤ r) t
        → (elim t [ true ↦ (p ++ f.factor) ∷ f.others | false ↦ p ∷ f.factor ∷ f.others ]) ++ ns
        ≡ (elim t [ true ↦ (p ++ f.factor) ∷ (f.others ++ ns) | false ↦ p ∷ f.factor ∷ (f.others ++ ns) ])
    go (holds h) = refl
    go (fails h) = refl

fate-append : (a b r : ℕ) {ms : List (List ℕ)} (ns : List (List ℕ)) → First ms → fate_of a b r (ms ++ ns) ≡ fate_of a b r ms
unfolding fate_of
fate-append a b r ns f = rw f.is refl

-- ---- breaks of stretches

no-breaks : (i : ℕ) → breaks_from i [] ≡ []
unfolding breaks_from
no-breaks i = refl

breaks-separator : (i : ℕ) (w : List ℕ) → breaks_over i (stretches (separator ∷ w)) ≡ breaks_over (i + 1) (stretches w)
breaks-separator i w =
    breaks-split i [] w unmarked-empty ∙ rw (no-breaks i) (ap (λ (j : ℕ). breaks_over j (stretches w)) (let z : i + 0 + 1 ≡ i + 1 = omega arith in z))

icfl-separator : (w : List ℕ) → separated_icfl (separator ∷ w) ≡ mark ∷ separated_icfl w
unfolding icfl
icfl-separator w = icfl-split [] w unmarked-empty

-- ---- a separator

pub separator-cut : (w : List ℕ) → 0 < length w → CutBy (separator ∷ w) 1 0
separator-cut w l = record {
  positive = omega arith;
  inside = omega arith;
  joins = icfl-separator w ∙ sym (join-none mark (separated_first w l));
  broken = λ i. breaks-separator i w;
}

pub separator-last : Uncut mark
unfolding separated_icfl
separator-last = record { one = icfl-separator []; unbroken = λ i. breaks-separator i [] ∙ (breaks-alone (i + 1) [] unmarked-empty ∙ no-breaks (i + 1)) }

-- ---- a letter below it

-- neither letter is a separator
beside_none : (w : List ℕ) (p : ℕ) → ¬ (get_or w (p - 1) 0 ≡ separator) → ¬ (get_or w p 0 ≡ separator) → is_beside_separator w p ≡ false
beside_none w p m n = rw (ne_eqb (get_or w (p - 1) 0) separator m, ne_eqb (get_or w p 0) separator n)

beside-right : (w : List ℕ) (p : ℕ) → get_or w p 0 ≡ separator → is_beside_separator w p ≡ true
beside-right w p e = rw e (go (eqb (get_or w (p - 1) 0) separator))
  where
    go : (t : Bool) → (t || true) ≡ true
    go true = refl
    go false = refl

-- the step of v, which is not one factor, in v ++ y: it stays in v, and the rest of v goes on with ns
module _ (v : List ℕ) (l : 0 < length v) (n : ¬ InverseLyndon v) (u : Unmarked v) where
  abbrev p : ℕ
  p = prefix_length v

  abbrev r : ℕ
  r = border_length v

  step_of : Step v
  step_of = step_is v l n

  step-positive : 0 < p
  step-positive = prefix-positive v step_of

  step-inside : p + r < length v
  step-inside = omega (arith, step_of.failing.inside)

  rest-first : First (icfl (drop p v))
  rest-first = first-factor (drop p v) (rw length-drop (omega (arith, step-inside)))

  -- a word that goes on with a separator and w
  module _ (w : List ℕ) where
    abbrev y : List ℕ
    y = separator ∷ w

    rest-is : drop p (v ++ y) ≡ drop p v ++ y
    rest-is = drop-append-le p v y (omega (arith, step-inside))

    rest-icfl : separated_icfl (drop p (v ++ y)) ≡ icfl (drop p v) ++ mark ∷ separated_icfl w
    rest-icfl = rw rest-is (icfl-split (drop p v) w (unmarked-drop p v u))

    letter-is : (i : ℕ) → i < length v → get_or (v ++ y) i 0 ≡ get_or v i 0
    letter-is i m = get_or-append v y 0 i m

    letter-other : (i : ℕ) → i < length v → ¬ (get_or (v ++ y) i 0 ≡ separator)
    letter-other i m = rw (letter-is i m) (unmarked-at v u i)

    cut-is : (i : ℕ) → first_break i v ≡ cut_at i p r (v ++ y)
    cut-is i =
        let same : fate_of (get_or (v ++ y) r 0) (get_or (v ++ y) (p + r) 0) r (separated_icfl (drop p (v ++ y))) ≡ (first_break i v).fate
        = rw (rest-icfl, letter-is r (omega (arith, step-inside)), letter-is (p + r) step-inside)
        (fate-append (get_or v r 0) (get_or v (p + r) 0) r (mark ∷ separated_icfl w) rest-first) in
        ap (λ (f : Fate). let b : Break = record { place = i + p; begun = i; border = r; fate = f } in b) (sym same)

    inner-joins : separated_icfl (v ++ y) ≡ join_first (take p (v ++ y)) r (separated_icfl (drop p (v ++ y)))
    inner-joins =
        let one : separated_icfl (v ++ y) ≡ join_first (take p v) r (icfl (drop p v)) ++ mark ∷ separated_icfl w
        = icfl-split v w u ∙ ap (λ (ms : List (List ℕ)). ms ++ mark ∷ separated_icfl w) (icfl-step v l n) in
        let two : join_first (take p v) r (icfl (drop p v) ++ mark ∷ separated_icfl w) ≡ join_first (take p (v ++ y)) r (separated_icfl (drop p (v ++ y)))
        = rw (rest-icfl, take-append-le p v y (omega (arith, step-inside))) in
        one ∙ (join-append (take p v) r (mark ∷ separated_icfl w) rest-first ∙ two)

    inner-broken : (i : ℕ)
        → breaks_over i (stretches (v ++ y)) ≡ unless_beside (is_beside_separator (v ++ y) p) (cut_at i p r (v ++ y)) (breaks_over (i + p) (stretches (drop p (v ++ y))))
    inner-broken i =
        let z : i + p + length (drop p v) + 1 ≡ i + length v + 1 = rw length-drop (omega (arith, step-inside)) in
        let one : breaks_over i (stretches (v ++ y)) ≡ first_break i v ∷ (breaks_from (i + p) (drop p v) ++ breaks_over (i + length v + 1) (stretches w))
        = breaks-split i v w u ∙ ap (λ (bs : List Break). bs ++ breaks_over (i + length v + 1) (stretches w)) (breaks-step i v l n) in
        let rest : breaks_over (i + p) (stretches (drop p (v ++ y))) ≡ breaks_from (i + p) (drop p v) ++ breaks_over (i + length v + 1) (stretches w)
        = rw (rest-is, breaks-split (i + p) (drop p v) w (unmarked-drop p v u), z) in
        let none : is_beside_separator (v ++ y) p ≡ false
        = beside_none (v ++ y) p (letter-other (p - 1) (omega (arith, step-inside))) (letter-other p (omega (arith, step-inside))) in
        one ∙ rw (none, rest, ← cut-is i)

    inner_cut : CutBy (v ++ y) p r
    inner_cut = record { positive = step-positive; inside = rw length-append (omega (arith, step-inside)); joins = inner-joins; broken = inner-broken }

  -- a word without separator
  alone-cut : CutBy v p r
  alone-cut =
      let rest : separated_icfl (drop p v) ≡ icfl (drop p v) = icfl-unmarked (drop p v) (unmarked-drop p v u) in
      record {
        positive = step-positive;
        inside = step-inside;
        joins = icfl-unmarked v u ∙ (icfl-step v l n ∙ rw rest);
        broken = λ i.
            breaks-alone i v u
            ∙ (breaks-step i v l n
            ∙ rw (rest, beside_none v p (unmarked-at v u (p - 1)) (unmarked-at v u p), breaks-alone (i + p) (drop p v) (unmarked-drop p v u)));
      }

-- an inverse Lyndon stretch before a separator
stretch-cut : (v w : List ℕ) → Unmarked v → InverseLyndon v → CutBy (v ++ separator ∷ w) (length v) 0
stretch-cut v w u k = record {
  positive = k.nonempty;
  inside = rw length-append (omega arith);
  joins = icfl-split v w u
      ∙ (rw (icfl-whole v k, take_at v (separator ∷ w) (length v) refl, drop_at v (separator ∷ w) (length v) refl, icfl-separator w)
      (sym (join-none v (record { factor = mark; others = separated_icfl w; is = refl; some = omega arith }))));
  broken = λ i.
      breaks-split i v w u
      ∙ (rw (breaks-whole i v k, drop_at v (separator ∷ w) (length v) refl, beside-right (v ++ separator ∷ w) (length v) (get_or_at v separator w 0 (length v) refl))
      (sym (breaks-separator (i + length v) w)));
}

cut-same : {w : List ℕ} {p q r s : ℕ} → q ≡ p → s ≡ r → CutBy w p r → CutBy w q s
cut-same e f c = rw (e, f) c

letter-cut-by : {w : List ℕ} → Separation w → 0 < length w → get_or w 0 0 < separator → ¬ InverseLyndon w → CutBy w (prefix_length w) (border_length w)
letter-cut-by (whole {v = v} u) l h n = alone-cut v l n u
letter-cut-by (split {v = v} {w = w} u s) l h n = go v u h
  where
    go : (v : List ℕ) → Unmarked v → get_or (v ++ separator ∷ w) 0 0 < separator
        → CutBy (v ++ separator ∷ w) (prefix_length (v ++ separator ∷ w)) (border_length (v ++ separator ∷ w))
    go [] u h = absurd (omega (arith, h))
    go (a ∷ t) u h = near (inverse-lyndon-test (a ∷ t))
      where
        near : {b : Bool} → Decides (InverseLyndon (a ∷ t)) b
            → CutBy ((a ∷ t) ++ separator ∷ w) (prefix_length ((a ∷ t) ++ separator ∷ w)) (border_length ((a ∷ t) ++ separator ∷ w))
        near (holds k) = cut-same (prefix-larger a separator t w h k) (border-larger a separator t w h k) (stretch-cut (a ∷ t) w u k)
        near (fails k) =
            cut-same (prefix-append (a ∷ t) (separator ∷ w) (omega arith) k) (border-append (a ∷ t) (separator ∷ w) (omega arith) k)
            (inner_cut (a ∷ t) (omega arith) k u w)

pub letter-cut : (w : List ℕ) → 0 < length w → get_or w 0 0 < separator → ¬ InverseLyndon w → CutBy w (prefix_length w) (border_length w)
letter-cut w l h n = letter-cut-by (separation w) l h n

letter-last-by : {w : List ℕ} → Separation w → get_or w 0 0 < separator → InverseLyndon w → Uncut w
letter-last-by (whole {v = v} u) h k = record { one = icfl-unmarked v u ∙ icfl-whole v k; unbroken = λ i. breaks-alone i v u ∙ breaks-whole i v k }
letter-last-by (split {v = v} {w = w} u s) h k = absurd (go v h k)
  where
    go : (v : List ℕ) → get_or (v ++ separator ∷ w) 0 0 < separator → InverseLyndon (v ++ separator ∷ w) → ⊥
    go [] h k = omega (arith, h)
    go (a ∷ t) h k =
        let x : List ℕ = (a ∷ t) ++ separator ∷ w in
        past-larger-fails a separator t w (length x) h (rw length-append (omega arith)) (rw (take-length x) k)

pub letter-last : (w : List ℕ) → get_or w 0 0 < separator → InverseLyndon w → Uncut w
letter-last w h k = letter-last-by (separation w) h k
