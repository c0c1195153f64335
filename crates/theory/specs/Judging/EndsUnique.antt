-- THEOREM ours-is, ours-unique, ours-run; unmarked-ours-is, unmarked-ours-unique, unmarked-ours-two, unmarked-ours-run (request 109). The ends of a record are Ours, and no other
-- list is: "no record without marks has two such lists", "ours is one". "Any run of its whole pieces, cut alone, keeps its ends less the run's first place",
-- also over marks.
--   parts_from i es w      the parts of w that the ends es bound, the first from place i
use Rattle.std.specs.Prelude.{◌≡◌, refl, ℕ, ◌+◌, ◌-◌, ◌≤◌, ◌<◌, length, take, drop}
use Rattle.std.proofs.Common.{ap, sym, ◌∙◌, arith, le_refl, take-append-drop, length-take-le, take-take}
use mathlib.Core.List.{List, [], ◌∷◌, ◌++◌, map, flatten}
use Rattle.std.proofs.Math.Seq.{slice, slice_empty, length-slice, take-length}
use Rattle.std.proofs.lemmas.List.{drop-append-le}
use Rattle.words.specs.Words.{InverseLyndon}
use Rattle.words.specs.Factorizations.{icfl, ends_from, icfl_ends}
use Rattle.theory.specs.Statements.{Next, end, by, Linked, none, BelowByBorders, Adjacent, here, there}
use Rattle.theory.specs.Places.LinkedLaws.{linked-before, linked-after, linked-map}
use Rattle.theory.specs.EndsStatements.{Division, Ours, OursUnmarked, last_end}
use Rattle.theory.specs.Places.EndsRise.{Rises, rises-few, ends-rise}
use Rattle.theory.specs.Icfl.IcflConcat.{icfl-concat}
use Rattle.theory.specs.Icfl.IcflDominated.{dominated-borders, icfl-borders}
use Rattle.theory.specs.Uniqueness.IcflUnique.{icfl-unique-borders}
use Rattle.words.specs.Separated.{separated_icfl, separated_icfl_ends}
use Rattle.theory.specs.SeparatedStatements.{MarkOr, UnlessMark}
use Rattle.theory.specs.Stretches.StretchEnds.{ends-later}
use Rattle.theory.specs.Places.Parts.{part-word, parts-linked}
use Rattle.theory.specs.Stretches.Factors.{separated-icfl-is, separated-icfl-unique, inverse-lyndon-factor}

unfoldable pub parts_from : ℕ → List ℕ → List ℕ → List (List ℕ)
parts_from i [] w = []
parts_from i (e ∷ es) w = slice i e w ∷ parts_from e es w

-- ---- places

slice-append : (i j k : ℕ) (w : List ℕ) → i ≤ j → j ≤ k → k ≤ length w → slice i j w ++ slice j k w ≡ slice i k w
slice-append i j k w a b c =
    sym (drop-append-le i (take j w) (slice j k w) (rw (length-take-le j w (omega arith)) a))
    ∙ ap (drop i) (ap (λ (t : List ℕ). t ++ slice j k w) (sym (take-take j k w b)) ∙ take-append-drop j (take k w))

rises-front : {n i : ℕ} (xs ys : List ℕ) → Rises n i (xs ++ ys) → Rises (last_end i xs) i xs
unfolding last_end
rises-front [] ys r = Rises.done refl
rises-front (x ∷ xs) ys (Rises.more h r) = Rises.more h (rises-front xs ys r)

rises-back : {n i : ℕ} (xs ys : List ℕ) → Rises n i (xs ++ ys) → Rises n (last_end i xs) ys
unfolding last_end
rises-back [] ys r = r
rises-back (x ∷ xs) ys (Rises.more h r) = rises-back xs ys r

-- ---- the parts as a list of words

parts-append : (i : ℕ) (xs ys w : List ℕ) → parts_from i (xs ++ ys) w ≡ parts_from i xs w ++ parts_from (last_end i xs) ys w
unfolding parts_from last_end
parts-append i [] ys w = refl
parts-append i (x ∷ xs) ys w = ap (λ (t : List (List ℕ)). slice i x w ∷ t) (parts-append x xs ys w)

parts-ends : {n i : ℕ} {es : List ℕ} (w : List ℕ) → n ≤ length w → Rises n i es → ends_from i (parts_from i es w) ≡ es
unfolding parts_from ends_from
parts-ends w l (Rises.done z) = refl
parts-ends {n} {i} w l (Rises.more {e = e} {es = es} h r) =
    let s : i + length (slice i e w) ≡ e = rw (length-slice i e w (omega (arith, rises-few r))) (omega arith) in
    rw s (ap (λ (t : List ℕ). e ∷ t) (parts-ends w l r))

parts-product : {n i : ℕ} {es : List ℕ} (w : List ℕ) → n ≤ length w → Rises n i es → flatten (parts_from i es w) ≡ slice i n w
unfolding parts_from flatten
parts-product {n} {i} w l (Rises.done z) = rw z (sym (slice_empty n w))
parts-product {n} {i} w l (Rises.more {e = e} {es = es} h r) =
    ap (λ (t : List ℕ). slice i e w ++ t) (parts-product w l r) ∙ slice-append i e n w (omega arith) (omega (arith, rises-few r)) l

module _ {P : List ℕ → Type 0} {R : List ℕ → List ℕ → Type 0} (w : List ℕ) where
  parts-walk : (i : ℕ) (es : List ℕ) → ((j k : ℕ) → Adjacent j k (i ∷ es) → P (slice j k w))
      → ((j k l : ℕ) → Adjacent j k (i ∷ es) → Adjacent k l (i ∷ es) → R (slice j k w) (slice k l w)) → Linked P R (parts_from i es w)
  unfolding parts_from
  parts-walk i [] p r = none
  parts-walk i (e ∷ es) p r = Linked.more (p i e here) (next es r) (parts-walk e es (λ j k x. p j k (there x)) (λ j k l x y. r j k l (there x) (there y)))
    where
      next : (fs : List ℕ) → ((j k l : ℕ) → Adjacent j k (i ∷ e ∷ fs) → Adjacent k l (i ∷ e ∷ fs) → R (slice j k w) (slice k l w)) → Next R (slice i e w) (parts_from e fs w)
      next [] r = end
      next (f ∷ fs) r = by (r i e f here (there here))

-- ---- a factorization that is the only list of words of its kind

module _ {P : List ℕ → Type 0} {R : List ℕ → List ℕ → Type 0} (f : List ℕ → List (List ℕ)) (nonempty : (m : List ℕ) → P m → 0 < length m)
    (product : (w : List ℕ) → flatten (f w) ≡ w) (linked : (w : List ℕ) → Linked P R (f w))
    (unique : (w : List ℕ) (ms : List (List ℕ)) → Linked P R ms → flatten ms ≡ w → ms ≡ f w) where
  ends-rise-to : (w : List ℕ) → Rises (length w) 0 (ends_from 0 (f w))
  ends-rise-to w = ends-rise nonempty (linked w) 0 (length w) (rw (product w) (omega arith))

  ends-are : (w : List ℕ) → Division P R w (ends_from 0 (f w))
  ends-are w = record {
    rises = ends-rise-to w;
    parts = λ i j x. rw (product w) at (part-word [] (f w) (linked w) x);
    neighbours = λ i j k x y. rw (product w) at (parts-linked [] (f w) {n = length w} (linked w) (ends-rise-to w) x y);
  }

  ends-linked : (w es : List ℕ) → Rises (length w) 0 es → Linked P R (parts_from 0 es w) → es ≡ ends_from 0 (f w)
  ends-linked w es r g = sym (parts-ends w (le_refl _) r) ∙ ap (ends_from 0) (unique w (parts_from 0 es w) g (parts-product w (le_refl _) r ∙ take-length w))

  ends-unique : (w es : List ℕ) → Division P R w es → es ≡ ends_from 0 (f w)
  ends-unique w es c = ends-linked w es c.rises (parts-walk w 0 es c.parts c.neighbours)

  ends-run : (w xs ys zs : List ℕ) → ends_from 0 (f w) ≡ xs ++ (ys ++ zs)
      → ends_from 0 (f (slice (last_end 0 xs) (last_end (last_end 0 xs) ys) w)) ≡ map (λ e. e - last_end 0 xs) ys
  ends-run w xs ys zs e =
      let a : ℕ = last_end 0 xs in
      let c : Division P R w (xs ++ (ys ++ zs)) = rw e at (ends-are w) in
      let r : Rises (length w) a (ys ++ zs) = rises-back xs (ys ++ zs) c.rises in
      let t : Rises (last_end a ys) a ys = rises-front ys zs r in
      let b : last_end a ys ≤ length w = omega (arith, rises-few (rises-back ys zs r)) in
      let ms : List (List ℕ) = parts_from a ys w in
      let all : Linked P R (parts_from 0 xs w ++ (ms ++ parts_from (last_end a ys) zs w))
      = rw (parts-append 0 xs (ys ++ zs) w, parts-append a ys zs w) at (parts-walk {P = P} {R = R} w 0 (xs ++ (ys ++ zs)) c.parts c.neighbours) in
      let g : ms ≡ f (slice a (last_end a ys) w) = unique _ ms (linked-before ms _ (linked-after (parts_from 0 xs w) all)) (parts-product w b t) in
      let k : ys ≡ map (λ e. a + e) (ends_from 0 ms) = sym (parts-ends w b t) ∙ ends-later a ms in
      ap (ends_from 0) (sym g) ∙ sym (less a (ends_from 0 ms)) ∙ ap (map (λ e. e - a)) (sym k)
    where
      less : (a : ℕ) (es : List ℕ) → map (λ e. e - a) (map (λ e. a + e) es) ≡ es
      less a [] = refl
      less a (e ∷ es) = let z : a + e - a ≡ e = omega arith in rw (z, less a es)

-- ---- words in which no letter is a mark

pub unmarked-ours-is : (w : List ℕ) → OursUnmarked w (icfl_ends w)
unfolding icfl_ends
unmarked-ours-is w = ends-are icfl (λ m p. p.nonempty) icfl-concat icfl-borders icfl-unique-borders w

pub unmarked-ours-unique : (w es : List ℕ) → OursUnmarked w es → es ≡ icfl_ends w
unfolding icfl_ends
unmarked-ours-unique w es c = ends-unique icfl (λ m p. p.nonempty) icfl-concat icfl-borders icfl-unique-borders w es c

pub unmarked-ours-two : (w es fs : List ℕ) → OursUnmarked w es → OursUnmarked w fs → es ≡ fs
unmarked-ours-two w es fs c d = unmarked-ours-unique w es c ∙ sym (unmarked-ours-unique w fs d)

pub unmarked-ours-run : (w xs ys zs : List ℕ) → icfl_ends w ≡ xs ++ (ys ++ zs)
    → icfl_ends (slice (last_end 0 xs) (last_end (last_end 0 xs) ys) w) ≡ map (λ e. e - last_end 0 xs) ys
unfolding icfl_ends
unmarked-ours-run w xs ys zs e = ends-run icfl (λ m p. p.nonempty) icfl-concat icfl-borders icfl-unique-borders w xs ys zs e

-- ---- records

mark-nonempty : (m : List ℕ) → MarkOr InverseLyndon m → 0 < length m
mark-nonempty m p = (inverse-lyndon-factor m p).nonempty

mark-borders : (w : List ℕ) → Linked (MarkOr InverseLyndon) (UnlessMark BelowByBorders) (separated_icfl w)
mark-borders w = linked-map (λ m n p r x y. (dominated-borders m n (inverse-lyndon-factor m p)).0 (r x y)) (separated-icfl-is w).words

mark-unique : (w : List ℕ) (ms : List (List ℕ)) → Linked (MarkOr InverseLyndon) (UnlessMark BelowByBorders) ms → flatten ms ≡ w → ms ≡ separated_icfl w
mark-unique w ms d e =
    separated-icfl-unique w ms (record { product = e; words = linked-map (λ m n p r x y. (dominated-borders m n (inverse-lyndon-factor m p)).1 (r x y)) d })

pub ours-is : (w : List ℕ) → Ours w (separated_icfl_ends w)
unfolding separated_icfl_ends
ours-is w = ends-are separated_icfl mark-nonempty (λ v. (separated-icfl-is v).product) mark-borders mark-unique w

pub ours-unique : (w es : List ℕ) → Ours w es → es ≡ separated_icfl_ends w
unfolding separated_icfl_ends
ours-unique w es c = ends-unique separated_icfl mark-nonempty (λ v. (separated-icfl-is v).product) mark-borders mark-unique w es c

-- from the parts as a list of words
pub ours-linked : (w es : List ℕ) → Rises (length w) 0 es → Linked (MarkOr InverseLyndon) (UnlessMark BelowByBorders) (parts_from 0 es w) → es ≡ separated_icfl_ends w
unfolding separated_icfl_ends
ours-linked w es r g = ends-linked separated_icfl mark-nonempty (λ v. (separated-icfl-is v).product) mark-borders mark-unique w es r g

pub ours-run : (w xs ys zs : List ℕ) → separated_icfl_ends w ≡ xs ++ (ys ++ zs)
    → separated_icfl_ends (slice (last_end 0 xs) (last_end (last_end 0 xs) ys) w) ≡ map (λ e. e - last_end 0 xs) ys
unfolding separated_icfl_ends
ours-run w xs ys zs e = ends-run separated_icfl mark-nonempty (λ v. (separated-icfl-is v).product) mark-borders mark-unique w xs ys zs e
