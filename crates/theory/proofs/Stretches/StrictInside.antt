-- Strict pieces inside a part of a record. THEOREM strict-inside: between two strict ends of a record stand as many strict pieces as that part has when it is
-- cut alone. Consecutive strict pieces are the strict pieces of their own product (separated-cfl-in-infix).
--   inside-split, inside-some, inside-all, inside-few     how many of rising ends lie after one place and not after another
use Rattle.std.specs.Prelude.{◌≡◌, refl, ℕ, ◌+◌, ◌-◌, ◌≤◌, length}
use Rattle.std.proofs.Common.{ap, sym, ◌∙◌, arith, length-append}
use mathlib.Core.List.{List, [], ◌∷◌, ◌++◌, flatten}
use Rattle.std.proofs.Math.Seq.{slice}
use Rattle.words.specs.Words.{AntiLyndon}
use Rattle.words.specs.Factorizations.{ends_from}
use Rattle.theory.specs.Statements.{EqualOrAfter, Linked}
use Rattle.theory.specs.Places.FirstSuffixes.{Boundary, start, later}
use Rattle.theory.specs.Places.Parts.{slice-middle}
use Rattle.theory.specs.Places.LinkedLaws.{linked-before, linked-after}
use Rattle.words.specs.Separated.{separated_cfl_in, separated_cfl_in_ends}
use Rattle.theory.specs.SeparatedStatements.{MarkOr, UnlessMark}
use Rattle.words.specs.Pairs.{ends_inside}
use Rattle.theory.specs.Stretches.Separation.{flatten-append}
use Rattle.theory.proofs.Stretches.Separation.{separated-cfl-in-concat}
use Rattle.theory.specs.Stretches.Factors.{anti-lyndon-factor}
use Rattle.theory.proofs.Stretches.Factors.{separated-cfl-in-is, separated-cfl-in-unique}
use Rattle.theory.specs.Stretches.StrictInside.{infix-count, parted}

boundary-past : (xs ys : List (List ℕ)) {j : ℕ} → Boundary j (xs ++ ys) → length (flatten xs) ≤ j → Boundary (j - length (flatten xs)) ys
unfolding flatten
boundary-past [] ys {j} b l = rw (let z : j - 0 ≡ j = omega arith in z) b
boundary-past (x ∷ xs) ys start l = rw (let z : 0 - length (x ++ flatten xs) ≡ 0 = omega arith in z) start
boundary-past (x ∷ xs) ys (later {i = k} b) l =
    let e : length (x ++ flatten xs) ≡ length x + length (flatten xs) = length-append x (flatten xs) in
    let z : length x + k - length (x ++ flatten xs) ≡ k - length (flatten xs) = omega arith in
    rw z (boundary-past xs ys b (omega arith))

-- ---- the strict cut

pub separated-cfl-in-infix : (w : List ℕ) (xs ms ys : List (List ℕ)) → xs ++ (ms ++ ys) ≡ separated_cfl_in w → ms ≡ separated_cfl_in (flatten ms)
separated-cfl-in-infix w xs ms ys e = separated-cfl-in-unique (flatten ms) ms (record {
  product = refl;
  words = linked-before ms ys (linked-after xs (rw (← e) at (separated-cfl-in-is w).words));
})

pub strict-inside : (w : List ℕ) (i j : ℕ) → Boundary i (separated_cfl_in w) → Boundary j (separated_cfl_in w) → i ≤ j
    → ends_inside i j (separated_cfl_in_ends w) ≡ length (separated_cfl_in (slice i j w))
unfolding separated_cfl_in_ends
strict-inside w i j b c l =
    let p = parted b in
    let q = parted (boundary-past p.before p.after {j = j} (rw p.whole c) (omega (arith, p.size))) in
    let xs = p.before in
    let ms = q.before in
    let ys = q.after in
    let e : xs ++ (ms ++ ys) ≡ separated_cfl_in w = rw q.whole p.whole in
    let n : i + length (flatten ms) ≡ j = omega (arith, p.size, q.size) in
    let product : w ≡ flatten xs ++ (flatten ms ++ flatten ys)
    = sym (separated-cfl-in-concat w) ∙ (ap flatten (sym e) ∙ (flatten-append xs (ms ++ ys) ∙ ap (λ (t : List ℕ). flatten xs ++ t) (flatten-append ms ys))) in
    let middle : slice i j w ≡ flatten ms
    = ap (slice i j) product ∙ slice-middle (flatten xs) (flatten ms) (flatten ys) {i = i} {j = j} (sym p.size) (omega (arith, p.size, n)) in
    let linked : Linked (MarkOr AntiLyndon) (UnlessMark EqualOrAfter) (xs ++ (ms ++ ys)) = rw e (separated-cfl-in-is w).words in
    let count : ends_inside i j (ends_from 0 (xs ++ (ms ++ ys))) ≡ length ms
    = infix-count (λ m k. (anti-lyndon-factor m k).nonempty) xs ms ys linked i j p.size n in
    rw (middle, ← separated-cfl-in-infix w xs ms ys e) (rw e at count)
