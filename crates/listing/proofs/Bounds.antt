-- How long the texts are: a number of at most 4,096 has at most four digits (decimal-four), a list of such numbers at most five bytes an entry
-- (list-most), and the lines of an accepted record have together at most 61,696 bytes (total-most).
use mathlib.Core.Path.{◌≡◌, refl, ap, ◌∙◌}
use mathlib.Core.Logic.{⊎_elim}
use mathlib.Core.List.{List, [], ◌∷◌, flatten}
use Prim.Native.Nat.{ℕ, suc, ◌+◌, ◌*◌, ◌≤◌, ◌<◌}
use native.Mathlib.Nat.{le_trans}
use native.Mathlib.Decide.{dec_lt}
use native.Mathlib.Omega.{arith}
use lib.ListN.{length, get_or, length-append, get_or-eq_default}
use Rattle.words.specs.Words.{most_letters}
use Rattle.words.specs.Separated.{separated_icfl_ends, separated_cfl_in_ends}
use Rattle.words.specs.Pairs.{separated_pairs}
use Rattle.theory.specs.Places.EndsRise.{Rises, done, more}
use Rattle.theory.specs.Places.EndsRise.{rises-few, rises-inside, rises-some}
use Rattle.theory.specs.Stretches.Factors.{separated-icfl-ends-rise}
use Rattle.theory.proofs.Stretches.Factors.{separated-cfl-in-ends-rise}
use Rattle.theory.specs.Places.PairedLists.{paired-inside}
use Rattle.theory.proofs.Stretches.RecordPairs.{pairs-entries, pairs-paired}
use Rattle.checks.specs.Lines.{Accepted}
use Rattle.summary.specs.Summary.{lengths_from, greatest, start_of, bands_of, summary_of}
use Rattle.summary.proofs.SummaryLaws.{start-either, count_most, bands-length, bands-at}
use Rattle.text.specs.Text.{ascii, decimal, each_after, list_by, comma_list, pair_list}
use Rattle.text.proofs.Decimals.{decimal-most}
use Rattle.text.proofs.Texts.{line-length}
use Rattle.listing.specs.Listing.{lines_of, refused_line}
use Rattle.listing.specs.Writing.{total}

pub total-is : (texts : List (List ℕ)) → length (flatten texts) ≡ total texts
unfolding flatten
total-is [] = refl
total-is (text ∷ texts) = length-append text (flatten texts) ∙ ap (λ (k : ℕ). length text + k) (total-is texts)

decimal-four : (n : ℕ) → n ≤ most_letters → length (decimal n) ≤ 4
decimal-four n h = decimal-most 3 n (omega arith)

each-most : (s t : ℕ) (ns : List ℕ) → ((i : ℕ) → get_or ns i 0 ≤ most_letters) → length (each_after (s ∷ []) (t ∷ []) ns) ≤ 5 * length ns
unfolding each_after
each-most s t [] h = omega arith
each-most s t (n ∷ ns) h = simp length-append (omega (arith, decimal-four n (h 0), each-most t s ns (λ i. h (suc i))))

list-most : (s t : ℕ) (ns : List ℕ) → 0 < length ns → ((i : ℕ) → get_or ns i 0 ≤ most_letters)
    → length (list_by (s ∷ []) (t ∷ []) ns) ≤ 5 * length ns
unfolding list_by
list-most s t [] l h = absurd (omega arith)
list-most s t (n ∷ ns) l h = simp length-append (omega (arith, decimal-four n (h 0), each-most s t ns (λ i. h (suc i))))

ends-most : {n : ℕ} {es : List ℕ} → Rises n 0 es → 0 < n → n ≤ most_letters → length (comma_list es) ≤ 5 * most_letters
ends-most {es = es} r p h = omega (arith, rises-few r, list-most 44 44 es (rises-some r p) (λ i. le_trans (rises-inside r i) h))

pairs-most : (w : List ℕ) → Accepted w → length (pair_list (separated_pairs w)) ≤ 10 * most_letters
pairs-most w a =
    let rise = separated-icfl-ends-rise w in
    let some = rises-some rise a.nonempty in
    omega (
      arith,
      rises-few rise,
      a.short,
      pairs-entries w,
      list-most 58 44 (separated_pairs w) (omega (arith, pairs-entries w, some)) (λ i. le_trans (paired-inside (pairs-paired w) i) a.short),
    )

pub refused-most : (number : ℕ) → number ≤ most_letters → length (refused_line number) ≤ 15 * most_letters + 256
refused-most number h = rw (line-length (ascii "refused") (decimal number)) (omega (arith, decimal-four number h))

-- ---- the summary's numbers

pub longest-most : {n b : ℕ} {es : List ℕ} → Rises n b es → greatest (lengths_from b es) ≤ n
unfolding greatest lengths_from
longest-most (done z) = omega arith
longest-most (more {b = b} {e = e} {es = es} h r) = omega (arith, longest-most r, rises-few r)

pub start-most : (m : ℕ) {n b : ℕ} {es : List ℕ} → Rises n b es → start_of m b es ≤ n
unfolding start_of
start-most m (done z) = omega arith
start-most m (more {b = b} {e = e} {es = es} h r) =
    ⊎_elim (λ z. omega (arith, z, rises-few r)) (λ z. omega (arith, z, start-most m r)) (start-either m b e es)

pub bands-most : (es : List ℕ) (k : ℕ) → get_or (bands_of es) k 0 ≤ length es
bands-most es k = go (dec_lt k 13)
  where
    go : Dec (k < 13) → get_or (bands_of es) k 0 ≤ length es
    go (yes h) = rw (bands-at es k h) (count_most (suc k) 0 es)
    go (no h) = rw (get_or-eq_default (bands_of es) 0 {n = k} (rw (bands-length es) (omega arith))) (omega arith)

-- ---- the seven lines

pub total-most : (w : List ℕ) → Accepted w
    → total (lines_of (length w) (separated_pairs w) (separated_cfl_in_ends w) (summary_of (separated_icfl_ends w))) ≤ 15 * most_letters + 256
unfolding summary_of
total-most w a = simp line-length (omega (
  arith,
  decimal-four (length w) a.short,
  decimal-four (length es) few,
  pairs-most w a,
  ends-most (separated-cfl-in-ends-rise w) a.nonempty a.short,
  decimal-four (greatest (lengths_from 0 es)) (le_trans (longest-most rise) a.short),
  decimal-four (start_of (greatest (lengths_from 0 es)) 0 es) (le_trans (start-most (greatest (lengths_from 0 es)) rise) a.short),
  list-most 44 44 (bands_of es) (omega (arith, bands-length es)) (λ i. le_trans (bands-most es i) few),
  bands-length es,
))
  where
    es : List ℕ
    es = separated_icfl_ends w

    rise : Rises (length w) 0 es
    rise = separated-icfl-ends-rise w

    few : length es ≤ most_letters
    few = omega (arith, rises-few rise, a.short)
