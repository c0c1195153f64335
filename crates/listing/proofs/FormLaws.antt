-- THEOREM listing-formed, form-printed, formed-only, same-values, listing-only (request 109). Every listing that we print has the form; a text of the form is
-- the printing of the values read from it; and texts of the same values are the same bytes. So a text of the form is a record's listing just where its
-- values are the record's.
use mathlib.Core.Path.{◌≡◌, refl, ap, sym, ◌∙◌}
use mathlib.Core.Logic.{◌↔◌}
use mathlib.Core.Bool.{true}
use mathlib.Core.List.{List, [], ◌∷◌, ◌++◌, flatten, append-nil}
use Prim.Native.Nat.{ℕ, ◌%◌, ◌≤◌, ◌<◌}
use native.Mathlib.Nat.{le_trans}
use native.Mathlib.Omega.{arith}
use lib.ListN.{length}
use Rattle.words.specs.Separated.{separated_icfl_ends, separated_cfl_in_ends}
use Rattle.words.specs.Pairs.{separated_pairs}
use Rattle.theory.specs.Places.EndsRise.{Rises}
use Rattle.theory.specs.Places.EndsRise.{rises-few, rises-inside, rises-some}
use Rattle.theory.specs.Places.PairedLists.{paired-inside}
use Rattle.theory.specs.Stretches.Factors.{separated-icfl-ends-rise}
use Rattle.theory.proofs.Stretches.Factors.{separated-cfl-in-ends-rise}
use Rattle.theory.proofs.Stretches.RecordPairs.{pairs-entries, pairs-paired}
use Rattle.checks.specs.Lines.{tried, record_lines, Accepted, Passed}
use Rattle.checks.proofs.RecordLaws.{record-passes}
use Rattle.summary.specs.Summary.{lengths_from, greatest, summary_of}
use Rattle.summary.specs.declared.Summary.{Summary}
use Rattle.summary.proofs.SummaryLaws.{bands-length}
use Rattle.text.specs.Text.{ascii, decimal, comma_list, pair_list, line}
use Rattle.text.specs.Reading.{Read, nothing, found, most_number, number, exactly, numbers, pairs, line_of}
use Rattle.text.proofs.Readers.{Reads, Any, number-reads, newline-stops, reads-one}
use Rattle.text.proofs.ReaderKinds.{line_reads, then-reads}
use Rattle.text.proofs.ListReaders.{Numbers, numbers-read, exactly-read, pairs-read}
use Rattle.listing.specs.Listing.{lines_of, seven_lines, listing_of}
use Rattle.listing.specs.Form.{Values, seven_values, is_whole, is_listing}
use Rattle.listing.proofs.Bounds.{longest-most, start-most, bands-most}

-- ---- values as they are printed, and the values that can be read

unfoldable pub printed : Values → List ℕ
printed v =
    line (ascii "length") (decimal v.0)
    ++ (line (ascii "pieces") (decimal v.1.0)
    ++ (line (ascii "ends") (pair_list v.1.1.0)
    ++ (line (ascii "strict") (comma_list v.1.1.1.0)
    ++ (line (ascii "longest") (decimal v.1.1.1.1.0)
    ++ (line (ascii "from") (decimal v.1.1.1.1.1.0)
    ++ line (ascii "bands") (comma_list v.1.1.1.1.1.1))))))

abbrev pub Good : Values → Type 0
Good v = (v.0 ≤ most_number)
    × ((v.1.0 ≤ most_number)
    × ((Numbers v.1.1.0 × (length v.1.1.0 % 2 ≡ 0))
    × (Numbers v.1.1.1.0
    × ((v.1.1.1.1.0 ≤ most_number)
    × ((v.1.1.1.1.1.0 ≤ most_number) × (Numbers v.1.1.1.1.1.1 × (length v.1.1.1.1.1.1 ≡ 13)))))))

-- ---- the seven lines are read

number-line : (key : List ℕ) → Reads (line_of key number) (λ n. line key (decimal n)) (λ n. n ≤ most_number) Any
number-line key = line_reads number-reads key (λ z. newline-stops)

ends-line : Reads (line_of (ascii "ends") pairs) (λ ns. line (ascii "ends") (pair_list ns)) (λ ns. Numbers ns × (length ns % 2 ≡ 0)) Any
ends-line = line_reads pairs-read (ascii "ends") (λ z. refl)

strict-line : Reads (line_of (ascii "strict") numbers) (λ ns. line (ascii "strict") (comma_list ns)) Numbers Any
strict-line = line_reads numbers-read (ascii "strict") (λ z. refl)

bands-line : Reads (line_of (ascii "bands") (exactly 13 numbers)) (λ ns. line (ascii "bands") (comma_list ns)) (λ ns. Numbers ns × (length ns ≡ 13)) Any
bands-line = line_reads (exactly-read 13) (ascii "bands") (λ z. refl)

pub values-read : Reads seven_values printed Good Any
unfolding seven_values printed
values-read =
    then-reads (number-line (ascii "length"))
    (then-reads (number-line (ascii "pieces"))
    (then-reads ends-line
    (then-reads strict-line
    (then-reads (number-line (ascii "longest"))
    (then-reads (number-line (ascii "from")) bands-line (λ b y g s. tt)) (λ b y g s. tt)) (λ b y g s. tt)) (λ b y g s. tt))
    (λ b y g s. tt))
    (λ b y g s. tt)

-- ---- the form

pub form-printed : (v : Values) → Good v → is_listing (printed v) ≡ true
unfolding is_listing
form-printed v g = ap is_whole (rw append-nil at (values-read.whole v [] g tt))

-- a text is the printing of values that can be read
pub record Formed (t : List ℕ) (v : Values) : Type 0 where
  pub good : Good v
  pub is : t ≡ printed v

pub read-formed : (t : List ℕ) (v : Values) → seven_values t ≡ found v [] → Formed t v
read-formed t v e = let s = values-read.sound t v [] e in record { good = s.0; is = s.1 ∙ append-nil (printed v) }

pub formed-only : (t : List ℕ) → is_listing t ≡ true → (v : Values) × ((seven_values t ≡ found v []) × Formed t v)
unfolding is_listing
formed-only t e = go (seven_values t) refl e
  where
    go : (q : Read Values) → seven_values t ≡ q → is_whole q ≡ true → (v : Values) × ((seven_values t ≡ found v []) × Formed t v)
    go nothing p h = let z : ◌≡◌ {A = ℕ} 0 1 = cc in absurd (omega arith)
    go (found v []) p h = (v, (p, read-formed t v p))
    go (found v (c ∷ y)) p h = let z : ◌≡◌ {A = ℕ} 0 1 = cc in absurd (omega arith)

-- texts of different values differ
pub same-values : (v u : Values) → Good v → Good u → printed v ≡ printed u → v ≡ u
same-values v u g h e = reads-one values-read v u g h tt e

-- ---- our own listings

unfoldable pub values_of : List ℕ → Values
values_of w =
    let s : Summary = summary_of (separated_icfl_ends w) in
    (length w, (s.count, (separated_pairs w, (separated_cfl_in_ends w, (s.longest, (s.from, s.bands))))))

-- the lines stay shut here: what is said of seven texts is said of them
seven : (a b c d e f g : List ℕ) → flatten (a ∷ b ∷ c ∷ d ∷ e ∷ f ∷ g ∷ []) ≡ a ++ (b ++ (c ++ (d ++ (e ++ (f ++ g)))))
unfolding flatten
seven a b c d e f g = ap (λ (t : List ℕ). a ++ (b ++ (c ++ (d ++ (e ++ (f ++ t)))))) (append-nil g)

seven-lines : (n : ℕ) (ps strict : List ℕ) (s : Summary) → seven_lines n ps strict s ≡ flatten (lines_of n ps strict s)
unfolding seven_lines
seven-lines n ps strict s = refl

seven-printed : (n : ℕ) (ps strict : List ℕ) (s : Summary)
    → seven_lines n ps strict s ≡ printed (n, (s.count, (ps, (strict, (s.longest, (s.from, s.bands))))))
unfolding printed
seven-printed n ps strict s = seven-lines n ps strict s ∙ seven _ _ _ _ _ _ _

values-are : (w : List ℕ) (s : Summary) → s ≡ summary_of (separated_icfl_ends w)
    → values_of w ≡ (length w, (s.count, (separated_pairs w, (separated_cfl_in_ends w, (s.longest, (s.from, s.bands))))))
unfolding values_of
values-are w s e = rw e

accepted-lines : (w : List ℕ) → tried (record_lines w) ≡ Passed
    → listing_of w ≡ seven_lines (length w) (separated_pairs w) (separated_cfl_in_ends w) (summary_of (separated_icfl_ends w))
unfolding listing_of
accepted-lines w e = rw e

module _ (w : List ℕ) (a : Accepted w) where
  pub listing-good : Good (values_of w)
  unfolding values_of summary_of
  listing-good = (
    a.short,
    (
      few,
      (
        ((omega (arith, pairs-entries w, some), λ i. le_trans (paired-inside (pairs-paired w) i) a.short), omega (arith, pairs-entries w)),
        (
          (rises-some strict a.nonempty, λ i. le_trans (rises-inside strict i) a.short),
          (
            le_trans (longest-most rise) a.short,
            (
              le_trans (start-most (greatest (lengths_from 0 es)) rise) a.short,
              ((omega (arith, bands-length es), λ i. le_trans (bands-most es i) few), bands-length es),
            ),
          ),
        ),
      ),
    ),
  )
    where
      es : List ℕ
      es = separated_icfl_ends w

      rise : Rises (length w) 0 es
      rise = separated-icfl-ends-rise w

      strict : Rises (length w) 0 (separated_cfl_in_ends w)
      strict = separated-cfl-in-ends-rise w

      some : 0 < length es
      some = rises-some rise a.nonempty

      few : length es ≤ most_number
      few = omega (arith, rises-few rise, a.short)

  pub listing-is : listing_of w ≡ printed (values_of w)
  listing-is =
      accepted-lines w (record-passes w a) ∙ seven-printed (length w) (separated_pairs w) (separated_cfl_in_ends w) (summary_of (separated_icfl_ends w))
      ∙ sym (ap printed (values-are w (summary_of (separated_icfl_ends w)) refl))

  -- "every listing that we print has the form"
  pub listing-formed : is_listing (listing_of w) ≡ true
  listing-formed = ap is_listing listing-is ∙ form-printed (values_of w) listing-good

  -- what the checker decides
  pub listing-only : (t : List ℕ) (v : Values) → seven_values t ≡ found v [] → (t ≡ listing_of w) ↔ (v ≡ values_of w)
  listing-only t v e =
      let f = read-formed t v e in
      (λ z. same-values v (values_of w) f.good listing-good (sym f.is ∙ z ∙ listing-is), λ z. f.is ∙ ap printed z ∙ sym listing-is)
