-- The listing in each of its cases. A refused record is listed by its number (refused-fits, refused-listed). In buffers with room for every record neither cut
-- refuses one that was accepted (pieces-ok, stricts-ok), so what both write stands at the fronts of two buffers (pairs-inside, lists, listed);
-- the pairs can be summed up (summable-pairs), and the seven lines are the listing (printable, lines_are).
use mathlib.Core.Path.{◌≡◌, refl, sym, ◌∙◌}
use mathlib.Core.List.{List, []}
use Prim.Native.Nat.{ℕ, ◌+◌, ◌*◌, ◌≤◌, ◌<◌}
use native.Mathlib.Nat.{zero-add}
use native.Mathlib.Omega.{arith}
use borrow.Author.Tests.{le-ltb, ltb-true}
use lib.Dec.{ltb}
use lib.ListN.{length, take}
use Rattle.std.specs.Prelude.{Result, Ok, Err, IsOk}
use Rattle.words.specs.Words.{most_letters}
use Rattle.words.specs.Separated.{separated_icfl_ends, separated_cfl_in_ends}
use Rattle.theory.specs.Places.EndsRise.{rises-few}
use Rattle.theory.specs.Stretches.Factors.{separated-icfl-ends-rise}
use Rattle.theory.proofs.Stretches.Factors.{separated-cfl-in-ends-rise}
use Rattle.words.specs.Pairs.{ends_of, separated_pairs}
use Rattle.theory.proofs.Stretches.RecordPairs.{pairs-ends}
use Rattle.buffers.specs.Buffers.{cleared, written}
use Rattle.checks.specs.declared.refusals.Refusal.{Refusal}
use Rattle.checks.specs.Lines.{Line, tried, Accepted, Passed, Refused}
use Rattle.checks.specs.Answers.{number_of, Filled, Says, gives, count_says}
use Rattle.checks.proofs.LineLaws.{not-both, refused, all_pass, refused-tested, filled-front, filled-number}
use Rattle.checks.proofs.RecordLaws.{record-passes}
use Rattle.pairs.proofs.PairsLaws.{own-pairs}
use Rattle.icfl.specs.Icfl.{icfl_lines, IcflDone}
use Rattle.icfl.proofs.IcflCases.{icfl-filled, pairs-counted, pairs-front}
use Rattle.cfl.specs.CflIn.{cfl_in_lines, CflInDone}
use Rattle.summary.specs.Summary.{summary_lines, summary_of, Summable}
use Rattle.summary.specs.declared.Summary.{Summary}
use Rattle.summary.proofs.SummaryLaws.{bands-length}
use Rattle.summary.proofs.EndsAdmitted.{ends-admitted, summable}
use Rattle.text.specs.Writing.{FitsAt, WroteAt}
use Rattle.text.proofs.Stores.{wrote-front}
use Rattle.listing.specs.Listing.{listing_door, lines_of, seven_lines, refused_line, listing_of, Listed}
use Rattle.listing.specs.Writing.{Printable, CutLists, ListingRoom}
use Rattle.listing.proofs.Bounds.{total-is, refused-most, total-most}

-- ---- a record that is refused

module _ (w : List ℕ) (refusal : Refusal) (e : Refused (number_of refusal) ≡ tried (listing_door w)) where
  -- it is 1 or 2
  small : number_of refusal < 3
  small = ltb-true (number_of refusal) 3 (refused-tested (λ n. ltb n 3) (listing_door w) refl e)

  pub refused-fits : {out : List ℕ} → 15 * most_letters + 256 ≤ length out → FitsAt 0 (refused_line (number_of refusal)) out
  refused-fits writing = record { inside = omega (arith, writing, refused-most (number_of refusal) (omega (arith, small))) }

  pub refused-listed : {work pairs strict out : List ℕ} {n : ℕ} {out' : List ℕ} → 15 * most_letters + 256 ≤ length out
      → WroteAt 0 (refused_line (number_of refusal)) out n out' → Listed w work pairs strict out n work pairs strict out'
  unfolding listing_of
  refused-listed {work} {pairs} {strict} writing x =
      let is : refused_line (number_of refusal) ≡ listing_of w = refused (listing_door w) _ refused_line e in
      record {
        size = rw (← is) (omega (arith, x.place));
        text = rw (← is) (wrote-front x (omega (arith, (refused-fits writing).inside)));
        worked = refused (listing_door w) (cleared (3 * length w) work) (λ number. work) e;
        pieces = refused (listing_door w) (written (separated_pairs w) pairs) (λ number. pairs) e;
        stricts = refused (listing_door w) (written (separated_cfl_in_ends w) strict) (λ number. strict) e;
      }

-- ---- a record that is accepted

-- a cut whose lines pass answers a number
filled-ok : {lines : List Line} {n : ℕ} {vs buffer buffer' : List ℕ} (r : Result ℕ Refusal) → Filled lines n vs buffer (count_says r) buffer'
    → tried lines ≡ Passed → IsOk r
filled-ok (Ok m) f e = search
filled-ok (Err refusal) f e = absurd (not-both (filled-number f).0 e)

module _ (w : List ℕ) (a : Accepted w) where
  lets-in : tried (listing_door w) ≡ Passed
  lets-in = record-passes w a

  icfl-passes : (work entries : ℕ) → 3 * most_letters ≤ work → 2 * most_letters ≤ entries → tried (icfl_lines w work entries) ≡ Passed
  icfl-passes work entries h k =
      let works = le-ltb work (3 * length w) (omega (arith, a.short)) in
      let stores = le-ltb entries (2 * length (separated_icfl_ends w)) (omega (arith, rises-few (separated-icfl-ends-rise w), a.short)) in
      all_pass (icfl_lines w work entries) (works, (stores, search))

  cfl-in-passes : (entries : ℕ) → most_letters ≤ entries → tried (cfl_in_lines w entries) ≡ Passed
  cfl-in-passes entries k =
      all_pass (cfl_in_lines w entries)
      (le-ltb entries (length (separated_cfl_in_ends w)) (omega (arith, rises-few (separated-cfl-in-ends-rise w), a.short)), search)

  summary-passes : tried (summary_lines w (separated_pairs w)) ≡ Passed
  summary-passes = all_pass (summary_lines w (separated_pairs w)) (own-pairs w a.nonempty, search)

  listing-is : listing_of w ≡ seven_lines (length w) (separated_pairs w) (separated_cfl_in_ends w) (summary_of (separated_icfl_ends w))
  unfolding listing_of
  listing-is = rw lets-in

  listing-most : length (listing_of w) ≤ 15 * most_letters + 256
  unfolding seven_lines
  listing-most =
      let s = summary_of (separated_icfl_ends w) in
      rw (listing-is, total-is (lines_of (length w) (separated_pairs w) (separated_cfl_in_ends w) s)) (total-most w a)

-- the lines that a record's cuts and its summary give
module _ {w pairs strict out : List ℕ} (a : Accepted w) (c : CutLists w pairs strict out) where
  pub summable-pairs : Summable (ends_of pairs)
  summable-pairs = rw c.pieces (summable (ends-admitted w (separated_pairs w) a (summary-passes w a)))

  module _ {s : Summary} (x : s ≡ summary_of (ends_of pairs)) where
    summary-is : s ≡ summary_of (separated_icfl_ends w)
    summary-is = x ∙ rw (c.pieces, pairs-ends w)

    pub printable : Printable (length w) pairs strict s out
    unfolding summary_of
    printable = record {
      room = rw (summary-is, c.pieces, c.stricts) (omega (arith, c.writing, total-most w a));
      thirteen = rw summary-is (sym (bands-length (separated_icfl_ends w)));
    }

    pub lines_are : seven_lines (length w) pairs strict s ≡ listing_of w
    lines_are = rw (listing-is w a, summary-is, c.pieces, c.stricts)

-- ---- both cuts of it

module _ {w work pairs strict out : List ℕ} (room : ListingRoom work pairs strict out) (a : Accepted w) where
  pieces-pass : tried (icfl_lines w (length work) (length pairs)) ≡ Passed
  pieces-pass = icfl-passes w a (length work) (length pairs) room.working room.cutting

  stricts-pass : tried (cfl_in_lines w (length strict)) ≡ Passed
  stricts-pass = cfl-in-passes w a (length strict) room.strict_cutting

  pub pieces-ok : {work' pairs' : List ℕ} (r : Result ℕ Refusal) → IcflDone [] w work pairs (count_says r) work' pairs' → IsOk r
  pieces-ok r cut = filled-ok r (icfl-filled cut) pieces-pass

  pub stricts-ok : {strict' : List ℕ} (r : Result ℕ Refusal) → CflInDone [] w strict (count_says r) strict' → IsOk r
  stricts-ok r cut = filled-ok r cut stricts-pass

  -- they answer how much they wrote
  module _ {work' pairs' : List ℕ} {r : Result ℕ Refusal} {pieces : ℕ} (cut : IcflDone [] w work pairs (count_says r) work' pairs') (p : r ≡ Ok pieces) where
    cut_ok : IcflDone [] w work pairs (gives pieces) work' pairs'
    cut_ok = rw p at cut

    pub pieces-few : pieces ≤ most_letters
    pieces-few = omega (arith, pairs-counted cut_ok, rises-few (separated-icfl-ends-rise w), a.short)

    module _ {entries : ℕ} (n : entries ≡ 2 * pieces) where
      pub pairs-inside : entries ≤ length pairs'
      pairs-inside = omega (arith, n, (pairs-front cut_ok).1)

      module _ {strict' : List ℕ} {t : Result ℕ Refusal} {stricts : ℕ} (strict-cut : CflInDone [] w strict (count_says t) strict') (q : t ≡ Ok stricts) where
        pub lists : CutLists w (take entries pairs') (take stricts strict') out
        lists = record { pieces = rw n (pairs-front cut_ok).0; stricts = (filled-front (rw q at strict-cut)).0; writing = room.writing }

  pub listed : {work' pairs' strict' : List ℕ} {said told : Says ℕ} {n : ℕ} {out' : List ℕ} → IcflDone [] w work pairs said work' pairs'
      → CflInDone [] w strict told strict' → WroteAt 0 (listing_of w) out n out' → Listed w work pairs strict out n work' pairs' strict' out'
  listed cut strict-cut x = record {
    size = x.place ∙ zero-add _;
    text = wrote-front x (omega (arith, room.writing, listing-most w a));
    worked = rw (lets-in w a) (rw pieces-pass at cut.worked);
    pieces = rw (lets-in w a) (rw pieces-pass at cut.result);
    stricts = rw (lets-in w a) (rw stricts-pass at strict-cut.result);
  }
