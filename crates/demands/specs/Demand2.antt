-- DEFINITIONS. Demand 2, for a record w: the pieces are those of the published definition, the strict pieces its Lyndon factors, and the start table's lengths
-- those of the longest strict words; with what requests 102, 103 and 108 add.
use Rattle.std.specs.Prelude.{◌≡◌, ℕ, ◌+◌, ◌-◌, ◌*◌, ◌≤◌, ◌<◌, length, take, drop, get_or, Option, None, Some}
use mathlib.Core.List.{List, [], ◌∷◌, map, Memᴰ}
use Rattle.words.specs.Words.{InverseLyndon, AntiLyndon}
use Rattle.words.specs.Factorizations.{icfl, icfl_breaks, breaks_from, cfl_in, lyndon_table, join_first, failing_length, prefix_length, border_length}
use Rattle.words.specs.declared.Break.{Break}
use Rattle.words.specs.Separated.{
  separator,
  mark,
  Unmarked,
  stretches,
  between,
  breaks_over,
  separated_icfl,
  separated_cfl_in,
  separated_table,
  separated_icfl_ends,
  separated_cfl_in_ends,
  separated_breaks,
}
use Rattle.words.specs.Pairs.{separated_pairs}
use Rattle.theory.specs.Statements.{BoundedExtension, BreaksOf, DominatedBy, EqualOrAfter, CflInOf, Part}
use Rattle.theory.specs.SeparatedStatements.{SeparatedOf, moved, ends_over, kept_ends_of}
use Rattle.theory.specs.PairStatements.{PairsOf}
use Rattle.buffers.specs.Buffers.{cleared, written}
use Rattle.checks.specs.Lines.{Passed}
use Rattle.checks.specs.Answers.{gives, checked, Says}
use Rattle.fates.specs.Entries.{entries_of_breaks}
use Rattle.numbers.specs.declared.SummaryReply.{SummaryReply}
use Rattle.extension.specs.declared.Extension.{Extension}
use Rattle.demands.specs.Calls.{Calls}

-- "An accepted cut or start table writes exactly the answer's entries, from entry 0, and answers with their number": the buffer whole
pub record Gave (vs : List ℕ) (r : Says ℕ) (buffer buffer' : List ℕ) : Type 0 where
  pub count : r ≡ gives (length vs)
  pub entries : buffer' ≡ written vs buffer

-- request 108: "the cut still answers with the number of pieces", and writes their pairs. "After an accepted cut or test .. the entries counted in line 3 are
-- zero and later ones unchanged."
pub record GavePairs (w : List ℕ) (r : Says ℕ) (work pairs work' pairs' : List ℕ) : Type 0 where
  pub count : r ≡ gives (length (separated_icfl_ends w))
  pub entries : pairs' ≡ written (separated_pairs w) pairs
  pub zeros : work' ≡ cleared (3 * length w) work

-- the answer is both numbers; both lists are written
pub record GaveBoth (w : List ℕ) (r : Says (ℕ × ℕ)) (work pairs breaks work' pairs' breaks' : List ℕ) : Type 0 where
  pub counts : r ≡ gives (length (separated_icfl_ends w), length (separated_breaks w))
  pub pairs-are : pairs' ≡ written (separated_pairs w) pairs
  pub breaks-are : breaks' ≡ written (entries_of_breaks (separated_breaks w)) breaks
  pub zeros : work' ≡ cleared (3 * length w) work

-- "The pieces .. are those of the published recursive definition", for a nonempty stretch v
pub record Published (v : List ℕ) : Type 0 where
  pub whole : InverseLyndon v → icfl v ≡ v ∷ []
  pub step : ¬ InverseLyndon v → icfl v ≡ join_first (take (prefix_length v) v) (border_length v) (icfl (drop (prefix_length v) v))
  -- whose L, |p| and |r| are these
  pub extension : ¬ InverseLyndon v → BoundedExtension v (failing_length v) (prefix_length v) (border_length v)
  -- request 102: "every break the cut considered": they are as it describes them, and no others are
  pub considered : BreaksOf v (icfl_breaks v)
  pub no_others : (bs : List Break) → BreaksOf v bs → bs ≡ icfl_breaks v
  -- "the strict pieces are its Lyndon factors in the inverse byte order"
  pub factors : CflInOf v (cfl_in v)
  pub only : (ls : List (List ℕ)) → CflInOf v ls → ls ≡ cfl_in v

pub record Demand2 (c : Calls) (w : List ℕ) : Type 0 where
  -- "The pieces of a record of 1 to 4,096 bytes .."; request 108: "Each entry of the piece cut becomes two numbers, the end and the number of strict pieces
  -- inside."
  pub pieces : (work pairs work' pairs' : List ℕ) (r : Says ℕ) → c.PieceCut w work pairs r work' pairs' → checked r ≡ Passed
      → GavePairs w r work pairs work' pairs'
  pub counted : PairsOf w (separated_pairs w)
  pub two_each : length (separated_pairs w) ≡ 2 * length (separated_icfl_ends w)
  -- "The reader and the summary take the paired list": that of the piece cut is not refused
  pub read : (work pairs work' pairs' : List ℕ) (n : ℕ) → c.PieceCut w work pairs (gives n) work' pairs'
      → (k : ℕ) (part : List ℕ) (number : ℕ) → c.Reading w (take (2 * n) pairs') k part number → k < n → number ≡ 0
  pub summed : (work pairs work' pairs' : List ℕ) (n : ℕ) → c.PieceCut w work pairs (gives n) work' pairs'
      → (r : SummaryReply) → c.Summing w (take (2 * n) pairs') r → r.refusal ≡ 0
  -- request 103: "Each mark is a piece and a strict piece of its own .. Each nonempty stretch between neighbouring marks or the record's edges is cut as a
  -- record by itself": so it is made, and it is the only list of the kind
  pub alone : (i : ℕ) → get_or w i 0 ≡ separator → Part (separated_icfl_ends w) i (i + 1) × Part (separated_cfl_in_ends w) i (i + 1)
  pub by_stretches : separated_icfl w ≡ between mark (map icfl (stretches w))
  pub divided : SeparatedOf InverseLyndon DominatedBy w (separated_icfl w)
  pub only_pieces : (ms : List (List ℕ)) → SeparatedOf InverseLyndon DominatedBy w ms → ms ≡ separated_icfl w
  -- the stretches are the record without its marks
  pub joined : between separator (stretches w) ≡ w
  pub unmarked : (v : List ℕ) → Memᴰ v (stretches w) → Unmarked v
  pub published : (v : List ℕ) → Memᴰ v (stretches w) → 0 < length v → Published v
  -- 'The test answers "falling", or "failing" with L, |p| and |r|'
  pub falls : (work work' : List ℕ) → c.Test w work (gives None) work' → InverseLyndon w
  pub fails : (work work' : List ℕ) (l p r : ℕ) → c.Test w work (gives (Some (record { failing = l; prefix = p; border = r }))) work' → BoundedExtension w l p r
  -- "After an accepted .. test .. the entries counted in line 3 are zero and later ones unchanged."
  pub tested : (work work' : List ℕ) (r : Says (Option Extension)) → c.Test w work r work' → checked r ≡ Passed → work' ≡ cleared (length w) work
  -- request 102: "gives beside the ends every break the cut considered, and both counts"
  pub reasons : (work pairs breaks work' pairs' breaks' : List ℕ) (r : Says (ℕ × ℕ)) → c.ReasonedCut w work pairs breaks r work' pairs' breaks'
      → checked r ≡ Passed → GaveBoth w r work pairs breaks work' pairs' breaks'
  -- "Breaks are given by stretch, in the record's places": those of a stretch at place i are its own, moved there
  pub breaks_by_stretches : separated_breaks w ≡ breaks_over 0 (stretches w)
  pub places : (i : ℕ) (v : List ℕ) → breaks_from i v ≡ map (moved i) (icfl_breaks v)
  -- "The kept breaks and the record's end are exactly the piece ends", with the ends of marks and of nonempty stretches
  pub kept_ends : separated_icfl_ends w ≡ ends_over kept_ends_of 0 (stretches w)
  -- "the strict pieces", likewise
  pub strict_pieces : (ends ends' : List ℕ) (r : Says ℕ) → c.StrictCut w ends r ends' → checked r ≡ Passed → Gave (separated_cfl_in_ends w) r ends ends'
  pub strict_by_stretches : separated_cfl_in w ≡ between mark (map cfl_in (stretches w))
  pub factors : SeparatedOf AntiLyndon EqualOrAfter w (separated_cfl_in w)
  pub only : (ls : List (List ℕ)) → SeparatedOf AntiLyndon EqualOrAfter w ls → ls ≡ separated_cfl_in w
  -- "and the start table holds the length of the longest strict word at each place", 1 at a mark
  pub table : (out out' : List ℕ) (r : Says ℕ) → c.StartTable w out r out' → checked r ≡ Passed → Gave (separated_table w) r out out'
  pub table_by_stretches : separated_table w ≡ between 1 (map lyndon_table (stretches w))
  pub at_mark : (i : ℕ) → get_or w i 0 ≡ separator → get_or (separated_table w) i 0 ≡ 1
  pub inside : (i : ℕ) → i < length w → get_or w i 0 < separator → get_or (separated_table w) i 0 ≤ length w - i
  pub longest : (i : ℕ) → i < length w → get_or w i 0 < separator → AntiLyndon (take (get_or (separated_table w) i 0) (drop i w))
  pub no_longer : (i n : ℕ) → i < length w → get_or w i 0 < separator → get_or (separated_table w) i 0 < n → n ≤ length w - i → ¬ AntiLyndon (take n (drop i w))
