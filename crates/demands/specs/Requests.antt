-- DEFINITIONS. What paper 01 and requests 101, 105 and 107 promise of calls that demands 2 and 3 do not name: the part that is read, the summary, the answers
-- for the records of a card, and the list of repetitions.
use Rattle.std.specs.Prelude.{◌≡◌, ℕ, ◌+◌, ◌-◌, ◌*◌, ◌≤◌, ◌<◌, length, take, drop, get_or}
use mathlib.Core.List.{List, [], ◌∷◌, ◌++◌, sum, Memᴰ}
use Rattle.std.proofs.Math.Seq.{slice}
use Rattle.words.specs.Runs.{Triple}
use Rattle.theory.specs.Statements.{Part}
use Rattle.theory.specs.RunStatements.{Earlier, IsSeparatedRun, Rising}
use Rattle.buffers.specs.Buffers.{written}
use Rattle.checks.specs.Answers.{Says, gives, refuses}
use Rattle.batch.specs.Batch.{records_from, used_entries, places_of}
use Rattle.batch.specs.BatchStatements.{Left}
use Rattle.inserting.specs.Entries.{entries_of_runs}
use Rattle.pairs.specs.PairedList.{factor_begin}
use Rattle.numbers.specs.declared.SummaryReply.{SummaryReply}
use Rattle.summary.specs.Summary.{bit_length_of, bands_of}
use Rattle.summary.specs.SummaryStatements.{LatestLongest, Digits}
use Rattle.demands.specs.Calls.{Calls}

-- ---- paper 01's reader and summary, for a record w and a list with the ends es that are not refused

-- "The reader takes a record, a list of ends and a piece number from 0, and gives that part of the record": from the end before it, 0 for the first, to its end
pub record PartRead (w es : List ℕ) (k : ℕ) (part : List ℕ) : Type 0 where
  pub listed : Part es (factor_begin es k) (get_or es k 0)
  pub part-is : part ≡ slice (factor_begin es k) (get_or es k 0) w

pub record SummedUp (es : List ℕ) (r : SummaryReply) : Type 0 where
  -- "the number of pieces"
  pub count : r.count ≡ length es
  -- "the longest piece's length and first place"; request 101: "The summary shall name the latest of the longest pieces."
  pub longest : LatestLongest es r.longest r.from
  -- "The summary holds thirteen counts, one for each band."
  pub bands : r.bands ≡ bands_of es
  -- "A piece's band is the number of binary digits of its length, 1 to 13"
  pub digits : (i j : ℕ) → Part es i j → Digits (j - i) (bit_length_of (j - i))
  -- "the counts add up to the number of pieces"
  pub total : sum ◌+◌ 0 r.bands ≡ r.count

-- ---- request 105, the answers for the records of a card that is not refused

-- "Each record's answer, refusal included, is the one a single call gives with what is left of the result buffer. A refused record uses none of it, and the
-- next one is still tried.": the calls one after another, each with the buffers as the one before left them
pub data Singly (c : Calls) : (records : List (List ℕ)) (work left : List ℕ) (answers : List (Says ℕ)) (work' left' : List ℕ) → Type 0 where
  none : {work left : List ℕ} → Singly c [] work left [] work left
  next : {w work left work₁ left₁ work' left' : List ℕ} {ws : List (List ℕ)} {a : Says ℕ} {answers : List (Says ℕ)} → c.PieceCut w work left a work₁ left₁
      → Singly c ws work₁ (drop (used_entries a) left₁) answers work' left'
      → Singly c (w ∷ ws) work left (a ∷ answers) work' (take (used_entries a) left₁ ++ left')

pub record CardAnswered (c : Calls) (bytes es work pairs : List ℕ) (r : ℕ × List (Says ℕ)) (work' pairs' : List ℕ) : Type 0 where
  pub answers : List (Says ℕ)
  -- "The answers come in the card's order, in 64 places; those past the last record hold a result of 0."
  pub places : r.1 ≡ places_of answers
  pub singly : Singly c (records_from 0 es bytes) work pairs answers work' pairs'
  -- the pairs without gaps, and the work buffer's zeros up to 3 times the longest record that was cut or refused by 4
  pub left : Left (records_from 0 es bytes) answers work pairs work' pairs'
  -- two entries a byte are enough
  pub enough : 2 * length bytes ≤ length pairs → (a : Says ℕ) → Memᴰ a answers → ¬ (a ≡ refuses 4)

-- ---- request 107, the answer for a record w that is not refused

pub record RepetitionsListed (w out : List ℕ) (r : Says ℕ) (out' : List ℕ) : Type 0 where
  pub listed : List Triple
  -- "List every maximal repetition: first place, end and period. .. Marks belong to none and end their neighbours."
  pub sound : (t : Triple) → Memᴰ t listed → IsSeparatedRun w t
  pub complete : (t : Triple) → IsSeparatedRun w t → Memᴰ t listed
  -- "Each is listed once, by first place and then by period."
  pub in_order : Rising Earlier listed
  -- "a record always has fewer of them than bytes, as the published "Runs" theorem says"
  pub fewer : length listed < length w
  -- "The call answers with the number of repetitions"
  pub count : r ≡ gives (length listed)
  -- "Each fills three 16-bit entries in that order, from entry 0, and what a result buffer holds past the answer stays"
  pub entries : out' ≡ written (entries_of_runs listed) out
