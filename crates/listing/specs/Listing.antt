-- DEFINITIONS. The listing of a record, byte for byte (listing_of): "`key=value` lines in the order below, each ended by byte 10, or the one line
-- `refused=` and the number."
use Rattle.std.specs.Prelude.{◌≡◌, ℕ, ◌*◌, length}
use mathlib.Core.List.{List, [], ◌∷◌, flatten}
use Rattle.words.specs.Separated.{separated_icfl_ends, separated_cfl_in_ends}
use Rattle.words.specs.Pairs.{separated_pairs}
use Rattle.buffers.specs.Buffers.{cleared, written}
use Rattle.checks.specs.Lines.{tried, Door, ◌unless◌then◌, record_lines}
use Rattle.summary.specs.Summary.{summary_of}
use Rattle.summary.specs.declared.Summary.{Summary}
use Rattle.text.specs.Text.{ascii, decimal, list_by, comma_list, pair_list, line}

-- "The lines give the record's length, the number of pieces, their ends, the strict ends, the longest piece's length, its first place, and the
-- counts of bands 1 to 13." Request 108: "The program prints `ends=13:2,17:2` for record I"
abbrev pub lines_of : ℕ → List ℕ → List ℕ → Summary → List (List ℕ)
lines_of n pairs strict summary =
    line (ascii "length") (decimal n)
    ∷ line (ascii "pieces") (decimal summary.count)
    ∷ line (ascii "ends") (pair_list pairs)
    ∷ line (ascii "strict") (comma_list strict)
    ∷ line (ascii "longest") (decimal summary.longest)
    ∷ line (ascii "from") (decimal summary.from)
    ∷ line (ascii "bands") (comma_list summary.bands)
    ∷ []

unfoldable pub seven_lines : ℕ → List ℕ → List ℕ → Summary → List ℕ
unfolding decimal list_by line flatten
seven_lines n pairs strict summary = flatten (lines_of n pairs strict summary)

-- "the one line `refused=` and the number"
abbrev pub refused_line : ℕ → List ℕ
refused_line number = line (ascii "refused") (decimal number)

-- the lines that the program tries
abbrev pub listing_door : Door
listing_door = record_lines

-- the listing of a record
unfoldable pub listing_of : List ℕ → List ℕ
unfolding decimal line seven_lines separated_icfl_ends separated_pairs separated_cfl_in_ends summary_of tried
listing_of w = seven_lines (length w) (separated_pairs w) (separated_cfl_in_ends w) (summary_of (separated_icfl_ends w)) unless listing_door w then refused_line

-- what the call answers and leaves in its buffers: the listing's length, the listing at the front of out, and the others as the two cuts leave them
pub record Listed (w work pairs strict out : List ℕ) (r : ℕ) (work' pairs' strict' out' : List ℕ) : Type 0 where
  pub size : r ≡ length (listing_of w)
  pub text : out' ≡ written (listing_of w) out
  pub worked : work' ≡ cleared (3 * length w) work unless listing_door w then (λ number. work)
  pub pieces : pairs' ≡ written (separated_pairs w) pairs unless listing_door w then (λ number. pairs)
  pub stricts : strict' ≡ written (separated_cfl_in_ends w) strict unless listing_door w then (λ number. strict)
