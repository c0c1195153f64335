-- What the functions that look for runs at all places of a stretch and in all stretches ask and promise. No call's promise cites this file.
use Rattle.std.specs.Prelude.{◌≡◌, Bool, true, false, List, map, ℕ, ◌+◌, ◌-◌, ◌*◌, ◌≤◌, ◌<◌, length, get_or}
use Rattle.buffers.specs.Buffers.{written}
use Rattle.words.specs.Words.{most_letters}
use Rattle.words.specs.Separated.{separator}
use Rattle.words.specs.Runs.{Triple, moved_run, separated_runs}
use Rattle.theory.specs.Repetitions.TwoOrders.{UpTo}
use Rattle.theory.specs.Repetitions.Found.{found_at, found_up_to}
use Rattle.theory.specs.Repetitions.Insertion.{InOrder, insert_run, sort_into}
use Rattle.inserting.specs.Entries.{entries_of_runs}
use Rattle.inserting.specs.Inserting.{triple, triples, InsertAsked}
use Rattle.inserting.specs.declared.Run.{Run}
use Rattle.common.specs.Orders.{most_byte}
use Rattle.longest.specs.Longest.{LongestFilled}

-- ---- a list of runs

-- these runs are counted, and written where they are to be stored
pub record Listed (rs : List Triple) (out : List ℕ) (store : Bool) (r : ℕ) (out' : List ℕ) : Type 0 where
  pub counted : r ≡ length rs
  pub stored : store ≡ true → out' ≡ written (entries_of_runs rs) out
  pub kept : store ≡ false → out' ≡ out

-- a run may be put into the list, where it is to be stored
abbrev pub PutAsked : Bool → List ℕ → ℕ → Run → Type 0
PutAsked store out count run = store ≡ true → InsertAsked out count run

-- it is put there
pub record Put (store : Bool) (out : List ℕ) (count : ℕ) (run : Run) (out' : List ℕ) : Type 0 where
  pub stored : store ≡ true → out' ≡ written (entries_of_runs (insert_run (triple run) (triples count out))) out
  pub kept : store ≡ false → out' ≡ out

-- what is found at the places of a word
abbrev pub all_found : List ℕ → List Triple
all_found w = found_up_to most_byte w (length w - 1)

-- the stretch w begins at `from` of a record; what is found in it gets into the list of the first `count` runs
pub record VisitRoom (w longest : List ℕ) (from : ℕ) (out : List ℕ) (count : ℕ) (store : Bool) (found : List Triple) : Type 0 where
  pub bytes : UpTo most_byte w
  pub short : from + length w ≤ most_letters
  pub filled : LongestFilled w longest
  pub few : count + length found ≤ most_letters
  pub room : store ≡ true → 3 * (count + length found) ≤ length out
  pub in_order : store ≡ true → InOrder (triples count out)

-- so does what is found at one of its places, which is not the first
abbrev pub PlaceRoom : List ℕ → List ℕ → ℕ → ℕ → List ℕ → ℕ → Bool → Type 0
PlaceRoom w longest i from out count store = (0 < i) × (i < length w) × VisitRoom w longest from out count store (found_at most_byte w i)

abbrev pub Visited : ℕ → List ℕ → ℕ → Bool → List Triple → ℕ → List ℕ → Type 0
Visited from out count store found r out' = Listed (sort_into (triples count out) (map (moved_run from) found)) out store r out'

-- ---- stretches

-- no separator from a place to e
pub record UnmarkedTo (w : List ℕ) (from e : ℕ) : Type 0 where
  pub after : from ≤ e
  pub inside : e ≤ length w
  pub unmarked : (t : ℕ) → from ≤ t → t < e → ¬ (get_or w t 0 ≡ separator)

-- the stretch from a place on ends at e
pub record StretchEnds (w : List ℕ) (from e : ℕ) : Type 0 where
  pub free : UnmarkedTo w from e
  pub stops : e < length w → get_or w e 0 ≡ separator

-- the record is no longer than it may be; there are entries to work in, and room for its runs where they are to be stored
pub record WalkRoom (w longest out : List ℕ) (store : Bool) : Type 0 where
  pub short : length w ≤ most_letters
  pub work : most_letters ≤ length longest
  pub room : store ≡ true → 3 * length (separated_runs w) ≤ length out

abbrev pub Walked : List ℕ → List ℕ → Bool → ℕ → List ℕ → Type 0
Walked w out store r out' = Listed (separated_runs w) out store r out'

-- what the calls ask and promise: to count the runs of a record, and to list them
pub record CountRoom (w longest : List ℕ) : Type 0 where
  pub short : length w ≤ most_letters
  pub work : most_letters ≤ length longest

pub record ListRoom (w longest out : List ℕ) : Type 0 where
  pub count : CountRoom w longest
  pub room : 3 * length (separated_runs w) ≤ length out

pub record RunsListed (w out : List ℕ) (r : ℕ) (out' : List ℕ) : Type 0 where
  pub counted : r ≡ length (separated_runs w)
  pub listed : out' ≡ written (entries_of_runs (separated_runs w)) out
