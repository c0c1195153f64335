-- THEOREM examples. The definitions compute: an empty record between two others, ends counted in each record, an untouched rest of both buffers; a record
-- refused by 4 before a shorter one that fits; and which lists of record ends are faulty.
use Rattle.std.specs.Prelude.{◌≡◌, refl, true, false, [], ◌∷◌, replicate}
use Rattle.words.specs.Separated.{separated_icfl_ends}
use Rattle.words.specs.Pairs.{separated_pairs}
use Rattle.conditions.specs.Conditions.{last_of, falls, are_faulty_record_ends}
use Rattle.checks.specs.Lines.{tried, record_lines}
use Rattle.checks.specs.Answers.{gives, refuses}
use Rattle.batch.specs.Batch.{records_from, Progress, cut_record, cut_records, batch_of}

-- a b | (nothing) | b b a, with a work buffer of ten entries 7 and a result buffer of seven entries 8
abbrev three : Progress
three = batch_of record_lines (97 ∷ 98 ∷ 98 ∷ 98 ∷ 97 ∷ []) (2 ∷ 2 ∷ 5 ∷ []) (replicate 10 7) (replicate 7 8)

-- a b | b a, with two entries
abbrev short : Progress
short = batch_of record_lines (97 ∷ 98 ∷ 98 ∷ 97 ∷ []) (2 ∷ 4 ∷ []) (replicate 7 7) (8 ∷ 8 ∷ [])

pub record Examples : Type 0 where
  pub answers : three.answers ≡ gives 2 ∷ refuses 1 ∷ gives 1 ∷ []
  pub pairs : three.pairs ≡ 1 ∷ 1 ∷ 2 ∷ 1 ∷ 3 ∷ 1 ∷ 8 ∷ []
  pub work : three.work ≡ 0 ∷ 0 ∷ 0 ∷ 0 ∷ 0 ∷ 0 ∷ 0 ∷ 0 ∷ 0 ∷ 7 ∷ []
  pub still-tried : short.answers ≡ refuses 4 ∷ gives 1 ∷ []
  pub still-written : short.pairs ≡ 2 ∷ 1 ∷ []
  pub short-work : short.work ≡ 0 ∷ 0 ∷ 0 ∷ 0 ∷ 0 ∷ 0 ∷ 7 ∷ []
  pub no_end : are_faulty_record_ends [] 0 ≡ true
  pub empty-record : are_faulty_record_ends (0 ∷ []) 0 ≡ false
  pub sixty-four : are_faulty_record_ends (replicate 64 3) 3 ≡ false
  pub sixty-five : are_faulty_record_ends (replicate 65 3) 3 ≡ true
  pub falling : are_faulty_record_ends (3 ∷ 2 ∷ 3 ∷ []) 3 ≡ true
  pub equal : are_faulty_record_ends (0 ∷ 3 ∷ 3 ∷ []) 3 ≡ false
  pub too-low : are_faulty_record_ends (2 ∷ []) 3 ≡ true
  pub too-high : are_faulty_record_ends (4294967295 ∷ []) 3 ≡ true

pub examples : Examples
unfolding records_from cut_record cut_records separated_icfl_ends separated_pairs tried last_of falls are_faulty_record_ends
examples = record {
  answers = refl;
  pairs = refl;
  work = refl;
  still-tried = refl;
  still-written = refl;
  short-work = refl;
  no_end = refl;
  empty-record = refl;
  sixty-four = refl;
  sixty-five = refl;
  falling = refl;
  equal = refl;
  too-low = refl;
  too-high = refl;
}
