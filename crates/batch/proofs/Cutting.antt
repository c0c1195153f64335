-- The call's promise where its list is refused (batch-refused), and the turns of the loop that cuts the records (Cutting): what is still to be cut, from what
-- has come of those before, leads to the whole batch.
use mathlib.Core.Path.{◌≡◌, refl, ap, sym, ◌∙◌}
use mathlib.Core.List.{List, [], ◌∷◌, ◌++◌, map, append_assoc}
use Prim.Native.Nat.{ℕ, zero, suc, ◌+◌, ◌-◌, ◌*◌, ◌≤◌, ◌<◌}
use native.Mathlib.Numerals.{add-one}
use native.Mathlib.Omega.{arith}
use lib.ListN.{length, take, drop, get_or, set, replicate, length-append, length-drop, drop_of_length-le}
use lib.Seq.{slice, drop-cons, set_at, length-take-le}
use Rattle.std.specs.Prelude.{Result, Ok}
use Rattle.words.specs.Words.{most_letters}
use Rattle.words.specs.Pairs.{separated_pairs}
use Rattle.theory.specs.Places.EndsRise.{rises-few}
use Rattle.theory.specs.Stretches.Factors.{separated-icfl-ends-rise}
use Rattle.theory.proofs.Stretches.RecordPairs.{pairs-entries}
use Rattle.buffers.proofs.PartLaws.{part, part-is, rest, rest-is, rest_back}
use Rattle.conditions.specs.Conditions.{most_records}
use Rattle.checks.specs.Lines.{Line, Door, tried, Accepted, Passed, Refused}
use Rattle.checks.specs.Answers.{Says, gives, refuses, count_says}
use Rattle.checks.specs.declared.refusals.Refusal.{Refusal}
use Rattle.checks.proofs.LineLaws.{refused, both-passed, unmet, filled-counted}
use Rattle.conditions.proofs.RecordEndsLaws.{Climbs, climbs-head, climbs-tail, climbs-most, listed}
use Rattle.icfl.specs.Icfl.{icfl_lines, IcflDone}
use Rattle.icfl.proofs.IcflCases.{icfl-filled}
use Rattle.batch.specs.Batch.{records_from, Progress, used_entries, cut_record, cut_records, batch_of, says_of, places_of, batch_with, batch_lines, BatchDone}

pub batch-refused : (door : Door) (bytes es work pairs : List ℕ) {m : ℕ} → Refused m ≡ tried (batch_lines es (length bytes))
    → BatchDone door bytes es work pairs (batch_with m []) work pairs
batch-refused door bytes es work pairs e =
    let lines = batch_lines es (length bytes) in
    record {
      answer = refused lines _ (λ (i : ℕ). batch_with i []) e;
      result = refused lines _ (λ (i : ℕ). pairs) e;
      worked = refused lines _ (λ (i : ℕ). work) e;
    }

-- ---- the loop

-- before any record
abbrev pub blank : List (Result ℕ Refusal)
blank = replicate most_records (Ok 0)

map-set : {A B : Type 0} (f : A → B) (xs : List A) (i : ℕ) (y : A) → map f (set xs i y) ≡ set (map f xs) i (f y)
map-set f [] i y = refl
map-set f (x ∷ xs) zero y = refl
map-set {B = B} f (x ∷ xs) (suc i) y = ap (λ (zs : List B). f x ∷ zs) (map-set f xs i y)

-- one more answer takes the first place past the others
placed-next : (answers : List (Says ℕ)) (a : Result ℕ Refusal) (places : List (Result ℕ Refusal)) {i : ℕ} → says_of places ≡ places_of answers
    → length answers ≡ i → i < most_records → says_of (set places i a) ≡ places_of (answers ++ count_says a ∷ [])
placed-next answers a places {i} e n l =
    let m : most_records - length answers ≡ suc (most_records - length (answers ++ count_says a ∷ [])) =
    rw (length-append answers (count_says a ∷ [])) (omega arith) in
    let none : Says ℕ = gives 0 in
    let rest = replicate (most_records - length (answers ++ count_says a ∷ [])) none in
    map-set count_says places i a
    ∙ ap (λ (b : List (Says ℕ)). set b i (count_says a)) e
    ∙ ap (λ (k : ℕ). set (answers ++ replicate k none) i (count_says a)) m
    ∙ set_at answers none rest (count_says a) i n
    ∙ sym (append_assoc answers (count_says a ∷ []) rest)

-- an answer uses no more entries than the buffer has
used-fits : {door : List Line} {w work left : List ℕ} {said : Says ℕ} {work₁ left₁ : List ℕ} → IcflDone door w work left said work₁ left₁
    → used_entries said ≤ length left₁
used-fits {w} {left = left} {said = gives n} d =
    let f = filled-counted (icfl-filled d) in
    omega (arith, f.1, ap length f.2, length-append (separated_pairs w) (drop (length (separated_pairs w)) left), pairs-entries w)
used-fits {said = refuses number} d = omega arith

pub used-few : {door : List Line} {w work left : List ℕ} {said : Says ℕ} {work₁ left₁ : List ℕ} → (tried door ≡ Passed → Accepted w)
    → IcflDone door w work left said work₁ left₁
    → used_entries said ≤ 2 * most_letters
used-few {door} {w} {work} {left} {said = gives n} g d =
    let f = filled-counted (icfl-filled d) in
    omega (arith, f.1, (g (both-passed door (icfl_lines w (length work) (length left)) f.0).0).short, rises-few (separated-icfl-ends-rise w))
used-few {said = refuses number} g d = omega arith

pub record Cutting (door : Door) (bytes es work₀ pairs₀ work pairs : List ℕ) (places : List (Result ℕ Refusal)) (from used i : ℕ) : Type 0 where
  pub answers : List (Says ℕ)
  pub count : length answers ≡ i
  pub placed : says_of places ≡ places_of answers
  pub on : cut_records door (record { answers = answers; work = work; pairs = pairs; used = used }) (records_from from (drop i es) bytes)
      ≡ batch_of door bytes es work₀ pairs₀
  pub climbs : Climbs (length bytes) from (drop i es)
  pub few : length es ≤ most_records
  pub inside : i ≤ length es
  pub room : used ≤ length pairs

pub cutting-starts : (door : Door) (bytes es work pairs : List ℕ) → tried (batch_lines es (length bytes)) ≡ Passed
    → Cutting door bytes es work pairs work pairs blank 0 0 0
cutting-starts door bytes es work pairs p =
    let l = listed es (length bytes) (unmet (batch_lines es (length bytes)) p).0 in
    record { answers = []; count = refl; placed = refl; on = refl; climbs = l.climbs; few = l.few; inside = omega arith; room = omega arith }

module _ {door : Door} {bytes es work₀ pairs₀ work pairs : List ℕ} {places : List (Result ℕ Refusal)} {from used i : ℕ}
    (g : Cutting door bytes es work₀ pairs₀ work pairs places from used i) where
  pub cutting-ends : tried (batch_lines es (length bytes)) ≡ Passed → length es ≤ i → BatchDone door bytes es work₀ pairs₀ (0, says_of places) work pairs
  unfolding records_from cut_records
  cutting-ends p l =
      let none : drop i es ≡ [] = drop_of_length-le es {i = i} l in
      let so_far : Progress = record { answers = g.answers; work = work; pairs = pairs; used = used } in
      let whole = ap (λ (t : List ℕ). cut_records door so_far (records_from from t bytes)) (sym none) ∙ g.on in
      record {
        answer = rw p (ap (λ (t : List (Says ℕ)). (0, t)) g.placed ∙ ap (λ (q : Progress). batch_with 0 q.answers) whole);
        result = rw p (ap (λ (q : Progress). q.pairs) whole);
        worked = rw p (ap (λ (q : Progress). q.work) whole);
      }

  -- the entries that the next answer uses are among those left
  pub lent-room : {lines : List Line} {w : List ℕ} {said : Says ℕ} {n : ℕ} {work₁ left₁ : List ℕ} → IcflDone lines w work (rest used pairs) said work₁ left₁
      → n ≡ used_entries said
      → length left₁ ≡ length (rest used pairs) → used + n ≤ length pairs
  lent-room d z k = omega (arith, z, k, used-fits d, ap length (rest-is used pairs), length-drop used pairs, g.room)

  module _ (l : i < length es) where
    next : drop i es ≡ get_or es i 0 ∷ drop (i + 1) es
    next = drop-cons es i 0 l ∙ rw (add-one i) refl

    climbs-on : Climbs (length bytes) from (get_or es i 0 ∷ drop (i + 1) es)
    climbs-on = rw next at g.climbs

    -- the record's first place and its end
    pub record-from : from ≤ get_or es i 0
    record-from = climbs-head climbs-on

    pub record-end : get_or es i 0 ≤ length bytes
    record-end = climbs-most (climbs-tail climbs-on)

    pub cutting-on : (a : Result ℕ Refusal) {work₁ left₁ : List ℕ}
        → (let w = slice from (get_or es i 0) bytes in IcflDone (door w) w work (drop used pairs) (count_says a) work₁ left₁)
        → Cutting door bytes es work₀ pairs₀ work₁ (take used pairs ++ left₁) (set places i a) (get_or es i 0) (used + used_entries (count_says a)) (i + 1)
    unfolding records_from cut_records cut_record
    cutting-on a {work₁} {left₁} d = record {
      answers = g.answers ++ count_says a ∷ [];
      count = length-append g.answers (count_says a ∷ []) ∙ omega (arith, g.count);
      placed = placed-next g.answers a places g.placed g.count (omega (arith, g.few));
      on = rw (d.answer, d.result, d.worked)
          (ap (λ (t : List ℕ). cut_records door (record { answers = g.answers; work = work; pairs = pairs; used = used }) (records_from from t bytes))
          (sym next) ∙ g.on);
      climbs = climbs-tail climbs-on;
      few = g.few;
      inside = omega arith;
      room = rw (length-append (take used pairs) left₁, length-take-le used pairs g.room) (omega (arith, used-fits d));
    }

    -- the same, as the code lends the record and what is left of the result buffer
    pub lent-on : (a : Result ℕ Refusal) {n : ℕ} {work₁ left₁ : List ℕ}
        → (let w = part from (get_or es i 0) bytes in IcflDone (door w) w work (rest used pairs) (count_says a) work₁ left₁) → n ≡ used_entries (count_says a)
        → Cutting door bytes es work₀ pairs₀ work₁ (take used pairs ++ (left₁ ++ drop (length pairs - used) (drop used pairs)))
        (set places i a) (get_or es i 0) (used + n)
        (i + 1)
    lent-on a {left₁ = left₁} d z = rw (rest_back used pairs left₁, z) (cutting-on a (rw (part-is from (get_or es i 0) bytes, rest-is used pairs) at d))
