-- THEOREMS about calls that are careless of marks (request 103): the demand that shuts each of them out. And over-marks:
-- demand 3's first sentence would be false of whole pieces that hold marks.
use Rattle.std.specs.Prelude.{◌≡◌, refl, true, false, List, [], ◌∷◌, ◌++◌, ℕ, ◌*◌, length, get_or, replicate, eqb, pos, negsuc, ℤ, None}
use Rattle.std.proofs.Common.{ap, sym, ◌∙◌, arith}
use mathlib.Core.List.Memᴰ
use Rattle.words.specs.Words.{is_inverse_lyndon, common_length_of, remainder, sign}
use Rattle.words.specs.Factorizations.{icfl_ends}
use Rattle.theory.specs.Statements.{WholePieces, Compatible}
use Rattle.words.specs.Separated.{separator, separated_icfl_ends, has_mark}
use Rattle.words.specs.Examples.{a}
use Rattle.theory.specs.Orders.CommonWithin.{common-within-is, shared-unique}
use Rattle.checks.specs.Answers.{gives, refuses, Says}
use Rattle.checks.specs.Lines.{Line, tried, ◌unless◌then◌, work_line, mark_line, Refused}
use Rattle.checks.proofs.LineLaws.{not-both}
use Rattle.extension.specs.Extension.{verdict_of}
use Rattle.compare.specs.Compare.{sign_said, compare_lines, order_of}
use Rattle.demands.specs.Calls.{Calls}
use Rattle.demands.specs.Demand1.{record_door, Demand1}
use Rattle.demands.specs.Demand2.{Demand2}
use Rattle.demands.specs.Demands.{Demands}
use Rattle.demands.specs.Meets.{Meets}
use Rattle.demands.specs.OneCall.{Test, tester, cutter, comparer}
use Rattle.demands.proofs.Careless.{CutsAt, counted_at, other-ends, Answering}
use Rattle.demands.proofs.CarelessComparing.{Compares, third_of, no_byte, one_byte, first_two, above_zero}

abbrev pub m : ℕ
m = 255

-- ---- cuts

-- 255 as the hottest level, as paper 01 had it: `ff 61` is one falling piece then
pub level-for-mark : ¬ Demand2 (cutter (CutsAt (counted_at icfl_ends))) (m ∷ a ∷ [])
unfolding icfl_ends separated_icfl_ends
level-for-mark = other-ends icfl_ends (m ∷ a ∷ []) (omega arith) (omega arith)
    (λ e. let z : ◌≡◌ {A = ℕ} 2 1 = ap (λ (t : List ℕ). get_or t 0 0) e in omega arith)

-- two neighbouring marks as one piece
pub marks-as-one : (f : List ℕ → List ℕ) → f (m ∷ m ∷ a ∷ []) ≡ 2 ∷ 3 ∷ [] → ¬ Demand2 (cutter (CutsAt (counted_at f))) (m ∷ m ∷ a ∷ [])
unfolding separated_icfl_ends
marks-as-one f x = other-ends f (m ∷ m ∷ a ∷ []) (omega arith) (omega arith)
    (λ e. let z : ◌≡◌ {A = ℕ} 2 1 = ap (λ (t : List ℕ). get_or t 0 0) (sym x ∙ e) in omega arith)

-- the test's refusal passed up: 9 for a record that holds a mark
pub cut-refused-by-9 : ¬ Demand1 record_door (cutter (Answering
    (λ w work entries. gives (length (separated_icfl_ends w))
    unless record_door.door w ++ work_line work (3 * length w) ∷ mark_line w ∷ [] then refuses)
    (λ w pairs. pairs)))
unfolding tried separated_icfl_ends has_mark
cut-refused-by-9 d = not-both refl (d.piece_cut (m ∷ []) (replicate 3 0) (0 ∷ 0 ∷ []) _ _ (refuses 9) (refl, refl, refl)).0.first

-- ---- tests, by the lines that they try

abbrev Trying : (List ℕ → ℕ → List Line) → Test
Trying lines w work r work' = (r ≡ gives (verdict_of w) unless lines w (length work) then refuses) × (work' ≡ work)

-- one that answers for a record with a mark
pub test-without-9 : ¬ Demand1 record_door (tester (Trying (λ w entries. record_door.door w ++ work_line entries (length w) ∷ [])))
unfolding tried verdict_of is_inverse_lyndon has_mark
test-without-9 d = not-both refl (sym (d.test (m ∷ []) (0 ∷ []) (0 ∷ []) (gives None) (refl, refl)).0.first)

-- one that looks for marks before it looks at its work buffer: 9 where 3 is due
pub nine-before-three : ¬ Demand1 record_door (tester (Trying (λ w entries. record_door.door w ++ mark_line w ∷ work_line entries (length w) ∷ [])))
unfolding tried has_mark
nine-before-three d =
    let e : Refused 9 ≡ Refused 3 = (d.test (m ∷ []) [] [] (refuses 9) (refl, refl)).0.first in
    let z : ◌≡◌ {A = ℕ} 9 3 = cc in
    omega arith

-- ---- "The comparison treats 255 as before."

-- one that refuses a record with a mark
pub comparison-refused-by-9 : ¬ Demand1 record_door (comparer (λ w first end start other r.
    r ≡ gives (order_of w first end start other)
    unless record_door.door w ++ compare_lines (length w) first end start other ++ mark_line w ∷ [] then refuses))
unfolding tried has_mark
comparison-refused-by-9 d = not-both refl (d.comparison (m ∷ []) 0 1 0 0 (refuses 9) refl).first

-- one that stops at a mark: the second start of `ff ff` shares a letter with the first
unfoldable pub until_mark : List ℕ → List ℕ
until_mark [] = []
until_mark (x ∷ w) = elim (eqb x separator) [ true ↦ [] | false ↦ x ∷ until_mark w ]

pub stops-at-mark : ¬ Demands record_door (comparer (Compares (λ w first end start other.
    gives (sign w first end start other, common_length_of (until_mark (remainder w first end start)) (until_mark (remainder w first end other))))))
unfolding tried sign common_length_of until_mark
stops-at-mark d =
    let w : List ℕ = m ∷ m ∷ [] in
    let h = third_of _ d w (omega arith) (omega arith) (one_byte m (m ∷ []) (omega arith) (one_byte m [] (omega arith) no_byte)) in
    let told = common-within-is w 0 2 0 1 (omega arith) (omega arith) (omega arith) (omega arith) (omega arith) in
    let z : ◌≡◌ {A = ℕ} 0 1 = shared-unique (h.2.shared 0 2 0 1 first_two) told in
    omega arith

-- ---- "The promise about two starting minutes covers stretches without marks": over the two marks of `ff ff 61` it fails

pub over-marks : (calls : Calls) → Meets record_door.door calls → (compare : ℕ → ℕ → ℕ → ℕ → Says (ℤ × ℕ))
    → ((first end start other : ℕ) → calls.Comparing (m ∷ m ∷ a ∷ []) first end start other (compare first end start other))
    → ¬ Compatible (WholePieces (separated_icfl_ends (m ∷ m ∷ a ∷ []))) 3 (λ first end start other. sign_said (compare first end start other))
unfolding tried sign separated_icfl_ends
over-marks calls meets compare h same =
    let over-2 : sign_said (compare 0 2 0 1) ≡ pos 1 = ap sign_said (meets.comparison _ 0 2 0 1 _ (h 0 2 0 1)).answer in
    let over-3 : sign_said (compare 0 3 0 1) ≡ negsuc 0 = ap sign_said (meets.comparison _ 0 3 0 1 _ (h 0 3 0 1)).answer in
    let e : sign_said (compare 0 2 0 1) ≡ sign_said (compare 0 3 0 1) = same 0 2 0 1 (Memᴰ.head refl, Memᴰ.tail (Memᴰ.head refl))
    (omega arith) (omega arith) (omega arith) (omega arith) (λ z. omega arith) in
    let z : ◌≡◌ {A = ℕ} 1 0 = ap above_zero (sym over-2 ∙ (e ∙ over-3)) in
    omega arith
