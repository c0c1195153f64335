-- THEOREMS about calls that are careless of pairs (request 108): the demand that shuts each of them out.
use Rattle.std.specs.Prelude.{◌≡◌, refl, not, List, [], ◌∷◌, ◌++◌, ℕ, ◌*◌, length, get_or, replicate, eqb}
use Rattle.std.proofs.Common.{ap, sym, ◌∙◌, arith}
use Rattle.std.proofs.Math.Seq.{slice}
use Rattle.words.specs.Separated.{separated_icfl_ends, separated_cfl_in_ends}
use Rattle.words.specs.Pairs.{ends_inside, separated_pairs, ends_of}
use Rattle.words.specs.Examples.{a, b}
use Rattle.conditions.specs.Conditions.{are_faulty_ends}
use Rattle.pairs.specs.PairedList.{are_faulty_pairs, factor_begin}
use Rattle.checks.specs.Lines.{Line, ◌when◌, tried, ◌unless◌then◌, work_line, result_line, number_line}
use Rattle.checks.specs.Answers.{checked_number, gives, refuses}
use Rattle.checks.proofs.LineLaws.{not-both}
use Rattle.summary.specs.Summary.{summary_lines, summary_of}
use Rattle.numbers.specs.Numbers.{empty_reply, summary_reply}
use Rattle.demands.specs.Demand1.{record_door, Demand1}
use Rattle.demands.specs.Demand2.{Demand2}
use Rattle.demands.specs.OneCall.{Reader, Summing, cutter, reader, summer}
use Rattle.demands.proofs.Careless.{CutsAt, other-pairs, Answering}
use Rattle.demands.proofs.CarelessMarks.{m}

-- ---- piece cuts

-- "the number of strict pieces inside": one that gives the number in the record so far
unfoldable pub so_far : List ℕ → List ℕ → List ℕ
unfolding ends_inside
so_far [] ss = []
so_far (e ∷ es) ss = e ∷ ends_inside 0 e ss ∷ so_far es ss

pub counts-so-far : ¬ Demand2 (cutter (CutsAt (λ w. so_far (separated_icfl_ends w) (separated_cfl_in_ends w)))) (a ∷ b ∷ [])
unfolding so_far separated_icfl_ends separated_cfl_in_ends separated_pairs ends_of
counts-so-far = other-pairs (λ w. so_far (separated_icfl_ends w) (separated_cfl_in_ends w)) (a ∷ b ∷ []) (omega arith) (omega arith) refl
    (λ e. let z : ◌≡◌ {A = ℕ} 2 1 = ap (λ (t : List ℕ). get_or t 3 0) e in omega arith)

-- one that gives two for a mark
pub two-at-mark : (f : List ℕ → List ℕ) → f (m ∷ []) ≡ 1 ∷ 2 ∷ [] → ¬ Demand2 (cutter (CutsAt f)) (m ∷ [])
unfolding separated_pairs ends_of
two-at-mark f x = other-pairs f (m ∷ []) (omega arith) (omega arith) (rw x refl)
    (λ e. let z : ◌≡◌ {A = ℕ} 2 1 = ap (λ (t : List ℕ). get_or t 1 0) (sym x ∙ e) in omega arith)

-- "Refusal 4 counts both numbers": one that refuses only where there is no room for the ends
pub room-for-ends : ¬ Demand1 record_door (cutter (Answering
    (λ w work entries. gives (length (separated_icfl_ends w))
    unless record_door.door w ++ work_line work (3 * length w) ∷ result_line entries (length (separated_icfl_ends w)) ∷ [] then refuses)
    (λ w pairs. pairs)))
unfolding tried separated_icfl_ends
room-for-ends d = not-both refl (sym (d.piece_cut (a ∷ []) (replicate 3 0) (0 ∷ []) _ _ (gives 1) (refl, refl, refl)).0.first)

-- ---- readers and summaries that are right but for the lines that they try

abbrev Reads : (List ℕ → List ℕ → ℕ → List Line) → Reader
Reads lines w ps k part number =
    (number ≡ checked_number (tried (record_door.door w ++ lines w ps k)))
    × (part ≡ slice (factor_begin (ends_of ps) k) (get_or (ends_of ps) k 0) w unless record_door.door w ++ lines w ps k then (λ e. []))

abbrev Sums : (List ℕ → List ℕ → List Line) → Summing
Sums lines w ps r = r ≡ summary_reply (ends_of ps) unless record_door.door w ++ lines w ps then empty_reply

-- those that look at the ends alone
abbrev ends_lines : List ℕ → List ℕ → List Line
ends_lines w ps = (7 when are_faulty_ends (ends_of ps) (length w)) ∷ []

-- "an odd number of entries"
pub odd-list-read : ¬ Demand1 record_door (reader (Reads (λ w ps k. ends_lines w ps ++ number_line k (length (ends_of ps)) ∷ [])))
unfolding tried are_faulty_ends are_faulty_pairs ends_of
odd-list-read d = not-both refl (sym (d.reader (a ∷ []) (1 ∷ 1 ∷ 1 ∷ []) 0 (a ∷ []) 0 (refl, refl)).0.first)

-- "a count that is 0 or above its piece's length"
pub large-count-summed : ¬ Demand1 record_door (summer (Sums ends_lines))
unfolding tried are_faulty_ends are_faulty_pairs ends_of summary_of
large-count-summed d = not-both refl (sym (d.summary (a ∷ []) (1 ∷ 2 ∷ []) _ refl).0.first)

-- one that takes no counts but ours, where the request asks no more than that they fit: the list 2, 1 of `aa`, which has two strict pieces
pub strict-counts-only : ¬ Demand1 record_door (summer (Sums
    (λ w ps. summary_lines w ps ++ (7 when not (eqb (get_or ps 1 0) (ends_inside 0 (get_or ps 0 0) (separated_cfl_in_ends w)))) ∷ [])))
unfolding tried are_faulty_pairs ends_of summary_of ends_inside separated_cfl_in_ends
strict-counts-only d = not-both refl (d.summary (a ∷ a ∷ []) (2 ∷ 1 ∷ []) _ refl).0.first

-- 8 by entries: one that reads the second part of a list with one pair
pub numbered-by-entries : ¬ Demand1 record_door (reader (Reads (λ w ps k. summary_lines w ps ++ number_line k (length ps) ∷ [])))
unfolding tried are_faulty_pairs ends_of
numbered-by-entries d = not-both refl (sym (d.reader (a ∷ []) (1 ∷ 1 ∷ []) 1 [] 0 (refl, refl)).0.first)
