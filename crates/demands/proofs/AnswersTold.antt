-- What an answer is and what a lent buffer holds, by what the answer says (answer-is, work-is); and what says a refusal (says-refused). For demands-suffice.
use Rattle.std.specs.Prelude.{◌≡◌, refl, Bool, true, false, List, ℕ, zero, suc, ℤ}
use Rattle.std.proofs.Common.{ap, sym, ◌∙◌, take-append-drop, ne_eqb}
use Rattle.std.proofs.Math.Decide.{ℕ_discrete}
use Rattle.buffers.specs.Buffers.{cleared}
use Rattle.checks.specs.Lines.{decided, Checked, Passed, Refused}
use Rattle.checks.specs.Answers.{checked_number, numbered, Says, gives, refuses, checked}
use Rattle.checks.proofs.LineLaws.{not-both}
use Rattle.icfl.specs.Icfl.{work_after}
use Rattle.compare.specs.Compare.{sign_said, common_said}
use Rattle.demands.specs.Demand1.{UntouchedBut4}

-- ---- the answer says what the lines say, k

module _ (k : Checked) {said : Checked} (e : said ≡ k) where
  -- an answer, or a buffer
  pub answer-is : {A : Type 0} (r result : A) (refusal : ℕ → A) → ((number : ℕ) → said ≡ Refused number → r ≡ refusal number) → (said ≡ Passed → r ≡ result)
      → r ≡ decided k result refusal
  answer-is r result refusal refused passed = go k e
    where
      go : (k : Checked) → said ≡ k → r ≡ decided k result refusal
      go Passed e = passed e
      go (Refused number) e = refused number e

  -- the work buffer of a piece cut
  pub work-is : (n : ℕ) (work : List ℕ) {work' : List ℕ} → UntouchedBut4 n said work work' → (said ≡ Passed → work' ≡ cleared n work)
      → work' ≡ decided k (cleared n work) (work_after n work)
  work-is n work {work'} kept passed = go k e
    where
      by_4 : (number : ℕ) → said ≡ Refused number → Dec (number ≡ 4) → work' ≡ work_after n work number
      by_4 number e (yes z) =
          let at-4 : said ≡ Refused 4 = e ∙ ap (λ (t : ℕ). Refused t) z in
          rw z (sym (take-append-drop n work') ∙ rw (kept.zeros at-4, kept.later at-4) refl)
      by_4 number e (no z) = kept.kept number e z ∙ sym (ap (λ (t : Bool). elim t [ true ↦ cleared n work | false ↦ work ]) (ne_eqb number 4 z))

      go : (k : Checked) → said ≡ k → work' ≡ decided k (cleared n work) (work_after n work)
      go Passed e = passed e
      go (Refused number) e = by_4 number e (ℕ_discrete number 4)

pub number-back : (n : ℕ) → checked_number (numbered n) ≡ n
number-back zero = refl
number-back (suc n) = refl

-- what says a refusal
pub says-refused : {A : Type 0} (s : Says A) (number : ℕ) → checked s ≡ Refused number → s ≡ refuses number
says-refused (gives values) number e = absurd (not-both e refl)
says-refused (refuses m) number e = ap (λ (t : Checked). refuses (checked_number t)) e

pub comparison-given : (r : Says (ℤ × ℕ)) → checked r ≡ Passed → r ≡ gives (sign_said r, common_said r)
comparison-given (gives (s, n)) e = refl
comparison-given (refuses m) e = absurd (not-both refl e)
