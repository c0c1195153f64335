-- The comparison of calls that meet the demands, for a record of bytes: a result is the right one (comparison-told). For every answer there is a comparison
-- that gives it, and of that one demand 3 speaks.
use Rattle.std.specs.Prelude.{◌≡◌, refl, List, ℕ, length, ℤ}
use Rattle.std.proofs.Common.{sym, ◌∙◌}
use Rattle.std.proofs.Math.Decide.{ℕ_discrete}
use Rattle.words.specs.Separated.{UpToSeparator}
use Rattle.theory.specs.Orders.SignLaws.{sign-is, sign-only}
use Rattle.theory.specs.Orders.CommonWithin.{common-within-is, shared-unique}
use Rattle.checks.specs.Lines.{Passed}
use Rattle.checks.specs.Answers.{gives, checked, Says}
use Rattle.checks.proofs.LineLaws.{both-passed}
use Rattle.compare.specs.Compare.{compare_lines, order_of}
use Rattle.compare.proofs.ComparisonLaws.{within}
use Rattle.demands.specs.Calls.{Calls}
use Rattle.demands.specs.Demand1.{Doorway}
use Rattle.demands.specs.Demand3.{Inside}
use Rattle.demands.specs.Demands.{Demands}
use Rattle.demands.specs.Meets.{Sound}
use Rattle.demands.proofs.AnswersTold.{comparison-given}

module _ (d : Doorway) (s : Sound d) (c : Calls) (all : Demands d c) (w : List ℕ) (first end start other : ℕ) (r : Says (ℤ × ℕ))
    (h : c.Comparing w first end start other r) where
  abbrev Chosen : (f e s o : ℕ) → Type 0
  Chosen f e s o = (a : Says (ℤ × ℕ)) × c.Comparing w f e s o a × (f ≡ first → e ≡ end → s ≡ start → o ≡ other → a ≡ r)

  choose : (f e s o : ℕ) → Chosen f e s o
  choose f e s o = go (ℕ_discrete f first) (ℕ_discrete e end) (ℕ_discrete s start) (ℕ_discrete o other)
    where
      others : ¬ ((f ≡ first) × (e ≡ end) × (s ≡ start) × (o ≡ other)) → Chosen f e s o
      others n = let a = all.first.answered.comparison w f e s o in (a.0, a.1, λ x y z v. absurd (n (x, y, z, v)))

      go : Dec (f ≡ first) → Dec (e ≡ end) → Dec (s ≡ start) → Dec (o ≡ other) → Chosen f e s o
      go (yes x) (yes y) (yes z) (yes v) = (r, rw (x, y, z, v) h, λ a b c d. refl)
      go (yes x) (yes y) (yes z) (no v) = others (λ t. v t.3)
      go (yes x) (yes y) (no z) d = others (λ t. z t.2)
      go (yes x) (no y) c d = others (λ t. y t.1)
      go (no x) b c d = others (λ t. x t.0)

  pub comparison-told : UpToSeparator w → checked r ≡ Passed → r ≡ gives (order_of w first end start other)
  comparison-told up p =
      let lines = compare_lines (length w) first end start other in
      let passed = both-passed (d.door w) lines (sym (all.first.comparison w first end start other r h).first ∙ p) in
      let x = within w first end start other passed.1 in
      let given = all.given w (s.accepts w passed.0).nonempty (s.few w passed.0) up in
      let third = all.third w given.0 given.1 (λ f e s o. (choose f e s o).0) (record {
        nonempty = given.3.nonempty;
        short = given.3.short;
        bytes = up;
        piece_cut = given.3.piece_cut;
        strict_cut = given.3.strict_cut;
        comparison = λ f e s o. (choose f e s o).1;
      }) in
      let inside : Inside (length w) first end start other = record {
        range = x.inside;
        start-from = x.start-from;
        start-below = x.start-below;
        other_from = x.other_from;
        other-below = x.other-below;
      } in
      let point = (choose first end start other).2 refl refl refl refl in
      let signed = sign-only (rw point at (third.signed first end start other inside)) (sign-is w first end start other) in
      let shared = shared-unique (rw point at (third.shared first end start other inside))
      (common-within-is w first end start other x.inside x.start-from x.start-below x.other_from x.other-below) in
      comparison-given r p ∙ rw (signed, shared) refl
