-- The loop over the strict ends in a text, over plain lists: those that are left must be the ends of the factors that are left.
use mathlib.Core.Path.{◌≡◌, refl, ap, sym, ◌∙◌}
use mathlib.Core.Bool.{Bool, true, false, not, true≢false}
use mathlib.Core.Logic.{◌↔◌}
use mathlib.Core.List.{List, [], ◌∷◌}
use Prim.Native.Nat.{ℕ}
use native.Mathlib.Omega.{arith}
use borrow.Author.Tests.{eqb-true, eqb-false, not-true, not-false}
use lib.Dec.{eqb}
use lib.ListN.{length}
use Rattle.std.specs.Prelude.{Option, Some, None, MatchOption}
use Rattle.std.specs.Option.{is_some, option_eq}
use Rattle.words.specs.Separated.{separated_cfl_in_ends}
use Rattle.theory.specs.Orders.Decisions.{holds, fails}
use Rattle.parsing.specs.Parsing.{Left, ItemGiven}
use Rattle.parsing.specs.declared.Items.{Items}
use Rattle.parsing.proofs.ItemLaws.{left-next, left-none}
use Rattle.matching.specs.Matching.{StrictDecided}

-- what is left of a list in the text, beside what is left of the factors' ends
pub record Beside (w t es left : List ℕ) (place : Option ℕ) : Type 0 where
  pub rest : List ℕ
  pub there : Left 44 44 t place rest
  pub same : (es ≡ separated_cfl_in_ends w) ↔ (rest ≡ left)

-- the next factor's end, if there is one, before the others
abbrev Taken : Option ℕ → List ℕ → List ℕ → Type 0
Taken q left left' = MatchOption q ((left ≡ []) × (left' ≡ [])) (λ end. left ≡ end ∷ left')

-- the ends are what `all` gives, and those of `rest` are left
pub record Walk (w : List ℕ) (all rest : Items) (left : List ℕ) : Type 0 where
  pub text : rest.text.now ≡ all.text.now
  pub beside : (es : List ℕ) → Left 44 44 all.text.now all.next es → Beside w all.text.now es left rest.next

pub walk-begin : (w : List ℕ) (all : Items) {left : List ℕ} → left ≡ separated_cfl_in_ends w → Walk w all all left
walk-begin w all n = record { text = refl; beside = λ es f. record { rest = es; there = f; same = (λ e. e ∙ sym n, λ e. e ∙ n) } }

module _ {w : List ℕ} {all rest : Items} {left : List ℕ} (g : Walk w all rest left) where
  abbrev pub Decided : Bool → Type 0
  Decided b = StrictDecided w all.text.now all.next b

  refuse : ((vs : List ℕ) → Left 44 44 all.text.now rest.next vs → ¬ (vs ≡ left)) → Decided false
  refuse never es f = let c = g.beside es f in fails (λ e. never c.rest c.there (c.same.0 e))

  -- the text gives v, held against the next factor's end if there is one
  module _ {after : Items} {v n : ℕ} (i : ItemGiven rest (Some v) after) (m : n ≡ v) where
    next : {us : List ℕ} → Left 44 44 all.text.now rest.next us → (vs : List ℕ) × ((us ≡ v ∷ vs) × Left 44 44 all.text.now after.next vs)
    next f = left-next {i = rest} {j = after} g.text f i

    pub other-end : (left' : List ℕ) (q : Option ℕ) → Taken q left left' → true ≡ not (option_eq eqb q (Some n)) → Decided false
    other-end left' None t e = refuse (λ us f z. omega (arith, ap length (sym (next f).1.0 ∙ z ∙ t.0)))
    other-end left' (Some end) t e =
        refuse (λ us f z. eqb-false end n (not-true _ (sym e)) (sym (head (sym (next f).1.0 ∙ z ∙ t)) ∙ sym m))
      where
        head : {u v : ℕ} {us vs : List ℕ} → u ∷ us ≡ v ∷ vs → u ≡ v
        head e = let z = e in cc

    pub walk-on : (left' : List ℕ) (q : Option ℕ) → Taken q left left' → false ≡ not (option_eq eqb q (Some n)) → Walk w all after left'
    walk-on left' None t e = absurd (true≢false (sym e))
    walk-on left' (Some end) t e = record { text = i.text ∙ g.text; beside = on }
      where
        tail : {u v : ℕ} {us vs : List ℕ} → u ∷ us ≡ v ∷ vs → us ≡ vs
        tail e = let z = e in cc

        right : v ≡ end
        right = sym (eqb-true end n (not-false _ (sym e)) ∙ m)

        on : (es : List ℕ) → Left 44 44 all.text.now all.next es → Beside w all.text.now es left' after.next
        on es f =
            let c = g.beside es f in
            let x = next c.there in
            record {
              rest = x.0;
              there = x.1.1;
              same = (
                λ z. tail (sym x.1.0 ∙ c.same.0 z ∙ t),
                λ z. c.same.1 (x.1.0 ∙ ap (λ (u : ℕ). u ∷ x.0) right ∙ ap (λ (us : List ℕ). end ∷ us) z ∙ sym t),
              );
            }

  -- at the text's end the list is right just where no factor is left
  module _ {after : Items} (i : ItemGiven rest None after) where
    none : {us : List ℕ} → Left 44 44 all.text.now rest.next us → us ≡ []
    none f = left-none {i = rest} {j = after} g.text f i

    pub walk-done : (left' : List ℕ) (q : Option ℕ) {b : Bool} → Taken q left left' → is_some q ≡ not b → Decided b
    walk-done left' None {b = true} t n = λ es f. let c = g.beside es f in holds (c.same.1 (none c.there ∙ sym t.0))
    walk-done left' None {b = false} t n = absurd (true≢false (sym n))
    walk-done left' (Some end) {b = true} t n = absurd (true≢false n)
    walk-done left' (Some end) {b = false} t n = refuse (λ us f z. omega (arith, ap length (sym (none f) ∙ z ∙ t)))
