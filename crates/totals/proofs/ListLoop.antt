-- A list in a text beside a list of numbers, one after another.
use mathlib.Core.Path.{◌≡◌, ap, sym, ◌∙◌}
use mathlib.Core.Bool.{Bool, true, false, not}
use borrow.Author.Tests.{eq-eqb, ne_eqb}
use native.Mathlib.Decide.{ℕ_discrete}
use mathlib.Core.Logic.{◌↔◌}
use mathlib.Core.List.{List, ◌∷◌}
use Prim.Native.Nat.{ℕ, ◌+◌, ◌≤◌, ◌<◌}
use Rattle.std.specs.Prelude.{Option, Some, None, nat_eq}
use Rattle.std.specs.Option.{is_some, option_eq}
use native.Mathlib.Numerals.{add-one}
use native.Mathlib.Omega.{arith}
use lib.ListN.{length, drop, get_or, drop_of_length-le}
use lib.Seq.{drop-cons}
use Rattle.theory.specs.Orders.Decisions.{holds, fails}
use Rattle.parsing.specs.Parsing.{Left, ItemGiven}
use Rattle.parsing.specs.declared.Items.{Items}
use Rattle.parsing.proofs.ItemLaws.{left-next, left-none}
use Rattle.totals.specs.Totals.{ListDecided}

pub record Beside (t vs ns : List ℕ) (i : ℕ) (place : Option ℕ) : Type 0 where
  pub rest : List ℕ
  pub left : Left 44 44 t place rest
  pub same : (vs ≡ ns) ↔ (rest ≡ drop i ns)

-- the numbers are what `all` gives, and those of `left` stand beside those of ns from i on
pub record Compares (all left : Items) (ns : List ℕ) (i : ℕ) : Type 0 where
  pub text : left.text.now ≡ all.text.now
  pub inside : i ≤ length ns
  pub beside : (vs : List ℕ) → Left 44 44 all.text.now all.next vs → Beside all.text.now vs ns i left.next

module _ {all left : Items} {ns : List ℕ} {i : ℕ} (g : Compares all left ns i) where
  abbrev pub Decided : Bool → Type 0
  Decided b = ListDecided all.text.now all.next ns b

  refuse : ((rest : List ℕ) → Left 44 44 all.text.now left.next rest → ¬ (rest ≡ drop i ns)) → Decided false
  refuse never vs f = let a = g.beside vs f in fails (λ e. never a.rest a.left (a.same.0 e))

  module _ {after : Items} (l : i < length ns) where
    pub list-other : (r : Option ℕ) → ItemGiven left r after → true ≡ not (option_eq nat_eq r (Some (get_or ns i 0))) → Decided false
    list-other None m q = refuse (λ rest f e.
        let z = left-none {i = left} {j = after} g.text f m in omega (arith, ap length (sym z ∙ e ∙ drop-cons ns i 0 l)))
    list-other (Some v) m q = refuse (λ rest f e. other (head (sym (left-next {i = left} {j = after} g.text f m).1.0 ∙ e ∙ drop-cons ns i 0 l)))
      where
        head : {u v : ℕ} {us ws : List ℕ} → u ∷ us ≡ v ∷ ws → u ≡ v
        head e = let z = e in cc

        other : ¬ (v ≡ get_or ns i 0)
        other e = let z : true ≡ false = rw (eq-eqb v (get_or ns i 0) e) at q in cc

    pub list-on : (r : Option ℕ) → ItemGiven left r after → false ≡ not (option_eq nat_eq r (Some (get_or ns i 0))) → Compares all after ns (i + 1)
    list-on None m q = absurd (cc)
    list-on (Some v) m q = record { text = m.text ∙ g.text; inside = omega arith; beside = on }
      where
        same-value : Dec (v ≡ get_or ns i 0) → v ≡ get_or ns i 0
        same-value (yes e) = e
        same-value (no n) = let z : false ≡ true = rw (ne_eqb v (get_or ns i 0) n) at q in absurd (cc)

        tail : {u v : ℕ} {us ws : List ℕ} → u ∷ us ≡ v ∷ ws → us ≡ ws
        tail e = let z = e in cc

        on : (vs : List ℕ) → Left 44 44 all.text.now all.next vs → Beside all.text.now vs ns (i + 1) after.next
        on vs f =
            let a = g.beside vs f in
            let x = left-next {i = left} {j = after} g.text a.left m in
            let first = same-value (ℕ_discrete v (get_or ns i 0)) in
            rw (add-one i) (record {
              rest = x.0;
              left = x.1.1;
              same = (
                λ e. tail (sym x.1.0 ∙ a.same.0 e ∙ drop-cons ns i 0 l),
                λ e. a.same.1 (x.1.0 ∙ ap (λ (u : ℕ). u ∷ x.0) first ∙ ap (λ (us : List ℕ). get_or ns i 0 ∷ us) e ∙ sym (drop-cons ns i 0 l)),
              );
            })

  module _ {after : Items} (l : length ns ≤ i) where
    pub list-done : (r : Option ℕ) (b : Bool) → ItemGiven left r after → is_some r ≡ not b → Decided b
    list-done None false m q vs f = absurd (cc)
    list-done None true m q vs f =
        let a = g.beside vs f in
        holds (a.same.1 (left-none {i = left} {j = after} g.text a.left m ∙ sym (drop_of_length-le ns {i = i} l)))
    list-done (Some v) true m q vs f = absurd (cc)
    list-done (Some v) false m q vs f =
        refuse (λ rest p e.
        let x = left-next {i = left} {j = after} g.text p m in omega (arith, ap length (sym x.1.0 ∙ e ∙ drop_of_length-le ns {i = i} l)))
        vs f
