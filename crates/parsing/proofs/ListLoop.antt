-- The loop over the numbers of a list, over plain lists (Listing). What is left is read with some bound (fuel) that is above what can be left, so nothing has
-- to be said about two bounds.
use mathlib.Core.Path.{◌≡◌, refl, ap, sym, ◌∙◌}
use mathlib.Core.List.{List, [], ◌∷◌, ◌++◌, append_assoc, append-nil}
use Prim.Native.Nat.{ℕ, zero, suc, ◌+◌, ◌-◌, ◌≤◌, ◌<◌}
use native.Mathlib.Nat.{le_refl}
use native.Mathlib.Numerals.{add-one}
use native.Mathlib.Omega.{arith}
use lib.ListN.{length, drop, get_or, length-drop, length-append, drop_of_length-le}
use lib.Seq.{drop-cons}
use Rattle.text.specs.Reading.{Read, nothing, found, follow, number, each_within, numbers_by}
use Rattle.text.proofs.ReaderKinds.{follow-here}
use Rattle.text.proofs.ListReaders.{NoByte, each-end, each_more, list-is}
use Rattle.parsing.specs.Parsing.{NumberAt, ListAt}
use Rattle.parsing.specs.declared.Number.{Number}

-- count numbers are read, and what is left, before it one byte and then the other, says the rest
pub record Listing (s u : ℕ) (t : List ℕ) (at count end before next : ℕ) : Type 0 where
  pub after : at < end
  pub inside : end ≤ length t
  pub few : count ≤ end
  pub values : List ℕ
  pub size : count ≡ length values
  pub fuel : ℕ
  pub enough : length t - end < fuel
  pub left : numbers_by s u (drop at t) ≡ follow (each_within fuel before next (drop end t)) (λ vs z. found (values ++ vs) z)

module _ (s u : ℕ) (t : List ℕ) (at : ℕ) where
  pub list-none : number (drop at t) ≡ nothing → numbers_by s u (drop at t) ≡ nothing
  list-none e = list-is s u (drop at t) ∙ rw e

  pub list-begin : {n : Number} → NumberAt t at n → Listing s u t at 1 n.end s u
  list-begin {n} r = record {
    after = r.after;
    inside = r.inside;
    few = omega (arith, r.after);
    values = n.value ∷ [];
    size = refl;
    fuel = suc (length (drop n.end t));
    enough = rw (length-drop n.end t) (le_refl _);
    left = list-is s u (drop at t) ∙ follow-here (λ n y. follow (each_within (suc (length y)) s u y) (λ vs z. found (n ∷ vs) z)) r.is;
  }

module _ {s u : ℕ} {t : List ℕ} {at count end before next : ℕ} (g : Listing s u t at count end before next) where
  positive : (k : ℕ) × (g.fuel ≡ suc k)
  positive = go g.fuel g.enough
    where
      go : (f : ℕ) → length t - end < f → (k : ℕ) × (f ≡ suc k)
      go zero l = absurd (omega arith)
      go (suc k) l = (k, refl)

  stop : NoByte before (drop end t) → ListAt s u t at (record { count = count; end = end })
  stop c =
      let at-end : each_within g.fuel before next (drop end t) ≡ found [] (drop end t)
      = ap (λ (f : ℕ). each_within f before next (drop end t)) positive.1 ∙ each-end before next positive.0 (drop end t) c in
      record {
        values = g.values;
        is = g.left ∙ follow-here (λ vs z. found (g.values ++ vs) z) at-end ∙ ap (λ (vs : List ℕ). found vs (drop end t)) (append-nil g.values);
        count = g.size;
        after = g.after;
        inside = g.inside;
      }

  pub list_done : length t ≤ end → ListAt s u t at (record { count = count; end = end })
  list_done l = stop (rw (drop_of_length-le t {i = end} l) tt)

  module _ (l : end < length t) where
    pub list-stop : ¬ (get_or t end 0 ≡ before) → ListAt s u t at (record { count = count; end = end })
    list-stop c = stop (rw (drop-cons t end 0 l) c)

    module _ (c : get_or t end 0 ≡ before) where
      -- one number more, then what is left with the bytes in the other turn
      abbrev on : ℕ → List ℕ → Read (List ℕ)
      on n y = follow (each_within positive.0 next before y) (λ vs z. found (n ∷ vs) z)

      step : numbers_by s u (drop at t) ≡ follow (follow (number (drop (end + 1) t)) on) (λ vs z. found (g.values ++ vs) z)
      step =
          g.left
          ∙ ap (λ (q : Read (List ℕ)). follow q (λ vs z. found (g.values ++ vs) z))
          (ap (λ (f : ℕ). each_within f before next (drop end t)) positive.1
          ∙ ap (each_within (suc positive.0) before next) (drop-cons t end 0 l ∙ ap (λ (d : ℕ). d ∷ drop (suc end) t) c)
          ∙ each_more before next positive.0 (drop (suc end) t)
          ∙ ap (λ (i : ℕ). follow (number (drop i t)) on) (sym (add-one end)))

      pub list-broken : number (drop (end + 1) t) ≡ nothing → numbers_by s u (drop at t) ≡ nothing
      list-broken e = rw e at step

      pub list_on : {n : Number} → NumberAt t (end + 1) n → Listing s u t at (count + 1) n.end next before
      list_on {n} r = record {
        after = omega (arith, g.after, r.after);
        inside = r.inside;
        few = omega (arith, g.few, r.after);
        values = g.values ++ n.value ∷ [];
        size = rw length-append (omega (arith, g.size));
        fuel = positive.0;
        enough = omega (arith, g.enough, positive.1, r.after, r.inside);
        left = (rw r.is at step) ∙ more (each_within positive.0 next before (drop n.end t));
      }
        where
          more : (q : Read (List ℕ))
              → follow (follow q (λ vs z. found (n.value ∷ vs) z)) (λ vs z. found (g.values ++ vs) z)
              ≡ follow q (λ vs z. found ((g.values ++ n.value ∷ []) ++ vs) z)
          more nothing = refl
          more (found vs z) = ap (λ (us : List ℕ). found us z) (sym (append_assoc g.values (n.value ∷ []) vs))
