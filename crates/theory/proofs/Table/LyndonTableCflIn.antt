-- THEOREM lyndon-table-cfl-in. The entry at i is the length of the first factor of the strict cut of the suffix at i. Also the length
-- and the entries of the table.
use Rattle.std.specs.Prelude.{◌≡◌, List, ℕ, ◌<◌, length, take, drop, get_or}
use Rattle.std.proofs.Common.{sym, ◌∙◌, arith, length-drop, length-take-le}
use Rattle.words.specs.Factorizations.{longest_anti_lyndon, cfl_in, lyndon_table}
use Rattle.theory.specs.Lyndon.AntiLyndonLaws.{longest-is}
use Rattle.theory.proofs.CflIn.CflInUnfold.{cfl-in-step}
use Rattle.theory.specs.Table.LyndonTableCflIn.{first_length, lyndon-table-at}

pub lyndon-table-cfl-in : (w : List ℕ) (i : ℕ) → i < length w → get_or (lyndon_table w) i 0 ≡ first_length (cfl_in (drop i w))
lyndon-table-cfl-in w i l =
    let n : ℕ = longest_anti_lyndon (drop i w) in
    let size : length (take n (drop i w)) ≡ n = length-take-le n (drop i w) (longest-is (drop i w)).upto in
    lyndon-table-at w i l ∙ rw (cfl-in-step (drop i w) (rw length-drop (omega arith))) (sym size)
